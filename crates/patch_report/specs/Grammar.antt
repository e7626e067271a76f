-- What a report that a text spells keeps. Theorems cite it.
use Rattle.std.specs.Prelude.{◌≡◌, ℕ, ◌+◌, ◌-◌, ◌%◌, ◌^◌, ◌==◌, ◌<◌, ◌≤◌, Bool, true, false, not, ◌&&◌, nat_le, nat_lt, List, [], ◌∷◌, ◌++◌, length, take, Option, Some, None}
use Rattle.std.specs.List.{AllByRecursion}
use Rattle.hex.specs.Hex.{IsBytes}
use Rattle.pun_base.specs.Actions.{IsAction}
use Rattle.pun_base.specs.declared.scheme.Scheme.{Scheme}
use Rattle.pun_base.specs.declared.scheme.Scheme.TheVariants.{B1, B2, T1, T2, T3}
use Rattle.pun_base.specs.Limits.{most_sites}
use Rattle.patch_report.specs.declared.origin.Origin.{Origin}
use Rattle.patch_report.specs.declared.origin.Version.{Version}
use Rattle.patch_report.specs.declared.origin.Version.TheVariants.{One, Two}
use Rattle.patch_report.specs.declared.line.Line.{Line}
use Rattle.patch_report.specs.declared.line.Line.TheVariants as line
use Rattle.patch_report.specs.declared.line.Mark.{Mark}
use Rattle.patch_report.specs.declared.line.Mark.TheVariants as mark
use Rattle.patch_report.specs.Values.{BodyValue, ReportValue, RowValue, PlanValue, OutcomeValue, patched, left, version_in}
use Rattle.patch_report.specs.Spelling.{body_lines, lines_text, mark_of, report_lines, report_text}

-- The address at which trampolines, the private range and pages end at the latest.
abbrev pub high_end : ℕ
high_end = 0x7FFF0000

-- The number of bytes of a field.
abbrev pub is_field : ℕ → Bool
is_field count = nat_le 1 count && nat_le count 16

-- The bounds of one line: whole pages below the high end, at most 65,536 sites, fields of 1 to 16
-- bytes, and as many bytes after as before.
abbrev pub line_holds : Line → Bool
line_holds (line.Version version) = true
line_holds (line.Origin o) = true
line_holds (line.Action action) = true
line_holds (line.Private lo hi) = (lo % 4096 == 0)
    && ((hi % 4096 == 0) && (nat_lt lo hi && nat_le hi high_end))
line_holds (line.Sites count) = nat_le count most_sites
line_holds (line.Site site number outcome) = true
line_holds (line.Tramp t) = nat_lt t.place high_end
line_holds (line.Write addr was now) = is_field (length was) && (length now == length was)
line_holds (line.Pun p) = is_field (length p.bytes)
line_holds (line.Page page group) = (page % 4096 == 0) && nat_lt page high_end
line_holds line.End = true

-- The length, `e_phoff` and `e_entry` of a file have 64 bits, `e_phnum` has sixteen.
pub record OriginFits (o : Origin) : Type 0 where
  pub len : o.len < 2 ^ 64
  pub phoff : o.phoff < 2 ^ 64
  pub phnum : o.phnum < 2 ^ 16
  pub entry : o.entry < 2 ^ 64

-- The action can be asked for, numbers and addresses have 32 bits, bytes have eight.
abbrev pub LineFits : Line → Type 0
LineFits (line.Version version) = Unit {0}
LineFits (line.Origin o) = OriginFits o
LineFits (line.Action action) = IsAction action
LineFits (line.Private lo hi) = lo < 2 ^ 32
LineFits (line.Sites count) = Unit {0}
LineFits (line.Site site number outcome) = (site < 2 ^ 32) × (number < 2 ^ 32)
LineFits (line.Tramp t) = (t.place < 2 ^ 32) × (t.start < 2 ^ 32)
LineFits (line.Write addr was now) = (addr < 2 ^ 32) × IsBytes was × IsBytes now
LineFits (line.Pun p) = (p.addr < 2 ^ 32) × IsBytes p.bytes
LineFits (line.Page page group) = (page < 2 ^ 32) × (group < 2 ^ 32)
LineFits line.End = Unit {0}

-- A line as it may stand in a report.
pub record IsLine (x : Line) : Type 0 where
  pub holds : line_holds x ≡ true
  pub fits : LineFits x

-- T2 and T3 have a second trampoline, for the victim.
abbrev pub tramp_count : Scheme → ℕ
tramp_count B1 = 1
tramp_count B2 = 1
tramp_count T1 = 1
tramp_count T2 = 2
tramp_count T3 = 2

-- A plan has the trampolines of its scheme, one to three writes, and at most three lines of punned bytes.
pub record PlanCounts (p : PlanValue) : Type 0 where
  pub tramps : length p.tramps ≡ tramp_count p.scheme
  pub least : 1 ≤ length p.writes
  pub writes : length p.writes ≤ 3
  pub puns : length p.puns ≤ 3

-- A version has a word for an outcome: the first has none for an instruction that shares bytes.
abbrev pub is_told : Mark → Version → Bool
is_told (mark.Patched scheme) version = true
is_told mark.NotRelocatable version = true
is_told mark.NoPlan version = true
is_told mark.Shared One = false
is_told mark.Shared Two = true

-- A patched site's plan has these numbers, and the version has a word for why another site is left.
abbrev pub OutcomeCounts : Version → OutcomeValue → Type 0
OutcomeCounts version (patched p) = PlanCounts p
OutcomeCounts version (left why) = is_told (mark_of (left why)) version ≡ true

-- The same of a row.
abbrev pub RowCounts : Version → RowValue → Type 0
RowCounts version r = OutcomeCounts version r.outcome

-- Numbers run down to 0: the row in front of n rows has the number n.
abbrev pub CountsDown : List RowValue → Type 0
CountsDown [] = Unit {0}
CountsDown (r ∷ rs) = (r.number ≡ length rs) × CountsDown rs

-- A site isn't the site of any of these rows.
abbrev pub is_new : ℕ → List RowValue → Bool
is_new site [] = true
is_new site (r ∷ rs) = not (site == r.site) && is_new site rs

-- Each row's site is none of those before it.
abbrev pub SitesApart : List RowValue → List RowValue → Type 0
SitesApart before [] = Unit {0}
SitesApart before (r ∷ rs) = (is_new r.site before ≡ true) × SitesApart (before ++ r ∷ []) rs

-- Each page is above the one before it, and none is below an address.
abbrev pub AscendFrom : ℕ → List (ℕ × ℕ) → Type 0
AscendFrom low [] = Unit {0}
AscendFrom low (p ∷ ps) = (low ≤ p.0) × AscendFrom (p.0 + 1) ps

-- What a report of a version tells of what was done.
pub record IsBody (version : Version) (b : BodyValue) : Type 0 where
  pub lines : AllByRecursion IsLine (body_lines b)
  pub plans : AllByRecursion (RowCounts version) b.rows
  pub numbers : CountsDown b.rows
  pub sites : SitesApart [] b.rows
  pub pages : AscendFrom 0 b.pages

-- The same of some version.
abbrev pub IsTold : BodyValue → Type 0
IsTold b = (version : Version) × IsBody version b

-- The origin, where it is told, has numbers that fit its fields.
abbrev pub IsOrigin : Option Origin → Type 0
IsOrigin None = Unit {0}
IsOrigin (Some origin) = OriginFits origin

-- A report that a text spells.
pub record IsReport (v : ReportValue) : Type 0 where
  pub origin : IsOrigin v.origin
  pub body : IsBody (version_in v.origin) v.body

-- The first n lines of a report, each with its LF, are the front of the text.
pub record AgreesTo (n : ℕ) (v : ReportValue) (text : List ℕ) : Type 0 where
  pub rest : List ℕ
  pub enough : n ≤ length (report_lines v)
  pub front : text ≡ lines_text (take n (report_lines v)) ++ rest

-- A text is no report's, and n is the least number so that no report agrees with it in its first
-- n lines.
pub record IsFirstRefused (n : ℕ) (text : List ℕ) : Type 0 where
  pub other : (v : ReportValue) → IsReport v → text ≡ report_text v → ⊥
  pub none : (v : ReportValue) → IsReport v → AgreesTo n v text → ⊥
  pub least : (v : ReportValue) × IsReport v × AgreesTo (n - 1) v text
