-- What the checker's values stand for, the spans in which it looks, and its tests. Contracts of private functions alone cite it.
use Rattle.std.specs.Prelude.{◌≡◌, ℕ, ◌+◌, ◌-◌, ◌*◌, ◌/◌, ◌^◌, ◌==◌, ◌<◌, ◌≤◌, max, min, Bool, not, ◌&&◌, ◌||◌, true, false, nat_le, nat_lt, if◌then◌else◌, List, [], ◌∷◌, ◌++◌, map, length, Option, Some, None, is_some}
use Rattle.std.specs.List.{list_any, count_by}
use Rattle.std.specs.List.Sorted.{IsPermutation, IsNonDecreasingBy}
use Rattle.pun_base.specs.Memory.{Cell}
use Rattle.pun_base.specs.declared.plan.Write.{Write}
use Rattle.elf_read.specs.declared.segment.Segment.{Segment}
use Rattle.elf_read.specs.Entries.{loads, segments}
use Rattle.patch_report.specs.Values.{BodyValue, RowValue, write_value}
use Rattle.start_entries.specs.declared.entry.StartEntry.{StartEntry}
use Rattle.start_entries.specs.SharedBytes.{has_byte}
use Rattle.start_entries.specs.Finding.{entry_at}
use Rattle.image_check.specs.declared.cells.LoadedByte.{LoadedByte}
use Rattle.image_check.specs.declared.flat.ReportLine.{ReportLine}
use Rattle.image_check.specs.declared.rule.Rule.{Rule}
use Rattle.image_check.specs.declared.rule.Rule.TheVariants as rule
use Rattle.image_check.specs.declared.verdict.Verdict.{Verdict}
use Rattle.image_check.specs.declared.verdict.Verdict.TheVariants.{Yes, No}
use Rattle.image_check.specs.declared.span.Span.{Span}
use Rattle.sound_images.specs.Reports.{Line, lines, runs, is_written, times_written, starts_line, in_private, on_page, private_len, tramps_of}
use Rattle.sound_images.specs.Rules.{Case, mistells, belongs, is_unexpected, is_own, is_below}
use Rattle.image_check.specs.Verdict.{FailsBy}

-- The cell of a loaded byte.
abbrev pub cell_of : LoadedByte → Cell
cell_of b = record { byte = b.byte; perms = b.perms }

-- The line that one of the checker's lines stands for.
abbrev pub line_of : ReportLine → Line
line_of l = record { number = l.number; tramp = l.tramp }

-- These are a report's trampolines, in turn order and by their starts, and its runs by their addresses.
pub record IsFlat (v : BodyValue) (ls started : List ReportLine) (ws : List Write) : Type 0 where
  pub lines_are : map line_of ls ≡ lines v
  pub started_are : IsPermutation ls started
  pub started_rise : IsNonDecreasingBy (λ l. l.tramp.start) started
  pub runs_are : IsPermutation (runs v) (map write_value ws)
  pub runs_rise : IsNonDecreasingBy (λ w. w.addr) ws

-- An address is in a span.
abbrev pub in_span : ℕ → Span → Bool
in_span x s = nat_le s.first x && nat_le x s.last

-- An address is in one of these spans.
abbrev pub in_spans : List Span → ℕ → Bool
in_spans ss x = list_any (in_span x) ss

-- The span of one address.
abbrev pub single_span : ℕ → Span
single_span a = record { first = a; last = a }

-- Spans with one more, unless what that one is for is known to hold.
abbrev pub unless : Bool → Span → List Span → List Span
unless true s ss = ss
unless false s ss = ss ++ (s ∷ [])

-- The bytes that the file has of a segment, and the address after them.
abbrev pub backed_span : Segment → Span
backed_span s = record { first = s.vaddr; last = min (s.vaddr + s.filesz) (2 ^ 64 - 1) }

-- The address after what is loaded of a segment.
abbrev pub end_span : Segment → Span
end_span s = single_span (min (s.vaddr + s.memsz) (2 ^ 64 - 1))

-- The spans outside of which what a file loads goes on from one address to the next: the bytes that
-- the file has, and the ends of segments.
abbrev pub file_spans : List ℕ → List Span
file_spans file = map backed_span (loads (segments file)) ++ map end_span (loads (segments file))

-- The addresses at which rule 1 can first fail.
abbrev pub byte_spans : List ℕ → List ℕ → List Span
byte_spans original patched = single_span 0 ∷ (file_spans original ++ file_spans patched)

-- Where a segment begins.
abbrev pub start_span : Segment → Span
start_span s = single_span s.vaddr

-- The bytes that the file has of a segment, from one address to another.
abbrev pub private_span : ℕ → ℕ → Segment → Span
private_span lo hi s = record { first = max s.vaddr lo; last = min (min (s.vaddr + s.filesz) (2 ^ 64 - 1)) hi }

-- The spans outside of which a file loads something or nothing as it does one address below, with
-- the same permissions: where segments begin and end.
abbrev pub edge_spans : List ℕ → List Span
edge_spans file = map start_span (loads (segments file)) ++ map end_span (loads (segments file))

-- The spans outside of which two files load something or nothing as they do one address below, with
-- the same permissions, and the second file in a range the same byte.
abbrev pub kind_spans : List ℕ → List ℕ → ℕ → ℕ → List Span
kind_spans original patched lo hi =
    single_span 0 ∷ ((edge_spans original ++ edge_spans patched) ++ map (private_span lo hi) (loads (segments patched)))

-- Where the first page of a segment begins.
abbrev pub first_page : Segment → Span
first_page s = single_span (s.vaddr / 4096 * 4096)

-- Where the last page of a segment ends.
abbrev pub last_page : Segment → Span
last_page s = single_span (min ((min (s.vaddr + (s.memsz - 1)) (2 ^ 64 - 1) / 4096 + 1) * 4096) (2 ^ 64 - 1))

-- Where the first and the last page of each segment of a file begin and end.
abbrev pub segment_pages : List ℕ → List Span
segment_pages file = map first_page (loads (segments file)) ++ map last_page (loads (segments file))

-- Where a page of a report begins.
abbrev pub page_first : ℕ × ℕ → Span
page_first p = single_span p.0

-- Where a page of a report ends.
abbrev pub page_last : ℕ × ℕ → Span
page_last p = single_span (p.0 + 4096)

-- Where each page of a report begins and ends.
abbrev pub report_pages : BodyValue → List Span
report_pages v = map page_first v.pages ++ map page_last v.pages

-- The ends of the table's range, where original addresses begin, and the ends of the private range.
abbrev pub fixed_spans : BodyValue → List Span
fixed_spans v =
    single_span 0x10000 ∷ single_span 0x1E000 ∷ single_span 0x20000 ∷ single_span v.private.0 ∷ single_span v.private.1 ∷ []

-- The addresses at which rule 5 can first fail.
abbrev pub range_spans : List ℕ → List ℕ → BodyValue → List Span
range_spans original patched v =
    kind_spans original patched v.private.0 v.private.1 ++ (fixed_spans v ++ (report_pages v ++ segment_pages original))

-- The addresses of a run, and the one after it.
abbrev pub run_span : Write → Span
run_span w = record { first = w.addr; last = w.addr + length w.was }

-- The span of an address, if there is one.
abbrev pub option_spans : Option ℕ → List Span
option_spans None = []
option_spans (Some a) = single_span a ∷ []

-- A rule fails at an address of a span.
abbrev pub FailsIn : Case → Rule → Span → ℕ → Type 0
FailsIn c r s x = (in_span x s ≡ true) × FailsBy c r x

-- A rule fails at an address of one of these spans.
abbrev pub FailsAmong : Case → Rule → List Span → ℕ → Type 0
FailsAmong c r ss x = (in_spans ss x ≡ true) × FailsBy c r x

-- Wherever a rule fails, it is in one of the spans.
abbrev pub Covers : Case → Rule → List Span → Type 0
Covers c r ss = (x : ℕ) → FailsBy c r x → in_spans ss x ≡ true

-- Wherever a rule fails, it fails there or below in one of the spans.
abbrev pub FindsFirst : Case → Rule → List Span → Type 0
FindsFirst c r ss = (x : ℕ) → FailsBy c r x → (y : ℕ) × (y ≤ x) × FailsAmong c r ss y

-- Some spans have each address of others.
abbrev pub HaveAll : List Span → List Span → Type 0
HaveAll more ss = (x : ℕ) → in_spans ss x ≡ true → in_spans more x ≡ true

-- The addresses of a span from one on, if there are any.
abbrev pub IsCut : Span → ℕ → Option Span → Type 0
IsCut s next None = s.last < next
IsCut s next (Some part) = (next ≤ s.last) × (part.first ≡ max s.first next) × (part.last ≡ s.last)

-- The lesser of two numbers, where there are any.
abbrev pub lesser_of : Option ℕ → Option ℕ → Option ℕ
lesser_of None other = other
lesser_of (Some x) None = Some x
lesser_of (Some x) (Some y) = if nat_lt y x then Some y else Some x

-- The number of a rule.
abbrev pub rule_number : Rule → ℕ
rule_number rule.Byte = 1
rule_number rule.Write = 2
rule_number rule.Entry = 3
rule_number rule.Code = 4
rule_number rule.Range = 5
rule_number rule.Site = 6

-- The earlier of a verdict and of an address at which a later rule fails, if it does.
abbrev pub earlier_of : Verdict → Option ℕ → ℕ → Verdict
earlier_of v None later = v
earlier_of Yes (Some x) later = No x later
earlier_of (No addr rule) (Some x) later = if nat_lt x addr then No x later else No addr rule

-- An address is a byte of one of some instructions that is the start of a trampoline.
abbrev pub displaced_among : BodyValue → ℕ → List StartEntry → Bool
displaced_among v x es = list_any (λ e. has_byte x e && starts_line v e.addr) es

-- An address is a byte of exactly one of some instructions, and that one is the start of a
-- trampoline.
abbrev pub belongs_among : BodyValue → ℕ → List StartEntry → Bool
belongs_among v x es = (count_by (has_byte x) es == 1) && displaced_among v x es

-- Rule 2 as a test: a run that has the address tells a wrong byte, or several runs have it, or it
-- doesn't belong to the start of a trampoline.
abbrev pub wrong_write : Case → ℕ → Bool
wrong_write c x =
    is_written c.report x
    && (list_any (mistells c x) (runs c.report) || (nat_le 2 (times_written c.report x) || not (belongs c x)))

-- An address is on a page of a segment.
abbrev pub on_page_of : ℕ → Segment → Bool
on_page_of x s = nat_le (s.vaddr / 4096) (x / 4096) && nat_le (x / 4096) (min (s.vaddr + (s.memsz - 1)) (2 ^ 64 - 1) / 4096)

-- An address is on a page of one of a file's segments.
abbrev pub shares : List ℕ → ℕ → Bool
shares file x = list_any (on_page_of x) (loads (segments file))

-- Rule 5 as a test, given whether the address is on a page that holds an original byte.
abbrev pub wrong_range : Case → Bool → ℕ → Bool
wrong_range c shared x =
    is_unexpected c.report x (c.original x) (c.patched x)
    || ((in_private c.report x || on_page c.report x)
    && (not (is_some (c.patched x)) || ((in_private c.report x && on_page c.report x) || (nat_lt x 0x20000 || shared))))

-- Rule 6 for a row after another, as a test.
abbrev pub row_is_bad : List StartEntry → Option RowValue → RowValue → Bool
row_is_bad es before r = not (is_some (entry_at es r.site)) || (not (is_below r.site before) || not (is_own r.site (tramps_of r.outcome)))

-- Some row has this site and is bad, of rows that come after another one.
abbrev pub any_row_bad : List StartEntry → Option RowValue → List RowValue → ℕ → Bool
any_row_bad es before [] x = false
any_row_bad es before (r ∷ rs) x = ((r.site == x) && row_is_bad es before r) || any_row_bad es (Some r) rs x

-- The least site of a bad row among these rows, or the given one where that is less.
abbrev pub least_bad : List StartEntry → Option ℕ → Option RowValue → List RowValue → Option ℕ
least_bad es least before [] = least
least_bad es least before (r ∷ rs) = least_bad es (if row_is_bad es before r then lesser_of least (Some r.site) else least) (Some r) rs

-- The private range begins at an address, and is too short for the action.
abbrev pub is_too_short : BodyValue → ℕ → Bool
is_too_short v x = (x == v.private.0) && nat_lt v.private.1 (x + private_len v.action (length v.rows))
