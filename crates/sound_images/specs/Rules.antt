-- When a patched image is sound: six rules, each told by the addresses at which it fails. Theorems cite it.
use Rattle.std.specs.Prelude.{◌≡◌, ◌≢◌, ◌⊎◌, ℕ, zero, suc, ◌+◌, ◌-◌, ◌/◌, ◌==◌, ◌<◌, ◌≤◌, nat_le, nat_lt, Bool, true, false, not, ◌&&◌, ◌||◌, List, [], ◌∷◌, length, slice_index, slice_get, Option, Some, None, is_some, Contains}
use Rattle.std.specs.List.{list_any, count_by}
use Rattle.pun_base.specs.Memory.{Cell, Bytes}
use Rattle.pun_base.specs.declared.tramp.Tramp.{Tramp}
use Rattle.length_decode.specs.Spelling.{Fields, IsInstruction, spelling}
use Rattle.cpu_state.specs.Bytes.{Stands}
use Rattle.insn_form.specs.declared.form.Insn.{Insn}
use Rattle.insn_form.specs.Displacing.{displaced_len}
use Rattle.insn_form.specs.Step.{next_after}
use Rattle.trampoline.specs.Trampolines.{code_of}
use Rattle.patch_report.specs.Values.{BodyValue, RowValue, WriteValue}
use Rattle.start_entries.specs.declared.entry.StartEntry.{StartEntry}
use Rattle.start_entries.specs.SharedBytes.{has_byte}
use Rattle.start_entries.specs.Finding.{entry_at}
use Rattle.start_entries.specs.Leading.{Leads}
use Rattle.sound_images.specs.Reports.{Line, event_of, lines, runs, in_run, is_written, times_written, starts_line, times_started, in_private, on_page, private_len, tramps_of}

-- What is checked: the images of an original and of a patched file with their entry points, listed starts, a report.
pub record Case : Type 0 where
  pub original : Bytes
  pub patched : Bytes
  pub entry : ℕ
  pub patched_entry : ℕ
  pub listed : List StartEntry
  pub report : BodyValue

-- Rule 1. The original loads x, and the patched file doesn't, or with other permissions, or with another value while x
-- is in no run.
abbrev pub differs : Option Cell → Option Cell → Bool → Bool
differs None d written = false
differs (Some c) None written = true
differs (Some c) (Some d) written = not (c.perms == d.perms) || (not written && not (c.byte == d.byte))

-- Rule 1 fails at x.
abbrev pub ByteFails : Case → ℕ → Type 0
ByteFails c x = differs (c.original x) (c.patched x) (is_written c.report x) ≡ true

-- The byte of a cell is this one.
abbrev pub holds_byte : Option Cell → ℕ → Bool
holds_byte None b = false
holds_byte (Some c) b = c.byte == b

-- A run that has x tells a wrong old or new byte of it.
abbrev pub mistells : Case → ℕ → WriteValue → Bool
mistells c x w =
    in_run x w
    && (not (holds_byte (c.original x) (slice_index w.was (x - w.addr)))
    || not (holds_byte (c.patched x) (slice_index w.now (x - w.addr))))

-- How many listed instructions have the byte.
abbrev pub times_owned : Case → ℕ → ℕ
times_owned c x = count_by (has_byte x) c.listed

-- The byte is of exactly one listed instruction, which is the start of a trampoline.
abbrev pub belongs : Case → ℕ → Bool
belongs c x =
    (times_owned c x == 1) && list_any (λ e. has_byte x e && starts_line c.report e.addr) c.listed

-- Rule 2 fails at x: x is in a run, and the original's byte isn't the old one, or the patched one
-- isn't the new one, or x is in two runs, or x isn't a byte of exactly one listed instruction, or
-- that instruction isn't the start of a trampoline.
abbrev pub WriteFails : Case → ℕ → Type 0
WriteFails c x =
    (is_written c.report x ≡ true)
    × ((list_any (mistells c x) (runs c.report) ≡ true) ⊎ (2 ≤ times_written c.report x) ⊎ (belongs c x ≡ false))

-- The length of the relocated code of an instruction of this length at an address; none where the instruction is unknown or
-- can't be displaced.
abbrev pub displaced_by : Option Insn → ℕ → ℕ → Option ℕ
displaced_by None len a = None
displaced_by (Some i) len a = displaced_len i len a

-- The length of the relocated code of an entry's instruction; none without an entry.
abbrev pub displaced_from : Option StartEntry → Option ℕ
displaced_from None = None
displaced_from (Some e) = displaced_by e.form e.len e.addr

-- The length of the relocated code of the instruction at a listed start; none where no start is listed there, where its
-- length is unknown, or where it can't be displaced.
abbrev pub displaced_at : List StartEntry → ℕ → Option ℕ
displaced_at es a = displaced_from (entry_at es a)

-- Rule 3 fails at x: x is the start of a trampoline, and isn't listed or can't be displaced, or is
-- the start of two, or the patched bytes at x don't lead to the place.
abbrev pub EntryFails : Case → ℕ → Type 0
EntryFails c x =
    (l : Line) × Contains (lines c.report) l × (l.tramp.start ≡ x)
    × ((displaced_at c.listed x ≡ None) ⊎ (2 ≤ times_started c.report x) ⊎ (Leads c.patched c.listed x l.tramp.place → ⊥))

-- A coding: how a trampoline's code comes from its line and the instruction at its start.
abbrev pub Coding : Type 0
Coding = Line → Fields → List ℕ

-- The coding of a report: the event of its action, where the line has one, and the instruction's
-- work.
abbrev pub coding_of : BodyValue → Coding
coding_of v l f =
    code_of (event_of v.action l) v.private.0 f (next_after l.tramp.start f) l.tramp.place

-- The code of a trampoline: that of the instruction that stands at its start in the original, which is listed and can be
-- displaced.
pub record HasCodeWith (coding : Coding) (c : Case) (l : Line) (code : List ℕ) : Type 0 where
  pub fields : Fields
  pub spelled : IsInstruction fields
  pub stands : Stands c.original l.tramp.start (spelling fields)
  pub displaced : is_some (displaced_at c.listed l.tramp.start) ≡ true
  pub is : code ≡ coding l fields

-- The code of a trampoline by the coding of the report.
abbrev pub HasCode : Case → Line → List ℕ → Type 0
HasCode c l code = HasCodeWith (coding_of c.report) c l code

-- x lies in the code of the trampoline at an index in the list of all of them.
pub record LiesInWith (coding : Coding) (c : Case) (i x : ℕ) : Type 0 where
  pub line : Line
  pub listed : slice_get (lines c.report) i ≡ Some line
  pub code : List ℕ
  pub has : HasCodeWith coding c line code
  pub low : line.tramp.place ≤ x
  pub high : x < line.tramp.place + length code

-- x lies in the code, by the report's coding, of the trampoline at an index in the list of all of
-- them.
abbrev pub LiesIn : Case → ℕ → ℕ → Type 0
LiesIn c i x = LiesInWith (coding_of c.report) c i x

-- The patched image has this byte at x, R-X.
abbrev pub HoldsCode : Case → ℕ → ℕ → Type 0
HoldsCode c x b = c.patched x ≡ Some (record { byte = b; perms = 5 })

-- Rule 4 fails at x, where trampolines have this code: x lies in the code of a trampoline, and the
-- patched byte isn't the code's, or isn't loaded R-X, or x lies in the code of two, or on no page
-- of the report.
abbrev pub CodeFailsWith : Coding → Case → ℕ → Type 0
CodeFailsWith coding c x =
    (i : ℕ) × (at : LiesInWith coding c i x)
    × ((HoldsCode c x (slice_index at.code (x - at.line.tramp.place)) → ⊥)
    ⊎ ((j : ℕ) × (i ≢ j) × LiesInWith coding c j x) ⊎ (on_page c.report x ≡ false))

-- Rule 4 fails at x, by the coding of the report.
abbrev pub CodeFails : Case → ℕ → Type 0
CodeFails c x = CodeFailsWith (coding_of c.report) c x

-- A byte that the original doesn't load is expected at x: a read-only byte of [0x10000, 0x1E000), a
-- zero RW byte of the private range, or an R-X byte of a page of the report.
abbrev pub is_expected : BodyValue → ℕ → Cell → Bool
is_expected v x d =
    (nat_le 0x10000 x && (nat_lt x 0x1E000 && (d.perms == 4)))
    || ((in_private v x && ((d.byte == 0) && (d.perms == 6))) || (on_page v x && (d.perms == 5)))

-- The patched file loads a byte, the original none, and the byte isn't expected.
abbrev pub is_unexpected : BodyValue → ℕ → Option Cell → Option Cell → Bool
is_unexpected v x (Some c) d = false
is_unexpected v x None None = false
is_unexpected v x None (Some d) = not (is_expected v x d)

-- The page of x holds a byte of this memory.
abbrev pub SharesPage : Bytes → ℕ → Type 0
SharesPage m x = (y : ℕ) × (y / 4096 ≡ x / 4096) × (is_some (m y) ≡ true)

-- Rule 5 fails at x: the patched file loads an unexpected byte, or x lies in the private range or
-- on a page of the report, and the patched file doesn't load it, or it is on a page that holds an
-- original byte, or lies in both, or below 0x20000.
abbrev pub RangeFails : Case → ℕ → Type 0
RangeFails c x =
    (is_unexpected c.report x (c.original x) (c.patched x) ≡ true)
    ⊎ (((in_private c.report x || on_page c.report x) ≡ true)
    × ((c.patched x ≡ None) ⊎ SharesPage c.original x
    ⊎ ((in_private c.report x && on_page c.report x) ≡ true) ⊎ (x < 0x20000)))

-- A row's first trampoline is the site's own, with an event, and no other one has an event.
abbrev pub is_own : ℕ → List Tramp → Bool
is_own site [] = true
is_own site (t ∷ ts) = ((t.start == site) && t.event) && not (list_any (λ u. u.event) ts)

-- A site is below that of a row, if there is one.
abbrev pub is_below : ℕ → Option RowValue → Bool
is_below site None = true
is_below site (Some r) = nat_lt site r.site

-- The row before the one at a place.
abbrev pub row_before : List RowValue → ℕ → Option RowValue
row_before rows zero = None
row_before rows (suc before) = slice_get rows before

-- Rule 6 fails for a row at x: x is the site of the row, and isn't listed, or isn't below the site
-- of the row before, or the row's first trampoline isn't its own with an event, or its second has
-- one.
abbrev pub RowFails : Case → ℕ → Type 0
RowFails c x =
    (i : ℕ) × (r : RowValue) × (slice_get c.report.rows i ≡ Some r) × (r.site ≡ x)
    × ((is_some (entry_at c.listed x) ≡ false) ⊎ (is_below x (row_before c.report.rows i) ≡ false)
    ⊎ (is_own x (tramps_of r.outcome) ≡ false))

-- Rule 6 fails at x: for a row, or x is the patched entry point and differs from the original's, or
-- x is the private range's first address, and the range is too short for the action.
abbrev pub SiteFails : Case → ℕ → Type 0
SiteFails c x =
    RowFails c x ⊎ ((x ≡ c.patched_entry) × (x ≢ c.entry))
    ⊎ ((x ≡ c.report.private.0) × (c.report.private.1 < x + private_len c.report.action (length c.report.rows)))

-- A rule fails at an address, where trampolines have this code.
abbrev pub FailsWith : Coding → Case → ℕ → ℕ → Type 0
FailsWith coding c rule x =
    ((rule ≡ 1) × ByteFails c x) ⊎ ((rule ≡ 2) × WriteFails c x) ⊎ ((rule ≡ 3) × EntryFails c x)
    ⊎ ((rule ≡ 4) × CodeFailsWith coding c x) ⊎ ((rule ≡ 5) × RangeFails c x)
    ⊎ ((rule ≡ 6) × SiteFails c x)

-- A rule fails at an address, by the coding of the report.
abbrev pub Fails : Case → ℕ → ℕ → Type 0
Fails c rule x = FailsWith (coding_of c.report) c rule x

-- No rule fails anywhere, where trampolines have this code.
abbrev pub IsSoundWith : Coding → Case → Type 0
IsSoundWith coding c = (rule x : ℕ) → FailsWith coding c rule x → ⊥

-- The patched image is sound: no rule fails anywhere.
abbrev pub IsSound : Case → Type 0
IsSound c = IsSoundWith (coding_of c.report) c

-- The least address at which a rule fails, and there the least rule.
pub record IsFirstFailure (c : Case) (x rule : ℕ) : Type 0 where
  pub fails : Fails c rule x
  pub least : (other y : ℕ) → Fails c other y → (x < y) ⊎ ((x ≡ y) × (rule ≤ other))
