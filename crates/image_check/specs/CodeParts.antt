-- The code of a report's trampolines, rule 4 as a test, and what `Checked` keeps. Contracts of private functions alone cite it.
use Rattle.std.specs.Prelude.{◌≡◌, ℕ, ◌+◌, ◌-◌, ◌==◌, ◌<◌, ◌≤◌, Bool, false, not, ◌&&◌, ◌||◌, nat_le, nat_lt, List, map, length, slice_index, Option, Some, None}
use Rattle.std.specs.List.{list_any, count_by, AllByRecursion}
use Rattle.std.specs.List.Sorted.{IsPermutation, IsNonDecreasingBy}
use Rattle.pun_base.specs.Actions.{IsAction}
use Rattle.pun_base.specs.Memory.{Cell}
use Rattle.pun_base.specs.Limits.{most_sites}
use Rattle.patch_report.specs.Values.{BodyValue}
use Rattle.start_entries.specs.Listed.{IsSpelledEntry}
use Rattle.start_entries.specs.Standing.{AreEntries}
use Rattle.image_check.specs.declared.placed_code.PlacedCode.{PlacedCode}
use Rattle.image_check.specs.declared.span.Span.{Span}
use Rattle.image_check.specs.Jumps.{IsShort}
use Rattle.image_check.specs.Parts.{line_of}
use Rattle.sound_images.specs.Reports.{Line, lines, on_page}
use Rattle.sound_images.specs.Rules.{Case, HasCode}

-- The bytes are the one code that a trampoline has, or no byte where it has none.
pub record IsCodeOf (c : Case) (l : Line) (code : List ℕ) : Type 0 where
  pub has : 1 ≤ length code → HasCode c l code
  pub only : (other : List ℕ) → HasCode c l other → other ≡ code

-- The action can be asked for, and a trampoline's place, its number and the private range are as
-- low as code asks.
pub record IsLow (v : BodyValue) (l : Line) : Type 0 where
  pub action : IsAction v.action
  pub place : l.tramp.place < 0x7FFF0000
  pub number : l.number < most_sites
  pub private_low : v.private.0 < 0x7FFF0000

-- These bytes are the code of this trampoline.
abbrev pub IsPlaced : Case → PlacedCode → Type 0
IsPlaced c p = IsCodeOf c (line_of p.line) p.bytes

-- These are the trampolines of the report, each with its code.
pub record ArePlaced (c : Case) (ps : List PlacedCode) : Type 0 where
  pub lines_are : map (λ p. line_of p.line) ps ≡ lines c.report
  pub codes_are : AllByRecursion (IsPlaced c) ps

-- An address is in placed code.
abbrev pub in_code : ℕ → PlacedCode → Bool
in_code x p = nat_le p.line.tramp.place x && nat_lt x (p.line.tramp.place + length p.bytes)

-- The addresses of placed code, and the one after them.
abbrev pub code_span : PlacedCode → Span
code_span p = record { first = p.line.tramp.place; last = p.line.tramp.place + length p.bytes }

-- This byte is held, R-X.
abbrev pub holds_code : Option Cell → ℕ → Bool
holds_code None b = false
holds_code (Some d) b = (d.byte == b) && (d.perms == 5)

-- An address is in placed code whose byte it doesn't hold, R-X.
abbrev pub breaks_code : Option Cell → ℕ → PlacedCode → Bool
breaks_code d x p = in_code x p && not (holds_code d (slice_index p.bytes (x - p.line.tramp.place)))

-- Rule 4 as a test: an address in some code is in another too, or the patched byte isn't the
-- code's, or no page of the report has the address.
abbrev pub wrong_code : Case → List PlacedCode → ℕ → Bool
wrong_code c ps x =
    nat_le 1 (count_by (in_code x) ps)
    && (nat_le 2 (count_by (in_code x) ps)
    || (list_any (breaks_code (c.patched x) x) ps || not (on_page c.report x)))

-- What `Checked` keeps: a report of at most 65,536 rows, starts of which each is read, has at most
-- 15 bytes and is an entry of the original's image, and the code of each trampoline, sorted by
-- place.
pub record IsReady (c : Case) (ps : List PlacedCode) : Type 0 where
  pub few : length c.report.rows ≤ most_sites
  pub spelled : AllByRecursion IsSpelledEntry c.listed
  pub short : AllByRecursion IsShort c.listed
  pub entries : AreEntries c.original c.listed
  pub turns : List PlacedCode
  pub placed : ArePlaced c turns
  pub moved : IsPermutation turns ps
  pub rise : IsNonDecreasingBy (λ p. p.line.tramp.place) ps
