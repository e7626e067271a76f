-- Stretches of addresses that need no look at each of them. Contracts of private functions alone cite it.
use Rattle.std.specs.Prelude.{◌≡◌, ◌⊎◌, ℕ, ◌+◌, ◌-◌, ◌<◌, ◌≤◌, true, false, List, length, slice_index, slice_get, Some, Contains}
use Rattle.std.specs.List.Sorted.{IsStrictlyIncreasing}
use Rattle.pun_base.specs.Memory.{Bytes}
use Rattle.patch_report.specs.Values.{BodyValue, write_value}
use Rattle.pun_base.specs.declared.plan.Write.{Write}
use Rattle.start_entries.specs.declared.entry.StartEntry.{StartEntry}
use Rattle.start_entries.specs.Finding.{addresses}
use Rattle.start_entries.specs.SharedBytes.{has_byte}
use Rattle.start_entries.specs.Standing.{IsOnlyIn}
use Rattle.image_check.specs.declared.flat.ReportLine.{ReportLine}
use Rattle.image_check.specs.declared.placed_code.PlacedCode.{PlacedCode}
use Rattle.image_check.specs.declared.rule.Rule.{Rule}
use Rattle.image_check.specs.declared.span.Span.{Span}
use Rattle.image_check.specs.CodeParts.{in_code, wrong_code}
use Rattle.image_check.specs.Jumps.{LineFails}
use Rattle.image_check.specs.Parts.{in_spans, line_of, wrong_write}
use Rattle.sound_images.specs.Reports.{in_run, is_written, on_page, starts_line}
use Rattle.sound_images.specs.Rules.{Case, holds_byte}
use Rattle.image_check.specs.Verdict.{FailsBy}

-- From an address on memory has these bytes, with these permissions.
abbrev pub HasFrom : Bytes → ℕ → ℕ → List ℕ → Type 0
HasFrom m a perms bytes = (i : ℕ) → i < length bytes → m (a + i) ≡ Some (record { byte = slice_index bytes i; perms = perms })

-- A rule fails nowhere from an address on, up to another.
abbrev pub HoldsTo : Case → Rule → ℕ → ℕ → Type 0
HoldsTo c r low high = (x : ℕ) → low ≤ x → x < high → FailsBy c r x → ⊥

-- Two lists have the same element at an index, or the address there is written.
pub record IsSameAt (v : BodyValue) (old new : List ℕ) (i x : ℕ) : Type 0 where
  pub in_old : i < length old
  pub in_new : i < length new
  pub same : (slice_index old i ≡ slice_index new i) ⊎ (is_written v x ≡ true)

-- Each address at which one of the first n elements fails is in one of the spans.
abbrev pub CoversFirst : {X : Type 0} → (ℕ → X → Type 0) → List X → ℕ → List Span → Type 0
CoversFirst {X} fails xs n ss = (i : ℕ) (y : X) → i < n → slice_get xs i ≡ Some y → (x : ℕ) → fails x y → in_spans ss x ≡ true

-- The first n elements of a list end at an address or below.
abbrev pub EndBelow : {X : Type 0} → (X → ℕ) → List X → ℕ → ℕ → Type 0
EndBelow {X} end xs n a = (i : ℕ) (y : X) → i < n → slice_get xs i ≡ Some y → end y ≤ a

-- The elements of a list from the index n on begin at an address or above.
abbrev pub BeginFrom : {X : Type 0} → (X → ℕ) → List X → ℕ → ℕ → Type 0
BeginFrom {X} first xs n a = (i : ℕ) (y : X) → n ≤ i → slice_get xs i ≡ Some y → a ≤ first y

-- The address after placed code.
abbrev pub code_end : PlacedCode → ℕ
code_end p = p.line.tramp.place + length p.bytes

-- Rule 4 fails at a byte of code.
abbrev pub CodeBroken : Case → List PlacedCode → ℕ → PlacedCode → Type 0
CodeBroken c ps x p = (in_code x p ≡ true) × (wrong_code c ps x ≡ true)

-- Rule 2 fails at a byte of a run.
abbrev pub RunBroken : Case → ℕ → Write → Type 0
RunBroken c x w = (in_run x (write_value w) ≡ true) × (wrong_write c x ≡ true)

-- Rule 3 fails at the start of a trampoline.
abbrev pub LineBroken : Case → ℕ → ReportLine → Type 0
LineBroken c x l = LineFails c x (line_of l)

-- Code is loaded, R-X, on pages of the report.
abbrev pub IsHeldCode : Case → PlacedCode → Type 0
IsHeldCode c p =
    (x : ℕ) → in_code x p ≡ true
    → (c.patched x ≡ Some (record { byte = slice_index p.bytes (x - p.line.tramp.place); perms = 5 })) × (on_page c.report x ≡ true)

-- The address after a run.
abbrev pub run_end : Write → ℕ
run_end w = w.addr + length w.was

-- Two images have the old and the new bytes of a run.
abbrev pub IsToldRun : Bytes → Bytes → Write → Type 0
IsToldRun m n w =
    (x : ℕ) → in_run x (write_value w) ≡ true
    → (holds_byte (m x) (slice_index w.was (x - w.addr)) ≡ true) × (holds_byte (n x) (slice_index w.now (x - w.addr)) ≡ true)

-- No other run of a list has a byte of the one at an index.
abbrev pub IsAloneAt : List Write → ℕ → Write → Type 0
IsAloneAt ws i w =
    (x : ℕ) → in_run x (write_value w) ≡ true → (k : ℕ) (z : Write) → slice_get ws k ≡ Some z → in_run x (write_value z) ≡ true → k ≡ i

-- Entries ascend, and a byte of one that isn't marked is a byte of no other one.
pub record AreAlone (es : List StartEntry) : Type 0 where
  pub ascending : IsStrictlyIncreasing (addresses es)
  pub alone : (e : StartEntry) → Contains es e → e.shared ≡ false → (x : ℕ) → e.addr ≤ x → x < e.addr + e.len → IsOnlyIn es e x

-- An address is a byte of an entry that isn't marked and is the start of a trampoline.
abbrev pub IsOwnedBy : BodyValue → ℕ → StartEntry → Type 0
IsOwnedBy v x e = (has_byte x e ≡ true) × (e.shared ≡ false) × (starts_line v e.addr ≡ true)
