-- Relocated code at work: from which states it is run, and what running it leaves. Theorems cite it.
use Rattle.std.specs.Prelude.{◌≡◌, ◌⊎◌, ℕ, ◌+◌, ◌<◌, ◌≤◌, Bool, true, if◌then◌else◌, List, [], ◌∷◌, ◌++◌, length, Some}
use Rattle.pun_base.specs.Memory.{Bytes}
use Rattle.length_decode.specs.Spelling.{Fields, IsInstruction, spelling}
use Rattle.cpu_state.specs.Bytes.{allows}
use Rattle.cpu_state.specs.Fixed.{IsFixed}
use Rattle.cpu_state.specs.Processor.{IsProcessorCore}
use Rattle.insn_form.specs.declared.form.Insn.{Insn}
use Rattle.insn_form.specs.Instruction.{insn_of}
use Rattle.insn_form.specs.Displacing.{displaced_len, falls}
use Rattle.insn_form.specs.Machine.{Machine}
use Rattle.insn_form.specs.Step.{StepsBy, Step, next_after}
use Rattle.insn_form.specs.Runs.{IsRun}
use Rattle.insn_form.specs.Laws.{SameView}
use Rattle.relocate_insn.specs.Relocating.{relocated_code}

-- n bytes from an address on, in the set, held with R and W; they end at 0x7FFF0000 at the latest
pub record IsPrivate (set : ℕ → Bool) (lo n : ℕ) (m : Bytes) : Type 0 where
  pub inside : (x : ℕ) → lo ≤ x → x < lo + n → set x ≡ true
  pub read : (x : ℕ) → lo ≤ x → x < lo + n → allows 4 (m x) ≡ true
  pub written : (x : ℕ) → lo ≤ x → x < lo + n → allows 2 (m x) ≡ true
  pub low : lo + n ≤ 0x7FFF0000

-- Code at a place is about to run in t for the instruction at which s stands: s has a processor's registers, and t looks
-- like s, but for the set and the instruction pointer, and has the code, executable and not writable, and n bytes of
-- private range.
pub record IsReady (set : ℕ → Bool) (private n place : ℕ) (code : List ℕ) (s t : Machine) : Type 0 where
  pub processor : IsProcessorCore s.core
  pub seen : SameView set t s
  pub there : t.rip ≡ place
  pub stands : IsFixed t.mem place code
  pub range : IsPrivate set private n t.mem

-- each state stands at an address from lo on, below hi
abbrev pub Inside : ℕ → ℕ → List Machine → Type 0
Inside lo hi [] = Unit {0}
Inside lo hi (x ∷ xs) = (lo ≤ x.rip) × (x.rip < hi) × Inside lo hi xs

-- What running the relocated code of an instruction from t leaves, where the instruction leads to s' and `next` is the
-- address behind it.
pub record Works (set : ℕ → Bool) (i : Insn) (private next place size : ℕ) (s' t : Machine) : Type 0 where
  pub inner : List Machine
  pub end : Machine
  pub run : IsRun Step t (inner ++ end ∷ [])
  -- code that falls through takes two steps at most, other code six
  pub few : length inner ≤ (if falls i then 1 else 5)
  -- between, it stands inside the code, past its first address
  pub inside : Inside (place + 1) (place + size) inner
  pub seen : SameView set end s'
  -- it goes on where the instruction does, or behind the code in place of behind the instruction
  pub arrives : (end.rip ≡ s'.rip) ⊎ ((falls i ≡ true) × (s'.rip ≡ next) × (end.rip ≡ place + size))
  -- of the set no byte changes but 24 at the front of the private range
  pub kept : (x : ℕ) → set x ≡ true → (x < private) ⊎ (private + 24 ≤ x) → end.mem x ≡ t.mem x

-- Code at a place does the work of the instruction of these fields at an address: where that leads from s to s' and
-- leaves alone a set that has the private range's first 24 bytes, the code leads to what is seen of s'.
abbrev pub DoesWork : List ℕ → Fields → ℕ → ℕ → ℕ → Type 0
DoesWork code f from place private =
    (set : ℕ → Bool) (s s' t : Machine) → s.rip ≡ from → StepsBy set f s s' → IsReady set private 24 place code s t
    → Works set (insn_of f) private (next_after from f) place (length code) s' t

-- The law of relocated code: it does the work of the instruction.
abbrev pub RelocatedCodeWorks : Type 0
RelocatedCodeWorks = (f : Fields) (from place private n : ℕ) → IsInstruction f
    → displaced_len (insn_of f) (length (spelling f)) from ≡ Some n → from + length (spelling f) ≤ 0x7FFF0000
    → place < 0x7FFF0080
    → DoesWork (relocated_code private f (from + length (spelling f)) place) f from place private
