-- A spelled jump as an instruction: its spelling, and where its step leads. Theorems cite it.
use Rattle.std.specs.Prelude.{◌≡◌, ℕ, pos, ◌+◌, ◌^◌, ◌<◌, Bool, List}
use Rattle.pun_base.specs.Memory.{Bytes}
use Rattle.length_decode.specs.declared.instruction_parts.Parts.{Parts}
use Rattle.length_decode.specs.Spelling.{IsSpelling}
use Rattle.cpu_state.specs.Bytes.{Stands}
use Rattle.cpu_state.specs.Fixed.{IsFixed}
use Rattle.insn_form.specs.Machine.{Machine, standing_at}
use Rattle.insn_form.specs.Step.{StepsBy}
use Rattle.jump_form.specs.Jumps.{IsJump}
use Rattle.start_entries.specs.Leading.{JumpsTo}

-- The bytes are the spelling of one instruction. Where it stands at the address, executable, its
-- step leads to the target, changes nothing else, and reads and writes no data; where it can't be
-- written either, it is a jump to the target.
pub record LeadsTo (at target : ℕ) (bytes : List ℕ) : Type 0 where
  pub parts : Parts
  pub spelled : IsSpelling bytes parts
  pub steps : (set : ℕ → Bool) (s : Machine) → s.rip ≡ at → Stands s.mem at bytes
      → StepsBy set spelled.fields s (standing_at target s)
  pub jumps : (m : Bytes) → IsFixed m at bytes → JumpsTo m at target

-- What is spelled as a jump after at most ten pads, each of them the same byte from 40 to 4F, is an
-- instruction that leads to its target.
abbrev pub SpelledJumpsLead : Type 0
SpelledJumpsLead =
    (at pads pad target : ℕ) (bytes : List ℕ) → at + pads + 5 < 2 ^ 31 → target < 2 ^ 31
    → IsJump at pads pad (pos target) bytes → LeadsTo at target bytes
