-- What the state of a processor is: sixteen registers of 64 bits, now and by each answer of the world. Theorems cite it.
-- (Intel SDM, volume 1, section 3.4.1.1.)
use Rattle.std.specs.Prelude.{◌≡◌, ℕ, ◌^◌, ◌<◌, Bool, Ok}
use Rattle.cpu_state.specs.Processor.{IsProcessorCore, GiveWords}
use Rattle.insn_form.specs.Machine.{Machine, Task, act}
use Rattle.insn_form.specs.Step.{Step}

-- the registers of the state, and those that the world will give, are a processor's
pub record IsProcessorState (s : Machine) : Type 0 where
  pub core : IsProcessorCore s.core
  pub world : GiveWords s.world

-- an instruction makes the state of a processor from one
abbrev pub IsProcessorAfter : Type 0
IsProcessorAfter = (t : Task) (next : ℕ) (s s' : Machine) → next < 2 ^ 64 → IsProcessorState s → act t next s ≡ Ok s' → IsProcessorState s'

-- a step leads from the state of a processor to one
abbrev pub IsProcessorAlong : Type 0
IsProcessorAlong = (set : ℕ → Bool) (s t : Machine) → Step set s t → IsProcessorState s → IsProcessorState t
