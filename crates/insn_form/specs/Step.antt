-- The step: some spelling stands at the instruction pointer, and its instruction acts. Theorems cite it.
use Rattle.std.specs.Prelude.{◌≡◌, ℕ, Bool, true, if◌then◌else◌, [], ◌∷◌, length, Some, None, Ok}
use Rattle.length_decode.specs.Spelling.{Fields, IsInstruction, spelling, parts_of}
use Rattle.cpu_state.specs.declared.world.Question.{Question}
use Rattle.cpu_state.specs.Bytes.{advanced, Stands}
use Rattle.insn_form.specs.Operands.{word_of}
use Rattle.insn_form.specs.Resolving.{resolved_insn}
use Rattle.insn_form.specs.Classes.{has_rip}
use Rattle.insn_form.specs.Filling.{integer_of}
use Rattle.insn_form.specs.Instruction.{insn_of}
use Rattle.insn_form.specs.Machine.{Machine, Task, act, leaves}

-- the address after an instruction
abbrev pub next_after : ℕ → Fields → ℕ
next_after rip f = advanced rip (length (spelling f))

-- the instruction's bytes, with zeros for a RIP displacement, and the address that it names
abbrev pub question_of : Fields → ℕ → Question
question_of f next =
    if has_rip (parts_of f) then record { bytes = spelling (record f { disp = 0 ∷ 0 ∷ 0 ∷ 0 ∷ [] }); addr = Some (advanced next (word_of (integer_of f.disp))) }
    else record { bytes = spelling f; addr = None }

-- the task of fields in front of a next address
abbrev pub task_of : Fields → ℕ → Task
task_of f next = record { insn = resolved_insn next (insn_of f); asks = question_of f next }

-- the instruction stands at the instruction pointer, executable
pub record IsAt (s : Machine) (f : Fields) : Type 0 where
  pub spelled : IsInstruction f
  pub here : Stands s.mem s.rip (spelling f)

-- The instruction of these fields leads from s to t, where `tasks` reads spellings. It reads and writes as data no byte of the set, nor does
-- an answer write one.
pub record StepsAs (tasks : Fields → ℕ → Task) (set : ℕ → Bool) (f : Fields) (s t : Machine) : Type 0 where
  pub at : IsAt s f
  pub apart : leaves set (tasks f (next_after s.rip f)) (next_after s.rip f) s ≡ true
  pub acts : act (tasks f (next_after s.rip f)) (next_after s.rip f) s ≡ Ok t

-- the same, where a spelling means what it means to a single processor
abbrev pub StepsBy : (ℕ → Bool) → Fields → Machine → Machine → Type 0
StepsBy = StepsAs task_of

-- one instruction leads from s to t
abbrev pub StepAs : (Fields → ℕ → Task) → (ℕ → Bool) → Machine → Machine → Type 0
StepAs tasks set s t = (f : Fields) × StepsAs tasks set f s t

-- one instruction leads from s to t, as a single processor reads spellings
abbrev pub Step : (ℕ → Bool) → Machine → Machine → Type 0
Step = StepAs task_of
