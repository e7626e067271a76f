-- Laws of single instructions: steps leave sets alone, and a state has one next state at most. Theorems cite it.
use Rattle.std.specs.Prelude.{◌≡◌, ℕ, Bool, true, false, not, List, length, Result, Ok, Err}
use Rattle.length_decode.specs.Spelling.{Fields}
use Rattle.insn_form.specs.declared.form.Insn.{Insn}
use Rattle.insn_form.specs.declared.form.Insn.TheVariants.{Exact, Asked, Ending}
use Rattle.insn_form.specs.declared.form.Op.TheVariants.{Call}
use Rattle.insn_form.specs.Plan.{Halt}
use Rattle.insn_form.specs.Machine.{Machine, Task, act, view, standing_at, leaves}
use Rattle.insn_form.specs.Step.{IsAt, StepAs, Step}
use Rattle.insn_form.specs.Runs.{IsRun}

-- a step's result, seen without a set
abbrev pub viewed : (ℕ → Bool) → Result Machine Halt → Result Machine Halt
viewed set (Ok s) = Ok (view set s)
viewed set (Err h) = Err h

-- the states are equal but for a set of addresses and the instruction pointer
abbrev pub SameView : (ℕ → Bool) → Machine → Machine → Type 0
SameView set s u = standing_at 0 (view set s) ≡ standing_at 0 (view set u)

-- the bytes of the set stay
abbrev pub Keeps : (ℕ → Bool) → Machine → Machine → Type 0
Keeps set s u = (x : ℕ) → set x ≡ true → u.mem x ≡ s.mem x

-- an instruction that leaves a set alone does the same in each state that differs in the set alone, and has no step for the same reason
abbrev pub IsFramed : Type 0
IsFramed = (set : ℕ → Bool) (t : Task) (next : ℕ) (s u : Machine) → SameView set s u → leaves set t next s ≡ true → viewed set (act t next s) ≡ viewed set (act t next u)

-- it changes no byte of the set
abbrev pub IsKept : Type 0
IsKept = (set : ℕ → Bool) (t : Task) (next : ℕ) (s s' : Machine) → leaves set t next s ≡ true → act t next s ≡ Ok s' → Keeps set s s'

-- an instruction that uses the address after it at most as the place where the run goes on
abbrev pub is_steady : Insn → Bool
is_steady (Exact (Call target)) = false
is_steady (Exact op) = true
is_steady (Asked form) = not form.syscall
is_steady Ending = true

-- one instruction at most stands at an address
abbrev pub HasOneInstruction : Type 0
HasOneInstruction = (s : Machine) (f g : Fields) → IsAt s f → IsAt s g → f ≡ g

-- however spellings are read, a state has at most one next state, whichever sets the two steps leave alone
abbrev pub HasOneNext : Type 0
HasOneNext = (tasks : Fields → ℕ → Task) (p q : ℕ → Bool) (s t u : Machine) → StepAs tasks p s t → StepAs tasks q s u → t ≡ u

-- runs of as many steps from one state are the same
abbrev pub HasOneRun : Type 0
HasOneRun = (s : Machine) (ts us : List Machine) → length ts ≡ length us → IsRun Step s ts → IsRun Step s us → ts ≡ us
