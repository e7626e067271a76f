-- Runs, for any step relation. Theorems cite it.
-- `Step set s t` says that one instruction leads from s to t, and that it reads and writes as data no byte of the set, nor does an
-- answer write one.
use Rattle.std.specs.Prelude.{ℕ, Bool, false, List, [], ◌∷◌}
use Rattle.insn_form.specs.Machine.{Machine}

-- a relation of two machines for each set of addresses that the step leaves alone
abbrev pub StepRelation : Type 1
StepRelation = (ℕ → Bool) → Machine → Machine → Type 0

-- the set of no address
abbrev pub nowhere : ℕ → Bool
nowhere a = false

-- the states after s, each one step from the one before; for states of any kind
abbrev pub IsPath : {State : Type 0} → (State → State → Type 0) → State → List State → Type 0
IsPath Leads s [] = Unit {0}
IsPath Leads s (t ∷ ts) = Leads s t × IsPath Leads t ts

-- the last state, the first one where none comes after
abbrev pub last_of : {State : Type 0} → State → List State → State
last_of s [] = s
last_of s (t ∷ ts) = last_of t ts

-- a run, whatever its steps read and write
abbrev pub IsRun : StepRelation → Machine → List Machine → Type 0
IsRun Step = IsPath (Step nowhere)
