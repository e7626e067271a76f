-- Laws of killed places. Theorems cite it.
use Rattle.std.specs.Prelude.{◌≡◌, ◌≢◌, ℕ, Bool, true, false, Some, None, Ok, Err}
use Rattle.length_decode.specs.Spelling.{Fields}
use Rattle.cpu_state.specs.declared.state.Core.{Core}
use Rattle.insn_form.specs.declared.form.Op.{Op}
use Rattle.insn_form.specs.declared.form.Insn.{Insn}
use Rattle.insn_form.specs.Meaning.{effect}
use Rattle.insn_form.specs.Resolving.{resolved_insn}
use Rattle.insn_form.specs.Instruction.{insn_of}
use Rattle.insn_form.specs.Plan.{Halt, Lacks}
use Rattle.insn_form.specs.Machine.{Machine, Task, act, leaves}
use Rattle.insn_form.specs.Laws.{Keeps}
use Rattle.insn_form.specs.Touched.{reads_none}
use Rattle.insn_form.specs.Again.{GoesOn}
use Rattle.insn_form.specs.Alike.{writes_at, still, GoesAlike}
use Rattle.cpu_state.specs.declared.world.Question.{Question}
use Rattle.killing.specs.declared.place.Place.{Place}
use Rattle.killing.specs.declared.place.Place.TheVariants.{FiveFlags, SixFlags, Register}
use Rattle.killing.specs.Places.{cleared, AgreeBut, SameBut, SameViewBut, IsAlikeBut, Kills}
use Rattle.killing.specs.Table.{kills_by, kills, is_scratch, killed, cannot_fault}

-- The table is sound: an instruction that it lists for a place kills the place.
abbrev pub IsKilled : Type 0
IsKilled = (p : Place) (f : Fields) → kills p (insn_of f) ≡ true → Kills p f

-- where a test says so, each spelling of the instruction kills the place
abbrev pub KillsIf : Bool → Place → Insn → Type 0
KillsIf b p i = b ≡ true → (f : Fields) → insn_of f ≡ i → Kills p f

-- To differ at a place alone is the same both ways.
abbrev pub AgreesBack : Type 0
AgreesBack = (p : Place) (s u : Machine) → AgreeBut p s u → AgreeBut p u s

-- an operation that kills a place does the same with the place cleared
abbrev pub IsSameEffect : Type 0
IsSameEffect = (p : Place) (op : Op) (next : ℕ) (c : Core) → kills_by p op ≡ true → effect op next c ≡ effect op next (cleared p c)

-- where an instruction stands doesn't decide over what it kills
abbrev pub IsKilledAnywhere : Type 0
IsKilledAnywhere = (p : Place) (next : ℕ) (i : Insn) → kills p (resolved_insn next i) ≡ kills p i

-- From states that differ at a killed place alone, wherever they stand, the instruction leads to one state, or has no step for one reason. It
-- leaves the same sets of addresses alone.
abbrev pub IsSameAct : Type 0
IsSameAct = (p : Place) (t : Task) (next : ℕ) (s u : Machine) → kills p t.insn ≡ true → SameBut p s u
    → (act t next s ≡ act t next u) × ((set : ℕ → Bool) → leaves set t next s ≡ leaves set t next u)

-- The same instruction elsewhere, from a state that looks the same but for the place, does the same: what is seen then is equal, the place too.
abbrev pub IsKilledCopy : Type 0
IsKilledCopy = (set : ℕ → Bool) (p : Place) (t : Task) (next next' : ℕ) (s u s' : Machine) → kills p t.insn ≡ true → SameViewBut set p s u
    → leaves set t next s ≡ true → act t next s ≡ Ok s'
    → (u' : Machine) × (act t next' u ≡ Ok u') × GoesOn set t.insn next next' s' u' × Keeps set u u'

-- Over memories that are alike but for stale bytes it has a step in both states or in neither, and then they are alike, at the place too.
abbrev pub IsKilledAlike : Type 0
IsKilledAlike = (hidden stale : ℕ → Bool) (p : Place) (t : Task) (next next' : ℕ) (s u : Machine) → kills p t.insn ≡ true
    → IsAlikeBut hidden stale p s u → leaves hidden t next s ≡ true → reads_none stale t next s ≡ true
    → ((s' : Machine) → act t next s ≡ Ok s' → (u' : Machine) × (act t next' u ≡ Ok u') × GoesAlike hidden (still stale (writes_at t next s)) t.insn next next' s' u')
    × ((u' : Machine) → act t next' u ≡ Ok u' → (s' : Machine) × (act t next s ≡ Ok s') × GoesAlike hidden (still stale (writes_at t next s)) t.insn next next' s' u')
    × ((h : Halt) → act t next s ≡ Err h → act t next' u ≡ Err h)

-- The place that is chosen is killed; a flag isn't passed over for fewer flags or a register, and a register is one that an event may use.
pub record IsChosen (i : Insn) (p : Place) : Type 0 where
  pub is_killed : kills p i ≡ true
  pub flags_first : p ≢ SixFlags → kills SixFlags i ≡ false
  pub then_five : p ≢ SixFlags → p ≢ FiveFlags → kills FiveFlags i ≡ false
  pub scratch : (r : ℕ) → p ≡ Register r → is_scratch r ≡ true

-- where one is chosen it is that one, and where none is none is killed but a register that no event may use
abbrev pub ChoosesPlaces : Type 0
ChoosesPlaces = (i : Insn) → ((p : Place) → killed i ≡ Some p → IsChosen i p)
    × (killed i ≡ None → (p : Place) → kills p i ≡ true → (r : ℕ) × (p ≡ Register r) × (is_scratch r ≡ false))

-- the table lists at most one register for an instruction, so none need be chosen among several
abbrev pub KillsOneRegister : Type 0
KillsOneRegister = (i : Insn) (r q : ℕ) → kills (Register r) i ≡ true → kills (Register q) i ≡ true → r ≡ q

-- an instruction without an operand in memory touches none, so it lacks none
abbrev pub NeverFaults : Type 0
NeverFaults = (i : Insn) (q : Question) (next : ℕ) (s : Machine) → cannot_fault i ≡ true
    → (leaves (λ a. true) (record { insn = i; asks = q }) next s ≡ true) × ((a : ℕ) → act (record { insn = i; asks = q }) next s ≢ Err (Lacks a))
