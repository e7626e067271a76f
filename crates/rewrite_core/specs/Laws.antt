-- What follows from how inputs are judged: by the plan first and then by the table, and in one way at most. Theorems cite it.
use Rattle.std.specs.Prelude.{◌≡◌, ◌↔◌, ◌⊎◌, Result, Ok, Err}
use Rattle.elf_emit.specs.Job as written
use Rattle.site_turns.specs.Planning.{Request}
use Rattle.rewrite_core.specs.declared.rewrite.RewriteError.{RewriteError}
use Rattle.rewrite_core.specs.Asked.{Asked, IsInOrder}
use Rattle.rewrite_core.specs.Judging.{IsJobFor, writing_of, Judged, JudgesPlanBy, JudgesPlan, JudgesTable, Judges}

-- The plan of an input is refused with this verdict, or it is a job whose table is judged with it.
abbrev pub JudgesInTurn : {J : Type 0} → (Request → J → Type 0) → (J → written.Job) → Asked → Result J RewriteError → Type 0
JudgesInTurn {J = J} Is writing a v =
    ((error : RewriteError) × (v ≡ Err error) × JudgesPlanBy Is a (Err error))
    ⊎ ((job : J) × JudgesPlanBy Is a (Ok job) × JudgesTable writing job v)

-- An input is judged by its plan first, and then by the table of the planned job's file.
abbrev pub JudgedInTurn : Type 0
JudgedInTurn = (a : Asked) (v : Judged) → Judges a v ↔ JudgesInTurn IsJobFor writing_of a v

-- An input in order is judged in one way at most: to be one job or one refusal, and never both.
abbrev pub AreJudgedOnce : {V : Type 0} → (Asked → V → Type 0) → Type 0
AreJudgedOnce {V = V} Judges = (a : Asked) (v w : V) → IsInOrder a → Judges a v → Judges a w → v ≡ w

-- An input has one plan at most.
abbrev pub PlannedOnce : Type 0
PlannedOnce = AreJudgedOnce JudgesPlan

-- An input of `rewrite` is judged in one way at most.
abbrev pub JudgedOnce : Type 0
JudgedOnce = AreJudgedOnce Judges
