-- How a command that writes ends, before anything is printed. Theorems cite it. s and t are what the desk shows before and after.
use Rattle.std.specs.Prelude.{◌≡◌, ℕ, ◌⊎◌, true, List, [], ◌∷◌, None, Result, Ok, Err, IfOk, IsSomeAnd}
use Rattle.pun_base.specs.Shown.{DeskState, Rose, Told}
use Rattle.pun_base.specs.Desk.{Fills, Stays}
use Rattle.pun_base.specs.declared.desk.PutError.TheVariants as put
use Rattle.command_io.specs.Inputs.{WhereTold, IsUnread}
use Rattle.command_io.specs.Writing.{Verdict, Refused, Accepted, Outputs, Writing, IsInputVerdict, BeginsNone, IsOutput, KeepsRest, LeavesPart, IsWritten, IsNext, KeepsBehind}
use Rattle.command_io.specs.Failing as failing
use Rattle.command_io.specs.Failing.{Failed, Unread, Unwritten, NoMemory, Answer}

-- It is so, and no other verdict is.
pub record IsOnly {J : Type 0} (v : Verdict J) (is : Verdict J → Type 0) : Type 0 where
  pub so : is v
  pub alone : (w : Verdict J) → is w → w ≡ v

-- ---- writing outputs one after the other

-- One output was written, or not.
abbrev pub WritesOne : (name bytes : List ℕ) → DeskState → DeskState → Result (Unit {0}) Failed → Type 0
WritesOne name bytes s t (Ok u) = Fills name bytes s t (Ok tt)
WritesOne name bytes s t (Err (Unwritten other)) = (other ≡ name) × Fills name bytes s t (Err put.Failed)
WritesOne name bytes s t (Err NoMemory) = (t ≡ s) ⊎ Fills name bytes s t (Err put.Memory)
WritesOne name bytes s t (Err other) = ⊥

-- Behind the last output memory may still run out.
abbrev pub IsNoFault : Result (Unit {0}) Failed → Type 0
IsNoFault (Ok u) = Unit {0}
IsNoFault (Err NoMemory) = Unit {0}
IsNoFault (Err other) = ⊥

-- The outputs of a job were written, or one of them was not, and then no later one was begun.
abbrev pub WritesAll : {J : Type 0} → Outputs J → J → DeskState → DeskState → Result (Unit {0}) Failed → Type 0
WritesAll [] job s t result = (t ≡ s) × IsNoFault result
WritesAll (x ∷ xs) job s t (Ok u) = (m : DeskState) × Fills x.0 (x.1 job) s m (Ok tt) × WritesAll xs job m t (Ok u)
WritesAll (x ∷ xs) job s t (Err e) =
    WritesOne x.0 (x.1 job) s t (Err e) ⊎ ((m : DeskState) × Fills x.0 (x.1 job) s m (Ok tt) × WritesAll xs job m t (Err e))

-- They were written, and this is answered; or not.
abbrev pub Finishes : {J : Type 0} → Outputs J → J → Answer → DeskState → DeskState → Result Answer Failed → Type 0
Finishes xs job answer s t (Ok a) = (a ≡ answer) × WritesAll xs job s t (Ok tt)
Finishes xs job answer s t (Err e) = WritesAll xs job s t (Err e)

-- This is answered, or memory ran out.
abbrev pub TellsOnly : Answer → Result Answer Failed → Type 0
TellsOnly answer (Ok a) = a ≡ answer
TellsOnly answer (Err NoMemory) = Unit {0}
TellsOnly answer (Err other) = ⊥

-- ---- what is done with the texts once they are read

-- No output was begun: the texts are refused, or memory ran out.
abbrev pub EndsEarly : {J : Type 0} → Writing J → List (List ℕ) → Result Answer Failed → Type 0
EndsEarly w texts (Err (failing.Refused r)) = IsOnly (Refused r) (w.Judges texts)
EndsEarly w texts (Err NoMemory) = Unit {0}
EndsEarly w texts other = ⊥

-- A job is finished, and where it is done what is promised holds.
pub record DoesJob {J : Type 0} (w : Writing J) (texts : List (List ℕ)) (s t : DeskState) (result : Result Answer Failed) (job : J) : Type 0 where
  pub verdict : IsOnly (Accepted job) (w.Judges texts)
  pub finishes : Finishes w.outputs job (w.text job, w.status job) s t result
  pub promised : IfOk result (λ a. w.Promises texts job)

-- The texts are refused, or memory runs out, before any output is begun; or their job is done or cut short.
abbrev pub Works : {J : Type 0} → Writing J → List (List ℕ) → DeskState → DeskState → Result Answer Failed → Type 0
Works {J = J} w texts s t result = ((t ≡ s) × EndsEarly w texts result) ⊎ ((job : J) × DoesJob w texts s t result job)

-- ---- a whole command, apart from what is printed

-- The names of outputs differ from each other.
abbrev pub AreApart : {J : Type 0} → Outputs J → Type 0
AreApart [] = Unit {0}
AreApart (x ∷ xs) = (IsOutput xs x.0 → ⊥) × AreApart xs

-- This is to be said of the inputs that the desk held, and nothing else is.
abbrev pub HasVerdict : {J : Type 0} → Writing J → DeskState → Verdict J → Type 0
HasVerdict w s v = WhereTold s (λ files. IsOnly v (IsInputVerdict w files))

-- The job of the inputs is known, and what it left.
pub record HasLeft {J : Type 0} (w : Writing J) (s t : DeskState) (job : J) : Type 0 where
  pub verdict : HasVerdict w s (Accepted job)
  pub left : Told (λ old new. LeavesPart old w.outputs job new) s.held t.held

-- An output couldn't be written.
pub record IsStopped {J : Type 0} (w : Writing J) (s t : DeskState) (name : List ℕ) : Type 0 where
  pub rose : Rose s.write_faults t.write_faults
  pub unsure : s.sure ≡ true → ⊥
  pub output : IsOutput w.outputs name
  pub job : J
  pub has_left : HasLeft w s t job
  pub next : AreApart w.outputs → WhereTold s (λ files. IsSomeAnd t.held (λ new. IsNext w.outputs job new name))
  pub behind : AreApart w.outputs
      → WhereTold s (λ files. IsSomeAnd t.held (KeepsBehind w.outputs name files))

-- A job was done.
pub record IsEnded {J : Type 0} (w : Writing J) (s t : DeskState) (answer : Answer) : Type 0 where
  pub job : J
  pub told : answer ≡ (w.text job, w.status job)
  pub has_left : HasLeft w s t job
  pub written : WhereTold s (λ files. IsWritten w files t job)

-- What a command's end says of the desk, and of the files that it told.
abbrev pub Ends : {J : Type 0} → Writing J → DeskState → DeskState → Result Answer Failed → Type 0
Ends w s t (Ok a) = IsEnded w s t a
Ends w s t (Err (failing.Refused r)) = BeginsNone s t × HasVerdict w s (Refused r)
Ends w s t (Err (Unread name)) = BeginsNone s t × IsUnread w.inputs s t name
Ends w s t (Err (Unwritten name)) = IsStopped w s t name
Ends {J = J} w s t (Err NoMemory) = BeginsNone s t ⊎ ((job : J) × HasLeft w s t job)

-- What it leaves and keeps, and how it ends.
pub record Carries {J : Type 0} (w : Writing J) (s t : DeskState) (result : Result Answer Failed) : Type 0 where
  pub at_rest : t.writing ≡ None
  pub stays : Stays s t
  pub rest : Told (KeepsRest w.outputs) s.held t.held
  pub ends : Ends w s t result
