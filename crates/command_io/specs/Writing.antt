-- Commands that write: the verdict on their inputs, what they answer and print, and what they leave. Theorems cite it. In all of it s and t
-- are what the desk shows before and after, k and l what the sink shows.
use Rattle.std.specs.Prelude.{◌≡◌, ℕ, ◌≤◌, ◌⊎◌, true, List, [], ◌∷◌, take, Some, IsSomeAnd}
use Rattle.pun_base.specs.Shown.{Files, DeskState, SinkState, with_file, Told, Rose}
use Rattle.command_io.specs.Refusals.{Refusal, TooLong}
use Rattle.command_io.specs.Messages as messages
use Rattle.command_io.specs.Messages.{PrintsSome, Message, Answer, Unread, Unwritten, TellsOne}
use Rattle.command_io.specs.Inputs as inputs
use Rattle.command_io.specs.Inputs.{Inputs, Gathered, gathered, WhereTold, ReadFails, IsHindered, IsUnread}

-- What is to be said of inputs. What accepted ones come to is a job.
pub data Verdict (J : Type 0) : Type 0 where
  -- the name isn't held
  Missing : (name : List ℕ) → Verdict J
  Refused : (refusal : Refusal) → Verdict J
  Accepted : (job : J) → Verdict J

-- Which verdicts there are of the texts of inputs.
abbrev pub Judging : Type 0 → Type 1
Judging J = List (List ℕ) → Verdict J → Type 0

-- Outputs in the order in which they are written: the name of each, and its bytes by the job.
abbrev pub Outputs : Type 0 → Type 0
Outputs J = List (List ℕ × (J → List ℕ))

-- A command that writes.
pub record Writing (J : Type 0) : Type 1 where
  pub inputs : Inputs
  -- what is to be said of the inputs' texts
  pub Judges : Judging J
  pub outputs : Outputs J
  -- what is printed and answered once the outputs are whole, and which statuses these are
  pub text : J → List ℕ
  pub status : J → ℕ
  pub IsOwn : ℕ → Type 0
  -- what is promised then, of the inputs' texts and their job
  pub Promises : List (List ℕ) → J → Type 0

-- ---- by what is to be said of the inputs

-- The verdict of what reading comes to: the first input that is missing or too long decides, or else the texts.
abbrev pub OfGathered : {J : Type 0} → Judging J → Gathered → Verdict J → Type 0
OfGathered Judges (inputs.Missing name) v = v ≡ Missing name
OfGathered Judges (inputs.TooLong which) v = v ≡ Refused (TooLong which)
OfGathered Judges (inputs.All texts) v = Judges texts v

-- The verdict of the inputs that a desk holds.
abbrev pub IsInputVerdict : {J : Type 0} → Writing J → Files → Verdict J → Type 0
IsInputVerdict w files v = OfGathered w.Judges (gathered files w.inputs) v

-- The inputs are accepted.
abbrev pub IsAccepted : {J : Type 0} → Writing J → Files → Type 0
IsAccepted {J = J} w files = (job : J) × IsInputVerdict w files (Accepted job)

-- What the command may answer then.
abbrev pub Answers : {J : Type 0} → Writing J → Verdict J → DeskState → DeskState → SinkState → SinkState → ℕ → Type 0
Answers w (Missing name) s t k l status = IsHindered s t k l status
Answers w (Refused refusal) s t k l status = (status ≡ 3) ⊎ IsHindered s t k l status
Answers w (Accepted job) s t k l status =
    (status ≡ w.status job) ⊎ (ReadFails s t status
    ⊎ (((status ≡ 5) × (Rose s.write_faults t.write_faults ⊎ Rose k.faults l.faults)) ⊎ (status ≡ 6)))

-- Where no count rose, a job was done, or memory ran out.
abbrev pub DoneIfFaultless : {J : Type 0} → Writing J → J → DeskState → DeskState → SinkState → SinkState → ℕ → Type 0
DoneIfFaultless w job s t k l status =
    (Rose s.read_faults t.read_faults → ⊥) → (Rose s.write_faults t.write_faults → ⊥) → (Rose k.faults l.faults → ⊥)
    → (status ≡ w.status job) ⊎ (status ≡ 6)

-- ---- what stands under the names

-- What is held is as before, and no write fault rose.
pub record BeginsNone (s t : DeskState) : Type 0 where
  pub held : t.held ≡ s.held
  pub writes : t.write_faults ≡ s.write_faults

-- The name is that of an output.
abbrev pub IsOutput : {J : Type 0} → Outputs J → List ℕ → Type 0
IsOutput [] name = ⊥
IsOutput (x ∷ xs) name = (name ≡ x.0) ⊎ IsOutput xs name

-- Each name that is no output's holds what it held.
abbrev pub KeepsRest : {J : Type 0} → Outputs J → Files → Files → Type 0
KeepsRest xs old new = (name : List ℕ) → (IsOutput xs name → ⊥) → new name ≡ old name

-- The files of a desk once a job was done: the outputs are new, and no other name changed.
abbrev pub files_after : {J : Type 0} → Files → Outputs J → J → Files
files_after files [] job = files
files_after files (x ∷ xs) job = files_after (with_file files x.0 (x.1 job)) xs job

-- An output holds a prefix of its bytes, those before it are whole, and no other name changed.
abbrev pub IsCut : {J : Type 0} → Files → Outputs J → J → Files → Type 0
IsCut old [] job new = ⊥
IsCut old (x ∷ xs) job new =
    ((k : ℕ) × (new ≡ with_file old x.0 (take k (x.1 job)))) ⊎ IsCut (with_file old x.0 (x.1 job)) xs job new

-- What a job leaves, wherever it was cut short: what stood there, or one output cut and those before it whole.
abbrev pub LeavesPart : {J : Type 0} → Files → Outputs J → J → Files → Type 0
LeavesPart old xs job new = (new ≡ old) ⊎ IsCut old xs job new

-- What shows that the outputs are whole: status 5 where neither count of the desk rose, or a byte of the text that is printed
-- last.
abbrev pub ShowsWhole : {J : Type 0} → Writing J → J → DeskState → DeskState → SinkState → SinkState → ℕ → Type 0
ShowsWhole w job s t k l status =
    ((status ≡ 5) × (Rose s.read_faults t.read_faults → ⊥) × (Rose s.write_faults t.write_faults → ⊥))
    ⊎ PrintsSome (w.text job) k l

-- The inputs are accepted as this job, its outputs are whole, and what is promised holds.
pub record IsWritten {J : Type 0} (w : Writing J) (files : Files) (t : DeskState) (job : J) : Type 0 where
  pub texts : List (List ℕ)
  pub read : gathered files w.inputs ≡ inputs.All texts
  pub judged : w.Judges texts (Accepted job)
  pub outputs : t.held ≡ Some (files_after files w.outputs job)
  pub promised : w.Promises texts job

-- ---- what is told, and its causes

-- The text of a job that was done, with its status.
pub record IsAnswered {J : Type 0} (w : Writing J) (s t : DeskState) (text : List ℕ) (status : ℕ) : Type 0 where
  pub job : J
  pub told : text ≡ w.text job
  pub answered : status ≡ w.status job
  pub written : WhereTold s (λ files. IsWritten w files t job)

-- The name is that of an output, and the outputs before it are whole.
abbrev pub IsNext : {J : Type 0} → Outputs J → J → Files → List ℕ → Type 0
IsNext [] job new name = ⊥
IsNext (x ∷ xs) job new name = (name ≡ x.0) ⊎ ((new x.0 ≡ Some (x.1 job)) × IsNext xs job new name)

-- The later name is that of an output behind the one of this name.
abbrev pub IsBehind : {J : Type 0} → Outputs J → List ℕ → List ℕ → Type 0
IsBehind [] name later = ⊥
IsBehind (x ∷ xs) name later = ((name ≡ x.0) × IsOutput xs later) ⊎ IsBehind xs name later

-- Outputs behind the one of this name hold what they held.
abbrev pub KeepsBehind : {J : Type 0} → Outputs J → List ℕ → Files → Files → Type 0
KeepsBehind xs name old new = (later : List ℕ) → IsBehind xs name later → new later ≡ old later

-- The inputs are accepted, and the outputs before the one of this name are whole.
pub record IsCutOff {J : Type 0} (w : Writing J) (files : Files) (t : DeskState) (name : List ℕ) : Type 0 where
  pub job : J
  pub verdict : IsInputVerdict w files (Accepted job)
  pub whole : IsSomeAnd t.held (λ new. IsNext w.outputs job new name)

-- The name of an output that couldn't be written. On a sure desk there is none.
pub record IsUnwritten {J : Type 0} (w : Writing J) (s t : DeskState) (name : List ℕ) : Type 0 where
  pub rose : Rose s.write_faults t.write_faults
  pub unsure : s.sure ≡ true → ⊥
  pub output : IsOutput w.outputs name
  pub cut_off : WhereTold s (λ files. IsCutOff w files t name)
  pub behind : WhereTold s (λ files. IsSomeAnd t.held (KeepsBehind w.outputs name files))

-- What is told has its cause.
abbrev pub WriteTells : {J : Type 0} → Writing J → DeskState → DeskState → Message → Type 0
WriteTells w s t (Answer text status) = IsAnswered w s t text status
WriteTells w s t (messages.Refused refusal) = WhereTold s (λ files. IsInputVerdict w files (Refused refusal))
WriteTells w s t (Unread name) = IsUnread w.inputs s t name
WriteTells w s t (Unwritten name) = IsUnwritten w s t name

-- ---- what a command does

-- What it does where the desk tells what it holds.
pub record WritesHeld {J : Type 0} (w : Writing J) (files : Files) (s t : DeskState) (k l : SinkState) (status : ℕ) : Type 0 where
  -- whatever is to be said of the inputs
  pub answer : (v : Verdict J) → IsInputVerdict w files v → Answers w v s t k l status
  pub faultless : (job : J) → IsInputVerdict w files (Accepted job) → DoneIfFaultless w job s t k l status
  -- what is left under the names, whatever the answer
  pub not_begun : (IsAccepted w files → ⊥) → BeginsNone s t
  pub left : (job : J) → IsInputVerdict w files (Accepted job)
      → (new : Files) → t.held ≡ Some new → LeavesPart files w.outputs job new
  pub whole : (job : J) → IsInputVerdict w files (Accepted job) → ShowsWhole w job s t k l status
      → t.held ≡ Some (files_after files w.outputs job)
  -- with a status of its own it did what it promises
  pub done : w.IsOwn status → (job : J) × IsWritten w files t job

-- What it does.
pub record Writes {J : Type 0} (w : Writing J) (s t : DeskState) (k l : SinkState) (status : ℕ) : Type 0 where
  -- what is printed and answered
  pub told : TellsOne (WriteTells w s t) k l status
  pub known : w.IsOwn status ⊎ ((3 ≤ status) × (status ≤ 6))
  -- what is left under the names
  pub rest : Told (KeepsRest w.outputs) s.held t.held
  pub not_begun : (status ≡ 3) ⊎ (status ≡ 4) → BeginsNone s t
  pub held : (files : Files) → s.held ≡ Some files → WritesHeld w files s t k l status
