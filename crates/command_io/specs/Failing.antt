-- How a command ends, before anything is printed, and what reading its inputs says. Theorems cite it. s and t are what the desk shows
-- before and after.
use Rattle.std.specs.Prelude.{◌≡◌, ℕ, ◌<◌, ◌≤◌, Bool, true, List, length, Option, Some, None, Result, Ok, Err, IsSomeAnd}
use Rattle.pun_base.specs.Shown.{Files, DeskState, Rose}
use Rattle.command_io.specs.Refusals as refusals
use Rattle.command_io.specs.Refusals.{Refusal}
use Rattle.command_io.specs.Messages as messages
use Rattle.command_io.specs.Messages.{Message}
use Rattle.command_io.specs.Endings.{refusal_of}
use Rattle.command_io.specs.Inputs.{most, Inputs, IsNamed, IsReached, Missing, All, gathered, OnlyReads}
use Rattle.command_io.specs.Inspecting.{Refusing, Telling, RefusesAll, TellsAll}
use Rattle.list_text.specs.declared.refusal.ListError.{ListError}
use Rattle.list_text.specs.declared.refusal.ListError.TheVariants as list
use Rattle.image_step.specs.declared.error.ScriptError.{ScriptError}
use Rattle.image_step.specs.declared.error.ScriptError.TheVariants as script
use Rattle.image_step.specs.declared.runner_error.RunnerError.{RunnerError}
use Rattle.image_step.specs.declared.runner_error.RunnerError.TheVariants as runner
use Rattle.patch_report.specs.declared.error.ReportError.{ReportError}
use Rattle.patch_report.specs.declared.error.ReportError.TheVariants as report
use Rattle.elf_read.specs.declared.refusal.ElfError.{ElfError}
use Rattle.elf_read.specs.declared.refusal.ElfError.TheVariants as elf
use Rattle.start_entries.specs.declared.refusal.StartError.{StartError}
use Rattle.start_entries.specs.declared.refusal.StartError.TheVariants as start
use Rattle.elf_emit.specs.declared.emit.EmitError.TheVariants as emit
use Rattle.rewrite_core.specs.declared.rewrite.RewriteError.{RewriteError}
use Rattle.rewrite_core.specs.declared.rewrite.RewriteError.TheVariants as rewrite
use Rattle.unpatch.specs.declared.error.UnpatchError.{UnpatchError}
use Rattle.unpatch.specs.declared.error.UnpatchError.TheVariants as undo
use Rattle.loader_form.specs.declared.error.LoadError.{LoadError}
use Rattle.loader_form.specs.declared.error.LoadError.TheVariants as load
use Rattle.rewrite_loader.specs.declared.error.LoaderError.{LoaderError}
use Rattle.rewrite_loader.specs.declared.error.LoaderError.TheVariants as loader
use Rattle.settle.specs.declared.error.SettleError.{SettleError}
use Rattle.settle.specs.declared.error.SettleError.TheVariants as settle
use Rattle.settle.specs.declared.error.UnsettleError.{UnsettleError}
use Rattle.settle.specs.declared.error.UnsettleError.TheVariants as unsettle
use Rattle.command_io.specs.declared.ends.Input.{Input}
use Rattle.command_io.specs.declared.ends.Told.{Told}
use Rattle.command_io.specs.declared.ends.Failure.{Failure}
use Rattle.command_io.specs.declared.ends.Failure.TheVariants as failure

-- Why a command has nothing to tell.
pub data Failed : Type 0 where
  Refused : (r : Refusal) → Failed
  Unread : (name : List ℕ) → Failed
  Unwritten : (name : List ℕ) → Failed
  NoMemory : Failed

-- What the code holds of it.
abbrev pub failed_of : Failure → Failed
failed_of (failure.Refused r) = Refused (refusal_of r)
failed_of (failure.ReadFault name) = Unread name.now
failed_of (failure.WriteFault name) = Unwritten name.now
failed_of failure.Memory = NoMemory

-- A result seen by a view of its value.
abbrev pub seen_as : {V X : Type 0} → (V → X) → Result V Failure → Result X Failed
seen_as view (Ok v) = Ok (view v)
seen_as view (Err e) = Err (failed_of e)

-- ---- one input

-- What the read of one input says of the files that the desk holds.
abbrev pub OneSays : Files → Bool → Input → List ℕ → Result (List ℕ) Failed → Type 0
OneSays files sure which name (Ok bytes) = (files name ≡ Some bytes) × (length bytes ≤ most)
OneSays files sure which name (Err (Refused r)) = (r ≡ refusals.TooLong which) × IsSomeAnd (files name) (λ bytes. most < length bytes)
OneSays files sure which name (Err (Unread other)) = (other ≡ name) × (sure ≡ true → files name ≡ None)
OneSays files sure which name (Err (Unwritten other)) = ⊥
OneSays files sure which name (Err NoMemory) = Unit {0}

-- A read fault has its cause.
abbrev pub OneCause : List ℕ → DeskState → DeskState → Result (List ℕ) Failed → Type 0
OneCause name s t (Err (Unread other)) = (other ≡ name) × Rose s.read_faults t.read_faults
OneCause name s t (Err (Unwritten other)) = ⊥
OneCause name s t other = Unit {0}

-- One input was read, or couldn't be.
pub record ReadsOne (which : Input) (name : List ℕ) (s t : DeskState) (result : Result (List ℕ) Failed) : Type 0 where
  pub only : OnlyReads s t
  pub says : (files : Files) → s.held ≡ Some files → OneSays files s.sure which name result
  pub cause : OneCause name s t result

-- ---- all inputs

-- What a failure says of the files, where the inputs are refused by this rule.
abbrev pub FailureSays : (Refusal → Type 0) → Files → Bool → Inputs → Failed → Type 0
FailureSays Refuses files sure xs (Refused r) = Refuses r
FailureSays Refuses files sure xs (Unread name) =
    IsReached files xs name × (sure ≡ true → (files name ≡ None) × (gathered files xs ≡ Missing name))
FailureSays Refuses files sure xs (Unwritten name) = ⊥
FailureSays Refuses files sure xs NoMemory = Unit {0}

-- A read fault has its cause, and its name is that of an input.
abbrev pub FailureCause : Inputs → DeskState → DeskState → Failed → Type 0
FailureCause xs s t (Unread name) = IsNamed xs name × Rose s.read_faults t.read_faults
FailureCause xs s t (Unwritten name) = ⊥
FailureCause xs s t other = Unit {0}

-- What is so of a failure, where there is one.
abbrev pub IfFailed : {X : Type 0} → (Failed → Type 0) → Result X Failed → Type 0
IfFailed P (Ok x) = Unit {0}
IfFailed P (Err e) = P e

-- No text is refused yet.
abbrev pub none_refused : Refusing
none_refused texts r = ⊥

-- What the reads of all inputs say.
abbrev pub AllSay : Files → Bool → Inputs → Result (List (List ℕ)) Failed → Type 0
AllSay files sure xs (Ok texts) = gathered files xs ≡ All texts
AllSay files sure xs (Err e) = FailureSays (RefusesAll none_refused (gathered files xs)) files sure xs e

-- All inputs were read, or reading them failed.
pub record Gathers (xs : Inputs) (s t : DeskState) (result : Result (List (List ℕ)) Failed) : Type 0 where
  pub only : OnlyReads s t
  pub says : (files : Files) → s.held ≡ Some files → AllSay files s.sure xs result
  pub cause : IfFailed (FailureCause xs s t) result

-- ---- a whole command that only reads, apart from what is printed

-- A text that is to be printed, and the status that is answered with it.
abbrev pub Answer : Type 0
Answer = List ℕ × ℕ

-- What the texts of all inputs come to.
abbrev pub Judges : Refusing → Telling → List (List ℕ) → Result Answer Failed → Type 0
Judges Refuses Tells texts (Ok a) = Tells texts a.0 a.1
Judges Refuses Tells texts (Err (Refused r)) = Refuses texts r
Judges Refuses Tells texts (Err NoMemory) = Unit {0}
Judges Refuses Tells texts (Err other) = ⊥

-- What the end of a command that only reads says of the files.
abbrev pub EndSays : Refusing → Telling → Files → Bool → Inputs → Result Answer Failed → Type 0
EndSays Refuses Tells files sure xs (Ok a) = TellsAll Tells (gathered files xs) a.0 a.1
EndSays Refuses Tells files sure xs (Err e) = FailureSays (RefusesAll Refuses (gathered files xs)) files sure xs e

-- A failure has its cause, and another status is the command's own.
abbrev pub EndCause : (ℕ → Type 0) → Inputs → DeskState → DeskState → Result Answer Failed → Type 0
EndCause IsOwn xs s t (Ok a) = IsOwn a.1
EndCause IsOwn xs s t (Err e) = FailureCause xs s t e

-- A command that only reads answered so, or failed.
pub record Answers (xs : Inputs) (Refuses : Refusing) (Tells : Telling) (IsOwn : ℕ → Type 0) (s t : DeskState) (result : Result Answer Failed) : Type 0 where
  pub only : OnlyReads s t
  pub says : (files : Files) → s.held ≡ Some files → EndSays Refuses Tells files s.sure xs result
  pub cause : EndCause IsOwn xs s t result

-- ---- what is printed

-- What is told at an end; after want of memory nothing.
abbrev pub end_message : Result Answer Failed → Option Message
end_message (Ok a) = Some (messages.Answer a.0 a.1)
end_message (Err (Refused r)) = Some (messages.Refused r)
end_message (Err (Unread name)) = Some (messages.Unread name)
end_message (Err (Unwritten name)) = Some (messages.Unwritten name)
end_message (Err NoMemory) = None

-- The status that is answered at an end, where the sink doesn't fail and memory doesn't run out.
abbrev pub end_status : Result Answer Failed → ℕ
end_status (Ok a) = a.1
end_status (Err (Refused r)) = 3
end_status (Err (Unread name)) = 4
end_status (Err (Unwritten name)) = 5
end_status (Err NoMemory) = 6

-- What the code tells as a text with its status.
abbrev pub told_of : Told → Answer
told_of t = (t.text.items, t.status)

-- ---- how what a lower call refuses is told

-- What a rewriting's error is told as: a refusal, a fault at OUT, or want of memory.
abbrev pub rewrite_failed : List ℕ → RewriteError → Failed
rewrite_failed out (rewrite.Emit emit.WriteFault) = Unwritten out
rewrite_failed out (rewrite.Emit emit.Memory) = NoMemory
rewrite_failed out rewrite.Memory = NoMemory
rewrite_failed out error = Refused (refusals.Rewrite error)

-- What an undoing's error is told as.
abbrev pub undo_failed : UnpatchError → Failed
undo_failed undo.Memory = NoMemory
undo_failed error = Refused (refusals.Undo error)

-- What a list's error is told as.
abbrev pub list_failed : Input → ListError → Failed
list_failed which list.Memory = NoMemory
list_failed which error = Refused (refusals.BadList which error)

-- What a world script's error is told as.
abbrev pub script_failed : ScriptError → Failed
script_failed script.Memory = NoMemory
script_failed error = Refused (refusals.BadScript error)

-- What a report's error is told as.
abbrev pub report_failed : ReportError → Failed
report_failed report.Memory = NoMemory
report_failed error = Refused (refusals.BadReport error)

-- What a file's error is told as.
abbrev pub file_failed : Input → ElfError → Failed
file_failed which elf.Memory = NoMemory
file_failed which error = Refused (refusals.BadFile which error)

-- What a start's error is told as.
abbrev pub start_failed : StartError → Failed
start_failed start.Memory = NoMemory
start_failed error = Refused (refusals.BadStart error)

-- What a runner's error is told as.
abbrev pub runner_failed : RunnerError → Failed
runner_failed runner.Memory = NoMemory
runner_failed error = Refused (refusals.Meets error)

-- What the error of a stub that can't be laid is told as.
abbrev pub load_failed : LoadError → Failed
load_failed load.Memory = NoMemory
load_failed error = Refused (refusals.Load error)

-- What the error of a rewriting into the loader form is told as.
abbrev pub loader_failed : List ℕ → LoaderError → Failed
loader_failed out (loader.Rewrite error) = rewrite_failed out error
loader_failed out (loader.Load error) = load_failed error

-- What a settling's error is told as.
abbrev pub settle_failed : SettleError → Failed
settle_failed settle.Memory = NoMemory
settle_failed error = Refused (refusals.Settle error)

-- What an unsettling's error is told as.
abbrev pub unsettle_failed : UnsettleError → Failed
unsettle_failed unsettle.Memory = NoMemory
unsettle_failed error = Refused (refusals.Unsettle error)
