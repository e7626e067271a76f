-- What `threads` reads, judges, writes, prints and promises, without a report, with one, and in the loader form. Theorems cite it. In all of it
-- s and t are what the desk shows before and after, k and l what the sink shows.
use Rattle.std.specs.Prelude.{◌≡◌, ℕ, List, [], ◌∷◌, Some, Ok}
use Rattle.pun_base.specs.Shown.{Files, DeskState, SinkState}
use Rattle.pun_base.specs.declared.action.Action.{Action}
use Rattle.pun_base.specs.declared.action.Action.TheVariants.{Count}
use Rattle.guest_threads.specs.ThreadRewriting.{ThreadJob, Judges, IsFollowedInThreads, TellsJob, file_of}
use Rattle.thread_loader.specs.Followed.{ThreadLoaderJob, IsLoaderFollowedInThreads}
use Rattle.thread_loader.specs.Rewriting as loader
use Rattle.command_words.specs.Words.{ThreadNames}
use Rattle.command_io.specs.Refusals.{Rewrite}
use Rattle.command_io.specs.Summary.{summary_text, done_status}
use Rattle.command_io.specs.Inputs.{Inputs, WhereTold}
use Rattle.command_io.specs.Writing.{Verdict, Outputs, Writing, IsInputVerdict, Writes}
use Rattle.command_io.specs.Verdict.{Patching, Form, IsJudgedAs, starts_of, Rewriting, OfTexts, HoldsBytes}
use Rattle.patch_commands.specs.Answers.{IsDone, listed_inputs, TextsFollowed, PatchesIn}
use Rattle.patch_commands.specs.LoadAnswers.{refusal_told}
use Rattle.command_io.specs.declared.report_mode.Mode.TheVariants.{Threaded}

-- What `threads` is given: names, and the ranges in which no new code stands, each by its ends.
pub record ThreadPatching : Type 0 where
  pub names : ThreadNames
  pub reserves : List (ℕ × ℕ)

-- A patch for threads with these names and ranges.
abbrev pub thread_patching : ThreadNames → List (ℕ × ℕ) → ThreadPatching
thread_patching n reserves = record { names = n; reserves = reserves }

-- Each event counts.
abbrev pub threads_rewriting : ThreadPatching → Rewriting ThreadJob
threads_rewriting p = record { action = Count; reserves = p.reserves; Judged = IsJudgedAs Rewrite Judges }

-- FILE, STARTS and SITES are read in this order.
abbrev pub threads_inputs : ThreadNames → Inputs
threads_inputs n = listed_inputs n.file n.starts n.sites

-- OUT is written.
abbrev pub threads_outputs : ThreadNames → Outputs ThreadJob
threads_outputs n = (n.out, file_of) ∷ []

-- What is promised of FILE's bytes, the addresses of STARTS and the job: with any number of threads, in each run that meets the premises, the
-- patched file runs as the original does, and each counter tells how often its site was run where the action's condition held, or each byte
-- whether it was, or a ring which sites were run last.
abbrev pub FollowsInThreads : Action → List ℕ → List ℕ → ThreadJob → Type 0
FollowsInThreads action file starts job = IsFollowedInThreads action file starts (file_of job) job.private job.rows

-- `threads`, with what it is given.
abbrev pub threads_writing : ThreadPatching → Writing ThreadJob
threads_writing p = record {
  inputs = threads_inputs p.names;
  Judges = OfTexts (threads_rewriting p);
  outputs = threads_outputs p.names;
  text = λ job. summary_text job.rows;
  status = λ job. done_status job.rows;
  IsOwn = IsDone;
  Promises = TextsFollowed (FollowsInThreads Count);
}

-- There is one verdict at most.
abbrev pub ThreadsHaveOneVerdict : Type 0
ThreadsHaveOneVerdict =
    (files : Files) (p : ThreadPatching) (v w : Verdict ThreadJob) → HoldsBytes files p.names.file
    → IsInputVerdict (threads_writing p) files v → IsInputVerdict (threads_writing p) files w → v ≡ w

-- What is promised, of the files before and after. FILE held an original and STARTS the list of its instructions; OUT holds the file of a job,
-- which follows the original.
pub record FilesFollowedInThreads (n : ThreadNames) (old new : Files) : Type 0 where
  pub file : List ℕ
  pub starts : List ℕ
  pub job : ThreadJob
  pub held_file : old n.file ≡ Some file
  pub held_starts : old n.starts ≡ Some starts
  pub holds_out : new n.out ≡ Some (file_of job)
  -- the addresses that the text of STARTS lists
  pub list : List ℕ
  pub listed : starts_of starts ≡ Ok list
  pub followed : FollowsInThreads Count file list job

-- What `threads` does, with what it is given.
pub record PatchesThreads (p : ThreadPatching) (s t : DeskState) (k l : SinkState) (status : ℕ) : Type 0 where
  pub writes : Writes (threads_writing p) s t k l status
  -- what is promised of the patched file
  pub followed : WhereTold s (λ files. (new : Files) → t.held ≡ Some new → IsDone status → FilesFollowedInThreads p.names files new)

-- ---- with a report

-- What is promised with a report: the report is of the job, and all else is as without one.
pub record FollowsReported (action : Action) (file starts : List ℕ) (job : ThreadJob) : Type 0 where
  pub of_job : TellsJob action job job.report
  pub followed : FollowsInThreads action file starts job

-- The form of `threads` with a report, with an action: the report is in the mode of threads.
abbrev pub for_threads : Action → Form ThreadJob
for_threads action = record {
  Judged = IsJudgedAs Rewrite Judges;
  file = file_of;
  mode = Threaded;
  report = λ job. job.report;
  Follows = FollowsReported action;
}

-- What `threads` does with a report, with what it is given.
abbrev pub PatchesReported : Action → Patching → DeskState → DeskState → SinkState → SinkState → ℕ → Type 0
PatchesReported action p s t k l status = PatchesIn (for_threads action) p s t k l status

-- ---- in the loader form, with a report

-- What is promised in the loader form: the report is of the job; the stub leads to the original's entry, and from there all is as in the other
-- form.
pub record FollowsLoaded (action : Action) (file starts : List ℕ) (job : ThreadLoaderJob) : Type 0 where
  pub of_job : TellsJob action job.job job.job.report
  pub followed : IsLoaderFollowedInThreads action file starts job

-- The loader form of `threads`: a stub in the patched file maps the pages for code, and goes to where the original starts.
abbrev pub for_threads_with_stub : Action → Form ThreadLoaderJob
for_threads_with_stub action = record {
  Judged = IsJudgedAs refusal_told loader.Judges;
  file = loader.file_of;
  mode = Threaded;
  report = λ job. job.job.report;
  Follows = FollowsLoaded action;
}

-- What `threads` does in the loader form, with what it is given.
abbrev pub LoadsThreads : Action → Patching → DeskState → DeskState → SinkState → SinkState → ℕ → Type 0
LoadsThreads action p s t k l status = PatchesIn (for_threads_with_stub action) p s t k l status
