-- What the commands that write a patched file and its report do in each form of the file. Theorems cite it.
use Rattle.std.specs.Prelude.{◌≡◌, List, ℕ, map, Result, Ok, Err}
use Rattle.pun_base.specs.Shown.{DeskState}
use Rattle.pun_base.specs.Ranges.{ends}
use Rattle.pun_base.specs.declared.action.Action.{Action}
use Rattle.patch_report.specs.Values.{ReportValue}
use Rattle.site_turns.specs.Modes.{IsShared}
use Rattle.rewrite_core.specs.Asked.{Asked}
use Rattle.rewrite_core.specs.Judging.{Job}
use Rattle.rewrite_core.specs.Rewrites.{Rewrites}
use Rattle.rewrite_loader.specs.Judging.{LoaderJob}
use Rattle.rewrite_loader.specs.Rewrites as loader
use Rattle.guest_threads.specs.ThreadRewriting.{ThreadJob, ReportsThreads}
use Rattle.thread_loader.specs.Followed.{ThreadLoaderJob}
use Rattle.thread_loader.specs.Rewriting as thread_loader
use Rattle.command_words.specs.Named.{names_of}
use Rattle.command_io.specs.Writing.{Writing}
use Rattle.command_io.specs.Verdict as verdict
use Rattle.command_io.specs.Verdict.{Patching, patching, plain}
use Rattle.command_io.specs.declared.report_mode.Mode.{Mode}
use Rattle.command_io.specs.declared.report_mode.Mode.TheVariants as mode
use Rattle.command_io.specs.Failing.{Failed, rewrite_failed, loader_failed}
use Rattle.patch_commands.specs.Answers.{form_writing}
use Rattle.patch_commands.specs.LoadAnswers.{with_stub}
use Rattle.patch_commands.specs.ThreadsAnswers.{for_threads, for_threads_with_stub}
use Rattle.patch_commands.specs.declared.patching.Form.{Form}
use Rattle.patch_commands.specs.declared.patching.Form.TheVariants.{Plain, WithStub, ForThreads, ForThreadsWithStub}
use Rattle.patch_commands.specs.declared.patching.Given.{Given}

-- What each event does in a form.
abbrev pub action_in : Form → Action
action_in (Plain action) = action
action_in (WithStub action) = action
action_in (ForThreads action) = action
action_in (ForThreadsWithStub action) = action

-- In the forms for threads, these can get the events of the action.
abbrev pub IsSharedIn : Form → Type 0
IsSharedIn (Plain action) = Unit {0}
IsSharedIn (WithStub action) = Unit {0}
IsSharedIn (ForThreads action) = IsShared action
IsSharedIn (ForThreadsWithStub action) = IsShared action

-- What the rewriting in a form comes to.
abbrev pub job_in : Form → Type 0
job_in (Plain action) = Job
job_in (WithStub action) = LoaderJob
job_in (ForThreads action) = ThreadJob
job_in (ForThreadsWithStub action) = ThreadLoaderJob

-- The form itself, as `patch` and its like have it.
abbrev pub form_in : (f : Form) → verdict.Form (job_in f)
form_in (Plain action) = plain
form_in (WithStub action) = with_stub
form_in (ForThreads action) = for_threads action
form_in (ForThreadsWithStub action) = for_threads_with_stub action

-- The mode of a form's report.
abbrev pub mode_in : Form → Mode
mode_in (Plain action) = mode.Plain
mode_in (WithStub action) = mode.Plain
mode_in (ForThreads action) = mode.Threaded
mode_in (ForThreadsWithStub action) = mode.Threaded

-- Patching in a form.
abbrev pub writing_in : (f : Form) → Patching → Writing (job_in f)
writing_in f p = form_writing (form_in f) p

-- What is given, apart from the form.
abbrev pub patching_of : Given → Patching
patching_of g = patching (names_of g.names.now) (action_in g.form) (map ends g.reserves.now)

-- This is so of a result whose error was told as a failure.
abbrev pub ToldAs : {X E : Type 0} → (E → Failed) → (Result X E → Type 0) → Result X Failed → Type 0
ToldAs told Is (Ok x) = Is (Ok x)
ToldAs {E = E} told Is (Err e) = (error : E) × (e ≡ told error) × Is (Err error)

-- What a rewriting in a form answers, and what it does to the desk.
abbrev pub RewritesIn : Form → Asked → (out : List ℕ) → DeskState → DeskState → Result ReportValue Failed → Type 0
RewritesIn (Plain action) a out s t = ToldAs (rewrite_failed out) (Rewrites a out s t)
RewritesIn (WithStub action) a out s t = ToldAs (loader_failed out) (loader.Rewrites a out s t)
RewritesIn (ForThreads action) a out s t = ToldAs (rewrite_failed out) (ReportsThreads a out s t)
RewritesIn (ForThreadsWithStub action) a out s t = ToldAs (loader_failed out) (thread_loader.LoadsThreads a out s t)
