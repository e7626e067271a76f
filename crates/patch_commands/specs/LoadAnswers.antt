-- What `load` judges, writes and promises: it is `patch` in another form of the patched file. Theorems cite it. In all of it s and t are
-- what the desk shows before and after, k and l what the sink shows.
use Rattle.std.specs.Prelude.{ℕ}
use Rattle.pun_base.specs.Shown.{DeskState, SinkState}
use Rattle.rewrite_loader.specs.declared.error.LoaderError.{LoaderError}
use Rattle.rewrite_loader.specs.declared.error.LoaderError.TheVariants as loader
use Rattle.rewrite_loader.specs.Judging.{LoaderJob, file_of, Judges}
use Rattle.rewrite_loader.specs.Followed.{IsLoaderFollowed}
use Rattle.command_io.specs.Refusals.{Refusal, Rewrite, Load}
use Rattle.command_io.specs.Verdict.{Patching, Form, IsJudgedAs}
use Rattle.command_io.specs.declared.report_mode.Mode.TheVariants.{Plain}
use Rattle.patch_commands.specs.Answers.{PatchesIn}

-- The refusal that an error of rewriting into the loader form is told as.
abbrev pub refusal_told : LoaderError → Refusal
refusal_told (loader.Rewrite error) = Rewrite error
refusal_told (loader.Load error) = Load error

-- The loader form: a stub in the patched file maps the pages for code, and goes to where the original starts.
abbrev pub with_stub : Form LoaderJob
with_stub = record {
  Judged = IsJudgedAs refusal_told Judges;
  file = file_of;
  mode = Plain;
  report = λ job. job.job.report;
  Follows = λ file starts job. IsLoaderFollowed file starts job job.job.report;
}

-- What `load` does, with what it is given.
abbrev pub Loads : Patching → DeskState → DeskState → SinkState → SinkState → ℕ → Type 0
Loads p s t k l status = PatchesIn with_stub p s t k l status
