-- What a rewriting into the loader form answers, and what it does to the desk. Theorems cite it.
use Rattle.std.specs.Prelude.{◌≡◌, ℕ, ◌⊎◌, List, Result, Ok, Err}
use Rattle.pun_base.specs.Shown.{DeskState}
use Rattle.pun_base.specs.Desk.{Fills}
use Rattle.pun_base.specs.declared.desk.PutError.TheVariants as put
use Rattle.elf_emit.specs.declared.emit.EmitError.TheVariants as emit
use Rattle.patch_report.specs.Values.{ReportValue}
use Rattle.rewrite_core.specs.declared.rewrite.RewriteError.TheVariants as rewrite
use Rattle.rewrite_core.specs.Asked.{Asked}
use Rattle.rewrite_core.specs.Rewrites.{HasJob, IsCutOff}
use Rattle.rewrite_loader.specs.declared.error.LoaderError.{LoaderError}
use Rattle.rewrite_loader.specs.declared.error.LoaderError.TheVariants.{Rewrite}
use Rattle.rewrite_loader.specs.Judging.{LoaderJob, file_of, Judges}
use Rattle.rewrite_loader.specs.Followed.{IsLoaderFollowed}

-- What each answer of a rewriting into the loader form says, where `Is` says what an answer with a
-- job is. A refusal is the one that the input is judged to be, and changes nothing. After a write
-- fault or want of memory the name holds a prefix of the file or what it held before; want of memory
-- may come in place of any answer, and may have changed nothing.
abbrev pub LoadsBy : {J R : Type 0} → (Asked → Result J LoaderError → Type 0) → (J → List ℕ)
    → (Asked → List ℕ → DeskState → DeskState → R → J → Type 0)
    → Asked → List ℕ → DeskState → DeskState → Result R LoaderError → Type 0
LoadsBy Judges file Is a name s t (Ok answer) = HasJob (Judges a) (Is a name s t answer)
LoadsBy Judges file Is a name s t (Err (Rewrite (rewrite.Emit emit.WriteFault))) = IsCutOff (Judges a) file name s t (Err put.Failed)
LoadsBy Judges file Is a name s t (Err (Rewrite rewrite.Memory)) = (t ≡ s) ⊎ IsCutOff (Judges a) file name s t (Err put.Memory)
LoadsBy Judges file Is a name s t (Err refusal) = Judges a (Err refusal) × (t ≡ s)

-- The answer is the report of a job, and the name holds its file, which follows the original.
pub record IsRewritten (a : Asked) (name : List ℕ) (s t : DeskState) (report : ReportValue) (j : LoaderJob) : Type 0 where
  pub report_is : report ≡ j.job.report
  pub holds : Fills name (file_of j) s t (Ok tt)
  pub followed : IsLoaderFollowed a.file a.starts j report

-- What each answer of `rewrite_loader` says.
abbrev pub Rewrites : Asked → List ℕ → DeskState → DeskState → Result ReportValue LoaderError → Type 0
Rewrites a name s t r = LoadsBy Judges file_of IsRewritten a name s t r
