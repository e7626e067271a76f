-- What a rewriting answers, and what it does to the desk. Theorems cite it.
use Rattle.std.specs.Prelude.{◌≡◌, ℕ, ◌⊎◌, List, Result, Ok, Err}
use Rattle.pun_base.specs.Shown.{DeskState}
use Rattle.pun_base.specs.Desk.{PutResult, Fills}
use Rattle.pun_base.specs.declared.desk.PutError.TheVariants as put
use Rattle.elf_emit.specs.Layout.{layout}
use Rattle.elf_emit.specs.declared.emit.EmitError.TheVariants as emit
use Rattle.patch_report.specs.Values.{ReportValue}
use Rattle.rewrite_core.specs.declared.rewrite.RewriteError.{RewriteError}
use Rattle.rewrite_core.specs.declared.rewrite.RewriteError.TheVariants as rewrite
use Rattle.rewrite_core.specs.Asked.{Asked}
use Rattle.rewrite_core.specs.Judging.{Job, Judges}
use Rattle.rewrite_core.specs.Followed.{IsFollowed}

-- An input that is judged so is judged to be a job for which P holds.
abbrev pub HasJob : {J E : Type 0} → (Result J E → Type 0) → (J → Type 0) → Type 0
HasJob {J = J} Judged P = (j : J) × Judged (Ok j) × P j

-- The name holds a prefix of the job's file, or what it held before.
abbrev pub IsCutOff : {J E : Type 0} → (Result J E → Type 0) → (J → List ℕ) → List ℕ → DeskState → DeskState → PutResult → Type 0
IsCutOff Judged file name s t cause = HasJob Judged (λ j. Fills name (file j) s t cause)

-- What each answer of a rewriting says, where `Is` says what an answer with a job is. A refusal is
-- the one that the input is judged to be, and changes nothing. After a write fault or want of memory
-- the name holds a prefix of the job's file or what it held before; want of memory may come in place
-- of any answer, and may have changed nothing.
abbrev pub RewritesBy : {J R : Type 0} → (Asked → Result J RewriteError → Type 0) → (J → List ℕ)
    → (Asked → List ℕ → DeskState → DeskState → R → J → Type 0)
    → Asked → List ℕ → DeskState → DeskState → Result R RewriteError → Type 0
RewritesBy Judges file Is a name s t (Ok answer) = HasJob (Judges a) (Is a name s t answer)
RewritesBy Judges file Is a name s t (Err (rewrite.Emit emit.WriteFault)) = IsCutOff (Judges a) file name s t (Err put.Failed)
RewritesBy Judges file Is a name s t (Err rewrite.Memory) = (t ≡ s) ⊎ IsCutOff (Judges a) file name s t (Err put.Memory)
RewritesBy Judges file Is a name s t (Err refusal) = Judges a (Err refusal) × (t ≡ s)

-- The written file of a job.
abbrev pub file_of : Job → List ℕ
file_of j = layout j.emit

-- The answer is the report of a job, and the name holds its file, which follows the original.
pub record IsRewritten (a : Asked) (name : List ℕ) (s t : DeskState) (report : ReportValue)
    (j : Job) : Type 0 where
  pub report_is : report ≡ j.report
  pub holds : Fills name (file_of j) s t (Ok tt)
  pub followed : IsFollowed a.file a.starts (file_of j) report

-- What each answer of `rewrite` says.
abbrev pub Rewrites : Asked → List ℕ → DeskState → DeskState → Result ReportValue RewriteError
    → Type 0
Rewrites a name s t r = RewritesBy Judges file_of IsRewritten a name s t r
