-- What a test knows of a file of the loader form that it wrote. Contracts of private functions alone cite it.
use Rattle.std.specs.Prelude.{◌≡◌, ℕ, ◌≤◌, List, [], ◌∷◌, Option, Some, None, Result, Ok, Err}
use Rattle.pun_base.specs.Shown.{DeskState}
use Rattle.pun_base.specs.Desk.{Fills}
use Rattle.pun_base.specs.declared.range.Range.{Range}
use Rattle.elf_emit.specs.Job.{Job}
use Rattle.elf_emit.specs.Frames as frames
use Rattle.elf_emit.specs.Laws.{IsJob}
use Rattle.loader_form.specs.declared.error.LoadError.{LoadError}
use Rattle.loader_form.specs.Laid.{Laid, loader_frame, file_of, IsLaid}

-- It was written under the name O for such an original, with the stub there.
pub record IsWritten (file : List ℕ) (stub : Range) (s t : DeskState) : Type 0 where
  pub job : Job
  pub laid : Laid
  pub is_job : IsJob job
  pub is_laid : IsLaid job laid
  pub few : frames.count (loader_frame job laid) ≤ 1024
  pub original : job.orig ≡ file
  pub at : laid.at ≡ stub.lo
  pub fills : Fills (0x4F ∷ []) (file_of job laid) s t (Ok tt)

-- What is known where a call wrote a file; where it didn't, nothing.
abbrev pub Writes : List ℕ → DeskState → DeskState → Option (Result (Range × Range) LoadError) → Type 0
Writes file s t (Some (Ok places)) = IsWritten file places.0 s t
Writes file s t (Some (Err error)) = Unit {0}
Writes file s t None = Unit {0}
