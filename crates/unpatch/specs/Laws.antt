-- That a written file is undone, and what the answers of `restore` tell. Theorems cite it.
use Rattle.std.specs.Prelude.{◌≡◌, ℕ, ◌+◌, ◌<◌, ◌≤◌, true, false, not, ◌&&◌, ◌==◌, List, length, map, slice_index, Option, Some, None, option_map}
use Rattle.std.specs.List.{AllByRecursion, list_any}
use Rattle.elf_read.specs.Entries.{table_place, table_count, entry_of}
use Rattle.elf_read.specs.Image.{image_of}
use Rattle.elf_emit.specs.Job.{BytesAt, Frame}
use Rattle.elf_emit.specs.Frames.{count, layout}
use Rattle.elf_emit.specs.FrameLaws.{IsFrame, PairsByRecursion}
use Rattle.patch_report.specs.Runs.{runs, in_run}
use Rattle.patch_report.specs.Values.{ReportValue, WriteValue}
use Rattle.unpatch.specs.declared.error.UnpatchError.{UnpatchError}
use Rattle.unpatch.specs.declared.error.UnpatchError.TheVariants.{Memory}
use Rattle.unpatch.specs.Refusals.{refusal, Refused, Undoes, is_there, least_missing}

-- What a run writes.
abbrev pub written_of : WriteValue → BytesAt
written_of w = record { addr = w.addr; now = w.now }

-- A run has as many new bytes as old ones, which are the file's where it is loaded.
pub record IsOver (file : List ℕ) (w : WriteValue) : Type 0 where
  pub even : length w.now ≡ length w.was
  pub was : (k : ℕ) → k < length w.was → option_map (λ c. c.byte) (image_of file (w.addr + k)) ≡ Some (slice_index w.was k)

-- No address is in both runs.
abbrev pub RunsApart : WriteValue → WriteValue → Type 0
RunsApart v w = (x : ℕ) → in_run x v ≡ true → in_run x w ≡ false

-- A report tells what a file was, and the bytes that runs over it had.
pub record Tells (file : List ℕ) (report : ReportValue) : Type 0 where
  pub origin : report.origin
      ≡ Some (record { len = length file; phoff = table_place file; phnum = table_count file; entry = entry_of file })
  pub over : AllByRecursion (IsOver file) (runs report.body)
  pub apart : PairsByRecursion RunsApart (runs report.body)

-- No refusal holds of a written file and its report, and the file undone is the original.
pub record IsUndone (orig file : List ℕ) (report : ReportValue) : Type 0 where
  pub accepted : refusal file report ≡ None
  pub undone : Undoes file report orig

-- Whatever stands behind the private range: of the file that is written for an original and the runs of a report that tells it.
abbrev pub FrameIsUndone : Type 0
FrameIsUndone =
    (f : Frame) (report : ReportValue) → IsFrame f → count f ≤ 1024 → f.writes ≡ map written_of (runs report.body)
    → Tells f.orig report → IsUndone f.orig (layout f) report

-- So an answer of `restore` is the original, or there was no memory.
abbrev pub IsGivenBack : List ℕ → List ℕ → ReportValue → Type 0
IsGivenBack orig file report =
    ((e : UnpatchError) → Refused file report e → e ≡ Memory)
    × ((bytes : List ℕ) → Undoes file report bytes → bytes ≡ orig)

-- So it is of each original that a file is undone to.
abbrev pub UndoneIsGivenBack : Type 0
UndoneIsGivenBack = (orig file : List ℕ) (report : ReportValue) → IsUndone orig file report → IsGivenBack orig file report

-- What is given back has as many bytes as the report tells that the original had.
abbrev pub LengthIsTold : Type 0
LengthIsTold =
    (file : List ℕ) (report : ReportValue) (bytes : List ℕ) → refusal file report ≡ None → Undoes file report bytes
    → option_map (λ o. o.len) report.origin ≡ Some (length bytes)

-- The address that the third refusal tells is the least at which a file hasn't one of the bytes.
abbrev pub IsMissing : List ℕ → List (ℕ × ℕ) → ℕ → Type 0
IsMissing file ps a = list_any (λ p. (p.0 == a) && not (is_there file p)) ps ≡ true

-- The least number of which something holds; none where it holds of none.
abbrev pub IsLeastOf : (ℕ → Type 0) → Option ℕ → Type 0
IsLeastOf P None = (a : ℕ) → P a → ⊥
IsLeastOf P (Some a) = P a × ((b : ℕ) → P b → a ≤ b)

-- The address that is told is the least that is missing, and none is told where none is.
abbrev pub LeastIsTold : Type 0
LeastIsTold = (file : List ℕ) (ps : List (ℕ × ℕ)) → IsLeastOf (IsMissing file ps) (least_missing file ps)
