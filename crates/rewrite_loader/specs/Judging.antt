-- How an input of the loader form is judged: its job, or why it is refused. A kind of rewriting has jobs of its own: `Is` says which of them a
-- request has, and `writing` what is to be written of one. Theorems cite it.
use Rattle.std.specs.Prelude.{◌≡◌, ℕ, ◌+◌, ◌<◌, ◌≤◌, List, ◌∷◌, ◌++◌, length, map, Result, Ok, Err}
use Rattle.pun_base.specs.declared.range.Range.{Range}
use Rattle.elf_read.specs.Entries.{segments}
use Rattle.address_space.specs.declared.extent.Extent.{Extent}
use Rattle.elf_emit.specs.Frames as frames
use Rattle.elf_emit.specs.Job as written
use Rattle.elf_emit.specs.Layout.{runs_of}
use Rattle.elf_emit.specs.declared.emit.EmitError.TheVariants as emit
use Rattle.site_turns.specs.Planning.{Request}
use Rattle.site_turns.specs.PrivateRange.{taken_first}
use Rattle.rewrite_core.specs.declared.rewrite.RewriteError.TheVariants as rewrite
use Rattle.rewrite_core.specs.Asked.{Asked}
use Rattle.rewrite_core.specs.Judging.{Job, IsJobFor, writing_of, JudgesPlanBy}
use Rattle.loader_form.specs.declared.error.LoadError.TheVariants as load
use Rattle.loader_form.specs.LoaderState.{LoaderState}
use Rattle.loader_form.specs.Laid as laid
use Rattle.loader_form.specs.Lay.{IsLoader, Lays, laid_of}
use Rattle.rewrite_loader.specs.declared.error.LoaderError.{LoaderError}
use Rattle.rewrite_loader.specs.declared.error.LoaderError.TheVariants.{Rewrite, Load}

-- A job of rewriting, and where its stub and save page stand.
pub record LaidJob (J : Type 0) : Type 0 where
  pub job : J
  pub laid : laid.Laid

-- The written file of a laid job.
abbrev pub file_by : {J : Type 0} → (J → written.Job) → LaidJob J → List ℕ
file_by writing k = laid.file_of (writing k.job) k.laid

-- How many entries the table of a laid job's file needs.
abbrev pub entry_count : {J : Type 0} → (J → written.Job) → LaidJob J → ℕ
entry_count writing k = frames.count (laid.loader_frame (writing k.job) k.laid)

-- The addresses of bytes that stand from an address on.
abbrev pub extent_at : written.BytesAt → Extent
extent_at piece = record { lo = piece.addr; hi = piece.addr + length piece.now }

-- What is taken once the sites are planned: the private range, the code, where the original is loaded, and what is reserved.
abbrev pub taken_by : written.Job → List Range → List Extent
taken_by j reserves =
    record { lo = j.private_lo; hi = j.private_hi } ∷ (map extent_at j.pieces ++ taken_first (segments j.orig) reserves)

-- How many runs of pages the stub maps.
abbrev pub run_count : written.Job → ℕ
run_count j = length (runs_of j.pages)

-- The stub is laid at the least free pages that hold it, and the save page at the least free page
-- that is then left.
abbrev pub IsLaidFor : List Range → written.Job → LoaderState → Type 0
IsLaidFor reserves j l = IsLoader (taken_by j reserves) (run_count j) l

-- The job with the stub and save page that were laid for it.
abbrev pub with_loader : {J : Type 0} → J → LoaderState → LaidJob J
with_loader j l = record { job = j; laid = laid_of l }

-- What a planned job is judged to be: first by whether its stub can be laid, and then by the table of its file.
abbrev pub JudgesLaid : {J : Type 0} → (J → written.Job) → List Range → J → Result (LaidJob J) LoaderError → Type 0
JudgesLaid writing reserves j (Err (Load load.Memory)) = ⊥
JudgesLaid writing reserves j (Err (Load error)) = Lays (taken_by (writing j) reserves) (run_count (writing j)) (Err error)
JudgesLaid writing reserves j (Err (Rewrite (rewrite.Emit (emit.TooManySegments n)))) =
    (l : LoaderState) × IsLaidFor reserves (writing j) l × (1024 < entry_count writing (with_loader j l)) × (n ≡ entry_count writing (with_loader j l))
JudgesLaid writing reserves j (Err other) = ⊥
JudgesLaid writing reserves j (Ok k) =
    (l : LoaderState) × IsLaidFor reserves (writing j) l × (k ≡ with_loader j l) × (entry_count writing k ≤ 1024)

-- The input is planned as a job that is judged by its stub and table with this verdict.
abbrev pub JudgesPlanned : {J : Type 0} → (Request → J → Type 0) → (J → written.Job) → Asked → Result (LaidJob J) LoaderError → Type 0
JudgesPlanned {J = J} Is writing a v = (j : J) × JudgesPlanBy Is a (Ok j) × JudgesLaid writing a.reserves j v

-- What an input is judged to be: first by its plan, as for any rewriting, then by where its stub is
-- laid, and then by the table of its file. Want of memory and faults of the desk are no verdicts.
abbrev pub JudgesLoaderBy : {J : Type 0} → (Request → J → Type 0) → (J → written.Job) → Asked → Result (LaidJob J) LoaderError → Type 0
JudgesLoaderBy Is writing a (Err (Rewrite (rewrite.Emit error))) = JudgesPlanned Is writing a (Err (Rewrite (rewrite.Emit error)))
JudgesLoaderBy Is writing a (Err (Rewrite error)) = JudgesPlanBy Is a (Err error)
JudgesLoaderBy Is writing a (Err (Load error)) = JudgesPlanned Is writing a (Err (Load error))
JudgesLoaderBy Is writing a (Ok k) = JudgesPlanned Is writing a (Ok k)

-- A job of `rewrite_loader`.
abbrev pub LoaderJob : Type 0
LoaderJob = LaidJob Job

-- The written file of a job.
abbrev pub file_of : LoaderJob → List ℕ
file_of j = file_by writing_of j

-- What an input of `rewrite_loader` is judged to be.
abbrev pub Judges : Asked → Result LoaderJob LoaderError → Type 0
Judges a v = JudgesLoaderBy IsJobFor writing_of a v
