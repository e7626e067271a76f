-- What is promised of a file of the loader form. Theorems cite it.
use Rattle.std.specs.Prelude.{ℕ, List}
use Rattle.pun_base.specs.Memory.{Bytes}
use Rattle.insn_form.specs.Machine.{Machine}
use Rattle.insn_form.specs.Step.{Step}
use Rattle.elf_read.specs.Entries.{entry_of}
use Rattle.elf_read.specs.Image.{image_of}
use Rattle.elf_emit.specs.Laws.{bare_image}
use Rattle.start_entries.specs.Entries.{entries_of}
use Rattle.patch_report.specs.Values.{ReportValue}
use Rattle.patch_report.specs.Grammar.{IsReport}
use Rattle.sound_images.specs.Headline.{Headline}
use Rattle.sound_images.specs.Rules.{Case, IsSound}
use Rattle.sound_images.specs.Soundness.{rewriting_of}
use Rattle.loader_form.specs.Laid.{LaidLoads}
use Rattle.loader_form.specs.Starting.{IsLaidStart}
use Rattle.loader_form.specs.Planned.{Leads}
use Rattle.rewrite_loader.specs.Judging.{LoaderJob, run_count}

-- The case of an original, the entries of its listed starts, a report, and memory once the stub has
-- mapped each run: the original with what is written, the private range and the pages for code.
abbrev pub case_for : List ℕ → List ℕ → LoaderJob → ReportValue → Case
case_for file starts j report = record {
  original = image_of file;
  patched = bare_image j.job.emit;
  entry = entry_of file;
  patched_entry = entry_of file;
  listed = entries_of file starts;
  report = report.body;
}

-- The written file of the loader form follows the original.
pub record IsLoaderFollowed (file starts : List ℕ) (j : LoaderJob) (report : ReportValue) : Type 0 where
  -- the report is one that a text tells
  pub told : IsReport report
  -- the written file loads the table, the private range, the stub, its save page and the original with what is written, and nothing
  -- else, and starts at the stub
  pub loads : LaidLoads j.job.emit j.laid
  -- once each run is mapped, no rule of a sound image fails at any address
  pub sound : IsSound (case_for file starts j report)
  -- from the original's entry point on the program runs, outside its new code, through exactly the
  -- original's states, whatever is delivered, with one event before each execution of a patched
  -- site
  pub headline : Headline Step (rewriting_of (case_for file starts j report))
  -- from each state that has the written file's image and further memory, and stands at its entry
  -- point, the stub reaches the original's entry point or ends the program, depending on what the
  -- kernel replies
  pub leads : (further : Bytes) (s : Machine) → IsLaidStart j.job.emit j.laid further s
      → Leads j.job.emit j.laid (run_count j.job.emit) (rewriting_of (case_for file starts j report)) s
