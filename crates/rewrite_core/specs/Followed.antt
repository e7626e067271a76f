-- The headline, of files: a written file follows the original. Theorems cite it.
use Rattle.std.specs.Prelude.{◌≡◌, ℕ, List}
use Rattle.insn_form.specs.Step.{Step}
use Rattle.elf_read.specs.Entries.{entry_of}
use Rattle.start_entries.specs.Entries.{entries_of}
use Rattle.patch_report.specs.Values.{ReportValue}
use Rattle.patch_report.specs.Grammar.{IsReport}
use Rattle.sound_images.specs.Headline.{Headline}
use Rattle.sound_images.specs.Rules.{Case, IsSound}
use Rattle.sound_images.specs.Soundness.{rewriting_of}
use Rattle.sound_images.specs.Cases.{case_of}

-- The case of an original, the entries of its listed starts, a written file and a report.
abbrev pub case_for : List ℕ → List ℕ → List ℕ → ReportValue → Case
case_for file starts out report = case_of file out (entries_of file starts) report.body

-- The written file follows the original.
pub record IsFollowed (file starts out : List ℕ) (report : ReportValue) : Type 0 where
  -- the report is one that a text tells
  pub told : IsReport report
  -- the written program starts where the original does
  pub entry : entry_of out ≡ entry_of file
  -- no rule of a sound image fails at any address
  pub sound : IsSound (case_for file starts out report)
  -- outside its new code, the written program runs through exactly the original's states, whatever is delivered,
  -- with one event before each execution of a patched site
  pub headline : Headline Step (rewriting_of (case_for file starts out report))
