-- The case that two files, listed starts and a report make. Theorems cite it.
use Rattle.std.specs.Prelude.{ℕ, List}
use Rattle.elf_read.specs.Image.{image_of}
use Rattle.elf_read.specs.Entries.{entry_of}
use Rattle.start_entries.specs.declared.entry.StartEntry.{StartEntry}
use Rattle.patch_report.specs.Values.{BodyValue}
use Rattle.sound_images.specs.Rules.{Case}

-- The case that the bytes of two files, the listed starts and the report make.
abbrev pub case_of : List ℕ → List ℕ → List StartEntry → BodyValue → Case
case_of original patched listed report =
    record {
      original = image_of original;
      patched = image_of patched;
      entry = entry_of original;
      patched_entry = entry_of patched;
      listed = listed;
      report = report;
    }
