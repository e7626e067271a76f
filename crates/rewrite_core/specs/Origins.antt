-- What the original of a patch was. Theorems cite it.
use Rattle.std.specs.Prelude.{ℕ, List, length}
use Rattle.elf_read.specs.Entries.{entry_of, table_count, table_place}
use Rattle.patch_report.specs.declared.origin.Origin.{Origin}

-- What the original was: the length of the file, and `e_phoff`, `e_phnum` and `e_entry` of its
-- header.
abbrev pub origin_of : List ℕ → Origin
origin_of file = record {
  len = length file;
  phoff = table_place file;
  phnum = table_count file;
  entry = entry_of file;
}
