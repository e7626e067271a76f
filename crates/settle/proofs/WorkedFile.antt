-- The small static PIE isn't refused.
use Rattle.std.proofs.Common.{refl}
use Rattle.elf_read.specs.Entries.{segment_at, table_place, table_count, entry_of, spelled}
use Rattle.elf_read.specs.Plain.{header}
use Rattle.elf_read.specs.Writing.{header_of}
use Rattle.elf_read.specs.Refusals.{entry_refusal}
use Rattle.settle.specs.Stub.{stub_code}
use Rattle.settle.specs.Lengths.{used_len, front_len}
use Rattle.settle.specs.Sections.{shows}
use Rattle.settle.specs.Refusals.{kind_refusal, table_refusal}
use Rattle.settle.specs.Worked.{SmallIsTaken}

pub small_is_taken : SmallIsTaken
unfolding kind_refusal table_refusal segment_at table_place table_count entry_of spelled header header_of entry_refusal stub_code used_len front_len shows
small_is_taken = refl
