use Rattle.elf_read.proofs.PlainImages.{plain_entry}
use Rattle.elf_read.proofs.laws.plain_entry.Goals as goal

pub returns : goal.returns
returns c = plain_entry
