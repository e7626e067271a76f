use Rattle.elf_read.proofs.PlainImages.{plain_image}
use Rattle.elf_read.proofs.laws.plain_image.Goals as goal

pub returns : goal.returns
returns c = plain_image
