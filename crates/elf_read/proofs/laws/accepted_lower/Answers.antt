use Rattle.elf_read.proofs.AcceptedFiles.{accepted_lower}
use Rattle.elf_read.proofs.laws.accepted_lower.Goals as goal

pub returns : goal.returns
returns c = accepted_lower
