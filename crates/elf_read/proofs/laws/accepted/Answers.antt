use Rattle.elf_read.proofs.AcceptedFiles.{is_accepted}
use Rattle.elf_read.proofs.laws.accepted.Goals as goal

pub returns : goal.returns
returns c = is_accepted
