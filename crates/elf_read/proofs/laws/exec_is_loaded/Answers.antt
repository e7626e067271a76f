use Rattle.elf_read.proofs.LoadedCode.{exec_is_loaded}
use Rattle.elf_read.proofs.laws.exec_is_loaded.Goals as goal

pub returns : goal.returns
returns c = exec_is_loaded
