use Rattle.elf_read.proofs.LoadedCode.{window_is_loaded}
use Rattle.elf_read.proofs.laws.window_is_loaded.Goals as goal

pub returns : goal.returns
returns c = window_is_loaded
