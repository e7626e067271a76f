use Rattle.elf_read.proofs.FileTables.{table_between}
use Rattle.elf_read.proofs.laws.table_reads_back.Goals as goal

pub returns : goal.returns
returns c = table_between
