use Rattle.elf_read.proofs.HoldingSegments.{file_header}
use Rattle.elf_read.proofs.elf.Elf.header.Goals as goal

pub returns-clause-whole : goal.returns-clause-whole
returns-clause-whole c = file_header c.self.inside.file.now c.self.inside.segments.items c.self.inside.loads.items c.self.invariant
