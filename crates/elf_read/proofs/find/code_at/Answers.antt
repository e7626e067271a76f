use Rattle.std.proofs.Common.{◌+◌, ◌-◌, refl, rules}
use Rattle.elf_read.proofs.WindowBytes.{code_taken}
use Rattle.elf_read.proofs.find.code_at.Goals as goal

pub returns : goal.returns
returns c =
    code_taken c.args.file.now c.args.segment.now c.args.addr 15 c.min.result (c.args.segment.now.offset + (c.args.addr - c.args.segment.now.vaddr)) c.requires.exec c.requires.inside refl (search rules)
