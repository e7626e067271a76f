use Rattle.std.proofs.Common.{arith}
use Rattle.elf_emit.proofs.PageContents.{header_put, header_missed}
use Rattle.elf_emit.proofs.parts.put_header.Goals as goal

pub returns-then-lo-eq0 : goal.returns-then-lo-eq0
returns-then-lo-eq0 c =
    rw c.put_u16.ensures.changed (rw c.put_u64.ensures.changed (header_put c.args.page.now c.args.lo c.args.table_at c.args.count (omega arith) (omega arith)))

pub returns-else-lo-eq0 : goal.returns-else-lo-eq0
returns-else-lo-eq0 c = header_missed c.args.page.now c.args.lo c.args.table_at c.args.count (omega arith)
