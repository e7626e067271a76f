use Rattle.std.proofs.Common.{arith}
use Rattle.elf_emit.proofs.PageContents.{start_kept, start_put, start_missed}
use Rattle.elf_emit.proofs.parts.put_start.Goals as goal

pub returns-then-lo-eq0 : goal.returns-then-lo-eq0
returns-then-lo-eq0 c =
    rw c.put_u64.ensures.changed (start_put c.args.start c.args.page.now c.args.lo c.in-Some.start c.in-Some.is (omega arith) (omega arith))

pub returns-else-lo-eq0 : goal.returns-else-lo-eq0
returns-else-lo-eq0 c = start_missed c.args.start c.args.page.now c.args.lo c.in-Some.start c.in-Some.is (omega arith)

pub returns-in_default : goal.returns-in_default
returns-in_default c = start_kept c.args.start c.args.page.now c.args.lo c.in_default.is
