use Rattle.std.proofs.Common.{arith}
use Rattle.elf_emit.proofs.PlanNumbers.{count_is}
use Rattle.elf_emit.proofs.JobConditions.{count_fits}
use Rattle.elf_emit.proofs.emit.table_count.Goals as goal

pub overflow_cast-count : goal.overflow_cast-count
overflow_cast-count c =
    let r = c.requires in
    let k = count_is r.0 c.count-count.result _ c.count-count.ensures r.1 in
    let b = count_fits r.0 r.2.frame r.2.few in
    omega arith

pub returns-then-count-gt-MOST_ENTRIES : goal.returns-then-count-gt-MOST_ENTRIES
returns-then-count-gt-MOST_ENTRIES c = λ f s.
    let k = count_is f c.count-count.result _ c.count-count.ensures s in
    (omega arith, omega arith)

pub returns : goal.returns
returns c = λ f s.
    let k = count_is f c.count-count.result _ c.count-count.ensures s in
    (omega arith, omega arith)
