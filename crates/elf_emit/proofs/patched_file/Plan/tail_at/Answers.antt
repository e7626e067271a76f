use Rattle.std.proofs.Common.{arith}
use Rattle.elf_emit.proofs.PlanPages.{plan_low, plan_few}
use Rattle.elf_emit.proofs.patched_file.Plan.tail_at.Goals as goal

pub overflow_add-result : goal.overflow_add-result
overflow_add-result c =
    let p = c.args.self.now in
    let a = plan_low p c.requires in let b = plan_few p c.requires in let e = c.requires.pages_at in omega arith
