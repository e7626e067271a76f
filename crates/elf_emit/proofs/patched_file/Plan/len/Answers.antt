use Rattle.std.proofs.Common.{arith}
use Rattle.elf_emit.proofs.PlanPages.{plan_low, plan_few, tail_length}
use Rattle.elf_emit.proofs.patched_file.Plan.len.Goals as goal

pub overflow_add-result : goal.overflow_add-result
overflow_add-result c =
    let p = c.args.self.now in
    let a = plan_low p c.requires in let b = plan_few p c.requires in let t = tail_length p c.requires in let e = c.tail_at.ensures in omega arith

pub returns : goal.returns
returns c =
    let p = c.args.self.now in
    let t = tail_length p c.requires in let e = c.tail_at.ensures in omega arith
