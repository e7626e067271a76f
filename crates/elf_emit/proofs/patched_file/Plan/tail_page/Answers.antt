use Rattle.std.proofs.Common.{arith}
use Rattle.elf_emit.proofs.PlanPages.{tail_is, tail_room}
use Rattle.elf_emit.proofs.patched_file.Plan.tail_page.Goals as goal

pub slice_bounds-copy_from_slice-end : goal.slice_bounds-copy_from_slice-end
slice_bounds-copy_from_slice-end c =
    tail_room c.args.self.now c.args.at _ c.requires.plan c.requires.whole (let e = c.tail_at.ensures in omega arith) c.requires.first c.requires.last

pub returns : goal.returns
returns c =
    tail_is c.args.self.now c.args.at _ _ c.requires.plan (let e = c.tail_at.ensures in omega arith) c.requires.first c.copy_from_slice.ensures.after
