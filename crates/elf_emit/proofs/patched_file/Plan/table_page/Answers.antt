use Rattle.std.proofs.Common.{◌≡◌, ℕ, ◌+◌, ◌-◌, List, take, drop, subst, arith}
use Rattle.elf_emit.proofs.PlanPages.{table_room, table_cut}
use Rattle.elf_emit.proofs.patched_file.Plan.table_page.Goals as goal

pub slice_bounds-copy_from_slice-end : goal.slice_bounds-copy_from_slice-end
slice_bounds-copy_from_slice-end c =
    let r = table_room c.args.self.now c.args.at c.requires.plan c.requires.whole c.requires.first c.requires.last in
    let e = c.requires.plan.table_at in omega arith

pub returns : goal.returns
returns c =
    let from = c.args.at - c.args.self.now.places.table_at in
    table_cut c.args.self.now c.args.at c.requires.plan c.copy_from_slice.new.self
    (subst (λ (z : List ℕ). c.copy_from_slice.new.self ≡ take (from + 4096 - from) (drop from z)) c.deref.ensures.value c.copy_from_slice.ensures.after)
