use Rattle.std.proofs.Common.{ℕ, ◌+◌, max, get_or, sym, ap, ◌∙◌, arith}
use Rattle.page_group.proofs.JoinedPages.{bound_more, below_bound, greater}
use Rattle.page_group.proofs.joining.count_groups.Goals as goal

pub overflow_add-group : goal.overflow_add-group
overflow_add-group c = omega (arith, below_bound c.args.groups.now c.loop-group.group-index c.loop-group-test.true)

pub loop-group-preserved : goal.loop-group-preserved
loop-group-preserved c =
    let i = c.loop-group.group-index in
    let groups = c.args.groups.now in
    let here = get_or groups i 0 + 1 in
    c.max-count.ensures ∙ greater c.loop-group.count here ∙ ap (λ (n : ℕ). max n here) c.loop-group.invariant
    ∙ sym (bound_more groups i c.loop-group-test.true)
