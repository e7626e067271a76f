use Rattle.std.proofs.Common.{rules, ℕ, ◌≡◌, ap, ◌∙◌}
use Rattle.std.proofs.lemmas.List.Sorted.{answers_always, IsNonDecreasingBy-from_sort}
use Rattle.elf_read.specs.declared.segment.Segment.{Segment}
use Rattle.elf_emit.specs.Layout.{in_order}
use Rattle.elf_emit.proofs.SegmentOrder.{in_order-from_sort}
use Rattle.elf_emit.proofs.table.in_order.Goals as goal

pub returns : goal.returns
returns c =
    let copied : c.in_ok-ordered.ordered.items ≡ c.args.loads.now = search rules in
    let key : Segment → ℕ = λ s. s.vaddr in
    let keys = answers_always _ _ _ (λ f a r next called. search rules) in
    let sorted = IsNonDecreasingBy-from_sort key _ (c.in_ok-sort_by_key.ensures.sorted key keys) in
    in_order-from_sort _ _ sorted (c.sort_by_key.ensures.stable key keys) ∙ ap in_order copied
