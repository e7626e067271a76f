use Rattle.std.proofs.Common.{nat_le, nat_lt, rules, sym, subst, List}
use Rattle.std.specs.List.Sorted.{IsNonDecreasingBy}
use Rattle.std.proofs.lemmas.List.{take_rest}
use Rattle.std.proofs.lemmas.List.Sorted.{IsPartitionPoint-from_clause, IsPartitionedBy-ltb, IsPartitionedBy-leb, IsNonDecreasingBy-drop}
use Rattle.image_check.proofs.NearCounts.{near_from, part_is}
use Rattle.image_check.proofs.near.near.Goals as goal

pub returns-clause-near : goal.returns-clause-near
returns-clause-near g c =
    let first = g.T.Located.first in
    let xs = c.args.items.now in
    let i = c.partition_point.result in
    let low = c.saturating_sub-low.result in
    let e = take_rest xs i in
    let rises = IsNonDecreasingBy-drop first i xs c.requires.rises in
    let rising = subst (λ (z : List g.row.T.Denot). IsNonDecreasingBy first z) (sym e) rises in
    let a = IsPartitionPoint-from_clause (λ y. nat_lt (first y) low) _ _ c.partition_point.ensures.partitioned
    (IsPartitionedBy-ltb first xs low c.requires.rises) (λ x r q k. search rules) in
    let b = IsPartitionPoint-from_clause (λ y. nat_le (first y) c.args.addr) _ _ c.partition_point-2.ensures.partitioned
    (IsPartitionedBy-leb first _ c.args.addr rising) (λ x r q k. search rules) in
    near_from first c.args.size c.args.addr low xs _ i _ c.partition_point.ensures.bound c.saturating_sub-low.ensures e a b

pub returns-clause-part : goal.returns-clause-part
returns-clause-part g c = part_is c.args.items.now _ c.partition_point.result _ (take_rest c.args.items.now c.partition_point.result)
