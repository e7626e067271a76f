use Rattle.std.proofs.Common.{rules, nat_lt, get_or, arith}
use Rattle.std.proofs.lemmas.Bool.{ltb-true, ltb-false}
use Rattle.std.proofs.lemmas.List.Sorted.{IsPartitionPoint-from_clause, IsPartitionedBy-ltb}
use Rattle.page_group.proofs.OccupiedOffsets.{non_decreasing}
use Rattle.page_group.proofs.occupancy.count_below.Goals as goal

pub returns-clause-below : goal.returns-clause-below
returns-clause-below c =
    let ascending = IsPartitionedBy-ltb (λ x. x) c.args.pages.now c.args.addr (non_decreasing c.args.pages.now c.requires) in
    let p = IsPartitionPoint-from_clause (λ x. nat_lt x c.args.addr) _ _ c.partition_point.ensures.partitioned ascending
    (λ a r q k. search rules) in
    λ place l. ltb-true (get_or c.args.pages.now place 0) c.args.addr (p.0 place 0 (omega arith) l)

pub returns-clause-above : goal.returns-clause-above
returns-clause-above c =
    let ascending = IsPartitionedBy-ltb (λ x. x) c.args.pages.now c.args.addr (non_decreasing c.args.pages.now c.requires) in
    let p = IsPartitionPoint-from_clause (λ x. nat_lt x c.args.addr) _ _ c.partition_point.ensures.partitioned ascending
    (λ a r q k. search rules) in
    λ place l m. ltb-false (get_or c.args.pages.now place 0) c.args.addr (p.1 place 0 l m)
