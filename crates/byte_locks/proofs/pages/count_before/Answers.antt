use Rattle.std.proofs.Common.{rules, nat_lt, arith}
use Rattle.std.proofs.lemmas.List.Sorted.{IsPartitionPoint-from_clause, IsPartitionedBy-ltb}
use Rattle.byte_locks.proofs.LockPagePlaces.{non_decreasing, lower_is}
use Rattle.byte_locks.proofs.pages.count_before.Goals as goal

pub returns-clause-value : goal.returns-clause-value
returns-clause-value c =
    let ascending = IsPartitionedBy-ltb (λ p. p.number) c.args.pages.now c.args.number (non_decreasing c.args.pages.now c.requires) in
    let p = IsPartitionPoint-from_clause (λ p. nat_lt p.number c.args.number) _ _ c.partition_point.ensures.partitioned ascending
    (λ a r q k. search rules) in
    lower_is c.args.pages.now c.args.number c.partition_point.result c.partition_point.ensures.bound
    (λ k d m. p.0 k d (omega arith) m) (λ k d m n. p.1 k d m n)
