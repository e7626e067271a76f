use Rattle.std.proofs.Common.{rules, nat_le, arith}
use Rattle.std.proofs.lemmas.List.Sorted.{IsPartitionPoint-from_clause, IsPartitionedBy-leb}
use Rattle.cpu_state.proofs.RegionPlaces.{non_decreasing, begun_is}
use Rattle.cpu_state.proofs.regions.count_begun.Goals as goal

pub returns-clause-value : goal.returns-clause-value
returns-clause-value c =
    let ascending = IsPartitionedBy-leb (λ r. r.lo) c.args.regions.now c.args.addr (non_decreasing c.args.regions.now c.requires) in
    let p = IsPartitionPoint-from_clause (λ r. nat_le r.lo c.args.addr) _ _ c.partition_point.ensures.partitioned ascending (λ a r q k. search rules) in
    begun_is c.args.regions.now c.args.addr c.partition_point.result c.partition_point.ensures.bound (λ k d m. p.0 k d (omega arith) m) (λ k d m n. p.1 k d m n)
