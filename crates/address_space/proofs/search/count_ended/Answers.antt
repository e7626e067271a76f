use Rattle.std.proofs.Common.{rules, arith, nat_le}
use Rattle.std.proofs.lemmas.Bool.{leb-true, leb-false}
use Rattle.std.proofs.lemmas.List.Sorted.{IsPartitionPoint-from_clause, IsPartitionedBy-leb}
use Rattle.address_space.proofs.RangePlaces.{ends_rise}
use Rattle.address_space.proofs.search.count_ended.Goals as goal

pub returns-clause-parted : goal.returns-clause-parted
returns-clause-parted c =
    let rises = IsPartitionedBy-leb (λ r. r.hi) c.args.ranges.now c.args.addr (ends_rise c.args.ranges.now c.requires) in
    let p = IsPartitionPoint-from_clause (λ r. nat_le r.hi c.args.addr) _ _ c.partition_point.ensures.partitioned rises (λ a r q k. search rules) in
    record { first = λ k d h. leb-true _ _ (p.0 k d (omega arith) h); others = λ k d h l. leb-false _ _ (p.1 k d h l) }
