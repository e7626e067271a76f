use Rattle.std.proofs.Common.{rules, arith, nat_le}
use Rattle.std.proofs.lemmas.Bool.{leb-true, leb-false}
use Rattle.std.proofs.lemmas.List.Sorted.{IsPartitionPoint-from_clause, IsPartitionedBy-leb}
use Rattle.address_space.specs.Blocks.{high_of}
use Rattle.address_space.proofs.BlockLists.{highs_rise, ended_parts}
use Rattle.address_space.proofs.blocks.blocks_ended.Goals as goal

pub returns-clause-parted : goal.returns-clause-parted
returns-clause-parted c =
    let rises = IsPartitionedBy-leb high_of c.args.blocks.now c.args.addr (highs_rise c.args.blocks.now c.requires) in
    let p = IsPartitionPoint-from_clause (λ b. nat_le (high_of b) c.args.addr) _ _ c.partition_point.ensures.partitioned rises (λ a r q k. search rules) in
    ended_parts c.args.blocks.now c.args.addr c.partition_point.result c.requires c.partition_point.ensures.bound
    (λ k d h. leb-true _ _ (p.0 k d (omega arith) h)) (λ k d h l. leb-false _ _ (p.1 k d h l))
