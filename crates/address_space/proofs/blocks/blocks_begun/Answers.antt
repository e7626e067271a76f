use Rattle.std.proofs.Common.{rules, nat_lt}
use Rattle.std.proofs.lemmas.Bool.{ltb-false}
use Rattle.std.proofs.lemmas.List.Sorted.{IsPartitionPoint-from_clause, IsPartitionedBy-ltb}
use Rattle.address_space.specs.Blocks.{low_of}
use Rattle.address_space.proofs.BlockLists.{lows_rise, begun_parts}
use Rattle.address_space.proofs.blocks.blocks_begun.Goals as goal

pub returns-clause-parted : goal.returns-clause-parted
returns-clause-parted c =
    let rises = IsPartitionedBy-ltb low_of c.args.blocks.now c.args.addr (lows_rise c.args.blocks.now c.requires) in
    let p = IsPartitionPoint-from_clause (λ b. nat_lt (low_of b) c.args.addr) _ _ c.partition_point.ensures.partitioned rises (λ a r q k. search rules) in
    begun_parts c.args.blocks.now c.args.addr c.partition_point.result c.requires (λ k d h l. ltb-false _ _ (p.1 k d h l))
