use Rattle.std.proofs.Common.{◌+◌, nat_le, rules}
use Rattle.std.proofs.lemmas.List.Sorted.{IsPartitionPoint-from_clause, IsPartitionedBy-leb}
use Rattle.image_step.proofs.InstructionByteSearch.{rising}
use Rattle.image_step.proofs.quieting.count_below.Goals as goal

pub returns-clause-parted : goal.returns-clause-parted
returns-clause-parted c =
    let n = c.args.bytes in
    let ascending = IsPartitionedBy-leb (λ e. e.addr + n) c.args.entries.now c.args.addr (rising c.args.entries.now n c.requires.rising) in
    IsPartitionPoint-from_clause (λ e. nat_le (e.addr + n) c.args.addr) _ _ c.partition_point.ensures.partitioned ascending (λ a r q k. search rules)
