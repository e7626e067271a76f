use Rattle.std.proofs.Common.{rules, nat_le}
use Rattle.std.proofs.lemmas.List.Sorted.{IsPartitionPoint-from_clause, IsPartitionedBy-leb}
use Rattle.elf_read.proofs.SegmentSearch.{non_decreasing}
use Rattle.elf_read.proofs.find.count_below.Goals as goal

pub returns-clause-parted : goal.returns-clause-parted
returns-clause-parted c =
    let ascending = IsPartitionedBy-leb (λ s. s.vaddr) c.args.loads.now c.args.addr (non_decreasing c.args.loads.now c.requires) in
    IsPartitionPoint-from_clause (λ s. nat_le s.vaddr c.args.addr) _ _ c.partition_point.ensures.partitioned ascending (λ a r q k. search rules)
