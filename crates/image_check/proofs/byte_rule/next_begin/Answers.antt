use Rattle.std.proofs.Common.{rules, nat_le, refl, arith}
use Rattle.std.proofs.lemmas.List.Sorted.{IsPartitionPoint-from_clause, IsPartitionedBy-leb}
use Rattle.elf_read.specs.Find.{Parted}
use Rattle.elf_read.specs.declared.segment.Segment.{Segment}
use Rattle.elf_read.proofs.SegmentSearch.{non_decreasing, no_segment}
use Rattle.image_check.proofs.ByteStretches.{gap_end, gap_first}
use Rattle.image_check.proofs.byte_rule.next_begin.Goals as goal

pub returns-then-below-loads-clause-apart : goal.returns-then-below-loads-clause-apart
returns-then-below-loads-clause-apart c =
    let rises = non_decreasing c.args.loads.now c.requires in
    let ascending = IsPartitionedBy-leb (λ (s : Segment). s.vaddr) c.args.loads.now c.args.addr rises in
    let parted : Parted c.args.loads.now c.args.addr c.partition_point-below.result = IsPartitionPoint-from_clause (λ (s : Segment). nat_le s.vaddr c.args.addr) _ _ c.partition_point-below.ensures.partitioned ascending (λ a r q k. search rules) in
    let l = c.if-below-loads.true in
    gap_end c.args.loads.now c.args.addr c.partition_point-below.result _ parted (omega arith)

pub returns-clause-from : goal.returns-clause-from
returns-clause-from c =
    let rises = non_decreasing c.args.loads.now c.requires in
    let ascending = IsPartitionedBy-leb (λ (s : Segment). s.vaddr) c.args.loads.now c.args.addr rises in
    let parted : Parted c.args.loads.now c.args.addr c.partition_point-below.result = IsPartitionPoint-from_clause (λ (s : Segment). nat_le s.vaddr c.args.addr) _ _ c.partition_point-below.ensures.partitioned ascending (λ a r q k. search rules) in
    let l = c.if-below-loads.false in
    (gap_first c.args.loads.now c.args.addr c.partition_point-below.result _ no_segment rises parted (omega arith) refl).0

pub returns-clause-apart : goal.returns-clause-apart
returns-clause-apart c =
    let rises = non_decreasing c.args.loads.now c.requires in
    let ascending = IsPartitionedBy-leb (λ (s : Segment). s.vaddr) c.args.loads.now c.args.addr rises in
    let parted : Parted c.args.loads.now c.args.addr c.partition_point-below.result = IsPartitionPoint-from_clause (λ (s : Segment). nat_le s.vaddr c.args.addr) _ _ c.partition_point-below.ensures.partitioned ascending (λ a r q k. search rules) in
    let l = c.if-below-loads.false in
    (gap_first c.args.loads.now c.args.addr c.partition_point-below.result _ no_segment rises parted (omega arith) refl).1
