use Rattle.std.proofs.Common.{arith}
use Rattle.elf_read.proofs.SegmentSearch.{no_segment}
use Rattle.elf_emit.proofs.SegmentAndPageLoops.{len_first, renewed_more}
use Rattle.elf_emit.proofs.new_places.renewed.Goals as goal

pub push_renewed-requires : goal.push_renewed-requires
push_renewed-requires c =
    let a = len_first c.args.loads.now c.args.loads.now c.loop-segment.segment-index no_segment c.loop-segment-test.true in
    let b = c.loop-segment.invariant.end in
    let l = c.requires in omega arith

pub loop-segment-preserved : goal.loop-segment-preserved
loop-segment-preserved c =
    let ss = c.args.loads.now in
    let i = c.loop-segment.segment-index in
    let n = c.in_ok-end.ensures.next in
    record {
      end = (let a = len_first ss ss i no_segment c.loop-segment-test.true in let b = c.loop-segment.invariant.end in omega arith);
      segments = renewed_more ss ss i c.loop-segment.end _ no_segment c.loop-segment.segments.items c.push_renewed.new.segments.items _ c.loop-segment-test.true n c.in_ok-end.ensures.segments c.loop-segment.invariant.segments;
    }
