use Rattle.std.proofs.Common.{◌+◌, ap, sym, ◌∙◌, drop, arith}
use Rattle.std.proofs.lemmas.List.{at_drop_more}
use Rattle.cpu_state.specs.Bytes.{put_list, advanced}
use Rattle.cpu_state.specs.Regions.{cell_at}
use Rattle.cpu_state.proofs.regions.put_slice.Goals as goal

pub loop-byte-preserved : goal.loop-byte-preserved
loop-byte-preserved c =
    let at = c.loop-byte.at in let i = c.loop-byte.byte-index in let bytes = c.args.bytes.now in let old = cell_at c.loop-byte.regions.items in
    record {
      same = ap (λ m. put_list m (advanced at 1) (drop (i + 1) bytes)) c.put_byte.ensures.value ∙ sym (at_drop_more (put_list old at) bytes i 0 (omega arith)) ∙ c.loop-byte.invariant.same;
      ascending = c.put_byte.ensures.ascending;
      extents = c.put_byte.ensures.extents ∙ c.loop-byte.invariant.extents;
    }
