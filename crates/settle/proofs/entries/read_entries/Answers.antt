use Rattle.std.proofs.Common.{◌∙◌, arith}
use Rattle.elf_read.proofs.EntriesSoFar.{one_more, length_pushed}
use Rattle.settle.proofs.entries.read_entries.Goals as goal

pub loop-index-preserved : goal.loop-index-preserved
loop-index-preserved c =
    let h = c.loop-index.invariant in
    let p = length_pushed c.loop-index.entries.items c.push.new.self.items _ c.in_ok-push.ensures.items in
    record {
      place = omega arith;
      len = omega (arith, p);
      rest = one_more c.args.bytes.now c.loop-index.at c.args.count c.loop-index._index c.loop-index.entries.items c.push.new.self.items c.read_entry.result c.loop-index-test.true c.in_ok-push.ensures.items c.read_entry.ensures ∙ h.rest;
    }
