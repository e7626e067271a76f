use Rattle.elf_emit.proofs.IndexPairs.{pages_more}
use Rattle.elf_emit.proofs.index.index_pages.Goals as goal

pub loop-place-preserved : goal.loop-place-preserved
loop-place-preserved c =
    pages_more c.args.pages.now c.loop-place.place (record { addr = 0; group = 0 }) c.loop-place.pairs.items c.push_pairs.new.pairs.items c.loop-place-test.true
    c.in_ok-push_pairs.ensures c.loop-place.invariant
