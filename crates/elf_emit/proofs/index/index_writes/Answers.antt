use Rattle.std.proofs.Common.{ℕ, ◌+◌, ◌/◌, refl, ap, ◌∙◌}
use Rattle.elf_emit.specs.Views.{patch_of}
use Rattle.elf_emit.proofs.IndexPairs.{bytes_more}
use Rattle.elf_emit.proofs.index.index_writes.Goals as goal

pub loop-place-preserved : goal.loop-place-preserved
loop-place-preserved c =
    let w = c.index-writes-place.result in
    bytes_more patch_of c.args.writes.now c.loop-place.place _ c.page_behind-last.result w c.loop-place.pairs.items c.push_pairs.new.pairs.items c.loop-place-test.true
    c.index-writes-place.is refl (c.page_behind-last.ensures ∙ ap (λ (n : ℕ). (w.addr + n) / 4096) c.len.ensures.value)
    c.in_ok-push_pairs.ensures c.loop-place.invariant
