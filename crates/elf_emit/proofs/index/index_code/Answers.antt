use Rattle.std.proofs.Common.{ℕ, ◌+◌, ◌/◌, List, length, refl, ap, ◌∙◌}
use Rattle.elf_emit.specs.Views.{piece_of}
use Rattle.elf_emit.proofs.IndexPairs.{bytes_more}
use Rattle.elf_emit.proofs.index.index_code.Goals as goal

pub loop-place-preserved : goal.loop-place-preserved
loop-place-preserved c =
    let b = c.index-built-place.result in
    bytes_more piece_of c.args.built.now c.loop-place.place _ c.page_behind-last.result b c.loop-place.pairs.items c.push_pairs.new.pairs.items c.loop-place-test.true
    c.index-built-place.is refl (c.page_behind-last.ensures ∙ ap (λ (z : List ℕ). (b.place + length z) / 4096) c.as_slice.ensures.value)
    c.in_ok-push_pairs.ensures c.loop-place.invariant
