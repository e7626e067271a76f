use Rattle.std.proofs.Common.{ℕ, ◌-◌, ◌*◌, List, map, get_or, refl, sym, ap, ◌∙◌}
use Rattle.std.proofs.lemmas.Grind.{get_or_default_zero}
use Rattle.elf_emit.specs.Layout.{rewritten}
use Rattle.elf_emit.specs.Views.{patches_of}
use Rattle.elf_emit.proofs.OverwrittenBytes.{more_written, all_written}
use Rattle.elf_emit.proofs.IndexLookups.{nothing, picked_written}
use Rattle.elf_emit.proofs.overlay.overlay_writes.Goals as goal

pub loop-pair-preserved : goal.loop-pair-preserved
loop-pair-preserved c =
    let items = patches_of c.args.writes.now in
    let first = c.from-first.result * 4294967296 in
    let part : List ℕ = c.pairs_of-part.result.now in
    let i = c.loop-pair.pair-index in
    let k : ℕ = get_or part i 0 in
    more_written (λ (n : ℕ). get_or items (n - first) nothing) part i c.args.lo k (get_or items c.saturating_sub.result nothing) c.loop-pair.bytes c.overlay_write.new.bytes _
    c.loop-pair-test.true (sym (get_or_default_zero part i k c.loop-pair-test.true)) (ap (λ (n : ℕ). get_or items n nothing) c.saturating_sub.ensures)
    c.overlay_write.ensures c.loop-pair.invariant

pub returns : goal.returns
returns c =
    let items = patches_of c.args.writes.now in
    let part : List ℕ = c.pairs_of-part.result.now in
    all_written (λ (n : ℕ). get_or items (n - c.from-first.result * 4294967296) nothing) part c.loop-pair.pair-index c.args.lo c.loop-pair.bytes _ c.loop-pair-test.false c.loop-pair.invariant
    ∙ ap (λ (m : ℕ). rewritten (map (λ (n : ℕ). get_or items (n - m * 4294967296) nothing) part) c.args.lo c.args.bytes.now) c.from-first.ensures
    ∙ picked_written items c.args.pairs.now part _ c.args.lo c.args.bytes.now c.requires.found c.pairs_of-part.ensures refl c.requires.page
