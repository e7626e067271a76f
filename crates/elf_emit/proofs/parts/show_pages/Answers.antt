use Rattle.std.proofs.Common.{ℕ, ◌+◌, ◌-◌, ◌*◌, List, [], ◌∷◌, map, get_or, sym, ap, ◌∙◌, arith}
use Rattle.std.proofs.lemmas.Grind.{get_or_default_zero}
use Rattle.elf_emit.specs.declared.runs.Page.{Page}
use Rattle.elf_emit.specs.Layout.{layered}
use Rattle.elf_emit.specs.Views.{pieces_of}
use Rattle.elf_emit.proofs.SegmentAndPageLoops.{layered_more, layered_all}
use Rattle.elf_emit.proofs.IndexLookups.{picked_shown}
use Rattle.elf_emit.proofs.parts.show_pages.Goals as goal

pub loop-pair-preserved : goal.loop-pair-preserved
loop-pair-preserved c =
    let first = c.from-first.result * 4294967296 in
    let part : List ℕ = c.pairs_of-part.result.now in
    let i = c.loop-pair.pair-index in
    let k : ℕ = get_or part i 0 in
    let pages = c.args.pages.now in
    let none : Page = record { addr = 0; group = c.args.group + 1 } in
    record {
      few = (let e = c.show_place.auto.bytes in let l = c.loop-pair.invariant.few in omega arith);
      shown = layered_more (pieces_of c.args.built.now) (λ (n : ℕ). get_or pages (n - first) none) part i c.args.group k c.loop-pair.bytes c.show_place.new.bytes _
          c.loop-pair-test.true (sym (get_or_default_zero part i k c.loop-pair-test.true))
          (c.show_place.ensures ∙ ap (λ (n : ℕ). layered (pieces_of c.args.built.now) (get_or pages n none ∷ []) c.args.group c.loop-pair.bytes) c.saturating_sub-place.ensures) c.loop-pair.invariant.shown;
    }

pub returns : goal.returns
returns c =
    let part : List ℕ = c.pairs_of-part.result.now in
    let pages = c.args.pages.now in
    let none : Page = record { addr = 0; group = c.args.group + 1 } in
    layered_all (pieces_of c.args.built.now) (λ (n : ℕ). get_or pages (n - c.from-first.result * 4294967296) none) part c.loop-pair.pair-index c.args.group c.loop-pair.bytes _ c.loop-pair-test.false c.loop-pair.invariant.shown
    ∙ ap (λ (m : ℕ). layered (pieces_of c.args.built.now) (map (λ (n : ℕ). get_or pages (n - m * 4294967296) none) part) c.args.group c.args.bytes.now) c.from-first.ensures
    ∙ picked_shown (pieces_of c.args.built.now) pages c.args.shown.now part c.args.group c.args.bytes.now c.requires.shown c.pairs_of-part.ensures
