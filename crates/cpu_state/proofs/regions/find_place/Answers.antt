use Rattle.std.proofs.Common.{sym, ap, ◌∙◌, arith}
use Rattle.std.proofs.lemmas.Bool.{cond-true, cond-false}
use Rattle.cpu_state.specs.Regions.{holds}
use Rattle.cpu_state.proofs.RegionCells.{last_place, none_begun}
use Rattle.cpu_state.proofs.regions.find_place.Goals.{else-count-gt0-via-then-count-gt0+else-holds, else-count-gt0-via-else-count-gt0}
use Rattle.cpu_state.proofs.regions.find_place.Goals as goal

pub returns-then-holds-clause-value : goal.returns-then-holds-clause-value
returns-then-holds-clause-value c =
    let h = ap (λ r. holds r c.args.addr) (sym c.index-regions-count.is) ∙ sym c.holds.ensures ∙ c.if-holds.true in
    sym (last_place c.args.regions.now c.args.addr c.count_begun-count.result c.index-regions-count.result c.requires c.count_begun-count.ensures.value c.if-count-gt0.true ∙ cond-true _ _ _ h)

pub returns-else-count-gt0-clause-value : goal.returns-else-count-gt0-clause-value
returns-else-count-gt0-clause-value c = elim c.else-count-gt0.branch [
  | else-count-gt0-via-then-count-gt0+else-holds w ↦
      let h = ap (λ r. holds r c.args.addr) (sym w.index-regions-count.is) ∙ sym w.holds.ensures ∙ w.if-holds.false in
      sym (last_place c.args.regions.now c.args.addr c.count_begun-count.result w.index-regions-count.result c.requires c.count_begun-count.ensures.value w.if-count-gt0.true ∙ cond-false _ _ _ h)
  | else-count-gt0-via-else-count-gt0 w ↦ sym (none_begun 0 c.args.regions.now c.args.addr c.requires (sym c.count_begun-count.ensures.value ∙ omega (arith, w.if-count-gt0.false)))
]
