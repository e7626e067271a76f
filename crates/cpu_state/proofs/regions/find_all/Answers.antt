use Rattle.std.proofs.Common.{◌-◌, take, drop, not, ne_eqb, sym, ap, ◌∙◌, arith}
use Rattle.std.proofs.lemmas.Option.{IfSome_then}
use Rattle.cpu_state.specs.Held.{AreHeld}
use Rattle.cpu_state.specs.Regions.{cell_at}
use Rattle.cpu_state.proofs.RegionCells.{found_at}
use Rattle.cpu_state.proofs.RegionSpans.{all_held}
use Rattle.cpu_state.proofs.regions.find_all.Goals as goal

pub overflow_sub-at : goal.overflow_sub-at
overflow_sub-at c =
    (found_at c.args.regions.now c.args.addr c.in_ok-place.place c.index-regions-place.result
    (sym c.find_place.ensures.value ∙ c.in_ok-place.was) c.index-regions-place.is).low

pub returns-then-region-perm-ne0-clause-held : goal.returns-then-region-perm-ne0-clause-held
returns-then-region-perm-ne0-clause-held c =
    let rs = c.args.regions.now in
    let r = c.index-regions-place.result in
    let at = c.args.addr - r.lo in
    IfSome_then c.slice.result c.slice.ensures (λ bytes f.
    let h : AreHeld c.args.perm (cell_at rs) c.args.addr (take c.args.count (drop at r.bytes.items)) =
    all_held rs c.args.perm c.args.addr c.in_ok-place.place c.args.count r c.requires c.in_ok-place.ensures.bound
    (sym c.find_place.ensures.value ∙ c.in_ok-place.was) c.index-regions-place.is
    (ap not (ne_eqb _ _ c.if-region-perm-ne0.true)) (omega (arith, f.0)) in
    rw f.1 h)
