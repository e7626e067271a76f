use Rattle.std.proofs.Common.{sym, ap, ◌∙◌}
use Rattle.cpu_state.specs.Regions.{holds}
use Rattle.cpu_state.proofs.RegionSpans.{place_held}
use Rattle.cpu_state.proofs.regions.find_place_near.Goals as goal

pub returns-then-holds-clause-value : goal.returns-then-holds-clause-value
returns-then-holds-clause-value c =
    let h = ap (λ r. holds r c.args.addr) (sym c.index-regions-near.is) ∙ sym c.holds.ensures ∙ c.if-holds.true in
    sym (place_held 0 c.args.near c.args.addr c.args.regions.now c.index-regions-near.result c.requires c.if-near-regions.true h)
