use Rattle.std.proofs.Common.{Some, sym, ap, ◌∙◌, option_map}
use Rattle.cpu_state.specs.Regions.{cell_of}
use Rattle.cpu_state.proofs.RegionCells.{found_at, not_found}
use Rattle.cpu_state.proofs.regions.find.Goals as goal

pub returns-in_err-place : goal.returns-in_err-place
returns-in_err-place c = ap (option_map cell_of) c.from_residual.ensures ∙ sym (not_found c.args.regions.now c.args.addr (sym c.find_place.ensures.value ∙ c.in_err-place.was))

pub overflow_sub-addr : goal.overflow_sub-addr
overflow_sub-addr c =
    (found_at c.args.regions.now c.args.addr c.in_ok-place.place c.index-regions-place.result
    (sym c.find_place.ensures.value ∙ c.in_ok-place.was) c.index-regions-place.is).low

pub returns : goal.returns
returns c =
    let r = c.index-regions-place.result in
    let k = found_at c.args.regions.now c.args.addr c.in_ok-place.place r (sym c.find_place.ensures.value ∙ c.in_ok-place.was) c.index-regions-place.is in
    ap (λ b. Some (record { byte = b; perms = r.perms })) c.byte.ensures ∙ k.cell
