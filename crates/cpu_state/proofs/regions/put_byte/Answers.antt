use Rattle.std.proofs.Common.{◌≡◌, Some, refl, sym, ap, ◌∙◌}
use Rattle.cpu_state.specs.Regions.{place_of}
use Rattle.cpu_state.proofs.RegionCells.{FoundAt, found, found_at, put_found, put_none, still_ascending, same_extents, none_left}
use Rattle.cpu_state.proofs.regions.put_byte.Goals as goal

placed : (c : goal.After-index_mut-region) → place_of c.args.regions.now.items c.args.addr ≡ Some c.in-Some.place
placed c = ap (λ rs. place_of rs c.args.addr) (sym c.deref.ensures.value) ∙ sym c.find_place_near.ensures.value ∙ c.in-Some.is

here : (c : goal.After-index_mut-region) → FoundAt c.args.regions.now.items c.args.addr c.index_mut-region.result.now
here c = found_at c.args.regions.now.items c.args.addr c.in-Some.place c.index_mut-region.result.now (placed c) c.index_mut-region.ensures.value

pub overflow_sub-at : goal.overflow_sub-at
overflow_sub-at c = (here c).low

pub set-requires : goal.set-requires
set-requires c =
    let r = c.index_mut-region.result.now in
    let e = ap (λ rs. place_of rs c.args.addr) (sym c.deref.ensures.value) ∙ sym c.find_place_near.ensures.value ∙ c.in-Some.is in
    (found_at c.args.regions.now.items c.args.addr c.in-Some.place r e c.index_mut-region.ensures.value).inside

pub returns-in-Some-clause-value : goal.returns-in-Some-clause-value
returns-in-Some-clause-value c =
    let e = ap (λ rs. place_of rs c.args.addr) (sym c.deref.ensures.value) ∙ sym c.find_place_near.ensures.value ∙ c.in-Some.is in
    put_found c.args.regions.now.items c.in-Some.place c.args.addr c.args.byte c.index_mut-region.result.now _ e c.index_mut-region.ensures.value (record { lo = refl; perms = refl; bytes = c.set.ensures })

pub returns-in-Some-clause-ascending : goal.returns-in-Some-clause-ascending
returns-in-Some-clause-ascending c =
    let e = ap (λ rs. place_of rs c.args.addr) (sym c.deref.ensures.value) ∙ sym c.find_place_near.ensures.value ∙ c.in-Some.is in
    let k = found c.args.regions.now.items c.args.addr c.in-Some.place c.index_mut-region.result.now e in
    still_ascending 0 c.args.regions.now.items c.in-Some.place c.args.addr c.args.byte c.index_mut-region.result.now _ k.bound c.index_mut-region.ensures.value (record { lo = refl; perms = refl; bytes = c.set.ensures }) c.requires

pub returns-in_default-clause-value : goal.returns-in_default-clause-value
returns-in_default-clause-value c =
    put_none c.args.regions.now.items c.args.addr c.args.byte (ap (λ rs. place_of rs c.args.addr) (sym c.deref.ensures.value) ∙ sym c.find_place_near.ensures.value ∙ none_left c.find_place_near.result c.in_default.not-Some)

pub returns-in-Some-clause-extents : goal.returns-in-Some-clause-extents
returns-in-Some-clause-extents c =
    same_extents c.args.regions.now.items c.in-Some.place c.args.addr c.args.byte c.index_mut-region.result.now _ c.index_mut-region.ensures.value (record { lo = refl; perms = refl; bytes = c.set.ensures })
