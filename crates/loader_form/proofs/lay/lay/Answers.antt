use Rattle.std.proofs.Common.{ℕ, subst}
use Rattle.loader_form.specs.Lay.{taken_after, Lays}
use Rattle.loader_form.proofs.StubPlaces.{lays_same}
use Rattle.loader_form.proofs.lay.lay.Goals as goal

pub returns : goal.returns
returns c =
    let others = taken_after c.args.elf.now.bytes c.args.reserves.now c.args.planned.now in
    subst (λ (n : ℕ). Lays others n c.lay_in.result) c.in-Ok.ensures
    (lays_same c.in-Ok-space_after.space.taken others c.in-Ok.runs c.lay_in.result c.in-Ok-space_after.ensures c.lay_in.ensures)
