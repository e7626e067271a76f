use Rattle.std.proofs.Common.{drop, refl, sym, ap, ◌∙◌}
use Rattle.cpu_state.specs.Regions.{cell_at}
use Rattle.insn_form.specs.Machine.{put_all}
use Rattle.image_step.specs.Running.{machine_in}
use Rattle.image_step.proofs.OpenBytes.{fits_where_open, unfit}
use Rattle.image_step.proofs.runner.Runner.deliver.Goals as goal

pub returns-in-Some-clause-delivers : goal.returns-in-Some-clause-delivers
returns-in-Some-clause-delivers c =
    let r = c.args.self.now in
    let e = rw c.in-Some.is at c.unfit_at.ensures (drop r.used r.world.now) in
    (unfit r.starts (machine_in r) c.args.delivery.now c.in-Some.addr c.core_is_sized.ensures (sym e), refl, refl, refl, refl)

pub returns-clause-delivers : goal.returns-clause-delivers
returns-clause-delivers c =
    let r = c.args.self.now in
    let world = drop r.used r.world.now in
    let e = rw c.in_default.is at c.unfit_at.ensures world in
    let h = c.place.ensures in
    let mem = h.memory ∙ ap (put_all (cell_at r.state.mem)) c.as_slice-writes.ensures in (
      (fits_where_open r.starts (machine_in r) c.args.delivery.now c.core_is_sized.ensures).1 (sym e),
      λ i. record { core = h.core i; rip = h.rip i; mem = mem i; world = world },
      refl,
      refl,
      refl,
    )
