use Rattle.std.proofs.Common.{ap, ◌∙◌, sym, ◌-◌, ◌/◌}
use Rattle.cpu_state.specs.Bytes.{put_number, advanced}
use Rattle.cpu_state.specs.Regions.{cell_at}
use Rattle.cpu_state.proofs.RegionCells.{put_number_step}
use Rattle.cpu_state.proofs.regions.+put_bytes.Goals as goal

pub returns-then-size-gt0-clause-value : goal.returns-then-size-gt0-clause-value
returns-then-size-gt0-clause-value t c =
    c.put_bytes.ensures.value
    ∙ ap (λ m. put_number m (advanced c.args.addr 1) (c.args.size - 1) (c.args.value / 256)) c.put_byte.ensures.value
    ∙ sym (put_number_step (cell_at c.args.regions.now.items) c.args.addr c.args.size c.args.value c.if-size-gt0.true)
