use Rattle.std.proofs.Common.{◌≡◌, drop}
use Rattle.cpu_state.specs.Regions.{cell_at}
use Rattle.image_step.specs.Fitting.{first_refused, is_open, written}
use Rattle.image_step.proofs.fitting.first_written.Given as goal

abbrev pub invariant-loop-write : goal.invariant-loop-write
invariant-loop-write l =
    let test = is_open l.starts (cell_at l.memory) in
    first_refused test (written (drop l.write-index l.writes)) ≡ first_refused test (written l.writes)
