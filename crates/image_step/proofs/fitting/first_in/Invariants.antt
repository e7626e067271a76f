use Rattle.std.proofs.Common.{◌≡◌, ◌-◌}
use Rattle.cpu_state.specs.Regions.{cell_at}
use Rattle.image_step.specs.Fitting.{addresses_from, first_refused, is_open}
use Rattle.image_step.proofs.fitting.first_in.Given as goal

abbrev pub invariant-loop-turn : goal.invariant-loop-turn
invariant-loop-turn l =
    let test = is_open l.starts (cell_at l.memory) in
    first_refused test (addresses_from l.at (l.count - l._turn)) ≡ first_refused test (addresses_from l.addr l.count)
