use Rattle.std.proofs.Common.{◌≡◌, drop}
use Rattle.cpu_state.specs.Script.{ascend}
use Rattle.image_step.proofs.grammar.are_ascending.Given as goal

abbrev pub invariant-loop-region : goal.invariant-loop-region
invariant-loop-region l = ascend l.low (drop l.region-index l.regions) ≡ ascend 0 l.regions
