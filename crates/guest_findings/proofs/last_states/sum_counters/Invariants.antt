use Rattle.std.proofs.Common.{◌≡◌}
use Rattle.image_step.specs.Running.{machine_in}
use Rattle.guest_findings.specs.Findings.{counters}
use Rattle.guest_findings.proofs.last_states.sum_counters.Given as goal

abbrev pub invariant-loop-site : goal.invariant-loop-site
invariant-loop-site l = l.sum ≡ counters (machine_in l.runner) l.private l.site
