-- What a site's outcome adds and writes. Theorems cite it.
use Rattle.std.specs.Prelude.{List, []}
use Rattle.pun_base.specs.declared.outcome.Outcome.{Outcome}
use Rattle.pun_base.specs.declared.outcome.Outcome.TheVariants.{Patched}
use Rattle.pun_base.specs.declared.plan.Write.{Write}
use Rattle.pun_base.specs.declared.tramp.Tramp.{Tramp}

-- The trampolines of an outcome.
abbrev pub outcome_tramps : Outcome → List Tramp
outcome_tramps (Patched plan) = plan.tramps
outcome_tramps outcome = []

-- The writes of an outcome.
abbrev pub outcome_writes : Outcome → List Write
outcome_writes (Patched plan) = plan.writes
outcome_writes outcome = []
