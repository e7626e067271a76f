-- The runs of an outcome.
use Rattle.std.proofs.Common.{◌≡◌, map, refl}
use Rattle.pun_base.specs.declared.outcome.Outcome.{Outcome}
use Rattle.pun_base.specs.declared.outcome.Outcome.TheVariants.{Patched, NotRelocatable, NoPlan, Shared}
use Rattle.pun_base.specs.Outcomes.{outcome_writes}
use Rattle.patch_report.specs.Runs.{runs_of}
use Rattle.patch_report.specs.Values.{outcome_value, write_value}

-- They are its writes.
pub runs_written : (outcome : Outcome) → map write_value (outcome_writes outcome) ≡ runs_of (outcome_value outcome)
runs_written (Patched plan) = refl
runs_written NotRelocatable = refl
runs_written NoPlan = refl
runs_written Shared = refl
