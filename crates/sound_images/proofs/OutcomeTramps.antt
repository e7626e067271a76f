-- The trampolines of an outcome.
use Rattle.std.proofs.Common.{◌≡◌, refl}
use Rattle.pun_base.specs.declared.outcome.Outcome.{Outcome}
use Rattle.pun_base.specs.declared.outcome.Outcome.TheVariants.{Patched, NotRelocatable, NoPlan, Shared}
use Rattle.pun_base.specs.Outcomes.{outcome_tramps}
use Rattle.patch_report.specs.Values.{outcome_value}
use Rattle.sound_images.specs.Reports.{tramps_of}

-- They are those that its value tells.
pub tramps_told : (outcome : Outcome) → outcome_tramps outcome ≡ tramps_of (outcome_value outcome)
tramps_told (Patched plan) = refl
tramps_told NotRelocatable = refl
tramps_told NoPlan = refl
tramps_told Shared = refl
