-- What a runner shows of a run with deliveries, and which deliveries are due in it. Theorems cite it.
use Rattle.std.specs.Prelude.{◌≡◌, ◌↔◌, ℕ, ◌+◌, ◌<◌, Bool, true, ◌&&◌, nat_le, nat_lt, count_by, List, [], ◌∷◌, ◌++◌, length, map, Option, Some, None, Result, Ok, Err}
use Rattle.start_entries.specs.declared.entry.StartEntry.{StartEntry}
use Rattle.insn_form.specs.Machine.{Machine}
use Rattle.insn_form.specs.Step.{Step}
use Rattle.cpu_step.specs.declared.stop.Stop.{Stop}
use Rattle.image_runs.specs.declared.delivery.Delivery.{Delivery}
use Rattle.image_step.specs.declared.delivery.Due.{Due}
use Rattle.image_step.specs.declared.delivery.Halted.{Halted}
use Rattle.image_step.specs.declared.delivery.Halted.TheVariants.{NoStep, NoFit}
use Rattle.image_step.specs.declared.delivery.Unfit.{Unfit}
use Rattle.image_step.specs.declared.runner.Runner.{Runner}
use Rattle.image_runs.specs.Deliveries.{Item, Stepped, Taken, delivered, end_of, stepped_at, Fits, IsRunWith, IsQuietWith}
use Rattle.image_step.specs.Fitting.{IsUnfit}
use Rattle.image_runs.specs.Listed.{is_start}
use Rattle.image_step.specs.Running.{IsStopped, Shows, machine_in}

-- A runner shows a run with deliveries: where it leads, how many steps it has, how many of the states at which a step was
-- made, and of its last one, stand at a listed start, and whether it is quiet.
pub record ShowsWith (r : Runner) (s : Machine) (is : List Item) : Type 0 where
  pub run : IsRunWith Step r.starts s is
  pub here : machine_in r ≡ end_of s is
  pub steps : r.steps ≡ length (stepped_at s is)
  pub outside : r.outside ≡ count_by (λ u. is_start r.starts u.rip) (stepped_at s is ++ end_of s is ∷ [])
  pub quiet : (r.quiet ≡ true) ↔ IsQuietWith Step r.starts s is

-- It shows a run without deliveries exactly where it shows its steps as items.
abbrev pub PlainRunsAreShown : Type 0
PlainRunsAreShown = (r : Runner) (s : Machine) (ts : List Machine) → Shows r s ts ↔ ShowsWith r s (map Stepped ts)

-- A delivery was made, since it fits; or none, and nothing has changed.
abbrev pub Delivers : Runner → Runner → Delivery → Result (Unit {0}) Unfit → Type 0
Delivers old new d (Ok done) =
    Fits old.starts (machine_in old) d × (machine_in new ≡ delivered d (machine_in old))
    × (new.steps ≡ old.steps) × (new.outside ≡ old.outside) × (new.quiet ≡ old.quiet)
Delivers old new d (Err e) =
    IsUnfit old.starts (machine_in old) d e.addr × (machine_in new ≡ machine_in old)
    × (new.steps ≡ old.steps) × (new.outside ≡ old.outside) × (new.quiet ≡ old.quiet)

-- The deliveries of a run, each with the number of steps before it, where k were made before the first.
abbrev pub numbered : ℕ → List Item → List Due
numbered k [] = []
numbered k (Stepped t ∷ is) = numbered (k + 1) is
numbered k (Taken d ∷ is) = record { step = k; delivery = d } ∷ numbered k is

-- A runner went on: whatever run it showed, it shows with more items, whose deliveries are these, each behind as many steps
-- as its number says.
abbrev pub GoesOn : Runner → Runner → List Due → Type 0
GoesOn old new dues = (s : Machine) (is : List Item) → ShowsWith old s is →
    (more : List Item) × ShowsWith new s (is ++ more) × (numbered 0 (is ++ more) ≡ numbered 0 is ++ dues)

-- The numbers of steps don't fall, and none is below k.
abbrev pub rise : ℕ → List Due → Bool
rise k [] = true
rise k (d ∷ ds) = nat_le k d.step && rise d.step ds

-- They are all below n.
abbrev pub are_below : ℕ → List Due → Bool
are_below n [] = true
are_below n (d ∷ ds) = nat_lt d.step n && are_below n ds

-- No step leads on, for this reason, if there is one.
abbrev pub halted_by : Option Stop → Option Halted
halted_by None = None
halted_by (Some stop) = Some (NoStep stop)

-- Why a run of at most n steps ended, where these deliveries are left: all steps were made, and what is left is due behind
-- them at the earliest; or no step leads on, and what is left is due later; or the first of them is due and doesn't fit. The
-- run ended in this state, with k steps in all, of which these were made.
abbrev pub HaltsBy : Option Halted → List StartEntry → Machine → ℕ → List Due → ℕ → ℕ → Type 0
HaltsBy None listed last k left made n = (made ≡ n) × (rise k left ≡ true)
HaltsBy (Some (NoStep stop)) listed last k left made n = (made < n) × IsStopped last stop × (rise (k + 1) left ≡ true)
HaltsBy (Some (NoFit e)) listed last k [] made n = ⊥
HaltsBy (Some (NoFit e)) listed last k (d ∷ ds) made n = (made < n) × (d.step ≡ k) × IsUnfit listed last d.delivery e.addr

-- So a runner's run ended.
abbrev pub EndsBy : Option Halted → Runner → List Due → ℕ → ℕ → Type 0
EndsBy halted r left made n = HaltsBy halted r.starts (machine_in r) r.steps left made n

-- A runner went up to a delivery and made it; or no step leads on before; or it is due and doesn't fit.
abbrev pub GoesUpTo : Runner → Runner → Due → Result (Unit {0}) Halted → Type 0
GoesUpTo old new d (Ok done) = GoesOn old new (d ∷ []) × (new.steps ≡ d.step)
GoesUpTo old new d (Err (NoStep stop)) = GoesOn old new [] × (new.steps < d.step) × IsStopped (machine_in new) stop
GoesUpTo old new d (Err (NoFit e)) = GoesOn old new [] × (new.steps ≡ d.step) × IsUnfit new.starts (machine_in new) d.delivery e.addr
