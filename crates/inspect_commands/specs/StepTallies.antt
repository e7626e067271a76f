-- The tally of a run with deliveries: what is true of it, and the one that a runner shows. Theorems cite it.
use Rattle.std.specs.Prelude.{◌≡◌, ◌↔◌, ℕ, Bool, true, count_by, List, [], ◌∷◌, ◌++◌, length, take, drop, Option}
use Rattle.insn_form.specs.Machine.{Machine}
use Rattle.insn_form.specs.Step.{Step}
use Rattle.start_entries.specs.declared.entry.StartEntry.{StartEntry}
use Rattle.image_step.specs.declared.delivery.Due.{Due}
use Rattle.image_step.specs.declared.delivery.DueEnd.{DueEnd}
use Rattle.image_step.specs.declared.delivery.Halted.{Halted}
use Rattle.image_step.specs.declared.runner.Runner.{Runner}
use Rattle.image_runs.specs.Deliveries.{Item, IsQuietWith, IsRunWith, end_of, stepped_at}
use Rattle.image_runs.specs.Listed.{is_start}
use Rattle.image_step.specs.Running.{machine_in}
use Rattle.image_step.specs.Scheduled.{HaltsBy, are_below, numbered}

-- What is told of a run: how many steps it has and how many deliveries, why it goes no further where that is so, whether it
-- is quiet, how many of its states stand at a listed start, and its last state.
pub record StepTally : Type 0 where
  pub steps : ℕ
  pub made : ℕ
  pub halted : Option Halted
  pub quiet : Bool
  pub outside : ℕ
  pub last : Machine

-- The tally is true of the run from a state, of at most n steps, with the deliveries that are due in it: each behind as many
-- steps as its number says.
pub record IsStepTally (first : Machine) (listed : List StartEntry) (dues : List Due) (n : ℕ) (t : StepTally) : Type 0 where
  pub items : List Item
  pub run : IsRunWith Step listed first items
  pub last : t.last ≡ end_of first items
  pub steps : t.steps ≡ length (stepped_at first items)
  pub made : numbered 0 items ≡ take t.made dues
  pub due : are_below n (take t.made dues) ≡ true
  pub ends : HaltsBy t.halted listed t.last t.steps (drop t.made dues) t.steps n
  pub outside : t.outside ≡ count_by (λ u. is_start listed u.rip) (stepped_at first items ++ end_of first items ∷ [])
  pub quiet : (t.quiet ≡ true) ↔ IsQuietWith Step listed first items

-- The tally of a run that a runner shows, and that ended so.
abbrev pub step_tally_of : Runner → DueEnd → StepTally
step_tally_of r end =
    record { steps = end.steps; made = end.made; halted = end.halted; quiet = r.quiet; outside = r.outside; last = machine_in r }
