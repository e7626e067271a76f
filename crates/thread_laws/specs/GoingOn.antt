-- A proper run that goes on by a proper one: together they are one, so that laws can be applied one after another. Theorems cite it.
use Rattle.std.specs.Prelude.{◌≡◌, ℕ, List, ◌++◌, map}
use Rattle.thread_runs.specs.Threading.{Threading}
use Rattle.thread_runs.specs.Watching.{Watch}
use Rattle.thread_runs.specs.Premises.{IsProperRun}
use Rattle.thread_runs.specs.GuestDeliveries.{GuestItem, Goes}
use Rattle.thread_runs.specs.WatchedDeliveries.{WatchWith, IsProperRunWith, last_with}
use Rattle.thread_laws.specs.Beginning.{BirthItem, Does, GrowingWatch, IsProperGrowing, last_growing}

-- A proper run with deliveries, and from where it ends a proper one over a schedule, are one proper run.
abbrev pub GoesOnWith : Threading → Type 0
GoesOnWith r = (items : List GuestItem) (x : WatchWith) (xs : List WatchWith) (schedule : List ℕ) (ws : List Watch)
    → IsProperRunWith r items x xs → IsProperRun r schedule (last_with x xs).watch ws
    → (ys : List WatchWith) × IsProperRunWith r (items ++ map Goes schedule) x (xs ++ ys) × (map (λ y. y.watch) ys ≡ ws)

-- So are one in which threads begin, and such a run.
abbrev pub GoesOnGrowing : Threading → Type 0
GoesOnGrowing r = (items : List BirthItem) (x : GrowingWatch) (xs : List GrowingWatch) (schedule : List ℕ) (ws : List Watch)
    → IsProperGrowing r items x xs → IsProperRun r schedule (last_growing x xs).watch ws
    → (ys : List GrowingWatch) × IsProperGrowing r (items ++ map (λ k. Does (Goes k)) schedule) x (xs ++ ys) × (map (λ y. y.watch) ys ≡ ws)

-- So it is whatever was patched.
abbrev pub ProperRunsGoOn : Type 0
ProperRunsGoOn = (r : Threading) → GoesOnWith r × GoesOnGrowing r
