-- What a runner shows of a run. Theorems cite it.
use Rattle.std.specs.Prelude.{◌≡◌, ◌↔◌, ℕ, ◌+◌, ◌<◌, true, if◌then◌else◌, count_by, List, ◌∷◌, ◌++◌, length, drop, Option, Some, None, Err}
use Rattle.cpu_state.specs.declared.script_regions.Region.{Region}
use Rattle.insn_form.specs.Machine.{Machine, first}
use Rattle.insn_form.specs.Runs.{IsRun, last_of, nowhere}
use Rattle.insn_form.specs.Step.{Step}
use Rattle.cpu_step.specs.declared.stop.Stop.{Stop}
use Rattle.cpu_step.specs.Stepping.{judged, machine_of}
use Rattle.image_step.specs.declared.runner.Runner.{Runner}
use Rattle.image_step.specs.declared.runner.RunEnd.{RunEnd}
use Rattle.image_step.specs.declared.runner_error.RunnerError.{RunnerError}
use Rattle.image_step.specs.declared.runner_error.RunnerError.TheVariants as errors
use Rattle.image_runs.specs.Listed.{is_start, is_known_start, is_listed_byte}
use Rattle.image_runs.specs.Quiet.{IsQuiet}
use Rattle.image_runs.specs.Starting.{least_met_of}

-- A region that meets the image has number 2; that memory runs out has none.
abbrev pub number_of : RunnerError → Option ℕ
number_of (errors.RegionMeets lo) = Some 2
number_of errors.Memory = None

-- A region that meets a page of the image is told, the least one.
abbrev pub Meets : List ℕ → List Region → Option RunnerError → Type 0
Meets file rs None = least_met_of file rs ≡ None
Meets file rs (Some (errors.RegionMeets lo)) = least_met_of file rs ≡ Some lo
Meets file rs (Some errors.Memory) = Unit {0}

-- The state in which a runner stands, with the entries of its world that are left.
abbrev pub machine_in : Runner → Machine
machine_in r = machine_of r.state (drop r.used r.world.now)

-- A runner shows a run: where it leads, how many steps it has, how many of its states stand at a listed start, and whether
-- it is quiet.
pub record Shows (r : Runner) (s : Machine) (ts : List Machine) : Type 0 where
  pub run : IsRun Step s ts
  pub here : machine_in r ≡ last_of s ts
  pub steps : r.steps ≡ length ts
  pub outside : r.outside ≡ count_by (λ u. is_start r.starts u.rip) (s ∷ ts)
  pub quiet : (r.quiet ≡ true) ↔ IsQuiet Step r.starts s ts

-- No step leads on, for this reason.
pub record IsStopped (m : Machine) (stop : Stop) : Type 0 where
  pub reason : judged m.core m.rip m.mem (first m.world) ≡ Err stop
  pub none : (t : Machine) → Step nowhere m t → ⊥

-- All n steps were made, or fewer, and no step leads on.
abbrev pub Ends : Option Stop → Machine → ℕ → ℕ → Type 0
Ends None m made n = made ≡ n
Ends (Some stop) m made n = (made < n) × IsStopped m stop

-- A runner that showed a run shows the same run with more steps.
pub record Goes (new : Runner) (s : Machine) (ts : List Machine) (n : ℕ) (end : RunEnd) : Type 0 where
  pub more : List Machine
  pub shows : Shows new s (ts ++ more)
  pub steps : end.steps ≡ length more
  pub ends : Ends end.stop (machine_in new) end.steps n

-- One step, and what it adds; or none, and why.
abbrev pub Advances : Runner → Runner → Option Stop → Type 0
Advances old new (Some stop) =
    (machine_in new ≡ machine_in old) × (new.steps ≡ old.steps) × (new.outside ≡ old.outside) × (new.quiet ≡ old.quiet)
    × IsStopped (machine_in old) stop
Advances old new None =
    Step nowhere (machine_in old) (machine_in new) × (new.steps ≡ old.steps + 1)
    × (new.outside ≡ old.outside + (if is_start old.starts new.state.rip then 1 else 0))
    × ((new.quiet ≡ true) ↔ ((old.quiet ≡ true) × (is_known_start old.starts old.state.rip ≡ true)
    × Step (is_listed_byte old.starts) (machine_in old) (machine_in new) × (is_start old.starts new.state.rip ≡ true)))
