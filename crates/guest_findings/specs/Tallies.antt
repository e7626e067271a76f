-- The tally of a run: what is true of it, and the one that a runner shows. Theorems cite it.
use Rattle.std.specs.Prelude.{◌≡◌, ◌↔◌, ℕ, Bool, true, count_by, List, ◌∷◌, length, Option}
use Rattle.cpu_state.specs.declared.script.Script.{Script}
use Rattle.cpu_step.specs.declared.stop.Stop.{Stop}
use Rattle.insn_form.specs.Machine.{Machine}
use Rattle.insn_form.specs.Runs.{IsRun, last_of}
use Rattle.insn_form.specs.Step.{Step}
use Rattle.start_entries.specs.Entries.{entries_of}
use Rattle.image_step.specs.declared.runner.Runner.{Runner}
use Rattle.image_step.specs.declared.runner.RunEnd.{RunEnd}
use Rattle.image_runs.specs.Listed.{is_start}
use Rattle.image_runs.specs.Quiet.{IsQuiet}
use Rattle.image_step.specs.Running.{Ends, machine_in}
use Rattle.image_runs.specs.Starting.{start_machine}

-- What is told of a run: how many steps it has, why it has no more where it has fewer than were asked for, whether it is
-- quiet, how many of its states stand at a listed start, and its last state.
pub record Tally : Type 0 where
  pub steps : ℕ
  pub stop : Option Stop
  pub quiet : Bool
  pub outside : ℕ
  pub last : Machine

-- The tally is true of the run from a state, of at most n steps.
pub record IsTallyFrom (first : Machine) (file starts : List ℕ) (n : ℕ) (t : Tally) : Type 0 where
  pub states : List Machine
  pub run : IsRun Step first states
  pub last : t.last ≡ last_of first states
  pub steps : t.steps ≡ length states
  pub ends : Ends t.stop t.last t.steps n
  pub outside : t.outside ≡ count_by (λ u. is_start (entries_of file starts) u.rip) (first ∷ states)
  pub quiet : (t.quiet ≡ true) ↔ IsQuiet Step (entries_of file starts) first states

-- The tally is true of the run of a file under a script, of at most n steps.
abbrev pub IsTally : List ℕ → List ℕ → Script → ℕ → Tally → Type 0
IsTally file starts script n t = IsTallyFrom (start_machine file script) file starts n t

-- The tally of a run that a runner shows, and that ended so.
abbrev pub tally_of : Runner → RunEnd → Tally
tally_of r end = record { steps = end.steps; stop = end.stop; quiet = r.quiet; outside = r.outside; last = machine_in r }
