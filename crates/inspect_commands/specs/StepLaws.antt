-- What `step` tells of a script without deliveries. Theorems cite it.
use Rattle.std.specs.Prelude.{◌≡◌, ℕ, List, [], Option, None, Ok}
use Rattle.cpu_state.specs.declared.script.Script.{Script}
use Rattle.image_step.specs.Answers.{IsTextOf}
use Rattle.image_step.specs.Scheduled.{halted_by}
use Rattle.image_step.specs.Values.{ScriptValue, script_value}
use Rattle.command_io.specs.Verdict.{starts_of}
use Rattle.guest_findings.specs.Tallies.{Tally, IsTally}
use Rattle.inspect_commands.specs.StepTallies.{StepTally}
use Rattle.inspect_commands.specs.StepText.{step_status, step_text}
use Rattle.inspect_commands.specs.StepAnswers.{TellsRun, run_refusal}

-- The tally of a run without deliveries, as `step` tells it.
abbrev pub undelivered : Tally → StepTally
undelivered t = record { steps = t.steps; made = 0; halted = halted_by t.stop; quiet = t.quiet; outside = t.outside; last = t.last }

-- What is answered of a script without deliveries: the tally of the run of at most n steps.
pub record TellsPlainRun (n : ℕ) (file starts world text : List ℕ) (status : ℕ) : Type 0 where
  pub list : List ℕ
  pub script : Script
  pub tally : Tally
  pub starts_are : starts_of starts ≡ Ok list
  pub script_is : IsTextOf world (script_value script)
  pub not_refused : run_refusal file script.regions ≡ None
  pub ran : IsTally file list script n tally
  pub told : text ≡ step_text [] (undelivered tally)
  pub answered : status ≡ step_status (halted_by tally.stop)

-- It is what `step` tells where WORLD is the text of a script.
abbrev pub PlainRunsAreTold : Type 0
PlainRunsAreTold = (n : ℕ) (file starts world text : List ℕ) (status : ℕ) (v : ScriptValue) → IsTextOf world v → TellsRun n file starts world text status
    → TellsPlainRun n file starts world text status
