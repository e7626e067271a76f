-- What `step` refuses, what it accepts, and what it answers then. Theorems cite it.
use Rattle.std.specs.Prelude.{◌≡◌, ℕ, ◌⊎◌, List, [], ◌∷◌, Option, Some, None, option_map, Result, Ok, Err}
use Rattle.std.specs.Option.{option_or}
use Rattle.pun_base.specs.Shown.{DeskState, SinkState}
use Rattle.elf_read.specs.Refusals.{refusal}
use Rattle.cpu_state.specs.declared.script_regions.Region.{Region}
use Rattle.list_text.specs.declared.refusal.ListError.{ListError}
use Rattle.start_entries.specs.Entries.{entries_of}
use Rattle.image_step.specs.ScenarioAnswers.{IsScenarioRefused, IsTextOfScenario, scenario_value}
use Rattle.image_runs.specs.Starting.{least_met_of, start_machine}
use Rattle.image_step.specs.declared.scenario.Scenario.{Scenario}
use Rattle.image_step.specs.declared.error.ScriptError.{ScriptError}
use Rattle.image_step.specs.declared.error.ScriptError.TheVariants as script
use Rattle.image_step.specs.declared.runner_error.RunnerError.TheVariants.{RegionMeets}
use Rattle.command_words.specs.Words.{StepNames}
use Rattle.command_io.specs.Refusals.{Refusal, BadList, BadScript, BadFile, Meets}
use Rattle.command_io.specs.Verdict.{starts_of}
use Rattle.command_io.specs.Inputs.{Inputs}
use Rattle.command_io.specs.Inspecting.{Refusing, Telling, Inspects}
use Rattle.inspect_commands.specs.StepTallies.{StepTally, IsStepTally}
use Rattle.inspect_commands.specs.StepText.{step_text, step_status}
use Rattle.command_io.specs.declared.ends.Input.TheVariants as input

-- FILE, STARTS and WORLD are read in this order.
abbrev pub step_inputs : StepNames → Inputs
step_inputs n = (input.File, n.file) ∷ (input.Starts, n.starts) ∷ (input.World, n.world) ∷ []

-- The first refusal of FILE and of a script's regions beside its image, if there is one.
abbrev pub run_refusal : List ℕ → List Region → Option Refusal
run_refusal file regions =
    option_or (option_map (BadFile input.File) (refusal 0x10000 file)) (option_map (λ lo. Meets (RegionMeets lo)) (least_met_of file regions))

-- Texts that are accepted: a list, a script with deliveries or without, and a file whose image no region of the script meets.
pub record AreRun (file starts world list : List ℕ) (s : Scenario) : Type 0 where
  pub starts_are : starts_of starts ≡ Ok list
  pub scenario_is : IsTextOfScenario world (scenario_value s)
  pub not_refused : run_refusal file s.script.regions ≡ None

-- The texts that `step` accepts.
abbrev pub StepAccepts : List (List ℕ) → Type 0
StepAccepts (file ∷ starts ∷ world ∷ []) = (list : List ℕ) × ((s : Scenario) × AreRun file starts world list s)
StepAccepts other = ⊥

-- What a world's text is read as: the script whose text it is, or why it is none's.
abbrev pub IsScenarioRead : List ℕ → Result Scenario ScriptError → Type 0
IsScenarioRead text (Ok s) = IsTextOfScenario text (scenario_value s)
IsScenarioRead text (Err (script.BadScript line)) = IsScenarioRefused text line
IsScenarioRead text (Err script.Memory) = ⊥

-- Refused by what WORLD is read as.
abbrev pub OfWorld : List ℕ → Result Scenario ScriptError → Refusal → Type 0
OfWorld file (Err error) r = r ≡ BadScript error
OfWorld file (Ok s) r = run_refusal file s.script.regions ≡ Some r

-- Refused by what STARTS is read as.
abbrev pub OfStarts : (file world : List ℕ) → Result (List ℕ) ListError → Refusal → Type 0
OfStarts file world (Err error) r = r ≡ BadList input.Starts error
OfStarts file world (Ok list) r = (s : Result Scenario ScriptError) × IsScenarioRead world s × OfWorld file s r

-- The texts that `step` refuses, and how. They are judged in this order: STARTS, WORLD, FILE, and the script's regions with the file's
-- image.
abbrev pub StepRefuses : Refusing
StepRefuses (file ∷ starts ∷ world ∷ []) r = OfStarts file world (starts_of starts) r
StepRefuses other r = ⊥

-- What is answered of accepted texts: the tally of the run of at most n steps, with the deliveries of the script.
pub record TellsRun (n : ℕ) (file starts world text : List ℕ) (status : ℕ) : Type 0 where
  pub list : List ℕ
  pub scenario : Scenario
  pub tally : StepTally
  pub accepted : AreRun file starts world list scenario
  pub ran : IsStepTally (start_machine file scenario.script) (entries_of file list) scenario.dues.items n tally
  pub told : text ≡ step_text scenario.dues.items tally
  pub answered : status ≡ step_status tally.halted

-- What `step` tells of the texts of its inputs.
abbrev pub StepTells : ℕ → Telling
StepTells n (file ∷ starts ∷ world ∷ []) text status = TellsRun n file starts world text status
StepTells n other text status = ⊥

-- 0 where all steps were made, 8 where there were fewer.
abbrev pub IsStepStatus : ℕ → Type 0
IsStepStatus status = (status ≡ 0) ⊎ (status ≡ 8)

-- What `step` does, with these names and this number of steps.
abbrev pub Steps : StepNames → ℕ → DeskState → DeskState → SinkState → SinkState → ℕ → Type 0
Steps names n s t k l status = Inspects (step_inputs names) StepAccepts StepRefuses (StepTells n) IsStepStatus s t k l status
