-- What `read_scenario` answers. Theorems cite it.
use Rattle.std.specs.Prelude.{◌≡◌, ◌≢◌, ℕ, ◌-◌, ◌≤◌, List, map, Result, Ok, Err}
use Rattle.image_step.specs.declared.error.ScriptError.{ScriptError}
use Rattle.image_step.specs.declared.error.ScriptError.TheVariants as errors
use Rattle.image_step.specs.declared.scenario.Scenario.{Scenario}
use Rattle.image_step.specs.Answers.{Agrees}
use Rattle.image_step.specs.ScenarioText.{ScenarioValue, IsScenario, due_value, scenario_text}
use Rattle.image_step.specs.Values.{script_value}

-- A script with deliveries as a plain value.
abbrev pub scenario_value : Scenario → ScenarioValue
scenario_value s = record { dues = map due_value s.dues.items; script = script_value s.script }

-- Line n is the first with which the text of no script agrees, with deliveries or without.
pub record IsScenarioRefused (text : List ℕ) (n : ℕ) : Type 0 where
  pub place : 1 ≤ n
  pub front : (v : ScenarioValue) × IsScenario v × Agrees (n - 1) text (scenario_text v)
  pub none : (v : ScenarioValue) → IsScenario v → Agrees n text (scenario_text v) → ⊥
  pub other : (v : ScenarioValue) → IsScenario v → text ≢ scenario_text v

-- The text is that of this script with deliveries, and of no other one.
pub record IsTextOfScenario (text : List ℕ) (v : ScenarioValue) : Type 0 where
  pub holds : IsScenario v
  pub spelled : text ≡ scenario_text v
  pub one : (w : ScenarioValue) → IsScenario w → text ≡ scenario_text w → w ≡ v

-- What was read of a text, seen by view.
abbrev pub ReadsScenarioAs : {X : Type 0} → (X → ScenarioValue) → List ℕ → Result X ScriptError → Type 0
ReadsScenarioAs view text (Ok x) = IsTextOfScenario text (view x)
ReadsScenarioAs view text (Err errors.Memory) = Unit {0}
ReadsScenarioAs view text (Err (errors.BadScript line)) = IsScenarioRefused text line

-- What was read is the script of this text, with its deliveries, or the line is told at which the text is refused.
abbrev pub ReadsScenario : List ℕ → Result Scenario ScriptError → Type 0
ReadsScenario text result = ReadsScenarioAs scenario_value text result
