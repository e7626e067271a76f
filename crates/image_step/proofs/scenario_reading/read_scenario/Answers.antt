use Rattle.std.proofs.Common.{map, subst, sym, ◌∙◌}
use Rattle.image_step.specs.ScenarioAnswers.{IsTextOfScenario}
use Rattle.image_step.specs.ScenarioText.{due_value}
use Rattle.image_step.specs.Values.{ScriptValue}
use Rattle.image_step.proofs.ScenarioTexts.{rise_values}
use Rattle.image_step.proofs.scenario_reading.read_scenario.Goals as goal

pub returns : goal.returns
returns c =
    subst (λ (s : ScriptValue). IsTextOfScenario c.args.text.now (record { dues = map due_value c.in_ok-parts.parts.dues.items; script = s }))
    (sym c.script_of.ensures) c.in_ok-parts.ensures

pub invariant_of-result : goal.invariant_of-result
invariant_of-result c =
    record { rising = rise_values 0 c.in_ok-parts.parts.dues.items ∙ c.in_ok-parts.ensures.holds.rising }
