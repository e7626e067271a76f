use Rattle.std.proofs.Common.{length}
use Rattle.image_step.specs.ScenarioViews.{scenario_draft_value}
use Rattle.image_step.proofs.ScenarioTexts.{ReadSoFar}
use Rattle.image_step.proofs.scenario_reading.read_scenario_parts.Given as goal

abbrev pub invariant-loop-rest : goal.invariant-loop-rest
invariant-loop-rest l = ReadSoFar l.text l.place (scenario_draft_value l.draft) l.rest

abbrev pub decreases-loop-rest : goal.decreases-loop-rest
decreases-loop-rest l = length l.rest
