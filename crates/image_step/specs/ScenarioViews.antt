-- Values of the code as the definitions see them. Contracts of private functions alone cite it.
use Rattle.std.specs.Prelude.{map}
use Rattle.image_step.specs.declared.scenario_reading.ScenarioParts.{ScenarioParts}
use Rattle.image_step.specs.declared.scenario_draft.Coming.{Coming}
use Rattle.image_step.specs.declared.scenario_draft.ScenarioDraft as code
use Rattle.image_step.specs.declared.scenario_draft.ScenarioDraft.TheVariants as drafts
use Rattle.image_step.specs.ScenarioReading.{ScenarioDraft, opened, front, valued, came, inner}
use Rattle.image_step.specs.ScenarioText.{DueValue, ScenarioValue, due_value}
use Rattle.image_step.specs.Views.{draft_value, parts_value}

-- The delivery that goes on.
abbrev pub coming_value : Coming → DueValue
coming_value c = due_value (record { step = c.step; delivery = record { core = c.core; rip = c.rip; writes = c.writes.items } })

-- What has been read so far.
abbrev pub scenario_draft_value : code.ScenarioDraft → ScenarioDraft
scenario_draft_value drafts.Opened = opened
scenario_draft_value drafts.Front = front
scenario_draft_value (drafts.Valued ds step vs) = valued (map due_value ds.items) step vs.items
scenario_draft_value (drafts.Came ds c) = came (map due_value ds.items) (coming_value c)
scenario_draft_value (drafts.Inner ds d) = inner (map due_value ds.items) (draft_value d)

-- The script with deliveries that these parts make.
abbrev pub scenario_parts_value : ScenarioParts → ScenarioValue
scenario_parts_value p = record { dues = map due_value p.dues.items; script = parts_value p.parts }
