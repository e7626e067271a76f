-- Scripts with deliveries, and the one text of each: the second version. Theorems cite it.
use Rattle.std.specs.Prelude.{◌≡◌, ℕ, ◌^◌, ◌<◌, Bool, true, ◌&&◌, nat_le, List, [], ◌∷◌, ◌++◌, length, map, codes}
use Rattle.std.specs.List.{AllByRecursion, flat_map}
use Rattle.list_text.specs.Laws.{ended}
use Rattle.cpu_alu.specs.FlagWord.{packed}
use Rattle.cpu_state.specs.declared.world.MemWrite.{MemWrite}
use Rattle.image_step.specs.declared.delivery.Due.{Due}
use Rattle.image_step.specs.declared.line.Line.{Line}
use Rattle.image_step.specs.declared.line.Line.TheVariants as line
use Rattle.image_step.specs.declared.scenario_line.ScenarioLine.{ScenarioLine}
use Rattle.image_step.specs.declared.scenario_line.ScenarioLine.TheVariants.{Second, Due as DueLine, Rip, Plain}
use Rattle.image_step.specs.Values.{ScriptValue}
use Rattle.image_step.specs.Spelling.{hex16, line_text, script_lines, value_lines}
use Rattle.image_step.specs.Grammar.{IsScript, LineHolds}

-- A delivery: how many steps are before it; sixteen registers, the flags word and the bases of fs and gs, by the order of
-- their names; where it leads; what it writes.
pub record DueValue : Type 0 where
  pub step : ℕ
  pub values : List ℕ
  pub rip : ℕ
  pub writes : List MemWrite

-- A script and the deliveries that come upon its run.
pub record ScenarioValue : Type 0 where
  pub dues : List DueValue
  pub script : ScriptValue

-- A delivery as a plain value.
abbrev pub due_value : Due → DueValue
due_value d =
    let c = d.delivery.core in
    record { step = d.step; values = c.regs ++ (packed c.flags ∷ c.fs ∷ c.gs ∷ []); rip = d.delivery.rip; writes = d.delivery.writes }

-- A line without the LF at its end.
abbrev pub scenario_line_text : ScenarioLine → List ℕ
scenario_line_text Second = codes "e9world 2"
scenario_line_text (DueLine step) = codes "due" ++ (32 ∷ hex16 step)
scenario_line_text (Rip a) = codes "rip" ++ (32 ∷ hex16 a)
scenario_line_text (Plain x) = line_text x

-- Lines of a script without deliveries.
abbrev pub plain : List Line → List ScenarioLine
plain xs = map Plain xs

-- The lines of a delivery: how many steps are before it, the values, where the thread goes on, the writes.
abbrev pub due_lines : DueValue → List ScenarioLine
due_lines d = DueLine d.step ∷ (plain (value_lines 0 d.values) ++ Rip d.rip ∷ plain (map line.Mem d.writes))

-- The lines in front of a script: none where no delivery comes.
abbrev pub front_lines : List DueValue → List ScenarioLine
front_lines [] = []
front_lines (d ∷ ds) = Second ∷ flat_map due_lines (d ∷ ds)

-- The lines of a script with deliveries: the version, the deliveries, and the script, from its own version on.
abbrev pub scenario_lines : ScenarioValue → List ScenarioLine
scenario_lines v = front_lines v.dues ++ plain (script_lines v.script)

-- Its text: its lines, each with an LF behind it.
abbrev pub scenario_text : ScenarioValue → List ℕ
scenario_text v = ended (map scenario_line_text (scenario_lines v))

-- Numbers have 64 bits, and the lines of a script are within their bounds.
abbrev pub ScenarioLineHolds : ScenarioLine → Type 0
ScenarioLineHolds Second = Unit {0}
ScenarioLineHolds (DueLine step) = step < 2 ^ 64
ScenarioLineHolds (Rip a) = a < 2 ^ 64
ScenarioLineHolds (Plain x) = LineHolds x

-- A delivery has a value for each name.
abbrev pub HasValues : DueValue → Type 0
HasValues d = length d.values ≡ 19

-- The numbers of steps don't fall, and none is below k.
abbrev pub ascend_from : ℕ → List DueValue → Bool
ascend_from k [] = true
ascend_from k (d ∷ ds) = nat_le k d.step && ascend_from d.step ds

-- A script with deliveries that a text spells: their numbers don't fall, each has a value for each name, and each line is
-- within its bounds.
pub record IsScenario (v : ScenarioValue) : Type 0 where
  pub script : IsScript v.script
  pub rising : ascend_from 0 v.dues ≡ true
  pub values : AllByRecursion HasValues v.dues
  pub lines : AllByRecursion ScenarioLineHolds (scenario_lines v)
