-- What the definitions promise of lines, and of scripts without deliveries. Theorems cite it.
use Rattle.std.specs.Prelude.{◌≡◌, ◌↔◌, ℕ, List, [], Some, codes}
use Rattle.image_step.specs.Answers.{Agrees, IsScriptRefused, IsTextOf}
use Rattle.image_step.specs.ScenarioAnswers.{IsScenarioRefused, IsTextOfScenario}
use Rattle.image_step.specs.Values.{ScriptValue}
use Rattle.image_step.specs.declared.line.Line.{Line}
use Rattle.image_step.specs.Grammar.{LineHolds}
use Rattle.image_step.specs.Spelling.{line_text}
use Rattle.image_step.specs.Reading.{line_of}

-- A line that is read is within its bounds, and the text is its one text.
abbrev pub LinesAreSpelled : Type 0
LinesAreSpelled = (text : List ℕ) (x : Line) → line_of text ≡ Some x → LineHolds x × (text ≡ line_text x)

-- The text of a line within its bounds is read as that line.
abbrev pub LinesAreRead : Type 0
LinesAreRead = (x : Line) → LineHolds x → line_of (line_text x) ≡ Some x

-- The text of a script is that of the script without deliveries, and of no other one.
abbrev pub ScriptsAreScenarios : Type 0
ScriptsAreScenarios = (text : List ℕ) (v : ScriptValue) → IsTextOf text v ↔ IsTextOfScenario text (record { dues = []; script = v })

-- A text whose first line isn't that of the second version is refused at the line at which no script agrees with it.
abbrev pub ScriptsAreRefusedAlike : Type 0
ScriptsAreRefusedAlike = (text : List ℕ) (n : ℕ) → (Agrees 1 text (codes "e9world 2\n") → ⊥) → IsScriptRefused text n ↔ IsScenarioRefused text n
