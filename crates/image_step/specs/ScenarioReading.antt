-- The lines of a script with deliveries, read one after the other. Contracts of private functions alone cite it.
use Rattle.std.specs.Prelude.{ℕ, ◌==◌, Bool, true, nat_le, if◌then◌else◌, List, [], ◌∷◌, ◌++◌, length, codes, Option, Some, None, option_map}
use Rattle.std.specs.Str.{bytes_eq}
use Rattle.list_text.specs.Blanks.{word, later_words}
use Rattle.cpu_state.specs.declared.world.MemWrite.{MemWrite}
use Rattle.image_step.specs.declared.line.Line.{Line}
use Rattle.image_step.specs.declared.line.Line.TheVariants as line
use Rattle.image_step.specs.declared.scenario_line.ScenarioLine.{ScenarioLine}
use Rattle.image_step.specs.declared.scenario_line.ScenarioLine.TheVariants.{Second, Due as DueLine, Rip, Plain}
use Rattle.image_step.specs.Drafts.{read_one}
use Rattle.image_step.specs.Grammar.{line_fits}
use Rattle.image_step.specs.Reading.{line_of, number_in}
use Rattle.image_step.specs.ScenarioText.{DueValue, ScenarioValue}
use Rattle.image_step.specs.Spelling.{hex16}
use Rattle.image_step.specs.Taking.{Draft, heads, script_in, taken}

-- The number behind a word, where the text has both as they are spelled.
abbrev pub counted : List ℕ → List ℕ → Option ℕ → Option ℕ
counted text kind None = None
counted text kind (Some n) = if bytes_eq (kind ++ (32 ∷ hex16 n)) text then Some n else None

unfoldable pub numbered_in : List ℕ → List ℕ → List ℕ → Option ℕ
numbered_in text kind later = counted text kind (number_in later)

-- A line that a script without deliveries has not, by its first word.
unfoldable pub other_line : List ℕ → List ℕ → List ℕ → Option ScenarioLine
other_line text kind later =
    if bytes_eq kind (codes "due") then option_map DueLine (numbered_in text kind later)
    else (if bytes_eq kind (codes "rip") then option_map Rip (numbered_in text kind later)
    else (if bytes_eq text (codes "e9world 2") then Some Second else None))

-- A line of a script, where there is one, or another line.
abbrev pub or_other : List ℕ → Option Line → Option ScenarioLine
or_other text (Some x) = Some (Plain x)
or_other text None = other_line text (word text) (later_words text)

-- The line whose text this is, where there is one.
abbrev pub scenario_line_of : List ℕ → Option ScenarioLine
scenario_line_of text = or_other text (line_of text)

-- The line of a script is within its bounds.
abbrev pub scenario_line_fits : ScenarioLine → Bool
scenario_line_fits (Plain x) = line_fits x
scenario_line_fits _ = true

-- Nothing; the version; deliveries, and one with fewer than all of its values or without where it leads; deliveries, and one
-- that may have further writes; deliveries, and what has been read of the script.
pub data ScenarioDraft : Type 0 where
  opened : ScenarioDraft
  front : ScenarioDraft
  valued : List DueValue → ℕ → List ℕ → ScenarioDraft
  came : List DueValue → DueValue → ScenarioDraft
  inner : List DueValue → Draft → ScenarioDraft

-- A delivery of these values, which writes nothing so far.
abbrev pub due_at : ℕ → List ℕ → ℕ → DueValue
due_at step vs rip = record { step = step; values = vs; rip = rip; writes = [] }

-- A delivery with one more write, behind the others.
abbrev pub due_with : MemWrite → DueValue → DueValue
due_with w d = record { step = d.step; values = d.values; rip = d.rip; writes = d.writes ++ w ∷ [] }

-- The first line tells a version.
abbrev pub opened_with : ScenarioLine → Option ScenarioDraft
opened_with Second = Some front
opened_with (Plain line.Version) = Some (inner [] (heads []))
opened_with _ = None

-- A delivery comes behind the version.
abbrev pub front_with : ScenarioLine → Option ScenarioDraft
front_with (DueLine step) = Some (valued [] step [])
front_with _ = None

-- Its values come in the order of their names, and then where it leads.
abbrev pub valued_with : List DueValue → ℕ → List ℕ → ScenarioLine → Option ScenarioDraft
valued_with ds step vs (Plain (line.Value k v)) = if k == length vs then Some (valued ds step (vs ++ v ∷ [])) else None
valued_with ds step vs (Rip a) = if length vs == 19 then Some (came ds (due_at step vs a)) else None
valued_with ds step vs _ = None

-- Then come writes, and the next delivery, before which no fewer steps are made, or the script.
abbrev pub came_with : List DueValue → DueValue → ScenarioLine → Option ScenarioDraft
came_with ds d (Plain (line.Mem w)) = Some (came ds (due_with w d))
came_with ds d (Plain line.Version) = Some (inner (ds ++ d ∷ []) (heads []))
came_with ds d (DueLine step) = if nat_le d.step step then Some (valued (ds ++ d ∷ []) step []) else None
came_with ds d _ = None

-- The script goes on as one without deliveries.
abbrev pub inner_with : List DueValue → Draft → ScenarioLine → Option ScenarioDraft
inner_with ds d (Plain x) = option_map (inner ds) (taken d x)
inner_with ds d _ = None

-- A draft with one more line, where that goes on with it.
abbrev pub scenario_taken : ScenarioDraft → ScenarioLine → Option ScenarioDraft
scenario_taken opened x = opened_with x
scenario_taken front x = front_with x
scenario_taken (valued ds step vs) x = valued_with ds step vs x
scenario_taken (came ds d) x = came_with ds d x
scenario_taken (inner ds d) x = inner_with ds d x

-- The script with deliveries, where the last line is there.
abbrev pub scenario_in : ScenarioDraft → Option ScenarioValue
scenario_in (inner ds d) = option_map (λ v. record { dues = ds; script = v }) (script_in d)
scenario_in _ = None

-- A draft with the first line of a text, where that goes on with it, and what stands behind it.
unfoldable pub read_scenario_line : ScenarioDraft → List ℕ → Option (ScenarioDraft × List ℕ)
read_scenario_line d text = read_one scenario_taken scenario_line_of d text
