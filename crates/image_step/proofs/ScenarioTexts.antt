-- How far the text of a script with deliveries has been read, and what the reader tells.
use Rattle.std.proofs.Common.{◌≡◌, ℕ, ◌+◌, List, [], ◌∷◌, length, map, Option, Some, None, refl, ap, sym, subst, ◌∙◌}
use Rattle.std.specs.Prelude.{nat_le, option_map, ◌&&◌}
use Rattle.image_step.specs.declared.delivery.Due.{Due}
use Rattle.image_step.specs.Scheduled.{rise}
use Rattle.image_step.specs.ScenarioAnswers.{IsScenarioRefused, IsTextOfScenario}
use Rattle.image_step.specs.ScenarioReading.{ScenarioDraft, came, front, inner, opened, read_scenario_line, scenario_in, valued}
use Rattle.image_step.specs.ScenarioText.{ScenarioValue, ascend_from, due_value}
use Rattle.image_step.specs.Taking.{script_in}
use Rattle.image_step.specs.Values.{ScriptValue}
use Rattle.image_step.proofs.Languages.{Passed, finishes, passed_more, passed_none, refused, some_left, stops}
use Rattle.image_step.proofs.ScenarioLanguage.{scenario_whole, scenarios}
use Rattle.image_step.proofs.TextSoFar.{done_is}

-- A text has been read so far, and this is left.
abbrev pub ReadSoFar : List ℕ → ℕ → ScenarioDraft → List ℕ → Type 0
ReadSoFar text place d rest = Passed scenarios text place d rest

-- Nothing has been read.
pub text_begins : (text : List ℕ) → ReadSoFar text 1 opened text
unfolding scenarios
text_begins text = passed_none scenarios text

pub line_passed : (text : List ℕ) (place : ℕ) (d e : ScenarioDraft) (rest later : List ℕ) → ReadSoFar text place d rest
    → read_scenario_line d rest ≡ Some (e, later) → ReadSoFar text (place + 1) e later
unfolding scenarios read_scenario_line
line_passed text place d e rest later p h = passed_more scenarios text place d e rest later p h

-- The next line is refused.
pub line_refused : (text : List ℕ) (place : ℕ) (d : ScenarioDraft) (rest : List ℕ) → ReadSoFar text place d rest → read_scenario_line d rest ≡ None
    → (length rest ≡ 0 → ⊥) → IsScenarioRefused text place
unfolding scenarios read_scenario_line
line_refused text place d rest p h some =
    let r = refused scenarios text place d rest p h (some_left scenarios d rest some) in
    record { place = r.place; front = r.front; none = r.none; other = r.other }

none_whole : (d : ScenarioDraft) → scenario_in d ≡ None → (v : ScenarioValue) → d ≡ scenario_whole v → ⊥
none_whole d h v e = let both : ◌≡◌ {A = Option ScenarioValue} (scenario_in (scenario_whole v)) None = ap scenario_in (sym e) ∙ h in cc

-- The text ends before it is a script's.
pub text_stops : (text : List ℕ) (place : ℕ) (d : ScenarioDraft) (rest : List ℕ) → ReadSoFar text place d rest → length rest ≡ 0 → scenario_in d ≡ None
    → IsScenarioRefused text place
unfolding scenarios
text_stops text place d rest p h is =
    let r = stops scenarios text place d rest p h (none_whole d is) in
    record { place = r.place; front = r.front; none = r.none; other = r.other }

inner_whole : (d : ScenarioDraft) (v : ScenarioValue) → scenario_in d ≡ Some v → d ≡ scenario_whole v
inner_whole opened v h = absurd cc
inner_whole front v h = absurd cc
inner_whole (valued ds step vs) v h = absurd cc
inner_whole (came ds d) v h = absurd cc
inner_whole (inner ds d) v h = by_script (script_in d) refl h
  where
    by_script : (o : Option ScriptValue) → script_in d ≡ o → option_map (λ s. record { dues = ds; script = s }) o ≡ Some v → inner ds d ≡ scenario_whole v
    by_script None is e = absurd cc
    by_script (Some s) is e =
        let same : ◌≡◌ {A = ScenarioValue} (record { dues = ds; script = s }) v = cc in
        ap (inner ds) (done_is d s is) ∙ ap scenario_whole same

-- The text ends as the text of a script.
pub text_ends : (text : List ℕ) (place : ℕ) (d : ScenarioDraft) (rest : List ℕ) (v : ScenarioValue) → ReadSoFar text place d rest → length rest ≡ 0
    → scenario_in d ≡ Some v → IsTextOfScenario text v
unfolding scenarios
text_ends text place d rest v p h is =
    let t = finishes scenarios text place rest v (subst (λ (z : ScenarioDraft). ReadSoFar text place z rest) (inner_whole d v is) p) h in
    record { holds = t.holds; spelled = t.spelled; one = t.one }

-- Deliveries rise as their values do.
pub rise_values : (k : ℕ) (ds : List Due) → rise k ds ≡ ascend_from k (map due_value ds)
rise_values k [] = refl
rise_values k (d ∷ ds) = ap (λ b. nat_le k d.step && b) (rise_values d.step ds)
