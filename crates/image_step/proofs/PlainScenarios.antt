-- Scripts without deliveries are scripts as they were, and other texts are refused as they were.
use Rattle.std.proofs.Common.{◌≡◌, ◌↔◌, ℕ, zero, suc, ◌-◌, ◌≤◌, List, [], ◌∷◌, ◌++◌, length, get_or, map, take, refl, ap, sym, subst, ◌∙◌, arith}
use Rattle.std.specs.Prelude.{codes}
use Rattle.std.specs.List.{flat_map}
use Rattle.list_text.specs.Laws.{ended}
use Rattle.image_step.specs.declared.line.Line.{Line}
use Rattle.image_step.specs.declared.scenario_line.ScenarioLine.TheVariants.{Second}
use Rattle.image_step.specs.Answers.{Agrees, IsScriptRefused, IsTextOf, whole_lines}
use Rattle.image_step.specs.Grammar.{IsScript}
use Rattle.image_step.specs.ScenarioAnswers.{IsScenarioRefused, IsTextOfScenario}
use Rattle.image_step.specs.ScenarioText.{DueValue, IsScenario, ScenarioValue, due_lines, plain, scenario_line_text, scenario_text}
use Rattle.image_step.specs.Spelling.{line_text, script_lines, script_text}
use Rattle.image_step.specs.Values.{ScriptValue}
use Rattle.image_step.proofs.Lines.{whole_first}
use Rattle.image_step.proofs.ScenarioLanguage.{plain_holds}
use Rattle.image_step.proofs.ScenarioLines.{scenario_line_above}

abbrev undelivered : ScriptValue → ScenarioValue
undelivered v = record { dues = []; script = v }

plain_texts : (xs : List Line) → map scenario_line_text (plain xs) ≡ map line_text xs
plain_texts [] = refl
plain_texts (x ∷ xs) = ap (λ (l : List (List ℕ)). line_text x ∷ l) (plain_texts xs)

-- Without deliveries a script has its own text.
own_text : (v : ScriptValue) → scenario_text (undelivered v) ≡ script_text v
own_text v = ap ended (plain_texts (script_lines v))

own_grammar : (v : ScriptValue) → IsScript v → IsScenario (undelivered v)
own_grammar v h = record { script = h; rising = refl; values = tt; lines = plain_holds (script_lines v) h.lines }

-- ---- the first line

-- It is another one where deliveries come.
other_text : (v : ScriptValue) (d : DueValue) (ds : List DueValue) (w : ScriptValue) → script_text v ≡ scenario_text (record { dues = d ∷ ds; script = w }) → ⊥
other_text v d ds w e = let p : ◌≡◌ {A = ℕ} 49 50 = ap (λ (t : List ℕ). get_or t 8 0) e in omega arith

second_lines : (d : DueValue) (ds : List DueValue) (v : ScriptValue)
    → (rest : List (List ℕ)) × (whole_lines (scenario_text (record { dues = d ∷ ds; script = v })) ≡ codes "e9world 2" ∷ rest)
second_lines d ds v =
    let rest : List ℕ = ended (map scenario_line_text (flat_map due_lines (d ∷ ds) ++ plain (script_lines v))) in
    (whole_lines rest, whole_first (codes "e9world 2") rest (scenario_line_above Second tt))

first_of : (n : ℕ) (ls rest : List (List ℕ)) (w : List ℕ) → 1 ≤ n → n ≤ length ls → take n ls ≡ take n (w ∷ rest) → (1 ≤ length ls) × (take 1 ls ≡ w ∷ [])
first_of zero ls rest w h l e = absurd (omega arith)
first_of (suc n) [] rest w h l e = absurd (omega arith)
first_of (suc n) (x ∷ xs) rest w h l e =
    let same : x ≡ w = cc in
    (omega arith, ap (λ (y : List ℕ). y ∷ []) same)

-- A text that agrees with a script with deliveries begins with the second version.
begins : (text : List ℕ) (n : ℕ) (d : DueValue) (ds : List DueValue) (v : ScriptValue) → 1 ≤ n
    → Agrees n text (scenario_text (record { dues = d ∷ ds; script = v })) → Agrees 1 text (codes "e9world 2\n")
begins text n d ds v h a =
    let s = second_lines d ds v in
    first_of n (whole_lines text) s.0 (codes "e9world 2") h a.0 (a.1 ∙ ap (take n) s.1)

-- ---- texts of scripts

same_text : (text : List ℕ) (v : ScriptValue) → IsTextOf text v → (ds : List DueValue) (s : ScriptValue) → IsScenario (record { dues = ds; script = s })
    → text ≡ scenario_text (record { dues = ds; script = s }) → ◌≡◌ {A = ScenarioValue} (record { dues = ds; script = s }) (undelivered v)
same_text text v t [] s h e = ap undelivered (t.one s h.script (e ∙ own_text s))
same_text text v t (d ∷ ds) s h e = absurd (other_text v d ds s (sym t.spelled ∙ e))

-- The text of a script is that of the script without deliveries.
pub scenario_same : (text : List ℕ) (v : ScriptValue) → IsTextOf text v ↔ IsTextOfScenario text (record { dues = []; script = v })
scenario_same text v = (
  λ t. record {
    holds = own_grammar v t.holds;
    spelled = t.spelled ∙ sym (own_text v);
    one = λ w h e. same_text text v t w.dues w.script h e;
  },
  λ t. record {
    holds = t.holds.script;
    spelled = t.spelled ∙ own_text v;
    one = λ w h e. ap (λ (z : ScenarioValue). z.script) (t.one (undelivered w) (own_grammar w h) (e ∙ sym (own_text w)));
  },
)

-- ---- refused texts

agrees_own : (text : List ℕ) (n : ℕ) (v : ScriptValue) → Agrees n text (script_text v) → Agrees n text (scenario_text (undelivered v))
agrees_own text n v a = subst (Agrees n text) (sym (own_text v)) a

agrees_plain : (text : List ℕ) (n : ℕ) (v : ScriptValue) → Agrees n text (scenario_text (undelivered v)) → Agrees n text (script_text v)
agrees_plain text n v a = subst (Agrees n text) (own_text v) a

agrees_none : (text other : List ℕ) (n : ℕ) → n ≡ 0 → Agrees n text other
agrees_none text other n e = subst (λ (k : ℕ). Agrees k text other) (sym e) (omega arith, refl)

none_agrees : (text : List ℕ) (n : ℕ) → (Agrees 1 text (codes "e9world 2\n") → ⊥) → IsScriptRefused text n → (ds : List DueValue) (s : ScriptValue)
    → IsScenario (record { dues = ds; script = s }) → Agrees n text (scenario_text (record { dues = ds; script = s })) → ⊥
none_agrees text n first r [] s h a = r.none s h.script (agrees_plain text n s a)
none_agrees text n first r (d ∷ ds) s h a = first (begins text n d ds s r.place a)

whole_agrees : (text : List ℕ) (d : DueValue) (ds : List DueValue) (s : ScriptValue) → text ≡ scenario_text (record { dues = d ∷ ds; script = s })
    → Agrees 1 text (scenario_text (record { dues = d ∷ ds; script = s }))
whole_agrees text d ds s e =
    let l = second_lines d ds s in
    let some : length (whole_lines text) ≡ suc (length l.0) = ap (λ (t : List ℕ). length (whole_lines t)) e ∙ ap (length {A = List ℕ}) l.1 in
    (omega arith, ap (λ (t : List ℕ). take 1 (whole_lines t)) e)

no_text : (text : List ℕ) (n : ℕ) → (Agrees 1 text (codes "e9world 2\n") → ⊥) → IsScriptRefused text n → (ds : List DueValue) (s : ScriptValue)
    → IsScenario (record { dues = ds; script = s }) → text ≡ scenario_text (record { dues = ds; script = s }) → ⊥
no_text text n first r [] s h e = r.other s h.script (e ∙ own_text s)
no_text text n first r (d ∷ ds) s h e = first (begins text 1 d ds s (omega arith) (whole_agrees text d ds s e))

front_plain : (text : List ℕ) (n : ℕ) → (Agrees 1 text (codes "e9world 2\n") → ⊥) → (ds : List DueValue) (s : ScriptValue)
    → IsScenario (record { dues = ds; script = s }) → Agrees (n - 1) text (scenario_text (record { dues = ds; script = s })) → Agrees (n - 1) text (script_text s)
front_plain text n first [] s h a = agrees_plain text (n - 1) s a
front_plain text n first (d ∷ ds) s h a = by_place (n - 1) refl
  where
    by_place : (k : ℕ) → n - 1 ≡ k → Agrees (n - 1) text (script_text s)
    by_place zero is = agrees_none text (script_text s) (n - 1) is
    by_place (suc k) is = absurd (first (begins text (n - 1) d ds s (omega arith) a))

-- A text that doesn't begin with the second version is refused alike.
pub refused_alike : (text : List ℕ) (n : ℕ) → (Agrees 1 text (codes "e9world 2\n") → ⊥) → IsScriptRefused text n ↔ IsScenarioRefused text n
refused_alike text n first = (
  λ r. record {
    place = r.place;
    front = (undelivered r.front.0, own_grammar r.front.0 r.front.1, agrees_own text (n - 1) r.front.0 r.front.2);
    none = λ w h a. none_agrees text n first r w.dues w.script h a;
    other = λ w h e. no_text text n first r w.dues w.script h e;
  },
  λ r. record {
    place = r.place;
    front = (r.front.0.script, r.front.1.script, front_plain text n first r.front.0.dues r.front.0.script r.front.1 r.front.2);
    none = λ v h a. r.none (undelivered v) (own_grammar v h) (agrees_own text n v a);
    other = λ v h e. r.other (undelivered v) (own_grammar v h) (e ∙ sym (own_text v));
  },
)
