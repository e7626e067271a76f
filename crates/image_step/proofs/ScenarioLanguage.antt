-- Scripts with deliveries as values that are read line by line.
use Rattle.std.proofs.Common.{◌≡◌, ℕ, ◌+◌, ◌-◌, eqb, true, List, [], ◌∷◌, ◌++◌, length, map, Option, Some, None, refl, ap, sym, subst, ◌∙◌, arith, append-nil, append_assoc, length-append}
use Rattle.std.specs.Prelude.{nat_le, option_and_then, option_map, replicate}
use Rattle.std.specs.List.{AllByRecursion, flat_map}
use Rattle.std.proofs.lemmas.Bool.{and_parts}
use Rattle.std.proofs.lemmas.Bool.Decides.{nat_tests}
use Rattle.std.proofs.lemmas.List.{length-replicate, map-append}
use Rattle.pun_base.proofs.JoinedLists.{all_appended, all_behind}
use Rattle.cpu_state.specs.declared.world.MemWrite.{MemWrite}
use Rattle.image_step.specs.declared.line.Line.{Line}
use Rattle.image_step.specs.declared.line.Line.TheVariants as line
use Rattle.image_step.specs.declared.scenario_line.ScenarioLine.{ScenarioLine}
use Rattle.image_step.specs.declared.scenario_line.ScenarioLine.TheVariants.{Second, Due as DueLine, Rip, Plain}
use Rattle.image_step.specs.Grammar.{IsScript, LineHolds}
use Rattle.image_step.specs.ScenarioReading.{ScenarioDraft, came, due_at, front, inner, opened, scenario_line_of, scenario_taken, valued}
use Rattle.image_step.specs.ScenarioText.{DueValue, HasValues, IsScenario, ScenarioLineHolds, ScenarioValue, ascend_from, due_lines, front_lines, plain, scenario_line_text, scenario_lines}
use Rattle.image_step.specs.Spelling.{entry_lines, script_lines, value_lines}
use Rattle.image_step.specs.Taking.{Draft, blank, done, heads, taken}
use Rattle.image_step.specs.Values.{ScriptValue}
use Rattle.image_step.proofs.DraftLines.{all_push, told}
use Rattle.image_step.proofs.Languages.{Language, after, first_taken, one_taken}
use Rattle.image_step.proofs.ScenarioDrafts.{ScenarioKeeps, ascend_last, dues_lines, front_some, scenario_grown, scenario_told}
use Rattle.image_step.proofs.ScenarioLines.{scenario_line_above, scenario_line_read, scenario_line_spelled}
use Rattle.image_step.proofs.TakenLines.{after as plain_after, completed, completed_lines, completed_script, left, script_taken, values_append, zero_lines}

-- Lines that are taken from a draft on.
abbrev afterwards : ScenarioDraft → List ScenarioLine → Option ScenarioDraft
afterwards d xs = after scenario_taken d xs

-- The lines that were taken are those that the draft tells.
pub told_after : (d e : ScenarioDraft) (xs : List ScenarioLine) → AllByRecursion ScenarioLineHolds xs → ScenarioKeeps d → afterwards d xs ≡ Some e
    → (scenario_told e ≡ scenario_told d ++ xs) × ScenarioKeeps e
told_after d e [] h k a =
    let same : d ≡ e = cc in
    (ap scenario_told (sym same) ∙ sym (append-nil (scenario_told d)), subst ScenarioKeeps same k)
told_after d e (x ∷ xs) h k a =
    let f = first_taken scenario_taken d e x xs a in
    let g = scenario_grown d x f.0 h.0 k f.1 in
    let ih = told_after f.0 e xs h.1 g.keeps f.2 in
    (ih.0 ∙ (ap (λ (l : List ScenarioLine). l ++ xs) g.told_is ∙ append_assoc (scenario_told d) (x ∷ []) xs), ih.1)

-- ---- the lines of a script are taken

values_taken : (ds : List DueValue) (step : ℕ) (vs : List ℕ) (k : ℕ) (ws : List ℕ) (rest : List ScenarioLine) → length vs ≡ k
    → afterwards (valued ds step vs) (plain (value_lines k ws) ++ rest) ≡ afterwards (valued ds step (vs ++ ws)) rest
values_taken ds step vs k [] rest e = ap (λ (l : List ℕ). afterwards (valued ds step l) rest) (sym (append-nil vs))
values_taken ds step vs k (w ∷ ws) rest e =
    let len : length (vs ++ w ∷ []) ≡ k + 1 = length-append vs (w ∷ []) ∙ ap (λ (j : ℕ). j + 1) e in
    let same : eqb k (length vs) ≡ true = grind (arith, nat_tests) in
    let t : scenario_taken (valued ds step vs) (Plain (line.Value k w)) ≡ Some (valued ds step (vs ++ w ∷ [])) = rw same refl in
    one_taken scenario_taken (valued ds step vs) (valued ds step (vs ++ w ∷ [])) (Plain (line.Value k w)) (plain (value_lines (k + 1) ws) ++ rest) t
    ∙ (values_taken ds step (vs ++ w ∷ []) (k + 1) ws rest len
    ∙ ap (λ (l : List ℕ). afterwards (valued ds step l) rest) (append_assoc vs (w ∷ []) ws))

abbrev written : DueValue → List MemWrite → DueValue
written d ws = record { step = d.step; values = d.values; rip = d.rip; writes = ws }

writes_taken : (ds : List DueValue) (d : DueValue) (us ws : List MemWrite) (rest : List ScenarioLine)
    → afterwards (came ds (written d us)) (plain (map line.Mem ws) ++ rest) ≡ afterwards (came ds (written d (us ++ ws))) rest
writes_taken ds d us [] rest = ap (λ (l : List MemWrite). afterwards (came ds (written d l)) rest) (sym (append-nil us))
writes_taken ds d us (w ∷ ws) rest =
    writes_taken ds d (us ++ w ∷ []) ws rest ∙ ap (λ (l : List MemWrite). afterwards (came ds (written d l)) rest) (append_assoc us (w ∷ []) ws)

-- The lines of a delivery, behind its number.
due_taken : (ds : List DueValue) (d : DueValue) (rest : List ScenarioLine) → HasValues d
    → afterwards (valued ds d.step []) ((plain (value_lines 0 d.values) ++ Rip d.rip ∷ plain (map line.Mem d.writes)) ++ rest) ≡ afterwards (came ds d) rest
due_taken ds d rest h =
    let full : eqb (length d.values) 19 ≡ true = grind (arith, nat_tests) in
    let t : scenario_taken (valued ds d.step d.values) (Rip d.rip) ≡ Some (came ds (written d [])) = rw full refl in
    ap (afterwards (valued ds d.step [])) (append_assoc (plain (value_lines 0 d.values)) (Rip d.rip ∷ plain (map line.Mem d.writes)) rest)
    ∙ (values_taken ds d.step [] 0 d.values (Rip d.rip ∷ (plain (map line.Mem d.writes) ++ rest)) refl
    ∙ (one_taken scenario_taken (valued ds d.step d.values) (came ds (written d [])) (Rip d.rip) (plain (map line.Mem d.writes) ++ rest) t
    ∙ writes_taken ds d [] d.writes rest))

dues_taken : (ds : List DueValue) (d : DueValue) (es : List DueValue) (rest : List ScenarioLine) → AllByRecursion HasValues es → ascend_from d.step es ≡ true
    → afterwards (came ds d) (dues_lines es ++ (Plain line.Version ∷ rest)) ≡ afterwards (inner (ds ++ d ∷ es) (heads [])) rest
dues_taken ds d [] rest h a = refl
dues_taken ds d (e ∷ es) rest h a =
    let p = and_parts (nat_le d.step e.step) (ascend_from e.step es) a in
    let later : List ScenarioLine = dues_lines es ++ (Plain line.Version ∷ rest) in
    let t : scenario_taken (came ds d) (DueLine e.step) ≡ Some (valued (ds ++ d ∷ []) e.step []) = rw p.0 refl in
    ap (afterwards (came ds d)) (append_assoc (due_lines e) (dues_lines es) (Plain line.Version ∷ rest))
    ∙ (one_taken scenario_taken (came ds d) (valued (ds ++ d ∷ []) e.step []) (DueLine e.step) ((plain (value_lines 0 e.values) ++ Rip e.rip ∷ plain (map line.Mem e.writes)) ++ later) t
    ∙ (due_taken (ds ++ d ∷ []) e later h.0
    ∙ (dues_taken (ds ++ d ∷ []) e es rest h.1 p.1
    ∙ ap (λ (l : List DueValue). afterwards (inner l (heads [])) rest) (append_assoc ds (d ∷ []) (e ∷ es)))))

inner_first : (ds : List DueValue) (xs : List Line) (o : Option Draft)
    → ((e : Draft) → afterwards (inner ds e) (plain xs) ≡ option_map (inner ds) (plain_after e xs))
    → option_and_then (λ z. afterwards z (plain xs)) (option_map (inner ds) o) ≡ option_map (inner ds) (option_and_then (λ z. plain_after z xs) o)
inner_first ds xs None ih = refl
inner_first ds xs (Some e) ih = ih e

inner_taken : (ds : List DueValue) (d : Draft) (xs : List Line) → afterwards (inner ds d) (plain xs) ≡ option_map (inner ds) (plain_after d xs)
inner_taken ds d [] = refl
inner_taken ds d (x ∷ xs) = inner_first ds xs (taken d x) (λ e. inner_taken ds e xs)

-- Behind the version of a script all of its lines are taken.
abbrev lines_behind : ScriptValue → List Line
lines_behind v = value_lines 0 v.values ++ (map line.Region v.regions ++ (flat_map entry_lines v.entries ++ line.End ∷ []))

script_behind : (ds : List DueValue) (v : ScriptValue) → IsScript v
    → afterwards (inner ds (heads [])) (plain (lines_behind v)) ≡ Some (inner ds (done v.values v.regions v.entries))
script_behind ds v h = inner_taken ds (heads []) (lines_behind v) ∙ ap (option_map (inner ds)) (script_taken v h)

abbrev pub scenario_whole : ScenarioValue → ScenarioDraft
scenario_whole v = inner v.dues (done v.script.values v.script.regions v.script.entries)

pub reached : (ds : List DueValue) (v : ScriptValue) → IsScript v → AllByRecursion HasValues ds → ascend_from 0 ds ≡ true
    → afterwards opened (front_lines ds ++ plain (script_lines v)) ≡ Some (inner ds (done v.values v.regions v.entries))
reached [] v h a r = script_behind [] v h
reached (d ∷ ds) v h a r =
    let p = and_parts (nat_le 0 d.step) (ascend_from d.step ds) r in
    let later : List Line = lines_behind v in
    ap (afterwards front) (append_assoc (due_lines d) (dues_lines ds) (Plain line.Version ∷ plain later))
    ∙ (due_taken [] d (dues_lines ds ++ (Plain line.Version ∷ plain later)) a.0
    ∙ (dues_taken [] d ds (plain later) a.1 p.1 ∙ script_behind (d ∷ ds) v h))

-- ---- the script that a draft may still be

-- The script of a draft with the fewest lines that complete it.
abbrev scenario_completed : ScenarioDraft → ScenarioValue
scenario_completed opened = record { dues = []; script = completed blank }
scenario_completed front = record { dues = due_at 0 (replicate 19 0) 0 ∷ []; script = completed blank }
scenario_completed (valued ds step vs) = record { dues = ds ++ due_at step (vs ++ replicate (19 - length vs) 0) 0 ∷ []; script = completed blank }
scenario_completed (came ds d) = record { dues = ds ++ d ∷ []; script = completed blank }
scenario_completed (inner ds d) = record { dues = ds; script = completed d }

-- Its lines behind those of the draft.
abbrev scenario_left : ScenarioDraft → List ScenarioLine
scenario_left opened = plain (script_lines (completed blank))
scenario_left front = due_lines (due_at 0 (replicate 19 0) 0) ++ plain (script_lines (completed blank))
scenario_left (valued ds step vs) = plain (value_lines (length vs) (replicate (19 - length vs) 0)) ++ Rip 0 ∷ plain (script_lines (completed blank))
scenario_left (came ds d) = plain (script_lines (completed blank))
scenario_left (inner ds d) = plain (left d)

regroup : (x y r : ScenarioLine) (a b c p : List ScenarioLine) → (x ∷ (a ++ (y ∷ ((b ++ c) ++ r ∷ [])))) ++ p ≡ (x ∷ (a ++ y ∷ b)) ++ (c ++ r ∷ p)
regroup x y r a b c p = simp append_assoc

-- Its lines are those that the draft tells and those that are left.
pub lines_completed : (d : ScenarioDraft) → scenario_lines (scenario_completed d) ≡ scenario_told d ++ scenario_left d
lines_completed opened = refl
lines_completed front =
    ap (λ (l : List ScenarioLine). (Second ∷ l) ++ plain (script_lines (completed blank))) (append-nil (due_lines (due_at 0 (replicate 19 0) 0)))
lines_completed (valued ds step vs) =
    let zs : List ℕ = replicate (19 - length vs) 0 in
    let zero_place : 0 + length vs ≡ length vs = omega arith in
    let rest : List ScenarioLine = plain (script_lines (completed blank)) in
    let values : plain (value_lines 0 (vs ++ zs)) ≡ plain (value_lines 0 vs) ++ plain (value_lines (length vs) zs) =
    ap plain (values_append 0 vs zs) ∙ (map-append Plain (value_lines 0 vs) (value_lines (0 + length vs) zs)
    ∙ ap (λ (k : ℕ). plain (value_lines 0 vs) ++ plain (value_lines k zs)) zero_place) in
    ap (λ (l : List ScenarioLine). l ++ rest) (front_some ds (due_at step (vs ++ zs) 0))
    ∙ (ap (λ (l : List ScenarioLine). (Second ∷ (dues_lines ds ++ (DueLine step ∷ (l ++ Rip 0 ∷ [])))) ++ rest) values
    ∙ regroup Second (DueLine step) (Rip 0) (dues_lines ds) (plain (value_lines 0 vs)) (plain (value_lines (length vs) zs)) rest)
lines_completed (came ds d) = ap (λ (l : List ScenarioLine). l ++ plain (script_lines (completed blank))) (front_some ds d)
lines_completed (inner ds d) =
    ap (λ (l : List Line). front_lines ds ++ plain l) (completed_lines d)
    ∙ (ap (λ (l : List ScenarioLine). front_lines ds ++ l) (map-append Plain (told d) (left d))
    ∙ sym (append_assoc (front_lines ds) (plain (told d)) (plain (left d))))

pub plain_holds : (xs : List Line) → AllByRecursion LineHolds xs → AllByRecursion ScenarioLineHolds (plain xs)
plain_holds [] h = tt
plain_holds (x ∷ xs) h = (h.0, plain_holds xs h.1)

plain_held : (xs : List Line) → AllByRecursion ScenarioLineHolds (plain xs) → AllByRecursion LineHolds xs
plain_held [] h = tt
plain_held (x ∷ xs) h = (h.0, plain_held xs h.1)

zero_script : IsScript (completed blank)
zero_script = completed_script blank tt tt

zero_script_holds : AllByRecursion ScenarioLineHolds (plain (script_lines (completed blank)))
zero_script_holds = plain_holds (script_lines (completed blank)) zero_script.lines

left_holds : (d : ScenarioDraft) → ScenarioKeeps d → AllByRecursion ScenarioLineHolds (scenario_told d) → AllByRecursion ScenarioLineHolds (scenario_left d)
left_holds opened k h = zero_script_holds
left_holds front k h =
    let values = plain_holds (value_lines 0 (replicate 19 0)) (zero_lines 0 19 (omega arith)) in (
      omega arith,
      all_appended ScenarioLineHolds (plain (value_lines 0 (replicate 19 0)) ++ Rip 0 ∷ []) (plain (script_lines (completed blank)))
          (all_appended ScenarioLineHolds (plain (value_lines 0 (replicate 19 0))) (Rip 0 ∷ []) values (omega arith, tt)) zero_script_holds,
    )
left_holds (valued ds step vs) k h =
    let few = k.2 in
    all_appended ScenarioLineHolds (plain (value_lines (length vs) (replicate (19 - length vs) 0))) (Rip 0 ∷ plain (script_lines (completed blank)))
    (plain_holds (value_lines (length vs) (replicate (19 - length vs) 0)) (zero_lines (length vs) (19 - length vs) (omega (arith, few)))) (omega arith, zero_script_holds)
left_holds (came ds d) k h = zero_script_holds
left_holds (inner ds d) k h =
    let s = completed_script d k.1 (plain_held (told d) (all_behind ScenarioLineHolds (front_lines ds) (plain (told d)) h)) in
    plain_holds (left d) (all_behind LineHolds (told d) (left d) (subst (AllByRecursion LineHolds) (completed_lines d) s.lines))

completed_holds : (d : ScenarioDraft) → ScenarioKeeps d → AllByRecursion ScenarioLineHolds (scenario_told d) → AllByRecursion ScenarioLineHolds (scenario_lines (scenario_completed d))
completed_holds d k h =
    subst (AllByRecursion ScenarioLineHolds) (sym (lines_completed d)) (all_appended ScenarioLineHolds (scenario_told d) (scenario_left d) h (left_holds d k h))

-- Lines that were taken begin a script with deliveries.
pub completed_is : (d : ScenarioDraft) → ScenarioKeeps d → AllByRecursion ScenarioLineHolds (scenario_told d) → IsScenario (scenario_completed d)
completed_is opened k h = record { script = zero_script; rising = refl; values = tt; lines = completed_holds opened k h }
completed_is front k h = record { script = zero_script; rising = refl; values = (refl, tt); lines = completed_holds front k h }
completed_is (valued ds step vs) k h =
    let few = k.2 in
    let len : length (vs ++ replicate (19 - length vs) 0) ≡ 19 =
    length-append vs (replicate (19 - length vs) 0) ∙ (ap (λ (n : ℕ). length vs + n) (length-replicate {A = ℕ} (19 - length vs) 0) ∙ omega (arith, few)) in
    record {
      script = zero_script;
      rising = ascend_last 0 ds (due_at step [] 0) (due_at step (vs ++ replicate (19 - length vs) 0) 0) refl k.1;
      values = all_push HasValues ds (due_at step (vs ++ replicate (19 - length vs) 0) 0) k.0 len;
      lines = completed_holds (valued ds step vs) k h;
    }
completed_is (came ds d) k h = record { script = zero_script; rising = k.1; values = k.0; lines = completed_holds (came ds d) k h }
completed_is (inner ds d) k h =
    record {
      script = completed_script d k.1 (plain_held (told d) (all_behind ScenarioLineHolds (front_lines ds) (plain (told d)) h));
      rising = k.0.1;
      values = k.0.0;
      lines = completed_holds (inner ds d) k h;
    }

pub told_holds : (d : ScenarioDraft) (xs : List ScenarioLine) → AllByRecursion ScenarioLineHolds xs → scenario_told d ≡ xs → AllByRecursion ScenarioLineHolds (scenario_told d)
told_holds d xs h e = subst (AllByRecursion ScenarioLineHolds) (sym e) h

pub same_whole : (v w : ScenarioValue) → scenario_whole v ≡ scenario_whole w → v ≡ w
same_whole v w e =
    let p : v.dues ≡ w.dues = cc in
    let q : done v.script.values v.script.regions v.script.entries ≡ done w.script.values w.script.regions w.script.entries = cc in
    let a : v.script.values ≡ w.script.values = cc in
    let b : v.script.regions ≡ w.script.regions = cc in
    let c : v.script.entries ≡ w.script.entries = cc in
    λ i. record { dues = p i; script = record { values = a i; regions = b i; entries = c i } }

-- Scripts with deliveries, read line by line.
unfoldable pub scenarios : Language ScenarioLine ScenarioDraft ScenarioValue
scenarios =
    record {
      text = scenario_line_text;
      line_of = scenario_line_of;
      Holds = ScenarioLineHolds;
      taken = scenario_taken;
      first = opened;
      whole = scenario_whole;
      lines = scenario_lines;
      Is = IsScenario;
      read = scenario_line_read;
      spelled = scenario_line_spelled;
      above = scenario_line_above;
      hold = λ v h. h.lines;
      reach = λ v h. reached v.dues v.script h.script h.values h.rising;
      completes = λ xs d h a.
          let t = told_after opened d xs h tt a in
          let held = told_holds d xs h t.0 in
          (scenario_completed d, completed_is d t.1 held, (scenario_left d, lines_completed d ∙ ap (λ (l : List ScenarioLine). l ++ scenario_left d) t.0));
      ends = λ xs v h a.
          let t = told_after opened (scenario_whole v) xs h tt a in
          (completed_is (scenario_whole v) t.1 (told_holds (scenario_whole v) xs h t.0), t.0);
      one = same_whole;
    }
