-- The lines of a draft of a script with deliveries, and the script that it may still be.
use Rattle.std.proofs.Common.{◌≡◌, ℕ, ◌+◌, ◌-◌, ◌==◌, ◌≤◌, true, ◌&&◌, List, [], ◌∷◌, ◌++◌, length, map, Option, Some, None, refl, ap, sym, subst, ◌∙◌, arith, append-nil, append_assoc, length-append}
use Rattle.std.specs.Prelude.{nat_le, nat_lt, option_map}
use Rattle.std.specs.List.{AllByRecursion, flat_map}
use Rattle.std.proofs.lemmas.Bool.{and_from, and_parts}
use Rattle.std.proofs.lemmas.Bool.Decides.{nat_tests}
use Rattle.std.proofs.lemmas.Grind.{flat_map-append}
use Rattle.std.proofs.lemmas.List.{map_push}
use Rattle.cpu_state.specs.declared.world.MemWrite.{MemWrite}
use Rattle.image_step.specs.declared.line.Line.{Line}
use Rattle.image_step.specs.declared.line.Line.TheVariants as line
use Rattle.image_step.specs.declared.scenario_line.ScenarioLine.{ScenarioLine}
use Rattle.image_step.specs.declared.scenario_line.ScenarioLine.TheVariants.{Second, Due as DueLine, Rip, Plain}
use Rattle.image_step.specs.ScenarioReading.{ScenarioDraft, came, due_at, due_with, front, inner, opened, scenario_taken, valued}
use Rattle.image_step.specs.ScenarioText.{DueValue, HasValues, ScenarioLineHolds, ascend_from, due_lines, front_lines, plain}
use Rattle.image_step.specs.Spelling.{value_lines}
use Rattle.image_step.specs.Taking.{Draft, heads, taken}
use Rattle.image_step.proofs.DraftLines.{Keeps, all_push, grown, told, values_push}
use Rattle.image_step.proofs.LineSpellings.{kept}

-- The lines of deliveries.
abbrev pub dues_lines : List DueValue → List ScenarioLine
dues_lines ds = flat_map due_lines ds

-- The lines that were read.
abbrev pub scenario_told : ScenarioDraft → List ScenarioLine
scenario_told opened = []
scenario_told front = Second ∷ []
scenario_told (valued ds step vs) = Second ∷ (dues_lines ds ++ DueLine step ∷ plain (value_lines 0 vs))
scenario_told (came ds d) = Second ∷ (dues_lines ds ++ due_lines d)
scenario_told (inner ds d) = front_lines ds ++ plain (told d)

-- What the deliveries of a draft keep.
abbrev KeepsDues : List DueValue → Type 0
KeepsDues ds = AllByRecursion HasValues ds × (ascend_from 0 ds ≡ true)

-- What a draft keeps.
abbrev pub ScenarioKeeps : ScenarioDraft → Type 0
ScenarioKeeps opened = Unit {0}
ScenarioKeeps front = Unit {0}
ScenarioKeeps (valued ds step vs) = AllByRecursion HasValues ds × (ascend_from 0 (ds ++ due_at step [] 0 ∷ []) ≡ true) × (length vs ≤ 19)
ScenarioKeeps (came ds d) = KeepsDues (ds ++ d ∷ [])
ScenarioKeeps (inner ds d) = KeepsDues ds × Keeps d

-- The draft tells one line more.
pub record ScenarioGrown (d : ScenarioDraft) (x : ScenarioLine) (e : ScenarioDraft) : Type 0 where
  pub told_is : scenario_told e ≡ scenario_told d ++ x ∷ []
  pub keeps : ScenarioKeeps e

-- ---- deliveries whose numbers don't fall

pub ascend_last : (k : ℕ) (ds : List DueValue) (d e : DueValue) → d.step ≡ e.step → ascend_from k (ds ++ d ∷ []) ≡ true → ascend_from k (ds ++ e ∷ []) ≡ true
ascend_last k [] d e s h = subst (λ (n : ℕ). (nat_le k n && true) ≡ true) s h
ascend_last k (f ∷ ds) d e s h =
    let p = and_parts (nat_le k f.step) (ascend_from f.step (ds ++ d ∷ [])) h in
    and_from (nat_le k f.step) (ascend_from f.step (ds ++ e ∷ [])) p.0 (ascend_last f.step ds d e s p.1)

ascend_more : (k : ℕ) (ds : List DueValue) (d e : DueValue) → nat_le d.step e.step ≡ true → ascend_from k (ds ++ d ∷ []) ≡ true
    → ascend_from k ((ds ++ d ∷ []) ++ e ∷ []) ≡ true
ascend_more k [] d e s h = let p = and_parts (nat_le k d.step) true h in and_from (nat_le k d.step) (nat_le d.step e.step && true) p.0 (and_from (nat_le d.step e.step) true s refl)
ascend_more k (f ∷ ds) d e s h =
    let p = and_parts (nat_le k f.step) (ascend_from f.step (ds ++ d ∷ [])) h in
    and_from (nat_le k f.step) (ascend_from f.step ((ds ++ d ∷ []) ++ e ∷ [])) p.0 (ascend_more f.step ds d e s p.1)

-- ---- lists of lines that grow

dues_push : (ds : List DueValue) (d : DueValue) → dues_lines (ds ++ d ∷ []) ≡ dues_lines ds ++ due_lines d
dues_push ds d = flat_map-append due_lines ds (d ∷ []) ∙ ap (λ (l : List ScenarioLine). dues_lines ds ++ l) (append-nil (due_lines d))

pub front_some : (ds : List DueValue) (d : DueValue) → front_lines (ds ++ d ∷ []) ≡ Second ∷ (dues_lines ds ++ due_lines d)
front_some [] d = ap (λ (l : List ScenarioLine). Second ∷ l) (dues_push [] d)
front_some (e ∷ ds) d = ap (λ (l : List ScenarioLine). Second ∷ l) (dues_push (e ∷ ds) d)

plain_push : (xs : List Line) (x : Line) → plain (xs ++ x ∷ []) ≡ plain xs ++ Plain x ∷ []
plain_push xs x = map_push Plain xs x

behind_parts : (x : ScenarioLine) (a b c : List ScenarioLine) → x ∷ (a ++ (b ++ c)) ≡ (x ∷ (a ++ b)) ++ c
behind_parts x a b c = simp append_assoc

-- ---- one more line

grown_from : (d e f : ScenarioDraft) (x : ScenarioLine) → ◌≡◌ {A = Option ScenarioDraft} (Some f) (Some e) → ScenarioGrown d x f → ScenarioGrown d x e
grown_from d e f x h g = let same : f ≡ e = cc in subst (λ (z : ScenarioDraft). ScenarioGrown d x z) same g

no_draft : {T : Type 0} (e : ScenarioDraft) → ◌≡◌ {A = Option ScenarioDraft} None (Some e) → T
no_draft e h = absurd cc

grown_opened : (x : ScenarioLine) (e : ScenarioDraft) → scenario_taken opened x ≡ Some e → ScenarioGrown opened x e
grown_opened Second e h = grown_from opened e front Second h (record { told_is = refl; keeps = tt })
grown_opened (Plain line.Version) e h =
    grown_from opened e (inner [] (heads [])) (Plain line.Version) h (record { told_is = refl; keeps = ((tt, refl), omega arith) })
grown_opened (Plain (line.Value k v)) e h = no_draft e h
grown_opened (Plain (line.Region r)) e h = no_draft e h
grown_opened (Plain (line.Ask q)) e h = no_draft e h
grown_opened (Plain (line.Set k v)) e h = no_draft e h
grown_opened (Plain (line.Mem w)) e h = no_draft e h
grown_opened (Plain line.End) e h = no_draft e h
grown_opened (DueLine n) e h = no_draft e h
grown_opened (Rip n) e h = no_draft e h

grown_front : (x : ScenarioLine) (e : ScenarioDraft) → scenario_taken front x ≡ Some e → ScenarioGrown front x e
grown_front (DueLine n) e h =
    let low : nat_le 0 n ≡ true = grind (arith, nat_tests) in
    grown_from front e (valued [] n []) (DueLine n) h (record { told_is = refl; keeps = (tt, and_from (nat_le 0 n) true low refl, omega arith) })
grown_front Second e h = no_draft e h
grown_front (Rip n) e h = no_draft e h
grown_front (Plain x) e h = no_draft e h

grown_valued : (ds : List DueValue) (step : ℕ) (vs : List ℕ) (x : ScenarioLine) (e : ScenarioDraft) → ScenarioLineHolds x → ScenarioKeeps (valued ds step vs)
    → scenario_taken (valued ds step vs) x ≡ Some e → ScenarioGrown (valued ds step vs) x e
grown_valued ds step vs (Plain (line.Value k v)) e holds c h =
    let parts = kept (k == length vs) (valued ds step (vs ++ v ∷ [])) e h in
    let place : k ≡ length vs = grind (arith, nat_tests, parts.0) in
    let few : nat_lt k 19 ≡ true = holds.fits in
    let zero_place : 0 + length vs ≡ k = omega arith in
    let grow : plain (value_lines 0 (vs ++ v ∷ [])) ≡ plain (value_lines 0 vs) ++ Plain (line.Value k v) ∷ [] =
    ap plain (values_push 0 vs v) ∙ (plain_push (value_lines 0 vs) (line.Value (0 + length vs) v)
    ∙ ap (λ (j : ℕ). plain (value_lines 0 vs) ++ Plain (line.Value j v) ∷ []) zero_place) in
    let len : length (vs ++ v ∷ []) ≡ length vs + 1 = length-append vs (v ∷ []) in
    let small : length (vs ++ v ∷ []) ≤ 19 = grind (arith, nat_tests, place, few, len) in
    subst (λ (z : ScenarioDraft). ScenarioGrown (valued ds step vs) (Plain (line.Value k v)) z) parts.1 (record {
      told_is = ap (λ (l : List ScenarioLine). Second ∷ (dues_lines ds ++ DueLine step ∷ l)) grow
          ∙ behind_parts Second (dues_lines ds) (DueLine step ∷ plain (value_lines 0 vs)) (Plain (line.Value k v) ∷ []);
      keeps = (c.0, c.1, small);
    })
grown_valued ds step vs (Rip a) e holds c h =
    let parts = kept (length vs == 19) (came ds (due_at step vs a)) e h in
    let all : length vs ≡ 19 = grind (arith, nat_tests, parts.0) in
    subst (λ (z : ScenarioDraft). ScenarioGrown (valued ds step vs) (Rip a) z) parts.1 (record {
      told_is = behind_parts Second (dues_lines ds) (DueLine step ∷ plain (value_lines 0 vs)) (Rip a ∷ []);
      keeps = (all_push HasValues ds (due_at step vs a) c.0 all, ascend_last 0 ds (due_at step [] 0) (due_at step vs a) refl c.1);
    })
grown_valued ds step vs Second e holds c h = no_draft e h
grown_valued ds step vs (DueLine n) e holds c h = no_draft e h
grown_valued ds step vs (Plain line.Version) e holds c h = no_draft e h
grown_valued ds step vs (Plain (line.Region r)) e holds c h = no_draft e h
grown_valued ds step vs (Plain (line.Ask q)) e holds c h = no_draft e h
grown_valued ds step vs (Plain (line.Set k v)) e holds c h = no_draft e h
grown_valued ds step vs (Plain (line.Mem w)) e holds c h = no_draft e h
grown_valued ds step vs (Plain line.End) e holds c h = no_draft e h

write_grown : (d : DueValue) (w : MemWrite) → due_lines (due_with w d) ≡ due_lines d ++ Plain (line.Mem w) ∷ []
write_grown d w =
    let grow : plain (map line.Mem (d.writes ++ w ∷ [])) ≡ plain (map line.Mem d.writes) ++ Plain (line.Mem w) ∷ [] =
    ap plain (map_push line.Mem d.writes w) ∙ plain_push (map line.Mem d.writes) (line.Mem w) in
    ap (λ (l : List ScenarioLine). DueLine d.step ∷ (plain (value_lines 0 d.values) ++ Rip d.rip ∷ l)) grow
    ∙ behind_parts (DueLine d.step) (plain (value_lines 0 d.values)) (Rip d.rip ∷ plain (map line.Mem d.writes)) (Plain (line.Mem w) ∷ [])

same_values : (ds : List DueValue) (d e : DueValue) → length d.values ≡ length e.values → AllByRecursion HasValues (ds ++ d ∷ []) → AllByRecursion HasValues (ds ++ e ∷ [])
same_values [] d e s h = (sym s ∙ h.0, tt)
same_values (f ∷ ds) d e s h = (h.0, same_values ds d e s h.1)

grown_came : (ds : List DueValue) (d : DueValue) (x : ScenarioLine) (e : ScenarioDraft) → ScenarioKeeps (came ds d) → scenario_taken (came ds d) x ≡ Some e
    → ScenarioGrown (came ds d) x e
grown_came ds d (Plain (line.Mem w)) e c h =
    grown_from (came ds d) e (came ds (due_with w d)) (Plain (line.Mem w)) h (record {
      told_is = ap (λ (l : List ScenarioLine). Second ∷ (dues_lines ds ++ l)) (write_grown d w) ∙ behind_parts Second (dues_lines ds) (due_lines d) (Plain (line.Mem w) ∷ []);
      keeps = (same_values ds d (due_with w d) refl c.0, ascend_last 0 ds d (due_with w d) refl c.1);
    })
grown_came ds d (Plain line.Version) e c h =
    grown_from (came ds d) e (inner (ds ++ d ∷ []) (heads [])) (Plain line.Version) h (record {
      told_is = ap (λ (l : List ScenarioLine). l ++ Plain line.Version ∷ []) (front_some ds d);
      keeps = (c, omega arith);
    })
grown_came ds d (DueLine n) e c h =
    let parts = kept (nat_le d.step n) (valued (ds ++ d ∷ []) n []) e h in
    subst (λ (z : ScenarioDraft). ScenarioGrown (came ds d) (DueLine n) z) parts.1 (record {
      told_is = ap (λ (l : List ScenarioLine). Second ∷ (l ++ DueLine n ∷ [])) (dues_push ds d);
      keeps = (c.0, ascend_more 0 ds d (due_at n [] 0) parts.0 c.1, omega arith);
    })
grown_came ds d Second e c h = no_draft e h
grown_came ds d (Rip n) e c h = no_draft e h
grown_came ds d (Plain (line.Value k v)) e c h = no_draft e h
grown_came ds d (Plain (line.Region r)) e c h = no_draft e h
grown_came ds d (Plain (line.Ask q)) e c h = no_draft e h
grown_came ds d (Plain (line.Set k v)) e c h = no_draft e h
grown_came ds d (Plain line.End) e c h = no_draft e h

inner_from : (ds : List DueValue) (o : Option Draft) (e : ScenarioDraft) → option_map (inner ds) o ≡ Some e → (f : Draft) × (o ≡ Some f) × (inner ds f ≡ e)
inner_from ds None e h = absurd cc
inner_from ds (Some f) e h = (f, refl, cc)

grown_inner : (ds : List DueValue) (d : Draft) (x : ScenarioLine) (e : ScenarioDraft) → ScenarioLineHolds x → ScenarioKeeps (inner ds d)
    → scenario_taken (inner ds d) x ≡ Some e → ScenarioGrown (inner ds d) x e
grown_inner ds d (Plain x) e holds c h =
    let f = inner_from ds (taken d x) e h in
    let g = grown d x f.0 holds.fits c.1 f.1 in
    subst (λ (z : ScenarioDraft). ScenarioGrown (inner ds d) (Plain x) z) f.2 (record {
      told_is = ap (λ (l : List Line). front_lines ds ++ plain l) g.told_is
          ∙ (ap (λ (l : List ScenarioLine). front_lines ds ++ l) (plain_push (told d) x) ∙ sym (append_assoc (front_lines ds) (plain (told d)) (Plain x ∷ [])));
      keeps = (c.0, g.keeps);
    })
grown_inner ds d Second e holds c h = no_draft e h
grown_inner ds d (DueLine n) e holds c h = no_draft e h
grown_inner ds d (Rip n) e holds c h = no_draft e h

-- A line that is taken is one line more that the draft tells.
pub scenario_grown : (d : ScenarioDraft) (x : ScenarioLine) (e : ScenarioDraft) → ScenarioLineHolds x → ScenarioKeeps d → scenario_taken d x ≡ Some e → ScenarioGrown d x e
scenario_grown opened x e holds c h = grown_opened x e h
scenario_grown front x e holds c h = grown_front x e h
scenario_grown (valued ds step vs) x e holds c h = grown_valued ds step vs x e holds c h
scenario_grown (came ds d) x e holds c h = grown_came ds d x e c h
scenario_grown (inner ds d) x e holds c h = grown_inner ds d x e holds c h
