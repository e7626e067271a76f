-- The lines of a draft, and the script that it may still be.
use Rattle.std.proofs.Common.{◌≡◌, ℕ, zero, suc, ◌+◌, ◌==◌, ◌<◌, ◌≤◌, eqb, Bool, true, false, cond, List, [], ◌∷◌, ◌++◌, length, map, drop, Option, Some, None, refl, ap, sym, subst, ◌∙◌, arith, append_assoc, append-nil, length-append}
use Rattle.std.specs.Prelude.{slice_set, is_none, nat_lt}
use Rattle.std.specs.List.{AllByRecursion, flat_map, list_all}
use Rattle.std.proofs.lemmas.Bool.{and_parts}
use Rattle.std.proofs.lemmas.Bool.Decides.{nat_tests}
use Rattle.std.proofs.lemmas.Grind.{flat_map-append}
use Rattle.std.proofs.lemmas.List.{map_push}
use Rattle.cpu_state.specs.declared.script_regions.Region.{Region}
use Rattle.cpu_state.specs.declared.world.MemWrite.{MemWrite}
use Rattle.cpu_state.specs.Script.{are_regions}
use Rattle.image_step.specs.declared.line.Line.{Line}
use Rattle.image_step.specs.declared.line.Line.TheVariants as line
use Rattle.image_step.specs.Values.{EntryValue}
use Rattle.image_step.specs.Spelling.{entry_lines, set_lines, value_lines}
use Rattle.image_step.specs.Grammar.{HasNames, line_fits}
use Rattle.image_step.specs.Taking.{Draft, asked, blank, body, done, fresh, heads, may_set, taken, taken_entry, taken_first, taken_region, taken_value, with_set, with_values, with_write}
use Rattle.image_step.proofs.LineSpellings.{kept}

-- The lines that were read.
abbrev pub told : Draft → List Line
told blank = []
told (heads vs) = line.Version ∷ value_lines 0 vs
told (body vs rs) = line.Version ∷ (value_lines 0 vs ++ map line.Region rs)
told (asked vs rs es e) = line.Version ∷ (value_lines 0 vs ++ (map line.Region rs ++ (flat_map entry_lines es ++ entry_lines e)))
told (done vs rs es) = line.Version ∷ (value_lines 0 vs ++ (map line.Region rs ++ (flat_map entry_lines es ++ line.End ∷ [])))

-- What a draft keeps.
abbrev pub Keeps : Draft → Type 0
Keeps blank = Unit {0}
Keeps (heads vs) = length vs < 19
Keeps (body vs rs) = (length vs ≡ 19) × (are_regions rs ≡ true)
Keeps (asked vs rs es e) = ((length vs ≡ 19) × (are_regions rs ≡ true)) × (AllByRecursion HasNames es × HasNames e)
Keeps (done vs rs es) = ((length vs ≡ 19) × (are_regions rs ≡ true)) × AllByRecursion HasNames es

-- The draft tells one line more.
pub record Grown (d : Draft) (x : Line) (e : Draft) : Type 0 where
  pub told_is : told e ≡ told d ++ x ∷ []
  pub keeps : Keeps e

-- ---- lists of lines that grow

pub values_push : (k : ℕ) (vs : List ℕ) (v : ℕ) → value_lines k (vs ++ v ∷ []) ≡ value_lines k vs ++ line.Value (k + length vs) v ∷ []
values_push k [] v = let e : k ≡ k + 0 = omega arith in ap (λ (j : ℕ). line.Value j v ∷ []) e
values_push k (u ∷ vs) v =
    let e : k + 1 + length vs ≡ k + suc (length vs) = omega arith in
    ap (λ (l : List Line). line.Value k u ∷ l) (values_push (k + 1) vs v ∙ ap (λ (j : ℕ). value_lines (k + 1) vs ++ line.Value j v ∷ []) e)

no_sets : (k : ℕ) (os : List (Option ℕ)) → list_all is_none os ≡ true → set_lines k os ≡ []
no_sets k [] h = refl
no_sets k (None ∷ os) h = no_sets (k + 1) os h
no_sets k (Some v ∷ os) h = absurd cc

sets_push : (j k v : ℕ) (os : List (Option ℕ)) → k < length os → list_all is_none (drop k os) ≡ true
    → set_lines j (slice_set os k (Some v)) ≡ set_lines j os ++ line.Set (j + k) v ∷ []
sets_push j k v [] h n = absurd (omega arith)
sets_push j zero v (None ∷ os) h n =
    let e : j ≡ j + 0 = omega arith in
    let none : set_lines (j + 1) os ≡ [] = no_sets (j + 1) os n in
    rw (none) (ap (λ (i : ℕ). line.Set i v ∷ []) e)
sets_push j zero v (Some u ∷ os) h n = absurd cc
sets_push j (suc k) v (None ∷ os) h n =
    let e : j + 1 + k ≡ j + suc k = omega arith in
    sets_push (j + 1) k v os (omega arith) n ∙ ap (λ (i : ℕ). set_lines (j + 1) os ++ line.Set i v ∷ []) e
sets_push j (suc k) v (Some u ∷ os) h n =
    let e : j + 1 + k ≡ j + suc k = omega arith in
    ap (λ (l : List Line). line.Set j u ∷ l) (sets_push (j + 1) k v os (omega arith) n ∙ ap (λ (i : ℕ). set_lines (j + 1) os ++ line.Set i v ∷ []) e)

set_length : (os : List (Option ℕ)) (k : ℕ) (o : Option ℕ) → length (slice_set os k o) ≡ length os
set_length [] k o = refl
set_length (p ∷ os) zero o = refl
set_length (p ∷ os) (suc k) o = ap suc (set_length os k o)

-- What holds of all, and of one more, holds of these.
pub all_push : {X : Type 0} (P : X → Type 0) (xs : List X) (x : X) → AllByRecursion P xs → P x → AllByRecursion P (xs ++ x ∷ [])
all_push P [] x h p = (p, tt)
all_push P (y ∷ xs) x h p = (h.0, all_push P xs x h.1 p)

-- A line and three lists, joined from the right or from the left.
pub behind_two : (x : Line) (a b c : List Line) → x ∷ (a ++ (b ++ c)) ≡ (x ∷ (a ++ b)) ++ c
behind_two x a b c = simp append_assoc

behind_three : (x : Line) (a b c d : List Line) → x ∷ (a ++ (b ++ (c ++ d))) ≡ (x ∷ (a ++ (b ++ c))) ++ d
behind_three x a b c d = simp append_assoc

behind_four : (x : Line) (a b c d e : List Line) → x ∷ (a ++ (b ++ (c ++ (d ++ e)))) ≡ (x ∷ (a ++ (b ++ (c ++ d)))) ++ e
behind_four x a b c d e = simp append_assoc

entries_push : (es : List EntryValue) (e : EntryValue) → flat_map entry_lines (es ++ e ∷ []) ≡ flat_map entry_lines es ++ entry_lines e
entries_push es e = flat_map-append entry_lines es (e ∷ []) ∙ ap (λ (l : List Line). flat_map entry_lines es ++ l) (append-nil (entry_lines e))

-- ---- one more line

grown_from : (d e f : Draft) (x : Line) → ◌≡◌ {A = Option Draft} (Some f) (Some e) → Grown d x f → Grown d x e
grown_from d e f x h g = let same : f ≡ e = cc in subst (λ (z : Draft). Grown d x z) same g

no_draft : {T : Type 0} (e : Draft) → ◌≡◌ {A = Option Draft} None (Some e) → T
no_draft e h = absurd cc

grown_first : (x : Line) (e : Draft) → taken_first x ≡ Some e → Grown blank x e
grown_first line.Version e h = grown_from blank e (heads []) line.Version h (record { told_is = refl; keeps = omega arith })
grown_first x e h = no_draft e h

with_values_told : (b : Bool) (vs : List ℕ) → told (cond b (body vs []) (heads vs)) ≡ line.Version ∷ value_lines 0 vs
with_values_told true vs = ap (λ (l : List Line). line.Version ∷ l) (append-nil (value_lines 0 vs))
with_values_told false vs = refl

with_values_keeps : (b : Bool) (vs : List ℕ) → length vs ≤ 19 → eqb (length vs) 19 ≡ b → Keeps (cond b (body vs []) (heads vs))
with_values_keeps true vs h e = (grind (arith, nat_tests), refl)
with_values_keeps false vs h e = grind (arith, nat_tests)

grown_value : (vs : List ℕ) (x : Line) (e : Draft) → length vs < 19 → taken_value vs x ≡ Some e → Grown (heads vs) x e
grown_value vs (line.Value k v) e c h =
    let parts = kept (k == length vs) (with_values (vs ++ v ∷ [])) e h in
    let place : k ≡ length vs = grind (arith, nat_tests, parts.0) in
    let zero_place : 0 + length vs ≡ k = omega arith in
    let told_is : told (with_values (vs ++ v ∷ [])) ≡ told (heads vs) ++ line.Value k v ∷ [] =
    with_values_told (length (vs ++ v ∷ []) == 19) (vs ++ v ∷ [])
    ∙ ap (λ (l : List Line). line.Version ∷ l) (values_push 0 vs v ∙ ap (λ (j : ℕ). value_lines 0 vs ++ line.Value j v ∷ []) zero_place) in
    let len : length (vs ++ v ∷ []) ≤ 19 = simp length-append (omega arith) in
    subst (λ (z : Draft). Grown (heads vs) (line.Value k v) z) parts.1
    (record { told_is = told_is; keeps = with_values_keeps (length (vs ++ v ∷ []) == 19) (vs ++ v ∷ []) len refl })
grown_value vs x e c h = no_draft e h

grown_region : (vs : List ℕ) (rs : List Region) (x : Line) (e : Draft) → (length vs ≡ 19) × (are_regions rs ≡ true) → taken_region vs rs x ≡ Some e
    → Grown (body vs rs) x e
grown_region vs rs (line.Region r) e c h =
    let parts = kept (are_regions (rs ++ r ∷ [])) (body vs (rs ++ r ∷ [])) e h in
    let told_is : told (body vs (rs ++ r ∷ [])) ≡ told (body vs rs) ++ line.Region r ∷ [] =
    ap (λ (l : List Line). line.Version ∷ (value_lines 0 vs ++ l)) (map_push line.Region rs r) ∙ behind_two line.Version (value_lines 0 vs) (map line.Region rs) (line.Region r ∷ []) in
    subst (λ (z : Draft). Grown (body vs rs) (line.Region r) z) parts.1 (record { told_is = told_is; keeps = (c.0, parts.0) })
grown_region vs rs (line.Ask q) e c h =
    grown_from (body vs rs) e (asked vs rs [] (fresh q)) (line.Ask q) h
    (record { told_is = behind_two line.Version (value_lines 0 vs) (map line.Region rs) (line.Ask q ∷ []); keeps = (c, (tt, refl)) })
grown_region vs rs line.End e c h =
    grown_from (body vs rs) e (done vs rs []) line.End h
    (record { told_is = behind_two line.Version (value_lines 0 vs) (map line.Region rs) (line.End ∷ []); keeps = (c, tt) })
grown_region vs rs line.Version e c h = no_draft e h
grown_region vs rs (line.Value k v) e c h = no_draft e h
grown_region vs rs (line.Set k v) e c h = no_draft e h
grown_region vs rs (line.Mem w) e c h = no_draft e h

-- The entry that goes on has one more line.
entry_grown : (vs : List ℕ) (rs : List Region) (es : List EntryValue) (e f : EntryValue) (x : Line) → entry_lines f ≡ entry_lines e ++ x ∷ []
    → told (asked vs rs es f) ≡ told (asked vs rs es e) ++ x ∷ []
entry_grown vs rs es e f x h =
    ap (λ (l : List Line). line.Version ∷ (value_lines 0 vs ++ (map line.Region rs ++ (flat_map entry_lines es ++ l)))) h
    ∙ behind_four line.Version (value_lines 0 vs) (map line.Region rs) (flat_map entry_lines es) (entry_lines e) (x ∷ [])

-- It ends, and a line is behind it.
entry_ended : (vs : List ℕ) (rs : List Region) (es : List EntryValue) (e : EntryValue) (x : Line)
    → line.Version ∷ (value_lines 0 vs ++ (map line.Region rs ++ (flat_map entry_lines (es ++ e ∷ []) ++ x ∷ []))) ≡ told (asked vs rs es e) ++ x ∷ []
entry_ended vs rs es e x =
    ap (λ (l : List Line). line.Version ∷ (value_lines 0 vs ++ (map line.Region rs ++ (l ++ x ∷ [])))) (entries_push es e)
    ∙ behind_three line.Version (value_lines 0 vs) (map line.Region rs) (flat_map entry_lines es ++ entry_lines e) (x ∷ [])

no_writes : (ws : List MemWrite) → eqb (length ws) 0 ≡ true → ws ≡ []
no_writes [] h = refl
no_writes (w ∷ ws) h = absurd (let e : length (w ∷ ws) ≡ 0 = grind (arith, nat_tests, h) in omega arith)

set_grown : (k v : ℕ) (e : EntryValue) → nat_lt k 19 ≡ true → HasNames e → may_set k e ≡ true
    → entry_lines (with_set k v e) ≡ entry_lines e ++ line.Set k v ∷ []
set_grown k v e named full h =
    let parts = and_parts (list_all is_none (drop k e.given)) (length e.writes == 0) h in
    let none : e.writes ≡ [] = no_writes e.writes parts.1 in
    let inside : k < length e.given = grind (arith, nat_tests) in
    let zero_place : 0 + k ≡ k = omega arith in
    let grown : set_lines 0 (slice_set e.given k (Some v)) ≡ set_lines 0 e.given ++ line.Set k v ∷ [] =
    sets_push 0 k v e.given inside parts.0 ∙ ap (λ (i : ℕ). set_lines 0 e.given ++ line.Set i v ∷ []) zero_place in
    let left : map line.Mem e.writes ≡ [] = ap (map line.Mem) none in
    ap (λ (l : List Line). line.Ask e.question ∷ l)
    (ap (λ (l : List Line). set_lines 0 (slice_set e.given k (Some v)) ++ l) left
    ∙ (append-nil (set_lines 0 (slice_set e.given k (Some v))) ∙ (grown
    ∙ ap (λ (l : List Line). l ++ line.Set k v ∷ []) (sym (ap (λ (l : List Line). set_lines 0 e.given ++ l) left ∙ append-nil (set_lines 0 e.given))))))

write_grown : (w : MemWrite) (e : EntryValue) → entry_lines (with_write w e) ≡ entry_lines e ++ line.Mem w ∷ []
write_grown w e =
    ap (λ (l : List Line). line.Ask e.question ∷ (set_lines 0 e.given ++ l)) (map_push line.Mem e.writes w)
    ∙ ap (λ (l : List Line). line.Ask e.question ∷ l) (sym (append_assoc (set_lines 0 e.given) (map line.Mem e.writes) (line.Mem w ∷ [])))

grown_entry : (vs : List ℕ) (rs : List Region) (es : List EntryValue) (e : EntryValue) (x : Line) (f : Draft) → line_fits x ≡ true
    → Keeps (asked vs rs es e) → taken_entry vs rs es e x ≡ Some f → Grown (asked vs rs es e) x f
grown_entry vs rs es e (line.Ask q) f fits c h =
    grown_from (asked vs rs es e) f (asked vs rs (es ++ e ∷ []) (fresh q)) (line.Ask q) h
    (record { told_is = entry_ended vs rs es e (line.Ask q); keeps = (c.0, (all_push HasNames es e c.1.0 c.1.1, refl)) })
grown_entry vs rs es e (line.Set k v) f fits c h =
    let parts = kept (may_set k e) (asked vs rs es (with_set k v e)) f h in
    let told_is = entry_grown vs rs es e (with_set k v e) (line.Set k v) (set_grown k v e fits c.1.1 parts.0) in
    subst (λ (z : Draft). Grown (asked vs rs es e) (line.Set k v) z) parts.1
    (record { told_is = told_is; keeps = (c.0, (c.1.0, set_length e.given k (Some v) ∙ c.1.1)) })
grown_entry vs rs es e (line.Mem w) f fits c h =
    grown_from (asked vs rs es e) f (asked vs rs es (with_write w e)) (line.Mem w) h
    (record { told_is = entry_grown vs rs es e (with_write w e) (line.Mem w) (write_grown w e); keeps = (c.0, (c.1.0, c.1.1)) })
grown_entry vs rs es e line.End f fits c h =
    grown_from (asked vs rs es e) f (done vs rs (es ++ e ∷ [])) line.End h
    (record { told_is = entry_ended vs rs es e line.End; keeps = (c.0, all_push HasNames es e c.1.0 c.1.1) })
grown_entry vs rs es e line.Version f fits c h = no_draft f h
grown_entry vs rs es e (line.Value k v) f fits c h = no_draft f h
grown_entry vs rs es e (line.Region r) f fits c h = no_draft f h

-- A line that is taken is one line more that the draft tells.
pub grown : (d : Draft) (x : Line) (e : Draft) → line_fits x ≡ true → Keeps d → taken d x ≡ Some e → Grown d x e
grown blank x e fits c h = grown_first x e h
grown (heads vs) x e fits c h = grown_value vs x e c h
grown (body vs rs) x e fits c h = grown_region vs rs x e c h
grown (asked vs rs es g) x e fits c h = grown_entry vs rs es g x e fits c h
grown (done vs rs es) x e fits c h = no_draft e h
