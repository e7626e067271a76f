-- The lines of a script are taken one after the other; lines that are taken begin a script.
use Rattle.std.proofs.Common.{◌≡◌, ℕ, zero, suc, ◌+◌, ◌-◌, ◌<◌, ◌≤◌, eqb, true, false, ◌&&◌, List, [], ◌∷◌, ◌++◌, length, map, drop, Option, Some, None, refl, ap, sym, subst, ◌∙◌, arith, append_assoc, append-nil, length-append}
use Rattle.std.specs.Prelude.{replicate, slice_set, is_none, nat_le}
use Rattle.std.specs.List.{AllByRecursion, flat_map, list_all}
use Rattle.std.proofs.lemmas.Bool.{and_parts}
use Rattle.std.proofs.lemmas.Bool.Decides.{nat_tests}
use Rattle.std.proofs.lemmas.Grind.{flat_map-append}
use Rattle.std.proofs.lemmas.List.{length-replicate}
use Rattle.list_text.proofs.WordParts.{all_appended}
use Rattle.cpu_state.specs.declared.script_regions.Region.{Region}
use Rattle.cpu_state.specs.declared.world.Question.{Question}
use Rattle.cpu_state.specs.declared.world.MemWrite.{MemWrite}
use Rattle.cpu_state.specs.Script.{are_regions, ascend, body_size, is_bounded, is_permission}
use Rattle.image_step.specs.declared.line.Line.{Line}
use Rattle.image_step.specs.declared.line.Line.TheVariants as line
use Rattle.image_step.specs.Values.{EntryValue, ScriptValue}
use Rattle.image_step.specs.Spelling.{entry_lines, script_lines, set_lines, value_lines}
use Rattle.image_step.specs.Grammar.{HasNames, IsScript, LineHolds}
use Rattle.image_step.specs.Taking.{Draft, asked, blank, body, done, fresh, heads, taken, with_values}
use Rattle.image_step.proofs.DraftLines.{Keeps, grown, told, behind_two}
use Rattle.image_step.proofs.Languages.{after as all_after, first_taken, one_taken}

-- Lines that are taken from a draft on.
abbrev pub after : Draft → List Line → Option Draft
after d xs = all_after taken d xs

-- The lines that were taken are those that the draft tells.
pub told_after : (d e : Draft) (xs : List Line) → AllByRecursion LineHolds xs → Keeps d → after d xs ≡ Some e → (told e ≡ told d ++ xs) × Keeps e
told_after d e [] h k a =
    let same : d ≡ e = cc in
    (ap told (sym same) ∙ sym (append-nil (told d)), subst Keeps same k)
told_after d e (x ∷ xs) h k a =
    let f = first_taken taken d e x xs a in
    let g = grown d x f.0 h.0.fits k f.1 in
    let ih = told_after f.0 e xs h.1 g.keeps f.2 in
    (ih.0 ∙ (ap (λ (l : List Line). l ++ xs) g.told_is ∙ append_assoc (told d) (x ∷ []) xs), ih.1)

-- ---- the lines of a script

push_nil : (vs : List ℕ) (w : ℕ) (ws : List ℕ) → (vs ++ w ∷ []) ++ ws ≡ vs ++ w ∷ ws
push_nil vs w ws = append_assoc vs (w ∷ []) ws

value_taken : (vs : List ℕ) (v : ℕ) → taken (heads vs) (line.Value (length vs) v) ≡ Some (with_values (vs ++ v ∷ []))
value_taken vs v = let e : eqb (length vs) (length vs) ≡ true = grind (arith, nat_tests) in rw e refl

full : (vs : List ℕ) → length vs ≡ 19 → with_values vs ≡ body vs []
full vs h = let e : eqb (length vs) 19 ≡ true = grind (arith, nat_tests) in rw e refl

not_full : (vs : List ℕ) → length vs < 19 → with_values vs ≡ heads vs
not_full vs h = let e : eqb (length vs) 19 ≡ false = grind (arith, nat_tests) in rw e refl

values_taken : (vs : List ℕ) (k w : ℕ) (ws : List ℕ) (rest : List Line) → length vs ≡ k → length vs + length (w ∷ ws) ≡ 19
    → after (heads vs) (value_lines k (w ∷ ws) ++ rest) ≡ after (body (vs ++ w ∷ ws) []) rest
values_taken vs k w [] rest e h =
    let all : length (vs ++ w ∷ []) ≡ 19 = length-append vs (w ∷ []) ∙ h in
    let t : taken (heads vs) (line.Value k w) ≡ Some (body (vs ++ w ∷ []) []) =
    subst (λ (j : ℕ). taken (heads vs) (line.Value j w) ≡ Some (body (vs ++ w ∷ []) [])) e (value_taken vs w ∙ ap (λ (z : Draft). Some z) (full (vs ++ w ∷ []) all)) in
    one_taken taken (heads vs) (body (vs ++ w ∷ []) []) (line.Value k w) rest t
values_taken vs k w (u ∷ ws) rest e h =
    let len : length (vs ++ w ∷ []) ≡ k + 1 = length-append vs (w ∷ []) ∙ ap (λ (j : ℕ). j + 1) e in
    let less : length (vs ++ w ∷ []) < 19 = omega arith in
    let t : taken (heads vs) (line.Value k w) ≡ Some (heads (vs ++ w ∷ [])) =
    subst (λ (j : ℕ). taken (heads vs) (line.Value j w) ≡ Some (heads (vs ++ w ∷ []))) e (value_taken vs w ∙ ap (λ (z : Draft). Some z) (not_full (vs ++ w ∷ []) less)) in
    one_taken taken (heads vs) (heads (vs ++ w ∷ [])) (line.Value k w) (value_lines (k + 1) (u ∷ ws) ++ rest) t
    ∙ (values_taken (vs ++ w ∷ []) (k + 1) u ws rest len (omega arith)
    ∙ ap (λ (l : List ℕ). after (body l []) rest) (push_nil vs w (u ∷ ws)))

-- Regions in front of regions are regions.
ascend_front : (low : ℕ) (rs qs : List Region) → ascend low (rs ++ qs) ≡ true → ascend low rs ≡ true
ascend_front low [] qs h = refl
ascend_front low (r ∷ rs) qs h =
    let p0 = and_parts (nat_le low r.lo) (is_permission r.perms && (is_bounded r.lo r.body && ascend (r.lo + body_size r.body) (rs ++ qs))) h in
    let p1 = and_parts (is_permission r.perms) (is_bounded r.lo r.body && ascend (r.lo + body_size r.body) (rs ++ qs)) p0.1 in
    let p2 = and_parts (is_bounded r.lo r.body) (ascend (r.lo + body_size r.body) (rs ++ qs)) p1.1 in
    rw p0.0 (rw p1.0 (rw p2.0 (ascend_front (r.lo + body_size r.body) rs qs p2.1)))

fewer : (m n : ℕ) → nat_le (m + n) 16 ≡ true → nat_le m 16 ≡ true
fewer m n h = grind (arith, nat_tests)

regions_front : (rs qs : List Region) → are_regions (rs ++ qs) ≡ true → are_regions rs ≡ true
regions_front rs qs h =
    let p = and_parts (nat_le (length (rs ++ qs)) 16) (ascend 0 (rs ++ qs)) h in
    let few : nat_le (length rs) 16 ≡ true = fewer (length rs) (length qs) (ap (λ (n : ℕ). nat_le n 16) (sym (length-append rs qs)) ∙ p.0) in
    rw few (ascend_front 0 rs qs p.1)

regions_taken : (vs : List ℕ) (rs qs : List Region) (rest : List Line) → are_regions (rs ++ qs) ≡ true
    → after (body vs rs) (map line.Region qs ++ rest) ≡ after (body vs (rs ++ qs)) rest
regions_taken vs rs [] rest h = ap (λ (l : List Region). after (body vs l) rest) (sym (append-nil rs))
regions_taken vs rs (q ∷ qs) rest h =
    let e : (rs ++ q ∷ []) ++ qs ≡ rs ++ q ∷ qs = append_assoc rs (q ∷ []) qs in
    let all : are_regions ((rs ++ q ∷ []) ++ qs) ≡ true = ap are_regions e ∙ h in
    let t : taken (body vs rs) (line.Region q) ≡ Some (body vs (rs ++ q ∷ [])) = rw (regions_front (rs ++ q ∷ []) qs all) refl in
    one_taken taken (body vs rs) (body vs (rs ++ q ∷ [])) (line.Region q) (map line.Region qs ++ rest) t
    ∙ (regions_taken vs (rs ++ q ∷ []) qs rest all ∙ ap (λ (l : List Region). after (body vs l) rest) e)

-- ---- entries

-- An entry with these gifts and no write.
abbrev given_only : Question → List (Option ℕ) → EntryValue
given_only q os = record { question = q; given = os; writes = [] }

drop_front : {X : Type 0} (xs ys : List X) → drop (length xs) (xs ++ ys) ≡ ys
drop_front [] ys = refl
drop_front (x ∷ xs) ys = drop_front xs ys

none_all : (n : ℕ) → list_all (is_none {T = ℕ}) (replicate n None) ≡ true
none_all zero = refl
none_all (suc n) = none_all n

set_front : (xs : List (Option ℕ)) (o p : Option ℕ) (ys : List (Option ℕ)) → slice_set (xs ++ p ∷ ys) (length xs) o ≡ xs ++ o ∷ ys
set_front [] o p ys = refl
set_front (x ∷ xs) o p ys = ap (λ (l : List (Option ℕ)). x ∷ l) (set_front xs o p ys)

set_taken : (vs : List ℕ) (rs : List Region) (es : List EntryValue) (q : Question) (front : List (Option ℕ)) (n v : ℕ)
    → taken (asked vs rs es (given_only q (front ++ replicate (suc n) None))) (line.Set (length front) v)
    ≡ Some (asked vs rs es (given_only q (front ++ Some v ∷ replicate n None)))
set_taken vs rs es q front n v =
    let e : list_all is_none (drop (length front) (front ++ replicate (suc n) None)) ≡ true =
    ap (list_all is_none) (drop_front front (replicate (suc n) None)) ∙ none_all n in
    rw e (ap (λ (os : List (Option ℕ)). Some (asked vs rs es (given_only q os))) (set_front front (Some v) None (replicate n None)))

sets_taken : (vs : List ℕ) (rs : List Region) (es : List EntryValue) (q : Question) (front os : List (Option ℕ)) (k : ℕ) (rest : List Line) → length front ≡ k
    → after (asked vs rs es (given_only q (front ++ replicate (length os) None))) (set_lines k os ++ rest)
    ≡ after (asked vs rs es (given_only q (front ++ os))) rest
sets_taken vs rs es q front [] k rest e = refl
sets_taken vs rs es q front (None ∷ os) k rest e =
    let len : length (front ++ None ∷ []) ≡ k + 1 = length-append front (None ∷ []) ∙ ap (λ (j : ℕ). j + 1) e in
    let shape : (ys : List (Option ℕ)) → front ++ None ∷ ys ≡ (front ++ None ∷ []) ++ ys = λ ys. sym (append_assoc front (None ∷ []) ys) in
    ap (λ (l : List (Option ℕ)). after (asked vs rs es (given_only q l)) (set_lines (k + 1) os ++ rest)) (shape (replicate (length os) None))
    ∙ (sets_taken vs rs es q (front ++ None ∷ []) os (k + 1) rest len
    ∙ ap (λ (l : List (Option ℕ)). after (asked vs rs es (given_only q l)) rest) (sym (shape os)))
sets_taken vs rs es q front (Some v ∷ os) k rest e =
    let len : length (front ++ Some v ∷ []) ≡ k + 1 = length-append front (Some v ∷ []) ∙ ap (λ (j : ℕ). j + 1) e in
    let shape : (ys : List (Option ℕ)) → front ++ Some v ∷ ys ≡ (front ++ Some v ∷ []) ++ ys = λ ys. sym (append_assoc front (Some v ∷ []) ys) in
    let t : taken (asked vs rs es (given_only q (front ++ replicate (suc (length os)) None))) (line.Set k v)
    ≡ Some (asked vs rs es (given_only q (front ++ Some v ∷ replicate (length os) None))) =
    subst (λ (j : ℕ). taken (asked vs rs es (given_only q (front ++ replicate (suc (length os)) None))) (line.Set j v)
    ≡ Some (asked vs rs es (given_only q (front ++ Some v ∷ replicate (length os) None)))) e (set_taken vs rs es q front (length os) v) in
    one_taken taken (asked vs rs es (given_only q (front ++ replicate (suc (length os)) None))) (asked vs rs es (given_only q (front ++ Some v ∷ replicate (length os) None))) (line.Set k v) (set_lines (k + 1) os ++ rest) t
    ∙ (ap (λ (l : List (Option ℕ)). after (asked vs rs es (given_only q l)) (set_lines (k + 1) os ++ rest)) (shape (replicate (length os) None))
    ∙ (sets_taken vs rs es q (front ++ Some v ∷ []) os (k + 1) rest len
    ∙ ap (λ (l : List (Option ℕ)). after (asked vs rs es (given_only q l)) rest) (sym (shape os))))

writes_taken : (vs : List ℕ) (rs : List Region) (es : List EntryValue) (q : Question) (os : List (Option ℕ)) (front ws : List MemWrite) (rest : List Line)
    → after (asked vs rs es (record { question = q; given = os; writes = front })) (map line.Mem ws ++ rest)
    ≡ after (asked vs rs es (record { question = q; given = os; writes = front ++ ws })) rest
writes_taken vs rs es q os front [] rest =
    ap (λ (l : List MemWrite). after (asked vs rs es (record { question = q; given = os; writes = l })) rest) (sym (append-nil front))
writes_taken vs rs es q os front (w ∷ ws) rest =
    writes_taken vs rs es q os (front ++ w ∷ []) ws rest
    ∙ ap (λ (l : List MemWrite). after (asked vs rs es (record { question = q; given = os; writes = l })) rest) (append_assoc front (w ∷ []) ws)

-- What is asked, and then what is answered.
entry_taken : (vs : List ℕ) (rs : List Region) (es : List EntryValue) (e : EntryValue) (rest : List Line) → HasNames e
    → after (asked vs rs es (fresh e.question)) ((set_lines 0 e.given ++ map line.Mem e.writes) ++ rest) ≡ after (asked vs rs es e) rest
entry_taken vs rs es e rest h =
    ap (λ (l : List Line). after (asked vs rs es (fresh e.question)) l) (append_assoc (set_lines 0 e.given) (map line.Mem e.writes) rest)
    ∙ (ap (λ (n : ℕ). after (asked vs rs es (given_only e.question (replicate n None))) (set_lines 0 e.given ++ (map line.Mem e.writes ++ rest))) (sym h)
    ∙ (sets_taken vs rs es e.question [] e.given 0 (map line.Mem e.writes ++ rest) refl
    ∙ writes_taken vs rs es e.question e.given [] e.writes rest))

entries_taken : (vs : List ℕ) (rs : List Region) (es : List EntryValue) (e : EntryValue) (fs : List EntryValue) → AllByRecursion HasNames fs
    → after (asked vs rs es e) (flat_map entry_lines fs ++ line.End ∷ []) ≡ Some (done vs rs (es ++ e ∷ fs))
entries_taken vs rs es e [] h = refl
entries_taken vs rs es e (f ∷ fs) h =
    let shape : flat_map entry_lines (f ∷ fs) ++ line.End ∷ [] ≡ line.Ask f.question ∷ ((set_lines 0 f.given ++ map line.Mem f.writes) ++ (flat_map entry_lines fs ++ line.End ∷ [])) =
    append_assoc (entry_lines f) (flat_map entry_lines fs) (line.End ∷ []) in
    ap (λ (l : List Line). after (asked vs rs es e) l) shape
    ∙ (entry_taken vs rs (es ++ e ∷ []) f (flat_map entry_lines fs ++ line.End ∷ []) h.0
    ∙ (entries_taken vs rs (es ++ e ∷ []) f fs h.1
    ∙ ap (λ (l : List EntryValue). Some (done vs rs l)) (append_assoc es (e ∷ []) (f ∷ fs))))

body_taken : (vs : List ℕ) (rs : List Region) (es : List EntryValue) → AllByRecursion HasNames es
    → after (body vs rs) (flat_map entry_lines es ++ line.End ∷ []) ≡ Some (done vs rs es)
body_taken vs rs [] h = refl
body_taken vs rs (e ∷ es) h =
    let shape : flat_map entry_lines (e ∷ es) ++ line.End ∷ [] ≡ line.Ask e.question ∷ ((set_lines 0 e.given ++ map line.Mem e.writes) ++ (flat_map entry_lines es ++ line.End ∷ [])) =
    append_assoc (entry_lines e) (flat_map entry_lines es) (line.End ∷ []) in
    ap (λ (l : List Line). after (body vs rs) l) shape
    ∙ (entry_taken vs rs [] e (flat_map entry_lines es ++ line.End ∷ []) h.0 ∙ entries_taken vs rs [] e es h.1)

heads_taken : (vs : List ℕ) (rest : List Line) → length vs ≡ 19 → after (heads []) (value_lines 0 vs ++ rest) ≡ after (body vs []) rest
heads_taken [] rest h = absurd (omega arith)
heads_taken (v ∷ vs) rest h = let e : 0 + suc (length vs) ≡ 19 = omega arith in values_taken [] 0 v vs rest refl e

-- The lines of a script are taken, and give that script.
pub script_taken : (v : ScriptValue) → IsScript v → after blank (script_lines v) ≡ Some (done v.values v.regions v.entries)
script_taken v h =
    heads_taken v.values (map line.Region v.regions ++ (flat_map entry_lines v.entries ++ line.End ∷ [])) h.values
    ∙ (regions_taken v.values [] v.regions (flat_map entry_lines v.entries ++ line.End ∷ []) h.regions
    ∙ body_taken v.values v.regions v.entries h.entries)

-- ---- the script that a draft may still be

-- The script of a draft with the fewest lines that complete it.
abbrev pub completed : Draft → ScriptValue
completed blank = record { values = replicate 19 0; regions = []; entries = [] }
completed (heads vs) = record { values = vs ++ replicate (19 - length vs) 0; regions = []; entries = [] }
completed (body vs rs) = record { values = vs; regions = rs; entries = [] }
completed (asked vs rs es e) = record { values = vs; regions = rs; entries = es ++ e ∷ [] }
completed (done vs rs es) = record { values = vs; regions = rs; entries = es }

-- Its lines behind those of the draft.
abbrev pub left : Draft → List Line
left blank = script_lines (completed blank)
left (heads vs) = value_lines (length vs) (replicate (19 - length vs) 0) ++ line.End ∷ []
left (body vs rs) = line.End ∷ []
left (asked vs rs es e) = line.End ∷ []
left (done vs rs es) = []

pub values_append : (k : ℕ) (vs ws : List ℕ) → value_lines k (vs ++ ws) ≡ value_lines k vs ++ value_lines (k + length vs) ws
values_append k [] ws = let e : k ≡ k + 0 = omega arith in ap (λ (j : ℕ). value_lines j ws) e
values_append k (v ∷ vs) ws =
    let e : k + 1 + length vs ≡ k + suc (length vs) = omega arith in
    ap (λ (l : List Line). line.Value k v ∷ l) (values_append (k + 1) vs ws ∙ ap (λ (j : ℕ). value_lines (k + 1) vs ++ value_lines j ws) e)

regroup_head : (x : Line) (a b c : List Line) → x ∷ ((a ++ b) ++ c) ≡ (x ∷ a) ++ (b ++ c)
regroup_head x a b c = simp append_assoc

regroup_asked : (x : Line) (a b c d e : List Line) → x ∷ (a ++ (b ++ ((c ++ d) ++ e))) ≡ (x ∷ (a ++ (b ++ (c ++ d)))) ++ e
regroup_asked x a b c d e = simp append_assoc

-- Its lines are those that the draft tells and those that are left.
pub completed_lines : (d : Draft) → script_lines (completed d) ≡ told d ++ left d
completed_lines blank = refl
completed_lines (heads vs) =
    let zero_place : 0 + length vs ≡ length vs = omega arith in
    ap (λ (l : List Line). line.Version ∷ (l ++ line.End ∷ []))
    (values_append 0 vs (replicate (19 - length vs) 0) ∙ ap (λ (k : ℕ). value_lines 0 vs ++ value_lines k (replicate (19 - length vs) 0)) zero_place)
    ∙ regroup_head line.Version (value_lines 0 vs) (value_lines (length vs) (replicate (19 - length vs) 0)) (line.End ∷ [])
completed_lines (body vs rs) = behind_two line.Version (value_lines 0 vs) (map line.Region rs) (line.End ∷ [])
completed_lines (asked vs rs es e) =
    let push : flat_map entry_lines (es ++ e ∷ []) ≡ flat_map entry_lines es ++ entry_lines e =
    flat_map-append entry_lines es (e ∷ []) ∙ ap (λ (l : List Line). flat_map entry_lines es ++ l) (append-nil (entry_lines e)) in
    ap (λ (l : List Line). line.Version ∷ (value_lines 0 vs ++ (map line.Region rs ++ (l ++ line.End ∷ [])))) push
    ∙ regroup_asked line.Version (value_lines 0 vs) (map line.Region rs) (flat_map entry_lines es) (entry_lines e) (line.End ∷ [])
completed_lines (done vs rs es) = sym (append-nil _)

pub zero_lines : (k n : ℕ) → k + n ≤ 19 → AllByRecursion LineHolds (value_lines k (replicate n 0))
zero_lines k zero h = tt
zero_lines k (suc n) h = (record { fits = grind (arith, nat_tests); numbers = omega arith }, zero_lines (k + 1) n (omega arith))

end_holds : LineHolds line.End
end_holds = record { fits = refl; numbers = tt }

left_holds : (d : Draft) → Keeps d → AllByRecursion LineHolds (left d)
left_holds blank k = (record { fits = refl; numbers = tt }, all_appended LineHolds (value_lines 0 (replicate 19 0)) (line.End ∷ []) (zero_lines 0 19 (omega arith)) (end_holds, tt))
left_holds (heads vs) k =
    all_appended LineHolds (value_lines (length vs) (replicate (19 - length vs) 0)) (line.End ∷ []) (zero_lines (length vs) (19 - length vs) (omega arith)) (end_holds, tt)
left_holds (body vs rs) k = (end_holds, tt)
left_holds (asked vs rs es e) k = (end_holds, tt)
left_holds (done vs rs es) k = tt

lines_hold : (d : Draft) → Keeps d → AllByRecursion LineHolds (told d) → AllByRecursion LineHolds (script_lines (completed d))
lines_hold d k h = subst (AllByRecursion LineHolds) (sym (completed_lines d)) (all_appended LineHolds (told d) (left d) h (left_holds d k))

-- Lines that were taken begin a script.
pub completed_script : (d : Draft) → Keeps d → AllByRecursion LineHolds (told d) → IsScript (completed d)
completed_script blank k h = record { values = refl; regions = refl; entries = tt; lines = lines_hold blank k h }
completed_script (heads vs) k h =
    let len : length (vs ++ replicate (19 - length vs) 0) ≡ length vs + (19 - length vs) =
    length-append vs (replicate (19 - length vs) 0) ∙ ap (λ (n : ℕ). length vs + n) (length-replicate (19 - length vs) 0) in
    record { values = omega arith; regions = refl; entries = tt; lines = lines_hold (heads vs) k h }
completed_script (body vs rs) k h = record { values = k.0; regions = k.1; entries = tt; lines = lines_hold (body vs rs) k h }
completed_script (asked vs rs es e) k h =
    record { values = k.0.0; regions = k.0.1; entries = all_appended HasNames es (e ∷ []) k.1.0 (k.1.1, tt); lines = lines_hold (asked vs rs es e) k h }
completed_script (done vs rs es) k h = record { values = k.0.0; regions = k.0.1; entries = k.1; lines = lines_hold (done vs rs es) k h }
