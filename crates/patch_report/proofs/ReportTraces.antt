-- The reading of a whole text goes line by line through what a report's lines may lead to.
use Rattle.std.proofs.Common.{◌≡◌, ℕ, zero, suc, ◌+◌, ◌*◌, ◌%◌, ◌/◌, ◌<◌, ◌≤◌, Bool, true, false, cond, List, [], ◌∷◌, ◌++◌, length, Option, Some, None, option_map, Result, Ok, Err, refl, ap, sym, subst, ◌∙◌, arith, append_assoc, append-nil}
use Rattle.std.specs.Prelude.{◌==◌, nat_lt, option_and_then}
use Rattle.std.specs.Option.{option_or}
use Rattle.std.proofs.lemmas.Bool.{and_parts, ltb-true}
use Rattle.std.proofs.lemmas.Bool.Decides.{nat_tests}
use Rattle.std.proofs.lemmas.Option.{none-some, same_Some}
use Rattle.pun_base.specs.declared.scheme.Scheme.{Scheme}
use Rattle.pun_base.specs.declared.tramp.Tramp.{Tramp}
use Rattle.patch_report.specs.declared.origin.Origin.{Origin}
use Rattle.patch_report.specs.declared.origin.Version.{Version}
use Rattle.patch_report.specs.declared.origin.Version.TheVariants.{One, Two}
use Rattle.patch_report.specs.declared.line.Line.{Line}
use Rattle.patch_report.specs.declared.line.Line.TheVariants as line
use Rattle.patch_report.specs.declared.line.Mark.{Mark}
use Rattle.patch_report.specs.declared.line.Mark.TheVariants as mark
use Rattle.patch_report.specs.Values.{ReportValue, RowValue, PlanValue, Immovable, Unplanned, Shared, OutcomeValue, patched, left, version_in, WriteValue}
use Rattle.patch_report.specs.Grammar.{high_end, IsLine}
use Rattle.patch_report.specs.Reading.{At, ◌>>=◌, action_of, as_patched, body_at, count_of, end_at, end_of, found, line_at, most_pages, next_place, origin_at, origin_of, outcome_at, page_from, paged, pages_at, picked, plan_at, private_of, pun_of, report_at, row_at, rows_at, site_of, tramps_at, up_to_three, version_of, wanted, writes_at}
use Rattle.patch_report.proofs.NextLine.{next_is}
use Rattle.patch_report.proofs.LineAutomaton.{Head, Turn, fresh, first, versioned, begun, acted, ranged, rowing, tramping, writing, paging, done, plan, row, rows_with, report, begun_as, turn, page_is}
use Rattle.patch_report.proofs.LinesSoFar.{page_small}
use Rattle.patch_report.proofs.LineTraces.{Trace, accepts, stops, goes, wanted_trace, same_trace, assoc, tramps_trace, writes_trace, puns_trace}

-- ---- rows

plan_trace : (t : Turn) (s : Scheme) (at : At) (g : PlanValue × At → Result ReportValue ℕ)
    → ((p : PlanValue) (after : At) → Trace (g (p, after)) (rowing t.head (rows_with t (patched p)) t.due) after)
    → Trace (plan_at s at >>= g) (tramping t s []) at
unfolding plan_at
plan_trace t s at g rest =
    let last : List Tramp → List WriteValue × At → Result (PlanValue × At) ℕ =
    λ ts writes. Ok (plan s ts writes.0 (up_to_three pun_of writes.1).0, (up_to_three pun_of writes.1).1) in
    let later : List Tramp × At → Result (PlanValue × At) ℕ = λ tramps. writes_at tramps.1 >>= λ writes. last tramps.0 writes in
    subst (λ (r : Result ReportValue ℕ). Trace r (tramping t s []) at) (assoc (tramps_at s at) later g)
    (tramps_trace t s at (λ tramps. later tramps >>= g) (λ ts after.
    subst (λ (r : Result ReportValue ℕ). Trace r (writing t s ts []) after) (assoc (writes_at after) (last ts) g)
    (writes_trace t s ts after (λ writes. last ts writes >>= g) (λ ws behind.
    puns_trace t s ts ws behind (last ts (ws, behind) >>= g)
    (rest (plan s ts ws (up_to_three pun_of behind).0) (up_to_three pun_of behind).1)))))

outcome_trace : (t : Turn) (m : Mark) (at : At) (g : OutcomeValue × At → Result ReportValue ℕ)
    → ((o : OutcomeValue) (after : At) → Trace (g (o, after)) (rowing t.head (rows_with t o) t.due) after)
    → Trace (outcome_at m at >>= g) (begun_as t m) at
unfolding outcome_at
outcome_trace t (mark.Patched s) at g rest =
    let later : PlanValue × At → Result (OutcomeValue × At) ℕ = λ p. Ok (as_patched p) in
    subst (λ (r : Result ReportValue ℕ). Trace r (tramping t s []) at) (assoc (plan_at s at) later g)
    (plan_trace t s at (λ p. later p >>= g) (λ p after. rest (patched p) after))
outcome_trace t mark.NotRelocatable at g rest = rest (left Immovable) at
outcome_trace t mark.NoPlan at g rest = rest (left Unplanned) at
outcome_trace t mark.Shared at g rest = rest (left Shared) at

row_trace : (h : Head) (before : List RowValue) (n : ℕ) (at : At) (g : RowValue × At → Result ReportValue ℕ)
    → ((q : RowValue) (after : At) → Trace (g (q, after)) (rowing h (before ++ q ∷ []) n) after)
    → Trace (row_at (version_in h.origin) n before at >>= g) (rowing h before (suc n)) at
unfolding row_at
row_trace h before n at g rest =
    let told : ℕ → OutcomeValue × At → Result (RowValue × At) ℕ = λ site outcome.
    Ok (record { site = site; number = n; outcome = outcome.0 }, outcome.1) in
    let later : (ℕ × Mark) × At → Result (RowValue × At) ℕ = λ head. outcome_at head.0.1 head.1 >>= λ outcome. told head.0.0 outcome in
    subst (λ (r : Result ReportValue ℕ). Trace r (rowing h before (suc n)) at)
    (assoc (wanted (site_of (version_in h.origin) n before) at) later g)
    (wanted_trace (site_of (version_in h.origin) n before) (λ s. begun_as (turn h before n s.0) s.1) (rowing h before (suc n)) at
    (λ head. later head >>= g) refl
    (λ x after l. refl) (λ s after.
    subst (λ (r : Result ReportValue ℕ). Trace r (begun_as (turn h before n s.0) s.1) after) (assoc (outcome_at s.1 after) (told s.0) g)
    (outcome_trace (turn h before n s.0) s.1 after (λ outcome. told s.0 outcome >>= g)
    (λ o behind. rest (row (turn h before n s.0) o) behind))))

rows_trace : (n : ℕ) (h : Head) (before : List RowValue) (at : At) (g : List RowValue × At → Result ReportValue ℕ)
    → ((rows : List RowValue) (after : At) → Trace (g (rows, after)) (rowing h rows 0) after)
    → Trace (rows_at (version_in h.origin) n before at >>= g) (rowing h before n) at
unfolding rows_at
rows_trace zero h before at g rest = rest before at
rows_trace (suc n) h before at g rest =
    let later : RowValue × At → Result (List RowValue × At) ℕ = λ row. rows_at (version_in h.origin) n (before ++ row.0 ∷ []) row.1 in
    subst (λ (r : Result ReportValue ℕ). Trace r (rowing h before (suc n)) at) (assoc (row_at (version_in h.origin) n before at) later g)
    (row_trace h before n at (λ row. later row >>= g) (λ q after. rows_trace n h (before ++ q ∷ []) after g rest))

-- ---- pages

test_over : (n : ℕ) (b : Bool) → (n == 0) ≡ b → b ≡ false → n ≡ 0 → ⊥
test_over n b e f z = grind (arith, nat_tests)

-- The line `end`, where no page may come.
end_trace : (h : Head) (rows : List RowValue) (pages : List (ℕ × ℕ)) (low : ℕ) (at : At)
    → ((x : Line) (after : At) → line_at at ≡ Some (x, after) → page_from low x ≡ None)
    → Trace (end_at at >>= λ u. Ok (report h rows pages)) (paging h rows pages low) at
unfolding end_at
end_trace h rows pages low at none =
    let told : Unit {0} → Result ReportValue ℕ = λ u. Ok (report h rows pages) in
    let later : (Unit {0}) × At → Result (Unit {0}) ℕ = λ last. cond (length last.1.text == 0) (Ok tt) (Err last.1.place) in
    subst (λ (r : Result ReportValue ℕ). Trace r (paging h rows pages low) at) (assoc (wanted end_of at) later told)
    (wanted_trace end_of (λ u. done (report h rows pages)) (paging h rows pages low) at (λ last. later last >>= told) refl
    (λ x after l. ap (λ (o : Option (ℕ × ℕ)). option_or (option_map (λ (p : ℕ × ℕ). paging h rows (pages ++ p ∷ []) (next_place p.0)) o)
    (option_map (λ (u : Unit {0}). done (report h rows pages)) (end_of x))) (none x after l))
    (λ u after. ended after (length after.text == 0) refl))
  where
    ended : (after : At) (b : Bool) → (length after.text == 0) ≡ b
        → Trace (cond b (Ok tt) (Err after.place) >>= λ (u : Unit {0}). Ok (report h rows pages)) (done (report h rows pages)) after
    ended after true e = accepts (report h rows pages) refl (let z : length after.text ≡ 0 = grind (arith, nat_tests) in z) refl
    ended after false e = stops (record { next = λ x b l. refl; over = λ d z. test_over (length after.text) false e refl z }) refl

-- So many pages may follow from an address on.
abbrev pub HasRoom : ℕ → ℕ → Type 0
HasRoom n low = high_end ≤ 4096 * n + low + 4095

aligned : (n : ℕ) → (n % 4096 == 0) ≡ true → n % 4096 ≡ 0
aligned n h = grind (arith, nat_tests)

-- A page's line has a whole page below the high end.
pub page_bounds : (page group : ℕ) → IsLine (line.Page page group) → (page % 4096 ≡ 0) × (page < high_end)
page_bounds page group h =
    let p = and_parts (page % 4096 == 0) (nat_lt page high_end) h.holds in
    (aligned page p.0, ltb-true page high_end p.1)

-- There is room for no page where none may follow.
no_page : (low : ℕ) (x : Line) → IsLine x → HasRoom 0 low → page_from low x ≡ None
no_page low x h room = by (page_from low x) refl
  where
    by : (o : Option (ℕ × ℕ)) → page_from low x ≡ o → page_from low x ≡ None
    by None e = e
    by (Some p) e =
        let q = page_is low x p e in
        let b = page_bounds p.0 p.1 (subst IsLine q.0 h) in
        let l : low ≤ p.0 = q.1 in
        let m : p.0 % 4096 ≡ 0 = b.0 in
        let s : p.0 < high_end = b.1 in
        absurd (omega arith)

-- Behind a page there is room for one page fewer.
pub less_room : (n low page : ℕ) → HasRoom (suc n) low → low ≤ page → page % 4096 ≡ 0 → HasRoom n (page + 1)
less_room n low page h l m =
    let q : page ≡ 4096 * (page / 4096) = omega arith in
    let e : high_end ≡ 4096 * 524272 = refl in
    omega arith

pages_trace : (n low : ℕ) (h : Head) (rows : List RowValue) (pages : List (ℕ × ℕ)) (at : At) → HasRoom n low
    → Trace (end_at (pages_at n low at).1 >>= λ u. Ok (report h rows (pages ++ (pages_at n low at).0))) (paging h rows pages low) at
unfolding pages_at found
pages_trace zero low h rows pages at room =
    subst (λ (ps : List (ℕ × ℕ)). Trace (end_at at >>= λ u. Ok (report h rows ps)) (paging h rows pages low) at) (sym (append-nil pages))
    (end_trace h rows pages low at (λ x after l. no_page low x (next_is at x after l).line room))
pages_trace (suc n) low h rows pages at room = by (line_at at) refl
    (λ p after r. pages_trace n (next_place p.0) h rows (pages ++ p ∷ []) after r)
  where
    last : ((x : Line) (after : At) → line_at at ≡ Some (x, after) → page_from low x ≡ None)
        → Trace (end_at at >>= λ u. Ok (report h rows (pages ++ []))) (paging h rows pages low) at
    last none = subst (λ (ps : List (ℕ × ℕ)). Trace (end_at at >>= λ u. Ok (report h rows ps)) (paging h rows pages low) at)
        (sym (append-nil pages))
        (end_trace h rows pages low at none)

    taken : (w : Line × At) → line_at at ≡ Some w → (o : Option (ℕ × ℕ)) → page_from low w.0 ≡ o
        → ((p : ℕ × ℕ) (after : At) → HasRoom n (next_place p.0)
        → Trace (end_at (pages_at n (next_place p.0) after).1
        >>= λ u. Ok (report h rows ((pages ++ p ∷ []) ++ (pages_at n (next_place p.0) after).0)))
        (paging h rows (pages ++ p ∷ []) (next_place p.0)) after)
        → Trace (end_at (paged at (option_map {U = (ℕ × ℕ) × At} (λ (v : ℕ × ℕ). (v, w.1)) o) (λ x. pages_at n (next_place x.0.0) x.1)).1
        >>= λ u. Ok (report h rows (pages ++ (paged at (option_map {U = (ℕ × ℕ) × At} (λ (v : ℕ × ℕ). (v, w.1)) o)
        (λ x. pages_at n (next_place x.0.0) x.1)).0))) (paging h rows pages low) at
    taken w l None e rest = last (λ x after m. ap (page_from low) (ap (λ (v : Line × At). v.0) (same_Some (x, after) w (sym m ∙ l))) ∙ e)
    taken w l (Some p) e rest =
        let q = page_is low w.0 p e in
        let is : IsLine (line.Page p.0 p.1) = subst IsLine q.0 (next_is at w.0 w.1 l).line in
        let next : next_place p.0 ≡ p.0 + 1 = page_small p.0 p.1 is in
        let r : HasRoom n (next_place p.0) = subst (HasRoom n) (sym next) (less_room n low p.0 room q.1 (page_bounds p.0 p.1 is).0) in
        goes w.0 w.1 (paging h rows (pages ++ p ∷ []) (next_place p.0)) l
        (ap (λ (o : Option (ℕ × ℕ)). option_or (option_map (λ (v : ℕ × ℕ). paging h rows (pages ++ v ∷ []) (next_place v.0)) o)
        (option_map (λ (u : Unit {0}). done (report h rows pages)) (end_of w.0))) e)
        (subst (λ (ps : List (ℕ × ℕ)). Trace (end_at (pages_at n (next_place p.0) w.1).1 >>= λ u. Ok (report h rows ps))
        (paging h rows (pages ++ p ∷ []) (next_place p.0)) w.1)
        (append_assoc pages (p ∷ []) (pages_at n (next_place p.0) w.1).0) (rest p w.1 r))

    by : (o : Option (Line × At)) → line_at at ≡ o
        → ((p : ℕ × ℕ) (after : At) → HasRoom n (next_place p.0)
        → Trace (end_at (pages_at n (next_place p.0) after).1
        >>= λ u. Ok (report h rows ((pages ++ p ∷ []) ++ (pages_at n (next_place p.0) after).0)))
        (paging h rows (pages ++ p ∷ []) (next_place p.0)) after)
        → Trace (end_at (paged at (option_and_then (picked (page_from low)) o) (λ x. pages_at n (next_place x.0.0) x.1)).1
        >>= λ u. Ok (report h rows (pages ++ (paged at (option_and_then (picked (page_from low)) o)
        (λ x. pages_at n (next_place x.0.0) x.1)).0))) (paging h rows pages low) at
    by None l rest = last (λ x after m. absurd (none-some (x, after) (sym l ∙ m)))
    by (Some w) l rest = taken w l (page_from low w.0) refl rest

-- ---- a report

enough : HasRoom most_pages 0
unfolding most_pages
enough = omega arith

body_trace : (o : Option Origin) (at : At) → Trace (body_at o at) (begun o) at
unfolding body_at
body_trace o at1 =
    wanted_trace action_of (acted o) (begun o) at1 _ refl (λ x after l. refl) (λ action at2.
    wanted_trace private_of (λ p. ranged (record { origin = o; action = action; private = p })) (acted o action) at2 _ refl
    (λ x after l. refl) (λ range at3.
    let h : Head = record { origin = o; action = action; private = range } in
    wanted_trace count_of (λ n. rowing h [] n) (ranged h) at3 _ refl (λ x after l. refl) (λ count at4.
    rows_trace count h [] at4 _ (λ rows at5.
    same_trace _ (rowing h rows 0) (paging h rows [] 0) at5 refl refl (λ x after l. refl)
    (pages_trace most_pages 0 h rows [] at5 enough)))))

origin_trace : (v : Version) (at : At) → Trace (origin_at v at >>= λ origin. body_at origin.0 origin.1) (first v) at
unfolding origin_at
origin_trace One at = body_trace None at
origin_trace Two at =
    let told : Origin × At → Result (Option Origin × At) ℕ = λ origin. Ok (Some origin.0, origin.1) in
    let rest : Option Origin × At → Result ReportValue ℕ = λ origin. body_at origin.0 origin.1 in
    subst (λ (r : Result ReportValue ℕ). Trace r versioned at) (assoc (wanted origin_of at) told rest)
    (wanted_trace origin_of (λ o. begun (Some o)) versioned at (λ origin. told origin >>= rest) refl (λ x after l. refl)
    (λ o after. body_trace (Some o) after))

-- Reading a report goes line by line from the first line on.
pub report_trace : (at : At) → Trace (report_at at) fresh at
unfolding report_at
report_trace at = wanted_trace version_of first fresh at _ refl (λ x after l. refl) (λ version after. origin_trace version after)
