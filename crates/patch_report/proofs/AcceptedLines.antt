-- The lines of a report may come one after the other, and end in that report.
use Rattle.std.proofs.Common.{◌≡◌, ℕ, suc, ◌+◌, ◌<◌, ◌≤◌, ◌%◌, Bool, true, false, ◌&&◌, cond, List, [], ◌∷◌, ◌++◌, length, map, Option, Some, None, option_map, refl, ap, sym, subst, ◌∙◌, arith, append_assoc, append-nil, length-append}
use Rattle.std.specs.Prelude.{◌==◌, nat_lt, nat_le, option_and_then}
use Rattle.std.specs.List.{AllByRecursion, flat_map}
use Rattle.std.specs.Option.{option_or}
use Rattle.std.proofs.lemmas.Bool.{and_parts, and_from}
use Rattle.std.proofs.lemmas.Bool.Decides.{nat_tests}
use Rattle.pun_base.specs.declared.action.Action.{Action}
use Rattle.pun_base.specs.declared.scheme.Scheme.{Scheme}
use Rattle.pun_base.specs.declared.tramp.Tramp.{Tramp}
use Rattle.pun_base.specs.declared.pun.Pun.{Pun}
use Rattle.patch_report.specs.declared.origin.Origin.{Origin}
use Rattle.patch_report.specs.declared.origin.Version.{Version}
use Rattle.patch_report.specs.declared.line.Line.{Line}
use Rattle.patch_report.specs.declared.line.Line.TheVariants as line
use Rattle.patch_report.specs.declared.line.Mark.{Mark}
use Rattle.patch_report.specs.Values.{BodyValue, ReportValue, RowValue, PlanValue, Immovable, Unplanned, Shared, OutcomeValue, patched, left, version_in, WriteValue}
use Rattle.patch_report.specs.Spelling.{body_lines, mark_of, outcome_lines, page_line, plan_lines, report_lines, row_lines, version_lines, write_line}
use Rattle.patch_report.specs.Grammar.{AscendFrom, CountsDown, high_end, is_new, is_told, IsBody, IsLine, IsOrigin, IsReport, OutcomeCounts, PlanCounts, RowCounts, SitesApart, tramp_count}
use Rattle.patch_report.specs.Reading.{next_place, page_from, pun_of, write_of}
use Rattle.patch_report.proofs.LineAutomaton.{Head, Turn, State, fresh, begun, acted, ranged, rowing, tramping, writing, punning, paging, done, plan, row, rows_with, report, begun_as, turn, row_step, if_room, pun_step, tramped, step}
use Rattle.patch_report.proofs.LinesSoFar.{page_small, tramps_some}

-- Where lines lead, one after the other.
abbrev pub run : State → List Line → Option State
run s [] = Some s
run s (x ∷ xs) = option_and_then (λ (u : State). run u xs) (step s x)

-- A line that may come next, and lines that lead on from there, lead to the same end as one list.
pub onward : (s u v : State) (x : Line) (xs : List Line) → step s x ≡ Some u → run u xs ≡ Some v → run s (x ∷ xs) ≡ Some v
onward s u v x xs e r = ap (option_and_then (λ (w : State). run w xs)) e ∙ r

-- A line comes next, and it is none of a kind.
abbrev pub Without : {X : Type 0} → (Line → Option X) → List Line → Type 0
Without want [] = ⊥
Without want (x ∷ xs) = want x ≡ None

-- ---- pages

page_due : (low : ℕ) (p : ℕ × ℕ) → low ≤ p.0 → page_from low (page_line p) ≡ Some p
page_due low p h = let t : nat_le low p.0 ≡ true = grind (arith, nat_tests) in rw t refl

pages_run : (h : Head) (rows : List RowValue) (pages : List (ℕ × ℕ)) (low : ℕ) (qs : List (ℕ × ℕ)) → AscendFrom low qs
    → AllByRecursion IsLine (map page_line qs) → run (paging h rows pages low) (map page_line qs ++ line.End ∷ [])
    ≡ Some (done (report h rows (pages ++ qs)))
pages_run h rows pages low [] a l = ap (λ (ps : List (ℕ × ℕ)). Some (done (report h rows ps))) (sym (append-nil pages))
pages_run h rows pages low (q ∷ qs) a l =
    let n : next_place q.0 ≡ q.0 + 1 = page_small q.0 q.1 l.0 in
    let e : step (paging h rows pages low) (page_line q) ≡ Some (paging h rows (pages ++ q ∷ []) (q.0 + 1)) =
    ap (λ (o : Option (ℕ × ℕ)). option_or (option_map (λ (p : ℕ × ℕ). paging h rows (pages ++ p ∷ []) (next_place p.0)) o) None)
    (page_due low q a.0)
    ∙ ap (λ (b : ℕ). Some (paging h rows (pages ++ q ∷ []) b)) n in
    onward (paging h rows pages low) (paging h rows (pages ++ q ∷ []) (q.0 + 1)) (done (report h rows (pages ++ q ∷ qs))) (page_line q)
    (map page_line qs ++ line.End ∷ []) e
    (pages_run h rows (pages ++ q ∷ []) (q.0 + 1) qs a.1 l.1
    ∙ ap (λ (ps : List (ℕ × ℕ)). Some (done (report h rows ps))) (append_assoc pages (q ∷ []) qs))

same_end : (h : Head) (rows : List RowValue) (qs : List (ℕ × ℕ))
    → run (rowing h rows 0) (map page_line qs ++ line.End ∷ []) ≡ run (paging h rows [] 0) (map page_line qs ++ line.End ∷ [])
same_end h rows [] = refl
same_end h rows (q ∷ qs) = refl

-- ---- rows

no_room : {X : Type 0} (b : Bool) → ◌≡◌ {A = Option X} (cond b None None) None
no_room true = refl
no_room false = refl

-- Where there is nothing, there is nothing under the bound of three either.
pub if_ended : {X : Type 0} (n : ℕ) (o : Option X) → o ≡ None → if_room n o ≡ None
if_ended n o h = ap (if_room n) h ∙ no_room (nat_lt n 3)

-- Where no punned bytes may come next, the row is complete.
pub puns_end : (t : Turn) (s : Scheme) (ts : List Tramp) (ws : List WriteValue) (ps : List Pun) (x : Line)
    → if_room (length ps) (pun_of x) ≡ None
    → step (punning t s ts ws ps) x ≡ step (rowing t.head (rows_with t (patched (plan s ts ws ps))) t.due) x
puns_end t s ts ws ps x h =
    ap (λ (o : Option Pun). option_or (option_map (λ (p : Pun). punning t s ts ws (ps ++ p ∷ [])) o)
    (row_step t.head (rows_with t (patched (plan s ts ws ps))) t.due x)) h

-- Where no write comes next, punned bytes may.
pub writes_end : (t : Turn) (s : Scheme) (ts : List Tramp) (ws : List WriteValue) (x : Line) → 0 < length ws
    → if_room (length ws) (write_of x) ≡ None
    → step (writing t s ts ws) x ≡ step (punning t s ts ws []) x
writes_end t s ts ws x some h =
    let b : nat_lt 0 (length ws) ≡ true = grind (arith, nat_tests) in
    ap (λ (o : Option WriteValue). option_or (option_map (λ (w : WriteValue). writing t s ts (ws ++ w ∷ [])) o)
    (cond (nat_lt 0 (length ws)) (pun_step t s ts ws [] x) None)) h
    ∙ ap (λ (c : Bool). cond c (pun_step t s ts ws [] x) None) b

after_puns : (t : Turn) (s : Scheme) (ts : List Tramp) (ws : List WriteValue) (ps : List Pun) (xs : List Line) → Without pun_of xs
    → run (punning t s ts ws ps) xs ≡ run (rowing t.head (rows_with t (patched (plan s ts ws ps))) t.due) xs
after_puns t s ts ws ps [] h = absurd h
after_puns t s ts ws ps (x ∷ xs) h = ap (option_and_then (λ (w : State). run w xs))
    (puns_end t s ts ws ps x (if_ended (length ps) (pun_of x) h))

after_writes : (t : Turn) (s : Scheme) (ts : List Tramp) (ws : List WriteValue) (xs : List Line) → 0 < length ws → Without write_of xs
    → run (writing t s ts ws) xs ≡ run (punning t s ts ws []) xs
after_writes t s ts ws [] some h = absurd h
after_writes t s ts ws (x ∷ xs) some h =
    ap (option_and_then (λ (w : State). run w xs)) (writes_end t s ts ws x some (if_ended (length ws) (write_of x) h))

-- Where there are fewer than three, the bound of three takes nothing away.
pub with_room : {X : Type 0} (n : ℕ) (o : Option X) → n < 3 → if_room n o ≡ o
with_room n o h = let t : nat_lt n 3 ≡ true = grind (arith, nat_tests) in ap (λ (b : Bool). cond b o None) t

-- Behind fewer than three lines of punned bytes one more may come.
pub pun_more : (t : Turn) (s : Scheme) (ts : List Tramp) (ws : List WriteValue) (ps : List Pun) (x : Line) (p : Pun) → length ps < 3
    → pun_of x ≡ Some p
    → step (punning t s ts ws ps) x ≡ Some (punning t s ts ws (ps ++ p ∷ []))
pun_more t s ts ws ps x p room h =
    ap (λ (o : Option Pun). option_or (option_map (λ (q : Pun). punning t s ts ws (ps ++ q ∷ [])) o)
    (row_step t.head (rows_with t (patched (plan s ts ws ps))) t.due x))
    (with_room (length ps) (pun_of x) room ∙ h)

-- Behind fewer than three writes one more may come.
pub write_more : (t : Turn) (s : Scheme) (ts : List Tramp) (ws : List WriteValue) (x : Line) (w : WriteValue) → length ws < 3
    → write_of x ≡ Some w
    → step (writing t s ts ws) x ≡ Some (writing t s ts (ws ++ w ∷ []))
write_more t s ts ws x w room h =
    ap (λ (o : Option WriteValue). option_or (option_map (λ (q : WriteValue). writing t s ts (ws ++ q ∷ [])) o)
    (cond (nat_lt 0 (length ws)) (pun_step t s ts ws [] x) None))
    (with_room (length ws) (write_of x) room ∙ h)

puns_run : (t : Turn) (s : Scheme) (ts : List Tramp) (ws : List WriteValue) (ps qs : List Pun) (more : List Line) (u : State)
    → length ps + length qs ≤ 3
    → run (punning t s ts ws (ps ++ qs)) more ≡ Some u → run (punning t s ts ws ps) (map line.Pun qs ++ more) ≡ Some u
puns_run t s ts ws ps [] more u room r = subst (λ (l : List Pun). run (punning t s ts ws l) more ≡ Some u) (append-nil ps) r
puns_run t s ts ws ps (q ∷ qs) more u room r =
    onward (punning t s ts ws ps) (punning t s ts ws (ps ++ q ∷ [])) u (line.Pun q) (map line.Pun qs ++ more)
    (pun_more t s ts ws ps (line.Pun q) q (omega arith) refl)
    (puns_run t s ts ws (ps ++ q ∷ []) qs more u (omega (arith, length-append ps (q ∷ [])))
    (subst (λ (l : List Pun). run (punning t s ts ws l) more ≡ Some u) (sym (append_assoc ps (q ∷ []) qs)) r))

writes_run : (t : Turn) (s : Scheme) (ts : List Tramp) (ws qs : List WriteValue) (more : List Line) (u : State) → length ws + length qs ≤ 3
    → run (writing t s ts (ws ++ qs)) more ≡ Some u → run (writing t s ts ws) (map write_line qs ++ more) ≡ Some u
writes_run t s ts ws [] more u room r = subst (λ (l : List WriteValue). run (writing t s ts l) more ≡ Some u) (append-nil ws) r
writes_run t s ts ws (q ∷ qs) more u room r =
    onward (writing t s ts ws) (writing t s ts (ws ++ q ∷ [])) u (write_line q) (map write_line qs ++ more)
    (write_more t s ts ws (write_line q) q (omega arith) refl)
    (writes_run t s ts (ws ++ q ∷ []) qs more u (omega (arith, length-append ws (q ∷ [])))
    (subst (λ (l : List WriteValue). run (writing t s ts l) more ≡ Some u) (sym (append_assoc ws (q ∷ []) qs)) r))

-- With all trampolines of its scheme, a plan goes on with its writes.
pub tramps_full : (t : Turn) (s : Scheme) (ts : List Tramp) → length ts ≡ tramp_count s → tramped t s ts ≡ writing t s ts []
tramps_full t s ts h =
    let b : (length ts == tramp_count s) ≡ true = grind (arith, nat_tests) in
    ap (λ (c : Bool). cond c (writing t s ts []) (tramping t s ts)) b

-- With fewer trampolines than its scheme has, a plan goes on with the next one.
pub tramps_due : (t : Turn) (s : Scheme) (ts : List Tramp) → length ts < tramp_count s → tramped t s ts ≡ tramping t s ts
tramps_due t s ts h =
    let b : (length ts == tramp_count s) ≡ false = grind (arith, nat_tests) in
    ap (λ (c : Bool). cond c (writing t s ts []) (tramping t s ts)) b

tramps_run : (t : Turn) (s : Scheme) (ts qs : List Tramp) (more : List Line) (u : State) → 0 < length qs
    → length ts + length qs ≡ tramp_count s
    → run (writing t s (ts ++ qs) []) more ≡ Some u → run (tramping t s ts) (map line.Tramp qs ++ more) ≡ Some u
tramps_run t s ts [] more u some full r = absurd (omega arith)
tramps_run t s ts (q ∷ []) more u some full r =
    onward (tramping t s ts) (writing t s (ts ++ q ∷ []) []) u (line.Tramp q) more
    (ap Some (tramps_full t s (ts ++ q ∷ []) (omega (arith, length-append ts (q ∷ []))))) r
tramps_run t s ts (q ∷ p ∷ qs) more u some full r =
    onward (tramping t s ts) (tramping t s (ts ++ q ∷ [])) u (line.Tramp q) (map line.Tramp (p ∷ qs) ++ more)
    (ap Some (tramps_due t s (ts ++ q ∷ []) (omega (arith, length-append ts (q ∷ [])))))
    (tramps_run t s (ts ++ q ∷ []) (p ∷ qs) more u (omega arith) (omega (arith, length-append ts (q ∷ [])))
    (subst (λ (l : List Tramp). run (writing t s l []) more ≡ Some u) (sym (append_assoc ts (q ∷ []) (p ∷ qs))) r))

no_write : (ps : List Pun) (more : List Line) → Without write_of more → Without write_of (map line.Pun ps ++ more)
no_write [] more h = h
no_write (p ∷ ps) more h = refl

plan_run : (t : Turn) (p : PlanValue) (more : List Line) (u : State) → PlanCounts p → Without write_of more → Without pun_of more
    → run (rowing t.head (rows_with t (patched p)) t.due) more ≡ Some u → run (tramping t p.scheme []) (plan_lines p ++ more) ≡ Some u
plan_run t p more u c nw np r =
    let a : run (punning t p.scheme p.tramps p.writes p.puns) more ≡ Some u = after_puns t p.scheme p.tramps p.writes p.puns more np ∙ r in
    let b : run (punning t p.scheme p.tramps p.writes []) (map line.Pun p.puns ++ more) ≡ Some u =
    puns_run t p.scheme p.tramps p.writes [] p.puns more u (let z : length p.puns ≤ 3 = c.puns in omega arith) a in
    let d : run (writing t p.scheme p.tramps p.writes) (map line.Pun p.puns ++ more) ≡ Some u =
    after_writes t p.scheme p.tramps p.writes (map line.Pun p.puns ++ more) (let z : 1 ≤ length p.writes = c.least in omega arith)
    (no_write p.puns more nw) ∙ b in
    let e : run (writing t p.scheme p.tramps []) (map write_line p.writes ++ (map line.Pun p.puns ++ more)) ≡ Some u =
    writes_run t p.scheme p.tramps [] p.writes (map line.Pun p.puns ++ more) u (let z : length p.writes ≤ 3 = c.writes in omega arith) d in
    let n : length p.tramps ≡ tramp_count p.scheme = c.tramps in
    let some : 0 < tramp_count p.scheme = tramps_some p.scheme in
    subst (λ (l : List Line). run (tramping t p.scheme []) l ≡ Some u)
    (regroup (map line.Tramp p.tramps) (map write_line p.writes) (map line.Pun p.puns) more)
    (tramps_run t p.scheme [] p.tramps (map write_line p.writes ++ (map line.Pun p.puns ++ more)) u (omega arith) (omega arith) e)
  where
    regroup : (a b c d : List Line) → a ++ (b ++ (c ++ d)) ≡ (a ++ (b ++ c)) ++ d
    regroup a b c d = simp append_assoc

without_rows : {X : Type 0} (want : Line → Option X) (rs : List RowValue) (more : List Line)
    → ((r : RowValue) → want (line.Site r.site r.number (mark_of r.outcome)) ≡ None) → Without want more
    → Without want (flat_map row_lines rs ++ more)
without_rows want [] more f h = h
without_rows want (r ∷ rs) more f h = f r

-- A site with the number that is due, which is new and has an outcome that the version can tell, may come next.
pub site_due : (h : Head) (before : List RowValue) (n site number : ℕ) (m : Mark) → number ≡ n → is_new site before ≡ true
    → is_told m (version_in h.origin) ≡ true
    → step (rowing h before (suc n)) (line.Site site number m) ≡ Some (begun_as (turn h before n site) m)
site_due h before n site number m e new told =
    let b : (number == n) ≡ true = grind (arith, nat_tests) in
    ap (λ (c : Bool). option_map (λ (s : ℕ × Mark). begun_as (turn h before n s.0) s.1) (cond c (Some (site, m)) None))
    (and_from (number == n) (is_new site before && is_told m (version_in h.origin)) b
    (and_from (is_new site before) (is_told m (version_in h.origin)) new told))

-- The version has a word for an outcome that counts.
told_of : (v : Version) (o : OutcomeValue) → OutcomeCounts v o → is_told (mark_of o) v ≡ true
told_of v (patched p) c = refl
told_of v (left why) c = c

outcome_run : (t : Turn) (o : OutcomeValue) (more : List Line) (u : State) → OutcomeCounts (version_in t.head.origin) o
    → Without write_of more → Without pun_of more
    → run (rowing t.head (rows_with t o) t.due) more ≡ Some u → run (begun_as t (mark_of o)) (outcome_lines o ++ more) ≡ Some u
outcome_run t (patched p) more u c nw np r = plan_run t p more u c nw np r
outcome_run t (left Immovable) more u c nw np r = r
outcome_run t (left Unplanned) more u c nw np r = r
outcome_run t (left Shared) more u c nw np r = r

rows_run : (h : Head) (before rs : List RowValue) (more : List Line) (u : State) → CountsDown rs → SitesApart before rs
    → AllByRecursion (RowCounts (version_in h.origin)) rs
    → Without write_of more → Without pun_of more → run (rowing h (before ++ rs) 0) more ≡ Some u
    → run (rowing h before (length rs)) (flat_map row_lines rs ++ more) ≡ Some u
rows_run h before [] more u n s c nw np r = subst (λ (l : List RowValue). run (rowing h l 0) more ≡ Some u) (append-nil before) r
rows_run h before (q ∷ rs) more u n s c nw np r =
    let t : Turn = turn h before (length rs) q.site in
    let same : q ≡ row t q.outcome = λ i. record { site = q.site; number = n.0 i; outcome = q.outcome } in
    let rest : run (rowing h (before ++ q ∷ []) (length rs)) (flat_map row_lines rs ++ more) ≡ Some u =
    rows_run h (before ++ q ∷ []) rs more u n.1 s.1 c.1 nw np
    (subst (λ (l : List RowValue). run (rowing h l 0) more ≡ Some u) (sym (append_assoc before (q ∷ []) rs)) r) in
    let next : run (rowing h (rows_with t q.outcome) (length rs)) (flat_map row_lines rs ++ more) ≡ Some u =
    subst (λ (z : RowValue). run (rowing h (before ++ z ∷ []) (length rs)) (flat_map row_lines rs ++ more) ≡ Some u) same rest in
    let begun : run (begun_as t (mark_of q.outcome)) (outcome_lines q.outcome ++ (flat_map row_lines rs ++ more)) ≡ Some u =
    outcome_run t q.outcome (flat_map row_lines rs ++ more) u c.0 (without_rows write_of rs more (λ z. refl) nw)
    (without_rows pun_of rs more (λ z. refl) np) next in
    onward (rowing h before (suc (length rs))) (begun_as t (mark_of q.outcome)) u (line.Site q.site q.number (mark_of q.outcome))
    ((outcome_lines q.outcome ++ flat_map row_lines rs) ++ more)
    (site_due h before (length rs) q.site q.number (mark_of q.outcome) n.0 s.0 (told_of (version_in h.origin) q.outcome c.0))
    (subst (λ (l : List Line). run (begun_as t (mark_of q.outcome)) l ≡ Some u)
    (sym (append_assoc (outcome_lines q.outcome) (flat_map row_lines rs) more)) begun)

-- ---- a report

without_pages : {X : Type 0} (want : Line → Option X) (qs : List (ℕ × ℕ)) → ((p : ℕ × ℕ) → want (page_line p) ≡ None) → want line.End ≡ None
    → Without want (map page_line qs ++ line.End ∷ [])
without_pages want [] f e = e
without_pages want (q ∷ qs) f e = f q

-- Of lines that all may stand in a report, so may those of the later part.
pub behind : (xs ys : List Line) → AllByRecursion IsLine (xs ++ ys) → AllByRecursion IsLine ys
behind [] ys h = h
behind (x ∷ xs) ys h = behind xs ys h.1

-- So may those of the earlier part.
pub front : (xs ys : List Line) → AllByRecursion IsLine (xs ++ ys) → AllByRecursion IsLine xs
front [] ys h = tt
front (x ∷ xs) ys h = (h.0, front xs ys h.1)

range_due : (o : Option Origin) (a : Action) (lo hi : ℕ) → IsLine (line.Private lo hi)
    → step (acted o a) (line.Private lo hi) ≡ Some (ranged (record { origin = o; action = a; private = (lo, hi) }))
range_due o a lo hi h =
    let p = and_parts (lo % 4096 == 0) ((hi % 4096 == 0) && (nat_lt lo hi && nat_le hi high_end)) h.holds in
    let q = and_parts (hi % 4096 == 0) (nat_lt lo hi && nat_le hi high_end) p.1 in
    let r = and_parts (nat_lt lo hi) (nat_le hi high_end) q.1 in
    ap (λ (b : Bool). option_map (λ (w : ℕ × ℕ). ranged (record { origin = o; action = a; private = w })) (cond b (Some (lo, hi)) None)) r.0

-- The lines behind the version lead to the report.
body_run : (o : Option Origin) (b : BodyValue) → IsBody (version_in o) b
    → run (begun o) (body_lines b) ≡ Some (done (record { body = b; origin = o }))
body_run o b h =
    let v : ReportValue = record { body = b; origin = o } in
    let head : Head = record { origin = o; action = b.action; private = b.private } in
    let pages : List Line = map page_line b.pages ++ line.End ∷ [] in
    let rest : List Line = flat_map row_lines b.rows ++ pages in
    let last : run (rowing head b.rows 0) pages ≡ Some (done v) =
    same_end head b.rows b.pages ∙ pages_run head b.rows [] 0 b.pages h.pages
    (front (map page_line b.pages) (line.End ∷ []) (behind (flat_map row_lines b.rows) pages h.lines.1.1.1)) in
    let rows : run (rowing head [] (length b.rows)) rest ≡ Some (done v) =
    rows_run head [] b.rows pages (done v) h.numbers h.sites h.plans (without_pages write_of b.pages (λ p. refl) refl)
    (without_pages pun_of b.pages (λ p. refl) refl) last in
    onward (acted o b.action) (ranged head) (done v) (line.Private b.private.0 b.private.1) (line.Sites (length b.rows) ∷ rest)
    (range_due o b.action b.private.0 b.private.1 h.lines.1.0) rows

-- A report's lines lead to it.
pub report_run : (v : ReportValue) → IsReport v → run fresh (report_lines v) ≡ Some (done v)
report_run v h = by v.origin v.body h.body
  where
    by : (o : Option Origin) (b : BodyValue) → IsBody (version_in o) b
        → run fresh (version_lines o ++ body_lines b) ≡ Some (done (record { body = b; origin = o }))
    by None b k = body_run None b k
    by (Some o) b k = body_run (Some o) b k

-- Each line of a report may stand in one.
pub report_all : (v : ReportValue) → IsReport v → AllByRecursion IsLine (report_lines v)
report_all v h = by v.origin h.origin h.body.lines
  where
    by : (o : Option Origin) → IsOrigin o → AllByRecursion IsLine (body_lines v.body)
        → AllByRecursion IsLine (version_lines o ++ body_lines v.body)
    by None f k = (record { holds = refl; fits = tt }, k)
    by (Some o) f k = (record { holds = refl; fits = tt }, (record { holds = refl; fits = f }, k))

-- The origin and the lines of what was done, where each line may stand in a report.
pub report_parts : (v : ReportValue) → AllByRecursion IsLine (report_lines v)
    → IsOrigin v.origin × AllByRecursion IsLine (body_lines v.body)
report_parts v h = by v.origin h
  where
    by : (o : Option Origin) → AllByRecursion IsLine (version_lines o ++ body_lines v.body)
        → IsOrigin o × AllByRecursion IsLine (body_lines v.body)
    by None k = (tt, k.1)
    by (Some o) k = (k.1.0.fits, k.1.1)
