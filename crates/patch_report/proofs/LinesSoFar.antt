-- A line that may come next is one more of the lines so far, which go on being a report's.
use Rattle.std.proofs.Common.{◌≡◌, ℕ, zero, suc, ◌+◌, ◌<◌, ◌≤◌, ◌%◌, Bool, true, false, cond, List, [], ◌∷◌, ◌++◌, length, map, Some, None, option_map, refl, ap, sym, subst, ◌∙◌, arith, append_assoc, append-nil, length-append, inl, inr}
use Rattle.std.specs.Prelude.{◌==◌, nat_lt, nat_le}
use Rattle.std.specs.List.{flat_map}
use Rattle.std.proofs.lemmas.Bool.{and_parts, ltb-true}
use Rattle.std.proofs.lemmas.Bool.Decides.{nat_tests}
use Rattle.std.proofs.lemmas.Grind.{flat_map-append}
use Rattle.std.proofs.lemmas.List.{map_push}
use Rattle.pun_base.specs.declared.scheme.Scheme.{Scheme}
use Rattle.pun_base.specs.declared.scheme.Scheme.TheVariants.{B1, B2, T1, T2, T3}
use Rattle.pun_base.specs.declared.tramp.Tramp.{Tramp}
use Rattle.pun_base.specs.declared.pun.Pun.{Pun}
use Rattle.pun_base.specs.Limits.{most_sites}
use Rattle.patch_report.specs.declared.origin.Origin.{Origin}
use Rattle.patch_report.specs.declared.origin.Version.{Version}
use Rattle.patch_report.specs.declared.origin.Version.TheVariants.{One, Two}
use Rattle.patch_report.specs.declared.line.Line.{Line}
use Rattle.patch_report.specs.declared.line.Line.TheVariants as line
use Rattle.patch_report.specs.declared.line.Mark.{Mark}
use Rattle.patch_report.specs.declared.line.Mark.TheVariants as mark
use Rattle.patch_report.specs.Values.{RowValue, Immovable, Unplanned, Shared, OutcomeValue, patched, left, version_in, WriteValue}
use Rattle.patch_report.specs.Spelling.{page_line, plan_lines, row_lines, version_lines, write_line}
use Rattle.patch_report.specs.Grammar.{AscendFrom, CountsDown, high_end, is_new, is_told, IsLine, OutcomeCounts, PlanCounts, RowCounts, SitesApart, tramp_count}
use Rattle.patch_report.specs.Reading.{action_of, count_of, end_of, next_place, origin_of, page_from, private_of, pun_of, site_of, tramp_of, version_of, write_of}
use Rattle.list_text.proofs.WordParts.{all_appended}
use Rattle.patch_report.proofs.LineAutomaton.{Head, Turn, State, fresh, versioned, begun, acted, ranged, rowing, tramping, writing, punning, paging, done, plan, row, rows_with, report, page_step, begun_as, turn, row_step, if_room, pun_step, write_step, tramped, first, step, head_lines, rows_lines, turn_lines, so_far, CountsTo, RowsHold, TurnHolds, Holds, Grows, mapped, either, kept, version_is, origin_is, action_is, private_is, count_is, site_is, tramp_is, write_is, pun_is, page_is, end_is}

-- ---- lists with one more

counts_more : (n : ℕ) (rows : List RowValue) (r : RowValue) → CountsTo (suc n) rows → r.number ≡ n → CountsTo n (rows ++ r ∷ [])
counts_more n [] r h e = (omega arith, tt)
counts_more n (q ∷ qs) r h e =
    let k : q.number ≡ length qs + suc n = h.0 in
    ((omega (arith, length-append qs (r ∷ []))), counts_more n qs r h.1 e)

-- Numbers that run down to 0 still due count down.
pub counts_down : (rows : List RowValue) → CountsTo 0 rows → CountsDown rows
counts_down [] h = tt
counts_down (q ∷ qs) h = (let k : q.number ≡ length qs + 0 = h.0 in omega arith, counts_down qs h.1)

apart_more : (before rows : List RowValue) (r : RowValue) → SitesApart before rows → is_new r.site (before ++ rows) ≡ true
    → SitesApart before (rows ++ r ∷ [])
apart_more before [] r h e = (subst (λ (l : List RowValue). is_new r.site l ≡ true) (append-nil before) e, tt)
apart_more before (q ∷ qs) r h e = (
  h.0,
  apart_more (before ++ q ∷ []) qs r h.1 (subst (λ (l : List RowValue). is_new r.site l ≡ true)
      (sym (append_assoc before (q ∷ []) qs)) e),
)

-- Rows with one more that is complete.
pub rows_more : (t : Turn) (o : OutcomeValue) → TurnHolds t → OutcomeCounts (version_in t.head.origin) o
    → RowsHold t.head (rows_with t o) t.due
rows_more t o h c = record {
  room = omega (arith, length-append t.rows (row t o ∷ []), h.before.room);
  plans = all_appended (RowCounts (version_in t.head.origin)) t.rows (row t o ∷ []) h.before.plans (c, tt);
  numbers = counts_more t.due t.rows (row t o) h.before.numbers refl;
  sites = apart_more [] t.rows (row t o) h.before.sites h.new;
}

-- The lines of rows with one more.
pub lines_more : (h : Head) (rows : List RowValue) (r : RowValue) (n : ℕ)
    → rows_lines h (rows ++ r ∷ []) n ≡ rows_lines h rows (suc n) ++ row_lines r
lines_more h rows r n =
    let e : length (rows ++ r ∷ []) + n ≡ length rows + suc n = omega (arith, length-append rows (r ∷ [])) in
    let f : flat_map row_lines (rows ++ r ∷ []) ≡ flat_map row_lines rows ++ row_lines r =
    flat_map-append row_lines rows (r ∷ []) ∙ ap (λ (l : List Line). flat_map row_lines rows ++ l) (append-nil (row_lines r)) in
    (λ i. head_lines h (e i) ++ f i) ∙ sym (append_assoc (head_lines h (length rows + suc n)) (flat_map row_lines rows) (row_lines r))

turn_more : (t : Turn) (s : Scheme) (before after : List Line) (x : Line) → after ≡ before ++ x ∷ []
    → turn_lines t s after ≡ turn_lines t s before ++ x ∷ []
turn_more t s before after x e =
    ap (turn_lines t s) e ∙ sym (append_assoc (rows_lines t.head t.rows (suc t.due)) (line.Site t.site t.due (mark.Patched s) ∷ before)
    (x ∷ []))

plan_tramp : (s : Scheme) (ts : List Tramp) (t : Tramp) → plan_lines (plan s (ts ++ t ∷ []) [] [])
    ≡ plan_lines (plan s ts [] []) ++ line.Tramp t ∷ []
plan_tramp s ts t =
    append-nil (map line.Tramp (ts ++ t ∷ [])) ∙ (map_push line.Tramp ts t
    ∙ ap (λ (l : List Line). l ++ line.Tramp t ∷ []) (sym (append-nil (map line.Tramp ts))))

plan_write : (s : Scheme) (ts : List Tramp) (ws : List WriteValue) (w : WriteValue)
    → plan_lines (plan s ts (ws ++ w ∷ []) []) ≡ plan_lines (plan s ts ws []) ++ write_line w ∷ []
plan_write s ts ws w =
    ap (λ (l : List Line). map line.Tramp ts ++ l) (append-nil (map write_line (ws ++ w ∷ [])) ∙ (map_push write_line ws w
    ∙ ap (λ (l : List Line). l ++ write_line w ∷ []) (sym (append-nil (map write_line ws)))))
    ∙ sym (append_assoc (map line.Tramp ts) (map write_line ws ++ []) (write_line w ∷ []))

plan_pun : (s : Scheme) (ts : List Tramp) (ws : List WriteValue) (ps : List Pun) (p : Pun)
    → plan_lines (plan s ts ws (ps ++ p ∷ [])) ≡ plan_lines (plan s ts ws ps) ++ line.Pun p ∷ []
plan_pun s ts ws ps p =
    ap (λ (l : List Line). map line.Tramp ts ++ (map write_line ws ++ l)) (map_push line.Pun ps p)
    ∙ (ap (λ (l : List Line). map line.Tramp ts ++ l) (sym (append_assoc (map write_line ws) (map line.Pun ps) (line.Pun p ∷ [])))
    ∙ sym (append_assoc (map line.Tramp ts) (map write_line ws ++ map line.Pun ps) (line.Pun p ∷ [])))

-- ---- one line more

-- It is enough to show growth by the line that it is, and the state that it leads to.
grows : (lines : List Line) (x y : Line) (s u : State) → x ≡ y → s ≡ u → so_far s ≡ lines ++ y ∷ [] → Holds s → Grows lines x u
grows lines x y s u e f l h =
    subst (Grows lines x) f (record { lines_are = l ∙ ap (λ (z : Line). lines ++ z ∷ []) (sym e); holds = h })

-- A page's address and one stay below the bound that counts of lines have.
pub page_small : (page group : ℕ) → IsLine (line.Page page group) → next_place page ≡ page + 1
page_small page group h =
    let p = and_parts (page % 4096 == 0) (nat_lt page high_end) h.holds in
    let l : page < high_end = ltb-true page high_end p.1 in
    omega arith

ascends_on : (pages : List (ℕ × ℕ)) (low : ℕ) (p : ℕ × ℕ) → low ≤ p.0
    → ((qs : List (ℕ × ℕ)) → AscendFrom low qs → AscendFrom 0 (pages ++ qs))
    → (qs : List (ℕ × ℕ)) → AscendFrom (p.0 + 1) qs → AscendFrom 0 ((pages ++ p ∷ []) ++ qs)
ascends_on pages low p l h qs a = subst (AscendFrom 0) (sym (append_assoc pages (p ∷ []) qs)) (h (p ∷ qs) (l, a))

-- A page's line or the end, behind rows and pages, is one more of the lines so far.
pub page_kept : (h : Head) (rows : List RowValue) (pages : List (ℕ × ℕ)) (low : ℕ) (x : Line) (u : State) → Holds (paging h rows pages low)
    → IsLine x
    → page_step h rows pages low x ≡ Some u → Grows (so_far (paging h rows pages low)) x u
page_kept h rows pages low x u k is e =
    elim (either (option_map (λ (p : ℕ × ℕ). paging h rows (pages ++ p ∷ []) (next_place p.0)) (page_from low x))
    (option_map (λ (z : Unit {0}). done (report h rows pages)) (end_of x)) u e) [
      | inl f ↦
          let m = mapped (λ (p : ℕ × ℕ). paging h rows (pages ++ p ∷ []) (next_place p.0)) (page_from low x) u f in
          let p = m.0 in
          let q = page_is low x p m.1 in
          let n : next_place p.0 ≡ p.0 + 1 = page_small p.0 p.1 (subst IsLine q.0 is) in
          grows (so_far (paging h rows pages low)) x (page_line p) (paging h rows (pages ++ p ∷ []) (next_place p.0)) u q.0 m.2
          (ap (λ (l : List Line). rows_lines h rows 0 ++ l) (map_push page_line pages p)
          ∙ sym (append_assoc (rows_lines h rows 0) (map page_line pages) (page_line p ∷ []))) (
            k.0,
            subst (λ (b : ℕ). (qs : List (ℕ × ℕ)) → AscendFrom b qs → AscendFrom 0 ((pages ++ p ∷ []) ++ qs)) (sym n)
                (ascends_on pages low p q.1 k.1),
          )
      | inr f ↦
          let m = mapped (λ (z : Unit {0}). done (report h rows pages)) (end_of x) u f in
          let z : length rows + 0 ≡ length rows = omega arith in
          grows (so_far (paging h rows pages low)) x line.End (done (report h rows pages)) u (end_is x m.0 m.1) m.2
          (sym (append_assoc (version_lines h.origin)
          (line.Action h.action ∷ line.Private h.private.0 h.private.1 ∷ line.Sites (length rows) ∷ [])
          (flat_map row_lines rows ++ (map page_line pages ++ line.End ∷ [])))
          ∙ ((λ i. head_lines h (sym z i) ++ (flat_map row_lines rows ++ (map page_line pages ++ line.End ∷ [])))
          ∙ (sym (append_assoc (rows_lines h rows 0) (map page_line pages) (line.End ∷ [])
          ∙ append_assoc (head_lines h (length rows + 0)) (flat_map row_lines rows) (map page_line pages ++ line.End ∷ [])))))
          (record {
            plans = k.0.plans;
            numbers = counts_down rows k.0.numbers;
            sites = k.0.sites;
            pages =
                subst (AscendFrom 0) (append-nil pages) (k.1 [] tt);
          })
    ]

-- Each scheme has a trampoline.
pub tramps_some : (s : Scheme) → 0 < tramp_count s
tramps_some B1 = omega arith
tramps_some B2 = omega arith
tramps_some T1 = omega arith
tramps_some T2 = omega arith
tramps_some T3 = omega arith

begun_kept : (t : Turn) (m : Mark) (x : Line) (u : State) → TurnHolds t → is_told m (version_in t.head.origin) ≡ true
    → x ≡ line.Site t.site t.due m → begun_as t m ≡ u → Grows (rows_lines t.head t.rows (suc t.due)) x u
begun_kept t (mark.Patched s) x u h told e f =
    grows (rows_lines t.head t.rows (suc t.due)) x (line.Site t.site t.due (mark.Patched s)) (tramping t s []) u e f refl (h, tramps_some s)
begun_kept t mark.NotRelocatable x u h told e f =
    grows (rows_lines t.head t.rows (suc t.due)) x (line.Site t.site t.due mark.NotRelocatable)
    (rowing t.head (rows_with t (left Immovable)) t.due) u e f
    (lines_more t.head t.rows (row t (left Immovable)) t.due) (rows_more t (left Immovable) h told)
begun_kept t mark.NoPlan x u h told e f =
    grows (rows_lines t.head t.rows (suc t.due)) x (line.Site t.site t.due mark.NoPlan)
    (rowing t.head (rows_with t (left Unplanned)) t.due) u e f
    (lines_more t.head t.rows (row t (left Unplanned)) t.due) (rows_more t (left Unplanned) h told)
begun_kept t mark.Shared x u h told e f =
    grows (rows_lines t.head t.rows (suc t.due)) x (line.Site t.site t.due mark.Shared)
    (rowing t.head (rows_with t (left Shared)) t.due) u e f
    (lines_more t.head t.rows (row t (left Shared)) t.due) (rows_more t (left Shared) h told)

-- So is a line that may come behind rows.
pub row_kept : (h : Head) (rows : List RowValue) (due : ℕ) (x : Line) (u : State) → RowsHold h rows due → IsLine x
    → row_step h rows due x ≡ Some u → Grows (rows_lines h rows due) x u
row_kept h rows zero x u k is e =
    subst (λ (l : List Line). Grows l x u) (append-nil (rows_lines h rows 0)) (page_kept h rows [] 0 x u (k, λ qs a. a) is e)
row_kept h rows (suc n) x u k is e =
    let m = mapped (λ (s : ℕ × Mark). begun_as (turn h rows n s.0) s.1) (site_of (version_in h.origin) n rows x) u e in
    let s = site_is (version_in h.origin) n rows x m.0 m.1 in
    begun_kept (turn h rows n m.0.0) m.0.1 x u (record { before = k; new = s.1 }) s.2 s.0 m.2

-- The lines of a row that is complete.
pub turned : (t : Turn) (s : Scheme) (ts : List Tramp) (ws : List WriteValue) (ps : List Pun)
    → rows_lines t.head (rows_with t (patched (plan s ts ws ps))) t.due ≡ so_far (punning t s ts ws ps)
turned t s ts ws ps = lines_more t.head t.rows (row t (patched (plan s ts ws ps))) t.due

-- So is a line that may come behind punned bytes.
pub pun_kept : (t : Turn) (s : Scheme) (ts : List Tramp) (ws : List WriteValue) (ps : List Pun) (x : Line) (u : State)
    → TurnHolds t → PlanCounts (plan s ts ws ps) → IsLine x → pun_step t s ts ws ps x ≡ Some u → Grows (so_far (punning t s ts ws ps)) x u
pun_kept t s ts ws ps x u h c is e =
    elim (either (option_map (λ (p : Pun). punning t s ts ws (ps ++ p ∷ [])) (if_room (length ps) (pun_of x)))
    (row_step t.head (rows_with t (patched (plan s ts ws ps))) t.due x) u e) [
      | inl f ↦
          let m = mapped (λ (p : Pun). punning t s ts ws (ps ++ p ∷ [])) (if_room (length ps) (pun_of x)) u f in
          let k = kept (nat_lt (length ps) 3) (pun_of x) m.0 m.1 in
          let room : length ps < 3 = ltb-true (length ps) 3 k.0 in
          grows (so_far (punning t s ts ws ps)) x (line.Pun m.0) (punning t s ts ws (ps ++ m.0 ∷ [])) u (pun_is x m.0 k.1) m.2
          (turn_more t s (plan_lines (plan s ts ws ps)) (plan_lines (plan s ts ws (ps ++ m.0 ∷ []))) (line.Pun m.0)
          (plan_pun s ts ws ps m.0))
          (h, record { tramps = c.tramps; least = c.least; writes = c.writes; puns = omega (arith, length-append ps (m.0 ∷ [])) })
      | inr f ↦
          subst (λ (l : List Line). Grows l x u) (turned t s ts ws ps)
          (row_kept t.head (rows_with t (patched (plan s ts ws ps))) t.due x u (rows_more t (patched (plan s ts ws ps)) h c) is f)
    ]

-- So is a line that may come behind writes.
pub write_kept : (t : Turn) (s : Scheme) (ts : List Tramp) (ws : List WriteValue) (x : Line) (u : State) → Holds (writing t s ts ws)
    → IsLine x
    → write_step t s ts ws x ≡ Some u → Grows (so_far (writing t s ts ws)) x u
write_kept t s ts ws x u h is e =
    elim (either (option_map (λ (w : WriteValue). writing t s ts (ws ++ w ∷ [])) (if_room (length ws) (write_of x)))
    (cond (nat_lt 0 (length ws)) (pun_step t s ts ws [] x) None) u e) [
      | inl f ↦
          let m = mapped (λ (w : WriteValue). writing t s ts (ws ++ w ∷ [])) (if_room (length ws) (write_of x)) u f in
          let k = kept (nat_lt (length ws) 3) (write_of x) m.0 m.1 in
          let room : length ws < 3 = ltb-true (length ws) 3 k.0 in
          grows (so_far (writing t s ts ws)) x (write_line m.0) (writing t s ts (ws ++ m.0 ∷ [])) u (write_is x m.0 k.1) m.2
          (turn_more t s (plan_lines (plan s ts ws [])) (plan_lines (plan s ts (ws ++ m.0 ∷ []) [])) (write_line m.0)
          (plan_write s ts ws m.0))
          (h.0, h.1, omega (arith, length-append ws (m.0 ∷ [])))
      | inr f ↦
          let k = kept (nat_lt 0 (length ws)) (pun_step t s ts ws [] x) u f in
          let some : 0 < length ws = ltb-true 0 (length ws) k.0 in
          pun_kept t s ts ws [] x u h.0 (record { tramps = h.1; least = omega arith; writes = h.2; puns = omega arith }) is k.1
    ]

tramped_kept : (b : Bool) (t : Turn) (s : Scheme) (ts : List Tramp) (lines : List Line) (x : Line) (u : State)
    → (length ts == tramp_count s) ≡ b
    → TurnHolds t → length ts ≤ tramp_count s → turn_lines t s (plan_lines (plan s ts [] [])) ≡ lines ++ x ∷ []
    → cond b (writing t s ts []) (tramping t s ts) ≡ u → Grows lines x u
tramped_kept true t s ts lines x u b h le l e =
    let is : length ts ≡ tramp_count s = grind (arith, nat_tests) in
    grows lines x x (writing t s ts []) u refl e l (h, is, omega arith)
tramped_kept false t s ts lines x u b h le l e =
    let is : length ts < tramp_count s = grind (arith, nat_tests) in
    grows lines x x (tramping t s ts) u refl e l (h, is)

-- So is a line that may come where a trampoline is due.
pub tramp_kept : (t : Turn) (s : Scheme) (ts : List Tramp) (x : Line) (u : State) → Holds (tramping t s ts) → IsLine x
    → step (tramping t s ts) x ≡ Some u → Grows (so_far (tramping t s ts)) x u
tramp_kept t s ts x u h is e =
    let m = mapped (λ (p : Tramp). tramped t s (ts ++ p ∷ [])) (tramp_of x) u e in
    let l : turn_lines t s (plan_lines (plan s (ts ++ m.0 ∷ []) [] [])) ≡ so_far (tramping t s ts) ++ x ∷ [] =
    turn_more t s (plan_lines (plan s ts [] [])) (plan_lines (plan s (ts ++ m.0 ∷ []) [] [])) (line.Tramp m.0) (plan_tramp s ts m.0)
    ∙ ap (λ (z : Line). so_far (tramping t s ts) ++ z ∷ []) (sym (tramp_is x m.0 m.1)) in
    let le : length ts < tramp_count s = h.1 in
    tramped_kept (length (ts ++ m.0 ∷ []) == tramp_count s) t s (ts ++ m.0 ∷ []) (so_far (tramping t s ts)) x u refl h.0
    (omega (arith, length-append ts (m.0 ∷ []))) l m.2

-- A count of sites that passes its test is at most 65,536.
pub few : (n : ℕ) → nat_le n most_sites ≡ true → n ≤ most_sites
few n h = grind (arith, nat_tests)

-- The first line tells a version.
first_kept : (v : Version) (x : Line) (u : State) → x ≡ line.Version v → first v ≡ u → Grows [] x u
first_kept One x u e f = grows [] x (line.Version One) (begun None) u e f refl tt
first_kept Two x u e f = grows [] x (line.Version Two) versioned u e f refl tt

-- A line that may come next is one more of the lines so far.
pub step_kept : (s : State) (x : Line) (u : State) → Holds s → IsLine x → step s x ≡ Some u → Grows (so_far s) x u
step_kept fresh x u h is e =
    let m = mapped first (version_of x) u e in
    first_kept m.0 x u (version_is x m.0 m.1) m.2
step_kept versioned x u h is e =
    let m = mapped (λ (o : Origin). begun (Some o)) (origin_of x) u e in
    grows (so_far versioned) x (line.Origin m.0) (begun (Some m.0)) u (origin_is x m.0 m.1) m.2 refl tt
step_kept (begun o) x u h is e =
    let m = mapped (acted o) (action_of x) u e in
    grows (so_far (begun o)) x (line.Action m.0) (acted o m.0) u (action_is x m.0 m.1) m.2 refl tt
step_kept (acted o a) x u h is e =
    let m = mapped (λ (p : ℕ × ℕ). ranged (record { origin = o; action = a; private = p })) (private_of x) u e in
    grows (so_far (acted o a)) x (line.Private m.0.0 m.0.1) (ranged (record { origin = o; action = a; private = m.0 })) u
    (private_is x m.0 m.1) m.2 (sym (append_assoc (version_lines o) (line.Action a ∷ []) (line.Private m.0.0 m.0.1 ∷ []))) tt
step_kept (ranged h) x u k is e =
    let m = mapped (λ (n : ℕ). rowing h [] n) (count_of x) u e in
    let q : x ≡ line.Sites m.0 = count_is x m.0 m.1 in
    let l : m.0 ≤ most_sites = few m.0 (subst IsLine q is).holds in
    let z : 0 + m.0 ≡ m.0 = omega arith in
    grows (so_far (ranged h)) x (line.Sites m.0) (rowing h [] m.0) u q m.2
    (append-nil (head_lines h (0 + m.0)) ∙ (ap (head_lines h) z ∙ sym (append_assoc (version_lines h.origin)
    (line.Action h.action ∷ line.Private h.private.0 h.private.1 ∷ []) (line.Sites m.0 ∷ []))))
    (record { room = omega arith; plans = tt; numbers = tt; sites = tt })
step_kept (rowing h rows due) x u k is e = row_kept h rows due x u k is e
step_kept (tramping t s ts) x u k is e = tramp_kept t s ts x u k is e
step_kept (writing t s ts ws) x u k is e = write_kept t s ts ws x u k is e
step_kept (punning t s ts ws ps) x u k is e = pun_kept t s ts ws ps x u k.0 k.1 is e
step_kept (paging h rows pages low) x u k is e = page_kept h rows pages low x u k is e
step_kept (done v) x u k is e = absurd cc
