-- A text is read exactly where it is a report's, and is refused at the first line with which no report agrees.
use Rattle.std.proofs.Common.{◌≡◌, ℕ, zero, suc, ◌+◌, ◌-◌, ◌^◌, ◌≤◌, List, [], ◌∷◌, ◌++◌, length, take, drop, Option, Some, None, Result, Ok, Err, refl, ap, sym, subst, ◌∙◌, arith, append_assoc, append-nil, length-append, length-take, ◌⊎◌, inl, inr}
use Rattle.std.specs.Prelude.{option_and_then}
use Rattle.std.specs.List.{AllByRecursion}
use Rattle.std.proofs.lemmas.List.{take-append-drop, nil_from_length}
use Rattle.std.proofs.lemmas.Option.{none-some, same_Some}
use Rattle.pun_base.proofs.JoinedLists.{all_appended}
use Rattle.patch_report.specs.declared.line.Line.{Line}
use Rattle.patch_report.specs.Values.{ReportValue}
use Rattle.patch_report.specs.Spelling.{line_text, lines_text, report_lines, report_text}
use Rattle.patch_report.specs.Grammar.{AgreesTo, IsFirstRefused, IsLine, IsReport}
use Rattle.patch_report.specs.Reading.{At, line_at, next_place, report_in}
use Rattle.patch_report.specs.Laws.{ReportsAreExact}
use Rattle.patch_report.proofs.NextLine.{IsNext, next_is, next_read}
use Rattle.patch_report.proofs.LineAutomaton.{State, fresh, done, step, so_far, Holds, Shape}
use Rattle.patch_report.proofs.LinesSoFar.{step_kept}
use Rattle.patch_report.proofs.AcceptedLines.{run, report_all, report_parts, report_run, front}
use Rattle.patch_report.proofs.Completions.{Completion, completion}
use Rattle.patch_report.proofs.LineTraces.{Trace, accepts, stops, goes, is_done}
use Rattle.patch_report.proofs.ReportTraces.{report_trace}
use Rattle.patch_report.proofs.LineCounts.{lines_few, most_lines}

-- ---- lines and where they lead

-- The place behind so many lines.
abbrev places : ℕ → ℕ → ℕ
places zero place = place
places (suc n) place = places n (next_place place)

places_are : (n place : ℕ) → place + n ≤ 2 ^ 32 - 1 → places n place ≡ place + n
places_are zero place h = omega arith
places_are (suc n) place h =
    let e : next_place place ≡ place + 1 = omega arith in
    ap (places n) e ∙ (places_are n (place + 1) (omega arith) ∙ (let k : place + 1 + n ≡ place + suc n = omega arith in k))

stepped : (s v : State) (x : Line) (xs : List Line) → run s (x ∷ xs) ≡ Some v → (u : State) × (step s x ≡ Some u) × (run u xs ≡ Some v)
stepped s v x xs h = by (step s x) refl h
  where
    by : (o : Option State) → step s x ≡ o → option_and_then (λ (u : State). run u xs) o ≡ Some v
        → (u : State) × (step s x ≡ Some u) × (run u xs ≡ Some v)
    by None e r = absurd cc
    by (Some u) e r = (u, e, r)

-- Lines that lead to a state, and lines that lead on from there, lead to the same end one after the other.
pub run_joined : (s u v : State) (xs ys : List Line) → run s xs ≡ Some u → run u ys ≡ Some v → run s (xs ++ ys) ≡ Some v
run_joined s u v [] ys e r = let p : s ≡ u = cc in subst (λ (w : State). run w ys ≡ Some v) (sym p) r
run_joined s u v (x ∷ xs) ys e r =
    let w = stepped s u x xs e in
    ap (option_and_then (λ (z : State). run z (xs ++ ys))) w.1 ∙ run_joined w.0 u v xs ys w.2 r

run_front : (s v : State) (xs ys : List Line) → run s (xs ++ ys) ≡ Some v → (u : State) × (run s xs ≡ Some u)
run_front s v [] ys h = (s, refl)
run_front s v (x ∷ xs) ys h =
    let w = stepped s v x (xs ++ ys) h in
    let z = run_front w.0 v xs ys w.2 in
    (z.0, ap (option_and_then (λ (u : State). run u xs)) w.1 ∙ z.1)

-- What lines lead to tells them all.
run_kept : (s u : State) (xs : List Line) → Holds s → AllByRecursion IsLine xs → run s xs ≡ Some u → (so_far u ≡ so_far s ++ xs) × Holds u
run_kept s u [] h a e = let p : s ≡ u = cc in (ap so_far (sym p) ∙ sym (append-nil (so_far s)), subst Holds p h)
run_kept s u (x ∷ xs) h a e =
    let w = stepped s u x xs e in
    let k = step_kept s x w.0 h a.0 w.1 in
    let r = run_kept w.0 u xs k.holds a.1 w.2 in
    (r.0 ∙ (ap (λ (l : List Line). l ++ xs) k.lines_are ∙ append_assoc (so_far s) (x ∷ []) xs), r.1)

-- The lines that lead to a report are its lines.
led_is : (xs : List Line) (v : ReportValue) → AllByRecursion IsLine xs → run fresh xs ≡ Some (done v) → (report_lines v ≡ xs) × IsReport v
led_is xs v a e =
    let k = run_kept fresh (done v) xs tt a e in
    let s : Shape v = k.1 in
    let p = report_parts v (subst (AllByRecursion IsLine) (sym k.0) a) in (
      k.0,
      record {
        origin = p.0;
        body = record {
          lines = p.1;
          plans = s.plans;
          numbers = s.numbers;
          sites = s.sites;
          pages =
              s.pages;
        };
      },
    )

-- ---- a text that begins with lines

-- A reading goes through the lines that stand there, where they may come.
follows : (ys : List Line) (r : Result ReportValue ℕ) (s u : State) (at : At) (rest : List ℕ) → AllByRecursion IsLine ys
    → at.text ≡ lines_text ys ++ rest → run s ys ≡ Some u → Trace r s at
    → Trace r u (record { place = places (length ys) at.place; text = rest })
follows [] r s u at rest a t e trace =
    let p : s ≡ u = cc in
    let q : at ≡ record { place = at.place; text = rest } = λ i. record { place = at.place; text = t i } in
    subst (λ (w : At). Trace r u w) q (subst (λ (w : State). Trace r w at) p trace)
follows (y ∷ ys) r s u at rest a t e trace = by trace (follows ys r w.0 u after rest a.1 refl w.2)
  where
    w : (v : State) × (step s y ≡ Some v) × (run v ys ≡ Some u)
    w = stepped s u y ys e

    after : At
    after = record { place = next_place at.place; text = lines_text ys ++ rest }

    there : line_at at ≡ Some (y, after)
    there =
        let p : at.text ≡ line_text y ++ 10 ∷ (lines_text ys ++ rest) = t ∙ append_assoc (line_text y) (10 ∷ lines_text ys) rest in
        let q : at ≡ record { place = at.place; text = line_text y ++ 10 ∷ (lines_text ys ++ rest) } = λ i.
        record { place = at.place; text = p i } in
        ap line_at q ∙ next_read y a.0 at.place (lines_text ys ++ rest)

    by : Trace r s at → (Trace r w.0 after → Trace r u (record { place = places (length ys) (next_place at.place); text = rest }))
        → Trace r u (record { place = places (length ys) (next_place at.place); text = rest })
    by (accepts v q l o) later = absurd (none-some w.0 (sym (ap (λ (z : State). step z y) q) ∙ w.1))
    by (stops f o) later = absurd (none-some w.0 (sym (f.next y after there) ∙ w.1))
    by (goes x b v m q trace) later =
        let p : ◌≡◌ {A = Line × At} (x, b) (y, after) = same_Some (x, b) (y, after) (sym m ∙ there) in
        let z : v ≡ w.0 = same_Some v w.0 (sym q ∙ (ap (step s) (ap (λ (c : Line × At). c.0) p) ∙ w.1)) in
        later (subst (λ (c : At). Trace r w.0 c) (ap (λ (c : Line × At). c.1) p) (subst (λ (c : State). Trace r c b) z trace))

-- At the end of a report nothing but it is read.
at_end : (r : Result ReportValue ℕ) (s : State) (at : At) (v : ReportValue) → s ≡ done v → length at.text ≡ 0 → Trace r s at → r ≡ Ok v
at_end r s at v e z (accepts w q l o) = o ∙ ap Ok (let p : w ≡ v = same_report w v (sym q ∙ e) in p)
  where
    same_report : (a b : ReportValue) → done a ≡ done b → a ≡ b
    same_report a b h = cc
at_end r s at v e z (stops f o) = absurd (f.over (ap is_done e) z)
at_end r s at v e z (goes x b u m q t) = absurd (none-some u (sym (ap (λ (w : State). step w x) e) ∙ q))

-- A report's text is read as that report.
pub read_is : (text : List ℕ) (v : ReportValue) → IsReport v → text ≡ report_text v → report_in text ≡ Ok v
read_is text v h t =
    at_end (report_in text) (done v) (record { place = places (length (report_lines v)) 1; text = [] }) v refl refl
    (follows (report_lines v) (report_in text) fresh (done v) (record { place = 1; text = text }) [] (report_all v h)
    (t ∙ sym (append-nil (report_text v)))
    (report_run v h) (report_trace (record { place = 1; text = text })))

-- ---- where a reading ends

-- The lines that were read, and where that ended.
record Led (r : Result ReportValue ℕ) (s : State) (at : At) : Type 0 where
  lines : List Line
  all : AllByRecursion IsLine lines
  end : State
  runs : run s lines ≡ Some end
  last : At
  text : at.text ≡ lines_text lines ++ last.text
  place : last.place ≡ places (length lines) at.place
  answer : ((v : ReportValue) × (end ≡ done v) × (length last.text ≡ 0) × (r ≡ Ok v)) ⊎ (r ≡ Err last.place)

led : (r : Result ReportValue ℕ) (s : State) (at : At) → Trace r s at → Led r s at
led r s at (accepts v q l o) = record {
  lines = [];
  all = tt;
  end = s;
  runs = refl;
  last = at;
  text = refl;
  place = refl;
  answer =
      inl (v, q, l, o);
}
led r s at (stops f o) = record { lines = []; all = tt; end = s; runs = refl; last = at; text = refl; place = refl; answer = inr o }
led r s at (goes x b u m q t) =
    let k : Led r u b = led r u b t in
    let n : IsNext at x b = next_is at x b m in
    record {
      lines = x ∷ k.lines;
      all = (n.line, k.all);
      end = k.end;
      runs = ap (option_and_then (λ (w : State). run w k.lines)) q ∙ k.runs;
      last = k.last;
      text = n.text ∙ (ap (λ (l : List ℕ). line_text x ++ 10 ∷ l) k.text
          ∙ sym (append_assoc (line_text x) (10 ∷ lines_text k.lines) k.last.text));
      place = k.place ∙ ap (places (length k.lines)) n.place;
      answer = k.answer;
    }

-- A report is no refusal.
pub ok_err : (v : ReportValue) (n : ℕ) → ◌≡◌ {A = Result ReportValue ℕ} (Ok v) (Err n) → ⊥
ok_err v n e = absurd cc

-- Two answers that are the same have the same report.
pub ok_is : (v w : ReportValue) → ◌≡◌ {A = Result ReportValue ℕ} (Ok v) (Ok w) → v ≡ w
ok_is v w e = cc

-- Two refusals that are the same tell the same line.
pub err_is : (m n : ℕ) → ◌≡◌ {A = Result ReportValue ℕ} (Err m) (Err n) → m ≡ n
err_is m n e = cc

-- What is read is a report, and the text is its text.
pub is_read : (text : List ℕ) (v : ReportValue) → report_in text ≡ Ok v → IsReport v × (text ≡ report_text v)
is_read text v e = by k.answer
  where
    k : Led (report_in text) fresh (record { place = 1; text = text })
    k = led (report_in text) fresh (record { place = 1; text = text }) (report_trace (record { place = 1; text = text }))

    by : ((w : ReportValue) × (k.end ≡ done w) × (length k.last.text ≡ 0) × (report_in text ≡ Ok w)) ⊎ (report_in text ≡ Err k.last.place)
        → IsReport v × (text ≡ report_text v)
    by (inl a) =
        let p : a.0 ≡ v = ok_is a.0 v (sym a.3 ∙ e) in
        let l = led_is k.lines v k.all (k.runs ∙ ap Some (a.1 ∙ ap done p)) in
        (l.1, k.text ∙ ((λ i. lines_text (sym l.0 i) ++ nil_from_length k.last.text a.2 i) ∙ append-nil (report_text v)))
    by (inr o) = absurd (ok_err v k.last.place (sym e ∙ o))

-- A text is read as a report exactly where it is that report's text.
pub reports_are_exact : ReportsAreExact
reports_are_exact text v = (is_read text v, λ w. read_is text v w.0 w.1)

-- ---- the first refused line

-- A reading ends no earlier than where it stands.
ends_behind : (r : Result ReportValue ℕ) (s : State) (at : At) (n : ℕ) → at.place ≤ 2 ^ 32 - 1 → r ≡ Err n → Trace r s at → at.place ≤ n
ends_behind r s at n h e (accepts v q l o) = absurd (ok_err v n (sym o ∙ e))
ends_behind r s at n h e (stops f o) = let p : at.place ≡ n = err_is at.place n (sym o ∙ e) in omega arith
ends_behind r s at n h e (goes x b u m q t) =
    let p : b.place ≡ next_place at.place = (next_is at x b m).place in
    let k : b.place ≤ n = ends_behind r u b n (omega arith) e t in
    omega arith

taken_front : (n : ℕ) (xs : List Line) → AllByRecursion IsLine xs → AllByRecursion IsLine (take n xs)
taken_front n xs h = front (take n xs) (drop n xs) (subst (AllByRecursion IsLine) (sym (take-append-drop n xs)) h)

-- Where a text is refused at a line, no report agrees with it up to that line.
pub none_agrees : (text : List ℕ) (n : ℕ) (v : ReportValue) → report_in text ≡ Err n → IsReport v → AgreesTo n v text → ⊥
none_agrees text n v e h a =
    let xs : List Line = report_lines v in
    let k = run_front fresh (done v) (take n xs) (drop n xs) (ap (run fresh) (take-append-drop n xs) ∙ report_run v h) in
    let m : length (take n xs) ≡ n = (let z : n ≤ length xs = a.enough in omega (arith, length-take n xs)) in
    let few : length xs ≤ most_lines = lines_few v h in
    let enough : n ≤ length xs = a.enough in
    let p : places (length (take n xs)) 1 ≡ 1 + n = ap (λ (l : ℕ). places l 1) m ∙ places_are n 1 (omega arith) in
    let t = follows (take n xs) (report_in text) fresh k.0 (record { place = 1; text = text }) a.rest
    (taken_front n xs (report_all v h)) a.front k.1
    (report_trace (record { place = 1; text = text })) in
    let b : places (length (take n xs)) 1 ≤ n = ends_behind (report_in text) k.0
    (record { place = places (length (take n xs)) 1; text = a.rest }) n (omega arith) e t in
    omega arith

-- The front of two lists joined, as long as the first, is the first.
pub taken : (xs ys : List Line) → take (length xs) (xs ++ ys) ≡ xs
taken [] ys = refl
taken (x ∷ xs) ys = ap (λ (l : List Line). x ∷ l) (taken xs ys)

some_agrees : (text : List ℕ) (n : ℕ) → report_in text ≡ Err n → (v : ReportValue) × IsReport v × AgreesTo (n - 1) v text
some_agrees text n e = by k.answer
  where
    k : Led (report_in text) fresh (record { place = 1; text = text })
    k = led (report_in text) fresh (record { place = 1; text = text }) (report_trace (record { place = 1; text = text }))

    by : ((w : ReportValue) × (k.end ≡ done w) × (length k.last.text ≡ 0) × (report_in text ≡ Ok w)) ⊎ (report_in text ≡ Err k.last.place)
        → (v : ReportValue) × IsReport v × AgreesTo (n - 1) v text
    by (inl a) = absurd (ok_err a.0 n (sym a.3 ∙ e))
    by (inr o) =
        let c : Completion k.end = completion k.end (run_kept fresh k.end k.lines tt k.all k.runs).1 in
        let l = led_is (k.lines ++ c.lines) c.report (all_appended IsLine k.lines c.lines k.all c.all)
        (run_joined fresh k.end (done c.report) k.lines c.lines k.runs c.runs) in
        let few : length (report_lines c.report) ≤ most_lines = lines_few c.report l.1 in
        let size : length (report_lines c.report) ≡ length k.lines + length c.lines = ap (λ (x : List Line). length x) l.0
        ∙ length-append k.lines c.lines in
        let p : k.last.place ≡ 1 + length k.lines = k.place ∙ places_are (length k.lines) 1 (omega arith) in
        let q : k.last.place ≡ n = err_is k.last.place n (sym o ∙ e) in
        let m : n - 1 ≡ length k.lines = omega arith in (
          c.report,
          l.1,
          record {
            rest = k.last.text;
            enough = omega arith;
            front = k.text ∙ ap (λ (x : List Line). lines_text x ++ k.last.text) (sym ((λ i. take (m i) (l.0 i)) ∙ taken k.lines c.lines));
          },
        )

err_ok : (v : ReportValue) (n : ℕ) (r : Result ReportValue ℕ) → r ≡ Err n → r ≡ Ok v → ⊥
err_ok v n r e f = ok_err v n (sym f ∙ e)

-- The line at which a text is refused is the first with which no report agrees.
pub refused_first : (text : List ℕ) (n : ℕ) → report_in text ≡ Err n → IsFirstRefused n text
refused_first text n e = record {
  other = λ v h t. err_ok v n (report_in text) e (read_is text v h t);
  none = λ v h a. none_agrees text n v e h a;
  least = some_agrees text n e;
}
