-- A text is refused exactly as its first refused line is.
use Rattle.std.proofs.Common.{◌≡◌, ℕ, suc, ◌+◌, ◌≤◌, ◌++◌, List, [], ◌∷◌, map, length, Option, Some, None, Result, Ok, Err, Bool, true, false, cond, refl, ap, subst, arith, ◌⊎◌, inl, inr}
use Rattle.std.specs.Prelude.{nat_lt}
use Rattle.std.proofs.lemmas.Bool.{cases_Bool, lt-ltb, le-ltb}
use Rattle.std.proofs.lemmas.Bool.Decides.{nat_tests}
use Rattle.list_text.specs.declared.refusal.ListError.{ListError}
use Rattle.list_text.specs.declared.refusal.ListError.TheVariants.{BadLine, NotAscending, TooMany, Memory}
use Rattle.list_text.specs.Lines.{lines, line_number}
use Rattle.list_text.specs.Lists.{judged, judged_line, judged_number, is_above, with_front, and_later}
use Rattle.list_text.specs.Laws.{IsLow, Breaks, IsRefusal, last_behind, RefusalsAreFirst}
use Rattle.list_text.proofs.ListGrammar.{IsNext, IsRun, next, from_next, run_more, run_first, run_rest, list_from_run, run_from_list}

err_is : {T : Type 0} (d e : ListError) → ◌≡◌ {A = Result T ListError} (Err d) (Err e) → d ≡ e
err_is d e h = cc

no_err : {T : Type 0} (x : T) (e : ListError) → ◌≡◌ {A = Result T ListError} (Ok x) (Err e) → ⊥
no_err x e h = cc

-- A number that isn't above the one before it.
low_is : (before : Option ℕ) (n : ℕ) → is_above before n ≡ false → IsLow before (Some n)
low_is None n h = absurd cc
low_is (Some m) n h = record { low = n; high = m; number_is = refl; before_is = refl; order = grind (arith, nat_tests) }

breaks_low : (limit place n : ℕ) (before : Option ℕ) (error : ListError) (b : Bool) → is_above before n ≡ b → place ≤ limit → cond b (Ok n) (Err (NotAscending place)) ≡ Err error
    → Breaks limit place before (Some n) error
breaks_low limit place n before error true is within h = absurd (no_err n error h)
breaks_low limit place n before error false is within h =
    subst (λ (e : ListError). Breaks limit place before (Some n) e) (err_is (NotAscending place) error h) (refl, within, low_is before n is)

breaks_number : (limit place : ℕ) (before number : Option ℕ) (error : ListError) → place ≤ limit → judged_number place before number ≡ Err error → Breaks limit place before number error
breaks_number limit place before None error within h =
    subst (λ (e : ListError). Breaks limit place before None e) (err_is (BadLine place) error h) (refl, within, refl)
breaks_number limit place before (Some n) error within h = breaks_low limit place n before error (is_above before n) refl within h

breaks : (limit place : ℕ) (before : Option ℕ) (line : List ℕ) (error : ListError) → judged_line limit place before line ≡ Err error → Breaks limit place before (line_number line) error
breaks limit place before line error h = elim (cases_Bool (nat_lt limit place)) [
  | inl over ↦ subst (λ (e : ListError). Breaks limit place before (line_number line) e) (err_is (TooMany limit) error (rw over at h)) (refl, grind (arith, nat_tests))
  | inr under ↦ breaks_number limit place before (line_number line) error (grind (arith, nat_tests)) (rw under at h)
]

refuses : (limit place : ℕ) (before : Option ℕ) (line : List ℕ) (error : ListError) → Breaks limit place before (line_number line) error → judged_line limit place before line ≡ Err error
refuses limit place before line (BadLine at) h = rw (le-ltb limit place h.1) (rw h.2 (rw h.0 refl))
refuses limit place before line (NotAscending at) h =
    rw (le-ltb limit place h.1) (rw h.2.number_is (rw h.2.before_is (rw (le-ltb h.2.high h.2.low h.2.order) (rw h.0 refl))))
refuses limit place before line (TooMany most) h = rw (lt-ltb limit place h.1) (rw h.0 refl)
refuses limit place before line Memory h = absurd h

-- The first refused line of lines that begin at a place and behind a number.
record Stops (limit place : ℕ) (before : Option ℕ) (texts : List (List ℕ)) (error : ListError) : Type 0 where
  front : List (List ℕ)
  line : List ℕ
  later : List (List ℕ)
  numbers : List ℕ
  parts : texts ≡ front ++ line ∷ later
  accepted : IsRun limit place before front numbers
  broken : Breaks limit (place + length numbers) (last_behind before numbers) (line_number line) error

stops_here : (limit place : ℕ) (before : Option ℕ) (text : List ℕ) (texts : List (List ℕ)) (error : ListError) → place ≤ limit + 1 → judged_line limit place before text ≡ Err error → Stops limit place before (text ∷ texts) error
stops_here limit place before text texts error room h =
    let e : place ≡ place + 0 = omega arith in
    record {
      front = [];
      line = text;
      later = texts;
      numbers = [];
      parts = refl;
      accepted = record { spelled = refl; ascending = tt; count = omega arith };
      broken = subst (λ (k : ℕ). Breaks limit k before (line_number text) error) e (breaks limit place before text error h);
    }

stops_later : (limit place n : ℕ) (before : Option ℕ) (text : List ℕ) (texts : List (List ℕ)) (error : ListError) → IsNext limit place before (line_number text) n → Stops limit (place + 1) (Some n) texts error → Stops limit place before (text ∷ texts) error
stops_later limit place n before text texts error first s =
    let ns = s.numbers in
    let e : place + 1 + length ns ≡ place + suc (length ns) = omega arith in
    record {
      front = text ∷ s.front;
      line = s.line;
      later = s.later;
      numbers = n ∷ ns;
      parts = ap (λ ls. text ∷ ls) s.parts;
      accepted = run_more limit place n before text s.front ns first s.accepted;
      broken = subst (λ (k : ℕ). Breaks limit k (last_behind (Some n) ns) (line_number s.line) error) e s.broken;
    }

-- The refusal of lines comes from the first one or from the others.
stopped_at : (first : Result ℕ ListError) (later : ℕ → Result (List ℕ) ListError) (error : ListError) → and_later first later ≡ Err error
    → (first ≡ Err error) ⊎ ((n : ℕ) × (first ≡ Ok n) × (later n ≡ Err error))
stopped_at (Err e) later error h = inl (ap Err (err_is e error h))
stopped_at (Ok n) later error h = inr (n, refl, unfronted n (later n) error h)
  where
    unfronted : (n : ℕ) (r : Result (List ℕ) ListError) (error : ListError) → with_front n r ≡ Err error → r ≡ Err error
    unfronted n (Ok ns) error h = absurd (no_err (n ∷ ns) error h)
    unfronted n (Err e) error h = h

stops : (limit place : ℕ) (before : Option ℕ) (texts : List (List ℕ)) (error : ListError) → place ≤ limit + 1 → judged limit place before texts ≡ Err error → Stops limit place before texts error
stops limit place before [] error room h = absurd (no_err [] error h)
stops limit place before (text ∷ texts) error room h = elim (stopped_at (judged_line limit place before text) (λ n. judged limit (place + 1) (Some n) texts) error h) [
  | inl here ↦ stops_here limit place before text texts error room here
  | inr later ↦
      let first = next limit place later.0 before text later.1 in
      stops_later limit place later.0 before text texts error first (stops limit (place + 1) (Some later.0) texts error (let w : place ≤ limit = first.within in omega arith) later.2)
]

refused_behind : (limit place : ℕ) (before : Option ℕ) (front : List (List ℕ)) (line : List ℕ) (later : List (List ℕ)) (numbers : List ℕ) (error : ListError) → IsRun limit place before front numbers
    → Breaks limit (place + length numbers) (last_behind before numbers) (line_number line) error → judged limit place before (front ++ line ∷ later) ≡ Err error
refused_behind limit place before [] line later [] error run h =
    let e : place + 0 ≡ place = omega arith in
    rw (refuses limit place before line error (subst (λ (k : ℕ). Breaks limit k before (line_number line) error) e h)) refl
refused_behind limit place before [] line later (n ∷ ns) error run h = absurd (let e : [] ≡ Some n ∷ map Some ns = run.spelled in cc)
refused_behind limit place before (text ∷ texts) line later [] error run h = absurd (let e : line_number text ∷ map line_number texts ≡ [] = run.spelled in cc)
refused_behind limit place before (text ∷ texts) line later (n ∷ ns) error run h =
    let e : place + suc (length ns) ≡ place + 1 + length ns = omega arith in
    rw (from_next limit place n before text (run_first limit place n before text texts ns run)) (
    rw (refused_behind limit (place + 1) (Some n) texts line later ns error (run_rest limit place n before text texts ns run) (subst (λ (k : ℕ). Breaks limit k (last_behind (Some n) ns) (line_number line) error) e h)) refl)

from_stops : (limit : ℕ) (texts : List (List ℕ)) (error : ListError) → Stops limit 1 None texts error → IsRefusal limit texts error
from_stops limit texts error s =
    let ns = s.numbers in
    let e : 1 + length ns ≡ length ns + 1 = omega arith in
    record {
      front = s.front;
      line = s.line;
      later = s.later;
      numbers = ns;
      parts = s.parts;
      accepted = list_from_run limit s.front ns s.accepted;
      breaks = subst (λ (k : ℕ). Breaks limit k (last_behind None ns) (line_number s.line) error) e s.broken;
    }

-- A text is refused with an error exactly where its first refused line is refused so.
pub refusals_are_first : RefusalsAreFirst
refusals_are_first limit text error = (
  λ h. from_stops limit (lines text) error (stops limit 1 None (lines text) error (omega arith) h),
  λ r.
      let ns = r.numbers in
      let e : length ns + 1 ≡ 1 + length ns = omega arith in
      rw r.parts (refused_behind limit 1 None r.front r.line r.later ns error (run_from_list limit r.front ns r.accepted)
      (subst (λ (k : ℕ). Breaks limit k (last_behind None ns) (line_number r.line) error) e r.breaks)),
)
