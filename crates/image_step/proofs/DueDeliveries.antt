-- A runner that goes on from one delivery that is due to the next.
use Rattle.std.proofs.Common.{◌≡◌, ℕ, suc, ◌+◌, ◌<◌, ◌≤◌, true, List, [], ◌∷◌, ◌++◌, length, get_or, drop, take, Option, Some, None, Ok, Err, refl, ap, sym, subst, ◌∙◌, arith, append-nil, append_assoc}
use Rattle.std.specs.Prelude.{nat_le, nat_lt}
use Rattle.std.proofs.lemmas.Bool.{and_from, and_parts}
use Rattle.std.proofs.lemmas.Bool.Decides.{nat_tests}
use Rattle.std.proofs.lemmas.List.{take_more}
use Rattle.start_entries.specs.declared.entry.StartEntry.{StartEntry}
use Rattle.insn_form.specs.Machine.{Machine}
use Rattle.cpu_step.specs.declared.stop.Stop.{Stop}
use Rattle.image_runs.specs.declared.delivery.Delivery.{Delivery}
use Rattle.image_step.specs.declared.delivery.Due.{Due}
use Rattle.image_step.specs.declared.delivery.Halted.{Halted}
use Rattle.image_step.specs.declared.delivery.Halted.TheVariants.{NoStep, NoFit}
use Rattle.image_step.specs.declared.runner.Runner.{Runner}
use Rattle.image_runs.specs.Deliveries.{Item, Stepped, Taken, delivered, stepped_at}
use Rattle.image_step.specs.Fitting.{IsUnfit}
use Rattle.image_step.specs.Running.{Ends, machine_in}
use Rattle.image_step.specs.Scheduled.{Delivers, EndsBy, GoesOn, GoesUpTo, ShowsWith, are_below, halted_by, numbered, rise}
use Rattle.image_step.proofs.Entries.{left_from}
use Rattle.image_step.proofs.Steps.{IsAlike, shows_same, shows_taken}

-- Going on twice is going on.
pub goes_on_twice : (a b c : Runner) (xs ys : List Due) → GoesOn a b xs → GoesOn b c ys → GoesOn a c (xs ++ ys)
goes_on_twice a b c xs ys f g s is shown =
    let w = f s is shown in
    let v = g s (is ++ w.0) w.1 in
    let same = append_assoc is w.0 v.0 in (
      w.0 ++ v.0,
      subst (λ (js : List Item). ShowsWith c s js) same v.1,
      ap (numbered 0) (sym same) ∙ (v.2 ∙ (ap (λ (ds : List Due). ds ++ ys) w.2 ∙ append_assoc (numbered 0 is) xs ys)),
    )

abbrev due_at : ℕ → Delivery → Due
due_at k d = record { step = k; delivery = d }

-- A delivery's number is that of the steps before it.
taken_numbered : (k : ℕ) (s : Machine) (is : List Item) (d : Delivery)
    → numbered k (is ++ Taken d ∷ []) ≡ numbered k is ++ due_at (k + length (stepped_at s is)) d ∷ []
taken_numbered k s [] d = let e : k ≡ k + 0 = omega arith in ap (λ (n : ℕ). due_at n d ∷ []) e
taken_numbered k s (Stepped t ∷ is) d =
    let e : k + 1 + length (stepped_at t is) ≡ k + suc (length (stepped_at t is)) = omega arith in
    taken_numbered (k + 1) t is d ∙ ap (λ (n : ℕ). numbered (k + 1) is ++ due_at n d ∷ []) e
taken_numbered k s (Taken e ∷ is) d = ap (λ (ds : List Due). due_at k e ∷ ds) (taken_numbered k (delivered e s) is d)

-- A delivery that was made when it was due.
pub goes_taken : (b c : Runner) (due : Due) → b.steps ≡ due.step → c.starts ≡ b.starts → Delivers b c due.delivery (Ok tt) → GoesOn b c (due ∷ [])
goes_taken b c due at e h s is shown =
    let count : 0 + length (stepped_at s is) ≡ length (stepped_at s is) = omega arith in
    let number : 0 + length (stepped_at s is) ≡ due.step = count ∙ (sym shown.steps ∙ at) in
    let same : due_at (0 + length (stepped_at s is)) due.delivery ≡ due = λ i. record { step = number i; delivery = due.delivery } in (
      Taken due.delivery ∷ [],
      shows_taken b c due.delivery s is e h shown,
      taken_numbered 0 s is due.delivery ∙ ap (λ (z : Due). numbered 0 is ++ z ∷ []) same,
    )

-- A runner that stands where another one does goes on as it.
pub goes_same : (a b c : Runner) (xs : List Due) → GoesOn a b xs → IsAlike b c → GoesOn a c xs
goes_same a b c xs f e s is shown = let w = f s is shown in (w.0, shows_same b c s (is ++ w.0) e w.1, w.2)

-- ---- the rules of numbers that don't fall

pub rise_first : (k : ℕ) (d : Due) (ds : List Due) → rise k (d ∷ ds) ≡ true → (k ≤ d.step) × (rise d.step ds ≡ true)
rise_first k d ds h = let p = and_parts (nat_le k d.step) (rise d.step ds) h in (grind (arith, nat_tests, p.0), p.1)

pub rise_from : (k : ℕ) (d : Due) (ds : List Due) → k ≤ d.step → rise d.step ds ≡ true → rise k (d ∷ ds) ≡ true
rise_from k d ds l h = and_from (nat_le k d.step) (rise d.step ds) (grind (arith, nat_tests)) h

pub rise_above : (k n : ℕ) (ds : List Due) → k ≤ n → rise n ds ≡ true → rise k ds ≡ true
rise_above k n [] l h = refl
rise_above k n (d ∷ ds) l h = let p = rise_first n d ds h in rise_from k d ds (omega (arith, l, p.0)) p.1

below_more : (n : ℕ) (ds : List Due) (d : Due) → are_below n ds ≡ true → d.step < n → are_below n (ds ++ d ∷ []) ≡ true
below_more n [] d h l = and_from (nat_lt d.step n) true (grind (arith, nat_tests)) refl
below_more n (e ∷ ds) d h l =
    let p = and_parts (nat_lt e.step n) (are_below n ds) h in and_from (nat_lt e.step n) (are_below n (ds ++ d ∷ [])) p.0 (below_more n ds d p.1 l)

-- ---- how a run ends

-- A run of steps alone ends so, where what is left is due behind them at the earliest.
pub ends_by : (r : Runner) (o : Option Stop) (left : List Due) (first made n some all : ℕ) → r.steps ≡ first + made → made + all ≡ n + some
    → rise (first + n) left ≡ true → Ends o (machine_in r) some all → EndsBy (halted_by o) r left made n
ends_by r None left first made n some all at sum h e =
    let same : some ≡ all = e in
    (omega (arith, same, sum), rise_above r.steps (first + n) left (omega (arith, same, sum, at)) h)
ends_by r (Some stop) left first made n some all at sum h e =
    let less : some < all = e.0 in
    (omega (arith, less, sum), e.1, rise_above (r.steps + 1) (first + n) left (omega (arith, less, sum, at)) h)

-- ---- one delivery after the other

-- Along the first i deliveries that are due, and no further than so many steps.
pub record AlongDue (old new : Runner) (dues : List Due) (last i : ℕ) : Type 0 where
  pub starts : new.starts ≡ old.starts
  pub low : old.steps ≤ new.steps
  pub high : new.steps ≤ last
  pub rises : rise new.steps (drop i dues) ≡ true
  pub goes : GoesOn old new (take i dues)
  pub below : are_below last (take i dues) ≡ true

pub due_none : (r : Runner) (dues : List Due) (last : ℕ) → r.steps ≤ last → rise r.steps dues ≡ true → AlongDue r r dues last 0
due_none r dues last l h =
    record {
      starts = refl;
      low = omega arith;
      high = l;
      rises = h;
      goes = λ s is shown. (
        [],
        subst (λ (js : List Item). ShowsWith r s js) (sym (append-nil is)) shown,
        ap (numbered 0) (append-nil is) ∙ sym (append-nil (numbered 0 is)),
      );
      below = refl;
    }

-- What is known of the next one.
pub next_due : (b : Runner) (dues : List Due) (i : ℕ) (d : Due) → i < length dues → d ≡ get_or dues i d → rise b.steps (drop i dues) ≡ true
    → (drop i dues ≡ d ∷ drop (i + 1) dues) × (b.steps ≤ d.step) × (rise d.step (drop (i + 1) dues) ≡ true)
next_due b dues i d l e h =
    let left = left_from dues i d l e in
    let p = rise_first b.steps d (drop (i + 1) dues) (subst (λ (ds : List Due). rise b.steps ds ≡ true) left h) in
    (left, p.0, p.1)

-- Where the next one isn't due before the last step, none is.
pub waits : (b : Runner) (dues : List Due) (last i : ℕ) (d : Due) → i < length dues → d ≡ get_or dues i d → rise b.steps (drop i dues) ≡ true → last ≤ d.step
    → rise last (drop i dues) ≡ true
waits b dues last i d l e h le =
    let p = next_due b dues i d l e h in
    subst (λ (ds : List Due). rise last ds ≡ true) (sym p.0) (rise_from last d (drop (i + 1) dues) le p.2)

pub due_more : (a b c : Runner) (dues : List Due) (last i : ℕ) (d : Due) (done : Unit {0}) → i < length dues → d ≡ get_or dues i d → d.step < last → AlongDue a b dues last i
    → c.starts ≡ b.starts → GoesUpTo b c d (Ok done) → AlongDue a c dues last (i + 1)
due_more a b c dues last i d done l e less along same r =
    let p = next_due b dues i d l e along.rises in
    let at : c.steps ≡ d.step = r.1 in
    let low : a.steps ≤ b.steps = along.low in
    let one : take i dues ++ d ∷ [] ≡ take (i + 1) dues = ap (λ (z : Due). take i dues ++ z ∷ []) e ∙ sym (take_more dues i d l) in
    record {
      starts = same ∙ along.starts;
      low = omega (arith, p.1, at, low);
      high = omega (arith, at, less);
      rises = subst (λ (n : ℕ). rise n (drop (i + 1) dues) ≡ true) (sym at) p.2;
      goes = subst (λ (ds : List Due). GoesOn a c ds) one (goes_on_twice a b c (take i dues) (d ∷ []) along.goes r.0);
      below = subst (λ (ds : List Due). are_below last ds ≡ true) one (below_more last (take i dues) d along.below less);
    }

-- Going on with no further delivery.
pub goes_no_further : (a b c : Runner) (xs : List Due) → GoesOn a b xs → GoesOn b c [] → GoesOn a c xs
goes_no_further a b c xs f g = subst (λ (ds : List Due). GoesOn a c ds) (append-nil xs) (goes_on_twice a b c xs [] f g)

-- The next one isn't made, and the run ends.
pub ends_early : (b c : Runner) (dues : List Due) (first made n i : ℕ) (d : Due) (h : Halted) → i < length dues → d ≡ get_or dues i d → d.step < first + n
    → rise b.steps (drop i dues) ≡ true → c.steps ≡ first + made → GoesUpTo b c d (Err h) → (GoesOn b c []) × EndsBy (Some h) c (drop i dues) made n
ends_early b c dues first made n i d (NoStep stop) l e less rises at r =
    let p = next_due b dues i d l e rises in
    let before : c.steps < d.step = r.1 in (
      r.0,
      subst (λ (ds : List Due). EndsBy (Some (NoStep stop)) c ds made n) (sym p.0)
          (omega (arith, before, less, at), r.2, rise_from (c.steps + 1) d (drop (i + 1) dues) (omega (arith, before)) p.2),
    )
ends_early b c dues first made n i d (NoFit u) l e less rises at r =
    let p = next_due b dues i d l e rises in
    let here : c.steps ≡ d.step = r.1 in (
      r.0,
      subst (λ (ds : List Due). EndsBy (Some (NoFit u)) c ds made n) (sym p.0) (omega (arith, here, less, at), sym here, r.2),
    )

-- What doesn't fit a state doesn't fit it in a runner that stands alike.
pub unfit_same : (b c : Runner) (d : Delivery) (addr : ℕ) → IsAlike b c → IsUnfit b.starts (machine_in b) d addr → IsUnfit c.starts (machine_in c) d addr
unfit_same b c d addr e h =
    subst (λ (m : Machine). IsUnfit c.starts m d addr) (sym e.here) (subst (λ (ls : List StartEntry). IsUnfit ls (machine_in b) d addr) (sym e.starts) h)
