-- A schedule is run in one way.
use Rattle.std.proofs.Common.{◌≡◌, ℕ, zero, suc, ◌<◌, Bool, true, false, List, [], ◌∷◌, take, Some, None, Result, Ok, Err, refl, sym, ap, ◌∙◌, subst, arith}
use Rattle.std.specs.Prelude.{nat_lt, slice_get}
use Rattle.std.proofs.lemmas.Bool.Decides.{nat_tests}
use Rattle.std.proofs.lemmas.Bool.{ltb-true}
use Rattle.cpu_step.specs.declared.stop.Stop.{Stop}
use Rattle.cpu_step.specs.Stepping.{Taken}
use Rattle.patch_report.proofs.ListPlaces.{some_is}
use Rattle.thread_runs.specs.declared.runner.ScheduleError.{ScheduleError}
use Rattle.thread_runs.specs.declared.runner.ScheduleError.TheVariants.{NoThread, Stopped}
use Rattle.event_steps.specs.ThreadSteps.{ThreadStep}
use Rattle.thread_runs.specs.ThreadJudging.{thread_judgement}
use Rattle.thread_runs.specs.Guest.{Thread, Guest, machine_of, Moves, IsInterleaved, last_guest}
use Rattle.thread_runs.specs.Running.{Leads, HasNoThread, HasStopped, EndsAt, Runs, RunsOneWay}
use Rattle.thread_runs.proofs.PlainGuests.{runs_plain}
use Rattle.thread_runs.proofs.ScheduledSteps.{leads_none}

-- a schedule leads from one guest to one guest
leads_one : (ks : List ℕ) (g h i : Guest) → Leads ks g h → Leads ks g i → h ≡ i
leads_one ks g h i a b = a.last ∙ ap (last_guest g) (runs_plain ks g a.states b.states a.run b.run) ∙ sym b.last

-- the step that a run makes at a place
record StepAt (ks : List ℕ) (g : Guest) (place k : ℕ) : Type 0 where
  pub from : Guest
  pub to : Guest
  pub before : Leads (take place ks) g from
  pub moves : Moves k from to

-- at each entry of a schedule that is run, the thread that it names makes a step
step_at : (ks : List ℕ) (place k : ℕ) (g : Guest) (gs : List Guest) → IsInterleaved ks g gs → slice_get ks place ≡ Some k → StepAt ks g place k
step_at [] place k g gs r e = absurd cc
step_at (j ∷ ks) place k g [] r e = absurd r
step_at (j ∷ ks) zero k g (x ∷ xs) r e = record { from = g; to = x; before = leads_none g; moves = subst (λ z. Moves z g x) (some_is j k e) r.0 }
step_at (j ∷ ks) (suc place) k g (x ∷ xs) r e =
    let s = step_at ks place k x xs r.1 e in
    let l = s.before in
    record { from = s.from; to = s.to; before = record { states = x ∷ l.states; run = (r.0, l.run); last = l.last }; moves = s.moves }

-- ---- where a run ends

abbrev place_of : ScheduleError → ℕ
place_of (NoThread at) = at
place_of (Stopped at stop) = at

abbrev Causes : ScheduleError → Guest → ℕ → Type 0
Causes (NoThread at) g k = HasNoThread g k
Causes (Stopped at stop) g k = HasStopped g k stop

-- a run that ends early ends at its entry, for its reason
as_end : (schedule : List ℕ) (g h : Guest) (e : ScheduleError) → Runs schedule g h (Err e) → EndsAt schedule g h (place_of e) (Causes e)
as_end schedule g h (NoThread at) r = r
as_end schedule g h (Stopped at stop) r = r

-- a thread with a reason to end the run has no step
blocks : (e : ScheduleError) (k : ℕ) (g h : Guest) → Moves k g h → Causes e g k → ⊥
blocks (NoThread at) k g h m c = let z : Some m.thread ≡ None = sym m.there ∙ c in cc
blocks (Stopped at stop) k g h m c =
    let e : m.thread ≡ c.thread = some_is m.thread c.thread (sym m.there ∙ c.there) in
    c.stopped.none m.to (subst (λ (t : Thread). ThreadStep (machine_of g.mem t) m.to) e m.steps)

-- no run leads past the entry at which another one ends
goes_no_further : (schedule ks : List ℕ) (g h i : Guest) (e : ScheduleError) (x : EndsAt schedule g h (place_of e) (Causes e)) → slice_get ks (place_of e) ≡ Some x.number
    → take (place_of e) ks ≡ take (place_of e) schedule → Leads ks g i → ⊥
goes_no_further schedule ks g h i e x s t l =
    let m = step_at ks (place_of e) x.number g l.states l.run s in
    let same = leads_one (take (place_of e) schedule) g h m.from x.before (subst (λ z. Leads z g m.from) t m.before) in
    blocks e x.number m.from m.to m.moves (subst (λ z. Causes e z x.number) same x.why)

-- an element before an index is among the elements taken up to that index
get_taken : (xs : List ℕ) (p q k : ℕ) → p < q → slice_get xs p ≡ Some k → slice_get (take q xs) p ≡ Some k
get_taken [] p q k l e = absurd cc
get_taken (x ∷ xs) p zero k l e = absurd (omega (arith, l))
get_taken (x ∷ xs) zero (suc q) k l e = e
get_taken (x ∷ xs) (suc p) (suc q) k l e = get_taken xs p q k (omega (arith, l)) e

-- the elements taken up to an index are among those taken up to a later one
take_taken : (xs : List ℕ) (p q : ℕ) → p < q → take p (take q xs) ≡ take p xs
take_taken [] zero q l = refl
take_taken [] (suc p) zero l = refl
take_taken [] (suc p) (suc q) l = refl
take_taken (x ∷ xs) p zero l = absurd (omega (arith, l))
take_taken (x ∷ xs) zero (suc q) l = refl
take_taken (x ∷ xs) (suc p) (suc q) l = ap (λ z. x ∷ z) (take_taken xs p q (omega (arith, l)))

-- no run ends at an earlier entry than another
no_earlier : (schedule : List ℕ) (g h i : Guest) (e f : ScheduleError) → EndsAt schedule g h (place_of e) (Causes e) → EndsAt schedule g i (place_of f) (Causes f) → place_of e < place_of f → ⊥
no_earlier schedule g h i e f x y l =
    goes_no_further schedule (take (place_of f) schedule) g h i e x (get_taken schedule (place_of e) (place_of f) x.number l x.entry) (take_taken schedule (place_of e) (place_of f) l) y.before

-- equal errors have equal stops
one_stop : (a b : Stop) → ◌≡◌ {A = Result Taken Stop} (Err a) (Err b) → a ≡ b
one_stop a b e = cc

-- two reasons at one entry, for one guest and one thread, are equal
one_cause : (e f : ScheduleError) (g : Guest) (k : ℕ) → place_of e ≡ place_of f → Causes e g k → Causes f g k → e ≡ f
one_cause (NoThread p) (NoThread q) g k l c d = ap NoThread l
one_cause (NoThread p) (Stopped q stop) g k l c d = let z : None ≡ Some d.thread = sym c ∙ d.there in absurd cc
one_cause (Stopped p stop) (NoThread q) g k l c d = let z : None ≡ Some c.thread = sym d ∙ c.there in absurd cc
one_cause (Stopped p a) (Stopped q b) g k l c d =
    let e : c.thread ≡ d.thread = some_is c.thread d.thread (sym c.there ∙ d.there) in
    let s = one_stop a b (sym c.stopped.reason ∙ ap (λ (t : Thread). thread_judgement (machine_of g.mem t)) e ∙ d.stopped.reason) in
    λ i. Stopped (l i) (s i)

-- two runs that end at one entry end in one guest, for one reason
at_one_place : (schedule : List ℕ) (g h i : Guest) (e f : ScheduleError) → place_of e ≡ place_of f → EndsAt schedule g h (place_of e) (Causes e) → EndsAt schedule g i (place_of f) (Causes f)
    → (h ≡ i) × (◌≡◌ {A = Result (Unit {0}) ScheduleError} (Err e) (Err f))
at_one_place schedule g h i e f l x y =
    let before = subst (λ n. Leads (take n schedule) g i) (sym l) y.before in
    let same = leads_one (take (place_of e) schedule) g h i x.before before in
    let number = some_is y.number x.number (sym y.entry ∙ ap (slice_get schedule) (sym l) ∙ x.entry) in
    let why = subst (λ k. Causes f h k) number (subst (λ z. Causes f z y.number) (sym same) y.why) in
    (same, ap Err (one_cause e f h x.number l x.why why))

-- two numbers of which neither is less are equal
eq_of : (p q : ℕ) → nat_lt p q ≡ false → nat_lt q p ≡ false → p ≡ q
eq_of p q e f = grind (arith, nat_tests)

-- two runs that end early end in one guest, for one reason
both_end : (schedule : List ℕ) (g h i : Guest) (e f : ScheduleError) → EndsAt schedule g h (place_of e) (Causes e) → EndsAt schedule g i (place_of f) (Causes f)
    → (h ≡ i) × (◌≡◌ {A = Result (Unit {0}) ScheduleError} (Err e) (Err f))
both_end schedule g h i e f x y = by_tests (nat_lt (place_of e) (place_of f)) (nat_lt (place_of f) (place_of e)) refl refl
  where
    by_tests : (b c : Bool) → nat_lt (place_of e) (place_of f) ≡ b → nat_lt (place_of f) (place_of e) ≡ c → (h ≡ i) × (◌≡◌ {A = Result (Unit {0}) ScheduleError} (Err e) (Err f))
    by_tests true c p q = absurd (no_earlier schedule g h i e f x y (ltb-true _ _ p))
    by_tests false true p q = absurd (no_earlier schedule g i h f e y x (ltb-true _ _ q))
    by_tests false false p q = at_one_place schedule g h i e f (eq_of _ _ p q) x y

-- a schedule leads from a guest to one end, with one answer
pub one_way : RunsOneWay
one_way schedule g h i (Ok u) (Ok v) a b = (leads_one schedule g h i a b, refl)
one_way schedule g h i (Ok u) (Err e) a b = let x = as_end schedule g i e b in absurd (goes_no_further schedule schedule g i h e x x.entry refl a)
one_way schedule g h i (Err e) (Ok u) a b = let x = as_end schedule g h e a in absurd (goes_no_further schedule schedule g h i e x x.entry refl b)
one_way schedule g h i (Err e) (Err f) a b = both_end schedule g h i e f (as_end schedule g h e a) (as_end schedule g i f b)
