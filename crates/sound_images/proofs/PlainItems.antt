-- What is said of runs without deliveries, as the case in which nothing is delivered.
use Rattle.std.proofs.Common.{◌≡◌, suc, Bool, true, false, cond, List, [], ◌∷◌, ◌++◌, length, map, Option, Some, None, refl, sym, ap, ◌∙◌, subst, arith}
use Rattle.std.proofs.lemmas.Bool.{cond-true}
use Rattle.insn_form.specs.Machine.{Machine}
use Rattle.insn_form.specs.Step.{Step}
use Rattle.insn_form.specs.Runs.{last_of}
use Rattle.image_runs.specs.Listed.{is_start}
use Rattle.sound_images.specs.Rewriting.{Site, Rewriting}
use Rattle.sound_images.specs.Events.{due_events}
use Rattle.sound_images.specs.Headline.{Moment, due_moments, moments, made_at, Reaches, Before, Left, due_moment, due_with, moments_with, FollowsWith, BeforeWith, deliveries}
use Rattle.sound_images.specs.Soundness.{PlainIsACase, SameDeliveries}
use Rattle.image_runs.specs.declared.delivery.Delivery.{Delivery}
use Rattle.image_runs.specs.Deliveries.{delivered, Item, Stepped, Taken, end_of, IsRunWith, stepped_at}
use Rattle.image_runs.proofs.MoreItems.{plain_quiet, plain_run}
pub use Rattle.image_runs.proofs.MoreItems.{plain_end as steps_end}

-- a moment at which nothing is delivered
abbrev pub plain : Moment → Left
plain m = (m, None)

-- the states of a run at which a step was made are those of the run as items
pub steps_made : (s : Machine) (ts : List Machine) → stepped_at s (map Stepped ts) ≡ made_at s ts
steps_made s [] = refl
steps_made s (t ∷ ts) = ap (λ z. s ∷ z) (steps_made t ts)

-- a run of n steps has n states at which a step was made
made_length : (s : Machine) (ts : List Machine) → length (made_at s ts) ≡ length ts
made_length s [] = refl
made_length s (t ∷ ts) = ap suc (made_length t ts)

-- the moments of the original's run are those of the run as items
pub due_plain : (r : Rewriting) (before : List Machine) (s : Machine) (ts : List Machine)
    → due_with r before s (map Stepped ts) ≡ map plain (due_moments r before (s ∷ ts))
due_plain r before s [] = refl
due_plain r before s (t ∷ ts) = ap (λ (z : List Left). plain (due_moment r before s) ∷ z) (due_plain r (before ++ s ∷ []) t ts)

-- where moments are plain ones of others, they are so with one more moment under a test
split : (b : Bool) (m : Moment) (xs : List Left) (ys : List Moment) → xs ≡ map plain ys
    → cond b (plain m ∷ xs) xs ≡ map plain (cond b (m ∷ ys) ys)
split true m xs ys e = ap (λ (z : List Left). plain m ∷ z) e
split false m xs ys e = e

-- the moments of a run of steps alone are those without deliveries
pub moments_plain : (r : Rewriting) (before : List Machine) (u : Machine) (us : List Machine)
    → moments_with r before u (map Stepped us) ≡ map plain (moments r before (u ∷ us))
moments_plain r before u [] = split (is_start r.listed u.rip) _ [] [] refl
moments_plain r before u (v ∷ us) = split (is_start r.listed u.rip) _ _ _ (moments_plain r (before ++ u ∷ []) v us)

-- equal plain moments are equal
unplain : (xs : List Moment) → map (λ (l : Left). l.0) (map plain xs) ≡ xs
unplain [] = refl
unplain (x ∷ xs) = ap (λ z. x ∷ z) (unplain xs)

-- a run whose moments are plain has no delivery
abbrev left_first : List Left → Option Delivery
left_first [] = None
left_first (l ∷ ls) = l.1

abbrev left_rest : List Left → List Left
left_rest [] = []
left_rest (l ∷ ls) = ls

-- the first of moments without deliveries has no delivery
plain_first : (ms : List Moment) → left_first (map plain ms) ≡ None
plain_first [] = refl
plain_first (m ∷ ms) = refl

-- the rest of moments without deliveries has no delivery
plain_rest : (ms : List Moment) → (ns : List Moment) × (left_rest (map plain ms) ≡ map plain ns)
plain_rest [] = ([], refl)
plain_rest (m ∷ ms) = (ms, refl)

-- a run whose moments have no delivery is one of steps alone
none_taken : (r : Rewriting) (before : List Machine) (u : Machine) (us : List Item) (ms : List Moment) → IsRunWith Step r.listed u us
    → moments_with r before u us ≡ map plain ms → (vs : List Machine) × (us ≡ map Stepped vs)
none_taken r before u [] ms h e = ([], refl)
none_taken r before u (Stepped t ∷ us) ms h e =
    let q = by_test (is_start r.listed u.rip) _ _ e in
    let rest = none_taken r (before ++ u ∷ []) t us q.0 h.1 q.1 in
    (t ∷ rest.0, ap (λ z. Stepped t ∷ z) rest.1)
  where
    by_test : (b : Bool) (l : Left) (xs : List Left) → cond b (l ∷ xs) xs ≡ map plain ms → (ns : List Moment) × (xs ≡ map plain ns)
    by_test true l xs e = let q = plain_rest ms in (q.0, ap left_rest e ∙ q.1)
    by_test false l xs e = (ms, e)
none_taken r before u (Taken d ∷ us) ms h e =
    let k : Some d ≡ None = ap left_first (sym (cond-true (is_start r.listed u.rip) _ _ h.0.here) ∙ e) ∙ plain_first ms in
    absurd cc

-- the plain headline is the case in which nothing is delivered
pub headline_case : PlainIsACase
headline_case r H a b p ts q =
    let w = H a b p (map Stepped ts) ((plain_quiet r.listed a ts).1 q) in
    let n = none_taken r [] b w.0 (due_moments r [] (a ∷ ts)) w.1.run (w.1.same ∙ due_plain r [] a ts) in
    let f : FollowsWith Step r a (map Stepped ts) b (map Stepped n.0)
    = subst (λ (z : List Item). FollowsWith Step r a (map Stepped ts) b z) n.1 w.1 in
    let g : BeforeWith Step r a (map Stepped ts) (last_of b n.0)
    = subst (λ (z : Machine). BeforeWith Step r a (map Stepped ts) z) (ap (end_of b) n.1 ∙ steps_end b n.0) w.2 in (
      n.0,
      record {
        run = (plain_run r.listed b n.0).0 f.run;
        bounded = omega (arith, f.bounded, ap length (steps_made b n.0), made_length b n.0, ap length (steps_made a ts), made_length a ts);
        ends_outside = ap (λ (z : Machine). is_start r.listed z.rip) (sym (steps_end b n.0)) ∙ f.ends_outside;
        same = sym (unplain (moments r [] (b ∷ n.0))) ∙ ap (map (λ (l : Left). l.0)) (sym (moments_plain r [] b n.0) ∙ f.same ∙ due_plain r [] a ts)
            ∙ unplain (due_moments r [] (a ∷ ts));
      },
      before a ts (last_of b n.0) g,
    )
  where
    moved : (site : Site) (u : Machine) (vs : List Machine) (s s' : Machine) (xs xs' : List Machine) → s ≡ s' → xs ≡ xs'
        → Reaches Step r site s (due_events r xs) u vs → Reaches Step r site s' (due_events r xs') u vs
    moved site u vs s s' xs xs' e f h = subst (λ (z : Machine). Reaches Step r site z (due_events r xs') u vs) e
        (subst (λ (z : List Machine). Reaches Step r site s (due_events r z) u vs) f h)

    before : (a : Machine) (ts : List Machine) (u : Machine) → BeforeWith Step r a (map Stepped ts) u → Before Step r a ts u
    before a ts u g site c e =
        let v = g site c (e ∙ ap (λ (z : Machine). z.rip) (sym (steps_end a ts))) in (
          v.0,
          moved site u v.0 (end_of a (map Stepped ts)) (last_of a ts) (stepped_at a (map Stepped ts)) (made_at a ts)
              (steps_end a ts) (steps_made a ts) v.1,
        )

-- what is told to be delivered at moments
abbrev add : Option Delivery → List Delivery → List Delivery
add None ds = ds
add (Some d) ds = d ∷ ds

abbrev told : List Left → List Delivery
told [] = []
told (l ∷ ls) = add l.1 (told ls)

-- the due moments of a run tell its deliveries
told_due : (r : Rewriting) (before : List Machine) (s : Machine) (is : List Item) → told (due_with r before s is) ≡ deliveries is
told_due r before s [] = refl
told_due r before s (Stepped t ∷ is) = told_due r (before ++ s ∷ []) t is
told_due r before s (Taken d ∷ is) = ap (λ z. d ∷ z) (told_due r before (delivered d s) is)

-- a moment without a delivery adds nothing to the deliveries that are told
none_told : (b : Bool) (m : Moment) (xs : List Left) (ds : List Delivery) → told xs ≡ ds → told (cond b (plain m ∷ xs) xs) ≡ ds
none_told true m xs ds e = e
none_told false m xs ds e = e

-- the moments of a patched run tell its deliveries
told_seen : (r : Rewriting) (before : List Machine) (u : Machine) (us : List Item) → IsRunWith Step r.listed u us
    → told (moments_with r before u us) ≡ deliveries us
told_seen r before u [] h = none_told (is_start r.listed u.rip) _ [] [] refl
told_seen r before u (Stepped t ∷ us) h =
    none_told (is_start r.listed u.rip) _ _ (deliveries us) (told_seen r (before ++ u ∷ []) t us h.1)
told_seen r before u (Taken d ∷ us) h =
    ap told (cond-true (is_start r.listed u.rip) _ _ h.0.here) ∙ ap (λ z. d ∷ z) (told_seen r (before ++ u ∷ []) (delivered d u) us h.1)

-- a run that follows has the same deliveries
pub same_deliveries : SameDeliveries
same_deliveries r a is b us f = sym (told_seen r [] b us f.run) ∙ ap told f.same ∙ told_due r [] a is
