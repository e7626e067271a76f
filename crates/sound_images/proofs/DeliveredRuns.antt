-- From single items to runs: what a relation between the two states has to keep so that the headline with deliveries holds.
use Rattle.std.proofs.Common.{◌≡◌, ℕ, ◌+◌, ◌*◌, ◌≤◌, Bool, true, false, List, [], ◌∷◌, ◌++◌, length, map, Some, None, refl, sym, ap, ◌∙◌, subst, arith, append_assoc}
use Rattle.std.proofs.lemmas.Bool.{cond-true, cond-false}
use Rattle.std.proofs.lemmas.List.{append-nil}
use Rattle.insn_form.specs.Machine.{Machine}
use Rattle.insn_form.specs.Runs.{IsRun}
use Rattle.trampoline.specs.Events.{Seen}
use Rattle.image_runs.specs.Listed.{is_start}
use Rattle.sound_images.specs.Rewriting.{Rewriting}
use Rattle.sound_images.specs.Events.{due_events, log, passes}
use Rattle.image_runs.specs.declared.delivery.Delivery.{Delivery}
use Rattle.image_runs.specs.Deliveries.{delivered, Fits, Item, Stepped, Taken, end_of, IsRunWith, IsQuietWith, stepped_at}
use Rattle.sound_images.specs.Headline.{due_moment, due_with, seen_moment, moments_with, FollowsWith, BeforeWith}
use Rattle.sound_images.proofs.HeadlineRuns.{Hidden, Keeps, known_start, due_append, no_pass, passes_more}

-- a relation that is kept by deliveries too
pub record KeepsWith (Step : (ℕ → Bool) → Machine → Machine → Type 0) (r : Rewriting)
    (I : List Seen → Machine → Machine → Type 0) : Type 0 where
  pub steps : Keeps Step r I
  pub takes : (events : List Seen) (s u : Machine) (d : Delivery) → I events s u → Fits r.listed s d
      → Fits r.listed u d × I events (delivered d s) (delivered d u)

-- steps and then the items of another run are a run
items_run : (Step : (ℕ → Bool) → Machine → Machine → Type 0) (r : Rewriting) (u v : Machine) (xs : List Machine) (ys : List Item)
    → IsRun Step u (xs ++ v ∷ []) → IsRunWith Step r.listed v ys → IsRunWith Step r.listed u (map Stepped xs ++ Stepped v ∷ ys)
items_run Step r u v [] ys p q = (p.0, q)
items_run Step r u v (x ∷ xs) ys p q = (p.0, items_run Step r x v xs ys p.1 q)

-- steps and then the items of another run end where that run does
items_end : (u v : Machine) (xs : List Machine) (ys : List Item) → end_of u (map Stepped xs ++ Stepped v ∷ ys) ≡ end_of v ys
items_end u v [] ys = refl
items_end u v (x ∷ xs) ys = items_end x v xs ys

-- steps and then the items of another run have the steps of both
items_steps : (u v : Machine) (xs : List Machine) (ys : List Item)
    → length (stepped_at u (map Stepped xs ++ Stepped v ∷ ys)) ≡ length xs + length (stepped_at v ys) + 1
items_steps u v [] ys = omega arith
items_steps u v (x ∷ xs) ys = omega (arith, items_steps x v xs ys)

-- hidden states have no moment
hidden_with : (r : Rewriting) (bs : List Machine) (x v : Machine) (xs : List Machine) (ys : List Item) → is_start r.listed x.rip ≡ false
    → Hidden r xs → moments_with r bs x (map Stepped xs ++ Stepped v ∷ ys) ≡ moments_with r (bs ++ x ∷ xs) v ys
hidden_with r bs x v [] ys g h = cond-false (is_start r.listed x.rip) _ _ g
hidden_with r bs x v (y ∷ xs) ys g h = cond-false (is_start r.listed x.rip) _ _ g ∙ hidden_with r (bs ++ x ∷ []) y v xs ys h.0 h.1
    ∙ ap (λ z. moments_with r z v ys) (append_assoc bs (x ∷ []) (y ∷ xs))

-- the moment at an outside state, and those after hidden ones
block_moments : (r : Rewriting) (bs : List Machine) (u v : Machine) (xs : List Machine) (ys : List Item) → is_start r.listed u.rip ≡ true
    → Hidden r xs → moments_with r bs u (map Stepped xs ++ Stepped v ∷ ys)
    ≡ (seen_moment r bs u, None) ∷ moments_with r ((bs ++ u ∷ []) ++ xs) v ys
block_moments r bs u v [] ys g h = cond-true (is_start r.listed u.rip) _ _ g
    ∙ ap (λ z. (seen_moment r bs u, None) ∷ moments_with r z v ys) (sym (append-nil (bs ++ u ∷ [])))
block_moments r bs u v (x ∷ xs) ys g h = cond-true (is_start r.listed u.rip) _ _ g
    ∙ ap (λ z. (seen_moment r bs u, None) ∷ z) (hidden_with r (bs ++ u ∷ []) x v xs ys h.0 h.1)

-- a patched run from u follows the original's from s, with these states before, and I holds of their last states
pub record FollowedWith (Step : (ℕ → Bool) → Machine → Machine → Type 0) (r : Rewriting) (I : List Seen → Machine → Machine → Type 0)
    (before before' : List Machine) (s : Machine) (is : List Item) (u : Machine) (us : List Item) : Type 0 where
  pub run : IsRunWith Step r.listed u us
  pub bounded : length (stepped_at u us) ≤ 24 * length (stepped_at s is)
  pub ends : is_start r.listed (end_of u us).rip ≡ true
  pub same : moments_with r before' u us ≡ due_with r before s is
  pub kept : I (due_events r (before ++ stepped_at s is)) (end_of s is) (end_of u us)

-- a quiet run begins at a start
quiet_start : (Step : (ℕ → Bool) → Machine → Machine → Type 0) (r : Rewriting) (s : Machine) (is : List Item)
    → IsQuietWith Step r.listed s is → is_start r.listed s.rip ≡ true
quiet_start Step r s [] q = q.1
quiet_start Step r s (Stepped t ∷ is) q = known_start r.listed s.rip q.0.0.0
quiet_start Step r s (Taken d ∷ is) q = q.0.0.here

module _ (Step : (ℕ → Bool) → Machine → Machine → Type 0) (r : Rewriting) (I : List Seen → Machine → Machine → Type 0)
    (k : KeepsWith Step r I) where
  -- two states that are related look alike, and so do their moments
  started : (events : List Seen) (s u : Machine) (is : List Item) → I events s u → IsQuietWith Step r.listed s is
      → is_start r.listed u.rip ≡ true
  started events s u is h q = ap (λ (z : Machine). is_start r.listed z.rip) (k.steps.seen events s u h) ∙ quiet_start Step r s is q

  -- related states at a listed start have the same moment
  alike : (before before' : List Machine) (s u : Machine) → I (due_events r before) s u → passes r (before' ++ u ∷ []) ≡ log r before
      → seen_moment r before' u ≡ due_moment r before s
  alike before before' s u h p =
      let e = k.steps.seen (due_events r before) s u h in
      let d = k.steps.part (due_events r before) s u h in
      λ i. record { state = e i; events = p i; part = d i }

  -- a quiet run is followed, item by item
  pub followed_with : (before before' : List Machine) (s u : Machine) (is : List Item) → passes r before' ≡ log r before
      → I (due_events r before) s u → IsQuietWith Step r.listed s is
      → (us : List Item) × FollowedWith Step r I before before' s is u us
  followed_with before before' s u [] e h q =
      let st = started (due_events r before) s u [] h q in
      let p = no_pass r before before' u e (k.steps.unpassed u st) in (
        [],
        record {
          run = tt;
          bounded = omega arith;
          ends = st;
          same = cond-true (is_start r.listed u.rip) _ _ st ∙ ap (λ z. (z, None) ∷ []) (alike before before' s u h p);
          kept = subst (λ (z : List Machine). I (due_events r z) s u) (sym (append-nil before)) h;
        },
      )
  followed_with before before' s u (Stepped t ∷ is) e h q =
      let st = started (due_events r before) s u (Stepped t ∷ is) h q in
      let p = no_pass r before before' u e (k.steps.unpassed u st) in
      let b = k.steps.block (due_events r before) s t u h q.0.0.0 q.0.0.1 in
      let kept : I (due_events r (before ++ s ∷ [])) t b.end = subst (λ (z : List Seen). I z t b.end)
      (sym (due_append r before (s ∷ []))) b.kept in
      let rest = followed_with (before ++ s ∷ []) ((before' ++ u ∷ []) ++ b.inner) t b.end is
      (passes_more r before before' b.inner s u p b.passed) kept (q.0.1, q.1) in
      let us = map Stepped b.inner ++ Stepped b.end ∷ rest.0 in
      let l : end_of u us ≡ end_of b.end rest.0 = items_end u b.end b.inner rest.0 in (
        us,
        record {
          run = items_run Step r u b.end b.inner rest.0 b.run rest.1.run;
          bounded = omega (arith, items_steps u b.end b.inner rest.0, b.few, rest.1.bounded);
          ends = ap (λ (z : Machine). is_start r.listed z.rip) l ∙ rest.1.ends;
          same = block_moments r before' u b.end b.inner rest.0 st b.hidden
              ∙ (let m = alike before before' s u h p in λ i. (m i, None) ∷ rest.1.same i);
          kept = subst (λ (z : Machine). I (due_events r (before ++ (s ∷ stepped_at t is))) (end_of t is) z) (sym l)
              (subst (λ (z : List Machine). I (due_events r z) (end_of t is) (end_of b.end rest.0)) (append_assoc before (s ∷ []) (stepped_at t is))
              rest.1.kept);
        },
      )
  followed_with before before' s u (Taken d ∷ is) e h q =
      let st = started (due_events r before) s u (Taken d ∷ is) h q in
      let p = no_pass r before before' u e (k.steps.unpassed u st) in
      let f = k.takes (due_events r before) s u d h q.0.0 in
      let rest = followed_with before (before' ++ u ∷ []) (delivered d s) (delivered d u) is p f.1 (q.0.1, q.1) in (
        Taken d ∷ rest.0,
        record {
          run = (f.0, rest.1.run);
          bounded = rest.1.bounded;
          ends = rest.1.ends;
          same = cond-true (is_start r.listed u.rip) _ _ st
              ∙ (let m = alike before before' s u h p in λ i. (m i, Some d) ∷ rest.1.same i);
          kept = rest.1.kept;
        },
      )

  -- whoever keeps such a relation from the start pair on has the headline with deliveries for it
  pub headline_with : (a b : Machine) (is : List Item) → I [] a b → IsQuietWith Step r.listed a is
      → (us : List Item) × FollowsWith Step r a is b us × BeforeWith Step r a is (end_of b us)
  headline_with a b is h q =
      let f = followed_with [] [] a b is refl h q in (
        f.0,
        record { run = f.1.run; bounded = f.1.bounded; ends_outside = f.1.ends; same = f.1.same },
        λ site c e. k.steps.before (due_events r (stepped_at a is)) (end_of a is) (end_of b f.0) f.1.kept site c e,
      )
