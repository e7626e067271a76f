-- What the moments of two runs with deliveries say of their states, their ends, passes and records.
use Rattle.std.proofs.Common.{◌≡◌, ◌+◌, Bool, true, false, cond, List, [], ◌∷◌, ◌++◌, length, map, None, refl, sym, ap, ◌∙◌, arith, append_assoc}
use Rattle.std.proofs.lemmas.Bool.{cond-true}
use Rattle.std.proofs.lemmas.List.{length-map, append-nil}
use Rattle.insn_form.specs.Machine.{Machine}
use Rattle.image_runs.specs.Listed.{is_start}
use Rattle.image_runs.specs.Deliveries.{delivered, Item, Stepped, Taken, after, end_of, taken, stepped_at}
use Rattle.sound_images.specs.Rewriting.{Rewriting, shown, outside}
use Rattle.sound_images.specs.Events.{log, passes, data_of}
use Rattle.sound_images.specs.Headline.{Moment, Left, due_moment, due_with, seen_moment, moments_with}
use Rattle.rewrite_core.specs.Glosses.{times}
use Rattle.rewrite_core.specs.GlossesWith.{states_of, SaidWith, FollowsSaidWith}

-- the states of the moments, and the last moment
abbrev shown_of : List Left → List Machine
shown_of ls = map (λ (l : Left). l.0.state) ls

abbrev last_left : Moment → List Left → Moment
last_left d [] = d
last_left d (l ∷ ls) = last_left l.0 ls

-- where moments are views of states, they are so with one more state in front under a test
split : (r : Rewriting) (u : Machine) (b : Bool) (l : Left) (ls : List Left) (us : List Machine) → l.0.state ≡ shown r u
    → shown_of ls ≡ map (shown r) us → shown_of (cond b (l ∷ ls) ls) ≡ map (shown r) (cond b (u ∷ us) us)
split r u true l ls us e f = λ i. e i ∷ f i
split r u false l ls us e f = f

-- the states of a patched run's moments are the views of its outside states, with deliveries too
outside_states : (r : Rewriting) (before : List Machine) (u : Machine) (us : List Item)
    → shown_of (moments_with r before u us) ≡ map (shown r) (outside r (states_of u us))
outside_states r before u [] = split r u (is_start r.listed u.rip) (seen_moment r before u, None) [] [] refl refl
outside_states r before u (i ∷ us) =
    split r u (is_start r.listed u.rip) (seen_moment r before u, taken i) (moments_with r (before ++ u ∷ []) (after u i) us)
    (outside r (states_of (after u i) us)) refl (outside_states r (before ++ u ∷ []) (after u i) us)

-- the states of the original's moments are the views of its states, with deliveries too
due_states : (r : Rewriting) (before : List Machine) (s : Machine) (is : List Item)
    → shown_of (due_with r before s is) ≡ map (shown r) (states_of s is)
due_states r before s [] = refl
due_states r before s (Stepped t ∷ is) = ap (λ (z : List Machine). shown r s ∷ z) (due_states r (before ++ s ∷ []) t is)
due_states r before s (Taken d ∷ is) = ap (λ (z : List Machine). shown r s ∷ z) (due_states r before (delivered d s) is)

-- the moment at the end of a run, where these states came before
abbrev ending : Rewriting → List Machine → Machine → List Item → Moment
ending r before u us = record { state = shown r (end_of u us); events = passes r (before ++ states_of u us); part = data_of r (end_of u us) }

abbrev due_ending : Rewriting → List Machine → Machine → List Item → Moment
due_ending r before s is = due_moment r (before ++ stepped_at s is) (end_of s is)

-- a moment in front of others under a test doesn't change which one is last
by_last : (b : Bool) (d : Moment) (l : Left) (ls : List Left) (m : Moment) → ((x : Moment) → last_left x ls ≡ m)
    → last_left d (cond b (l ∷ ls) ls) ≡ m
by_last true d l ls m h = h l.0
by_last false d l ls m h = h d

-- the last moment of a patched run with deliveries that ends outside is that of its last state
last_outside : (r : Rewriting) (d : Moment) (before : List Machine) (u : Machine) (us : List Item)
    → is_start r.listed (end_of u us).rip ≡ true → last_left d (moments_with r before u us) ≡ ending r before u us
last_outside r d before u [] h = ap (last_left d) (cond-true (is_start r.listed u.rip) ((seen_moment r before u, None) ∷ []) [] h)
last_outside r d before u (i ∷ us) h =
    by_last (is_start r.listed u.rip) d (seen_moment r before u, taken i) (moments_with r (before ++ u ∷ []) (after u i) us)
    (ending r before u (i ∷ us)) (λ m. last_outside r m (before ++ u ∷ []) (after u i) us h ∙ shift)
  where
    shift : ending r (before ++ u ∷ []) (after u i) us ≡ ending r before u (i ∷ us)
    shift = λ j. record {
      state = shown r (end_of (after u i) us);
      events = passes r (append_assoc before (u ∷ []) (states_of (after u i) us) j);
      part = data_of r (end_of (after u i) us);
    }

-- the last moment of the original's run with deliveries is that of its last state
last_due : (r : Rewriting) (d : Moment) (before : List Machine) (s : Machine) (is : List Item)
    → last_left d (due_with r before s is) ≡ due_ending r before s is
last_due r d before s [] = ap (λ (z : List Machine). due_moment r z s) (sym (append-nil before))
last_due r d before s (Stepped t ∷ is) = last_due r (due_moment r before s) (before ++ s ∷ []) t is
    ∙ ap (λ (z : List Machine). due_moment r z (end_of t is)) (append_assoc before (s ∷ []) (stepped_at t is))
last_due r d before s (Taken e ∷ is) = last_due r (due_moment r before s) before (delivered e s) is

-- a run of n items has n + 1 states
states_many : (s : Machine) (is : List Item) → length (states_of s is) ≡ length is + 1
states_many s [] = refl
states_many s (i ∷ is) = omega (arith, states_many (after s i) is)

-- a patched run that ends outside and has the original's moments says so
pub said_by_moments : (r : Rewriting) (a : Machine) (is : List Item) (b : Machine) (us : List Item)
    → is_start r.listed (end_of b us).rip ≡ true → moments_with r [] b us ≡ due_with r [] a is → SaidWith r a is b us
said_by_moments r a is b us h e =
    let d : Moment = due_moment r [] a in
    let q : ending r [] b us ≡ due_ending r [] a is = sym (last_outside r d [] b us h) ∙ ap (last_left d) e ∙ last_due r d [] a is in
    let s : map (shown r) (outside r (states_of b us)) ≡ map (shown r) (states_of a is) = sym (outside_states r [] b us)
    ∙ ap shown_of e ∙ due_states r [] a is in
    let p : passes r (states_of b us) ≡ log r (stepped_at a is) = ap (λ (m : Moment). m.events) q in
    record {
      as_many = sym (length-map (outside r (states_of b us)) (shown r)) ∙ ap length s ∙ length-map (states_of a is) (shown r) ∙ states_many a is;
      alike = s;
      ends_alike = ap (λ (m : Moment). m.state) q;
      in_order = p;
      as_often = λ i. ap (times i) p;
      recorded = ap (λ (m : Moment). m.part) q;
    }

-- a patched run that follows says so
pub said_with : FollowsSaidWith
said_with r a is b us f = said_by_moments r a is b us f.ends_outside f.same
