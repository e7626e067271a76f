-- The theorem on guest threads, with deliveries and without.
use Rattle.std.proofs.Common.{◌≡◌, List, [], ◌∷◌, ◌++◌, map, Some, sym, ap, ◌∙◌, subst}
use Rattle.std.specs.Prelude.{slice_get}
use Rattle.std.specs.List.{AllByRecursion}
use Rattle.start_entries.specs.Standing.{AreEntries}
use Rattle.thread_runs.specs.Threading.{Threading, IsThreadSound}
use Rattle.thread_runs.specs.Watching.{Watch, EffectStep, watch_of}
use Rattle.thread_runs.specs.Guest.{Guest, last_guest}
use Rattle.thread_runs.specs.Premises.{StandAtStarts}
use Rattle.thread_runs.specs.StepLaws.{StepLaws}
use Rattle.thread_runs.specs.Theorem.{AreCounted, AreCovered, last_watch, CanGo, GetsOut, AreFollowed, GetOut, ThreadsAreFollowed}
use Rattle.thread_runs.specs.Ring.{AreKept}
use Rattle.thread_runs.specs.GuestDeliveries.{GuestItem, Goes, Takes}
use Rattle.thread_runs.specs.WatchedDeliveries.{WatchWith, watch_with, IsGone, IsGiven, IsProperRunWith, last_with}
use Rattle.thread_runs.specs.TheoremWithDeliveries.{IsGuestFollowedWith, AreFollowedWith, GetOutWith, ThreadsAreFollowedWith}
use Rattle.thread_runs.proofs.AllStepLaws.{step_laws}
use Rattle.thread_runs.proofs.WatchedRelation.{Related}
use Rattle.thread_runs.proofs.WatchedSteps.{stepped, shown, started}
use Rattle.thread_runs.proofs.GivenGuests.{given_kept}
use Rattle.thread_runs.proofs.WayOut.{gets_out, runs_same}
use Rattle.thread_runs.proofs.PlainGuests.{plain, items_of, plain_run, plain_last, goes_with, all_plain}

-- a run begins where all stand at starts
pub begun : (r : Threading) (is : List GuestItem) (x : WatchWith) (xs : List WatchWith) → IsProperRunWith r is x xs → StandAtStarts r x.watch.threads
begun r [] x [] P = P
begun r [] x (y ∷ ys) P = absurd P
begun r (i ∷ is) x [] P = absurd P
begun r (i ∷ is) x (y ∷ ys) P = P.0

module _ (r : Threading) (A : AreEntries r.original r.listed) (S : IsThreadSound r) (L : StepLaws) where
  -- each item of a proper run keeps the relation
  item_kept : (a : Guest) (i : GuestItem) (x y : WatchWith) → Related r S a x.made x.watch → IsProperRunWith r (i ∷ []) x (y ∷ []) → Related r S a y.made y.watch
  item_kept a (Goes k) x y R P =
      let g : IsGone r k x y = P.1 in
      subst (λ (z : List GuestItem). Related r S a z y.watch) (sym g.made) (stepped r A S L a x.made k x.watch y.watch R g.step g.proper)
  item_kept a (Takes k d) x y R P =
      let g : IsGiven r k d x y = P.1 in
      subst (λ (z : List GuestItem). Related r S a z y.watch) (sym g.made)
      (subst (λ (z : Watch). Related r S a (x.made ++ Takes k d ∷ []) z) (sym g.after) (given_kept r A S L a k d x y R g))

  -- along a proper run each guest is followed, counted, covered and kept, and the last one keeps the relation
  pub along : (a : Guest) (is : List GuestItem) (x : WatchWith) (xs : List WatchWith) → Related r S a x.made x.watch → IsProperRunWith r is x xs
      → AllByRecursion (λ y. IsGuestFollowedWith r a y × AreCounted r y.watch × AreCovered r y.watch × AreKept r y.watch) (x ∷ xs) × Related r S a (last_with x xs).made (last_with x xs).watch
  along a [] x [] R P = ((shown r A S L a x R, tt), R)
  along a [] x (y ∷ ys) R P = absurd P
  along a (i ∷ is) x [] R P = absurd P
  along a (i ∷ is) x (y ∷ ys) R P =
      let q = along a is y ys (item_kept a i x y R (P.0, P.1, begun r is y ys P.2)) P.2 in
      ((shown r A S L a x R, q.0), q.1)

  -- each proper run with deliveries from start guests is followed and counted
  followed_with : AreFollowedWith r
  followed_with a b is xs G P = (along a is (watch_with b) xs (started r A S L a b G (begun r is (watch_with b) xs P)) P).0

  -- a thread that can go gets out
  out_with : GetOutWith r
  out_with a b is xs G P f k one e C =
      let x = last_with (watch_with b) xs in
      let R : Related r S a x.made x.watch = (along a is (watch_with b) xs (started r A S L a b G (begun r is (watch_with b) xs P)) P).1 in
      let same : last_guest a f.states ≡ R.end = ap (last_guest a) (runs_same r.listed x.made a f.states R.states f.run R.run) ∙ R.last in
      subst (λ (g : Guest). (c : CanGo r x.watch one g) → GetsOut r k x.watch one c.to) (sym same) (gets_out r A S L k a x.made x.watch one R e) C

  -- a run without deliveries is one with none
  followed : AreFollowed r
  followed a b ks ws G P = all_plain r a (watch_of b ∷ ws) (followed_with a b (items_of ks) (map plain ws) G (plain_run r ks (watch_of b) ws P))

  out : GetOut r
  out a b ks ws G P f k one e C =
      let w = last_watch (watch_of b) ws in
      let q = plain_last (watch_of b) ws in
      subst (λ (x : WatchWith). (h : IsGuestFollowedWith r a x) → slice_get x.watch.threads k ≡ Some one → (c : CanGo r x.watch one (last_guest a h.states)) → GetsOut r k x.watch one c.to) q
      (λ h e c. out_with a b (items_of ks) (map plain ws) G (plain_run r ks (watch_of b) ws P) h k one e c)
      (record { states = f.states; run = goes_with r.listed (map (λ (e : EffectStep). e.thread) w.log) a f.states f.run; beside = f.beside }) e C

-- runs of a patched guest with deliveries that meet the premises are followed and counted, and threads get out of the trampolines
pub threads_followed_with : ThreadsAreFollowedWith
threads_followed_with r A S = (followed_with r A S step_laws, out_with r A S step_laws)

-- so are those without
pub threads_followed : ThreadsAreFollowed
threads_followed r A S = (followed r A S step_laws, out r A S step_laws)
