-- Runs of guests without deliveries, as runs of items.
use Rattle.std.proofs.Common.{◌≡◌, ℕ, Bool, true, false, cond, List, [], ◌∷◌, ◌++◌, map, refl, ap, ◌∙◌}
use Rattle.std.specs.List.{AllByRecursion}
use Rattle.std.proofs.lemmas.List.{map-append}
use Rattle.start_entries.specs.declared.entry.StartEntry.{StartEntry}
use Rattle.thread_runs.specs.Guest.{Guest, IsInterleaved}
use Rattle.thread_runs.specs.Threading.{Threading}
use Rattle.thread_runs.specs.Watching.{Watched, Watch, EffectStep, is_effect, logged, Watches}
use Rattle.thread_runs.specs.Premises.{StandAtStarts, IsProperRun}
use Rattle.thread_runs.specs.Theorem.{IsGuestFollowed, AreCounted, AreCovered, last_watch}
use Rattle.thread_runs.specs.Ring.{AreKept}
use Rattle.thread_runs.specs.GuestDeliveries.{GuestItem, Goes, IsInterleavedWith}
use Rattle.thread_runs.specs.WatchedDeliveries.{WatchWith, made_after, IsProperItem, IsProperRunWith, last_with}
use Rattle.thread_runs.specs.TheoremWithDeliveries.{IsGuestFollowedWith}
use Rattle.thread_runs.proofs.WayOut.{runs_same}

-- the items of a schedule
abbrev pub items_of : List ℕ → List GuestItem
items_of ks = map Goes ks

-- the effect steps of a log as items
abbrev pub steps_of : List EffectStep → List GuestItem
steps_of log = items_of (map (λ e. e.thread) log)

-- a watched guest without deliveries
abbrev pub plain : Watch → WatchWith
plain w = record { watch = w; made = steps_of w.log }

-- the items of the log after a step are those before it, with this step where it is an effect step
made_plain : (r : Threading) (k : ℕ) (one : Watched) (log : List EffectStep) → steps_of (logged r k one log) ≡ made_after r k one (steps_of log)
made_plain r k one log = by_effect (is_effect r one.now.rip)
  where
    by_effect : (b : Bool) → steps_of (cond b (log ++ record { thread = k; at = one.projected.rip; core = one.projected.core } ∷ []) log) ≡ cond b (steps_of log ++ Goes k ∷ []) (steps_of log)
    by_effect true = ap items_of (map-append (λ (e : EffectStep). e.thread) log _) ∙ map-append Goes (map (λ (e : EffectStep). e.thread) log) _
    by_effect false = refl

-- a proper run over a schedule is one of its items
pub plain_run : (r : Threading) (ks : List ℕ) (w : Watch) (ws : List Watch) → IsProperRun r ks w ws → IsProperRunWith r (items_of ks) (plain w) (map plain ws)
plain_run r [] w [] P = P
plain_run r [] w (v ∷ vs) P = absurd P
plain_run r (k ∷ ks) w [] P = absurd P
plain_run r (k ∷ ks) w (v ∷ vs) P =
    let m : Watches r k w v = P.1.0 in
    (P.0, record { step = m; proper = P.1.1; made = ap (λ (z : Watch). steps_of z.log) m.after ∙ made_plain r k m.one w.log }, plain_run r ks v vs P.2)

-- a proper run with one more item
pub run_then : (r : Threading) (is : List GuestItem) (x : WatchWith) (xs : List WatchWith) (i : GuestItem) (y : WatchWith) → IsProperRunWith r is x xs
    → IsProperItem r i (last_with x xs) y → StandAtStarts r y.watch.threads → IsProperRunWith r (is ++ i ∷ []) x (xs ++ y ∷ [])
run_then r [] x [] i y P m e = (P, m, e)
run_then r [] x (z ∷ zs) i y P m e = absurd P
run_then r (j ∷ js) x [] i y P m e = absurd P
run_then r (j ∷ js) x (z ∷ zs) i y P m e = (P.0, P.1, run_then r js z zs i y P.2 m e)

-- it ends alike
pub plain_last : (w : Watch) (ws : List Watch) → last_with (plain w) (map plain ws) ≡ plain (last_watch w ws)
plain_last w [] = refl
plain_last w (v ∷ vs) = plain_last v vs

-- a run by the items of a schedule is interleaved over it
pub goes_plain : (listed : List StartEntry) (ks : List ℕ) (g : Guest) (gs : List Guest) → IsInterleavedWith listed (items_of ks) g gs → IsInterleaved ks g gs
goes_plain listed [] g [] h = tt
goes_plain listed [] g (x ∷ xs) h = absurd h
goes_plain listed (k ∷ ks) g [] h = absurd h
goes_plain listed (k ∷ ks) g (x ∷ xs) h = (h.0, goes_plain listed ks x xs h.1)

-- an interleaved run is one by the items of its schedule
pub goes_with : (listed : List StartEntry) (ks : List ℕ) (g : Guest) (gs : List Guest) → IsInterleaved ks g gs → IsInterleavedWith listed (items_of ks) g gs
goes_with listed [] g [] h = tt
goes_with listed [] g (x ∷ xs) h = absurd h
goes_with listed (k ∷ ks) g [] h = absurd h
goes_with listed (k ∷ ks) g (x ∷ xs) h = (h.0, goes_with listed ks x xs h.1)

-- over a schedule a guest has one run at most
pub runs_plain : (ks : List ℕ) (g : Guest) (gs hs : List Guest) → IsInterleaved ks g gs → IsInterleaved ks g hs → gs ≡ hs
runs_plain ks g gs hs p q = runs_same [] (items_of ks) g gs hs (goes_with [] ks g gs p) (goes_with [] ks g hs q)

-- guests that are followed with deliveries are followed, where there are none
pub all_plain : (r : Threading) (a : Guest) (ws : List Watch) → AllByRecursion (λ x. IsGuestFollowedWith r a x × AreCounted r x.watch × AreCovered r x.watch × AreKept r x.watch) (map plain ws)
    → AllByRecursion (λ w. IsGuestFollowed r a w × AreCounted r w × AreCovered r w × AreKept r w) ws
all_plain r a [] h = tt
all_plain r a (w ∷ ws) h =
    let f = h.0.0 in
    ((record { states = f.states; run = goes_plain r.listed (map (λ (e : EffectStep). e.thread) w.log) a f.states f.run; beside = f.beside }, h.0.1, h.0.2, h.0.3), all_plain r a ws h.1)
