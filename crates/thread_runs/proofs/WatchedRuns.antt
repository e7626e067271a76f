-- Each run of a guest is one that is watched.
use Rattle.std.proofs.Common.{◌≡◌, ℕ, zero, suc, List, [], ◌∷◌, map, Some, refl, sym, ap, ◌∙◌, subst}
use Rattle.std.specs.Prelude.{slice_get}
use Rattle.event_steps.specs.ThreadSteps.{ThreadStepsBy}
use Rattle.thread_runs.specs.Guest.{Thread, Guest, machine_of, thread_of, IsInterleaved}
use Rattle.thread_runs.specs.Threading.{Threading}
use Rattle.thread_runs.specs.Watching.{Watched, Watch, guest_of, watch_of, projection, watched_after}
use Rattle.thread_runs.specs.Theorem.{IsWatched}
use Rattle.thread_runs.specs.EachRun.{EachRunIsWatched}
use Rattle.patch_report.proofs.ListPlaces.{some_is}
use Rattle.thread_runs.proofs.ListUpdates.{map_set}

abbrev now : Watched → Thread
now t = t.now

-- each thread of the guest at an index is that of the watched thread there
behind_map : (xs : List Watched) (k : ℕ) (y : Thread) → slice_get (map now xs) k ≡ Some y → (x : Watched) × (slice_get xs k ≡ Some x) × (x.now ≡ y)
behind_map [] k y e = absurd cc
behind_map (x ∷ xs) zero y e = (x, refl, some_is x.now y e)
behind_map (x ∷ xs) (suc k) y e = behind_map xs k y e

-- a run from the guest of a watched one is the run of watched guests
each_from : (r : Threading) (ks : List ℕ) (w : Watch) (gs : List Guest) → IsInterleaved ks (guest_of w) gs → (ws : List Watch) × IsWatched r ks w ws × (map guest_of ws ≡ gs)
each_from r [] w [] h = ([], tt, refl)
each_from r [] w (g ∷ gs) h = absurd h
each_from r (k ∷ ks) w [] h = absurd h
each_from r (k ∷ ks) w (g ∷ gs) h =
    let m = h.0 in
    let q = behind_map w.threads k m.thread m.there in
    let one = q.0 in
    let f = m.steps.0 in
    let to = m.to in
    let v = watched_after r k w one f to in
    let st : ThreadStepsBy f (machine_of w.mem one.now) to = subst (λ t. ThreadStepsBy f (machine_of w.mem t) to) (sym q.2) m.steps.1 in
    let p = map_set now w.threads k (record { now = thread_of to; projected = projection r one w.mem to }) in
    let e : guest_of v ≡ g = (λ i. record { threads = p i; mem = to.mem }) ∙ sym m.after in
    let rest = each_from r ks v gs (subst (λ z. IsInterleaved ks z gs) (sym e) h.1) in
    (v ∷ rest.0, (record { one = one; there = q.1; fields = f; to = to; steps = st; after = refl }, rest.1), λ i. e i ∷ rest.2 i)

-- at the start the threads of the watched guest are the guest's
map_back : (ts : List Thread) → map now (map (λ t. record { now = t; projected = t }) ts) ≡ ts
map_back [] = refl
map_back (t ∷ ts) = ap (λ l. t ∷ l) (map_back ts)

-- the guests of each run over a schedule are those of a watched one
pub each_run : EachRunIsWatched
each_run r schedule g gs h =
    let e : guest_of (watch_of g) ≡ g = (let p = map_back g.threads in λ i. record { threads = p i; mem = g.mem }) in
    each_from r schedule (watch_of g) gs (subst (λ z. IsInterleaved schedule z gs) (sym e) h)
