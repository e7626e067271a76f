-- Each run of a guest with deliveries is one that is watched.
use Rattle.std.proofs.Common.{◌≡◌, ℕ, zero, suc, List, [], ◌∷◌, map, Some, refl, sym, ap, ◌∙◌, subst}
use Rattle.std.specs.Prelude.{slice_get, slice_set}
use Rattle.insn_form.specs.Machine.{put_all}
use Rattle.image_runs.specs.Deliveries.{Fits}
use Rattle.event_steps.specs.ThreadSteps.{ThreadStepsBy}
use Rattle.thread_runs.specs.Guest.{Thread, Guest, machine_of, thread_of}
use Rattle.thread_runs.specs.Threading.{Threading}
use Rattle.thread_runs.specs.Watching.{Watched, Watch, guest_of, watch_of, projection, watched_after}
use Rattle.thread_runs.specs.GuestDeliveries.{GuestItem, Goes, Takes, given, LeadsBy, IsInterleavedWith}
use Rattle.thread_runs.specs.WatchedDeliveries.{watched_given}
use Rattle.thread_laws.specs.EachRunWith.{WatchesBy, IsWatchedWith, EachRunWithIsWatched}
use Rattle.patch_report.proofs.ListPlaces.{some_is}
use Rattle.thread_runs.proofs.ListUpdates.{map_set}

abbrev now : Watched → Thread
now t = t.now

-- each thread of the guest at an index is that of the watched thread there
behind_map : (xs : List Watched) (k : ℕ) (y : Thread) → slice_get (map now xs) k ≡ Some y → (x : Watched) × (slice_get xs k ≡ Some x) × (x.now ≡ y)
behind_map [] k y e = absurd cc
behind_map (x ∷ xs) zero y e = (x, refl, some_is x.now y e)
behind_map (x ∷ xs) (suc k) y e = behind_map xs k y e

-- an item from the guest of a watched one leads to that of a watched one
item_watched : (r : Threading) (i : GuestItem) (w : Watch) (g : Guest) → LeadsBy r.listed i (guest_of w) g → (v : Watch) × WatchesBy r i w v × (guest_of v ≡ g)
item_watched r (Goes k) w g m =
    let q = behind_map w.threads k m.thread m.there in
    let one = q.0 in
    let f = m.steps.0 in
    let to = m.to in
    let v = watched_after r k w one f to in
    let st : ThreadStepsBy f (machine_of w.mem one.now) to = subst (λ t. ThreadStepsBy f (machine_of w.mem t) to) (sym q.2) m.steps.1 in
    let p = map_set now w.threads k (record { now = thread_of to; projected = projection r one w.mem to }) in
    let e : guest_of v ≡ g = (λ i. record { threads = p i; mem = to.mem }) ∙ sym m.after in
    (v, record { one = one; there = q.1; fields = f; to = to; steps = st; after = refl }, e)
item_watched r (Takes k d) w g m =
    let q = behind_map w.threads k m.thread m.there in
    let one = q.0 in
    let v = watched_given k one d w in
    let fits : Fits r.listed (machine_of w.mem one.now) d = subst (λ (t : Thread). Fits r.listed (machine_of w.mem t) d) (sym q.2) m.fits in
    let p = map_set now w.threads k (record { now = given d one.now; projected = given d one.projected }) ∙ ap (λ (t : Thread). slice_set (map now w.threads) k (given d t)) q.2 in
    let e : guest_of v ≡ g = (λ i. record { threads = p i; mem = put_all w.mem d.writes }) ∙ sym m.after in
    (v, record { one = one; there = q.1; fits = fits; after = refl }, e)

-- a run from the guest of a watched one is the run of watched guests
each_from : (r : Threading) (is : List GuestItem) (w : Watch) (gs : List Guest) → IsInterleavedWith r.listed is (guest_of w) gs → (ws : List Watch) × IsWatchedWith r is w ws × (map guest_of ws ≡ gs)
each_from r [] w [] h = ([], tt, refl)
each_from r [] w (g ∷ gs) h = absurd h
each_from r (i ∷ is) w [] h = absurd h
each_from r (i ∷ is) w (g ∷ gs) h =
    let q = item_watched r i w g h.0 in
    let rest = each_from r is q.0 gs (subst (λ z. IsInterleavedWith r.listed is z gs) (sym q.2) h.1) in
    (q.0 ∷ rest.0, (q.1, rest.1), λ i. q.2 i ∷ rest.2 i)

-- at the start the threads of the watched guest are the guest's
map_back : (ts : List Thread) → map now (map (λ t. record { now = t; projected = t }) ts) ≡ ts
map_back [] = refl
map_back (t ∷ ts) = ap (λ l. t ∷ l) (map_back ts)

-- the guests of each run with deliveries are those of a watched one
pub each_run_with : EachRunWithIsWatched
each_run_with r items g gs h =
    let e : guest_of (watch_of g) ≡ g = (let p = map_back g.threads in λ i. record { threads = p i; mem = g.mem }) in
    each_from r items (watch_of g) gs (subst (λ z. IsInterleavedWith r.listed items z gs) (sym e) h)
