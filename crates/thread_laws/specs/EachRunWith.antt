-- Each run of a guest with deliveries is one that is watched. Theorems cite it.
use Rattle.std.specs.Prelude.{◌≡◌, List, [], ◌∷◌, Some, slice_get, map, ℕ}
use Rattle.image_runs.specs.declared.delivery.Delivery.{Delivery}
use Rattle.image_runs.specs.Deliveries.{Fits}
use Rattle.thread_runs.specs.Guest.{Guest, machine_of}
use Rattle.thread_runs.specs.Threading.{Threading}
use Rattle.thread_runs.specs.Watching.{Watched, Watch, guest_of, watch_of, Watches}
use Rattle.thread_runs.specs.GuestDeliveries.{GuestItem, Goes, Takes, IsInterleavedWith}
use Rattle.thread_runs.specs.WatchedDeliveries.{watched_given}

-- a delivery to thread k of a watched guest that fits
pub record WatchesGiven (r : Threading) (k : ℕ) (d : Delivery) (w v : Watch) : Type 0 where
  pub one : Watched
  pub there : slice_get w.threads k ≡ Some one
  pub fits : Fits r.listed (machine_of w.mem one.now) d
  pub after : v ≡ watched_given k one d w

-- an item leads from one watched guest to another
abbrev pub WatchesBy : Threading → GuestItem → Watch → Watch → Type 0
WatchesBy r (Goes k) w v = Watches r k w v
WatchesBy r (Takes k d) w v = WatchesGiven r k d w v

-- the watched guests after w, one for each item
abbrev pub IsWatchedWith : Threading → List GuestItem → Watch → List Watch → Type 0
IsWatchedWith r [] w [] = Unit {0}
IsWatchedWith r [] w (v ∷ vs) = ⊥
IsWatchedWith r (i ∷ is) w [] = ⊥
IsWatchedWith r (i ∷ is) w (v ∷ vs) = WatchesBy r i w v × IsWatchedWith r is v vs

-- watching adds nothing: the guests of a run with deliveries are those of a watched one
abbrev pub EachRunWithIsWatched : Type 0
EachRunWithIsWatched = (r : Threading) (items : List GuestItem) (g : Guest) (gs : List Guest) → IsInterleavedWith r.listed items g gs
    → (ws : List Watch) × IsWatchedWith r items (watch_of g) ws × (map guest_of ws ≡ gs)
