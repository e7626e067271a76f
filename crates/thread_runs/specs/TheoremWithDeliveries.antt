-- Guest threads upon which something is delivered: what holds of each run of the patched guest that meets the premises. Theorems cite it.
use Rattle.std.specs.Prelude.{◌≡◌, ℕ, List, ◌∷◌, Some, slice_get}
use Rattle.std.specs.List.{AllByRecursion}
use Rattle.start_entries.specs.Standing.{AreEntries}
use Rattle.thread_runs.specs.Guest.{Guest, last_guest}
use Rattle.thread_runs.specs.Threading.{Threading, IsThreadSound}
use Rattle.thread_runs.specs.Watching.{Watched}
use Rattle.thread_runs.specs.Theorem.{AreStartGuests, LiesBeside, AreCounted, AreCovered, CanGo, GetsOut}
use Rattle.thread_runs.specs.Ring.{AreKept}
use Rattle.thread_runs.specs.GuestDeliveries.{GuestItem, IsInterleavedWith}
use Rattle.thread_runs.specs.WatchedDeliveries.{WatchWith, watch_with, IsProperRunWith, last_with}

-- The effect steps and the deliveries so far are an interleaved run of the original, in the same
-- order, which ends in a guest that lies beside the watched one.
pub record IsGuestFollowedWith (r : Threading) (a : Guest) (x : WatchWith) : Type 0 where
  pub states : List Guest
  pub run : IsInterleavedWith r.listed x.made a states
  pub beside : LiesBeside r (last_guest a states) x.watch

-- Each proper run with deliveries from start guests is followed, counted, covered and kept, at each moment.
abbrev pub AreFollowedWith : Threading → Type 0
AreFollowedWith r = (a b : Guest) (items : List GuestItem) (xs : List WatchWith) → AreStartGuests r a b → IsProperRunWith r items (watch_with b) xs
    → AllByRecursion (λ x. IsGuestFollowedWith r a x × AreCounted r x.watch × AreCovered r x.watch × AreKept r x.watch) (watch_with b ∷ xs)

-- From each state that a proper run with deliveries from start guests reaches, a thread that can go
-- gets out, to where the original's step leads.
abbrev pub GetOutWith : Threading → Type 0
GetOutWith r = (a b : Guest) (items : List GuestItem) (xs : List WatchWith) → AreStartGuests r a b → IsProperRunWith r items (watch_with b) xs
    → (f : IsGuestFollowedWith r a (last_with (watch_with b) xs)) (k : ℕ) (one : Watched) → slice_get (last_with (watch_with b) xs).watch.threads k ≡ Some one
    → (c : CanGo r (last_with (watch_with b) xs).watch one (last_guest a f.states)) → GetsOut r k (last_with (watch_with b) xs).watch one c.to

-- Proper runs with deliveries from start guests are followed, and from them threads get out,
-- whatever the images, the entries and the patched sites are.
abbrev pub ThreadsAreFollowedWith : Type 0
ThreadsAreFollowedWith = (r : Threading) → AreEntries r.original r.listed → IsThreadSound r → AreFollowedWith r × GetOutWith r
