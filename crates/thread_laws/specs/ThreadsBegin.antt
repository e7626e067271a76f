-- Guests whose threads begin on the way: what holds of each run of the patched guest that meets the premises. Theorems cite it.
use Rattle.std.specs.Prelude.{◌≡◌, ℕ, ◌^◌, ◌<◌, true, List, ◌∷◌, Some, slice_get}
use Rattle.std.specs.List.{AllByRecursion}
use Rattle.cpu_state.specs.declared.world.Entry.{Entry}
use Rattle.cpu_state.specs.Processor.{GiveWords}
use Rattle.start_entries.specs.Standing.{AreEntries}
use Rattle.image_runs.specs.Listed.{is_start}
use Rattle.thread_runs.specs.Guest.{Guest, last_guest}
use Rattle.thread_runs.specs.Threading.{Threading, IsThreadSound}
use Rattle.thread_runs.specs.Watching.{Watched}
use Rattle.thread_runs.specs.Theorem.{AreStartGuests, LiesBeside, AreCounted, AreCovered, CanGo, GetsOut}
use Rattle.thread_runs.specs.Ring.{AreKept}
use Rattle.thread_laws.specs.Beginning.{BirthItem, CanBegin, child_of, IsGrowing, GrowingWatch, growing_watch, IsProperGrowing, last_growing}

-- The effect steps, the deliveries and the threads that began so far are a run of the original, in the same order, which ends in a
-- guest that lies beside the watched one.
pub record IsGrowingFollowed (r : Threading) (a : Guest) (x : GrowingWatch) : Type 0 where
  pub states : List Guest
  pub run : IsGrowing r.listed x.made a states
  pub beside : LiesBeside r (last_guest a states) x.watch

-- Each proper run from start guests, however many threads begin, is followed, counted, covered and kept, at each moment.
abbrev pub AreGrowingFollowed : Threading → Type 0
AreGrowingFollowed r = (a b : Guest) (items : List BirthItem) (xs : List GrowingWatch) → AreStartGuests r a b → is_start r.listed r.entry ≡ true
    → IsProperGrowing r items (growing_watch b) xs
    → AllByRecursion (λ x. IsGrowingFollowed r a x × AreCounted r x.watch × AreCovered r x.watch × AreKept r x.watch) (growing_watch b ∷ xs)

-- From each state that such a run reaches, a thread that can go gets out, to where the original's step leads.
abbrev pub GetOutGrowing : Threading → Type 0
GetOutGrowing r = (a b : Guest) (items : List BirthItem) (xs : List GrowingWatch) → AreStartGuests r a b → is_start r.listed r.entry ≡ true
    → IsProperGrowing r items (growing_watch b) xs
    → (f : IsGrowingFollowed r a (last_growing (growing_watch b) xs)) (k : ℕ) (one : Watched) → slice_get (last_growing (growing_watch b) xs).watch.threads k ≡ Some one
    → (c : CanGo r (last_growing (growing_watch b) xs).watch one (last_guest a f.states)) → GetsOut r k (last_growing (growing_watch b) xs).watch one c.to

-- In each state that such a run reaches, what clone makes of a thread at a listed start can begin. A thread stands there after its call
-- where the call's SYSCALL isn't displaced and the address after it is listed: then the call leads to that address itself. After a displaced
-- SYSCALL the parent stands inside the trampoline, and its child would begin there.
abbrev pub ClonesCanBegin : Threading → Type 0
ClonesCanBegin r = (a b : Guest) (items : List BirthItem) (xs : List GrowingWatch) → AreStartGuests r a b → is_start r.listed r.entry ≡ true
    → IsProperGrowing r items (growing_watch b) xs
    → (k : ℕ) (parent : Watched) → slice_get (last_growing (growing_watch b) xs).watch.threads k ≡ Some parent → is_start r.listed parent.now.rip ≡ true
    → (stack base : ℕ) (world : List Entry) → stack < 2 ^ 64 → GiveWords world → CanBegin r.listed (child_of parent.now stack base world)

-- So it is whatever the images, the entries and the patched sites are.
abbrev pub ThreadsMayBegin : Type 0
ThreadsMayBegin = (r : Threading) → AreEntries r.original r.listed → IsThreadSound r → AreGrowingFollowed r × GetOutGrowing r × ClonesCanBegin r
