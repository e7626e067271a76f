-- Deliveries to the threads of a watched guest: what they change, and what is asked of them. Theorems cite it.
use Rattle.std.specs.Prelude.{◌≡◌, ◌≢◌, ℕ, Bool, true, not, ◌==◌, if◌then◌else◌, List, [], ◌∷◌, ◌++◌, Some, slice_get, slice_set}
use Rattle.insn_form.specs.Machine.{put_all, avoids_writes}
use Rattle.insn_form.specs.Alike.{still}
use Rattle.image_runs.specs.declared.delivery.Delivery.{Delivery}
use Rattle.image_runs.specs.Deliveries.{Fits}
use Rattle.thread_runs.specs.Guest.{Guest, machine_of}
use Rattle.thread_runs.specs.Threading.{Threading, is_new, has_saved, is_saved_by}
use Rattle.thread_runs.specs.Watching.{Watched, Watch, watch_of, is_effect, Watches}
use Rattle.thread_runs.specs.Premises.{StandAtStarts, IsProper}
use Rattle.thread_runs.specs.GuestDeliveries.{GuestItem, Goes, Takes, given}

-- a watched guest, and the items of the original's run so far, in order: its effect steps, and the
-- deliveries
pub record WatchWith : Type 0 where
  pub watch : Watch
  pub made : List GuestItem

-- at the start none was made
abbrev pub watch_with : Guest → WatchWith
watch_with g = record { watch = watch_of g; made = [] }

-- the delivery writes the byte at an address
abbrev pub writes_byte : Delivery → ℕ → Bool
writes_byte d x = not (avoids_writes (λ a. x == a) d.writes)

-- the watched guest after a delivery to thread k: the thread and its projection take it, what it
-- writes is no longer stale, and no effect step is made
abbrev pub watched_given : ℕ → Watched → Delivery → Watch → Watch
watched_given k one d w = record {
  threads = slice_set w.threads k (record { now = given d one.now; projected = given d one.projected });
  mem = put_all w.mem d.writes;
  stale = still w.stale (writes_byte d);
  log = w.log;
  claims = w.claims;
  fills = w.fills;
}

-- the items of the original's run after a step of thread k: with this step, where it is an effect
-- step
abbrev pub made_after : Threading → ℕ → Watched → List GuestItem → List GuestItem
made_after r k one made = if is_effect r one.now.rip then made ++ Goes k ∷ [] else made

-- a delivery to thread k writes none of the saved bytes of any other thread that stands between its
-- save and its restore
abbrev pub WritesNoSaved : Threading → Watch → ℕ → Delivery → Type 0
WritesNoSaved r w k d =
    (j : ℕ) (other : Watched) → j ≢ k → slice_get w.threads j ≡ Some other → has_saved r other.now.rip ≡ true
    → avoids_writes (is_saved_by r other.now.core) d.writes ≡ true

-- One step of thread k that meets the premises.
pub record IsGone (r : Threading) (k : ℕ) (x y : WatchWith) : Type 0 where
  pub step : Watches r k x.watch y.watch
  pub proper : IsProper r k x.watch y.watch step
  pub made : y.made ≡ made_after r k step.one x.made

-- A delivery to thread k that meets the premises: it fits, so that the thread stands outside, where
-- it is its projection; and it writes no new byte, and none that another thread has saved.
pub record IsGiven (r : Threading) (k : ℕ) (d : Delivery) (x y : WatchWith) : Type 0 where
  pub one : Watched
  pub there : slice_get x.watch.threads k ≡ Some one
  pub fits : Fits r.listed (machine_of x.watch.mem one.now) d
  pub old : avoids_writes (is_new r) d.writes ≡ true
  pub apart : WritesNoSaved r x.watch k d
  pub after : y.watch ≡ watched_given k one d x.watch
  pub made : y.made ≡ x.made ++ Takes k d ∷ []

-- an item of a watched run that meets the premises
abbrev pub IsProperItem : Threading → GuestItem → WatchWith → WatchWith → Type 0
IsProperItem r (Goes k) x y = IsGone r k x y
IsProperItem r (Takes k d) x y = IsGiven r k d x y

-- a run of the watched guest with deliveries, all of whose items meet the premises
abbrev pub IsProperRunWith : Threading → List GuestItem → WatchWith → List WatchWith → Type 0
IsProperRunWith r [] x [] = StandAtStarts r x.watch.threads
IsProperRunWith r [] x (y ∷ ys) = ⊥
IsProperRunWith r (i ∷ is) x [] = ⊥
IsProperRunWith r (i ∷ is) x (y ∷ ys) = StandAtStarts r x.watch.threads × IsProperItem r i x y × IsProperRunWith r is y ys

-- where a watched run ends
abbrev pub last_with : WatchWith → List WatchWith → WatchWith
last_with x [] = x
last_with x (y ∷ ys) = last_with y ys
