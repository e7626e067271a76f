-- Threads that others overtook inside a trampoline: they get out, too. Theorems cite it.
use Rattle.std.specs.Prelude.{◌≡◌, ◌⊎◌, ℕ, ◌+◌, ◌*◌, ◌≤◌, true, false, List, [], ◌∷◌, ◌++◌, length, replicate, Some, None, slice_get}
use Rattle.pun_base.specs.Memory.{Bytes}
use Rattle.length_decode.specs.Spelling.{Fields}
use Rattle.cpu_state.specs.Bytes.{lacking, avoids}
use Rattle.insn_form.specs.Machine.{Machine}
use Rattle.start_entries.specs.Standing.{AreEntries}
use Rattle.image_runs.specs.Listed.{is_start}
use Rattle.event_steps.specs.ThreadSteps.{ThreadStepsBy}
use Rattle.thread_runs.specs.Guest.{Guest, machine_of, thread_of, last_guest}
use Rattle.thread_runs.specs.ThreadCode.{saved_from, saved_len}
use Rattle.thread_runs.specs.Threading.{Threading, is_new, is_hidden, saves_at, is_saved_by, IsThreadSound}
use Rattle.thread_runs.specs.Watching.{Watched, Watch}
use Rattle.thread_runs.specs.Premises.{IsQuietAt, IsProperRun, reads_nothing_of}
use Rattle.thread_runs.specs.Relation.{AtSecond, AtEvent, BehindEffect}
use Rattle.thread_runs.specs.Theorem.{AreStartGuests, last_watch, IsWatched, LeaveSaved, when_at, further_at}
use Rattle.thread_runs.specs.GuestDeliveries.{GuestItem}
use Rattle.thread_runs.specs.WatchedDeliveries.{WatchWith, watch_with, IsProperRunWith, last_with}
use Rattle.thread_runs.specs.TheoremWithDeliveries.{IsGuestFollowedWith}
use Rattle.thread_laws.specs.Beginning.{BirthItem, GrowingWatch, growing_watch, IsProperGrowing, last_growing}
use Rattle.thread_laws.specs.ThreadsBegin.{IsGrowingFollowed}

-- a thread inside a trampoline, or at the second of two jumps to it, in front of its effect step
abbrev pub IsBefore : Threading → Bytes → Watched → Type 0
IsBefore r m one = AtSecond r one.now one.projected ⊎ AtEvent r m one.now one.projected

-- Such a thread can go on: the original's thread, its projection, has a step that is quiet and leads to a listed start, and reads no stale
-- byte. If the site's event saves rax, the saved bytes can be read and written, aren't new, and aren't read by the instruction.
pub record CanGoOn (r : Threading) (w : Watch) (one : Watched) (g : Guest) : Type 0 where
  pub fields : Fields
  pub to : Machine
  pub steps : ThreadStepsBy fields (machine_of g.mem one.projected) to
  pub quiet : IsQuietAt r (machine_of g.mem one.projected)
  pub ends : is_start r.listed to.rip ≡ true
  pub read : saves_at r one.projected.rip ≡ true → lacking 4 w.mem (saved_from r.ring one.projected.core) (saved_len r.ring) ≡ None
  pub written : saves_at r one.projected.rip ≡ true → lacking 2 w.mem (saved_from r.ring one.projected.core) (saved_len r.ring) ≡ None
  pub old : saves_at r one.projected.rip ≡ true → avoids (is_new r) (saved_from r.ring one.projected.core) (saved_len r.ring) ≡ true
  pub unread : saves_at r one.projected.rip ≡ true → reads_nothing_of (is_saved_by r one.projected.core) fields (machine_of g.mem one.projected) ≡ true
  pub fresh : reads_nothing_of w.stale fields (machine_of g.mem one.projected) ≡ true

-- Scheduled alone from w, thread k makes one effect step and no other, that of the instruction at which its projection stands, within as
-- many steps as a thread that comes to the trampoline (GetsOut), and then is the thread to which the original's step leads. Where its steps
-- leave the saved bytes of all other threads alone, they meet the premises.
pub record GetsOutFrom (r : Threading) (k : ℕ) (w : Watch) (one : Watched) (to : Machine) : Type 0 where
  pub few : ℕ
  pub bound : few ≤ 12 + 2 * length (when_at r.sites one.projected.rip) + further_at r.sites one.projected.rip
  pub states : List Watch
  pub run : IsWatched r (replicate few k) w states
  pub proper : LeaveSaved r (replicate few k) w states → IsProperRun r (replicate few k) w states
  pub there : slice_get (last_watch w states).threads k ≡ Some (record { now = thread_of to; projected = thread_of to })
  pub outside : is_start r.listed to.rip ≡ true
  pub memory : (x : ℕ) → is_hidden r x ≡ false → (last_watch w states).stale x ≡ false → to.mem x ≡ (last_watch w states).mem x
  pub effect : (last_watch w states).log ≡ w.log ++ record { thread = k; at = one.projected.rip; core = one.projected.core } ∷ []

-- Scheduled alone from w, thread k makes no effect step, and within two steps is its projection, a thread of the original's guest g. Where
-- these steps leave the saved bytes of all other threads alone, they meet the premises.
pub record LeavesBehind (r : Threading) (k : ℕ) (w : Watch) (one : Watched) (g : Guest) : Type 0 where
  pub few : ℕ
  pub bound : few ≤ 2
  pub states : List Watch
  pub run : IsWatched r (replicate few k) w states
  pub proper : LeaveSaved r (replicate few k) w states → IsProperRun r (replicate few k) w states
  pub there : slice_get (last_watch w states).threads k ≡ Some (record { now = one.projected; projected = one.projected })
  pub outside : is_start r.listed one.projected.rip ≡ true
  pub memory : (x : ℕ) → is_hidden r x ≡ false → (last_watch w states).stale x ≡ false → g.mem x ≡ (last_watch w states).mem x
  pub effect : (last_watch w states).log ≡ w.log

-- a thread in front of its effect step that can go on gets out, and one behind it leaves
abbrev pub LeavesTrampoline : Threading → ℕ → Watch → Watched → Guest → Type 0
LeavesTrampoline r k w one g = (IsBefore r w.mem one → (c : CanGoOn r w one g) → GetsOutFrom r k w one c.to) × (BehindEffect r w.mem one.now one.projected → LeavesBehind r k w one g)

-- Each thread leaves in each state that a proper run from start guests reaches, whatever other threads did meanwhile.
abbrev pub OvertakenGetOut : Threading → Type 0
OvertakenGetOut r = (a b : Guest) (items : List GuestItem) (xs : List WatchWith) → AreStartGuests r a b → IsProperRunWith r items (watch_with b) xs
    → (f : IsGuestFollowedWith r a (last_with (watch_with b) xs)) (k : ℕ) (one : Watched) → slice_get (last_with (watch_with b) xs).watch.threads k ≡ Some one
    → LeavesTrampoline r k (last_with (watch_with b) xs).watch one (last_guest a f.states)

-- So does each thread of a guest whose threads begin on the way.
abbrev pub OvertakenGetOutGrowing : Threading → Type 0
OvertakenGetOutGrowing r = (a b : Guest) (items : List BirthItem) (xs : List GrowingWatch) → AreStartGuests r a b → is_start r.listed r.entry ≡ true
    → IsProperGrowing r items (growing_watch b) xs
    → (f : IsGrowingFollowed r a (last_growing (growing_watch b) xs)) (k : ℕ) (one : Watched) → slice_get (last_growing (growing_watch b) xs).watch.threads k ≡ Some one
    → LeavesTrampoline r k (last_growing (growing_watch b) xs).watch one (last_guest a f.states)

-- So it is whatever the images, the entries and the patched sites are.
abbrev pub OvertakenThreadsGetOut : Type 0
OvertakenThreadsGetOut = (r : Threading) → AreEntries r.original r.listed → IsThreadSound r → OvertakenGetOut r × OvertakenGetOutGrowing r
