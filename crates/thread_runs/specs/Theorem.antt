-- Guest threads: what holds of each run of the patched guest that meets the premises. Theorems cite it.
use Rattle.std.specs.Prelude.{◌≡◌, ◌⊎◌, ℕ, ◌+◌, ◌*◌, ◌%◌, ◌^◌, ◌≤◌, Bool, true, false, ◌&&◌, ◌||◌, if◌then◌else◌, List, [], ◌∷◌, ◌++◌, length, map, replicate, Some, None, Contains, slice_get, count_by, ◌==◌}
use Rattle.std.specs.List.{AllByRecursion, list_any}
use Rattle.pun_base.specs.Memory.{Bytes, joined}
use Rattle.pun_base.specs.declared.action.Base.TheVariants.{Cover, Count}
use Rattle.pun_base.specs.declared.action.Comparison.{Comparison}
use Rattle.length_decode.specs.Spelling.{Fields}
use Rattle.cpu_state.specs.Bytes.{number_at, byte_of, lacking, avoids}
use Rattle.insn_form.specs.Machine.{Machine}
use Rattle.insn_form.specs.Processor.{IsProcessorState}
use Rattle.insn_form.specs.Touched.{perms_at}
use Rattle.image_runs.specs.Listed.{is_start}
use Rattle.start_entries.specs.Standing.{AreEntries}
use Rattle.event_steps.specs.ThreadSteps.{ThreadStepsBy}
use Rattle.thread_runs.specs.Guest.{Guest, machine_of, thread_of, IsInterleaved, last_guest}
use Rattle.thread_runs.specs.ThreadCode.{Marks, saved_from, saved_len}
use Rattle.trampoline.specs.EventLists.{counter_at, mark_at}
use Rattle.thread_runs.specs.Threading.{Threading, ThreadSite, is_new, is_hidden, is_keeping, is_met_by, is_counted, saves_at, is_saved_by, IsThreadSound}
use Rattle.thread_runs.specs.Watching.{Watched, EffectStep, Watch, watch_of, Watches}
use Rattle.thread_runs.specs.Premises.{IsProperRun, IsQuietAt, LeavesSaved, reads_nothing_of}
use Rattle.thread_runs.specs.Relation.{IsBeside, KeepsCode, KeepsMarks, KeepsRing}
use Rattle.thread_runs.specs.Ring.{AreKept}

-- Start guests: equal threads, each the state of a processor at the entry, so that each thread is a
-- start pair, and beside each image the same further memory, which meets neither.
pub record AreStartGuests (r : Threading) (a b : Guest) : Type 0 where
  pub threads : b.threads ≡ a.threads
  pub each : AllByRecursion (λ t. IsProcessorState (machine_of a.mem t) × (t.rip ≡ r.entry)) a.threads
  pub further : Bytes
  pub apart : (x : ℕ) → (joined r.original r.patched x ≡ None) ⊎ (further x ≡ None)
  pub original : a.mem ≡ joined r.original further
  pub patched : b.mem ≡ joined r.patched further

-- How a guest of the original lies beside a watched one: its threads are the projected ones, and
-- memory is equal but for listed instructions, new bytes and stale bytes, and stale bytes have equal
-- permissions, too. A thread at a listed start is its projection; any other one stands at the second of
-- two jumps, in an event, where relocated code begins, or after its effect step. Both codes, the
-- counters, the bytes of sites that cover and a ring stay.
pub record LiesBeside (r : Threading) (g : Guest) (w : Watch) : Type 0 where
  pub threads : g.threads ≡ map (λ t. t.projected) w.threads
  pub memory : (x : ℕ) → is_hidden r x ≡ false → w.stale x ≡ false → g.mem x ≡ w.mem x
  pub permissions : (x : ℕ) → is_hidden r x ≡ false → perms_at g.mem x ≡ perms_at w.mem x
  pub outside : AllByRecursion (λ t. is_start r.listed t.now.rip ≡ true → t.now ≡ t.projected) w.threads
  pub each : AllByRecursion (λ t. IsBeside r w.mem t) w.threads
  pub own : KeepsCode r.original g.mem
  pub other : KeepsCode r.patched w.mem
  pub marks : KeepsMarks r w.mem
  pub ring : KeepsRing r w.mem

-- The effect steps so far are an interleaved run of the original, in the same order, which ends in a
-- guest that lies beside the watched one.
pub record IsGuestFollowed (r : Threading) (a : Guest) (w : Watch) : Type 0 where
  pub states : List Guest
  pub run : IsInterleaved (map (λ e. e.thread) w.log) a states
  pub beside : LiesBeside r (last_guest a states) w

-- an effect step of a site of whose registers the condition of the site's event holds
abbrev pub is_recorded : ThreadSite → EffectStep → Bool
is_recorded s e = is_met_by s e.core && e.at == s.entry.addr

-- a thread that marked at a site, and hasn't made its effect step
abbrev pub has_marked : ThreadSite → Watched → Bool
has_marked s t = is_counted s t.now.rip t.projected.core

-- The counter of each site that counts is the number of the site's effect steps at which its condition held,
-- and of the threads that marked and are between LOCK INC and their effect step, modulo 2^64.
abbrev pub AreCounted : Threading → Watch → Type 0
AreCounted r w = (s : ThreadSite) → Contains r.sites s → s.event ≡ Some (Marks Count)
    → number_at w.mem (counter_at r.private s.number) 8 ≡ (count_by (is_recorded s) w.log + count_by (has_marked s) w.threads) % 2 ^ 64

-- The byte of each site that covers is 1 if some effect step of the site was made at which its condition held,
-- or some thread that marked stands between its store and its effect step, and 0 otherwise.
abbrev pub AreCovered : Threading → Watch → Type 0
AreCovered r w = (s : ThreadSite) → Contains r.sites s → s.event ≡ Some (Marks Cover)
    → byte_of (w.mem (mark_at Cover r.private s.number)) ≡ (if list_any (is_recorded s) w.log || list_any (has_marked s) w.threads then 1 else 0)

-- Each proper run from start guests is followed, counted, covered and kept, at each moment.
abbrev pub AreFollowed : Threading → Type 0
AreFollowed r = (a b : Guest) (schedule : List ℕ) (ws : List Watch) → AreStartGuests r a b → IsProperRun r schedule (watch_of b) ws
    → AllByRecursion (λ w. IsGuestFollowed r a w × AreCounted r w × AreCovered r w × AreKept r w) (watch_of b ∷ ws)

-- Where a watched run ends.
abbrev pub last_watch : Watch → List Watch → Watch
last_watch w [] = w
last_watch w (v ∷ vs) = last_watch v vs

-- The watched guests after w, one for each number of a schedule.
abbrev pub IsWatched : Threading → List ℕ → Watch → List Watch → Type 0
IsWatched r [] w [] = Unit {0}
IsWatched r [] w (v ∷ vs) = ⊥
IsWatched r (k ∷ ks) w [] = ⊥
IsWatched r (k ∷ ks) w (v ∷ vs) = Watches r k w v × IsWatched r ks v vs

-- Each step of a watched run leaves the saved bytes of all other threads alone.
abbrev pub LeaveSaved : Threading → List ℕ → Watch → List Watch → Type 0
LeaveSaved r [] w [] = Unit {0}
LeaveSaved r [] w (v ∷ vs) = ⊥
LeaveSaved r (k ∷ ks) w [] = ⊥
LeaveSaved r (k ∷ ks) w (v ∷ vs) = ((m : Watches r k w v) → LeavesSaved r w k m.fields (machine_of w.mem m.one.now)) × LeaveSaved r ks v vs

-- A thread that can go: it stands at a listed start, the original's thread has a step that is quiet
-- and leads to a listed start, and reads no stale byte. If it stands at a site whose event saves rax,
-- the saved bytes can be read and written, aren't new, and aren't read by the instruction.
pub record CanGo (r : Threading) (w : Watch) (one : Watched) (g : Guest) : Type 0 where
  pub stands : is_start r.listed one.now.rip ≡ true
  pub fields : Fields
  pub to : Machine
  pub steps : ThreadStepsBy fields (machine_of g.mem one.now) to
  pub quiet : IsQuietAt r (machine_of g.mem one.now)
  pub ends : is_start r.listed to.rip ≡ true
  pub read : saves_at r one.now.rip ≡ true → lacking 4 w.mem (saved_from r.ring one.now.core) (saved_len r.ring) ≡ None
  pub written : saves_at r one.now.rip ≡ true → lacking 2 w.mem (saved_from r.ring one.now.core) (saved_len r.ring) ≡ None
  pub old : saves_at r one.now.rip ≡ true → avoids (is_new r) (saved_from r.ring one.now.core) (saved_len r.ring) ≡ true
  pub unread : saves_at r one.now.rip ≡ true → reads_nothing_of (is_saved_by r one.now.core) fields (machine_of g.mem one.now) ≡ true
  pub fresh : reads_nothing_of w.stale fields (machine_of g.mem one.now) ≡ true

-- the comparisons of the event at an address
abbrev pub when_at : List ThreadSite → ℕ → List Comparison
when_at [] x = []
when_at (s ∷ ss) x = if s.entry.addr == x then s.when else when_at ss x

-- how many instructions the event at an address has beyond the seven of one that counts and those of comparisons: five where it keeps a ring
abbrev pub further_at : List ThreadSite → ℕ → ℕ
further_at [] x = 0
further_at (s ∷ ss) x = if s.entry.addr == x then (if is_keeping s.event then 5 else 0) else further_at ss x

-- Scheduled alone from w, thread k makes one effect step and no other within 12 steps of its own, two for each
-- comparison, and five more where its event keeps a ring, and then stands outside, where the original's step leads: it is the thread that this step leads
-- to, with the same registers, flags, bases, instruction pointer and rest of the world, and counts
-- as itself. Memory is the original's after that step but for listed instructions, new bytes and
-- stale bytes. Where its steps leave the saved bytes of all other threads alone, they meet the premises.
pub record GetsOut (r : Threading) (k : ℕ) (w : Watch) (one : Watched) (to : Machine) : Type 0 where
  pub few : ℕ
  pub bound : few ≤ 12 + 2 * length (when_at r.sites one.now.rip) + further_at r.sites one.now.rip
  pub states : List Watch
  pub run : IsWatched r (replicate few k) w states
  pub proper : LeaveSaved r (replicate few k) w states → IsProperRun r (replicate few k) w states
  pub there : slice_get (last_watch w states).threads k ≡ Some (record { now = thread_of to; projected = thread_of to })
  pub outside : is_start r.listed to.rip ≡ true
  pub memory : (x : ℕ) → is_hidden r x ≡ false → (last_watch w states).stale x ≡ false → to.mem x ≡ (last_watch w states).mem x
  pub effect : (last_watch w states).log ≡ w.log ++ record { thread = k; at = one.now.rip; core = one.now.core } ∷ []

-- From each state that a proper run from start guests reaches, a thread that can go gets out, to
-- where the original's step leads.
abbrev pub GetOut : Threading → Type 0
GetOut r = (a b : Guest) (schedule : List ℕ) (ws : List Watch) → AreStartGuests r a b → IsProperRun r schedule (watch_of b) ws
    → (f : IsGuestFollowed r a (last_watch (watch_of b) ws)) (k : ℕ) (one : Watched) → slice_get (last_watch (watch_of b) ws).threads k ≡ Some one
    → (c : CanGo r (last_watch (watch_of b) ws) one (last_guest a f.states)) → GetsOut r k (last_watch (watch_of b) ws) one c.to

-- Proper runs from start guests are followed, and from them threads get out, whatever the images,
-- the entries and the patched sites are.
abbrev pub ThreadsAreFollowed : Type 0
ThreadsAreFollowed = (r : Threading) → AreEntries r.original r.listed → IsThreadSound r → AreFollowed r × GetOut r
