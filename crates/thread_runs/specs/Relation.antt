-- Where a thread of the patched guest stands beside the original's that it counts as, and what else both guests keep. Theorems cite it.
use Rattle.std.specs.Prelude.{◌≡◌, ◌⊎◌, ℕ, ◌+◌, ◌<◌, Bool, true, false, List, [], Contains, Some, None}
use Rattle.pun_base.specs.Memory.{Bytes}
use Rattle.pun_base.specs.declared.action.Base.{Base}
use Rattle.cpu_state.specs.Bytes.{allows, avoids, lacking}
use Rattle.cpu_state.specs.Processor.{IsProcessorCore, GiveWords}
use Rattle.image_runs.specs.Listed.{is_start}
use Rattle.event_steps.specs.declared.step.EventStep.{EventStep}
use Rattle.event_steps.specs.EventSteps.{long}
use Rattle.thread_runs.specs.Guest.{Thread, machine_of}
use Rattle.thread_runs.specs.ThreadCode.{Marks, position_at, slot_at, saved_from, saved_len}
use Rattle.trampoline.specs.EventLists.{mark_at, mark_len}
use Rattle.thread_runs.specs.Work.{Tail, left, InTail}
use Rattle.thread_runs.specs.Threading.Part.{Saved}
use Rattle.thread_runs.specs.Threading.{ThreadSite, Threading, next_of, work_at, is_new, is_part, ByTwoJumps, IsThreadSite}
use Rattle.thread_runs.specs.SiteEvents.{event_list, IsInSite}
use Rattle.thread_runs.specs.Watching.{Watched}

-- A thread at a listed start, which is its projection.
pub record Outside (r : Threading) (now projected : Thread) : Type 0 where
  pub same : now ≡ projected
  pub start : is_start r.listed now.rip ≡ true

-- A thread at the second of the two jumps that lead from a site to its trampoline. Its projection
-- stands at the site, with the same registers and flags.
pub record AtSecond (r : Threading) (now projected : Thread) : Type 0 where
  pub site : ThreadSite
  pub listed : Contains r.sites site
  pub jumps : ByTwoJumps r site.entry.addr site.place
  pub here : now.rip ≡ jumps.second
  pub there : projected.rip ≡ site.entry.addr
  pub core : now.core ≡ projected.core
  pub world : now.world ≡ projected.world

-- In front of all steps of a site's event, or behind all of them: with the registers and flags of its projection.
pub record AtEnds (r : Threading) (site : ThreadSite) (rest : List EventStep) (now projected : Thread) : Type 0 where
  pub whole : (rest ≡ (event_list site.event site.when r.private site.number).steps) ⊎ (rest ≡ [])
  pub core : now.core ≡ projected.core

-- In front of some of its steps, between the save of rax and its restore: it came with the registers and flags of its projection, and none of
-- the saved bytes is new.
pub record IsAmid (r : Threading) (m : Bytes) (site : ThreadSite) (rest : List EventStep) (now projected : Thread) : Type 0 where
  pub is : IsInSite site.event site.when r.private site.number site.place projected.core rest (machine_of m now)
  pub saved : is_part Saved now.rip site ≡ true
  pub old : avoids (is_new r) (saved_from r.ring projected.core) (saved_len r.ring) ≡ true

-- A thread in front of the last steps of a site's event, or where the relocated code begins, in front of none, whose projection stands at the site.
pub record AtEvent (r : Threading) (m : Bytes) (now projected : Thread) : Type 0 where
  pub site : ThreadSite
  pub listed : Contains r.sites site
  pub rest : List EventStep
  pub here : now.rip + long rest ≡ work_at site
  pub there : projected.rip ≡ site.entry.addr
  pub world : now.world ≡ projected.world
  pub stands : AtEnds r site rest now projected ⊎ IsAmid r m site rest now projected

-- A thread inside the relocated code, after its effect step, whose projection stands where the
-- instruction led.
pub record BehindEffect (r : Threading) (m : Bytes) (now projected : Thread) : Type 0 where
  pub site : ThreadSite
  pub listed : Contains r.sites site
  pub whole : IsThreadSite r site
  pub tail : Tail
  pub more : 0 < left tail
  pub there : InTail whole.fields (next_of site) (work_at site) tail projected.core projected.rip (machine_of m now)
  pub world : now.world ≡ projected.world

-- A thread beside its projection, which is a processor's at a listed start.
pub record IsBeside (r : Threading) (m : Bytes) (one : Watched) : Type 0 where
  pub processor : IsProcessorCore one.projected.core
  pub words : GiveWords one.projected.world
  pub start : is_start r.listed one.projected.rip ≡ true
  pub place : Outside r one.now one.projected ⊎ AtSecond r one.now one.projected ⊎ AtEvent r m one.now one.projected ⊎ BehindEffect r m one.now one.projected

-- What can be executed and not written in an image stands in memory.
abbrev pub KeepsCode : Bytes → Bytes → Type 0
KeepsCode image m = (x : ℕ) → allows 1 (image x) ≡ true → allows 2 (image x) ≡ false → m x ≡ image x

-- What the event of each site marks, its counter or its byte, can be read and written.
abbrev pub KeepsMarks : Threading → Bytes → Type 0
KeepsMarks r m = (s : ThreadSite) → Contains r.sites s → (b : Base) → s.event ≡ Some (Marks b)
    → (lacking 4 m (mark_at b r.private s.number) (mark_len b) ≡ None) × (lacking 2 m (mark_at b r.private s.number) (mark_len b) ≡ None)

-- The position and the slots of a ring, where events keep one, can be read and written.
abbrev pub KeepsRing : Threading → Bytes → Type 0
KeepsRing r m = (n : ℕ) → r.ring ≡ Some n
    → (lacking 4 m (position_at r.private) 4 ≡ None) × (lacking 2 m (position_at r.private) 4 ≡ None)
    × ((j : ℕ) → j < n → (lacking 4 m (slot_at r.private j) 4 ≡ None) × (lacking 2 m (slot_at r.private j) 4 ≡ None))
