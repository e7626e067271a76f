-- The event of a patched site as a list of steps, whatever its kind, and what each step of it does. Theorems cite it.
-- p is the first address of the private range, i the number of the site, at the first address of the event's code.
use Rattle.std.specs.Prelude.{◌≡◌, ◌⊎◌, ℕ, ◌+◌, ◌^◌, ◌<◌, ◌≤◌, nat_le, true, false, ◌&&◌, List, [], ◌∷◌, drop, Option, Some, None}
use Rattle.pun_base.specs.Memory.{Bytes}
use Rattle.pun_base.specs.declared.action.Base.{Base}
use Rattle.pun_base.specs.declared.action.Base.TheVariants.{Cover, Count}
use Rattle.pun_base.specs.declared.action.Comparison.{Comparison}
use Rattle.cpu_state.specs.declared.state.Core.{Core}
use Rattle.cpu_state.specs.Bytes.{put_list, bytes_of}
use Rattle.cpu_state.specs.Fixed.{IsFixed}
use Rattle.insn_form.specs.Operands.{reg, rax}
use Rattle.cpu_state.specs.Processor.{IsProcessorCore}
use Rattle.insn_form.specs.Machine.{Machine}
use Rattle.cond_action.specs.Conditions.{all_hold}
use Rattle.trampoline.specs.EventLists.{mark_at, mark_len, cover_event}
use Rattle.event_steps.specs.ThreadSteps.{ThreadStep}
use Rattle.event_steps.specs.declared.step.EventStep.{EventStep}
use Rattle.event_steps.specs.EventSteps.{long, code}
use Rattle.event_steps.specs.MadeSteps.{after, Can, skipped}
use Rattle.event_steps.specs.DoneSteps.{Local, done, is_marking, AreApart, AreFree, mem_done}
use Rattle.event_steps.specs.Interleaved.{Listed, IsIn}
use Rattle.event_steps.specs.Interleaved.Killed.{Nothing}
use Rattle.thread_runs.specs.ThreadCode.{Kind, Marks, Keeps, is_ring_length, slot_at, slot, is_saving, event_len, event_if}
use Rattle.thread_runs.specs.ThreadLists.{saving_thread_event, thread_ring_list}
use Rattle.thread_runs.specs.Event.{AreFew, marks_with}
use Rattle.thread_runs.specs.Threading.{part_from}
use Rattle.thread_runs.specs.Threading.Part.{Marked}

-- the list of a site's event, or of none
abbrev pub event_list : Option Kind → List Comparison → ℕ → ℕ → Listed
event_list (Some (Marks Cover)) [] p i = cover_event p i
event_list (Some (Marks Cover)) (c ∷ cs) p i = saving_thread_event Cover (c ∷ cs) p i
event_list (Some (Marks Count)) cs p i = saving_thread_event Count cs p i
event_list (Some (Keeps n)) cs p i = thread_ring_list n p i
event_list None cs p i = record { uses = []; steps = []; kills = Nothing }

-- what it marks or fills lies low, and a slot has room for the number
abbrev pub IsRoomy : Option Kind → ℕ → ℕ → Type 0
IsRoomy (Some (Marks b)) p i = mark_at b p i + mark_len b ≤ 0x7FFF0000
IsRoomy (Some (Keeps n)) p i = (is_ring_length n ≡ true) × (slot_at p n ≤ 0x7FFF0000) × (i + 1 < 2 ^ 31)
IsRoomy None p i = Unit {0}

-- an event under up to three comparisons, whose code lies low, as what it marks or fills does
pub record IsPlaced (o : Option Kind) (cs : List Comparison) (p i at : ℕ) : Type 0 where
  pub few : AreFew cs
  pub below : at + event_len o cs < 2 ^ 31
  pub room : IsRoomy o p i

-- The list has the code of the event.
pub record HasEventCode (o : Option Kind) (cs : List Comparison) (p i : ℕ) : Type 0 where
  pub code : code (event_list o cs p i).uses (event_list o cs p i).steps ≡ event_if o cs p i
  pub len : long (event_list o cs p i).steps ≡ event_len o cs

abbrev pub SiteEventsAreLists : Type 0
SiteEventsAreLists = (o : Option Kind) (cs : List Comparison) (p i : ℕ) → HasEventCode o cs p i

-- a thread stands in front of the last steps of an event whose code stands at an address, whatever its registers and memory are
pub record StandsAt (o : Option Kind) (cs : List Comparison) (p i at : ℕ) (rest : List EventStep) (v : Machine) : Type 0 where
  pub passed : ℕ
  pub left : rest ≡ drop passed (event_list o cs p i).steps
  pub here : v.rip + long rest ≡ at + event_len o cs
  pub stands : IsFixed v.mem at (event_if o cs p i)

-- The step that it makes there is that of the list: what it reads can be read, what it writes can be written, and the state behind it is what this step leads to.
abbrev pub SiteStepTold : Type 0
SiteStepTold = (o : Option Kind) (cs : List Comparison) (p i at : ℕ) (s : EventStep) (rest : List EventStep) (v w : Machine) → IsPlaced o cs p i at → StandsAt o cs p i at (s ∷ rest) v → ThreadStep v w
    → Can (event_list o cs p i).uses s rest v.rip v × (w ≡ after (event_list o cs p i).uses s rest v.rip v)

-- And there is this step where its operands are held.
abbrev pub SiteStepGoes : Type 0
SiteStepGoes = (o : Option Kind) (cs : List Comparison) (p i at : ℕ) (s : EventStep) (rest : List EventStep) (v : Machine) → IsPlaced o cs p i at → StandsAt o cs p i at (s ∷ rest) v
    → Can (event_list o cs p i).uses s rest v.rip v → ThreadStep v (after (event_list o cs p i).uses s rest v.rip v)

-- A thread that comes to the event is in front of all its steps.
abbrev pub SiteComesIn : Type 0
SiteComesIn = (o : Option Kind) (cs : List Comparison) (p i at : ℕ) (v : Machine) → v.rip ≡ at → IsFixed v.mem at (event_if o cs p i) → IsIn (event_list o cs p i) at v.core (event_list o cs p i).steps v

-- a thread that came with c is in it, in front of these steps
abbrev pub IsInSite : Option Kind → List Comparison → ℕ → ℕ → ℕ → Core → List EventStep → Machine → Type 0
IsInSite o cs p i at c rest v = IsIn (event_list o cs p i) at c rest v

-- a thread that made a step of the event, with all that the step says
pub record WentOn (o : Option Kind) (cs : List Comparison) (p i at : ℕ) (c : Core) (s : EventStep) (rest : List EventStep) (v w : Machine) (h : IsInSite o cs p i at c (s ∷ rest) v) : Type 0 where
  pub is : IsInSite o cs p i at c (drop (skipped s v.core) rest) w
  pub now : is.now ≡ done s h.now
  pub mem : w.mem ≡ mem_done (event_list o cs p i).uses c s h.now v.mem
  pub world : w.world ≡ v.world

-- Among others, where no two of the event's data share a byte, it goes on by each step that it makes,
abbrev pub SiteGoesOn : Type 0
SiteGoesOn = (o : Option Kind) (cs : List Comparison) (p i at : ℕ) (c : Core) (s : EventStep) (rest : List EventStep) (v w : Machine) → IsProcessorCore c → IsPlaced o cs p i at → AreApart (event_list o cs p i).uses c
    → (h : IsInSite o cs p i at c (s ∷ rest) v) → ThreadStep v w → WentOn o cs p i at c s rest v w h

-- it can make one where its data are held,
abbrev pub SiteCanGoOn : Type 0
SiteCanGoOn = (o : Option Kind) (cs : List Comparison) (p i at : ℕ) (c : Core) (s : EventStep) (rest : List EventStep) (v : Machine) → IsProcessorCore c → IsPlaced o cs p i at → AreApart (event_list o cs p i).uses c
    → AreFree (event_list o cs p i).uses c v.mem → IsInSite o cs p i at c (s ∷ rest) v → (w : Machine) × ThreadStep v w

-- behind all steps it has the registers and flags with which it came,
abbrev pub SiteRestores : Type 0
SiteRestores = (o : Option Kind) (cs : List Comparison) (p i at : ℕ) (c : Core) (v : Machine) → IsProcessorCore c → IsPlaced o cs p i at → IsInSite o cs p i at c [] v → v.core ≡ c

-- and at each moment it has marked exactly where the condition holds and its address is one behind the step that marks.
abbrev pub SiteMarks : Type 0
SiteMarks = (b : Base) (cs : List Comparison) (p i at : ℕ) (c : Core) (rest : List EventStep) (v : Machine) → IsProcessorCore c → IsPlaced (Some (Marks b)) cs p i at
    → (h : IsInSite (Some (Marks b)) cs p i at c rest v) → h.now.marked ≡ (all_hold cs c.regs && nat_le (at + part_from Marked (Some (Marks b)) cs) v.rip)

-- what a step of an event that marks does to memory: nothing; or it saves rax, in front of all other steps; or it marks, once
pub record LeavesAll (b : Base) (cs : List Comparison) (p i : ℕ) (c : Core) (s : EventStep) (l : Local) (m : Bytes) : Type 0 where
  pub calm : is_marking s ≡ false
  pub mem : mem_done (event_list (Some (Marks b)) cs p i).uses c s l m ≡ m

pub record SavesRax (b : Base) (cs : List Comparison) (p i at : ℕ) (c : Core) (s : EventStep) (l : Local) (v : Machine) : Type 0 where
  pub saving : is_saving (Some (Marks b)) cs ≡ true
  pub first : v.rip ≡ at
  pub calm : is_marking s ≡ false
  pub mem : mem_done (event_list (Some (Marks b)) cs p i).uses c s l v.mem ≡ put_list v.mem (slot c) (bytes_of 8 (reg c rax))

pub record MarksOnce (b : Base) (cs : List Comparison) (p i : ℕ) (c : Core) (s : EventStep) (l : Local) (m : Bytes) : Type 0 where
  pub marks : is_marking s ≡ true
  pub once : l.marked ≡ false
  pub mem : mem_done (event_list (Some (Marks b)) cs p i).uses c s l m ≡ put_list m (mark_at b p i) (marks_with b (mark_at b p i) m)

abbrev pub SiteWrites : Type 0
SiteWrites = (b : Base) (cs : List Comparison) (p i at : ℕ) (c : Core) (s : EventStep) (rest : List EventStep) (v : Machine) → IsProcessorCore c → IsPlaced (Some (Marks b)) cs p i at
    → (h : IsInSite (Some (Marks b)) cs p i at c (s ∷ rest) v) → LeavesAll b cs p i c s h.now v.mem ⊎ SavesRax b cs p i at c s h.now v ⊎ MarksOnce b cs p i c s h.now v.mem
