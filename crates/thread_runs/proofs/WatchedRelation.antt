-- What each step keeps between the original's guest and the watched patched one.
use Rattle.std.proofs.Common.{◌≡◌, ◌≢◌, ◌⊎◌, ℕ, ◌+◌, ◌%◌, ◌^◌, ◌<◌, ◌≤◌, Bool, true, false, ◌&&◌, cond, eqb, List, [], ◌∷◌, ◌++◌, length, map, Some, None}
use Rattle.std.specs.Prelude.{Contains, slice_get, count_by}
use Rattle.std.specs.List.{AllByRecursion}
use Rattle.pun_base.specs.Memory.{Bytes}
use Rattle.pun_base.specs.declared.action.Base.{Base}
use Rattle.pun_base.specs.declared.action.Base.TheVariants.{Cover, Count}
use Rattle.length_decode.specs.Spelling.{Fields}
use Rattle.cpu_state.specs.Bytes.{lacking, number_at}
use Rattle.cpu_state.specs.declared.state.Core.{Core}
use Rattle.cpu_state.specs.Processor.{IsProcessorCore, GiveWords}
use Rattle.insn_form.specs.Operands.{reg, rax}
use Rattle.insn_form.specs.Machine.{Machine}
use Rattle.event_steps.specs.ThreadSteps.{ThreadStep}
use Rattle.insn_form.specs.Alike.{AreAlike}
use Rattle.relocate_insn.proofs.FixedCode.{SameCode}
use Rattle.image_runs.specs.Listed.{is_start}
use Rattle.thread_runs.specs.Guest.{Thread, Guest, machine_of, thread_of, last_guest}
use Rattle.thread_runs.specs.GuestDeliveries.{GuestItem, IsInterleavedWith}
use Rattle.thread_runs.specs.ThreadCode.{Marks, Keeps, position_at, slot_at}
use Rattle.trampoline.specs.EventLists.{mark_at, mark_len}
use Rattle.thread_runs.specs.Work.{Tail, left, InTail}
use Rattle.thread_runs.specs.Threading.{ThreadSite, Threading, next_of, work_at, is_hidden, is_met_by, is_counted, claiming_at, is_filling, is_unfilled, IsThreadSound}
use Rattle.thread_runs.specs.Watching.{Watched, Claim, Fill, Watch, last_claim, is_effect, projection, stale_after}
use Rattle.thread_runs.specs.Ring.{claimed_by, ringing_at, kept_by, claimed_at, last_fill, shown_by, is_filled, IsBetween}
use Rattle.thread_runs.specs.Theorem.{is_recorded, has_marked}
use Rattle.thread_runs.specs.Relation.{Outside, AtSecond, AtEvent}

-- fills in their order, each of a claim that was made before it, of so many claims in all
abbrev pub AreSorted : ℕ → List Fill → Type 0
AreSorted n [] = Unit {0}
AreSorted n (f ∷ fs) = (f.claim < f.claimed) × (f.claimed ≤ n) × AllByRecursion (λ g. f.claimed ≤ g.claimed) fs × AreSorted n fs

-- after the effect step
pub record OnWay (r : Threading) (S : IsThreadSound r) (m : Bytes) (now projected : Thread) : Type 0 where
  pub site : ThreadSite
  pub listed : Contains r.sites site
  pub tail : Tail
  pub more : 0 < left tail
  pub there : InTail (S.sites site listed).fields (next_of site) (work_at site) tail projected.core projected.rip (machine_of m now)
  pub world : now.world ≡ projected.world

-- where a thread stands: outside and as its projection, at a second jump, in an event or at the relocated code, or after its effect step
abbrev pub Phase : (r : Threading) → IsThreadSound r → Bytes → Thread → Thread → Type 0
Phase r S m now projected = Outside r now projected ⊎ AtSecond r now projected ⊎ AtEvent r m now projected ⊎ OnWay r S m now projected

-- what each step keeps of one thread: its projection is a processor's state at a listed start, and it stands in one of the phases
pub record ThreadKept (r : Threading) (S : IsThreadSound r) (m : Bytes) (one : Watched) : Type 0 where
  pub processor : IsProcessorCore one.projected.core
  pub words : GiveWords one.projected.world
  pub start : is_start r.listed one.projected.rip ≡ true
  pub phase : Phase r S m one.now one.projected

-- what an event marks can be read and written
pub record HasRoom (m : Bytes) (a n : ℕ) : Type 0 where
  pub read : lacking 4 m a n ≡ None
  pub written : lacking 2 m a n ≡ None

-- the number that a mark shows after so many events: a counter counts them, and a byte is 1 after the first
abbrev pub shown_after : Base → ℕ → ℕ
shown_after Cover n = cond (eqb n 0) 0 1
shown_after Count n = n % 2 ^ 64

-- the number that the event of a site marks
abbrev pub marked : Threading → Base → ThreadSite → Bytes → ℕ
marked r b s m = number_at m (mark_at b r.private s.number) (mark_len b)

-- what each event marks shows the number of the site's effect steps at which the condition held, and of the threads between the mark and their effect step
abbrev pub AreMarked : Threading → Watch → Type 0
AreMarked r w = (s : ThreadSite) → Contains r.sites s → (b : Base) → s.event ≡ Some (Marks b)
    → marked r b s w.mem ≡ shown_after b (count_by (is_recorded s) w.log + count_by (has_marked s) w.threads)

-- the position and the slots of a ring can be read and written
pub record HasRing (r : Threading) (n : ℕ) (m : Bytes) : Type 0 where
  pub position : HasRoom m (position_at r.private) 4
  pub slots : (j : ℕ) → j < n → HasRoom m (slot_at r.private j) 4

-- the position and slot j of a ring
abbrev pub position_in : Threading → Bytes → ℕ
position_in r m = number_at m (position_at r.private) 4

-- slot j
abbrev pub slot_in : Threading → Bytes → ℕ → ℕ
slot_in r m j = number_at m (slot_at r.private j) 4

-- what is kept of a ring of n slots beside what is said of it: the fills in their order, and the eax of threads between a claim and its fill
pub record RingKept (r : Threading) (n : ℕ) (w : Watch) : Type 0 where
  pub position : position_in r w.mem ≡ length w.claims % 2 ^ 32
  pub own : (k : ℕ) (one : Watched) → slice_get w.threads k ≡ Some one → claimed_by k w.claims ≡ kept_by r k w.log ++ claimed_at r.sites one.now.rip
  pub filled : (i : ℕ) (c : Claim) → slice_get w.claims i ≡ Some c → (is_filled i w.fills ≡ true) ⊎ IsBetween r w i c.thread
  pub slots : (j : ℕ) → j < n → slot_in r w.mem j ≡ shown_by w.claims (last_fill n j w.fills)
  pub sorted : AreSorted (length w.claims) w.fills
  pub reducing : (k : ℕ) (one : Watched) → slice_get w.threads k ≡ Some one → (s : ThreadSite) → Contains r.sites s → s.event ≡ Some (Keeps n) → one.now.rip ≡ s.place + 34
      → (slice_get w.claims (last_claim k w.claims) ≡ Some (record { thread = k; number = s.number })) × (reg one.now.core rax ≡ last_claim k w.claims % 2 ^ 32)
  pub filling : (k : ℕ) (one : Watched) → slice_get w.threads k ≡ Some one → (s : ThreadSite) → Contains r.sites s → s.event ≡ Some (Keeps n) → one.now.rip ≡ s.place + 37
      → (slice_get w.claims (last_claim k w.claims) ≡ Some (record { thread = k; number = s.number })) × (reg one.now.core rax ≡ last_claim k w.claims % n)

-- What one step of a thread rests on: how its memory lies beside the original's, and where it stands.
pub record Ground (r : Threading) (S : IsThreadSound r) (m : Bytes) (stale : ℕ → Bool) (u : Bytes) (one : Watched) : Type 0 where
  pub alike : AreAlike (is_hidden r) stale m u
  pub own : SameCode r.original m
  pub other : SameCode r.patched u
  pub room : (s : ThreadSite) → Contains r.sites s → (b : Base) → s.event ≡ Some (Marks b) → HasRoom u (mark_at b r.private s.number) (mark_len b)
  pub ring_room : (n : ℕ) → r.ring ≡ Some n → HasRing r n u
  pub kept : ThreadKept r S u one

-- what each item keeps of a watched guest: what was made so far is a run of the original, with equal threads and memory but for hidden and stale bytes
pub record Related (r : Threading) (S : IsThreadSound r) (a : Guest) (made : List GuestItem) (w : Watch) : Type 0 where
  pub states : List Guest
  pub run : IsInterleavedWith r.listed made a states
  pub end : Guest
  pub last : last_guest a states ≡ end
  pub threads : end.threads ≡ map (λ t. t.projected) w.threads
  pub alike : AreAlike (is_hidden r) w.stale end.mem w.mem
  pub own : SameCode r.original end.mem
  pub other : SameCode r.patched w.mem
  pub room : (s : ThreadSite) → Contains r.sites s → (b : Base) → s.event ≡ Some (Marks b) → HasRoom w.mem (mark_at b r.private s.number) (mark_len b)
  pub ring_room : (n : ℕ) → r.ring ≡ Some n → HasRing r n w.mem
  pub marks : AreMarked r w
  pub rings : (n : ℕ) → r.ring ≡ Some n → RingKept r n w
  pub each : (k : ℕ) (one : Watched) → slice_get w.threads k ≡ Some one → ThreadKept r S w.mem one

-- the stale bytes after a step of one of its threads
abbrev pub stale_next : Threading → Watch → Watched → Fields → ℕ → Bool
stale_next r w one f = stale_after r w.stale one f (machine_of w.mem one.now)

-- what one step makes: a trampoline step leaves the original as it is, an effect step is one of the original's
abbrev pub Calm : Bool → Bytes → Bytes → Thread → Thread → Type 0
Calm effect m m' t t' = (effect ≡ false) × (m' ≡ m) × (t' ≡ t)

-- an effect step is a step of the original's thread
pub record Acts (effect : Bool) (m m' : Bytes) (t t' : Thread) : Type 0 where
  pub is : effect ≡ true
  pub to : Machine
  pub steps : ThreadStep (machine_of m t) to
  pub mem : m' ≡ to.mem
  pub thread : t' ≡ thread_of to

-- how what the event of a site marks changes, beside the threads that marked and the effect steps at which the condition held
pub record Changes (r : Threading) (effect : Bool) (b : Base) (s : ThreadSite) (m m' : Bytes) (p p' : Thread) (rip rip' : ℕ) : Type 0 where
  pub more : ℕ
  pub number : (n : ℕ) → marked r b s m ≡ shown_after b n → marked r b s m' ≡ shown_after b (n + more)
  pub even : cond (effect && (is_met_by s p.core && eqb p.rip s.entry.addr)) 1 0 + cond (is_counted s rip' p'.core) 1 0 ≡ cond (is_counted s rip p.core) 1 0 + more

-- a step that leaves a ring as it is, of a thread that isn't between a claim and its fill before it or after it
pub record Rests (r : Threading) (n : ℕ) (effect : Bool) (m m' : Bytes) (p : Thread) (x x' : ℕ) : Type 0 where
  pub position : position_in r m' ≡ position_in r m
  pub slots : (j : ℕ) → j < n → slot_in r m' j ≡ slot_in r m j
  pub free : is_unfilled r x ≡ false
  pub free' : is_unfilled r x' ≡ false
  pub quiet : claiming_at r.sites x ≡ None
  pub dry : is_filling r x ≡ false
  pub even : cond effect (ringing_at r.sites p.rip) [] ++ claimed_at r.sites x' ≡ claimed_at r.sites x

-- a step in an event that keeps a ring, from an address so many bytes behind the event's first one to another
pub record InsideRing (r : Threading) (n : ℕ) (effect : Bool) (x x' from to : ℕ) : Type 0 where
  pub site : ThreadSite
  pub listed : Contains r.sites site
  pub keeps : site.event ≡ Some (Keeps n)
  pub here : x ≡ site.place + from
  pub there : x' ≡ site.place + to
  pub calm : effect ≡ false

-- LOCK XADD: the position rises by one, and eax is what it was
pub record Claims (r : Threading) (n : ℕ) (effect : Bool) (m m' : Bytes) (c' : Core) (x x' : ℕ) : Type 0 where
  pub inside : InsideRing r n effect x x' 25 34
  pub position : position_in r m' ≡ (position_in r m + 1) % 2 ^ 32
  pub slots : (j : ℕ) → j < n → slot_in r m' j ≡ slot_in r m j
  pub value : reg c' rax ≡ position_in r m % 2 ^ 32

-- MOVZX: eax is the number of a slot
pub record Reduces (r : Threading) (n : ℕ) (effect : Bool) (m m' : Bytes) (c c' : Core) (x x' : ℕ) : Type 0 where
  pub inside : InsideRing r n effect x x' 34 37
  pub position : position_in r m' ≡ position_in r m
  pub slots : (j : ℕ) → j < n → slot_in r m' j ≡ slot_in r m j
  pub value : reg c' rax ≡ reg c rax % n

-- the MOV into this slot
pub record Fills (r : Threading) (n : ℕ) (effect : Bool) (m m' : Bytes) (c : Core) (x x' : ℕ) : Type 0 where
  pub inside : InsideRing r n effect x x' 37 48
  pub position : position_in r m' ≡ position_in r m
  pub slot : slot_in r m' (reg c rax) ≡ inside.site.number + 1
  pub slots : (j : ℕ) → j < n → j ≢ reg c rax → slot_in r m' j ≡ slot_in r m j

-- what one step makes of a ring
abbrev pub RingMoves : Threading → ℕ → Bool → Watched → Bytes → Machine → Type 0
RingMoves r n effect one m to =
    Rests r n effect m to.mem one.projected one.now.rip to.rip ⊎ Claims r n effect m to.mem to.core one.now.rip to.rip
    ⊎ Reduces r n effect m to.mem one.now.core to.core one.now.rip to.rip ⊎ Fills r n effect m to.mem one.now.core one.now.rip to.rip

-- what one step leaves: the original's step or none, memory alike again, what events mark as it is due, and the thread's new phase
pub record Made (r : Threading) (S : IsThreadSound r) (stale' : ℕ → Bool) (m m' : Bytes) (one : Watched) (u : Bytes) (to : Machine) : Type 0 where
  pub went : Calm (is_effect r one.now.rip) m m' one.projected (projection r one u to) ⊎ Acts (is_effect r one.now.rip) m m' one.projected (projection r one u to)
  pub alike : AreAlike (is_hidden r) stale' m' to.mem
  pub own : SameCode r.original m'
  pub counted : (s : ThreadSite) → Contains r.sites s → (b : Base) → s.event ≡ Some (Marks b) → Changes r (is_effect r one.now.rip) b s u to.mem one.projected (projection r one u to) one.now.rip to.rip
  pub ring : (n : ℕ) → r.ring ≡ Some n → RingMoves r n (is_effect r one.now.rip) one u to
  pub processor : IsProcessorCore (projection r one u to).core
  pub words : GiveWords (projection r one u to).world
  pub phase : Phase r S to.mem (thread_of to) (projection r one u to)

-- the relation, seen from one thread
pub base_of : (r : Threading) (S : IsThreadSound r) (a : Guest) (made : List GuestItem) (w : Watch) (R : Related r S a made w) (k : ℕ) (one : Watched) → slice_get w.threads k ≡ Some one → Ground r S R.end.mem w.stale w.mem one
base_of r S a made w R k one e = record {
  alike = R.alike;
  own = R.own;
  other = R.other;
  room = R.room;
  ring_room = R.ring_room;
  kept = R.each k one e;
}
