-- Threads in events, while others step in between. Theorems cite it.
use Rattle.std.specs.Prelude.{◌≡◌, ◌⊎◌, ℕ, zero, suc, ◌+◌, ◌^◌, ◌<◌, Bool, true, false, List, [], ◌∷◌, drop}
use Rattle.cpu_state.specs.declared.state.Core.{Core}
use Rattle.cpu_state.specs.Bytes.{allows, number_at}
use Rattle.cpu_state.specs.Fixed.{IsFixed}
use Rattle.insn_form.specs.Machine.{Machine}
use Rattle.event_steps.specs.ThreadSteps.{ThreadStep}
use Rattle.event_steps.specs.DoneSteps.{is_one_of, Local, started, done, address, AreLow, AreApart, AreFree, FitsIn, mem_done, StandsBy}
use Rattle.event_steps.specs.declared.step.Place.{Place}
use Rattle.event_steps.specs.declared.step.Datum.{Datum}
use Rattle.event_steps.specs.declared.step.EventStep.{EventStep}
use Rattle.event_steps.specs.EventSteps.{long, code, AreSteps}
use Rattle.event_steps.specs.MadeSteps.{skipped}
use Rattle.event_steps.specs.EventSteps.Mode.{Shared}
use Rattle.event_steps.specs.declared.step.Place.TheVariants.{At, Below}
use Rattle.pun_base.specs.Memory.{Bytes}

-- what an event may leave changed: nothing, PF, AF, ZF, SF and OF, these and CF, or a register
pub data Killed : Type 0 where
  Nothing : Killed
  Five : Killed
  Six : Killed
  Register : (r : ℕ) → Killed

-- an event as data: what it saves in and marks, its steps, and what the instruction behind it must kill
pub record Listed : Type 0 where
  pub uses : List Datum
  pub steps : List EventStep
  pub kills : Killed

-- the numbers that data hold in memory
abbrev pub numbers_in : List Datum → Core → Bytes → List ℕ
numbers_in [] c m = []
numbers_in (d ∷ ds) c m = number_at m (address d.place c) d.size ∷ numbers_in ds c m

-- a datum below rsp is the thread's own; others may change each other one
abbrev pub IsKeptAt : Bool → Place → ℕ → ℕ → Type 0
IsKeptAt true (Below d) x y = y ≡ x
IsKeptAt number p x y = Unit {0}

abbrev pub AreKept : List Datum → List ℕ → List ℕ → Type 0
AreKept [] xs ys = (xs ≡ []) × (ys ≡ [])
AreKept (d ∷ ds) [] ys = ⊥
AreKept (d ∷ ds) (x ∷ xs) [] = ⊥
AreKept (d ∷ ds) (x ∷ xs) (y ∷ ys) = IsKeptAt d.number d.place x y × AreKept ds xs ys

-- while others step, registers, flags and a thread's own data stay
abbrev pub Meanwhile : List Datum → Local → Local → Type 0
Meanwhile ds l m = (m.core ≡ l.core) × (m.marked ≡ l.marked) × AreKept ds l.held m.held

-- A thread that stood with l in front of steps, of which the first k are left out, may stand with l' in front of the last ones of them.
abbrev pub Reaches : List Datum → ℕ → List EventStep → List EventStep → Local → Local → Type 0
Reaches ds k [] rest l l' = (rest ≡ []) × Meanwhile ds l l'
Reaches ds (suc k) (s ∷ ss) rest l l' = Reaches ds k ss rest l l'
Reaches ds zero (s ∷ ss) rest l l' = ((rest ≡ s ∷ ss) × Meanwhile ds l l') ⊎ ((m : Local) × Meanwhile ds l m × Reaches ds (skipped s m.core) ss rest (done s m) l')

-- A thread that came with registers and flags c into an event whose code stands at a place, and that stands in front of these steps of it.
pub record IsIn (e : Listed) (place : ℕ) (c : Core) (rest : List EventStep) (v : Machine) : Type 0 where
  pub began : List ℕ
  pub now : Local
  pub came : Reaches e.uses 0 e.steps rest (started c began) now
  pub beside : StandsBy e.uses c now v
  pub rip : v.rip + long rest ≡ place + long e.steps
  pub stands : IsFixed v.mem place (code e.uses e.steps)

-- what of an event and of where it stands stays: its steps are ones of threads, its data lie low and apart
pub record IsWell (e : Listed) (place : ℕ) (c : Core) : Type 0 where
  pub steps : AreSteps Shared e.uses e.steps
  pub below : place + long e.steps < 2 ^ 31
  pub low : AreLow e.uses
  pub apart : AreApart e.uses c

-- A thread that comes to the event is in it, in front of all its steps.
abbrev pub ComesIn : Type 0
ComesIn = (e : Listed) (place : ℕ) (v : Machine) → v.rip ≡ place → IsFixed v.mem place (code e.uses e.steps) → IsIn e place v.core e.steps v

-- Each step that it makes is that in front of which it stands: it stands in front of the next one then, and memory is as the step says.
abbrev pub GoesOn : Type 0
GoesOn = (e : Listed) (place : ℕ) (c : Core) (s : EventStep) (rest : List EventStep) (v w : Machine) → IsWell e place c → (h : IsIn e place c (s ∷ rest) v) → FitsIn e.uses s h.now
    → ThreadStep v w → IsIn e place c (drop (skipped s v.core) rest) w × (w.mem ≡ mem_done e.uses c s h.now v.mem) × (w.world ≡ v.world)

-- It can make it where the data are free.
abbrev pub CanGoOn : Type 0
CanGoOn = (e : Listed) (place : ℕ) (c : Core) (s : EventStep) (rest : List EventStep) (v : Machine) → IsWell e place c → AreFree e.uses c v.mem → (h : IsIn e place c (s ∷ rest) v) → FitsIn e.uses s h.now
    → (w : Machine) × ThreadStep v w

-- an address is a byte of an own datum
abbrev pub is_own_place : Place → Bool
is_own_place (At a) = false
is_own_place (Below d) = true

abbrev pub IsOwn : List Datum → Core → ℕ → Type 0
IsOwn [] c x = ⊥
IsOwn (d ∷ ds) c x = ((is_own_place d.place ≡ true) × (is_one_of (address d.place c) d.size x ≡ true)) ⊎ IsOwn ds c x

-- While others step, it stays in front of its steps, if they keep code and its own data.
abbrev pub StaysIn : Type 0
StaysIn = (e : Listed) (place : ℕ) (c : Core) (rest : List EventStep) (v w : Machine) → IsIn e place c rest v → w.core ≡ v.core → w.rip ≡ v.rip
    → ((x : ℕ) → allows 1 (v.mem x) ≡ true → allows 2 (v.mem x) ≡ false → w.mem x ≡ v.mem x) → ((x : ℕ) → IsOwn e.uses c x → w.mem x ≡ v.mem x) → IsIn e place c rest w
