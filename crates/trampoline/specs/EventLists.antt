-- Events as lists of steps. Theorems cite it. p is the first address of the private range, i the number of the site.
use Rattle.std.specs.Prelude.{◌≡◌, ℕ, ◌+◌, ◌*◌, false, [], ◌∷◌}
use Rattle.pun_base.specs.declared.action.Action.{Action}
use Rattle.pun_base.specs.declared.action.Action.TheVariants as action
use Rattle.pun_base.specs.declared.action.Base.{Base}
use Rattle.pun_base.specs.declared.action.Base.TheVariants as base
use Rattle.pun_base.specs.Actions.{listed}
pub use Rattle.cond_action.specs.CondLists.{counter_at, mark_at, mark_len, eight_at, four_at, marked_datum, marking_step, register_checks, cond_event}
use Rattle.trampoline.specs.Events.{event_code}
use Rattle.event_steps.specs.declared.step.Datum.{Datum}
use Rattle.event_steps.specs.EventSteps.{code}
use Rattle.event_steps.specs.declared.step.Place.TheVariants.{At}
use Rattle.event_steps.specs.declared.step.EventStep.TheVariants.{Cover, Store, Load, StoreLow, LoadLow, Raise, IntoAh, IntoAl, FromAl, FromAh, SetLow, NextLow, CompareLow, Put, SkipIf}
use Rattle.event_steps.specs.Interleaved.{Listed}
use Rattle.event_steps.specs.Interleaved.Killed.{Nothing}

-- the event that covers, and the one that counts
abbrev pub cover_event : ℕ → ℕ → Listed
cover_event p i = record { uses = marked_datum base.Cover p i ∷ []; steps = Cover 0 ∷ []; kills = Nothing }

abbrev pub count_event : ℕ → ℕ → Listed
count_event p i = record { uses = eight_at p ∷ marked_datum base.Count p i ∷ []; steps = Store 0 ∷ Load 1 ∷ Raise ∷ Store 1 ∷ Load 0 ∷ []; kills = Nothing }

-- both
abbrev pub event_of : Base → ℕ → ℕ → Listed
event_of base.Cover p i = cover_event p i
event_of base.Count p i = count_event p i

-- a ring of n slots, each four bytes
abbrev pub slots_at : ℕ → ℕ → Datum
slots_at a n = record { place = At a; size = 4 * n; number = false }

-- the event with a ring: rax and the flags saved, the number put into the slot at the position, the next position, and all back
abbrev pub ring_list : ℕ → ℕ → ℕ → Listed
ring_list n p i = record {
  uses = eight_at p ∷ four_at (p + 8) ∷ four_at (p + 64) ∷ slots_at (p + 68) n ∷ [];
  steps = Store 0 ∷ IntoAh ∷ IntoAl ∷ StoreLow 1 ∷ LoadLow 2 ∷ Put 3 (i + 1) ∷ NextLow ∷ CompareLow n ∷ SkipIf 5 1 ∷ SetLow 0 ∷ StoreLow 2 ∷ LoadLow 1 ∷ FromAl ∷ FromAh ∷ Load 0 ∷ [];
  kills = Nothing;
}

-- the event of an action as a list
abbrev pub listed_event : Action → ℕ → ℕ → Listed
listed_event action.Cover p i = cover_event p i
listed_event action.Count p i = count_event p i
listed_event (action.Ring len) p i = ring_list len p i
listed_event (action.When b list) p i = cond_event b (listed list) p i

-- its code is the event's
abbrev pub AreLists : Type 0
AreLists = (action : Action) (p i : ℕ) → code (listed_event action p i).uses (listed_event action p i).steps ≡ event_code action p i
