-- The events of an action, as threads have them: their comparisons, their lengths and their rings.
use Rattle.std.proofs.Common.{◌≡◌, ℕ, zero, suc, ◌+◌, Bool, true, false, List, [], ◌∷◌, Some, refl, ap, ap₂, subst, arith}
use Rattle.pun_base.specs.declared.action.Action.{Action}
use Rattle.pun_base.specs.declared.action.Action.TheVariants.{Cover, Count, Ring, When}
use Rattle.pun_base.specs.declared.action.Base.{Base}
use Rattle.pun_base.specs.declared.action.Base.TheVariants as base
use Rattle.pun_base.specs.declared.action.Comparison.{Comparison}
use Rattle.pun_base.specs.Actions.{AreComparisons, listed, IsAction}
use Rattle.patch_report.proofs.ListPlaces.{some_is}
use Rattle.site_turns.specs.Modes.{IsShared, thread_event_of, saving_size, check_size, checks_size, thread_event_size}
use Rattle.thread_runs.specs.Building.{kind_of, event_of, when_of, CanBeShared}
use Rattle.thread_runs.specs.Event.{AreFew}
use Rattle.thread_runs.specs.ThreadCode.{Kind, Marks, Keeps, is_ring_length, compare_len, checking_len, marking_len, event_len}
use Rattle.thread_runs.specs.Threading.{ring_of}
use Rattle.thread_runs.proofs.ThreadTrampolines.{asked_len, listed_few}

-- the event of an action that can be asked for, where threads can get it, is one that they can have
pub action_shared : (a : Action) (b : Bool) → IsAction a → IsShared a → CanBeShared (thread_event_of a b)
action_shared a false h s = tt
action_shared Cover true h s = tt
action_shared Count true h s = tt
action_shared (Ring len) true h s = s
action_shared (When b list) true h s = h

-- its condition can be asked for
action_asked : (a : Action) (b : Bool) → IsAction a → AreComparisons (when_of (thread_event_of a b))
action_asked a false h = tt
action_asked Cover true h = tt
action_asked Count true h = tt
action_asked (Ring len) true h = tt
action_asked (When b list) true h = h

-- it has few comparisons
pub action_few : (a : Action) (b : Bool) → IsAction a → AreFew (when_of (thread_event_of a b))
action_few a b h = record { asked = action_asked a b h; few = listed_few (thread_event_of a b) }

-- a turn takes for a comparison its bytes and those of its jump
check_long : (r : ℕ) → check_size r ≡ compare_len r + 2
check_long zero = refl
check_long (suc r) = refl

-- and so for each
checks_long : (cs : List Comparison) → checks_size cs ≡ checking_len cs
checks_long [] = refl
checks_long (c ∷ cs) = ap₂ (λ x y. x + y) (check_long c.reg) (checks_long cs)

-- what an event that saves has beside its comparisons
saving_long : (b : Base) → saving_size b ≡ 23 + marking_len b
saving_long base.Cover = refl
saving_long base.Count = refl

-- a turn takes for an event the bytes that the event has
pub event_size_is : (a : Action) → thread_event_size a ≡ event_len (event_of (Some a)) (when_of (Some a))
event_size_is Cover = refl
event_size_is Count = refl
event_size_is (Ring len) = refl
event_size_is (When b list) = omega (arith, saving_long b, checks_long (listed list), asked_len b list)

-- events that say how many slots a ring has keep it
pub keeps_of : (k : Kind) (n : ℕ) → ring_of k ≡ Some n → k ≡ Keeps n
keeps_of (Marks b) n h = absurd cc
keeps_of (Keeps m) n h = ap Keeps (some_is m n h)

-- the slots of a ring
abbrev slots_of : Kind → ℕ
slots_of (Marks b) = 256
slots_of (Keeps n) = n

-- a ring whose events threads can get has a length that they can share
pub ring_shared : (a : Action) (n : ℕ) → IsShared a → kind_of a ≡ Keeps n → is_ring_length n ≡ true
ring_shared a n s h = subst (λ (k : Kind). is_ring_length (slots_of k) ≡ true) h (by_action a s)
  where
    by_action : (a : Action) → IsShared a → is_ring_length (slots_of (kind_of a)) ≡ true
    by_action Cover s = refl
    by_action Count s = refl
    by_action (Ring len) s = s
    by_action (When b list) s = refl

-- the events of a ring are under no condition
pub ring_always : (a : Action) (b : Bool) (n : ℕ) → kind_of a ≡ Keeps n → when_of (thread_event_of a b) ≡ []
ring_always a false n h = refl
ring_always Cover true n h = refl
ring_always Count true n h = refl
ring_always (Ring len) true n h = refl
ring_always (When b list) true n h = absurd cc
