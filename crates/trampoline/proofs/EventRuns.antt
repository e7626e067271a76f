-- The code of an event records it, by the law of lists.
use Rattle.std.proofs.Common.{ℕ, ◌+◌, ◌^◌, ◌<◌, ◌≤◌, Bool, List, [], ◌++◌, Some, None, refl, ◌∙◌, arith}
use Rattle.pun_base.specs.declared.action.Action.{Action}
use Rattle.pun_base.specs.declared.action.Action.TheVariants.{Cover, Count, Ring, When}
use Rattle.pun_base.specs.declared.action.Base.TheVariants as base
use Rattle.pun_base.specs.Actions.{IsAction}
use Rattle.pun_base.specs.Limits.{most_sites}
use Rattle.insn_form.specs.Machine.{Machine}
use Rattle.relocate_insn.specs.Running.{IsReady}
use Rattle.trampoline.specs.Events.{event_code, event_length, event_room}
use Rattle.trampoline.specs.Running.{HasData, Recorded, EventsAreRecorded}
use Rattle.trampoline.proofs.PlainEvents.{plain_recorded}
use Rattle.trampoline.proofs.ConditionEvents.{when_recorded}
use Rattle.trampoline.proofs.RingEvents.{ring_recorded}

-- an event of each action
by_action : (set' : ℕ → Bool) (action : Action) (i private n place : ℕ) (rest bytes : List ℕ) (s t : Machine) → IsAction action → i < most_sites → event_room action i ≤ n → place + event_length action < 2 ^ 31
    → IsReady set' private n place (event_code action private i ++ rest) s t → HasData (Some (record { action = action; number = i })) private n bytes t
    → (us : List Machine) × Recorded set' (Some (record { action = action; number = i })) private n place bytes s t us
by_action set' Cover i private n place rest bytes s t is number room low ready d = plain_recorded set' base.Cover i private n place rest bytes s t room low ready d.held
by_action set' Count i private n place rest bytes s t is number room low ready d = plain_recorded set' base.Count i private n place rest bytes s t room low ready d.held
by_action set' (Ring len) i private n place rest bytes s t is number room low ready d = ring_recorded set' len i private n place rest bytes s t room is.1 number d.is_data low ready d.held
by_action set' (When b list) i private n place rest bytes s t is number room low ready d = when_recorded set' b list i private n place rest bytes s t is room low ready d.held

-- and where there is none nothing runs
pub events_recorded : EventsAreRecorded
events_recorded set' None private n place rest bytes s v event_is room l h d = (
  [],
  record { run = tt; few = omega arith; there = h.there ∙ omega arith; inside = tt; seen = h.seen; marked = d.held; kept = λ x k o. refl },
)
events_recorded set' (Some e) private n place rest bytes s v event_is room l h d =
    by_action set' e.action e.number private n place rest bytes s v event_is.action event_is.number room l h d
