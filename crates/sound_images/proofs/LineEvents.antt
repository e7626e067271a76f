-- The event of a line, where it has one, and the record with it.
use Rattle.std.proofs.Common.{◌≡◌, ℕ, ◌+◌, ◌<◌, ◌≤◌, Bool, true, false, cond, List, [], ◌∷◌, ◌++◌, length, replicate, Option, Some, None, sym, ap, subst, arith}
use Rattle.std.specs.Prelude.{IfSome}
use Rattle.std.proofs.lemmas.List.{append-nil}
use Rattle.pun_base.specs.declared.action.Action.{Action}
use Rattle.pun_base.specs.Actions.{IsAction, private_len}
use Rattle.pun_base.specs.Limits.{most_sites}
use Rattle.pun_base.proofs.PrivateLengths.{has_front}
use Rattle.trampoline.specs.declared.event.Event.{Event}
use Rattle.trampoline.specs.Events.{Seen, IsData}
use Rattle.trampoline.specs.Trampolines.{part_length}
use Rattle.trampoline.specs.Running.{room_of, IsDataOf, IsEvent, mark_of}
use Rattle.trampoline.proofs.EventData.{marks_data, room_for_each}
use Rattle.trampoline.proofs.TrampolineBytes.{some_code}
use Rattle.sound_images.specs.Rewriting.{Rewriting}
use Rattle.sound_images.specs.Events.{events_of, record_for}
use Rattle.sound_images.proofs.EventNumbers.{event_number}
use Rattle.sound_images.proofs.RelatedStates.{marked_more}

-- the event of a line, by whether it has one
abbrev pub event_if : Bool → Action → ℕ → Option Event
event_if b action n = cond b (Some (record { action = action; number = n })) None

-- the private range has room for the event of each line
pub event_fits : (b : Bool) (action : Action) (i count n : ℕ) → i < count → private_len action count ≤ n → room_of (event_if b action i) ≤ n
event_fits true action i count n l h = omega (arith, h, room_for_each action i count l)
event_fits false action i count n l h = omega (arith, h, has_front action count)

-- the event of a line is one, where the action can be asked for
pub event_is : (b : Bool) (action : Action) (i : ℕ) → IsAction action → i < most_sites → IfSome (event_if b action i) IsEvent
event_is true action i a h = record { action = a; number = h }
event_is false action i a h = tt

-- the code of a line's event has 80 bytes at most
pub part_short : (b : Bool) (action : Action) (i : ℕ) → part_length (event_if b action i) ≤ 80
part_short true action i = (some_code action).1
part_short false action i = omega arith

-- what is data for the action is data for it
pub data_fits : (b : Bool) (action : Action) (i : ℕ) (bytes : List ℕ) → IsData action bytes → IsDataOf (event_if b action i) bytes
data_fits true action i bytes h = h
data_fits false action i bytes h = tt

-- the record with the events of a line
pub record_more : (r : Rewriting) (b : Bool) (i : ℕ) (regs : List ℕ) (events : List Seen)
    → mark_of (event_if b r.action i) regs (record_for r events) ≡ record_for r (events ++ events_of regs (event_number b i))
record_more r true i regs events = sym (marked_more r.action events (record { number = i; regs = regs } ∷ []) (replicate r.data_len 0))
record_more r false i regs events = ap (record_for r) (sym (append-nil events))

-- the record with the events of a line is data for the action
pub data_more : (r : Rewriting) (b : Bool) (i : ℕ) (regs : List ℕ) (events : List Seen)
    → IsAction r.action → room_of (event_if b r.action i) ≤ 64 + length (record_for r events) → IsData r.action (record_for r events)
    → IsData r.action (record_for r (events ++ events_of regs (event_number b i)))
data_more r true i regs events a l h = subst (λ (z : List ℕ). IsData r.action z) (record_more r true i regs events)
    (marks_data r.action i regs (record_for r events) a l h)
data_more r false i regs events a l h = subst (λ (z : List ℕ). IsData r.action z) (record_more r false i regs events) h
