-- The rules by which turns go: those of events, and those of events where threads share memory, with the scene of a file by each. Theorems cite it.
use Rattle.std.specs.Prelude.{◌≡◌, ℕ, zero, suc, ◌+◌, ◌==◌, Bool, true, false, ◌||◌, List, [], ◌∷◌, Option, Some, None}
use Rattle.pun_base.specs.declared.action.Action.{Action}
use Rattle.pun_base.specs.declared.action.Action.TheVariants.{Cover, Count, Ring, When}
use Rattle.pun_base.specs.declared.action.Base.{Base}
use Rattle.pun_base.specs.declared.action.Base.TheVariants as base
use Rattle.pun_base.specs.declared.action.Comparison.{Comparison}
use Rattle.pun_base.specs.Actions.{listed}
use Rattle.pun_base.specs.declared.scheme.Scheme.{Scheme}
use Rattle.trampoline.specs.Events.{event_length}
use Rattle.elf_read.specs.Entries.{segments}
use Rattle.elf_read.specs.Image.{image_of}
use Rattle.address_space.specs.declared.extent.Extent.{Extent}
use Rattle.start_entries.specs.declared.entry.StartEntry.{StartEntry}
use Rattle.start_list.specs.Forms.{work_length}
pub use Rattle.start_list.specs.Forms.{can_in_threads}
use Rattle.site_turns.specs.declared.mode.Mode.{Mode}
use Rattle.site_turns.specs.declared.mode.Mode.TheVariants.{Events, Threads}
use Rattle.site_turns.specs.States.{Scene}
use Rattle.site_turns.specs.Laws.{five}

-- What a turn goes by: how long the code of an event is, how long the code is that does an instruction's work, if it may
-- be displaced, and the schemes that are tried, in this order.
pub record TurnRules : Type 0 where
  pub event_size : ℕ
  pub can : StartEntry → Option ℕ
  pub schemes : List Scheme

-- The rules where the sites get the events of an action: all five schemes are tried.
abbrev pub event_rules : Action → TurnRules
event_rules action = record { event_size = event_length action; can = work_length; schemes = five }

-- Threads can get the events of this action: of a ring where the number of claims so far leads to a slot by its low byte or its low word.
abbrev pub is_shared : Action → Bool
is_shared Cover = true
is_shared Count = true
is_shared (Ring len) = len == 256 || len == 65536
is_shared (When b list) = true

abbrev pub IsShared : Action → Type 0
IsShared action = is_shared action ≡ true

-- How long the code of an event is that saves rax and the flags, but for its comparisons.
abbrev pub saving_size : Base → ℕ
saving_size base.Cover = 31
saving_size base.Count = 32

-- How long a comparison is with the jump that is taken where it fails: of rax, which is compared where it is saved, or of another register.
abbrev pub check_size : ℕ → ℕ
check_size zero = 14
check_size (suc r) = 9

-- How long comparisons are.
abbrev pub checks_size : List Comparison → ℕ
checks_size [] = 0
checks_size (c ∷ cs) = check_size c.reg + checks_size cs

-- How long the code of an event for threads is.
abbrev pub thread_event_size : Action → ℕ
thread_event_size Cover = 8
thread_event_size Count = 32
thread_event_size (Ring len) = 67
thread_event_size (When b list) = saving_size b + checks_size (listed list)

-- The event of a trampoline for threads, where it has one: that of the action.
abbrev pub thread_event_of : Action → Bool → Option Action
thread_event_of action true = Some action
thread_event_of action false = None

-- The rules where the sites get events for threads: sites and victims alike are those that may be
-- displaced where threads share memory, and all five schemes are tried.
abbrev pub thread_rules : Action → TurnRules
thread_rules action = record { event_size = thread_event_size action; can = can_in_threads; schemes = five }

-- The scene of a file whose turns go by these rules.
abbrev pub rules_scene : TurnRules → List ℕ → List StartEntry → Action → Extent → List Extent → Scene
rules_scene r file entries action private shut = record {
  image = image_of file;
  segments = segments file;
  entries = entries;
  action = action;
  event_size = r.event_size;
  can = r.can;
  private = private;
  shut = shut;
}

-- The rules of a mode.
abbrev pub rules_of : Mode → TurnRules
rules_of (Events action) = event_rules action
rules_of (Threads action) = thread_rules action

-- What the private range is laid out for: for threads as for the same action of one thread.
abbrev pub action_of : Mode → Action
action_of (Events action) = action
action_of (Threads action) = action

-- How long the code of an event is, by a mode.
abbrev pub event_size_of : Mode → ℕ
event_size_of mode = (rules_of mode).event_size

-- How long the code is that does an instruction's work, if it may be displaced, by a mode.
abbrev pub can_of : Mode → StartEntry → Option ℕ
can_of mode = (rules_of mode).can

-- The schemes that are tried, in this order, by a mode.
abbrev pub schemes_of : Mode → List Scheme
schemes_of mode = (rules_of mode).schemes
