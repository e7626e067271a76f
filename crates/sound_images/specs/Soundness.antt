-- What was rewritten, as a report tells it, and that a sound image runs as the original does. Theorems cite it.
use Rattle.std.specs.Prelude.{◌≡◌, ◌+◌, ◌-◌, if◌then◌else◌, List, [], ◌∷◌, flat_map}
use Rattle.pun_base.specs.declared.action.Action.{Action}
use Rattle.pun_base.specs.declared.tramp.Tramp.{Tramp}
use Rattle.insn_form.specs.Machine.{Machine}
use Rattle.insn_form.specs.Step.{Step}
use Rattle.trampoline.specs.Events.{event_length}
use Rattle.start_entries.specs.Standing.{AreEntries}
use Rattle.image_runs.specs.Deliveries.{Item}
use Rattle.patch_report.specs.Values.{BodyValue, RowValue}
use Rattle.patch_report.specs.Grammar.{IsTold}
use Rattle.sound_images.specs.Reports.{Line, lines, tramps_of}
use Rattle.sound_images.specs.Rules.{Case, IsSound}
use Rattle.sound_images.specs.Rewriting.{Site, EventTramp, Rewriting}
use Rattle.sound_images.specs.Headline.{PlainHeadline, FollowsWith, deliveries, Headline}

-- The patched site of a row, if its outcome is a scheme, with its first trampoline, whose relocated
-- code follows the event's.
abbrev pub first_site : Action → RowValue → List Tramp → List Site
first_site action r [] = []
first_site action r (t ∷ ts) =
    record {
      number = r.number;
      addr = r.site;
      place = t.place;
      relocated = t.place + event_length action;
    } ∷ []

-- The patched sites of all rows.
abbrev pub sites_of : BodyValue → List Site
sites_of v = flat_map (λ r. first_site v.action r (tramps_of r.outcome)) v.rows

-- A trampoline with its number and its place, where it has an event.
abbrev pub event_tramp : Line → List EventTramp
event_tramp l =
    if l.tramp.event then record { number = l.number; place = l.tramp.place } ∷ [] else []

-- The trampolines with an event, of whichever row they are.
abbrev pub event_tramps_of : BodyValue → List EventTramp
event_tramps_of v = flat_map event_tramp (lines v)

-- The rewriting of a case. The data part is the private range from offset 64 on.
abbrev pub rewriting_of : Case → Rewriting
rewriting_of c = record {
  original = c.original;
  patched = c.patched;
  entry = c.entry;
  listed = c.listed;
  sites = sites_of c.report;
  event_tramps = event_tramps_of c.report;
  action = c.report.action;
  data_lo = c.report.private.0 + 64;
  data_len = c.report.private.1 - c.report.private.0 - 64;
}

-- A sound image runs as the original does, from the original's entry point, whatever is delivered
-- where a state stands outside: the headline.
abbrev pub SoundIsFollowed : Type 0
SoundIsFollowed =
    (c : Case) → AreEntries c.original c.listed → IsTold c.report → IsSound c
    → (c.patched_entry ≡ c.entry) × Headline Step (rewriting_of c)

-- The patched image follows the original, from its entry point.
unfoldable pub IsCaseFollowed : Case → Type 0
IsCaseFollowed c = (c.patched_entry ≡ c.entry) × Headline Step (rewriting_of c)

-- The headline for runs without deliveries is the case in which nothing is delivered.
abbrev pub PlainIsACase : Type 0
PlainIsACase = (r : Rewriting) → Headline Step r → PlainHeadline Step r

-- A run that follows another has the same deliveries in the same order.
abbrev pub SameDeliveries : Type 0
SameDeliveries =
    (r : Rewriting) (a : Machine) (is : List Item) (b : Machine) (us : List Item) → FollowsWith Step r a is b us
    → deliveries us ≡ deliveries is
