use Rattle.std.proofs.Common.{Option, refl, sym, subst}
use Rattle.std.specs.Prelude.{IfSome}
use Rattle.trampoline.specs.declared.event.Event.{Event}
use Rattle.trampoline.specs.Running.{IsEvent}
use Rattle.start_entries.specs.Finding.{entry_at}
use Rattle.sound_images.proofs.LineEvents.{event_is}
use Rattle.site_turns.specs.Turned.{line_at, events_case}
use Rattle.site_turns.proofs.TrampolineCodes.{size_known, ok, has}
use Rattle.site_turns.proofs.building.EventSettingCoding.code_of.Goals as goal

pub unreachable-requires : goal.unreachable-requires
unreachable-requires c =
    size_known _ c.args.tramp.now.event (entry_at c.args.self.now.starts.now c.args.tramp.now.start) c.requires.can c.in_default.ensures.at

pub build-requires-clause-event : goal.build-requires-clause-event
build-requires-clause-event c =
    subst (λ (o : Option Event). IfSome o IsEvent) (sym c.event_of-event.ensures)
    (event_is c.args.tramp.now.event c.args.self.now.action c.args.number c.requires.set.action c.requires.number)

pub unwrap-requires : goal.unwrap-requires
unwrap-requires c =
    ok _ _ _ _ _ _ c.requires.set.accepted c.requires.set.own c.in-Some.ensures.at
    c.args.self.now.action c.args.tramp.now.event c.event_of-event.result c.build.result c.requires.can c.build.ensures.size

pub returns-clause-code : goal.returns-clause-code
returns-clause-code c =
    has _ _ _ _ _ _ c.requires.set.accepted c.requires.set.own c.in-Some.ensures.at
    (events_case c.args.self.now) (line_at c.args.number c.args.tramp.now) c.event_of-event.result c.args.self.now.private.lo
    c.unwrap.result c.build.result refl refl refl refl c.event_of-event.ensures c.unwrap.ensures c.requires.can c.build.ensures.code
