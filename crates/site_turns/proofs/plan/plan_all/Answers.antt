use Rattle.std.proofs.Common.{List, refl, sym, subst, rules}
use Rattle.std.specs.List.{AllByRecursion}
use Rattle.patch_report.specs.declared.row.ReportRow.{ReportRow}
use Rattle.sound_images.proofs.ReadInstructions.{entries_built}
use Rattle.site_turns.specs.declared.building.EventSetting.{EventSetting}
use Rattle.site_turns.specs.PlannedState.{PlannedState}
use Rattle.site_turns.specs.Planning.{requested, Turns, IsPlanned, lines_of, AreCodes}
use Rattle.site_turns.specs.Turned.{CanBuild, events_case}
use Rattle.site_turns.proofs.PlannedEvents.{can_build, planned}
use Rattle.site_turns.proofs.plan.plan_all.Goals as goal

pub build_all-requires : goal.build_all-requires
build_all-requires c =
    let s : EventSetting =
    record { elf = c.args.elf; starts = c.args.starts; action = c.args.action; private = c.in_ok-private.field-0.private } in
    let q = requested c.args.elf.now.bytes c.args.starts.now c.args.sites.now c.args.action c.args.reserves.now in
    let t = c.in_ok-private.ensures.turned in
    subst (λ (rows : List ReportRow). AllByRecursion (CanBuild s) (lines_of rows)) (sym c.deref.ensures.value)
    (can_build s q t.0 c.in_ok-private.field-0.private c.in_ok-private.field-0.rows.items
    (entries_built c.args.elf.now.bytes c.args.starts.now c.in_ok-private.ensures.accepted c.requires.built) c.requires.few refl refl t.1 (search rules))

pub returns-clause-planned : goal.returns-clause-planned
returns-clause-planned c =
    let s : EventSetting =
    record { elf = c.args.elf; starts = c.args.starts; action = c.args.action; private = c.in_ok-private.field-0.private } in
    let q = requested c.args.elf.now.bytes c.args.starts.now c.args.sites.now c.args.action c.args.reserves.now in
    let t = c.in_ok-private.ensures.turned in
    subst (λ (p : PlannedState). (t : Turns) × IsPlanned q t p) (sym c.new.ensures) (
      t.0,
      planned s q t.0 c.in_ok-private.field-0.rows.items c.in-Ok.built.items refl refl refl t.1
          (subst (λ (rows : List ReportRow). AreCodes (events_case s) (lines_of rows) c.in-Ok.built.items) c.deref.ensures.value c.in-Ok.ensures),
    )
