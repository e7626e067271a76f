use Rattle.std.proofs.Common.{List, refl, sym, subst, rules}
use Rattle.std.specs.List.{AllByRecursion}
use Rattle.patch_report.specs.declared.row.ReportRow.{ReportRow}
use Rattle.sound_images.proofs.ReadInstructions.{entries_built}
use Rattle.site_turns.specs.PlannedState.{PlannedState}
use Rattle.site_turns.specs.Planning.{requested, Turns, lines_of, AreCodesBy}
use Rattle.guest_threads.specs.declared.planning.ThreadSetting.{ThreadSetting}
use Rattle.guest_threads.specs.ThreadPlanning.{CanBuildThread, IsThreadPlanned, code_in}
use Rattle.guest_threads.proofs.ThreadPlans.{can_build}
use Rattle.guest_threads.proofs.planning.plan_threads.Goals as goal

pub build_all-requires : goal.build_all-requires
build_all-requires c =
    let s : ThreadSetting = record { action = c.args.action; elf = c.args.elf; starts = c.args.starts; private = c.in_ok-private.field-0.private } in
    let q = requested c.args.elf.now.bytes c.args.starts.now c.args.sites.now c.args.action c.args.reserves.now in
    let t = c.in_ok-private.ensures.turned in
    subst (λ (rows : List ReportRow). AllByRecursion (CanBuildThread s) (lines_of rows)) (sym c.deref.ensures.value)
    (can_build q t.0 c.in_ok-private.field-0.private c.in_ok-private.field-0.rows.items
    (entries_built c.args.elf.now.bytes c.args.starts.now c.in_ok-private.ensures.accepted c.requires.built) c.requires.few t.1 s refl (search rules))

pub returns-clause-planned : goal.returns-clause-planned
returns-clause-planned c =
    let s : ThreadSetting = record { action = c.args.action; elf = c.args.elf; starts = c.args.starts; private = c.in_ok-private.field-0.private } in
    let q = requested c.args.elf.now.bytes c.args.starts.now c.args.sites.now c.args.action c.args.reserves.now in
    let t = c.in_ok-private.ensures.turned in
    subst (λ (p : PlannedState). (t : Turns) × IsThreadPlanned q t p) (sym c.new.ensures) (
      t.0,
      record {
        turned = t.1;
        built = subst (λ (rows : List ReportRow). AreCodesBy (code_in s) (lines_of rows) c.in-Ok.built.items) c.deref.ensures.value c.in-Ok.ensures;
      },
    )
