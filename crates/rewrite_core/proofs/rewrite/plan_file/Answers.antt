use Rattle.site_turns.specs.Planning.{IsPlanned}
use Rattle.rewrite_core.specs.Causes.{start_error, turn_error}
use Rattle.rewrite_core.specs.Patching.{Plans}
use Rattle.rewrite_core.proofs.PlannedCalls.{asked, by_error, planned_for, not_started, not_planned}
use Rattle.rewrite_core.proofs.rewrite.plan_file.Goals as goal

pub returns-in_err-listed : goal.returns-in_err-listed
returns-in_err-listed c =
    let a = asked c.args.elf.now.bytes c.args.starts.now c.args.sites.now c.args.action c.args.reserves.now in
    by_error (Plans a) _ (start_error c.in_err-listed.field-0.0) c.from_residual.ensures.1
    (not_started IsPlanned a c.in_err-listed.field-0.0 c.requires.accepted c.in_err-listed.ensures.refused)

pub returns-in_err-planned : goal.returns-in_err-planned
returns-in_err-planned c =
    let a = asked c.args.elf.now.bytes c.args.starts.now c.args.sites.now c.args.action c.args.reserves.now in
    by_error (Plans a) _ (turn_error c.in_err-planned.field-0.0) c.from_residual-in_err-planned.ensures.1
    (not_planned IsPlanned a c.in_ok-listed.listed c.in_err-planned.field-0.0 c.requires.accepted c.in_ok-listed.ensures.entries
    c.in_ok-listed.ensures.accepted c.in_err-planned.ensures.refused)

pub returns : goal.returns
returns c =
    let a = asked c.args.elf.now.bytes c.args.starts.now c.args.sites.now c.args.action c.args.reserves.now in
    planned_for IsPlanned a c.in_ok-listed.listed c.in_ok-planned.planned c.requires.action c.requires.few_sites c.requires.bytes c.requires.size
    c.requires.accepted c.in_ok-listed.ensures.entries c.in_ok-listed.ensures.accepted c.in_ok-listed.ensures.built c.in_ok-planned.ensures.planned
