use Rattle.std.proofs.Common.{Err, sym, ap, ◌∙◌, option_copied}
use Rattle.std.proofs.lemmas.Result.{err_from_is_err_and}
use Rattle.cpu_state.specs.Parts.{core_of}
use Rattle.cpu_state.specs.Regions.{cell_at}
use Rattle.insn_form.specs.Resolving.{resolved}
use Rattle.cpu_step.specs.declared.stop.Stop.{Stop}
use Rattle.cpu_step.specs.Changing.{core_or_stop}
use Rattle.cpu_step.specs.Kept.{asked_of}
use Rattle.cpu_step.specs.Steps.{taken_of}
use Rattle.cpu_step.proofs.PlannedStops.{stop_planned}
use Rattle.cpu_step.proofs.planning.plan_exact.Goals as goal

pub returns-in_err-flags-clause-taken : goal.returns-in_err-flags-clause-taken
returns-in_err-flags-clause-taken c =
    let s = c.args.state.now in
    let k = core_of s in
    let x = c.out_of-changes.result in
    let stop = c.in_err-flags.field-0.0 in
    let r = err_from_is_err_and c.from_residual-in_err-flags.result c.from_residual-in_err-flags.ensures.1 in
    ap (taken_of k) r.1
    ∙ (ap (λ (z : Stop). taken_of k (Err z)) r.2
    ∙ stop_planned s.rip c.args.after c.in_ok-number.number (asked_of c.args.insn.now.bytes c.args.after) (resolved c.args.after c.args.op) k (cell_at s.mem) (option_copied c.args.next)
    x c.read_span-read.result c.write_span-write.result stop c.read_span-read.ensures.value c.write_span-write.ensures.value
    (sym c.in_ok-number.was ∙ c.read_number.ensures) (sym c.in_ok-check_write.was ∙ c.check_write.ensures) c.out_of-changes.ensures
    (ap (core_or_stop x k) (sym c.in_err-flags.was) ∙ c.complete.ensures))
