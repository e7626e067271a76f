use Rattle.std.proofs.Common.{Err, sym, subst, arith}
use Rattle.command_io.specs.Failing.{Failed}
use Rattle.settle_commands.specs.Settling.{SettlesText}
use Rattle.settle_commands.proofs.SettleVerdicts.{settle_refused, is_settled_as}
use Rattle.settle_commands.proofs.settle_command.settle_text.Goals as goal

pub returns-in-Ok : goal.returns-in-Ok
returns-in-Ok c =
    is_settled_as c.args.base c.args.file.now (record { bytes = λ k. (c.type_inv.file k).fits; len = omega arith }) c.in-Ok.made.base c.in-Ok.made.bytes.items
    c.in-Ok.ensures.accepted c.in-Ok.ensures.base c.in-Ok.ensures.settled

pub returns-in-Err : goal.returns-in-Err
returns-in-Err c =
    subst (λ (e : Failed). SettlesText c.args.base c.args.file.now (Err e)) (sym c.settle_failure.ensures)
    (λ n. settle_refused c.args.base c.args.file.now c.in-Err.error n c.in-Err.ensures.refused)
