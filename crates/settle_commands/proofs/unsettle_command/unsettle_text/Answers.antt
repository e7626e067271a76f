use Rattle.std.proofs.Common.{Err, sym, subst, ◌∷◌}
use Rattle.command_io.specs.Failing.{Failed}
use Rattle.settle_commands.specs.Settling.{UnsettlesText}
use Rattle.settle_commands.proofs.UnsettleVerdicts.{unsettle_refused, is_given_back}
use Rattle.settle_commands.proofs.unsettle_command.unsettle_text.Goals as goal

pub returns-in-Ok : goal.returns-in-Ok
returns-in-Ok c = is_given_back c.args.out.now c.in-Ok.bytes.items c.in-Ok.ensures.undone

pub returns-in-Err : goal.returns-in-Err
returns-in-Err c =
    subst (λ (e : Failed). UnsettlesText c.args.out.now (Err e)) (sym c.unsettle_failure.ensures)
    (λ n. unsettle_refused c.args.out.now c.in-Err.error n c.in-Err.ensures.refused)
