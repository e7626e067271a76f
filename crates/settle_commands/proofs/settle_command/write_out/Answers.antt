use Rattle.std.proofs.Common.{ℕ, List, Err, inl, subst}
use Rattle.command_io.specs.Failing.{seen_as, told_of, failed_of}
use Rattle.command_io.specs.Works.{WritesOne}
use Rattle.command_io.proofs.WholeCommands.{told_behind}
use Rattle.settle.specs.Settled.{settled}
use Rattle.settle_commands.specs.SettleAnswers.{SettleJob, settled_text}
use Rattle.settle_commands.proofs.settle_command.write_out.Goals as goal

pub returns-in-Ok : goal.returns-in-Ok
returns-in-Ok g c file e =
    told_behind (c.args.name.now, λ (j : SettleJob). settled j.base j.file) (record { base = c.args.made.base; file = file }) c.args.made.bytes.items
    (settled_text c.args.made.base, 0) _ _ (seen_as told_of c.told_base.result) e c.in-Ok.ensures c.told_base.ensures

pub returns-in-Err : goal.returns-in-Err
returns-in-Err g c file e =
    inl (subst (λ (bytes : List ℕ). WritesOne c.args.name.now bytes (g.D.Desk.seen c.args.desk.now) (g.D.Desk.seen c.write_output.new.desk) (Err (failed_of c.in-Err.failure))) e
    c.in-Err.ensures)
