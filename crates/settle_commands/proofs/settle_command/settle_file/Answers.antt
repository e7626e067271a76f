use Rattle.command_io.proofs.WholeCommands.{worked, unread}
use Rattle.settle_commands.proofs.settle_command.settle_file.Goals as goal

pub returns-in-Ok : goal.returns-in-Ok
returns-in-Ok g c = worked _ _ _ _ _ _ c.requires c.in-Ok.ensures c.settle_inputs.ensures

pub returns-in-Err : goal.returns-in-Err
returns-in-Err g c = unread _ _ _ _ c.requires c.in-Err.ensures
