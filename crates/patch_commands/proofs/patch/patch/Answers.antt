use Rattle.command_io.proofs.WholeCommands.{worked, unread}
use Rattle.patch_commands.proofs.patch.patch.Goals as goal

pub returns-in-Ok : goal.returns-in-Ok
returns-in-Ok g c = worked _ _ _ _ _ _ c.requires.nothing c.in-Ok.ensures c.rewrite_inputs.ensures

pub returns-in-Err : goal.returns-in-Err
returns-in-Err g c = unread _ _ _ _ c.requires.nothing c.in-Err.ensures
