use Rattle.commands.proofs.PatchReversal.{patch_is_reversed}
use Rattle.commands.proofs.laws.patch_is_reversed.Goals as goal

pub returns : goal.returns
returns c = patch_is_reversed
