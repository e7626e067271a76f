use Rattle.std.proofs.Common.{refl}
use Rattle.guest_gen.specs.Blocks.{block}
use Rattle.guest_gen.proofs.laws.worked.Goals as goal

pub returns : goal.returns
unfolding block
returns c = record { draw = refl; kind = refl; text = refl; starts = refl; sites = refl }
