-- A private range has 64 bytes in front.
use Rattle.std.proofs.Common.{arith}
use Rattle.pun_base.specs.declared.action.Action.TheVariants.{Cover, Count, Ring, When}
use Rattle.pun_base.specs.declared.action.Base.TheVariants as base
use Rattle.pun_base.specs.Actions.{HasFront}

-- a private range has 64 bytes in front
pub has_front : HasFront
has_front Cover n = omega arith
has_front Count n = omega arith
has_front (Ring len) n = omega arith
has_front (When base.Cover list) n = omega arith
has_front (When base.Count list) n = omega arith
