use Rattle.std.proofs.Common.{◌+◌, take, refl, arith}
use Rattle.pun_base.proofs.JoinedPuts.{piece, puts_front, puts_nothing, whole, writing_on}
use Rattle.pun_base.proofs.pieces.put_all.Goals as goal

pub loop-at-init : goal.loop-at-init
loop-at-init g c = (omega arith, λ n w. puts_nothing n _ w)

pub put-requires : goal.put-requires
put-requires g c = writing_on (take c.loop-at.at c.args.bytes.now) _ _ _ refl c.requires c.loop-at.invariant.1

pub returns-in-Err : goal.returns-in-Err
returns-in-Err g c = λ n w. let p = c.loop-at.invariant.1 n w in puts_front n c.args.bytes.now (c.loop-at.at + c.min-size.result) _ _ c.in-Err.error (piece n c.args.bytes.now c.loop-at.at c.min-size.result _ _ _ _ _ c.in-Err.is p (c.put.ensures n p.writing))

pub loop-at-preserved : goal.loop-at-preserved
loop-at-preserved g c = (omega arith, λ n w. let p = c.loop-at.invariant.1 n w in piece n c.args.bytes.now c.loop-at.at c.min-size.result _ _ _ _ _ c.in-Ok.is p (c.put.ensures n p.writing))

pub returns : goal.returns
returns g c = λ n w. whole n c.args.bytes.now c.loop-at.at _ _ c.loop-at-test.false (c.loop-at.invariant.1 n w)
