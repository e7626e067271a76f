use Rattle.std.proofs.Common.{◌<◌, ◌^◌, ℕ, IfSome, Option, sym, subst, arith}
use Rattle.unpatch.proofs.LeastMissingAddress.{run_low}
use Rattle.unpatch.proofs.BytesAndRunsSoFar.{least_done}
use Rattle.unpatch.proofs.missing.missing_in.Goals as goal

pub returns-clause-low : goal.returns-clause-low
returns-clause-low c =
    let file = c.args.patched.now.bytes in
    let t = c.loop-i-test.false in
    subst (λ (o : Option ℕ). IfSome o (λ a. a < 2 ^ 32))
    (sym (least_done file c.args.bytes.now c.args.first c.loop-i.i c.loop-i.least _ (omega arith) c.loop-i.invariant))
    (run_low file c.args.first c.args.bytes.now c.args.best c.file-file.ensures.accepted c.requires.first c.requires.few c.requires.best)
