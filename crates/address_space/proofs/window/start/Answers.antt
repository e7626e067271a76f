use Rattle.std.proofs.Common.{◌≡◌, pos, ◌+ℤ◌, arith}
use Rattle.std.proofs.lemmas.Int.{ints}
use Rattle.address_space.proofs.SignedWindows.{start_of}
use Rattle.address_space.proofs.window.start.Goals as goal

pub returns : goal.returns
returns c =
    let e : c.args.lo +ℤ pos c.unsigned_abs-gap.result ≡ pos 0 = omega (arith, ints, c.unsigned_abs-gap.ensures.value) in
    rw c.div_ceil.ensures (start_of c.args.lo c.unsigned_abs-gap.result c.args.step c.requires.0 e)
