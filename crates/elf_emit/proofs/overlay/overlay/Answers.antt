use Rattle.std.proofs.Common.{◌≡◌, length, subst, arith, ℕ}
use Rattle.elf_emit.proofs.OverwrittenBytes.{Over, over_all}
use Rattle.elf_emit.proofs.overlay.overlay.Goals as goal

pub returns : goal.returns
returns c =
    let e : c.loop-i.i ≡ length c.args.now.now = omega arith in
    over_all c.args.lo c.args.addr c.args.now.now c.args.bytes.now c.loop-i.bytes c.loop-i.invariant.0
    (subst (λ (n : ℕ). Over c.args.lo c.args.addr c.args.now.now n c.args.bytes.now c.loop-i.bytes) e c.loop-i.invariant.1)
