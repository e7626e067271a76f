use Rattle.std.proofs.Common.{◌≡◌, ◌+◌, ◌-◌, arith, refl}
use Rattle.elf_read.specs.Image.{image_of}
use Rattle.image_check.proofs.FixedJumps.{fixed_done, fixed_stop, fixed_on}
use Rattle.image_check.proofs.jumps.fixed_in_turn.Goals as goal

pub returns-in-None : goal.returns-in-None
returns-in-None c = fixed_stop (image_of c.args.elf.now.bytes) c.loop-left.at c.loop-left.left c.loop-left.bytes.items _ c.fixed_byte.result c.fixed_byte.ensures c.in-None.is c.loop-left.invariant.0

pub loop-left-preserved : goal.loop-left-preserved
loop-left-preserved c =
    let n : c.loop-left.left - 1 + 1 ≡ c.loop-left.left = omega arith in (
      fixed_on (image_of c.args.elf.now.bytes) c.loop-left.at _ c.loop-left.left (c.loop-left.left - 1) c.in-Some.byte c.loop-left.bytes.items c.push.new.self.items _ c.fixed_byte.result c.loop-left-test.true c.fixed_byte.ensures c.in-Some.is c.push.ensures.items refl n c.loop-left.invariant.0,
      omega (arith, c.push.ensures.len),
    )

pub returns : goal.returns
returns c = fixed_done (image_of c.args.elf.now.bytes) c.loop-left.at c.loop-left.left c.loop-left.bytes.items _ (omega arith) c.loop-left.invariant.0
