use Rattle.std.proofs.Common.{◌≡◌, ◌+◌, ◌++◌, length}
use Rattle.elf_read.specs.Image.{image_of}
use Rattle.image_check.specs.Jumps.{fixed_at}
use Rattle.image_check.proofs.jumps.fixed_in_turn.Given as goal

abbrev pub invariant-loop-left : goal.invariant-loop-left
invariant-loop-left l = (l.bytes.items ++ fixed_at (image_of l.elf.bytes) l.at l.left ≡ fixed_at (image_of l.elf.bytes) l.addr 15) × (length l.bytes.items + l.left ≡ 15)

abbrev pub decreases-loop-left : goal.decreases-loop-left
decreases-loop-left l = l.left
