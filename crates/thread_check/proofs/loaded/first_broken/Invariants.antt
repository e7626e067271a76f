use Rattle.std.proofs.Common.{◌≡◌, ◌+◌, ◌^◌, ◌<◌, length}
use Rattle.elf_read.specs.Image.{image_of}
use Rattle.thread_check.specs.LineParts.{first_broken}
use Rattle.thread_check.proofs.loaded.first_broken.Given as goal

abbrev pub invariant-loop-byte : goal.invariant-loop-byte
invariant-loop-byte l =
    (first_broken (image_of l.orig.bytes) (image_of l.patched.bytes) l.addr l.left ≡ first_broken (image_of l.orig.bytes) (image_of l.patched.bytes) l.place l.code)
    × (l.addr + length l.left < 2 ^ 64)

abbrev pub decreases-loop-byte : goal.decreases-loop-byte
decreases-loop-byte l = length l.left
