use Rattle.std.proofs.Common.{◌≡◌, length}
use Rattle.elf_emit.proofs.OverwrittenBytes.{Over}
use Rattle.elf_emit.proofs.overlay.overlay.Given as goal

abbrev pub invariant-loop-i : goal.invariant-loop-i
invariant-loop-i l = (length l.bytes ≡ length l.initial.bytes) × Over l.fn.lo l.addr l.now l.i l.initial.bytes l.bytes
