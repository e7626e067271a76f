use Rattle.std.proofs.Common.{◌≡◌, take}
use Rattle.elf_emit.specs.Emits.{pages_of}
use Rattle.elf_emit.proofs.emit.shown_pages.Given as goal

abbrev pub invariant-loop-addr : goal.invariant-loop-addr
invariant-loop-addr l = l.shown.items ≡ pages_of (take l.addr-index l.addr-items)
