use Rattle.std.proofs.Common.{◌≡◌, ◌+◌, ◌-◌, ◌*◌, ◌++◌, length}
use Rattle.elf_read.specs.Entries.{segments_from}
use Rattle.settle.proofs.entries.read_entries.Given as goal

abbrev pub invariant-loop-index : goal.invariant-loop-index
invariant-loop-index l = record {
  place : l.at ≡ l.place + 56 * l._index;
  len : length l.entries.items ≡ l._index;
  rest : l.entries.items ++ segments_from l.bytes l.at (l.count - l._index) ≡ segments_from l.bytes l.place l.count;
}
