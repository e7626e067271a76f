use Rattle.std.proofs.Common.{◌≡◌, ◌+◌, ◌-◌, ◌*◌, ◌++◌, length}
use Rattle.elf_read.specs.Entries.{segments_from}
use Rattle.elf_read.proofs.segment.read_segments.Given as goal

abbrev pub invariant-loop-index : goal.invariant-loop-index
invariant-loop-index l = record {
  place : l.at ≡ l.place + 56 * l._index;
  len : length l.segments.items ≡ l._index;
  rest : l.segments.items ++ segments_from l.bytes l.at (l.count - l._index) ≡ segments_from l.bytes l.place l.count;
}
