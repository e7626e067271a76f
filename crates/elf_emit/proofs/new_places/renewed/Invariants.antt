use Rattle.std.proofs.Common.{◌≡◌, ◌+◌, ◌++◌, drop}
use Rattle.elf_emit.specs.Layout.{renewed}
use Rattle.elf_emit.specs.PageByPage.{moved_len}
use Rattle.elf_emit.proofs.new_places.renewed.Given as goal

abbrev pub invariant-loop-segment : goal.invariant-loop-segment
invariant-loop-segment l = record {
  end : l.end + moved_len l.loads (drop l.segment-index l.loads) ≡ l.fn.at + moved_len l.loads l.loads;
  segments : l.segments.items ++ renewed l.loads l.end (drop l.segment-index l.loads) ≡ renewed l.loads l.fn.at l.loads;
}
