use Rattle.std.proofs.Common.{◌≡◌, ◌-◌, ◌%◌, ℕ, List, length, take, Some, Ok}
use Rattle.pun_base.specs.Desk.{Puts}
use Rattle.elf_emit.specs.Frames.{layout}
use Rattle.elf_emit.specs.Plans.{planned}
use Rattle.elf_emit.proofs.emit.put_pages.Given as goal

abbrev pub invariant-loop-at : goal.invariant-loop-at
invariant-loop-at g l = record {
  whole : l.at % 4096 ≡ 0;
  page : length l.page ≡ 4096;
  put : (name : List ℕ) → (g.D.Desk.seen l.fn.desk).writing ≡ Some name
      → Puts name (take l.at (layout (planned l.plan))) (g.D.Desk.seen l.fn.desk) (g.D.Desk.seen l.desk) (Ok tt);
}

abbrev pub decreases-loop-at : goal.decreases-loop-at
decreases-loop-at g l = l.len - l.at
