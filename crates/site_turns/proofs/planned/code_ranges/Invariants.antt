use Rattle.std.proofs.Common.{◌≡◌, map, take}
use Rattle.page_group.specs.Pages.{ends_of}
use Rattle.elf_emit.specs.Emits.{range_of}
use Rattle.site_turns.proofs.planned.code_ranges.Given as goal

abbrev pub invariant-loop-piece : goal.invariant-loop-piece
invariant-loop-piece l = ends_of l.ranges.items ≡ map range_of (take l.piece-index l.built)
