use Rattle.std.proofs.Common.{◌≡◌, ◌++◌, drop, map}
use Rattle.std.specs.List.{AllByRecursion}
use Rattle.elf_emit.specs.Layout.{part_load}
use Rattle.elf_emit.specs.Views.{PartFits}
use Rattle.elf_emit.proofs.table.push_parts.Given as goal

abbrev pub invariant-loop-part : goal.invariant-loop-part
invariant-loop-part l =
    AllByRecursion (PartFits l.at) (drop l.part-index l.parts) × (l.new.items ++ map (part_load l.at) (drop l.part-index l.parts) ≡ l.initial.new.items ++ map (part_load l.at) l.parts)
