use Rattle.std.proofs.Common.{take, drop}
use Rattle.site_turns.proofs.BuiltCodes.{IsBuilding}
use Rattle.site_turns.proofs.building.build_all.Given as goal

abbrev pub invariant-loop-row : goal.invariant-loop-row
invariant-loop-row g l =
    IsBuilding (g.C.Coding.can l.fn.coding) (g.C.Coding.is_code l.fn.coding) (take l.row-index l.rows) (drop l.row-index l.rows) l.built.items
