use Rattle.std.proofs.Common.{take, drop}
use Rattle.site_turns.proofs.BuiltCodes.{IsPushing}
use Rattle.site_turns.proofs.building.push_codes.Given as goal

abbrev pub invariant-loop-tramp : goal.invariant-loop-tramp
invariant-loop-tramp g l =
    IsPushing (g.C.Coding.can l.fn.coding) (g.C.Coding.is_code l.fn.coding) l.fn.number (take l.tramp-index l.tramps) (drop l.tramp-index l.tramps)
    l.initial.built.items l.built.items
