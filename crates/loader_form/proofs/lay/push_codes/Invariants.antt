use Rattle.std.proofs.Common.{◌≡◌, ◌++◌, map, take}
use Rattle.address_space.specs.Free.{extent_of}
use Rattle.loader_form.specs.Lay.{code_extent}
use Rattle.loader_form.proofs.lay.push_codes.Given as goal

abbrev pub invariant-loop-piece : goal.invariant-loop-piece
invariant-loop-piece l = map extent_of l.taken.items ≡ map extent_of l.initial.taken.items ++ map code_extent (take l.piece-index l.built)
