use Rattle.std.proofs.Common.{◌∷◌, take}
use Rattle.address_space.specs.Free.{extent_of}
use Rattle.site_turns.specs.Modes.{schemes_of}
use Rattle.site_turns.specs.Turned.{scene_by}
use Rattle.site_turns.proofs.DescendingTurns.{IsTurning}
use Rattle.site_turns.proofs.progress.turn_all.Given as goal

abbrev pub invariant-loop-number : goal.invariant-loop-number
invariant-loop-number l =
    IsTurning (scene_by l.fn.setting (extent_of l.fn.setting.private ∷ l.fn.space.taken)) (schemes_of l.fn.setting.mode) l.fn.sites (take l.number l.sites) l.progress
