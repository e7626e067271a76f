use Rattle.std.proofs.Common.{◌≡◌, ℕ, List, map, take}
use Rattle.std.specs.List.{AllByRecursion}
use Rattle.image_check.specs.CodeParts.{IsPlaced}
use Rattle.image_check.specs.Parts.{line_of}
use Rattle.sound_images.specs.Cases.{case_of}
use Rattle.image_check.proofs.placed.codes_of.Given as goal

abbrev pub invariant-loop-line : goal.invariant-loop-line
invariant-loop-line l =
    (map (λ p. line_of p.line) l.codes.items ≡ map line_of (take l.line-index l.line-items))
    × ((p : List ℕ) → AllByRecursion (IsPlaced (case_of l.orig.bytes p l.starts l.flat)) l.codes.items)
