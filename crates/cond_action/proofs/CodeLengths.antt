-- How many bytes the code of an event under a condition has.
use Rattle.std.proofs.Common.{◌≡◌, ℕ, ◌*◌, List, [], ◌∷◌, ◌++◌, length, length-append, refl, arith}
use Rattle.pun_base.specs.declared.action.Base.{Base}
use Rattle.pun_base.specs.declared.action.Base.TheVariants.{Cover, Count}
use Rattle.pun_base.specs.declared.action.Comparison.{Comparison}
use Rattle.cond_action.specs.Codes.{give_back, comparing, recording, HasCodeLength}

-- the code of comparisons has nine bytes for each
pub comparing_long : (cs : List Comparison) → length (comparing cs) ≡ 9 * length cs
comparing_long [] = refl
comparing_long (c ∷ cs) = let r = comparing_long cs in omega (arith, r)

-- what records has eight bytes
pub recording_long : (b : Base) (p i : ℕ) → length (recording b p i) ≡ 8
recording_long Cover p i = refl
recording_long Count p i = refl

-- the code of an event under a condition has 53 bytes, and nine for each comparison
pub code_long : HasCodeLength
code_long b cs p i =
    omega (
      arith,
      length-append (comparing cs) (recording b p i ++ give_back p),
      length-append (recording b p i) (give_back p),
      comparing_long cs,
      recording_long b p i,
    )
