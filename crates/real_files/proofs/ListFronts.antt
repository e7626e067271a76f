-- The front of a list that is known in two parts.
use Rattle.std.proofs.Common.{◌≡◌, ℕ, List, ◌++◌, length, take, ap, ◌∙◌}
use lib.Seq.{take-append_seam}

-- the first part is as many elements as it has
pub front_taken : (all front rest : List ℕ) → all ≡ front ++ rest → take (length front) all ≡ front
front_taken all front rest e = ap (take (length front)) e ∙ take-append_seam front rest
