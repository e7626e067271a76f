-- What is free is free in each of its parts.
use Rattle.std.proofs.Common.{ℕ, ◌+◌, ◌≤◌, List, [], ◌∷◌, inl, inr, arith}
use Rattle.std.specs.List.{AllByRecursion}
use Rattle.std.proofs.lemmas.List.Elements.{All-from_recursion, recursion_from_All}
use Rattle.address_space.specs.declared.extent.Extent.{Extent}
use Rattle.address_space.specs.Free.{Misses, IsFree}

module _ (t n s m : ℕ) (low : t ≤ s) (high : s + m ≤ t + n) where
  -- A part misses what the whole misses.
  part_misses : (taken : List Extent) → AllByRecursion (Misses t n) taken → AllByRecursion (Misses s m) taken
  part_misses [] h = tt
  part_misses (e ∷ es) h = (
    elim h.0 [ inl under ↦ inl (omega (arith, under, high)) | inr over ↦ inr (omega (arith, over, low)) ],
    part_misses es h.1,
  )

  -- A part of what is free is free.
  pub part_free : (taken : List Extent) → IsFree taken t n → IsFree taken s m
  part_free taken f = record {
    above = omega (arith, f.above, low);
    below = omega (arith, f.below, high);
    misses = All-from_recursion (Misses s m) taken (part_misses taken (recursion_from_All (Misses t n) taken f.misses));
  }
