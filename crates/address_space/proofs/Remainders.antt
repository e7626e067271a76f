-- Remainders of numbers that lie near each other.
use Rattle.std.proofs.Common.{◌≡◌, ℕ, ◌+◌, ◌-◌, ◌*◌, ◌/◌, ◌%◌, ◌<◌, ◌≤◌, ◌⊎◌, ◌↔◌, min, inl, inr, ap, sym, ◌∙◌, arith}
use Rattle.std.proofs.Math.Nat.{mul-le-mul_right, add-mul, div-add-mod', mod-lt, mod-eq_of_lt, add-mul-mod_self_right}
use Rattle.std.proofs.lemmas.Bool.{cases_lt}
use Rattle.address_space.specs.Marks.{IsBetween, IsRemainder}

module _ (low n step : ℕ) (some : 0 < step) (from : low ≤ n) where
  -- A number has no lesser quotient than one that isn't above it.
  same_or_more : low / step ≤ n / step
  same_or_more = elim (cases_lt (n / step) (low / step)) [
    | inl lt ↦
        let up : n / step + 1 ≤ low / step = omega (arith, lt) in
        absurd (omega (arith, mul-le-mul_right step up, add-mul (n / step) 1 step, div-add-mod' low step, div-add-mod' n step, mod-lt n some, from))
    | inr ge ↦ ge
  ]

  -- It has a greater one where its remainder is less.
  more : n % step < low % step → low / step + 1 ≤ n / step
  more less = elim (cases_lt (low / step) (n / step)) [
    | inl lt ↦ omega (arith, lt)
    | inr ge ↦ absurd (omega (arith, mul-le-mul_right step ge, div-add-mod' low step, div-add-mod' n step, less, from))
  ]

  -- From the remainder of a first number on, the remainder of a number above it lies as far above it, or a step less.
  pub remainder_near : (low % step ≤ n % step) × (n % step ≤ low % step + (n - low)) ⊎ (n % step + step ≤ low % step + (n - low))
  remainder_near = elim (cases_lt (n % step) (low % step)) [
    | inl less ↦ inr (omega (arith, mul-le-mul_right step (more less), add-mul (low / step) 1 step, div-add-mod' low step, div-add-mod' n step, from))
    | inr ge ↦ inl (ge, omega (arith, mul-le-mul_right step same_or_more, div-add-mod' low step, div-add-mod' n step, from))
  ]

-- What is a number below the step but for multiples of it has that number as its remainder.
pub remainder_is : (a y n m step : ℕ) → y < step → a + n * step ≡ y + m * step → a % step ≡ y
remainder_is a y n m step less e =
    sym (add-mul-mod_self_right a n step) ∙ ap (λ (x : ℕ). x % step) e ∙ add-mul-mod_self_right y m step ∙ mod-eq_of_lt less

-- The remainders of the numbers between two are those from the lower one's on, as far as these reach, and those from 0 on that the rest reaches.
pub remainders_are : (low high count begin upper lower m : ℕ) → 0 < count → low ≤ high → begin ≡ low % count
    → upper ≡ min (begin + (high - low)) count → lower ≡ min (begin + (high - low) - count) count
    → (IsBetween begin upper m ⊎ IsBetween 0 lower m) ↔ IsRemainder low high count m
remainders_are low high count begin upper lower m some ordered first here there =
    let small : low % count < count = mod-lt low some in
    let whole = div-add-mod' low count in (
      λ one. elim one [
        | inl b ↦ record {
          number = low + (m - begin);
          between = (omega arith, omega (arith, b.0, b.1, here));
          is = remainder_is (low + (m - begin)) m 0 (low / count) count (omega (arith, b.1, here)) (omega (arith, b.0, first, whole));
        }
        | inr b ↦ record {
          number = low + (m + count - begin);
          between = (omega arith, omega (arith, b.1, there, first, small));
          is = remainder_is (low + (m + count - begin)) m 0 (low / count + 1) count (omega (arith, b.1, there))
              (omega (arith, first, small, whole, add-mul (low / count) 1 count));
        }
      ],
      λ r.
          let less : r.number % count < count = mod-lt r.number some in
          elim (remainder_near low r.number count some r.between.0) [
            | inl near ↦ inl (omega (arith, near.0, r.is, first), omega (arith, near.1, r.is, first, less, r.between.0, r.between.1, here))
            | inr far ↦ inr (omega arith, omega (arith, far, r.is, first, less, r.between.0, r.between.1, there))
          ],
    )
