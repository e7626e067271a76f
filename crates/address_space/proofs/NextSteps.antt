-- The next address near enough to a step.
use Rattle.std.proofs.Common.{◌≡◌, ℕ, ◌+◌, ◌*◌, ◌-◌, ◌/◌, ◌%◌, ◌<◌, ◌≤◌, inl, inr, arith}
use Rattle.std.proofs.Math.Nat.{mul-le-mul_right, add-mul}
use Rattle.std.proofs.lemmas.Nat.{div-add-mod', mod_below}
use Rattle.std.proofs.lemmas.Bool.{cases_lt}
use Rattle.pun_base.specs.Least.{IsLeast}
use Rattle.address_space.specs.Ranges.{StepsFrom}

-- Where the steps begin, nothing near one lies below.
pub next_first : (from step width low : ℕ) → 0 < width → low ≤ from → IsLeast (StepsFrom from step width low) from
next_first from step width low some under = record {
  good = record { steps = record { steps = 0; more = 0; few = some; is = omega arith }; above = under };
  least = λ s f. omega (arith, f.steps.is);
}

-- An address near enough to the step below it is the least from itself on.
pub next_here : (from step width low : ℕ) → from ≤ low → (low - from) % step < width → IsLeast (StepsFrom from step width low) low
next_here from step width low over near = record {
  good = record {
    steps = record {
      steps = (low - from) / step;
      more = (low - from) % step;
      few = near;
      is = omega (arith, over, div-add-mod' (low - from) step);
    };
    above = omega arith;
  };
  least = λ s f. f.above;
}

-- Else the least one is the next step.
pub next_above : (from step width low : ℕ) → 0 < width → 0 < step → from ≤ low → width ≤ (low - from) % step
    → IsLeast (StepsFrom from step width low) (low + (step - (low - from) % step))
next_above from step width low some full over far =
    let q : ℕ = (low - from) / step in
    let r : ℕ = (low - from) % step in
    let whole : q * step + r ≡ low - from = div-add-mod' (low - from) step in
    let under : r < step = mod_below (low - from) step full in
    record {
      good = record {
        steps = record { steps = q + 1; more = 0; few = some; is = omega (arith, whole, under, over, add-mul q 1 step) };
        above = omega arith;
      };
      least = λ s f. elim (cases_lt q f.steps.steps) [
        | inl more ↦
            (let up : q + 1 ≤ f.steps.steps = omega (arith, more) in
            omega (arith, f.steps.is, mul-le-mul_right step up, add-mul q 1 step, whole, under, over))
        | inr less ↦ absurd (omega (arith, f.steps.is, f.steps.few, f.above, mul-le-mul_right step less, whole, far, over))
      ];
    }
