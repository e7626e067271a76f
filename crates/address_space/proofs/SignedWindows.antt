-- Between windows with signed ends and windows from 0 on.
use Rattle.std.proofs.Common.{◌≡◌, ℕ, ℤ, pos, ◌+◌, ◌*◌, ◌-◌, ◌^◌, ◌<◌, ◌≤◌, ◌+ℤ◌, ◌<ℤ◌, List, Option, None, sym, ap, ◌∙◌, arith}
use Rattle.std.specs.Int.{div_ceil}
use Rattle.std.proofs.Math.Nat.{lt_of_mul-lt-mul_right, add-mul}
use Rattle.std.proofs.lemmas.Grind.{div_ceil_times}
use Rattle.std.proofs.lemmas.Int.{ints}
use Rattle.pun_base.specs.declared.range.Range.{Range}
use Rattle.address_space.specs.declared.extent.Extent.{Extent}
use Rattle.address_space.specs.Fit.{IsAway, Steps, FitsStep, FitsNear}
use Rattle.address_space.specs.Free.{IsFree}
use Rattle.address_space.specs.Windows.{IsNearFrom, IsStart}

-- n addresses fit at t, which is near one of the steps from an address on and below another.
pub record FitsFrom (taken : List Extent) (from top step width n : ℕ) (avoid : Option Range) (t : ℕ) : Type 0 where
  pub steps : IsNearFrom from step width t
  pub before : t < top
  pub free : IsFree taken t n
  pub away : IsAway avoid t n

-- The multiples of the step, from a negative number on.
pub start_of : (lo : ℤ) (gap step : ℕ) → 0 < step → lo +ℤ pos gap ≡ pos 0 → IsStart lo step (div_ceil gap step * step - gap)
start_of lo gap step some e =
    let c = div_ceil gap step in
    let bounds = div_ceil_times gap step some in
    record {
      steps = (c, omega (arith, ints, bounds.0, e));
      from = λ t s. (s.0 - c, later t s.0 c s.1 bounds.0 bounds.1);
    }
  where
    later : (t k c : ℕ) → pos t ≡ lo +ℤ pos (k * step) → gap ≤ c * step → c * step < gap + step → t ≡ c * step - gap + (k - c) * step
    later t k c s low high =
        let sum : t + gap ≡ k * step = omega (arith, ints, e) in
        let under : c * step < (k + 1) * step = omega (arith, add-mul k 1 step) in
        let few : c < k + 1 = lt_of_mul-lt-mul_right step under in
        let parts : k - c + c ≡ k = omega arith in
        let whole : (k - c) * step + c * step ≡ k * step = sym (add-mul (k - c) c step) ∙ ap (λ x. x * step) parts in
        omega arith

-- A fit of a signed window is one from the start on, and the other way round.
pub up : (taken : List Extent) (lo hi : ℤ) (step n : ℕ) (avoid : Option Range) (from top t : ℕ) → IsStart lo step from → (pos t <ℤ hi → t < 2 ^ 32 → t < top) → FitsStep taken lo hi step n avoid t → FitsFrom taken from top step 1 n avoid t
up taken lo hi step n avoid from top t start below f =
    let at = start.from t f.steps in
    record {
      steps = record { steps = at.0; more = 0; few = omega arith; is = omega (arith, at.1) };
      before = below f.fits.before (omega (arith, f.fits.free.below));
      free = f.fits.free;
      away = f.fits.away;
    }

-- A fit from the start on is one of the signed window.
pub down : (taken : List Extent) (lo hi : ℤ) (step n : ℕ) (avoid : Option Range) (from top t : ℕ) → IsStart lo step from → (t < top → pos t <ℤ hi) → FitsFrom taken from top step 1 n avoid t → FitsStep taken lo hi step n avoid t
down taken lo hi step n avoid from top t start below f =
    let k = start.steps.0 + f.steps.steps in
    let e : pos t ≡ lo +ℤ pos (k * step) = omega (arith, ints, start.steps.1, f.steps.is, f.steps.few, add-mul start.steps.0 f.steps.steps step) in
    record {
      fits = record { from = omega (arith, ints, e); before = below f.before; free = f.free; away = f.away };
      steps = (k, e);
    }

-- The same where more than one address near each step serves: those below the start lie too low to be free.
pub near_up : (taken : List Extent) (lo hi : ℤ) (step width n from top t : ℕ) → width ≤ 0x20000 → IsStart lo step from
    → (pos t <ℤ hi → t < 2 ^ 32 → t < top) → FitsNear taken lo hi step width n t → FitsFrom taken from top step width n None t
near_up taken lo hi step width n from top t few start below f =
    let more : f.near.more ≤ t = omega (arith, f.near.few, few, f.fits.free.above) in
    let step_at : Steps lo step (t - f.near.more) = (f.near.steps, omega (arith, ints, f.near.is, more)) in
    let at = start.from (t - f.near.more) step_at in
    record {
      steps = record { steps = at.0; more = f.near.more; few = f.near.few; is = omega (arith, at.1, more) };
      before = below f.fits.before (omega (arith, f.fits.free.below));
      free = f.fits.free;
      away = tt;
    }

-- what fits in a window from 0 on fits in the window with signed ends
pub near_down : (taken : List Extent) (lo hi : ℤ) (step width n from top t : ℕ) → IsStart lo step from → (t < top → pos t <ℤ hi)
    → FitsFrom taken from top step width n None t → FitsNear taken lo hi step width n t
near_down taken lo hi step width n from top t start below f =
    let k = start.steps.0 + f.steps.steps in
    let e : pos t ≡ lo +ℤ pos (k * step + f.steps.more) =
    omega (arith, ints, start.steps.1, f.steps.is, add-mul start.steps.0 f.steps.steps step) in
    record {
      fits = record { from = omega (arith, ints, e); before = below f.before; free = f.free; away = tt };
      near = record { steps = k; more = f.steps.more; few = f.steps.few; is = e };
    }
