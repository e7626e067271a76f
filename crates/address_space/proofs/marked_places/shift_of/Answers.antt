use Rattle.std.proofs.Common.{◌≡◌, ℕ, ◌+◌, ◌-◌, ◌*◌, ◌/◌, ◌%◌, ◌<◌, to_z, of_z, w64, arith}
use lib.IntN.{nat_abs}
use Rattle.std.proofs.Math.Nat.{add-mul, div-add-mod', mod-lt}
use Rattle.std.proofs.lemmas.Int.{ints}
use Rattle.address_space.proofs.Remainders.{remainder_is}
use Rattle.address_space.proofs.marked_places.shift_of.Goals as goal

-- a lower end below 0, so far
under : (t gap y k step : ℕ) → y < step → t + gap ≡ y + k * step → (t + gap % step) % step ≡ y
under t gap y k step less e = remainder_is (t + gap % step) y (gap / step) k step less (omega (arith, e, div-add-mod' gap step))

-- a lower end at or above 0
over : (t low y k step : ℕ) → y < step → t ≡ low + (y + k * step) → (t + (step - low % step)) % step ≡ y
over t low y k step less e =
    let some : 0 < step = omega arith in
    remainder_is (t + (step - low % step)) y 0 (low / step + 1 + k) step less
    (omega (arith, e, div-add-mod' low step, mod-lt low some, add-mul (low / step + 1) k step, add-mul (low / step) 1 step))

pub returns-then-lo-lt0-clause-value : goal.returns-then-lo-lt0-clause-value
returns-then-lo-lt0-clause-value c = λ t y k less at.
    under t c.unsigned_abs.result y k c.args.step less (omega (arith, ints, at, c.unsigned_abs.ensures.value))

pub returns-else-lo-lt0-clause-value : goal.returns-else-lo-lt0-clause-value
returns-else-lo-lt0-clause-value c = λ t y k less at.
    over t (nat_abs (to_z w64 (of_z w64 c.args.lo))) y k c.args.step less (omega (arith, ints, at))
