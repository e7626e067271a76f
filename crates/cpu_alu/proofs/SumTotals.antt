-- What the code computes of sums and differences.
use Rattle.std.proofs.Common.{◌≡◌, ℕ, ◌+◌, ◌-◌, ◌%◌, ◌^◌, ◌<◌, Bool, not, ◌&&◌, nat_le, nat_lt, if◌then◌else◌, arith}
use Rattle.std.proofs.lemmas.Int.{ints}
use Rattle.std.proofs.lemmas.Bool.Decides.{nat_tests}
use Rattle.std.specs.Int.{from_bool}
use Rattle.cpu_alu.specs.declared.operation.Width.{Width}
use Rattle.cpu_alu.specs.declared.operation.Width.TheVariants.{W64}
use Rattle.cpu_alu.specs.Widths.{bits, signed, is_negative}
use Rattle.cpu_alu.specs.Sums.{total, carries, overflows}
use Rattle.cpu_alu.specs.Sums.Way.{Plus, Minus}
use Rattle.cpu_alu.specs.Arithmetic.{differ}

-- the machine's sum of two numbers and a carry, cut to the width, is the exact one's low bits
pub sum_value : (w : Width) (x y : ℕ) (c : Bool) → ((x + y) % 2 ^ 64 + from_bool c) % 2 ^ 64 % 2 ^ bits w ≡ total Plus w x y c
unfolding total
sum_value W64 x y c = grind arith
sum_value w x y c = grind arith

-- the machine's difference with a borrow, cut to the width, is the exact one's low bits
pub difference_value : (w : Width) (x y : ℕ) (c : Bool) → x < 2 ^ bits w → y < 2 ^ bits w → ((x + (2 ^ 64 - y)) % 2 ^ 64 + (2 ^ 64 - from_bool c)) % 2 ^ 64 % 2 ^ bits w ≡ total Minus w x y c
unfolding total
difference_value W64 x y c h k = grind (arith, ints)
difference_value w x y c h k = grind (arith, ints)

-- a sum carries exactly where its low bits are below the first number, or with a carry not above it
pub sum_carries : (w : Width) (x y : ℕ) (c : Bool) → x < 2 ^ bits w → y < 2 ^ bits w → carries Plus (bits w) x y c ≡ (if c then nat_le (total Plus w x y c) x else nat_lt (total Plus w x y c) x)
unfolding total carries
sum_carries W64 x y c h k = grind (arith, nat_tests)
sum_carries w x y c h k = grind (arith, nat_tests)

-- a difference borrows exactly where the first number is below the second, or with a borrow not above it
pub difference_carries : (w : Width) (x y : ℕ) (c : Bool) → x < 2 ^ bits w → y < 2 ^ bits w → carries Minus (bits w) x y c ≡ (if c then nat_le x y else nat_lt x y)
unfolding carries
difference_carries W64 x y c h k = grind (arith, ints, nat_tests)
difference_carries w x y c h k = grind (arith, ints, nat_tests)

-- a sum carries out of four bits exactly where the low four bits and the carry make 16 or more
pub sum_half : (x y : ℕ) (c : Bool) → carries Plus 4 x y c ≡ nat_le 16 (x % 16 + y % 16 + from_bool c)
unfolding carries
sum_half x y c = grind (arith, nat_tests)

-- a difference borrows out of four bits exactly where the first's low four bits are below the second's with the borrow
pub difference_half : (x y : ℕ) (c : Bool) → carries Minus 4 x y c ≡ nat_lt (x % 16) (y % 16 + from_bool c)
unfolding carries
difference_half x y c = grind (arith, ints, nat_tests)

-- a sum overflows exactly where its numbers have one sign and the result another
pub sum_overflows : (w : Width) (x y : ℕ) (c : Bool) → x < 2 ^ bits w → y < 2 ^ bits w → overflows Plus w x y c ≡ (not (differ (is_negative w x) (is_negative w y)) && differ (is_negative w x) (is_negative w (total Plus w x y c)))
unfolding total overflows signed
sum_overflows W64 x y c h k = grind (arith, ints, nat_tests)
sum_overflows w x y c h k = grind (arith, ints, nat_tests)

-- a difference overflows exactly where its numbers have different signs and the result not the first's
pub difference_overflows : (w : Width) (x y : ℕ) (c : Bool) → x < 2 ^ bits w → y < 2 ^ bits w → overflows Minus w x y c ≡ (differ (is_negative w x) (is_negative w y) && differ (is_negative w x) (is_negative w (total Minus w x y c)))
unfolding total overflows signed
difference_overflows W64 x y c h k = grind (arith, ints, nat_tests)
difference_overflows w x y c h k = grind (arith, ints, nat_tests)
