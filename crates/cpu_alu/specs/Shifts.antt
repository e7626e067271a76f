-- Shifts, as products and quotients by powers of two (Intel SDM, volume 2, SAL/SAR/SHL/SHR). Theorems cite it.
use Rattle.std.specs.Prelude.{ℕ, ◌-◌, ◌*◌, ◌/◌, ◌^◌, ◌%◌, Bool, ◌==◌, nat_lt, if◌then◌else◌, Option, Some, None, ℤ, pos, unsigned_abs}
use Rattle.std.specs.Int.{int_div_euclid, int_rem_euclid}
use Rattle.cpu_alu.specs.declared.operation.Width.{Width}
use Rattle.cpu_alu.specs.declared.operation.Width.TheVariants.{W64}
use Rattle.cpu_alu.specs.Widths.{bits, cut, wrapped}

-- the count has five bits, and six at 64 bits
abbrev pub masked : Width → ℕ → ℕ
masked W64 n = n % 64
masked w n = n % 32

-- an integer divided by 2 ^ n and rounded down
abbrev pub halved : ℤ → ℕ → ℤ
halved z n = int_div_euclid z (pos (2 ^ n))

-- the integer is odd
abbrev pub is_odd : ℤ → Bool
is_odd z = unsigned_abs (int_rem_euclid z (pos 2)) == 1

-- the result of a shift to the left, and the last bit shifted out: the lowest above the width
unfoldable pub left : Width → ℕ → ℕ → ℕ
left w x n = cut w (x * 2 ^ n)

unfoldable pub out_left : Width → ℕ → ℕ → Bool
out_left w x n = x * 2 ^ n / 2 ^ bits w % 2 == 1

-- the result of a shift of an integer to the right, and the last bit shifted out: the lowest before the last place
unfoldable pub right : Width → ℤ → ℕ → ℕ
right w z n = wrapped w (halved z n)

unfoldable pub out_right : ℤ → ℕ → Bool
out_right z n = is_odd (halved z (n - 1))

-- CF of shl and shr is defined where the count is below the width
abbrev pub below_width : Width → ℕ → Bool → Option Bool
below_width w n b = if nat_lt n (bits w) then Some b else None

-- OF is defined where the count is 1
abbrev pub at_count_one : ℕ → Bool → Option Bool
at_count_one n b = if n == 1 then Some b else None
