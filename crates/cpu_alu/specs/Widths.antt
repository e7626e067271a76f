-- Numbers of 8, 16, 32 and 64 bits (Intel SDM, volume 1, section 4.2). Theorems cite it.
use Rattle.std.specs.Prelude.{ℕ, ◌-◌, ◌^◌, ◌%◌, Bool, nat_le, if◌then◌else◌, ℤ, pos, ◌-ℤ◌, unsigned_abs}
use Rattle.std.specs.Int.{int_rem_euclid}
use Rattle.cpu_alu.specs.declared.operation.Width.{Width}
use Rattle.cpu_alu.specs.declared.operation.Width.TheVariants.{W8, W16, W32, W64}

-- bits of a number of a width
abbrev pub bits : Width → ℕ
bits W8 = 8
bits W16 = 16
bits W32 = 32
bits W64 = 64

-- the low bits of a number
abbrev pub cut : Width → ℕ → ℕ
cut w v = v % 2 ^ bits w

-- the low bits of an integer, as a number
abbrev pub wrapped : Width → ℤ → ℕ
wrapped w z = unsigned_abs (int_rem_euclid z (pos (2 ^ bits w)))

-- the top bit is set: SF of a result (volume 1, section 3.4.3.1)
abbrev pub is_negative : Width → ℕ → Bool
is_negative w v = nat_le (2 ^ (bits w - 1)) v

-- the integer that the bits of v mean in two's complement (volume 1, section 4.2.1)
unfoldable pub signed : Width → ℕ → ℤ
signed w v = if is_negative w v then pos v -ℤ pos (2 ^ bits w) else pos v
