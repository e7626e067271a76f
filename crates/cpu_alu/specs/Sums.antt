-- Sums and differences, as integers (Intel SDM, volume 2, ADC, ADD, DEC, INC, NEG, SBB, SUB). Theorems cite it.
use Rattle.std.specs.Prelude.{ℕ, ◌-◌, ◌^◌, ◌%◌, Bool, not, ◌&&◌, if◌then◌else◌, ℤ, pos, ◌+ℤ◌, ◌-ℤ◌, neg_ℤ, int_le, int_lt}
use Rattle.cpu_alu.specs.declared.operation.Width.{Width}
use Rattle.cpu_alu.specs.Widths.{bits, signed, wrapped}

-- adding or subtracting
pub data Way : Type 0 where
  Plus : Way
  Minus : Way

-- the sum or the difference of two integers and a carry or a borrow
abbrev pub exact : Way → ℤ → ℤ → Bool → ℤ
exact Plus x y c = (x +ℤ y) +ℤ (if c then pos 1 else pos 0)
exact Minus x y c = (x -ℤ y) -ℤ (if c then pos 1 else pos 0)

-- from the low integer on, and below the high one
abbrev pub is_within : ℤ → ℤ → ℤ → Bool
is_within low high z = int_le low z && int_lt z high

-- the result: the low bits of the exact one
unfoldable pub total : Way → Width → ℕ → ℕ → Bool → ℕ
total way w x y c = wrapped w (exact way (pos x) (pos y) c)

-- a carry or a borrow out of the low n bits, of which the exact result is no number: CF at the width, AF at four bits (volume 1, section 3.4.3.1)
unfoldable pub carries : Way → ℕ → ℕ → ℕ → Bool → Bool
carries way n x y c = not (is_within (pos 0) (pos (2 ^ n)) (exact way (pos (x % 2 ^ n)) (pos (y % 2 ^ n)) c))

-- OF: the signed result is outside the signed numbers of the width (volume 1, section 3.4.3.1)
unfoldable pub overflows : Way → Width → ℕ → ℕ → Bool → Bool
overflows way w x y c = not (is_within (neg_ℤ (pos (2 ^ (bits w - 1)))) (pos (2 ^ (bits w - 1))) (exact way (signed w x) (signed w y) c))
