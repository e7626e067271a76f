-- What the code computes of shifts.
use Rattle.std.proofs.Common.{◌≡◌, ℕ, ◌+◌, ◌-◌, ◌*◌, ◌/◌, ◌%◌, ◌^◌, ◌<◌, ◌≤◌, nat_eq, ℤ, pos, negsuc, refl, ap, sym, FitsSigned, ◌∙◌, arith}
use Rattle.std.proofs.lemmas.Int.{ints, to_z-of_z}
use Rattle.std.proofs.lemmas.Nat.{shl-shr, shr-shr, shr_le}
use Rattle.std.proofs.lemmas.Bool.Decides.{nat_tests}
use Rattle.std.specs.Int.{w64, cast_unsigned, cast_signed, int_shr, int_rem_euclid}
use Rattle.cpu_alu.specs.declared.operation.Width.{Width}
use Rattle.cpu_alu.specs.declared.operation.Width.TheVariants.{W64}
use Rattle.cpu_alu.specs.Widths.{bits, is_negative}
use Rattle.cpu_alu.specs.Shifts.{left, out_left, right, out_right}

-- a product by a power of two, divided by a greater one
pub quotient_of_product : (x n b : ℕ) → n ≤ b → x * 2 ^ n / 2 ^ b ≡ x / 2 ^ (b - n)
quotient_of_product x n b h =
    let parts : n + (b - n) ≡ b = omega arith in
    ap (λ k. x * 2 ^ n / 2 ^ k) (sym parts) ∙ (sym (shr-shr (x * 2 ^ n) n (b - n)) ∙ ap (λ q. q / 2 ^ (b - n)) (shl-shr x n))

-- the machine's product by a power of two, cut to the width, is the shift to the left
pub left_value : (w : Width) (x n : ℕ) → x * 2 ^ n % 2 ^ 64 % 2 ^ bits w ≡ left w x n
unfolding left
left_value W64 x n = grind arith
left_value w x n = grind arith

-- the bit n places below the width's end is the last one that a shift to the left by n moves out
pub left_carry : (w : Width) (x n : ℕ) → n ≤ bits w → nat_eq (x / 2 ^ (bits w - n) % 2) 1 ≡ out_left w x n
unfolding out_left
left_carry w x n h = ap (λ q. nat_eq (q % 2) 1) (sym (quotient_of_product x n (bits w) h))

-- the bit that a shift to the left by one moves out is the sign
pub left_carry_one : (w : Width) (x : ℕ) → x < 2 ^ bits w → out_left w x 1 ≡ is_negative w x
unfolding out_left
left_carry_one W64 x h = grind (arith, nat_tests)
left_carry_one w x h = grind (arith, nat_tests)

-- the quotient by a power of two is the shift to the right, where zeros come in
pub right_value : (w : Width) (x n : ℕ) → x < 2 ^ bits w → x / 2 ^ n ≡ right w (pos x) n
unfolding right
right_value W64 x n h = grind (arith, shr_le x n)
right_value w x n h = grind (arith, shr_le x n)

-- the bit at place n - 1 is the last one that a shift to the right by n moves out
pub right_carry : (x n : ℕ) → nat_eq (x / 2 ^ (n - 1) % 2) 1 ≡ out_right (pos x) n
unfolding out_right
right_carry x n = refl

-- the machine's shift of a signed number is the integer's
shr_fits : (z : ℤ) (n : ℕ) → FitsSigned w64 z → FitsSigned w64 (int_shr z n)
shr_fits (pos a) n h = grind (arith, ints, shr_le a n)
shr_fits (negsuc a) n h = grind (arith, ints, shr_le a n)

-- the machine's shift of a signed number is the integer's
pub shifted_number : (z : ℤ) (n : ℕ) → FitsSigned w64 z → cast_signed w64 (cast_unsigned w64 (int_shr (cast_signed w64 (cast_unsigned w64 z)) n)) ≡ int_shr z n
shifted_number z n h = rw (to_z-of_z w64 z h) (to_z-of_z w64 (int_shr z n) (shr_fits z n h))

-- the low bits of the integer's shift are the shift to the right, where the sign comes in
pub signed_value : (w : Width) (z : ℤ) (n : ℕ) → FitsSigned w64 z → cast_unsigned w64 (int_shr z n) % 2 ^ bits w ≡ right w z n
unfolding right
signed_value w (pos a) n h = refl
signed_value W64 (negsuc a) n h = grind (arith, ints, shr_le a n)
signed_value w (negsuc a) n h = grind (arith, ints, shr_le a n)

-- the lowest bit after a signed shift by n - 1 is the last one that the shift by n moves out
pub signed_carry : (z : ℤ) (n : ℕ) → nat_eq (cast_unsigned w64 (int_rem_euclid (int_shr z (n - 1)) (pos 2))) 1 ≡ out_right z n
unfolding out_right
signed_carry (pos a) n = refl
signed_carry (negsuc a) n = refl
