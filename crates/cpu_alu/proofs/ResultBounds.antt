-- Results are of their width.
use Rattle.std.proofs.Common.{◌≡◌, ℕ, ◌*◌, ◌^◌, ◌<◌, ◌≤◌, Bool, false, Option, Some, None, ◌==◌, ℤ, pos, negsuc, bit_and, bit_or, bit_xor, arith, lit<}
use Rattle.std.proofs.lemmas.Bool.{cond_both}
use Rattle.std.proofs.lemmas.Nat.{or_lt, xor_lt, and_le_l, pow_pos, mod_below}
use Rattle.cpu_alu.specs.declared.operation.Width.{Width}
use Rattle.cpu_alu.specs.declared.operation.Width.TheVariants.{W64}
use Rattle.cpu_alu.specs.declared.operation.AluOp.{AluOp}
use Rattle.cpu_alu.specs.declared.operation.AluOp.TheVariants.{Add, Or, Adc, Sbb, And, Sub, Xor, Inc, Dec, Neg, Shl, Shr, Sar}
use Rattle.cpu_alu.specs.declared.flag_word.Flags.{Flags}
use Rattle.cpu_alu.specs.Widths.{bits, cut, wrapped, signed, is_negative}
use Rattle.cpu_alu.specs.Sums.{Way, total, carries, overflows, exact}
use Rattle.cpu_alu.specs.Sums.Way.{Plus, Minus}
use Rattle.cpu_alu.specs.Shifts.{masked, left, right, halved, out_left, out_right, below_width, at_count_one}
use Rattle.cpu_alu.specs.Outcome.{missing, outcome}
use Rattle.cpu_alu.specs.Arithmetic.{summed, shifted, differ, operated}
use Rattle.cpu_alu.specs.Laws.{Fits, AllFit}

-- the low bits of a number are a number of the width
pub cut_below : (w : Width) (v : ℕ) → cut w v < 2 ^ bits w
cut_below w v = mod_below v (2 ^ bits w) (pow_pos (bits w))

-- the low bits of the low bits are the low bits
pub cut_cut : (w : Width) (v : ℕ) → cut w (cut w v) ≡ cut w v
cut_cut W64 v = omega arith
cut_cut w v = omega arith

wrapped_below : (w : Width) (z : ℤ) → wrapped w z < 2 ^ bits w
wrapped_below w (pos a) = cut_below w a
wrapped_below W64 (negsuc a) = omega arith
wrapped_below w (negsuc a) = omega arith

total_below : (way : Way) (w : Width) (x y : ℕ) (c : Bool) → total way w x y c < 2 ^ bits w
unfolding total
total_below way w x y c = wrapped_below w (exact way (pos x) (pos y) c)

left_below : (w : Width) (x n : ℕ) → left w x n < 2 ^ bits w
unfolding left
left_below w x n = cut_below w (x * 2 ^ n)

right_below : (w : Width) (z : ℤ) (n : ℕ) → right w z n < 2 ^ bits w
unfolding right
right_below w z n = wrapped_below w (halved z n)

missing_le : (place : ℕ) (o : Option Bool) → missing place o ≤ 2 ^ place
missing_le place None = omega arith
missing_le place (Some b) = omega arith

outcome_fits : (w : Width) (v : ℕ) (carry half over : Option Bool) (rest : ℕ) → v < 2 ^ bits w → Fits w (outcome w v carry half over rest)
outcome_fits w v carry half over rest h = record { value = h; undefined = omega (arith, missing_le 0 carry, missing_le 2 half, missing_le 5 over) }

summed_fits : (way : Way) (w : Width) (x y : ℕ) (c : Bool) (rest : ℕ) → Fits w (summed way w x y c rest)
summed_fits way w x y c rest = outcome_fits w (total way w x y c) (Some (carries way (bits w) x y c)) (Some (carries way 4 x y c)) (Some (overflows way w x y c)) rest (total_below way w x y c)

shifted_fits : (w : Width) (x n : ℕ) (f : Flags) (v : ℕ) (carry : Option Bool) (over : Bool) → x < 2 ^ bits w → v < 2 ^ bits w → Fits w (shifted w x n f v carry over)
shifted_fits w x n f v carry over h k =
    cond_both (n == 0) (record { value = x; flags = f; undefined = 0 }) (outcome w v carry None (at_count_one n over) f.rest) (λ o. Fits w o)
    (λ e. record { value = h; undefined = lit< tt })
    (λ e. outcome_fits w v carry None (at_count_one n over) f.rest k)

operated_fits : (op : AluOp) (w : Width) (x y : ℕ) (f : Flags) → x < 2 ^ bits w → y < 2 ^ bits w → Fits w (operated op w x y f)
operated_fits Add w x y f h k = summed_fits Plus w x y false f.rest
operated_fits Adc w x y f h k = summed_fits Plus w x y f.cf f.rest
operated_fits Sub w x y f h k = summed_fits Minus w x y false f.rest
operated_fits Sbb w x y f h k = summed_fits Minus w x y f.cf f.rest
operated_fits Inc w x y f h k = let s = summed_fits Plus w x 1 false f.rest in record { value = s.value; undefined = s.undefined }
operated_fits Dec w x y f h k = let s = summed_fits Minus w x 1 false f.rest in record { value = s.value; undefined = s.undefined }
operated_fits Neg w x y f h k = summed_fits Minus w 0 x false f.rest
operated_fits Or w x y f h k = outcome_fits w (bit_or x y) (Some false) None (Some false) f.rest (or_lt (bits w) x y h k)
operated_fits Xor w x y f h k = outcome_fits w (bit_xor x y) (Some false) None (Some false) f.rest (xor_lt (bits w) x y h k)
operated_fits And w x y f h k = outcome_fits w (bit_and x y) (Some false) None (Some false) f.rest (omega (arith, and_le_l x y))
operated_fits Shl w x y f h k = let n = masked w y in shifted_fits w x n f (left w x n) (below_width w n (out_left w x n)) (differ (is_negative w (left w x n)) (out_left w x n)) h (left_below w x n)
operated_fits Shr w x y f h k = let n = masked w y in shifted_fits w x n f (right w (pos x) n) (below_width w n (out_right (pos x) n)) (is_negative w x) h (right_below w (pos x) n)
operated_fits Sar w x y f h k = let n = masked w y in shifted_fits w x n f (right w (signed w x) n) (Some (out_right (signed w x) n)) false h (right_below w (signed w x) n)

-- each operation gives a value of the width and a mask of six bits
pub fits : AllFit
fits op w a b f = operated_fits op w (cut w a) (cut w b) f (cut_below w a) (cut_below w b)
