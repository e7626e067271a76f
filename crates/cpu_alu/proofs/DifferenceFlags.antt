-- What flags tell of the operands.
use Rattle.std.proofs.Common.{◌≡◌, ℕ, ◌^◌, ◌<◌, true, false, ◌==◌, int_lt, refl, ap, ◌∙◌, arith}
use Rattle.std.proofs.lemmas.Int.{ints}
use Rattle.std.proofs.lemmas.Bool.Decides.{nat_tests}
use Rattle.std.specs.Int.Bits.{xor_self}
use Rattle.std.specs.Int.Count.{ones}
use Rattle.cpu_alu.specs.declared.operation.Width.{Width}
use Rattle.cpu_alu.specs.declared.operation.Width.TheVariants.{W64}
use Rattle.cpu_alu.specs.Widths.{bits, cut, signed, is_negative}
use Rattle.cpu_alu.specs.Sums.{total, overflows}
use Rattle.cpu_alu.specs.Sums.Way.{Minus}
use Rattle.cpu_alu.specs.Outcome.{is_even}
use Rattle.cpu_alu.specs.Arithmetic.{logical, differ}
use Rattle.cpu_alu.specs.Laws.{IsCleared, AllCompare}
use Rattle.cpu_alu.proofs.ResultBounds.{cut_below}
use Rattle.cpu_alu.proofs.SumTotals.{difference_carries}

cleared_flags : (w : Width) (rest : ℕ) → logical w 0 rest ≡ record {
  value = 0;
  flags = record { cf = false; pf = true; af = false; zf = true; sf = false; of = false; rest = rest };
  undefined = 4;
}
unfolding is_even ones
cleared_flags W64 rest = refl
cleared_flags w rest = refl

-- a number xor itself is 0, with the flags of 0, whatever the number
pub cleared : IsCleared
cleared w a f = ap (λ v. logical w v f.rest) (xor_self (cut w a)) ∙ cleared_flags w f.rest

equal_numbers : (w : Width) (x y : ℕ) → x < 2 ^ bits w → y < 2 ^ bits w → (total Minus w x y false == 0) ≡ (x == y)
unfolding total
equal_numbers W64 x y h k = grind (arith, ints, nat_tests)
equal_numbers w x y h k = grind (arith, ints, nat_tests)

less_numbers : (w : Width) (x y : ℕ) → x < 2 ^ bits w → y < 2 ^ bits w → differ (is_negative w (total Minus w x y false)) (overflows Minus w x y false) ≡ int_lt (signed w x) (signed w y)
unfolding total overflows signed
less_numbers W64 x y h k = grind (arith, ints, nat_tests)
less_numbers w x y h k = grind (arith, ints, nat_tests)

-- the flags of a difference tell which of its operands is less, without and with sign, and whether they are equal
pub compared : AllCompare
compared w a b f =
    let x = cut w a in
    let y = cut w b in
    let h = cut_below w a in
    let k = cut_below w b in
    record { below = difference_carries w x y false h k; equal = equal_numbers w x y h k; less = less_numbers w x y h k }
