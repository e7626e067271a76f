-- Each operation by its operands, the width and the flags before (Intel SDM, volume 2, its page). Theorems cite it.
use Rattle.std.specs.Prelude.{ℕ, Bool, false, not, ◌==◌, if◌then◌else◌, Option, Some, None, pos, bit_and, bit_or, bit_xor}
use Rattle.cpu_alu.specs.declared.operation.Width.{Width}
use Rattle.cpu_alu.specs.declared.operation.AluOp.{AluOp}
use Rattle.cpu_alu.specs.declared.operation.AluOp.TheVariants.{Add, Or, Adc, Sbb, And, Sub, Xor, Inc, Dec, Neg, Shl, Shr, Sar}
use Rattle.cpu_alu.specs.declared.flag_word.Flags.{Flags}
use Rattle.cpu_alu.specs.declared.outcome.AluOut.{AluOut}
use Rattle.cpu_alu.specs.Widths.{bits, cut, signed, is_negative}
use Rattle.cpu_alu.specs.Sums.{Way, total, carries, overflows}
use Rattle.cpu_alu.specs.Sums.Way.{Plus, Minus}
use Rattle.cpu_alu.specs.Shifts.{masked, left, out_left, right, out_right, below_width, at_count_one}
use Rattle.cpu_alu.specs.Outcome.{outcome}

-- a sum or a difference of numbers of the width, with a carry or a borrow
abbrev pub summed : Way → Width → ℕ → ℕ → Bool → ℕ → AluOut
summed way w x y c rest = outcome w (total way w x y c) (Some (carries way (bits w) x y c)) (Some (carries way 4 x y c)) (Some (overflows way w x y c)) rest

-- CF as it was
abbrev pub keeping : Bool → AluOut → AluOut
keeping carry o = record o { flags = record o.flags { cf = carry } }

-- bit by bit: CF and OF are clear, and AF is undefined
abbrev pub logical : Width → ℕ → ℕ → AluOut
logical w v rest = outcome w v (Some false) None (Some false) rest

-- a shift by n places: by none nothing changes, by more AF is undefined
abbrev pub shifted : Width → ℕ → ℕ → Flags → ℕ → Option Bool → Bool → AluOut
shifted w x n f v carry over = if n == 0 then record { value = x; flags = f; undefined = 0 } else outcome w v carry None (at_count_one n over) f.rest

-- one of two and not both
abbrev pub differ : Bool → Bool → Bool
differ a b = if a then not b else b

-- zeros come in from below, and OF is whether the sign changes
abbrev pub shifted_left : Width → ℕ → ℕ → Flags → AluOut
shifted_left w x n f = shifted w x n f (left w x n) (below_width w n (out_left w x n)) (differ (is_negative w (left w x n)) (out_left w x n))

-- zeros come in
abbrev pub shifted_right : Width → ℕ → ℕ → Flags → AluOut
shifted_right w x n f = shifted w x n f (right w (pos x) n) (below_width w n (out_right (pos x) n)) (is_negative w x)

-- the sign comes in
abbrev pub shifted_signed : Width → ℕ → ℕ → Flags → AluOut
shifted_signed w x n f = shifted w x n f (right w (signed w x) n) (Some (out_right (signed w x) n)) false

-- the operation on two numbers of the width
abbrev pub operated : AluOp → Width → ℕ → ℕ → Flags → AluOut
operated Add w x y f = summed Plus w x y false f.rest
operated Or w x y f = logical w (bit_or x y) f.rest
operated Adc w x y f = summed Plus w x y f.cf f.rest
operated Sbb w x y f = summed Minus w x y f.cf f.rest
operated And w x y f = logical w (bit_and x y) f.rest
operated Sub w x y f = summed Minus w x y false f.rest
operated Xor w x y f = logical w (bit_xor x y) f.rest
operated Inc w x y f = keeping f.cf (summed Plus w x 1 false f.rest)
operated Dec w x y f = keeping f.cf (summed Minus w x 1 false f.rest)
operated Neg w x y f = summed Minus w 0 x false f.rest
operated Shl w x y f = shifted_left w x (masked w y) f
operated Shr w x y f = shifted_right w x (masked w y) f
operated Sar w x y f = shifted_signed w x (masked w y) f

-- the operation on the low bits of two numbers
abbrev pub arithmetic : AluOp → Width → ℕ → ℕ → Flags → AluOut
arithmetic op w a b f = operated op w (cut w a) (cut w b) f
