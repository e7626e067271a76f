-- Numbers as digits spell them. Characters are the bytes of ASCII. Theorems cite it.
use Rattle.std.specs.Prelude.{ℕ, ◌+◌, ◌-◌, ◌*◌, ◌&&◌, nat_le, nat_lt, if◌then◌else◌, List, [], ◌∷◌, length, Option, Some, None, option_and_then}

-- The value of a hexadecimal digit of either case: 0 to 9 (48 to 57), A to F (65 to 70), a to f (97 to 102).
abbrev pub hex_digit : ℕ → Option ℕ
hex_digit c =
    if nat_le 48 c && nat_le c 57 then Some (c - 48)
    else (if nat_le 65 c && nat_le c 70 then Some (c - 55)
    else (if nat_le 97 c && nat_le c 102 then Some (c - 87) else None))

-- The number, where there is one and it is below the bound.
abbrev pub below : ℕ → Option ℕ → Option ℕ
below bound None = None
below bound (Some n) = if nat_lt n bound then Some n else None

-- The value of a digit in a base of at most sixteen.
abbrev pub digit_in : ℕ → ℕ → Option ℕ
digit_in base c = below base (hex_digit c)

-- The number of the digits that spelled n and these digits behind them; none where one is no digit.
abbrev pub number_behind : ℕ → ℕ → List ℕ → Option ℕ
number_behind base n [] = Some n
number_behind base n (c ∷ cs) = option_and_then (λ value. number_behind base (base * n + value) cs) (digit_in base c)

-- The number that digits spell.
abbrev pub number_in : ℕ → List ℕ → Option ℕ
number_in base digits = number_behind base 0 digits

-- The number that 1 to 8 hexadecimal digits spell.
abbrev pub hex_number : List ℕ → Option ℕ
hex_number digits = if nat_le 1 (length digits) && nat_le (length digits) 8 then number_in 16 digits else None
