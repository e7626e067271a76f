-- Hexadecimal digits by a table. Contracts of private functions alone cite it.
use Rattle.std.specs.Prelude.{ℕ, unwrap_or}
use Rattle.list_text.specs.Digits.{hex_digit}

-- the value of a byte as a hexadecimal digit; where it is none, more than any number of eight digits
abbrev pub hex_value : ℕ → ℕ
hex_value c = unwrap_or (hex_digit c) 4294967296
