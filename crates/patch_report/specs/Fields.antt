-- Fields at the front of a text, each with the byte behind it: the value and what stands behind. Theorems cite it.
use Rattle.std.specs.Prelude.{ℕ, zero, suc, ◌+◌, ◌-◌, ◌*◌, ◌^◌, ◌==◌, ◌&&◌, nat_le, nat_lt, if◌then◌else◌, List, [], ◌∷◌, length, take, drop, Option, Some, None}
use Rattle.std.specs.Str.{bytes_eq}
use Rattle.std.specs.Int.{w32, from_be_bytes}
use Rattle.list_text.specs.Words.{◌>>=◌}
use Rattle.patch_report.specs.Answers.{is_digit}

-- What stands behind a word.
unfoldable pub behind : List ℕ → List ℕ → Option (List ℕ)
behind word text = if bytes_eq (take (length word) text) word then Some (drop (length word) text)
    else None

-- What stands behind one byte.
unfoldable pub behind_mark : ℕ → List ℕ → Option (List ℕ)
behind_mark mark [] = None
behind_mark mark (c ∷ cs) = if c == mark then Some cs else None

-- A hexadecimal digit: 0 to 9 (48 to 57) or a to f (97 to 102).
unfoldable pub hex_value : ℕ → Option ℕ
hex_value c = if nat_le 48 c && nat_le c 57 then Some (c - 48)
    else (if nat_le 97 c && nat_le c 102 then Some (c - 87) else None)

-- A byte as two digits.
unfoldable pub byte_at : List ℕ → Option (ℕ × List ℕ)
byte_at (h ∷ l ∷ text) = do
  high ← hex_value h
  low ← hex_value l
  Some (16 * high + low, text)
byte_at text = None

-- A number as four bytes, the highest first.
unfoldable pub word_at : List ℕ → Option (ℕ × List ℕ)
word_at text = do
  a ← byte_at text
  b ← byte_at a.1
  c ← byte_at b.1
  d ← byte_at c.1
  Some (from_be_bytes w32 (a.0 ∷ b.0 ∷ c.0 ∷ d.0 ∷ []), d.1)

-- An address.
unfoldable pub address_before : ℕ → List ℕ → Option (ℕ × List ℕ)
address_before mark text = do
  word ← word_at text
  later ← behind_mark mark word.1
  Some (word.0, later)

-- An entry point: its higher 32 bits and its lower ones.
unfoldable pub entry_before : ℕ → List ℕ → Option (ℕ × List ℕ)
entry_before mark text = do
  high ← word_at text
  low ← word_at high.1
  later ← behind_mark mark low.1
  Some (2 ^ 32 * high.0 + low.0, later)

-- A byte in front of others.
abbrev pub in_front : List ℕ → Option (ℕ × List ℕ) → (List ℕ → List ℕ × List ℕ)
    → List ℕ × List ℕ
in_front text None later = ([], text)
in_front text (Some x) later = (x.0 ∷ (later x.1).0, (later x.1).1)

-- The bytes that come next, at most so many.
unfoldable pub bytes_at : ℕ → List ℕ → List ℕ × List ℕ
bytes_at zero text = ([], text)
bytes_at (suc n) text = in_front text (byte_at text) (bytes_at n)

-- One to sixteen bytes.
unfoldable pub bytes_before : ℕ → List ℕ → Option (List ℕ × List ℕ)
bytes_before mark text = do
  later ← behind_mark mark (bytes_at 16 text).1
  if length (bytes_at 16 text).0 == 0 then None else Some ((bytes_at 16 text).0, later)

-- A number with one more digit behind its own, below 2 ^ 64. Behind 0 there is none.
unfoldable pub longer : ℕ → ℕ → Option ℕ
longer n c = if nat_lt 0 n && (is_digit c && nat_lt (10 * n + (c - 48)) (2 ^ 64))
    then Some (10 * n + (c - 48)) else None

-- The number of the digits that spelled n and those behind them.
unfoldable pub rest_before : ℕ → ℕ → List ℕ → Option (ℕ × List ℕ)
rest_before mark n [] = None
rest_before mark n (c ∷ cs) = if c == mark then Some (n, cs)
    else (longer n c >>= λ m. rest_before mark m cs)

-- A decimal number below 2 ^ 64.
unfoldable pub number_before : ℕ → List ℕ → Option (ℕ × List ℕ)
number_before mark [] = None
number_before mark (c ∷ cs) = if is_digit c then rest_before mark (c - 48) cs else None

-- One below a bound.
unfoldable pub decimal_before : ℕ → ℕ → List ℕ → Option (ℕ × List ℕ)
decimal_before bound mark text = do
  number ← number_before mark text
  if nat_lt number.0 bound then Some (number.0, number.1) else None
