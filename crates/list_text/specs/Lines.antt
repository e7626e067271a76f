-- The lines of a text, and the number that a line spells. Theorems cite it.
use Rattle.std.specs.Prelude.{ℕ, ◌==◌, Bool, ◌&&◌, if◌then◌else◌, List, [], ◌∷◌, Option}
use Rattle.std.specs.List.{onto_first}
use Rattle.list_text.specs.Digits.{hex_number}

-- The byte is an LF.
abbrev pub is_line_feed : ℕ → Bool
is_line_feed c = c == 10

-- The lines of a text. Each ends with LF, and the last may lack it: behind the last LF there is a line only where
-- there is a byte.
abbrev pub lines : List ℕ → List (List ℕ)
lines [] = []
lines (c ∷ cs) = if is_line_feed c then [] ∷ lines cs else onto_first c (lines cs)

-- The digits of a line: what follows an `0x` (48, 120), or all of it.
abbrev pub digits_of : List ℕ → List ℕ
digits_of (a ∷ b ∷ cs) = if (a == 48) && (b == 120) then cs else a ∷ b ∷ cs
digits_of cs = cs

-- The number that a line spells.
abbrev pub line_number : List ℕ → Option ℕ
line_number line = hex_number (digits_of line)
