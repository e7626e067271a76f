-- How a command is asked for, and how the usage tells it. Theorems cite it.
use Rattle.std.specs.Prelude.{ℕ, Bool, if◌then◌else◌, List, [], ◌∷◌, ◌++◌, codes}
use Rattle.std.specs.Str.{bytes_eq}

-- The name of a command, the names of the words that have to be there behind it, and whether any RESERVE, or a base, may stand behind them.
pub record Synopsis : Type 0 where
  pub name : List ℕ
  pub words : List (List ℕ)
  pub reserves : Bool
  pub base : Bool

-- The names of the words of the first of these commands that has the name, or none.
abbrev pub words_under : List Synopsis → List ℕ → List (List ℕ)
words_under [] name = []
words_under (s ∷ ss) name = if bytes_eq s.name name then s.words else words_under ss name

-- Words, each behind a space.
abbrev pub spaced : List (List ℕ) → List ℕ
spaced [] = []
spaced (word ∷ words) = codes " " ++ (word ++ spaced words)

-- What the usage tells of any RESERVE.
abbrev pub reserves_text : Bool → List ℕ
reserves_text reserves = if reserves then codes " [RESERVE]..." else []

-- What the usage tells of a base.
abbrev pub base_text : Bool → List ℕ
base_text base = if base then codes " [base:HEX]" else []

-- A command as the usage tells it.
abbrev pub synopsis_text : Synopsis → List ℕ
synopsis_text s = s.name ++ (spaced s.words ++ (reserves_text s.reserves ++ base_text s.base))

-- A line of commands: the first behind these bytes, and each further one behind a bar. It ends with LF (10).
abbrev pub usage_of : List ℕ → List Synopsis → List ℕ
usage_of before [] = codes "\n"
usage_of before (s ∷ ss) = before ++ (synopsis_text s ++ usage_of (codes " | ") ss)
