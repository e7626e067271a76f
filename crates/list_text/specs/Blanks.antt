-- The words of a line, which blanks part. Theorems cite it.
use Rattle.std.specs.Prelude.{ℕ, ◌==◌, Bool, List}
use Rattle.std.specs.List.{before_first, after_first}

-- The byte is a blank.
abbrev pub is_blank : ℕ → Bool
is_blank c = c == 32

-- The word at the front.
abbrev pub word : List ℕ → List ℕ
word text = before_first is_blank text

-- What stands behind the blank after it.
abbrev pub later_words : List ℕ → List ℕ
later_words text = after_first is_blank text
