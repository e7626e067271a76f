-- A text read line by line, for any lines and any drafts. Contracts of private functions alone cite it.
use Rattle.std.specs.Prelude.{ℕ, ◌==◌, if◌then◌else◌, List, length, Option, Some, None, option_and_then, option_map}
use Rattle.std.specs.List.{before_first, after_first}
use Rattle.list_text.specs.Lines.{is_line_feed}

-- A draft with a line, where there is one and it goes on with it.
abbrev pub goes_on : {L D : Type 0} → (D → L → Option D) → D → Option L → Option D
goes_on taken d None = None
goes_on taken d (Some x) = taken d x

-- The first line of a text, where that ends with LF, and what stands after it.
abbrev pub first_line : List ℕ → Option (List ℕ × List ℕ)
first_line text =
    if length (before_first is_line_feed text) == length text then None
    else Some (before_first is_line_feed text, after_first is_line_feed text)

-- A draft with the first line of a text, where that ends with LF and goes on with it, and what stands after it.
abbrev pub read_one : {L D : Type 0} → (D → L → Option D) → (List ℕ → Option L) → D → List ℕ → Option (D × List ℕ)
read_one taken line_of d text = option_and_then (λ p. option_map (λ e. (e, p.1)) (goes_on taken d (line_of p.0))) (first_line text)
