-- The list that a text tells, or the first refused line. Theorems cite it.
use Rattle.std.specs.Prelude.{◌≡◌, ℕ, ◌+◌, Bool, true, nat_lt, if◌then◌else◌, List, [], ◌∷◌, Option, Some, None, Result, Ok, Err}
use Rattle.list_text.specs.declared.refusal.ListError.{ListError}
use Rattle.list_text.specs.declared.refusal.ListError.TheVariants.{BadLine, NotAscending, TooMany, Memory}
use Rattle.list_text.specs.Lines.{lines, line_number}

-- A number is greater than the one before it, where there is one.
abbrev pub is_above : Option ℕ → ℕ → Bool
is_above None n = true
is_above (Some before) n = nat_lt before n

-- What the line at a place tells: a number that is above the one before it.
abbrev pub judged_number : ℕ → Option ℕ → Option ℕ → Result ℕ ListError
judged_number place before None = Err (BadLine place)
judged_number place before (Some n) = if is_above before n then Ok n else Err (NotAscending place)

-- The same, where no line stands at a place above the limit.
abbrev pub judged_line : ℕ → ℕ → Option ℕ → List ℕ → Result ℕ ListError
judged_line limit place before line =
    if nat_lt limit place then Err (TooMany limit) else judged_number place before (line_number line)

-- A number in front of a list, if there is one.
abbrev pub with_front : ℕ → Result (List ℕ) ListError → Result (List ℕ) ListError
with_front n (Ok ns) = Ok (n ∷ ns)
with_front n (Err e) = Err e

-- The number of a first line in front of what the later lines tell, or the first refusal.
abbrev pub and_later : Result ℕ ListError → (ℕ → Result (List ℕ) ListError) → Result (List ℕ) ListError
and_later (Ok n) later = with_front n (later n)
and_later (Err e) later = Err e

-- The numbers of lines, judged in order, or why the first refused one is refused. The first line stands at the
-- place, behind the number before.
abbrev pub judged : ℕ → ℕ → Option ℕ → List (List ℕ) → Result (List ℕ) ListError
judged limit place before [] = Ok []
judged limit place before (line ∷ later) =
    and_later (judged_line limit place before line) (λ n. judged limit (place + 1) (Some n) later)

-- The list of at most `limit` numbers that a text tells. Lines count from 1.
abbrev pub list_of : ℕ → List ℕ → Result (List ℕ) ListError
list_of limit text = judged limit 1 None (lines text)

-- An error that isn't want of memory is the refusal of the first refused line.
abbrev pub Refused : ℕ → List ℕ → ListError → Type 0
Refused limit text Memory = Unit {0}
Refused limit text e = list_of limit text ≡ Err e

-- The number by which a refusal is told; want of memory has none.
abbrev pub number_of : ListError → Option ℕ
number_of (BadLine line) = Some 1
number_of (NotAscending line) = Some 2
number_of (TooMany limit) = Some 3
number_of Memory = None
