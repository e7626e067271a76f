-- A text is cut where a byte first stands.
use Rattle.std.proofs.Common.{◌≡◌, ℕ, ◌<◌, false, not, List, [], ◌∷◌, ◌++◌, length, take, get_or, ap, ◌∙◌, arith, length-take}
use Rattle.std.specs.Prelude.{◌==◌}
use Rattle.std.specs.List.{before_first, after_first, position_or_len}
use Rattle.std.proofs.lemmas.Bool.Decides.{nat_tests}
use Rattle.std.proofs.lemmas.List.Sums.{split_at_first, prefix_len_stops}

shorter : (xs : List ℕ) (k : ℕ) → (length (take k xs) == length xs) ≡ false → k < length xs
shorter xs k h = let e = length-take k xs in grind (arith, nat_tests)

is_byte : (b c : ℕ) → not (c == b) ≡ false → c ≡ b
is_byte b c h = grind (arith, nat_tests)

-- A text in which a byte stands: the bytes before the first such one, it, and those behind it.
pub cut_at : (b : ℕ) (text : List ℕ) → (length (before_first (λ c. c == b) text) == length text) ≡ false
    → text ≡ before_first (λ c. c == b) text ++ b ∷ after_first (λ c. c == b) text
cut_at b text h =
    let k = position_or_len (λ c. c == b) text in
    let l : k < length text = shorter text k h in
    let e : get_or text k 0 ≡ b = is_byte b (get_or text k 0) (prefix_len_stops (λ c. not (c == b)) text 0 l) in
    split_at_first (λ c. c == b) text 0 l ∙ ap (λ (c : ℕ). before_first (λ c. c == b) text ++ c ∷ after_first (λ c. c == b) text) e

-- A text is longer than what stands before a byte of it.
pub longer : (xs ys : List ℕ) → (length xs == length (xs ++ 10 ∷ ys)) ≡ false
longer [] ys = grind (arith, nat_tests)
longer (x ∷ xs) ys = let e = longer xs ys in grind (arith, nat_tests)
