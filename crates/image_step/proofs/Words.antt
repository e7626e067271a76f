-- Words of characters above a bound, and what stands before and behind the first mark.
use Rattle.std.proofs.Common.{◌≡◌, ℕ, suc, ◌+◌, ◌<◌, ◌==◌, eqb, Bool, true, false, List, [], ◌∷◌, ◌++◌, take, drop, refl, ap, ◌∙◌, arith}
use Rattle.std.specs.List.{AllByRecursion, before_first, after_first, position_or_len}
use Rattle.std.proofs.lemmas.Bool.Decides.{nat_tests}

-- Each character is above a bound.
abbrev pub Above : ℕ → List ℕ → Type 0
Above k w = AllByRecursion (λ c. k < c) w

-- Characters above a number, behind others that are, are above it together.
pub above_append : (k : ℕ) (v w : List ℕ) → Above k v → Above k w → Above k (v ++ w)
above_append k [] w a b = b
above_append k (c ∷ v) w a b = (a.0, above_append k v w a.1 b)

-- What is above a number is above each smaller one.
pub above_less : (j k : ℕ) (w : List ℕ) → j < k → Above k w → Above j w
above_less j k [] h a = tt
above_less j k (c ∷ w) h a = (let e : k < c = a.0 in omega arith, above_less j k w h a.1)

take_one : {X : Type 0} (x : X) (xs : List X) (n : ℕ) → take (1 + n) (x ∷ xs) ≡ x ∷ take n xs
take_one x xs n = let e : 1 + n ≡ suc n = omega arith in rw e refl

drop_one : {X : Type 0} (x : X) (xs : List X) (n : ℕ) → drop (1 + n + 1) (x ∷ xs) ≡ drop (n + 1) xs
drop_one x xs n = let e : 1 + n + 1 ≡ suc (n + 1) = omega arith in rw e refl

-- An element that doesn't pass stands before the first one that does.
pub before_more : {X : Type 0} (p : X → Bool) (x : X) (xs : List X) → p x ≡ false → before_first p (x ∷ xs) ≡ x ∷ before_first p xs
before_more p x xs h = rw h (take_one x xs (position_or_len p xs))

-- Behind an element that fails the test, what comes after the first that passes is the same.
pub after_more : {X : Type 0} (p : X → Bool) (x : X) (xs : List X) → p x ≡ false → after_first p (x ∷ xs) ≡ after_first p xs
after_more p x xs h = rw h (drop_one x xs (position_or_len p xs))

-- Before an element that passes the test nothing comes.
pub before_none : {X : Type 0} (p : X → Bool) (x : X) (xs : List X) → p x ≡ true → before_first p (x ∷ xs) ≡ []
before_none p x xs h = rw h refl

-- Behind it comes the rest.
pub after_none : {X : Type 0} (p : X → Bool) (x : X) (xs : List X) → p x ≡ true → after_first p (x ∷ xs) ≡ xs
after_none p x xs h = rw h refl

not_mark : (mark c : ℕ) → mark < c → eqb c mark ≡ false
not_mark mark c h = grind (arith, nat_tests)

-- A word above the mark stands before it.
pub word_before : (mark : ℕ) (w rest : List ℕ) → Above mark w → before_first (λ c. c == mark) (w ++ mark ∷ rest) ≡ w
word_before mark [] rest a = before_none (λ c. c == mark) mark rest (grind (arith, nat_tests))
word_before mark (c ∷ w) rest a = before_more (λ c. c == mark) c (w ++ mark ∷ rest) (not_mark mark c a.0) ∙ ap (λ (l : List ℕ). c ∷ l) (word_before mark w rest a.1)

-- Behind a word without the mark, and the mark, comes the rest.
pub word_behind : (mark : ℕ) (w rest : List ℕ) → Above mark w → after_first (λ c. c == mark) (w ++ mark ∷ rest) ≡ rest
word_behind mark [] rest a = after_none (λ c. c == mark) mark rest (grind (arith, nat_tests))
word_behind mark (c ∷ w) rest a = after_more (λ c. c == mark) c (w ++ mark ∷ rest) (not_mark mark c a.0) ∙ word_behind mark w rest a.1
