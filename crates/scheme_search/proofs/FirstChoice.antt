-- The first of all choices: the least first part, and of these the first by the rest.
use Rattle.std.proofs.Common.{◌≡◌, ℕ, ◌+◌, ◌<◌, ◌≤◌, ◌⊎◌, inl, inr, arith}
use Rattle.std.proofs.lemmas.Bool.{cases_lt}
use Rattle.scheme_search.specs.Order.{IsFirstBy, then_by}

module _ {P : Type 0} (part : P → ℕ) (rest : P → P → Type 0) (Good : P → Type 0) where
  -- No good choice has the part below n.
  abbrev pub NoneBelow : ℕ → Type 0
  NoneBelow n = (q : P) → Good q → n ≤ part q

  -- A good choice with the part n.
  abbrev pub At : ℕ → P → Type 0
  At n q = Good q × (part q ≡ n)

  -- Where none has the part n either, none has it below the next.
  pub none_next : (n : ℕ) → NoneBelow n → ((q : P) → At n q → ⊥) → NoneBelow (n + 1)
  none_next n below here q good = elim (cases_lt n (part q)) [
    | inl lt ↦ omega arith
    | inr le ↦ absurd (here q (good, omega (arith, below q good)))
  ]

  -- Where none has a lower part, the first by the rest is the first of all.
  pub first_at : (n : ℕ) (p : P) → NoneBelow n → IsFirstBy rest (At n) p → IsFirstBy (then_by part rest) Good p
  first_at n p below h = record { good = h.good.0; first = λ q good. by_case q good (cases_lt n (part q)) }
    where
      by_case : (q : P) → Good q → (n < part q) ⊎ (part q ≤ n) → then_by part rest p q
      by_case q good (inl lt) = inl (omega (arith, h.good.1))
      by_case q good (inr le) = let e : part q ≡ n = omega (arith, below q good) in inr (omega (arith, h.good.1), h.first q (good, e))
