-- Whether pages meet can be decided.
use Rattle.std.proofs.Common.{◌≡◌, ℕ, zero, suc, ◌<◌, ◌⊎◌, inl, inr, Bool, true, false, ◌&&◌, List, [], ◌∷◌, length, get_or, ap, ◌∙◌, arith}
use Rattle.std.specs.Prelude.{◌==◌, ◌%◌, ◌+◌, nat_lt}
use Rattle.std.proofs.lemmas.Bool.{cases_Bool, cases_lt, cases_eq, and_parts, and_from, both_ways, ltb-true}
use Rattle.page_group.specs.Pages.{is_occupied, is_covered}
use Rattle.page_group.specs.Grouping.{Meet}

-- a test passes below a bound, or nowhere below it
decide_below : (P : ℕ → Bool) (n : ℕ) → ((k : ℕ) × (P k ≡ true)) ⊎ ((k : ℕ) → k < n → P k ≡ false)
decide_below P zero = inr (λ k l. absurd (omega arith))
decide_below P (suc n) = elim (cases_Bool (P n)) [
  | inl t ↦ inl (n, t)
  | inr f ↦ elim (decide_below P n) [
    | inl h ↦ inl h
    | inr h ↦ inr (λ k l. elim (cases_lt k n) [
      | inl m ↦ h k m
      | inr m ↦ (let e : k ≡ n = omega arith in ap P e ∙ f)
    ])
  ]
]

-- an occupied offset lies in the page
pub below_page : (pieces : List (ℕ × ℕ)) (page k : ℕ) → is_occupied pieces page k ≡ true → k < 4096
below_page pieces page k h =
    let rest = (and_parts (page % 4096 == 0) (nat_lt k 4096 && is_covered pieces (page + k)) h).1 in
    ltb-true k 4096 (and_parts (nat_lt k 4096) (is_covered pieces (page + k)) rest).0

-- two pages meet, or they don't
decide_meet : (pieces : List (ℕ × ℕ)) (one other : ℕ) → Meet pieces one other ⊎ (Meet pieces one other → ⊥)
decide_meet pieces one other = elim (decide_below (λ k. is_occupied pieces one k && is_occupied pieces other k) 4096) [
  | inl h ↦ (let b = and_parts (is_occupied pieces one h.0) (is_occupied pieces other h.0) h.1 in inl (h.0, b.0, b.1))
  | inr h ↦ inr (λ m.
      let l = below_page pieces one m.0 m.1 in
      let both = and_from (is_occupied pieces one m.0) (is_occupied pieces other m.0) m.1 m.2 in
      both_ways (is_occupied pieces one m.0 && is_occupied pieces other m.0) (h m.0 l) both)
]

-- a home of a group has a lower page that meets a page
abbrev pub IsMet : List (ℕ × ℕ) → ℕ → ℕ → ℕ × ℕ → Type 0
IsMet pieces page group home = (home.0 < page) × (home.1 ≡ group) × Meet pieces home.0 page

-- it can be decided whether a home of a group has a lower page that meets a page
pub decide_met : (pieces : List (ℕ × ℕ)) (page group : ℕ) (home : ℕ × ℕ)
    → IsMet pieces page group home ⊎ (IsMet pieces page group home → ⊥)
decide_met pieces page group home = elim (cases_lt home.0 page) [
  | inr n ↦ inr (λ m. let l = m.0 in absurd (omega arith))
  | inl l ↦ elim (cases_eq home.1 group) [
    | inr n ↦ inr (λ m. n m.1)
    | inl e ↦ elim (decide_meet pieces home.0 page) [
      | inr n ↦ inr (λ m. n m.2)
      | inl k ↦ inl (l, e, k)
    ]
  ]
]

-- none of a list has what neither the first nor a later one has
none_more : {X : Type 0} (P : X → Type 0) (x : X) (xs : List X) → (P x → ⊥)
    → ((i : ℕ) (d : X) → i < length xs → P (get_or xs i d) → ⊥)
    → (i : ℕ) (d : X) → i < length (x ∷ xs) → P (get_or (x ∷ xs) i d) → ⊥
none_more P x xs n h zero d l p = n p
none_more P x xs n h (suc i) d l p = h i d (omega arith) p

-- one of a list has what can be decided, or none has it
pub find_any : {X : Type 0} (P : X → Type 0) → ((x : X) → P x ⊎ (P x → ⊥)) → (xs : List X)
    → ((i : ℕ) × (i < length xs) × ((d : X) → P (get_or xs i d))) ⊎ ((i : ℕ) (d : X) → i < length xs → P (get_or xs i d) → ⊥)
find_any P decide [] = inr (λ i d l p. absurd (omega arith))
find_any P decide (x ∷ xs) = elim (decide x) [
  | inl p ↦ inl (0, omega arith, λ d. p)
  | inr n ↦ elim (find_any P decide xs) [
    | inl h ↦ inl (suc h.0, (let l = h.1 in omega arith), h.2)
    | inr h ↦ inr (none_more P x xs n h)
  ]
]
