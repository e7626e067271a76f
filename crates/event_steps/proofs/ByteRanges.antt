-- Ranges of bytes: numbers whose bytes stay, and bytes that are put elsewhere.
use Rattle.std.proofs.Common.{◌≡◌, ℕ, zero, suc, ◌+◌, ◌*◌, ◌%◌, ◌^◌, ◌<◌, Bool, true, false, ◌||◌, eqb, List, [], ◌∷◌, length, refl, ap, ap₂, ◌∙◌, subst, arith}
use Rattle.std.proofs.lemmas.Bool.{or_parts, or_left, or_right, eq-eqb, cond-false, false≢true}
use Rattle.pun_base.specs.Memory.{Bytes}
use Rattle.cpu_state.specs.Bytes.{advanced, byte_of, number_at, put, put_list, with_byte}
use Rattle.event_steps.specs.DoneSteps.{is_one_of}

-- a number whose bytes stay is the same
pub number_on : (m w : Bytes) (a n : ℕ) → ((x : ℕ) → is_one_of a n x ≡ true → w x ≡ m x) → number_at w a n ≡ number_at m a n
number_on m w a zero h = refl
number_on m w a (suc n) h = ap₂ (λ x y. x + 256 * y) (ap byte_of (h a (or_left (eqb a a) (is_one_of (advanced a 1) n a) (eq-eqb a a refl))))
    (number_on m w (advanced a 1) n (λ x k. h x (or_right (eqb x a) (is_one_of (advanced a 1) n x) k)))

-- an address of the first part of a range is one of the range
pub range_first : (a k n x : ℕ) → is_one_of a k x ≡ true → is_one_of a (k + n) x ≡ true
range_first a zero n x h = absurd (false≢true h)
range_first a (suc k) n x h = ap (λ z. is_one_of a z x) (let z : suc k + n ≡ suc (k + n) = omega arith in z) ∙ by_test (eqb x a) (range_first (advanced a 1) k n x) h
  where
    by_test : (b : Bool) → (is_one_of (advanced a 1) k x ≡ true → is_one_of (advanced a 1) (k + n) x ≡ true) → (b || is_one_of (advanced a 1) k x) ≡ true → (b || is_one_of (advanced a 1) (k + n) x) ≡ true
    by_test true go e = refl
    by_test false go e = go e

-- so is one of the part behind it
pub range_rest : (a k n x : ℕ) → a < 2 ^ 64 → is_one_of ((a + k) % 2 ^ 64) n x ≡ true → is_one_of a (k + n) x ≡ true
range_rest a zero n x l h = ap (λ z. is_one_of a z x) (let z : zero + n ≡ n = omega arith in z) ∙ subst (λ z. is_one_of z n x ≡ true) (let z : (a + zero) % 2 ^ 64 ≡ a = omega arith in z) h
range_rest a (suc k) n x l h =
    let go = range_rest (advanced a 1) k n x (omega arith) (subst (λ z. is_one_of z n x ≡ true) (let z : (a + suc k) % 2 ^ 64 ≡ (advanced a 1 + k) % 2 ^ 64 = omega arith in z) h) in
    ap (λ z. is_one_of a z x) (let z : suc k + n ≡ suc (k + n) = omega arith in z) ∙ or_right (eqb x a) (is_one_of (advanced a 1) (k + n) x) go

-- bytes that are put elsewhere leave an address
pub put_elsewhere : (m : Bytes) (a n : ℕ) (bs : List ℕ) (x : ℕ) → length bs ≡ n → is_one_of a n x ≡ false → put_list m a bs x ≡ m x
put_elsewhere m a n [] x e h = refl
put_elsewhere m a zero (b ∷ bs) x e h = absurd (omega (arith, e))
put_elsewhere m a (suc n) (b ∷ bs) x e h =
    let q = or_parts (eqb x a) (is_one_of (advanced a 1) n x) h in
    put_elsewhere (put m a b) (advanced a 1) n bs x (omega (arith, e)) q.1 ∙ cond-false (eqb x a) (with_byte b (m x)) (m x) q.0
