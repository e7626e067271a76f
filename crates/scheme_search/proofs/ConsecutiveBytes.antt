-- The bytes that stand in memory from an address on, as a list.
use Rattle.std.proofs.Common.{◌≡◌, ℕ, zero, suc, ◌+◌, ◌<◌, List, [], ◌∷◌, ◌++◌, length, get_or, refl, ap, ◌∙◌, arith}
use Rattle.pun_base.specs.Memory.{Bytes}
use Rattle.cpu_state.specs.Bytes.{byte_of}
use Rattle.start_list.specs.Plans.{bytes_from}

-- There are n bytes from an address on where n are asked for.
pub length-bytes_from : (m : Bytes) (a n : ℕ) → length (bytes_from m a n) ≡ n
length-bytes_from m a zero = refl
length-bytes_from m a (suc n) = omega (arith, length-bytes_from m (a + 1) n)

-- The i-th of the bytes from an address on is the one that stands i after the address.
pub get_or-bytes_from : (m : Bytes) (a n i : ℕ) → i < n → get_or (bytes_from m a n) i 0 ≡ byte_of (m (a + i))
get_or-bytes_from m a zero i l = absurd (omega arith)
get_or-bytes_from m a (suc n) zero l = let e : a ≡ a + 0 = omega arith in ap (λ x. byte_of (m x)) e
get_or-bytes_from m a (suc n) (suc i) l =
    let e : a + 1 + i ≡ a + suc i = omega arith in get_or-bytes_from m (a + 1) n i (omega arith) ∙ ap (λ x. byte_of (m x)) e

-- The n + 1 bytes from an address on are the first n and the one after them.
pub bytes_from-more : (m : Bytes) (a n : ℕ) → bytes_from m a (suc n) ≡ bytes_from m a n ++ byte_of (m (a + n)) ∷ []
bytes_from-more m a zero = let e : a ≡ a + 0 = omega arith in ap (λ x. byte_of (m x) ∷ []) e
bytes_from-more m a (suc n) =
    let e : a + 1 + n ≡ a + suc n = omega arith in
    ap (λ (xs : List ℕ). byte_of (m a) ∷ xs) (bytes_from-more m (a + 1) n ∙ ap (λ x. bytes_from m (a + 1) n ++ byte_of (m x) ∷ []) e)

-- Lists of one length are the same where they have the same bytes.
pub same_list : (xs ys : List ℕ) → length xs ≡ length ys → ((i : ℕ) → i < length xs → get_or xs i 0 ≡ get_or ys i 0) → xs ≡ ys
same_list [] [] e h = refl
same_list [] (y ∷ ys) e h = absurd (omega arith)
same_list (x ∷ xs) [] e h = absurd (omega arith)
same_list (x ∷ xs) (y ∷ ys) e h =
    let first : x ≡ y = h 0 (omega arith) in
    let rest : xs ≡ ys = same_list xs ys (omega arith) (λ i l. h (suc i) (omega arith)) in λ i. first i ∷ rest i
