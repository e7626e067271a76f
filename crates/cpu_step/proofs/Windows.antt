-- What stands at an address, against the executable bytes from there on.
use Rattle.std.proofs.Common.{◌≡◌, ℕ, zero, suc, ◌≤◌, Bool, true, false, cond, List, [], ◌∷◌, ◌++◌, length, refl, arith}
use Rattle.pun_base.specs.Memory.{Bytes}
use Rattle.cpu_state.specs.Bytes.{advanced, allows, byte_of, code_at, Stands}

-- Of at most n executable bytes there are at most n.
pub code_length : (m : Bytes) (a n : ℕ) → length (code_at m a n) ≤ n
code_length m a zero = omega arith
code_length m a (suc n) = by_test (allows 1 (m a)) (code_length m (advanced a 1) n)
  where
    by_test : (b : Bool) → length (code_at m (advanced a 1) n) ≤ n → length (cond b (byte_of (m a) ∷ code_at m (advanced a 1) n) []) ≤ suc n
    by_test true h = omega arith
    by_test false h = omega arith

-- the front of the executable bytes stands
one_stands : (t : Bool) (m : Bytes) (a b : ℕ) (bs rest code : List ℕ) → allows 1 (m a) ≡ t → (code ≡ bs ++ rest → Stands m (advanced a 1) bs) → cond t (byte_of (m a) ∷ code) [] ≡ b ∷ (bs ++ rest) → Stands m a (b ∷ bs)
one_stands true m a b bs rest code t f k = let h : byte_of (m a) ≡ b = cc in let r : code ≡ bs ++ rest = cc in (t, h, f r)
one_stands false m a b bs rest code t f k = absurd cc

-- Bytes with which the executable bytes begin stand there.
pub stands : (m : Bytes) (a n : ℕ) (bs rest : List ℕ) → code_at m a n ≡ bs ++ rest → Stands m a bs
stands m a n [] rest e = tt
stands m a zero (b ∷ bs) rest e = absurd cc
stands m a (suc n) (b ∷ bs) rest e = one_stands (allows 1 (m a)) m a b bs rest (code_at m (advanced a 1) n) refl (stands m (advanced a 1) n bs rest) e
