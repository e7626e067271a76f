-- A number that is written leaves the words behind it.
use Rattle.std.proofs.Common.{◌≡◌, ℕ, zero, suc, ◌+◌, ◌*◌, ◌%◌, ◌^◌, ◌<◌, ◌≤◌, Bool, true, false, not, cond, ◌&&◌, eqb, nat_le, List, [], ◌∷◌, length, Option, Some, None, refl, sym, ap₂, ◌∙◌, subst, arith}
use Rattle.std.proofs.lemmas.Bool.{le-leb}
use Rattle.std.proofs.lemmas.Bool.Decides.{nat_tests}
use Rattle.pun_base.specs.Memory.{Cell, Bytes}
use Rattle.cpu_state.specs.Bytes.{advanced, allows, with_byte, lacking, put, put_list, put_number, bytes_of, avoids, within}
use Rattle.cpu_state.proofs.MemoryFrames.{number_elsewhere}
use Rattle.cpu_state.proofs.Readback.{bytes_of_length}
use Rattle.settled_runs.specs.Vector.{Word, Pairs}

-- a write changes no permission
put_allows : (m : Bytes) (a b p x : ℕ) → allows p (put m a b x) ≡ allows p (m x)
put_allows m a b p x = by_test (eqb x a) (m x)
  where
    by_test : (t : Bool) (c : Option Cell) → allows p (cond t (with_byte b c) c) ≡ allows p c
    by_test true None = refl
    by_test true (Some c) = refl
    by_test false c = refl

list_allows : (bs : List ℕ) (m : Bytes) (a p x : ℕ) → allows p (put_list m a bs x) ≡ allows p (m x)
list_allows [] m a p x = refl
list_allows (b ∷ bs) m a p x = list_allows bs (put m a b) (advanced a 1) p x ∙ put_allows m a b p x

pub lacking_stays : (m : Bytes) (a p x n : ℕ) (bs : List ℕ) → lacking p (put_list m a bs) x n ≡ lacking p m x n
lacking_stays m a p x zero bs = refl
lacking_stays m a p x (suc n) bs = ap₂ (λ t r. cond t r (Some x)) (list_allows bs m a p x) (lacking_stays m a p (advanced x 1) n bs)

-- addresses below another one, and from it on
low_avoids : (at a n : ℕ) → a + n ≤ at → at < 2 ^ 64 → avoids (λ x. nat_le at x) a n ≡ true
low_avoids at a zero l k = refl
low_avoids at a (suc n) l k =
    let e : nat_le at a ≡ false = grind (arith, nat_tests) in
    let s : (a + 1) % 2 ^ 64 ≡ a + 1 = omega arith in
    ap₂ (λ t z. not t && avoids (λ x. nat_le at x) z n) e s ∙ low_avoids at (a + 1) n (omega arith) k

high_within : (at a n : ℕ) → at ≤ a → a + n < 2 ^ 64 → within (λ x. nat_le at x) a n ≡ true
high_within at a zero l k = refl
high_within at a (suc n) l k =
    let e : nat_le at a ≡ true = le-leb at a l in
    let s : (a + 1) % 2 ^ 64 ≡ a + 1 = omega arith in
    ap₂ (λ t z. t && within (λ x. nat_le at x) z n) e s ∙ high_within at (a + 1) n (omega arith) (omega arith)

-- a word behind a number that is written
word_stays : (m : Bytes) (b v a x : ℕ) → b + 8 ≤ a → a + 8 < 2 ^ 64 → Word m a x → Word (put_number m b 8 v) a x
word_stays m b v a x l k h =
    let n = bytes_of_length 8 v in
    let low = subst (λ (z : ℕ). avoids (λ y. nat_le a y) b z ≡ true) (sym n) (low_avoids a b 8 l (omega arith)) in (
      lacking_stays m b 4 a 8 (bytes_of 8 v) ∙ h.0,
      number_elsewhere (λ y. nat_le a y) m b a 8 (bytes_of 8 v) low (high_within a a 8 (omega arith) k) ∙ h.1,
    )

-- pairs behind it
pub pairs_stay : (ks : List ℕ) (m : Bytes) (b v a : ℕ) → b + 8 ≤ a → a + 16 * length ks + 8 < 2 ^ 64 → Pairs m a ks → Pairs (put_number m b 8 v) a ks
pairs_stay [] m b v a l k h = word_stays m b v a 0 l (omega arith) h
pairs_stay (x ∷ ks) m b v a l k h =
    (word_stays m b v a x l (omega arith) h.0, h.1, h.2, lacking_stays m b 2 (a + 8) 8 (bytes_of 8 v) ∙ h.3, pairs_stay ks m b v (a + 16) (omega arith) (omega arith) h.4)
