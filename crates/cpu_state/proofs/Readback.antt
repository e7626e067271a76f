-- What is written is read again.
use Rattle.std.proofs.Common.{◌≡◌, ℕ, zero, suc, ◌+◌, ◌*◌, ◌/◌, ◌%◌, ◌^◌, ◌<◌, ◌≤◌, Bool, true, false, not, cond, ◌&&◌, eqb, length, Option, Some, None, refl, sym, ap, ap₂, ◌∙◌, arith, true≢false, ne_eqb, eq-eqb}
use Rattle.std.proofs.lemmas.Bool.{cond-true}
use Rattle.std.proofs.lemmas.Nat.{mod-pow-add}
use Rattle.pun_base.specs.Memory.{Cell, Bytes}
use Rattle.cpu_state.specs.Bytes.{advanced, allows, byte_of, with_byte, lacking, put, put_list, bytes_of, avoids}
use Rattle.cpu_state.specs.Laws.{IsReadBack}
use Rattle.cpu_state.proofs.MemoryFrames.{put_list_keeps}

-- a write changes no permission
put_allows : (m : Bytes) (a b p x : ℕ) → allows p (put m a b x) ≡ allows p (m x)
put_allows m a b p x = by_test (eqb x a) (m x)
  where
    by_test : (t : Bool) (c : Option Cell) → allows p (cond t (with_byte b c) c) ≡ allows p c
    by_test true None = refl
    by_test true (Some c) = refl
    by_test false c = refl

lacking_put : (m : Bytes) (a b p x n : ℕ) → lacking p (put m a b) x n ≡ lacking p m x n
lacking_put m a b p x zero = refl
lacking_put m a b p x (suc n) = ap₂ (λ t r. cond t r (Some x)) (put_allows m a b p x) (lacking_put m a b p (advanced x 1) n)

-- the next addresses are other ones
apart : (a k n : ℕ) → a < 2 ^ 64 → 0 < k → k + n ≤ 2 ^ 64 → avoids (λ y. eqb y a) ((a + k) % 2 ^ 64) n ≡ true
apart a k zero l p s = refl
apart a k (suc n) l p s =
    let other : eqb ((a + k) % 2 ^ 64) a ≡ false = ne_eqb _ _ (λ e. omega arith) in
    let next : advanced ((a + k) % 2 ^ 64) 1 ≡ (a + (k + 1)) % 2 ^ 64 = omega arith in
    let rest = apart a (k + 1) n l (omega arith) (omega arith) in
    ap₂ (λ x y. not x && avoids (λ z. eqb z a) y n) other next ∙ rest

first_cell : (c : Option Cell) (b p : ℕ) → allows p c ≡ true → byte_of (with_byte b c) ≡ b
first_cell None b p e = absurd (true≢false (sym e))
first_cell (Some c) b p e = refl

lacking_parts : (p : ℕ) (t : Bool) (a : ℕ) (r : Option ℕ) → cond t r (Some a) ≡ None → (t ≡ true) × (r ≡ None)
lacking_parts p true a r e = (refl, e)
lacking_parts p false a r e = absurd cc

-- the low n bytes of a number are n
pub bytes_of_length : (n v : ℕ) → length (bytes_of n v) ≡ n
bytes_of_length zero v = refl
bytes_of_length (suc n) v = ap suc (bytes_of_length n (v / 256))

-- a number's lowest byte and n bytes of what is left are its n + 1 lowest bytes
pub join_bytes : (v n : ℕ) → v % 256 + 256 * (v / 256 % 2 ^ (8 * n)) ≡ v % 2 ^ (8 * suc n)
join_bytes v n =
    let e : 8 * suc n ≡ 8 * n + 8 = omega arith in
    rw (e, mod-pow-add v (8 * n) 8) (omega arith)

-- what is written is read again
pub read_back : IsReadBack
read_back m p a zero v l s h = omega arith
read_back m p a (suc n) v l s h =
    let q = lacking_parts p (allows p (m a)) a (lacking p m (advanced a 1) n) h in
    let m1 = put m a (v % 256) in
    let big = put_list m1 (advanced a 1) (bytes_of n (v / 256)) in
    let held = lacking_put m a (v % 256) p (advanced a 1) n ∙ q.1 in
    let ih = read_back m1 p (advanced a 1) n (v / 256) (omega arith) (omega arith) held in
    let far : avoids (λ y. eqb y a) (advanced a 1) (length (bytes_of n (v / 256))) ≡ true = rw (bytes_of_length n (v / 256)) (apart a 1 n l (omega arith) (omega arith)) in
    let kept : big a ≡ m1 a = put_list_keeps (λ y. eqb y a) m1 (advanced a 1) (bytes_of n (v / 256)) a far (eq-eqb a a refl) in
    let here : m1 a ≡ with_byte (v % 256) (m a) = cond-true (eqb a a) _ _ (eq-eqb a a refl) in
    ap₂ (λ x y. x + 256 * y) (ap byte_of (kept ∙ here) ∙ first_cell (m a) (v % 256) p q.0) ih ∙ join_bytes v n
