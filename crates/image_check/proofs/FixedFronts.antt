-- Code that stays, as a part of a file.
use Rattle.std.proofs.Common.{◌≡◌, ℕ, zero, suc, ◌+◌, ◌^◌, ◌<◌, ◌≤◌, true, List, [], ◌∷◌, length, take, Some, sym, ap, ◌∙◌, refl, arith}
use Rattle.std.specs.Prelude.{◌&&◌, ◌==◌, not, bit_and}
use Rattle.std.proofs.lemmas.Bool.{cond-true}
use Rattle.pun_base.specs.Memory.{Bytes}
use Rattle.cpu_state.specs.Bytes.{advanced}
use Rattle.image_check.specs.Jumps.{fixed_byte, fixed_more, fixed_at}
use Rattle.image_check.specs.Stretches.{HasFrom}

-- below 2^64 the next address is one higher, since nothing wraps around
next : (a : ℕ) → a + 1 < 2 ^ 64 → advanced a 1 ≡ a + 1
next a l = omega (arith, l)

-- of bytes that stand executable and not writable the first n are those that stay there
pub front_fixed : (m : Bytes) (perms n : ℕ) → (not (bit_and perms 1 == 0) && (bit_and perms 2 == 0)) ≡ true → (a : ℕ) (xs : List ℕ) → n ≤ length xs
    → a + length xs < 2 ^ 64 → HasFrom m a perms xs → take n xs ≡ fixed_at m a n
front_fixed m perms zero t a xs l b h = refl
front_fixed m perms (suc n) t a [] l b h = absurd (omega (arith, l))
front_fixed m perms (suc n) t a (x ∷ xs) l b h =
    let z : a + 0 ≡ a = omega arith in
    let here : m a ≡ Some (record { byte = x; perms = perms }) = sym (ap m z) ∙ h 0 (omega arith) in
    let byte : fixed_byte (m a) ≡ Some x = ap fixed_byte here ∙ cond-true (not (bit_and perms 1 == 0) && (bit_and perms 2 == 0)) (Some x) _ t in
    let s : a + 1 ≡ advanced a 1 = sym (next a (omega (arith, b))) in
    let rest : HasFrom m (a + 1) perms xs = λ i k. (let j : a + suc i ≡ a + 1 + i = omega arith in sym (ap m j) ∙ h (suc i) (omega (arith, k))) in
    let r = front_fixed m perms n t (a + 1) xs (omega (arith, l)) (omega (arith, b)) rest in
    ap (λ (z : List ℕ). x ∷ z) (r ∙ ap (λ (k : ℕ). fixed_at m k n) s) ∙ sym (ap (λ o. fixed_more o (fixed_at m (advanced a 1) n)) byte)
