-- The private range: along steps, as a place for numbers, and beside writes.
use Rattle.std.proofs.Common.{◌≡◌, ◌⊎◌, inl, inr, ℕ, zero, suc, ◌+◌, ◌*◌, ◌^◌, ◌<◌, ◌≤◌, Bool, true, eqb, List, [], ◌∷◌, length, None, refl, ap, ap₂, sym, ◌∙◌, arith}
use Rattle.std.proofs.lemmas.Bool.{and_from, cond-true, cond-false, ne_eqb}
use Rattle.pun_base.specs.Memory.{Bytes}
use Rattle.cpu_state.specs.Bytes.{advanced, allows, byte_of, with_byte, lacking, number_at, put, put_list, within}
use Rattle.insn_form.specs.Machine.{Machine}
use Rattle.insn_form.specs.Step.{Step, next_after, task_of}
use Rattle.insn_form.specs.Touched.{perms_at}
use Rattle.insn_form.proofs.TouchedMemory.{keeps_permissions}
use Rattle.insn_form.proofs.AlikeMemories.{same_allows}
use Rattle.relocate_insn.specs.Running.{IsPrivate}
use Rattle.relocate_insn.proofs.FixedCode.{next_address}

-- a step keeps permissions
pub step_perms : (set : ℕ → Bool) (s t : Machine) → Step set s t → (x : ℕ) → perms_at t.mem x ≡ perms_at s.mem x
step_perms set s t st x = keeps_permissions (task_of st.0 (next_after s.rip st.0)) (next_after s.rip st.0) s t st.1.acts x

-- a range stays private where permissions stay
pub private_on : (set : ℕ → Bool) (lo n : ℕ) (m w : Bytes) → ((x : ℕ) → perms_at w x ≡ perms_at m x) → IsPrivate set lo n m
    → IsPrivate set lo n w
private_on set lo n m w e h = record {
  inside = h.inside;
  read = λ x a b. same_allows 4 (w x) (m x) (e x) ∙ h.read x a b;
  written = λ x a b. same_allows 2 (w x) (m x) (e x) ∙ h.written x a b;
  low = h.low;
}

-- a range that is private is so after a step
pub private_after : (set p : ℕ → Bool) (lo n : ℕ) (s t : Machine) → Step p s t → IsPrivate set lo n s.mem → IsPrivate set lo n t.mem
private_after set p lo n s t st h = private_on set lo n s.mem t.mem (step_perms p s t st) h

-- bytes of it can be written and read, and lie in the set
pub private_free : (set : ℕ → Bool) (lo n : ℕ) (m : Bytes) (a k : ℕ) → IsPrivate set lo n m → lo ≤ a → a + k ≤ lo + n
    → (lacking 2 m a k ≡ None) × (lacking 4 m a k ≡ None) × (within set a k ≡ true)
private_free set lo n m a zero p l h = (refl, refl, refl)
private_free set lo n m a (suc k) p l h =
    let b = p.low in
    let e : advanced a 1 ≡ a + 1 = next_address a 1 (omega arith) in
    let r = private_free set lo n m (a + 1) k p (omega arith) (omega arith) in (
      cond-true (allows 2 (m a)) _ _ (p.written a l (omega arith)) ∙ ap (λ z. lacking 2 m z k) e ∙ r.0,
      cond-true (allows 4 (m a)) _ _ (p.read a l (omega arith)) ∙ ap (λ z. lacking 4 m z k) e ∙ r.1,
      and_from (set a) (within set (advanced a 1) k) (p.inside a l (omega arith)) (ap (λ z. within set z k) e ∙ r.2),
    )

-- a write leaves each byte beside it
pub put_away : (m : Bytes) (a : ℕ) (bs : List ℕ) (x : ℕ) → a + length bs < 2 ^ 64 → (x < a) ⊎ (a + length bs ≤ x) → put_list m a bs x ≡ m x
put_away m a [] x l h = refl
put_away m a (b ∷ bs) x l h =
    let n : advanced a 1 ≡ a + 1 = next_address a 1 (omega arith) in
    let away : x ≡ a → ⊥ = λ e. other e h in
    ap (λ z. put_list (put m a b) z bs x) n ∙ put_away (put m a b) (a + 1) bs x (omega arith) (side h)
    ∙ cond-false (eqb x a) (with_byte b (m x)) (m x) (ne_eqb x a away)
  where
    other : x ≡ a → (x < a) ⊎ (a + length (b ∷ bs) ≤ x) → ⊥
    other e (inl k) = omega arith
    other e (inr k) = omega arith

    side : (x < a) ⊎ (a + length (b ∷ bs) ≤ x) → (x < a + 1) ⊎ (a + 1 + length bs ≤ x)
    side (inl k) = inl (omega arith)
    side (inr k) = inr (omega arith)

-- a number whose bytes stay is read as before
pub number_keep : (m w : Bytes) (a n : ℕ) → a + n < 2 ^ 64 → ((x : ℕ) → a ≤ x → x < a + n → w x ≡ m x) → number_at w a n ≡ number_at m a n
number_keep m w a zero l h = refl
number_keep m w a (suc n) l h =
    let e : advanced a 1 ≡ a + 1 = next_address a 1 (omega arith) in
    ap₂ (λ x y. x + 256 * y) (ap byte_of (h a (omega arith) (omega arith)))
    (ap (λ z. number_at w z n) e ∙ number_keep m w (a + 1) n (omega arith) (λ x i j. h x (omega arith) (omega arith))
    ∙ sym (ap (λ z. number_at m z n) e))
