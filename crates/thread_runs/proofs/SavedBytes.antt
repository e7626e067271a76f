-- The bytes in which events save, sixteen where they keep a ring: those of the flags, and behind them those of rax. And how many slots a ring has.
use Rattle.std.proofs.Common.{◌≡◌, ◌⊎◌, inl, inr, ℕ, zero, suc, ◌+◌, ◌-◌, ◌%◌, ◌^◌, ◌<◌, ◌≤◌, Bool, true, false, ◌||◌, cond, eqb, Some, None, refl, sym, ap, ◌∙◌, subst, arith}
use Rattle.std.proofs.lemmas.Bool.{cond-true, eqb-true, false≢true, false_from_ne_true}
use Rattle.pun_base.specs.Memory.{Bytes}
use Rattle.cpu_state.specs.declared.state.Core.{Core}
use Rattle.cpu_state.specs.Bytes.{advanced, allows, lacking}
use Rattle.insn_form.specs.Operands.{reg}
use Rattle.event_steps.specs.DoneSteps.{is_one_of}
use Rattle.thread_runs.specs.ThreadCode.{is_ring_length, slot, flag_slot}

-- the length of a ring
pub length_is : (n : ℕ) → is_ring_length n ≡ true → (eqb n 256 ≡ true) × (n ≡ 256) ⊎ (eqb n 256 ≡ false) × (n ≡ 65536)
length_is n h = by_test (eqb n 256) refl h
  where
    by_test : (b : Bool) → eqb n 256 ≡ b → (b || eqb n 65536) ≡ true → (eqb n 256 ≡ true) × (n ≡ 256) ⊎ (eqb n 256 ≡ false) × (n ≡ 65536)
    by_test true e k = inl (e, eqb-true n 256 e)
    by_test false e k = inr (e, eqb-true n 65536 k)

-- a ring has slots, and not too many
pub length_few : (n : ℕ) → is_ring_length n ≡ true → (0 < n) × (n ≤ 65536)
length_few n h = elim (length_is n h) [
  | inl q ↦ (omega (arith, q.1), omega (arith, q.1))
  | inr q ↦ (omega (arith, q.1), omega (arith, q.1))
]

-- of two parts of a range neither lacks a permission that the range doesn't
lacking_two : (q : ℕ) (m : Bytes) (a k l : ℕ) → a < 2 ^ 64 → lacking q m a (k + l) ≡ None → (lacking q m a k ≡ None) × (lacking q m ((a + k) % 2 ^ 64) l ≡ None)
lacking_two q m a zero l s h = (refl, (let e : (a + 0) % 2 ^ 64 ≡ a = omega arith in ap (λ z. lacking q m z l) e ∙ subst (λ z. lacking q m a z ≡ None) (let z : 0 + l ≡ l = omega arith in z) h))
lacking_two q m a (suc k) l s h = by_test (allows q (m a)) refl (λ g. lacking_two q m (advanced a 1) k l (omega arith) g) (subst (λ z. lacking q m a z ≡ None) (let z : suc k + l ≡ suc (k + l) = omega arith in z) h)
  where
    by_test : (b : Bool) → allows q (m a) ≡ b → (lacking q m (advanced a 1) (k + l) ≡ None → (lacking q m (advanced a 1) k ≡ None) × (lacking q m ((advanced a 1 + k) % 2 ^ 64) l ≡ None))
        → cond b (lacking q m (advanced a 1) (k + l)) (Some a) ≡ None → (cond (allows q (m a)) (lacking q m (advanced a 1) k) (Some a) ≡ None) × (lacking q m ((a + suc k) % 2 ^ 64) l ≡ None)
    by_test true e go g =
        let r = go g in
        let z : (advanced a 1 + k) % 2 ^ 64 ≡ (a + suc k) % 2 ^ 64 = omega arith in
        (cond-true (allows q (m a)) _ _ e ∙ r.0, ap (λ y. lacking q m y l) (sym z) ∙ r.1)
    by_test false e go g = absurd cc

-- the eight bytes behind those of the flags are those of rax
pub flags_then_rax : (c : Core) → (flag_slot c + 8) % 2 ^ 64 ≡ slot c
flags_then_rax c = behind (reg c 4)
  where
    behind : (x : ℕ) → ((x + (2 ^ 64 - 144)) % 2 ^ 64 + 8) % 2 ^ 64 ≡ (x + (2 ^ 64 - 136)) % 2 ^ 64
    behind x = omega arith

-- an address is one of 64 bits
flag_small : (c : Core) → flag_slot c < 2 ^ 64
flag_small c = omega arith

-- what is held of the sixteen bytes is held of the eight of the flags and of those of rax
pub saved_two : (q : ℕ) (m : Bytes) (c : Core) → lacking q m (flag_slot c) 16 ≡ None → (lacking q m (flag_slot c) 8 ≡ None) × (lacking q m (slot c) 8 ≡ None)
saved_two q m c h = let r = lacking_two q m (flag_slot c) 8 8 (flag_small c) h in (r.0, ap (λ z. lacking q m z 8) (sym (flags_then_rax c)) ∙ r.1)

-- a range of fewer than 2^64 addresses has each by its place in it
pub in_range : (a n x : ℕ) → a < 2 ^ 64 → is_one_of a n x ≡ true → (j : ℕ) × (j < n) × (x ≡ (a + j) % 2 ^ 64)
in_range a zero x l h = absurd (false≢true h)
in_range a (suc n) x l h = by_test (eqb x a) refl (λ k. in_range (advanced a 1) n x (omega arith) k) h
  where
    by_test : (b : Bool) → eqb x a ≡ b → (is_one_of (advanced a 1) n x ≡ true → (j : ℕ) × (j < n) × (x ≡ (advanced a 1 + j) % 2 ^ 64)) → (b || is_one_of (advanced a 1) n x) ≡ true → (j : ℕ) × (j < suc n) × (x ≡ (a + j) % 2 ^ 64)
    by_test true e go k = let f = eqb-true x a e in (0, omega arith, omega (arith, f))
    by_test false e go k = let q = go k in (suc q.0, omega (arith, q.1), (let z = q.2 in omega (arith, z)))

-- the bytes of rax are none of those of the flags
pub rax_apart : (c : Core) (x : ℕ) → is_one_of (slot c) 8 x ≡ true → is_one_of (flag_slot c) 8 x ≡ false
rax_apart c x h = false_from_ne_true (is_one_of (flag_slot c) 8 x) (λ e.
    let a = in_range (slot c) 8 x (omega arith) h in
    let b = in_range (flag_slot c) 8 x (flag_small c) e in
    let z = flags_then_rax c in
    let s = flag_small c in
    never (flag_slot c) (slot c) x a.0 b.0 s (sym z) a.1 b.1 a.2 b.2)
  where
    never : (f s x j k : ℕ) → f < 2 ^ 64 → s ≡ (f + 8) % 2 ^ 64 → j < 8 → k < 8 → x ≡ (s + j) % 2 ^ 64 → x ≡ (f + k) % 2 ^ 64 → ⊥
    never f s x j k l e a b p q = omega (arith, l, e, a, b, p, q)
