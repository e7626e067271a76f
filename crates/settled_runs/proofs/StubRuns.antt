-- The stub's run: over the variables, over the pairs, and to the entry.
use Rattle.std.proofs.Common.{◌≡◌, ℕ, suc, ◌+◌, ◌*◌, ◌-◌, ◌%◌, ◌^◌, ◌<◌, ◌≤◌, ◌==◌, Bool, true, false, List, [], ◌∷◌, ◌++◌, length, take, drop, slice_index, None, refl, sym, ap, ◌∙◌, subst, arith, eqb-true, ne_eqb, eq-eqb, true≢false}
use Rattle.std.proofs.lemmas.Bool.{cond-true, cond-false}
use Rattle.std.specs.List.{list_any}
use Rattle.pun_base.specs.Memory.{Bytes}
use Rattle.cpu_state.specs.Bytes.{advanced, lacking, put_number}
use Rattle.cpu_state.specs.Fixed.{IsFixed}
use Rattle.insn_form.specs.Operands.{word_of, reg}
use Rattle.insn_form.specs.Branches.{is_empty}
use Rattle.insn_form.specs.Filling.{integer_of}
use Rattle.insn_form.specs.Machine.{Machine}
use Rattle.insn_form.specs.Runs.{nowhere, IsPath, last_of}
use Rattle.relocate_insn.specs.Pieces.{jump_code}
use Rattle.relocate_insn.proofs.FixedCode.{fixed_front, fixed_back, fixed_after}
use Rattle.loader_form.proofs.StubSteps.{Own, passed_step, back_step}
use Rattle.settle.specs.Stub.{read_count, to_variables, read_word, go_on, less, if_zero, jump, tell, set_rdi, stub_code}
use Rattle.settled_runs.specs.Vector.{OwnTable, Variables, Pairs, with_pair, told, variables_at, pairs_at, IsVector}
use Rattle.settled_runs.specs.Laws.{StubTells, stub_places, StubStep}
use Rattle.settled_runs.proofs.WordsBehind.{pairs_stay}
use Rattle.settled_runs.proofs.TellingSteps.{Others, core_with, now, count_step, variables_step, word_step, on_step, less_step, tell_step, zero_step, rdi_step, leave_step}

-- at most so many steps of a stub lead from a state to another one
pub record Leads (at : ℕ) (s t : Machine) (n : ℕ) : Type 0 where
  pub states : List Machine
  pub path : IsPath (StubStep at) s states
  pub few : length states ≤ n
  pub there : last_of s states ≡ t

here : {at : ℕ} (s : Machine) → Leads at s s 0
here s = record { states = []; path = tt; few = omega arith; there = refl }

on : {at : ℕ} {s u t : Machine} {n : ℕ} (k : ℕ) → s.rip ≡ at + k → list_any (λ j. j == k) stub_places ≡ true → Own s u → Leads at u t n → Leads at s t (suc n)
on {u = u} {n = n} k e p st l =
    let f = l.few in
    record { states = u ∷ l.states; path = (record { own = st; place = k; there = e; listed = p }, l.path); few = omega (arith, f); there = l.there }

weaker : {at : ℕ} {s t : Machine} (n m : ℕ) → n ≤ m → Leads at s t n → Leads at s t m
weaker n m k l = let f = l.few in record { states = l.states; path = l.path; few = omega (arith, f, k); there = l.there }

-- a piece of code that stays
piece : (m : Bytes) (at k : ℕ) (code mid : List ℕ) → at + k < 2 ^ 64 → length (take k code) ≡ k → code ≡ take k code ++ (mid ++ drop (k + length mid) code)
    → IsFixed m at code → IsFixed m (at + k) mid
piece m at k code mid l n e h =
    let rest = drop (k + length mid) code in
    let b = fixed_back m at (take k code) (mid ++ rest) (omega (arith, l, n)) (subst (λ (z : List ℕ). IsFixed m at z) e h) in
    fixed_front m (at + k) mid rest (subst (λ (z : ℕ). IsFixed m (at + z) (mid ++ rest)) n b)

module _ (w : OwnTable) (o : Others) (at : ℕ) (low : at + 89 < 2 ^ 31) (lp : w.phdr < 2 ^ 31) (ln : w.phnum < 2 ^ 31) (le : w.entry < 2 ^ 31) where
  abbrev code : List ℕ
  code = stub_code at w.phdr w.phnum w.entry

  -- a step, and then the rest from the sum of two distances on
  go : {v t : Machine} {n : ℕ} (c d : ℕ) (m : Bytes) (k j : ℕ) → v.rip ≡ at + k → list_any (λ i. i == k) stub_places ≡ true → Own v (now o c d m (at + k + j)) → Leads at (now o c d m (at + (k + j))) t n → Leads at v t (suc n)
  go {v = v} c d m k j q p st l = let e : at + k + j ≡ at + (k + j) = omega arith in on k q p (subst (λ (z : ℕ). Own v (now o c d m z)) e st) l

  -- where a short jump leads
  target : (k n t : ℕ) (x : ℕ) → word_of (integer_of (n ∷ [])) ≡ x → (at + k + 2 + x) % 2 ^ 64 ≡ at + t → advanced (at + k + 2) (word_of (integer_of (n ∷ []))) ≡ at + t
  target k n t x e f = ap (λ z. (at + k + 2 + z) % 2 ^ 64) e ∙ f

  -- the end: rdi is 0 again, and the entry comes
  leaving : (c d : ℕ) (m : Bytes) → IsFixed m at code → Leads at (now o c d m (at + 79)) (now o c 0 m w.entry) 2
  unfolding stub_code
  leaving c d m f =
      go c 0 m 79 5 refl refl (rdi_step o c d m (at + 79) (omega arith) (piece m at 79 code (set_rdi 0) (omega arith) refl refl f))
      (on 84 refl refl (leave_step (now o c 0 m (at + 84)) (at + 84) w.entry (omega arith) le refl (piece m at 84 code (jump_code (at + 84) w.entry) (omega arith) refl refl f)) (here _))

  -- a pair is done: on to the next
  next_pair : (t : Machine) (n c a : ℕ) (m : Bytes) → a + 16 < 2 ^ 64 → IsFixed m at code → Leads at (now o c (a + 16) m (at + 20)) t n → Leads at (now o c a m (at + 43)) t (suc (suc n))
  unfolding stub_code
  next_pair t n c a m l f r =
      go c (a + 16) m 43 4 refl refl (on_step o c a m (at + 43) 16 (a + 16) (omega arith) l refl refl (piece m at 43 code (go_on 16) (omega arith) refl refl f))
      (on 47 refl refl (back_step (now o c (a + 16) m (at + 47)) (at + 47) 0xe3 (at + 20) (omega arith) refl (target 47 0xe3 20 (2 ^ 64 - 29) refl (omega arith)) (piece m at 47 code (jump 0xe3) (omega arith) refl refl f)) r)

  -- what follows a pair, from each memory in which the pairs behind it stand
  abbrev Follows : ℕ → List ℕ → ℕ → Type 0
  Follows a ks n = (c : ℕ) (m : Bytes) → IsFixed m at code → Pairs m (a + 16) ks → Leads at (now o c (a + 16) m (at + 20)) (now o 0 0 (told w (a + 16) ks m) w.entry) n

  -- a value is told, and what follows
  tell_value : (t t' v b x : ℕ) → list_any (λ i. i == t) stub_places ≡ true → list_any (λ i. i == t') stub_places ≡ true → t + 8 ≡ t' → t' ≤ 80 → v < 2 ^ 31 → word_of (integer_of (b ∷ [])) ≡ x → (at + t' + 2 + x) % 2 ^ 64 ≡ at + 43
      → ((m : Bytes) → IsFixed m at code → IsFixed m (at + t) (tell v)) → ((m : Bytes) → IsFixed m at code → IsFixed m (at + t') (jump b))
      → (a n : ℕ) (m : Bytes) (ks : List ℕ) → a + 16 * length ks + 32 < 2 ^ 64 → IsFixed m at code → lacking 2 m (a + 8) 8 ≡ None → Pairs m (a + 16) ks → Follows a ks n
      → Leads at (now o 0 a m (at + t)) (now o 0 0 (told w (a + 16) ks (put_number m (a + 8) 8 v)) w.entry) (suc (suc (suc (suc n))))
  tell_value t t' v b x it it' e q lv wx jx pt pj a n m ks l f lk h ih =
      let m' = put_number m (a + 8) 8 v in
      let st = tell_step o 0 a m (at + t) v (omega arith) lv (omega arith) lk (pt m f) in
      let y : at + t + 8 ≡ at + t' = omega arith in
      let f' : IsFixed m' at code = fixed_after nowhere (now o 0 a m (at + t)) (now o 0 a m' (at + t + 8)) at code (st.0, st.1) f in
      on {s = now o 0 a m (at + t)} t refl it (subst (λ (z : ℕ). Own (now o 0 a m (at + t)) (now o 0 a m' z)) y st)
      (on {s = now o 0 a m' (at + t')} t' refl it' (back_step (now o 0 a m' (at + t')) (at + t') b (at + 43) (omega arith) refl (target t' b 43 x wx jx) (pj m' f'))
      (next_pair (now o 0 0 (told w (a + 16) ks m') w.entry) n 0 a m' (omega arith) f'
      (ih 0 m' f' (pairs_stay ks m (a + 8) v (a + 16) (omega arith) (omega arith) h))))

  not_empty : (k : ℕ) → 0 < k → k < 2 ^ 64 → is_empty false k ≡ false
  not_empty k l h = ne_eqb (k % 2 ^ 64) 0 (λ e. omega (arith, e))

  module _ (k a n : ℕ) (m : Bytes) (ks : List ℕ) (l : a + 16 * length ks + 32 < 2 ^ 64) (lk : k < 2 ^ 64) (f : IsFixed m at code)
      (can : lacking 2 m (a + 8) 8 ≡ None) (h : Pairs m (a + 16) ks) (ih : Follows a ks n) where
    -- the state where a pair's value was told, by the memory with it
    abbrev end_by : Bytes → Machine
    end_by m' = now o 0 0 (told w (a + 16) ks m') w.entry

    by_memory : {v : Machine} {j : ℕ} {m' : Bytes} → m' ≡ with_pair w a k m → Leads at v (end_by m') j → Leads at v (end_by (with_pair w a k m)) j
    by_memory {v = v} {j = j} e r = subst (λ (z : Bytes). Leads at v (end_by z) j) e r

    -- what is left of the key after each comparison
    abbrev x3 : ℕ
    x3 = (k + (2 ^ 64 - 3)) % 2 ^ 64

    abbrev x5 : ℕ
    x5 = (x3 + (2 ^ 64 - 2)) % 2 ^ 64

    abbrev x9 : ℕ
    x9 = (x5 + (2 ^ 64 - 4)) % 2 ^ 64

    not_zero : (x : ℕ) → x < 2 ^ 64 → (x ≡ 0 → ⊥) → is_empty false x ≡ false
    not_zero x b q = ne_eqb (x % 2 ^ 64) 0 (λ e. q (omega (arith, e)))

    isnt : (j : ℕ) → (k == j) ≡ false → k ≡ j → ⊥
    isnt j e q = absurd (true≢false (sym (eq-eqb k j q) ∙ e))

    -- 9, or none of the three
    by9 : (t : Bool) → (k == 9) ≡ t → (k == 5) ≡ false → (k == 3) ≡ false → Leads at (now o x5 a m (at + 37)) (end_by (with_pair w a k m)) (n + 6)
    unfolding stub_code
    by9 true e e5 e3 =
        let q : k ≡ 9 = eqb-true k 9 e in
        let z : (x5 + (2 ^ 64 - 4)) % 2 ^ 64 ≡ 0 = omega (arith, q) in
        let p : put_number m (a + 8) 8 w.entry ≡ with_pair w a k m = sym (cond-false (k == 3) _ _ e3 ∙ cond-false (k == 5) _ _ e5 ∙ cond-true (k == 9) _ _ e) in
        by_memory p (weaker _ (n + 6) (omega arith)
        (go 0 a m 37 4 refl refl (less_step o x5 a m (at + 37) 0xfc (2 ^ 64 - 4) 0 (omega arith) refl z (piece m at 37 code (less 0xfc) (omega arith) refl refl f))
        (on 41 refl refl (zero_step o a m (at + 41) 0x1a (at + 69) (omega arith) (target 41 0x1a 69 26 refl (omega arith)) (piece m at 41 code (if_zero 0x1a) (omega arith) refl refl f))
        (tell_value 69 77 w.entry 0xdc (2 ^ 64 - 36) refl refl refl (omega arith) le refl (omega arith)
        (λ m' f'. piece m' at 69 code (tell w.entry) (omega arith) refl refl f') (λ m' f'. piece m' at 77 code (jump 0xdc) (omega arith) refl refl f') a n m ks l f can h ih))))
    by9 false e e5 e3 =
        let q9 = isnt 9 e in
        let p : m ≡ with_pair w a k m = sym (cond-false (k == 3) _ _ e3 ∙ cond-false (k == 5) _ _ e5 ∙ cond-false (k == 9) _ _ e) in
        by_memory p (weaker _ (n + 6) (omega arith)
        (go x9 a m 37 4 refl refl (less_step o x5 a m (at + 37) 0xfc (2 ^ 64 - 4) x9 (omega arith) refl refl (piece m at 37 code (less 0xfc) (omega arith) refl refl f))
        (go x9 a m 41 2 refl refl (passed_step (now o x9 a m (at + 41)) (at + 41) 0x1a (omega arith) refl (not_zero x9 (omega arith) (λ z. q9 (omega (arith, z, lk)))) (piece m at 41 code (if_zero 0x1a) (omega arith) refl refl f))
        (next_pair (end_by m) n x9 a m (omega arith) f (ih x9 m f h)))))

    -- 5, or another one
    by5 : (t : Bool) → (k == 5) ≡ t → (k == 3) ≡ false → Leads at (now o x3 a m (at + 31)) (end_by (with_pair w a k m)) (n + 8)
    unfolding stub_code
    by5 true e e3 =
        let q : k ≡ 5 = eqb-true k 5 e in
        let z : (x3 + (2 ^ 64 - 2)) % 2 ^ 64 ≡ 0 = omega (arith, q) in
        let p : put_number m (a + 8) 8 w.phnum ≡ with_pair w a k m = sym (cond-false (k == 3) _ _ e3 ∙ cond-true (k == 5) _ _ e) in
        by_memory p (weaker _ (n + 8) (omega arith)
        (go 0 a m 31 4 refl refl (less_step o x3 a m (at + 31) 0xfe (2 ^ 64 - 2) 0 (omega arith) refl z (piece m at 31 code (less 0xfe) (omega arith) refl refl f))
        (on 35 refl refl (zero_step o a m (at + 35) 0x16 (at + 59) (omega arith) (target 35 0x16 59 22 refl (omega arith)) (piece m at 35 code (if_zero 0x16) (omega arith) refl refl f))
        (tell_value 59 67 w.phnum 0xe6 (2 ^ 64 - 26) refl refl refl (omega arith) ln refl (omega arith)
        (λ m' f'. piece m' at 59 code (tell w.phnum) (omega arith) refl refl f') (λ m' f'. piece m' at 67 code (jump 0xe6) (omega arith) refl refl f') a n m ks l f can h ih))))
    by5 false e e3 =
        let q5 = isnt 5 e in
        weaker _ (n + 8) (omega arith)
        (go x5 a m 31 4 refl refl (less_step o x3 a m (at + 31) 0xfe (2 ^ 64 - 2) x5 (omega arith) refl refl (piece m at 31 code (less 0xfe) (omega arith) refl refl f))
        (go x5 a m 35 2 refl refl (passed_step (now o x5 a m (at + 35)) (at + 35) 0x16 (omega arith) refl (not_zero x5 (omega arith) (λ z. q5 (omega (arith, z, lk)))) (piece m at 35 code (if_zero 0x16) (omega arith) refl refl f))
        (by9 (k == 9) refl e e3)))

    -- 3, or another one
    by3 : (t : Bool) → (k == 3) ≡ t → Leads at (now o k a m (at + 25)) (end_by (with_pair w a k m)) (n + 10)
    unfolding stub_code
    by3 true e =
        let q : k ≡ 3 = eqb-true k 3 e in
        let z : (k + (2 ^ 64 - 3)) % 2 ^ 64 ≡ 0 = omega (arith, q) in
        let p : put_number m (a + 8) 8 w.phdr ≡ with_pair w a k m = sym (cond-true (k == 3) _ _ e) in
        by_memory p (weaker _ (n + 10) (omega arith)
        (go 0 a m 25 4 refl refl (less_step o k a m (at + 25) 0xfd (2 ^ 64 - 3) 0 (omega arith) refl z (piece m at 25 code (less 0xfd) (omega arith) refl refl f))
        (on 29 refl refl (zero_step o a m (at + 29) 0x12 (at + 49) (omega arith) (target 29 0x12 49 18 refl (omega arith)) (piece m at 29 code (if_zero 0x12) (omega arith) refl refl f))
        (tell_value 49 57 w.phdr 0xf0 (2 ^ 64 - 16) refl refl refl (omega arith) lp refl (omega arith)
        (λ m' f'. piece m' at 49 code (tell w.phdr) (omega arith) refl refl f') (λ m' f'. piece m' at 57 code (jump 0xf0) (omega arith) refl refl f') a n m ks l f can h ih))))
    by3 false e =
        let q3 = isnt 3 e in
        weaker _ (n + 10) (omega arith)
        (go x3 a m 25 4 refl refl (less_step o k a m (at + 25) 0xfd (2 ^ 64 - 3) x3 (omega arith) refl refl (piece m at 25 code (less 0xfd) (omega arith) refl refl f))
        (go x3 a m 29 2 refl refl (passed_step (now o x3 a m (at + 29)) (at + 29) 0x12 (omega arith) refl (not_zero x3 (omega arith) (λ z. q3 (omega (arith, z, lk)))) (piece m at 29 code (if_zero 0x12) (omega arith) refl refl f))
        (by5 (k == 5) refl e)))

  -- the pairs
  pairs_run : (ks : List ℕ) (c a : ℕ) (m : Bytes) → a + 16 * length ks + 16 < 2 ^ 64 → IsFixed m at code → Pairs m a ks
      → Leads at (now o c a m (at + 20)) (now o 0 0 (told w a ks m) w.entry) (4 + 12 * length ks)
  unfolding stub_code
  pairs_run [] c a m l f h =
      go 0 a m 20 3 refl refl (word_step o c a m (at + 20) 0 (omega arith) (omega arith) h.0 h.1 (omega arith) (piece m at 20 code read_word (omega arith) refl refl f))
      (on 23 refl refl (zero_step o a m (at + 23) 0x36 (at + 79) (omega arith) (target 23 0x36 79 54 refl (omega arith)) (piece m at 23 code (if_zero 0x36) (omega arith) refl refl f)) (leaving 0 a m f))
  pairs_run (k ∷ ks) c a m l f h =
      let hw = h.0 in
      weaker _ (4 + 12 * length (k ∷ ks)) (omega arith)
      (go k a m 20 3 refl refl (word_step o c a m (at + 20) k (omega arith) (omega arith) hw.0 hw.1 h.2 (piece m at 20 code read_word (omega arith) refl refl f))
      (go k a m 23 2 refl refl (passed_step (now o k a m (at + 23)) (at + 23) 0x36 (omega arith) refl (not_empty k h.1 h.2) (piece m at 23 code (if_zero 0x36) (omega arith) refl refl f))
      (by3 k a (4 + 12 * length ks) m ks (omega arith) h.2 f h.3 h.4 (λ c' m' f' h'. pairs_run ks c' (a + 16) m' (omega arith) f' h') (k == 3) refl)))

  -- the variables, and then the pairs
  variables_run : (vs ks : List ℕ) (c a : ℕ) (m : Bytes) → a + 8 * length vs + 8 + 16 * length ks + 16 < 2 ^ 64 → IsFixed m at code → Variables m a vs
      → Pairs m (a + 8 * length vs + 8) ks
      → Leads at (now o c a m (at + 9)) (now o 0 0 (told w (a + 8 * length vs + 8) ks m) w.entry) (7 + 4 * length vs + 12 * length ks)
  unfolding stub_code
  variables_run [] ks c a m l f h p =
      let e : a + 8 * 0 + 8 ≡ a + 8 = omega arith in
      let r = subst (λ (z : ℕ). Leads at (now o 0 (a + 8) m (at + 20)) (now o 0 0 (told w z ks m) w.entry) (4 + 12 * length ks)) (sym e)
      (pairs_run ks 0 (a + 8) m (omega arith) f (subst (λ (z : ℕ). Pairs m z ks) e p)) in
      weaker _ (7 + 4 * 0 + 12 * length ks) (omega arith)
      (go 0 a m 9 3 refl refl (word_step o c a m (at + 9) 0 (omega arith) (omega arith) h.0 h.1 (omega arith) (piece m at 9 code read_word (omega arith) refl refl f))
      (go 0 (a + 8) m 12 4 refl refl (on_step o 0 a m (at + 12) 8 (a + 8) (omega arith) (omega arith) refl refl (piece m at 12 code (go_on 8) (omega arith) refl refl f))
      (on 16 refl refl (zero_step o (a + 8) m (at + 16) 0x02 (at + 20) (omega arith) (target 16 0x02 20 2 refl (omega arith)) (piece m at 16 code (if_zero 0x02) (omega arith) refl refl f)) r)))
  variables_run (v ∷ vs) ks c a m l f h p =
      let hw = h.0 in
      let e : a + 8 + 8 * length vs + 8 ≡ a + 8 * length (v ∷ vs) + 8 = omega arith in
      let r = subst (λ (z : ℕ). Leads at (now o v (a + 8) m (at + 9)) (now o 0 0 (told w z ks m) w.entry) (7 + 4 * length vs + 12 * length ks)) e
      (variables_run vs ks v (a + 8) m (omega arith) f h.3 (subst (λ (z : ℕ). Pairs m z ks) (sym e) p)) in
      weaker _ (7 + 4 * length (v ∷ vs) + 12 * length ks) (omega arith)
      (go v a m 9 3 refl refl (word_step o c a m (at + 9) v (omega arith) (omega arith) hw.0 hw.1 h.2 (piece m at 9 code read_word (omega arith) refl refl f))
      (go v (a + 8) m 12 4 refl refl (on_step o v a m (at + 12) 8 (a + 8) (omega arith) (omega arith) refl refl (piece m at 12 code (go_on 8) (omega arith) refl refl f))
      (go v (a + 8) m 16 2 refl refl (passed_step (now o v (a + 8) m (at + 16)) (at + 16) 0x02 (omega arith) refl (not_empty v h.1 h.2) (piece m at 16 code (if_zero 0x02) (omega arith) refl refl f))
      (on 18 refl refl (back_step (now o v (a + 8) m (at + 18)) (at + 18) 0xf5 (at + 9) (omega arith) refl (target 18 0xf5 9 (2 ^ 64 - 11) refl (omega arith)) (piece m at 18 code (jump 0xf5) (omega arith) refl refl f)) r))))

-- a core with 0 in rcx and rdi
pub record Named (s : Machine) : Type 0 where
  pub others : Others
  pub core : core_with others 0 0 ≡ s.core
  pub sp : others.sp ≡ reg s.core 4
  pub world : others.world ≡ s.world

named : (s : Machine) → length s.core.regs ≡ 16 → reg s.core 1 ≡ 0 → reg s.core 7 ≡ 0 → Named s
named s e c d = by_list s.core.regs e refl
  where
    by_list : (regs : List ℕ) → length regs ≡ 16 → regs ≡ s.core.regs → Named s
    by_list [] k q = absurd cc
    by_list (r0 ∷ []) k q = absurd cc
    by_list (r0 ∷ r1 ∷ []) k q = absurd cc
    by_list (r0 ∷ r1 ∷ r2 ∷ []) k q = absurd cc
    by_list (r0 ∷ r1 ∷ r2 ∷ r3 ∷ []) k q = absurd cc
    by_list (r0 ∷ r1 ∷ r2 ∷ r3 ∷ r4 ∷ []) k q = absurd cc
    by_list (r0 ∷ r1 ∷ r2 ∷ r3 ∷ r4 ∷ r5 ∷ []) k q = absurd cc
    by_list (r0 ∷ r1 ∷ r2 ∷ r3 ∷ r4 ∷ r5 ∷ r6 ∷ []) k q = absurd cc
    by_list (r0 ∷ r1 ∷ r2 ∷ r3 ∷ r4 ∷ r5 ∷ r6 ∷ r7 ∷ more) k q =
        let q1 : r1 ≡ 0 = ap (λ z. slice_index z 1) q ∙ c in
        let q7 : r7 ≡ 0 = ap (λ z. slice_index z 7) q ∙ d in
        let z : r0 ∷ 0 ∷ r2 ∷ r3 ∷ r4 ∷ r5 ∷ r6 ∷ 0 ∷ more ≡ r0 ∷ r1 ∷ r2 ∷ r3 ∷ r4 ∷ r5 ∷ r6 ∷ r7 ∷ more =
        λ i. r0 ∷ sym q1 i ∷ r2 ∷ r3 ∷ r4 ∷ r5 ∷ r6 ∷ sym q7 i ∷ more in
        let all = z ∙ q in
        record {
          others = record { r0 = r0; r2 = r2; r3 = r3; sp = r4; r5 = r5; r6 = r6; more = more; flags = s.core.flags; fs = s.core.fs; gs = s.core.gs; world = s.world };
          core = λ i. record { regs = all i; flags = s.core.flags; fs = s.core.fs; gs = s.core.gs };
          sp = ap (λ z. slice_index z 4) q;
          world = refl;
        }

-- over named states
told_from : (w : OwnTable) (o : Others) (at : ℕ) (m : Bytes) (n : ℕ) (vs ks : List ℕ) → at + 89 < 2 ^ 31 → w.phdr < 2 ^ 31 → w.phnum < 2 ^ 31 → w.entry < 2 ^ 31
    → IsFixed m at (stub_code at w.phdr w.phnum w.entry) → IsVector m o.sp n vs ks
    → Leads at (now o 0 0 m at) (now o 0 0 (told w (pairs_at o.sp n vs) ks m) w.entry) (9 + 4 * length vs + 12 * length ks)
unfolding stub_code
told_from w o at m n vs ks low lp ln le f h =
    let a = variables_at o.sp n in
    let fits = h.fits in
    let code = stub_code at w.phdr w.phnum w.entry in
    let zero_place : at ≡ at + 0 = omega arith in
    let first = count_step o 0 0 m at n (omega arith) (omega (arith, fits)) h.count.0 h.count.1 (omega (arith, fits)) (fixed_front m at read_count (drop 4 code) f) in
    let second = variables_step o n 0 m (at + 4) a (omega arith) (omega (arith, fits)) refl (piece m at 4 code to_variables (omega arith) refl refl f) in
    let r = variables_run w o at low lp ln le vs ks n a m (omega (arith, fits)) f h.variables h.pairs in
    weaker _ (9 + 4 * length vs + 12 * length ks) (omega arith) (on 0 zero_place refl first (go w o at low lp ln le n a m 4 5 refl refl second r))

-- the stub tells the program its own table, and goes to its entry
pub stub_tells : StubTells
stub_tells w s n vs ks h =
    let d = named s h.sized.core.count h.rcx h.rdi in
    let o = d.others in
    let v = subst (λ (z : ℕ). IsVector s.mem z n vs ks) (sym d.sp) h.vector in
    let l = told_from w o s.rip s.mem n vs ks h.low h.phdr h.phnum h.entry h.stub v in
    let end : Machine = record { core = s.core; rip = w.entry; mem = told w (pairs_at (reg s.core 4) n vs) ks s.mem; world = s.world } in
    let en : now o 0 0 (told w (pairs_at o.sp n vs) ks s.mem) w.entry ≡ end =
    λ i. record { core = d.core i; rip = w.entry; mem = told w (pairs_at (d.sp i) n vs) ks s.mem; world = d.world i } in
    let st : now o 0 0 s.mem s.rip ≡ s = λ i. record { core = d.core i; rip = s.rip; mem = s.mem; world = d.world i } in
    let most = 9 + 4 * length vs + 12 * length ks in
    let r = subst (λ (z : Machine). Leads s.rip z end most) st (subst (λ (z : Machine). Leads s.rip (now o 0 0 s.mem s.rip) z most) en l) in
    (r.states, r.path, r.few, r.there)
