-- What a read finds and a write leaves where a set of addresses is avoided.
use Rattle.std.proofs.Common.{◌≡◌, ℕ, zero, suc, ◌+◌, ◌*◌, Bool, true, false, not, cond, eqb, List, [], ◌∷◌, length, Option, Some, None, refl, sym, ap, ap₂, ◌∙◌, true≢false, eqb-true}
use Rattle.std.proofs.Math.Path.{fun_ext}
use Rattle.std.proofs.lemmas.Bool.{and_parts, not-true, cond-false}
use Rattle.pun_base.specs.Memory.{Cell, Bytes, without}
use Rattle.cpu_state.specs.Bytes.{advanced, allows, byte_of, with_byte, lacking, number_at, put, put_list, code_at, avoids, within}

module _ (set : ℕ → Bool) where
  -- memories that are equal outside a set hold the same at each address outside it
  pub outside_at : (m m' : Bytes) (a : ℕ) → without set m ≡ without set m' → set a ≡ false → m a ≡ m' a
  outside_at m m' a e h = sym (cond-false (set a) None (m a) h) ∙ ap (λ (f : Bytes). f a) e ∙ cond-false (set a) None (m' a) h

  -- of n addresses outside the set, the first that lacks a permission is the same in both memories
  pub lacking_frame : (m m' : Bytes) (p a n : ℕ) → without set m ≡ without set m' → avoids set a n ≡ true → lacking p m a n ≡ lacking p m' a n
  lacking_frame m m' p a zero e h = refl
  lacking_frame m m' p a (suc n) e h =
      let q = and_parts (not (set a)) (avoids set (advanced a 1) n) h in
      ap₂ (λ c r. cond (allows p c) r (Some a)) (outside_at m m' a e (not-true (set a) q.0)) (lacking_frame m m' p (advanced a 1) n e q.1)

  -- n bytes outside the set are the same number in both memories
  pub number_frame : (m m' : Bytes) (a n : ℕ) → without set m ≡ without set m' → avoids set a n ≡ true → number_at m a n ≡ number_at m' a n
  number_frame m m' a zero e h = refl
  number_frame m m' a (suc n) e h =
      let q = and_parts (not (set a)) (avoids set (advanced a 1) n) h in
      ap₂ (λ c r. byte_of c + 256 * r) (outside_at m m' a e (not-true (set a) q.0)) (number_frame m m' (advanced a 1) n e q.1)

  -- the executable bytes that n addresses outside the set begin with are the same in both memories
  pub code_frame : (m m' : Bytes) (a n : ℕ) → without set m ≡ without set m' → avoids set a n ≡ true → code_at m a n ≡ code_at m' a n
  code_frame m m' a zero e h = refl
  code_frame m m' a (suc n) e h =
      let q = and_parts (not (set a)) (avoids set (advanced a 1) n) h in
      ap₂ (λ c r. cond (allows 1 c) (byte_of c ∷ r) []) (outside_at m m' a e (not-true (set a) q.0)) (code_frame m m' (advanced a 1) n e q.1)

  -- a write, also in the set
  put_frame_at : (h : Bool) (c c' : Option Cell) (t : Bool) (b : ℕ) → cond h None c ≡ cond h None c' → cond h None (cond t (with_byte b c) c) ≡ cond h None (cond t (with_byte b c') c')
  put_frame_at true c c' t b e = refl
  put_frame_at false c c' t b e = ap (λ z. cond t (with_byte b z) z) e

  -- memories that are equal outside the set are so after one byte is written into both, also in the set
  pub put_frame : (m m' : Bytes) (a b : ℕ) → without set m ≡ without set m' → without set (put m a b) ≡ without set (put m' a b)
  put_frame m m' a b e = fun_ext (λ x. put_frame_at (set x) (m x) (m' x) (eqb x a) b (ap (λ (f : Bytes). f x) e))

  -- memories that are equal outside the set are so after a list of bytes is written into both
  pub put_list_frame : (m m' : Bytes) (a : ℕ) (bs : List ℕ) → without set m ≡ without set m' → without set (put_list m a bs) ≡ without set (put_list m' a bs)
  put_list_frame m m' a [] e = e
  put_list_frame m m' a (b ∷ bs) e = put_list_frame (put m a b) (put m' a b) (advanced a 1) bs (put_frame m m' a b e)

  -- a write outside the set leaves the set alone
  pub put_keeps : (m : Bytes) (a b x : ℕ) → set a ≡ false → set x ≡ true → put m a b x ≡ m x
  put_keeps m a b x h k = cond-false (eqb x a) (with_byte b (m x)) (m x) (apart (eqb x a) refl)
    where
      apart : (t : Bool) → eqb x a ≡ t → eqb x a ≡ false
      apart true e = absurd (true≢false (sym k ∙ ap set (eqb-true x a e) ∙ h))
      apart false e = e

  -- a list of bytes that is written outside the set leaves each byte in it
  pub put_list_keeps : (m : Bytes) (a : ℕ) (bs : List ℕ) (x : ℕ) → avoids set a (length bs) ≡ true → set x ≡ true → put_list m a bs x ≡ m x
  put_list_keeps m a [] x h k = refl
  put_list_keeps m a (b ∷ bs) x h k =
      let q = and_parts (not (set a)) (avoids set (advanced a 1) (length bs)) h in
      put_list_keeps (put m a b) (advanced a 1) bs x q.1 k ∙ put_keeps m a b x (not-true (set a) q.0) k

  -- a write inside the set isn't seen
  put_hidden_at : (h t : Bool) (c : Option Cell) (b : ℕ) → (t ≡ true → h ≡ true) → cond h None (cond t (with_byte b c) c) ≡ cond h None c
  put_hidden_at true t c b f = refl
  put_hidden_at false false c b f = refl
  put_hidden_at false true c b f = absurd (true≢false (sym (f refl)))

  -- one byte written in the set changes nothing outside it
  pub put_hidden : (m : Bytes) (a b : ℕ) → set a ≡ true → without set (put m a b) ≡ without set m
  put_hidden m a b h = fun_ext (λ x. put_hidden_at (set x) (eqb x a) (m x) b (λ e. ap set (eqb-true x a e) ∙ h))

  -- a list of bytes that is written in the set changes nothing outside it
  pub put_list_hidden : (m : Bytes) (a : ℕ) (bs : List ℕ) → within set a (length bs) ≡ true → without set (put_list m a bs) ≡ without set m
  put_list_hidden m a [] h = refl
  put_list_hidden m a (b ∷ bs) h =
      let q = and_parts (set a) (within set (advanced a 1) (length bs)) h in
      put_list_hidden (put m a b) (advanced a 1) bs q.1 ∙ put_hidden m a b q.0

  -- a read inside the set isn't changed by a write outside it
  pub number_elsewhere : (m : Bytes) (a b n : ℕ) (bs : List ℕ) → avoids set a (length bs) ≡ true → within set b n ≡ true → number_at (put_list m a bs) b n ≡ number_at m b n
  number_elsewhere m a b zero bs h k = refl
  number_elsewhere m a b (suc n) bs h k =
      let q = and_parts (set b) (within set (advanced b 1) n) k in
      ap₂ (λ c r. byte_of c + 256 * r) (put_list_keeps m a bs b h q.0) (number_elsewhere m a (advanced b 1) n bs h q.1)
