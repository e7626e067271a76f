-- Of two runs by the same replies one is the beginning of the other.
use Rattle.std.proofs.Common.{◌≡◌, ◌⊎◌, inl, inr, ℕ, List, [], ◌∷◌, ◌++◌, drop, get_or, Option, Some, None, refl, sym, ap, ◌∙◌, subst}
use Rattle.insn_form.specs.Machine.{Machine}
use Rattle.loader_form.specs.Kernel.{Reply, StepWith, IsRunWith, with_reply, replies_in, IsFrontOf, RunsAreOne}
use Rattle.loader_form.proofs.StubPaths.{reply_append}
use Rattle.loader_form.proofs.EndsByReplies.{one_step_with, calls_replied}

-- two moves with the same replies from there on are one
one_move : (file : List ℕ) (number : Option ℕ) (s : Machine) (o o' : Option Reply) (k k' : Option ℕ) (t t' : Machine) (cs bs : List Reply)
    → StepWith file number s o k t → StepWith file number s o' k' t' → with_reply o cs ≡ with_reply o' bs → (o ≡ o') × (k ≡ k') × (t ≡ t') × (cs ≡ bs)
one_move file number s None None k k' t t' cs bs p q e = let w = one_step_with file number s None k k' t t' p q in (refl, w.0, w.1, e)
one_move file number s None (Some r) k k' t t' cs bs p q e = absurd (calls_replied file number s r k k' t t' p q)
one_move file number s (Some r) None k k' t t' cs bs p q e = absurd (calls_replied file number s r k' k t' t q p)
one_move file number s (Some r) (Some r') k k' t t' cs bs p q e =
    let same : r ≡ r' = ap (λ (z : List Reply). get_or z 0 r) e in
    let q' = subst (λ (z : Reply). StepWith file number s (Some z) k' t') (sym same) q in
    let w = one_step_with file number s (Some r) k k' t t' p q' in
    (ap Some same, w.0, w.1, ap (λ (z : List Reply). drop 1 z) e)

-- of two runs by the same replies one is the beginning of the other
pub runs_are_one : RunsAreOne
runs_are_one file number s [] ys rest rest' p q e = inl (ys, refl)
runs_are_one file number s (x ∷ xs) [] rest rest' p q e = inr (x ∷ xs, refl)
runs_are_one file number s (x ∷ xs) (y ∷ ys) rest rest' p q e =
    let e' = reply_append x.reply (replies_in xs) rest ∙ e ∙ sym (reply_append y.reply (replies_in ys) rest') in
    let w = one_move file number s x.reply y.reply x.number y.number x.state y.state (replies_in xs ++ rest) (replies_in ys ++ rest') p.0 q.0 e' in
    let there = subst (λ (z : Option ℕ). IsRunWith file z x.state ys) (sym w.1) (subst (λ (z : Machine). IsRunWith file y.number z ys) (sym w.2) q.1) in
    let same : x ≡ y = λ i. record { reply = w.0 i; number = w.1 i; state = w.2 i } in
    further same (runs_are_one file x.number x.state xs ys rest rest' p.1 there w.3)
  where
    further : x ≡ y → IsFrontOf xs ys ⊎ IsFrontOf ys xs → IsFrontOf (x ∷ xs) (y ∷ ys) ⊎ IsFrontOf (y ∷ ys) (x ∷ xs)
    further m (inl h) = inl (h.0, (λ i. sym m i ∷ h.1 i))
    further m (inr h) = inr (h.0, (λ i. m i ∷ h.1 i))
