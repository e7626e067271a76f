-- What is told through one call and then another.
use Rattle.std.proofs.Common.{ℕ, ◌≤◌, Option, Some, None, inl, inr, arith}
use Rattle.pun_base.specs.Shown.{Told, Rose}

-- what is told through two calls has changed as both do together
pub told_then : {X : Type 0} → (P Q R : X → X → Type 0) (s t u : Option X)
    → ((x y z : X) → P x y → Q y z → R x z) → Told P s t → Told Q t u → Told R s u
told_then P Q R None t u f p q = tt
told_then P Q R (Some x) None u f p q = absurd p
told_then P Q R (Some x) (Some y) None f p q = absurd q
told_then P Q R (Some x) (Some y) (Some z) f p q = f x y z p q

-- what is told and has changed in one way has changed in each way that this one implies
pub told_map : {X : Type 0} → (P Q : X → X → Type 0) (s t : Option X)
    → ((x y : X) → P x y → Q x y) → Told P s t → Told Q s t
told_map P Q None t f p = tt
told_map P Q (Some x) None f p = absurd p
told_map P Q (Some x) (Some y) f p = f x y p

-- a count that rose in a later call rose in both together
pub rose_later : (a b c : ℕ) → a ≤ b → Rose b c → Rose a c
rose_later a b c l (inl r) = inl (omega arith)
rose_later a b c l (inr e) = inr e
