-- Bytes that stand, in parts and in another map.
use Rattle.std.proofs.Common.{◌≡◌, ℕ, suc, ◌^◌, ◌<◌, List, [], ◌∷◌, ◌++◌, length, sym, ap, ◌∙◌, subst, arith}
use Rattle.pun_base.specs.Memory.{Bytes}
use Rattle.cpu_state.specs.Bytes.{advanced, allows, byte_of, Stands}
use Rattle.cpu_state.specs.Laws.{IsStandingInParts, IsStandingAlike}

-- what stands, stands up to any place
pub front : (m : Bytes) (a : ℕ) (xs ys : List ℕ) → Stands m a (xs ++ ys) → Stands m a xs
front m a [] ys h = tt
front m a (x ∷ xs) ys h = (h.0, h.1, front m (advanced a 1) xs ys h.2)

-- one address on, and n more
on : (a n : ℕ) → advanced (advanced a 1) n ≡ advanced a (suc n)
on a n = omega arith

back : (m : Bytes) (a : ℕ) (xs ys : List ℕ) → a < 2 ^ 64 → Stands m a (xs ++ ys) → Stands m (advanced a (length xs)) ys
back m a [] ys l h = let e : a ≡ advanced a 0 = omega arith in subst (λ (z : ℕ). Stands m z ys) e h
back m a (x ∷ xs) ys l h = subst (λ (z : ℕ). Stands m z ys) (on a (length xs)) (back m (advanced a 1) xs ys (omega arith) h.2)

together : (m : Bytes) (a : ℕ) (xs ys : List ℕ) → a < 2 ^ 64 → Stands m a xs → Stands m (advanced a (length xs)) ys → Stands m a (xs ++ ys)
together m a [] ys l h k = let e : advanced a 0 ≡ a = omega arith in subst (λ (z : ℕ). Stands m z ys) e k
together m a (x ∷ xs) ys l h k =
    (h.0, h.1, together m (advanced a 1) xs ys (omega arith) h.2 (subst (λ (z : ℕ). Stands m z ys) (sym (on a (length xs))) k))

-- bytes stand exactly where their front does, and behind it the rest
pub in_parts : IsStandingInParts
in_parts m a xs ys l = (λ h. (front m a xs ys h, back m a xs ys l h), λ h. together m a xs ys l h.0 h.1)

-- bytes that stand do so in each map that agrees where they stand
pub alike : IsStandingAlike
alike m m' a [] l e h = tt
alike m m' a (b ∷ bs) l e h =
    let here : m' a ≡ m a = let z : advanced a 0 ≡ a = omega arith in ap m' (sym z) ∙ e 0 (omega arith) ∙ ap m z in
    let rest = alike m m' (advanced a 1) bs (omega arith) (λ q k. ap m' (on a q) ∙ e (suc q) (omega arith) ∙ ap m (sym (on a q))) h.2 in
    (ap (allows 1) here ∙ h.0, ap byte_of here ∙ h.1, rest)
