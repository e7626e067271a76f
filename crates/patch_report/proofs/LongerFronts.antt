-- What is mapped of the front of a list grows by one element.
use Rattle.std.proofs.Common.{◌≡◌, ℕ, ◌+◌, List, [], ◌∷◌, ◌++◌, ◌<◌, map, length, get_or, take, sym, ap, ◌∙◌}
use Rattle.std.proofs.lemmas.List.{map-append, take_more}

-- one more on both sides
pub mapped_more : {X Y Z : Type 0} (f : X → Z) (g : Y → Z) (xs more : List X) (x : X) (ys : List Y) (i : ℕ) (d : Y) → i < length ys
    → more ≡ xs ++ x ∷ [] → map f xs ≡ map g (take i ys) → f x ≡ g (get_or ys i d) → map f more ≡ map g (take (i + 1) ys)
mapped_more f g xs more x ys i d l e h k =
    ap (map f) e ∙ map-append f xs (x ∷ []) ∙ (λ j. h j ++ k j ∷ [])
    ∙ sym (ap (map g) (take_more ys i d l) ∙ map-append g (take i ys) (get_or ys i d ∷ []))
