-- What appends parts one after the other appends them joined.
use Rattle.std.proofs.Common.{◌≡◌, ℕ, List, [], ◌++◌, sym, ap, ◌∙◌, append_assoc}
use Rattle.std.proofs.lemmas.List.{append-nil}

-- What appends a part and then another one appends both.
pub grown : (a b c x y : List ℕ) → b ≡ a ++ x → c ≡ b ++ y → c ≡ a ++ (x ++ y)
grown a b c x y e f = f ∙ ap (λ (z : List ℕ). z ++ y) e ∙ append_assoc a x y

-- What appends a part appends it and nothing more.
pub grown_last : (b c y : List ℕ) → c ≡ b ++ y → c ≡ b ++ (y ++ [])
grown_last b c y e = e ∙ ap (λ (z : List ℕ). b ++ z) (sym (append-nil y))
