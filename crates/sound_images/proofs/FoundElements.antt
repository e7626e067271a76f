-- What is found in a list.
use Rattle.std.proofs.Common.{◌≡◌, Bool, true, false, cond, List, [], ◌∷◌, Option, Some, is_some, refl}
use Rattle.std.specs.Prelude.{◌||◌}
use Rattle.std.specs.List.{list_any, find}

-- something is found in a list where the first passes or something is found in the rest
found_by : {X : Type 0} (b : Bool) (x : X) (r : Bool) (o : Option X) → r ≡ is_some o → (b || r) ≡ is_some (cond b (Some x) o)
found_by true x r o e = refl
found_by false x r o e = e

-- something passes a test exactly where a search finds something
pub any_found : {X : Type 0} (p : X → Bool) (xs : List X) → list_any p xs ≡ is_some (find p xs)
any_found p [] = refl
any_found p (x ∷ xs) = found_by (p x) x (list_any p xs) (find p xs) (any_found p xs)
