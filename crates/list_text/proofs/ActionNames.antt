-- Names of registers and operators.
use Rattle.std.proofs.Common.{◌≡◌, ℕ, ◌+◌, ◌<◌, Bool, true, false, cond, List, [], ◌∷◌, length, get_or, drop, Some, refl, arith, drop-cons, add-one}
use Rattle.std.specs.Str.{bytes_eq}
use Rattle.std.proofs.lemmas.Bool.Decides.{nat_tests}
use Rattle.pun_base.specs.declared.action.CompareOp.{CompareOp}
use Rattle.pun_base.specs.declared.action.CompareOp.TheVariants.{Eq, Ne, Lt, Le, Gt, Ge}
use Rattle.list_text.specs.ActionWords.{op_name, register_name}
use Rattle.list_text.specs.Words.{op_of, place_of, register_of}
use Rattle.list_text.proofs.WordParts.{IsWord}

-- A name that is not the one at a place is looked for behind it.
pub place_passed : (names : List (List ℕ)) (n : ℕ) (name : List ℕ) → n < length names → bytes_eq (get_or names n []) name ≡ false
    → place_of n (drop n names) name ≡ place_of (n + 1) (drop (n + 1) names) name
place_passed names n name h e = rw (drop-cons names n [] h, e, add-one) refl

-- The place of a name is one of the list.
pub place_within : (n : ℕ) (names : List (List ℕ)) (name : List ℕ) (m : ℕ) → place_of n names name ≡ Some m → m < n + length names
place_within n [] name m e = absurd cc
place_within n (x ∷ xs) name m e = by (bytes_eq x name) e (λ k. place_within (n + 1) xs name m k)
  where
    by : (b : Bool) → cond b (Some n) (place_of (n + 1) xs name) ≡ Some m → (place_of (n + 1) xs name ≡ Some m → m < n + 1 + length xs)
        → m < n + length (x ∷ xs)
    by true f go = let p : n ≡ m = cc in omega arith
    by false f go = let p : m < n + 1 + length xs = go f in omega arith

-- The name of a register is read as its code.
pub register_read : (r : ℕ) → r < 16 → register_of (register_name r) ≡ Some r
unfolding register_of
register_read r h = grind (arith, nat_tests)

-- It has no blank.
pub register_word : (r : ℕ) → r < 16 → IsWord (register_name r)
register_word r h = grind (arith, nat_tests)

-- The name of an operator is read as that operator.
pub op_read : (o : CompareOp) → op_of (op_name o) ≡ Some o
unfolding op_of
op_read Eq = refl
op_read o = refl

-- It has no blank.
pub op_word : (o : CompareOp) → IsWord (op_name o)
op_word Eq = (omega arith, (omega arith, tt))
op_word Ne = (omega arith, (omega arith, tt))
op_word Lt = (omega arith, tt)
op_word Le = (omega arith, (omega arith, tt))
op_word Gt = (omega arith, tt)
op_word Ge = (omega arith, (omega arith, tt))
