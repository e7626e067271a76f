-- What names hold after one of them was given bytes.
use Rattle.std.proofs.Common.{◌≡◌, ℕ, Bool, true, false, cond, List, Option, Some, refl, sym, ap, ◌∙◌, Decides}
use Rattle.std.proofs.Math.Path.{fun_ext}
use Rattle.std.proofs.lemmas.Bool.{cond-true, cond-false}
use Rattle.std.proofs.lemmas.Slice.Eq.{bytes_eq-Decides}
use Rattle.std.specs.Str.{bytes_eq}
use Rattle.pun_base.specs.Shown.{Files, with_file}
use Rattle.pun_base.specs.Desk.{KeepsOthers}

-- a name equals itself
pub bytes_eq-same : (name : List ℕ) → bytes_eq name name ≡ true
bytes_eq-same name = (bytes_eq-Decides name name).1 refl

-- the name that was given bytes holds them
pub with_file-same : (files : Files) (name bytes : List ℕ) → with_file files name bytes name ≡ Some bytes
with_file-same files name bytes = cond-true (bytes_eq name name) _ _ (bytes_eq-same name)

twice : (c : Bool) (a b : List ℕ) (z : Option (List ℕ)) → cond c (Some b) (cond c (Some a) z) ≡ cond c (Some b) z
twice true a b z = refl
twice false a b z = refl

-- what a name was given before doesn't count
pub with_file-twice : (files : Files) (name a b : List ℕ)
    → with_file (with_file files name a) name b ≡ with_file files name b
with_file-twice files name a b = fun_ext (λ other. twice (bytes_eq name other) a b (files other))

kept : (c : Bool) (other name : List ℕ) (files : Files) (bytes : List ℕ)
    → Decides c (name ≡ other) → files name ≡ Some bytes → cond c (Some bytes) (files other) ≡ files other
kept true other name files bytes d e = sym e ∙ ap files (d.0 refl)
kept false other name files bytes d e = refl

-- giving a name what it holds changes nothing
pub with_file-kept : (files : Files) (name bytes : List ℕ) → files name ≡ Some bytes → with_file files name bytes ≡ files
with_file-kept files name bytes e = fun_ext (λ other. kept (bytes_eq name other) other name files bytes (bytes_eq-Decides name other) e)

-- so it does in files that are so changed
pub held_after : (old new : Files) (name bytes : List ℕ) → new ≡ with_file old name bytes → new name ≡ Some bytes
held_after old new name bytes e = ap (λ (files : Files). files name) e ∙ with_file-same old name bytes

-- what is given to one name isn't given to another
pub others_after : (old new : Files) (name bytes : List ℕ) → new ≡ with_file old name bytes → KeepsOthers name old new
others_after old new name bytes e =
    λ other d. ap (λ (files : Files). files other) e ∙ cond-false (bytes_eq name other) (Some bytes) (old other) d

-- what keeps each other name's bytes twice keeps them
pub others_then : (name : List ℕ) (m m1 m2 : Files) → KeepsOthers name m m1 → KeepsOthers name m1 m2 → KeepsOthers name m m2
others_then name m m1 m2 f g = λ other d. g other d ∙ f other d

-- where nothing changed, each other name holds what it held
pub others_kept : (name : List ℕ) (m m1 : Files) → m1 ≡ m → KeepsOthers name m m1
others_kept name m m1 e = λ other d. ap (λ (files : Files). files other) e
