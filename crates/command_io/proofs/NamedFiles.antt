-- What a name holds once it was given bytes.
use Rattle.std.proofs.Common.{◌≡◌, ℕ, Bool, true, false, if◌then◌else◌, List, Option, Some, None, Ok, Decides, refl, ap, subst}
use Rattle.std.proofs.lemmas.Slice.Eq.{bytes_eq-Decides}
use Rattle.std.specs.Str.{bytes_eq}
use Rattle.pun_base.specs.Shown.{Files, with_file, Told}
use Rattle.pun_base.specs.Desk.{Filled}

elsewhere : (b : Bool) (name other : List ℕ) (new old : Option (List ℕ))
    → Decides b (name ≡ other) → (name ≡ other → ⊥) → (if b then new else old) ≡ old
elsewhere true name other new old d n = absurd (n (d.0 refl))
elsewhere false name other new old d n = refl

-- another name holds what it held
pub with_file-other : (files : Files) (name other bytes : List ℕ) → (name ≡ other → ⊥) → with_file files name bytes other ≡ files other
with_file-other files name other bytes n =
    elsewhere (bytes_eq name other) name other (Some bytes) (files other) (bytes_eq-Decides name other) n

told_ok : (f : Files → Files) (x : Files) (o : Option Files) → Told (λ old new. new ≡ f old) (Some x) o → o ≡ Some (f x)
told_ok f x None t = absurd t
told_ok f x (Some y) t = ap Some t

-- one file was written
pub one_held : (files : Files) (s t : Option Files) (name bytes : List ℕ) → s ≡ Some files
    → Told (Filled name bytes (Ok tt)) s t → t ≡ Some (with_file files name bytes)
one_held files s t name bytes e h =
    told_ok (λ old. with_file old name bytes) files t
    (subst (λ (o : Option Files). Told (λ old new. new ≡ with_file old name bytes) o t) e h)
