-- Rule 3 for the trampolines of a report.
use Rattle.std.proofs.Common.{◌≡◌, ◌⊎◌, inl, inr, ◌↔◌, ℕ, zero, suc, Bool, false, IsTrue, List, [], ◌∷◌, map, refl, sym, subst, arith}
use Rattle.std.specs.Prelude.{not, Contains}
use Rattle.std.proofs.lemmas.Bool.{false_from_ne_true, not-true, not_from_false}
use Rattle.elf_read.proofs.PlainFronts.{is_false}
use Rattle.image_check.specs.declared.flat.ReportLine.{ReportLine}
use Rattle.image_check.specs.Parts.{line_of}
use Rattle.image_check.specs.Jumps.{LineFails, AnyLineFails}
use Rattle.sound_images.specs.Reports.{Line}
use Rattle.sound_images.specs.Rules.{Case}

-- the last reason to fail, where the others don't hold
pub last_reason : (P Q L : Type 0) (E : Type 0) (b : Bool) → E → (P → ⊥) → (Q → ⊥) → IsTrue b ↔ L → IsTrue (not b) ↔ (E × (P ⊎ Q ⊎ (L → ⊥)))
last_reason P Q L E b e p q h = (
  λ t. (e, inr (inr (λ l. is_false b (not-true b t) (h.1 l)))),
  λ f. elim f.1 [
    | inl k ↦ absurd (p k)
    | inr k ↦ elim k [ inl m ↦ absurd (q m) | inr m ↦ not_from_false b (false_from_ne_true b (λ t. m (h.0 t))) ]
  ],
)

-- where some line of a list fails, it is one that the list contains
pub to_contained : (c : Case) (x : ℕ) (ls : List ReportLine) → AnyLineFails c x ls → (l : Line) × Contains (map line_of ls) l × LineFails c x l
to_contained c x [] h = absurd h
to_contained c x (m ∷ ls) (inl h) = (line_of m, (0, omega arith, refl), h)
to_contained c x (m ∷ ls) (inr h) = let r = to_contained c x ls h in (r.0, (suc r.1.0, omega (arith, r.1.1), r.1.2), r.2)

-- where a line that a list contains fails, some line of the list fails
pub from_contained : (c : Case) (x : ℕ) (ls : List ReportLine) (l : Line) → Contains (map line_of ls) l → LineFails c x l → AnyLineFails c x ls
from_contained c x [] l h f = absurd (omega (arith, h.1))
from_contained c x (m ∷ ls) l (zero, i, g) f = inl (subst (LineFails c x) (sym g) f)
from_contained c x (m ∷ ls) l (suc k, i, g) f = inr (from_contained c x ls l (k, omega arith, g) f)

-- a step past one that doesn't fail
pub passed : (c : Case) (x : ℕ) (l : ReportLine) (ls : List ReportLine) (W : Type 0) (b : Bool) → IsTrue b ↔ LineFails c x (line_of l) → b ≡ false → AnyLineFails c x (l ∷ ls) ↔ W → AnyLineFails c x ls ↔ W
passed c x l ls W b h e f = (
  λ a. f.0 (inr a),
  λ v. elim (f.1 v) [ inl k ↦ absurd (is_false b e (h.1 k)) | inr k ↦ k ],
)
