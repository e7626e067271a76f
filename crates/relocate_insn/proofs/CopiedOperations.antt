-- Operations whose own bytes are copied.
use Rattle.std.proofs.Common.{◌≡◌, ℕ, ℤ, Bool, true, false, refl}
use Rattle.insn_form.specs.declared.form.Target.{Target}
use Rattle.length_decode.specs.Spelling.{Fields}
use Rattle.insn_form.specs.declared.form.Op.{Op}
use Rattle.insn_form.specs.declared.form.Op.TheVariants.{Jcc, Loop, Jmp, Call}
use Rattle.insn_form.specs.declared.form.Insn.TheVariants.{Exact}
use Rattle.relocate_insn.specs.Relocating.{copy_of, relocated_by}

-- all but branches; of these the jump through an operand is copied too
abbrev pub is_copied : Op → Bool
is_copied (Jcc cc rel) = false
is_copied (Loop kind rel short) = false
is_copied (Jmp target) = false
is_copied (Call target) = false
is_copied op = true

-- the relocated code of such an operation is its copy
pub copied_by : (o : Op) (p : ℕ) (f : Fields) (next place : ℕ) → is_copied o ≡ true → relocated_by (Exact o) p f next place ≡ copy_of f next place
copied_by (Jcc c rel) p f next place h = absurd cc
copied_by (Loop kind rel short) p f next place h = absurd cc
copied_by (Jmp target) p f next place h = absurd cc
copied_by (Call target) p f next place h = absurd cc
copied_by o p f next place h = refl

-- an operation that is no branch is copied
pub not_branch : (o : Op) → ((c : ℕ) (r : ℤ) → o ≡ Jcc c r → ⊥) → ((k : ℕ) (r : ℤ) (s : Bool) → o ≡ Loop k r s → ⊥) → ((t : Target) → o ≡ Jmp t → ⊥) → ((t : Target) → o ≡ Call t → ⊥) → is_copied o ≡ true
not_branch (Jcc c r) a b d e = absurd (a c r refl)
not_branch (Loop k r s) a b d e = absurd (b k r s refl)
not_branch (Jmp t) a b d e = absurd (d t refl)
not_branch (Call t) a b d e = absurd (e t refl)
not_branch o a b d e = refl
