-- What LOOP leaves, by its kind.
use Rattle.std.proofs.Common.{◌≡◌, ℕ, eqb, true, false, Bool, ℤ, cond, refl, ap, ◌∙◌}
use Rattle.std.proofs.lemmas.Bool.{eq-eqb, ne_eqb}
use Rattle.cpu_state.specs.declared.state.Core.{Core}
use Rattle.insn_form.specs.declared.effect.Out.{Out}
use Rattle.insn_form.specs.Operands.{reg, with_reg, rcx}
use Rattle.insn_form.specs.Effect.{Effect}
use Rattle.insn_form.specs.Branches.{jcc, loopcc, counted, goes_round, is_empty}

chosen_first : (t : Bool) (x y : Effect) (v : ℕ) → t ≡ true → x.out v ≡ (cond t x y).out v
chosen_first true x y v e = refl
chosen_first false x y v e = absurd cc

chosen_last : (t : Bool) (x y : Effect) (v : ℕ) → t ≡ false → y.out v ≡ (cond t x y).out v
chosen_last false x y v e = refl
chosen_last true x y v e = absurd cc

-- JRCXZ jumps where rcx is empty, and changes no register.
pub loops_if_empty : (kind : ℕ) (z : ℤ) (short : Bool) (c : Core) (v r : ℕ) (t : Bool) (o : Out) → kind ≡ 3 → r ≡ reg c rcx → t ≡ is_empty short r → o ≡ (jcc t z c).out v → o ≡ (loopcc kind z short c).out v
loops_if_empty kind z short c v r t o k a b e =
    e
    ∙ ap (λ (x : Bool). (jcc x z c).out v) (b ∙ ap (is_empty short) a)
    ∙ chosen_first (eqb kind 3) (jcc (is_empty short (reg c rcx)) z c) (jcc (goes_round kind (counted c) c.flags) z (with_reg c rcx (counted c))) v (eq-eqb kind 3 k)

-- The other kinds of LOOP take 1 off rcx and jump where they go round.
pub loops_round : (kind : ℕ) (z : ℤ) (short : Bool) (c d : Core) (v r n : ℕ) (t : Bool) (o : Out) → (kind ≡ 3 → ⊥) → n ≡ counted c → t ≡ goes_round kind n c.flags → d ≡ with_reg c rcx n → o ≡ (jcc t z d).out v → o ≡ (loopcc kind z short c).out v
loops_round kind z short c d v r n t o k a b g e =
    e
    ∙ (λ i. (jcc ((b ∙ ap (λ (x : ℕ). goes_round kind x c.flags) a) i) z ((g ∙ ap (with_reg c rcx) a) i)).out v)
    ∙ chosen_last (eqb kind 3) (jcc (is_empty short (reg c rcx)) z c) (jcc (goes_round kind (counted c) c.flags) z (with_reg c rcx (counted c))) v (ne_eqb kind 3 k)
