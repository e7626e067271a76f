-- The place that is chosen, and instructions that can't fault.
use Rattle.std.proofs.Common.{◌≡◌, ◌≢◌, ℕ, Bool, true, false, not, ◌&&◌, cond, eqb, Option, Some, None, refl, sym, ap, ◌∙◌, subst, true≢false}
use Rattle.std.proofs.lemmas.Bool.{and_parts, eqb-true}
use Rattle.insn_form.specs.declared.form.Spot.TheVariants.{Reg}
use Rattle.insn_form.specs.declared.form.Value.TheVariants as value
use Rattle.insn_form.specs.declared.form.Op.{Op}
use Rattle.insn_form.specs.declared.form.Op.TheVariants.{Mov, Extend, Lea, Pop, Alu, Widen}
use Rattle.insn_form.specs.declared.form.Insn.{Insn}
use Rattle.insn_form.specs.declared.form.Insn.TheVariants.{Exact, Asked, Ending}
use Rattle.insn_form.specs.Operands.{rdx, rsp}
use Rattle.killing.specs.declared.place.Place.{Place}
use Rattle.killing.specs.declared.place.Place.TheVariants.{FiveFlags, SixFlags, Register}
use Rattle.killing.specs.Table.{value_reads, spot_reads, mem_reads, is_wide, forgets, kills_by, kills, destination, is_scratch, register_of}
use Rattle.killing.specs.Laws.{IsChosen, ChoosesPlaces, KillsOneRegister}

-- a killed register is the destination
fill_is : (r : ℕ) (a b : Bool) (x : ℕ) → ((eqb x r && a) && b) ≡ true → Some x ≡ Some r
fill_is r a b x h = ap Some (eqb-true x r (and_parts (eqb x r) a (and_parts (eqb x r && a) b h).0).0)

destined : (r : ℕ) (op : Op) → kills_by (Register r) op ≡ true → destination op ≡ Some r
destined r (Mov w (Reg x) src) h = fill_is r (is_wide w) (not (value_reads r src)) x h
destined r (Extend sign from w x src) h = fill_is r (is_wide w) (not (spot_reads r src)) x h
destined r (Lea w x mem) h = fill_is r (is_wide w) (not (mem_reads r mem)) x h
destined r (Alu op w (Reg x) (value.Spot (Reg y)) true) h = fill_is r (is_wide w) (eqb y r && forgets op) x h
destined r (Pop (Reg x)) h = ap Some (eqb-true x r (and_parts (eqb x r) (not (eqb rsp r)) h).0)
destined r (Widen w true) h = ap Some (eqb-true rdx r (and_parts (eqb rdx r) (is_wide w) h).0)
destined r op h = absurd (true≢false (sym h))

some_is : (p q : Place) → Some p ≡ Some q → p ≡ q
some_is p q e = cc

six_five : SixFlags ≢ FiveFlags
six_five e = cc

module _ (op : Op) where
  abbrev i : Insn
  i = Exact op

  chosen : (p : Place) → (six five : Bool) → kills_by SixFlags op ≡ six → kills_by FiveFlags op ≡ five
      → cond six (Some SixFlags) (cond five (Some FiveFlags) (register_of i (destination op))) ≡ Some p → IsChosen i p
  chosen p true five a b e =
      let q = some_is SixFlags p e in
      record {
        is_killed = subst (λ (z : Place). kills z i ≡ true) q a;
        flags_first = λ n. absurd (n (sym q));
        then_five = λ n k. absurd (n (sym q));
        scratch = λ r k. (let z : SixFlags ≡ Register r = q ∙ k in absurd cc);
      }
  chosen p false true a b e =
      let q = some_is FiveFlags p e in
      record {
        is_killed = subst (λ (z : Place). kills z i ≡ true) q b;
        flags_first = λ n. a;
        then_five = λ n k. absurd (k (sym q));
        scratch = λ r k. (let z : FiveFlags ≡ Register r = q ∙ k in absurd cc);
      }
  chosen p false false a b e = by_destination (destination op) e
    where
      by_test : (r : ℕ) (t u : Bool) → kills_by (Register r) op ≡ t → is_scratch r ≡ u → cond (t && u) (Some (Register r)) None ≡ Some p → IsChosen i p
      by_test r true true k n e =
          let q = some_is (Register r) p e in
          record {
            is_killed = subst (λ (z : Place). kills z i ≡ true) q k;
            flags_first = λ m. a;
            then_five = λ m l. b;
            scratch = λ x m. (let z : Register r ≡ Register x = q ∙ m in let y : r ≡ x = cc in subst (λ (z : ℕ). is_scratch z ≡ true) y n);
          }
      by_test r true false k n e = absurd cc
      by_test r false u k n e = absurd cc

      by_destination : (o : Option ℕ) → register_of i o ≡ Some p → IsChosen i p
      by_destination None e = absurd cc
      by_destination (Some r) e = by_test r (kills_by (Register r) op) (is_scratch r) refl refl e

  left : (p : Place) (six five : Bool) → kills_by SixFlags op ≡ six → kills_by FiveFlags op ≡ five
      → cond six (Some SixFlags) (cond five (Some FiveFlags) (register_of i (destination op))) ≡ None → kills p i ≡ true
      → (r : ℕ) × (p ≡ Register r) × (is_scratch r ≡ false)
  left p true five a b e h = absurd cc
  left p false true a b e h = absurd cc
  left FiveFlags false false a b e h = absurd (true≢false (sym h ∙ b))
  left SixFlags false false a b e h = absurd (true≢false (sym h ∙ a))
  left (Register r) false false a b e h = by_test (is_scratch r) refl
    where
      d : register_of i (Some r) ≡ None
      d = subst (λ (o : Option ℕ). register_of i o ≡ None) (destined r op h) e

      by_test : (u : Bool) → is_scratch r ≡ u → (x : ℕ) × (Register r ≡ Register x) × (is_scratch x ≡ false)
      by_test false n = (r, refl, n)
      by_test true n =
          let z : cond (true && true) (Some (Register r)) None ≡ None = (λ j. cond (sym h j && sym n j) (Some (Register r)) None) ∙ d in absurd cc

pub chooses : ChoosesPlaces
chooses (Exact op) = (
  λ p e. chosen op p (kills_by SixFlags op) (kills_by FiveFlags op) refl refl e,
  λ e p h. left op p (kills_by SixFlags op) (kills_by FiveFlags op) refl refl e h,
)
chooses (Asked form) = (λ p e. absurd cc, λ e p h. absurd (true≢false (sym h)))
chooses Ending = (λ p e. absurd cc, λ e p h. absurd (true≢false (sym h)))

one_is : (a b : ℕ) → Some a ≡ Some b → a ≡ b
one_is a b e = cc

-- a killed register is the one destination
pub one_register : KillsOneRegister
one_register (Exact op) r q h k = one_is r q (sym (destined r op h) ∙ destined q op k)
one_register (Asked form) r q h k = absurd (true≢false (sym h))
one_register Ending r q h k = absurd (true≢false (sym h))
