-- The displacement of a jump, and the targets that its high bytes allow.
use Rattle.std.proofs.Common.{◌≡◌, ◌⊎◌, inl, inr, ℕ, ℤ, pos, zero, suc, ◌+◌, ◌-◌, ◌%◌, ◌^◌, ◌<◌, ◌≤◌, ◌+ℤ◌, List, [], ◌∷◌, ◌++◌, length, take, drop, refl, sym, ap, ◌∙◌, subst, arith, length-take}
use Rattle.std.proofs.lemmas.Bool.{cases_lt}
use Rattle.std.proofs.lemmas.Int.{ints}
use Rattle.std.proofs.lemmas.List.{take-append-drop}
use Rattle.pun_base.specs.Field.{field}
use Rattle.insn_form.specs.Moved.{rel_bytes}
use Rattle.jump_form.specs.Jumps.{signed, IsDisplacement, IsJump}
use Rattle.jump_form.specs.Windows.{IsAllowed}
use Rattle.jump_form.proofs.ByteNumbers.{number, field-number}
use Rattle.jump_form.proofs.TargetPlaces.{signed_low, signed_high}
use Rattle.jump_form.proofs.JumpsInMemory.{one_spelling}

-- The number of a displacement.
far : (next t n : ℕ) → next < 2 ^ 31 → t < 2 ^ 31 → n ≡ (t + 2 ^ 32 - next) % 2 ^ 32 → pos t ≡ pos next +ℤ signed n
far next t n l h e = by_case (cases_lt n (2 ^ 31))
  where
    by_case : (n < 2 ^ 31) ⊎ (2 ^ 31 ≤ n) → pos t ≡ pos next +ℤ signed n
    by_case (inl q) = let s = signed_low n q in omega (arith, ints, s)
    by_case (inr q) = let s = signed_high n q in omega (arith, ints, s)

-- the four bytes of a displacement spell the distance from the jump's end to its target, modulo 2^32
four_bytes : (next t : ℕ) → number (rel_bytes next t) ≡ (t + 2 ^ 32 - next) % 2 ^ 32
four_bytes next t = omega arith

-- Below 2^31 the four bytes of a target's distance are its displacement.
pub displacement : (next t : ℕ) → next < 2 ^ 31 → t < 2 ^ 31 → IsDisplacement next (pos t) (rel_bytes next t)
displacement next t l h = record {
  four = refl;
  small = (omega arith, (omega arith, (omega arith, (omega arith, tt))));
  leads = far next t (field 4 0 (rel_bytes next t)) l h (field-number (rel_bytes next t) refl ∙ four_bytes next t);
}

-- equal lists have equal rests
rest_same : (x : ℕ) (xs ys : List ℕ) → x ∷ xs ≡ x ∷ ys → xs ≡ ys
rest_same x xs ys e = cc

abbrev jump_of : (at : ℕ) (t : ℤ) (ds : List ℕ) → IsDisplacement (at + 0 + 5) t ds → IsJump at 0 0x40 t (0xE9 ∷ ds)
jump_of at t ds d = record { few = omega arith; rex = (omega arith, omega arith); displacement = ds; spelled = refl; leads = d }

-- A jump to a target has one displacement.
pub one_displacement : (next t : ℕ) (ds : List ℕ) → 5 ≤ next → next < 2 ^ 31 → t < 2 ^ 31 → IsDisplacement next (pos t) ds → ds ≡ rel_bytes next t
one_displacement next t ds some l h d =
    let at = next - 5 in
    let e : next ≡ at + 0 + 5 = omega arith in
    let p = subst (λ (x : ℕ). IsDisplacement x (pos t) ds) e d in
    let q = subst (λ (x : ℕ). IsDisplacement x (pos t) (rel_bytes next t)) e (displacement next t l h) in
    rest_same 0xE9 ds (rel_bytes next t) (one_spelling at 0 0x40 (pos t) (0xE9 ∷ ds) (0xE9 ∷ rel_bytes next t) (jump_of at (pos t) ds p) (jump_of at (pos t) (rel_bytes next t) q))

-- what is left of two joined lists without the first list's length is the second
drop-append : (xs ys : List ℕ) (n : ℕ) → length xs ≡ n → drop n (xs ++ ys) ≡ ys
drop-append [] ys zero e = refl
drop-append [] ys (suc n) e = absurd (omega arith)
drop-append (x ∷ xs) ys zero e = absurd (omega arith)
drop-append (x ∷ xs) ys (suc n) e = drop-append xs ys n (omega arith)

-- A target is allowed exactly where the high bytes are those of its displacement.
pub allowed_to : (next t own : ℕ) (fixed : List ℕ) → 5 ≤ next → next < 2 ^ 31 → t < 2 ^ 31 → IsAllowed next [] own fixed (pos t) → drop own (rel_bytes next t) ≡ fixed
allowed_to next t own fixed some l h (bs, n, d) =
    ap (λ (xs : List ℕ). drop own xs) (sym (one_displacement next t (bs ++ fixed) some l h d)) ∙ drop-append bs fixed own n

-- A target whose displacement has these high bytes is allowed by them.
pub allowed_from : (next t own : ℕ) (fixed : List ℕ) → own ≤ 4 → next < 2 ^ 31 → t < 2 ^ 31 → drop own (rel_bytes next t) ≡ fixed → IsAllowed next [] own fixed (pos t)
allowed_from next t own fixed few l h e =
    let four : length (rel_bytes next t) ≡ 4 = refl in
    let whole : rel_bytes next t ≡ take own (rel_bytes next t) ++ fixed = sym (take-append-drop own (rel_bytes next t)) ∙ ap (λ (xs : List ℕ). take own (rel_bytes next t) ++ xs) e in
    (take own (rel_bytes next t), omega (arith, length-take own (rel_bytes next t), four), subst (λ (xs : List ℕ). IsDisplacement next (pos t) xs) whole (displacement next t l h))
