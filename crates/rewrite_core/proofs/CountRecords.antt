-- Under count the record tells of each site how many events it has.
use Rattle.std.proofs.Common.{◌≡◌, ◌⊎◌, inl, inr, ℕ, ◌+◌, ◌*◌, ◌%◌, ◌^◌, ◌≤◌, ◌<◌, Bool, true, false, cond, eqb, List, [], ◌∷◌, length, replicate, refl, sym, ap, ◌∙◌, subst, arith}
use native.Mathlib.Nat.{zero-add, le_trans}
use Rattle.std.proofs.lemmas.Bool.{cases_lt, eqb-true, eqb-false}
use Rattle.std.proofs.lemmas.List.{length-replicate}
use Rattle.std.proofs.lemmas.List.Sums.{sum_by-cons}
use Rattle.pun_base.specs.Field.{field}
use Rattle.pun_base.specs.declared.action.Action.{Action}
use Rattle.pun_base.specs.declared.action.Action.TheVariants.{Count}
use Rattle.sound_images.specs.Rewriting.{Rewriting}
use Rattle.trampoline.specs.Events.{Seen, marked, mark}
use Rattle.sound_images.specs.Events.{record_for}
use Rattle.rewrite_core.specs.Glosses.{times, numbers_of}
use Rattle.rewrite_core.proofs.ChangedFields.{length-with_field, field_same, field_other, zero_field}

-- one event of number e, seen at number i
counted_one : (e i : ℕ) (regs bytes : List ℕ) → 8 * i + 8 ≤ length bytes → field 8 (8 * i) bytes < 2 ^ 64 → field 8 (8 * i) (mark Count e regs bytes) ≡ (field 8 (8 * i) bytes + cond (eqb e i) 1 0) % 2 ^ 64
counted_one e i regs bytes l h = split (eqb e i) (eqb-true e i) (eqb-false e i)
  where
    away : (e ≡ i → ⊥) → (8 * i + 8 ≤ 8 * e) ⊎ (8 * e + 8 ≤ 8 * i)
    away h = elim (cases_lt i e) [ inl b ↦ inl (omega arith) | inr b ↦ inr (omega arith) ]

    below : (x : ℕ) → x % 2 ^ 64 < 2 ^ 64
    below x = omega arith

    whole : (x : ℕ) → x < 2 ^ 64 → x ≡ (x + 0) % 2 ^ 64
    whole x k = omega arith

    split : (b : Bool) → (b ≡ true → e ≡ i) → (b ≡ false → e ≡ i → ⊥) → field 8 (8 * i) (mark Count e regs bytes) ≡ (field 8 (8 * i) bytes + cond b 1 0) % 2 ^ 64
    split true t f = subst (λ z. field 8 (8 * i) (mark Count z regs bytes) ≡ (field 8 (8 * i) bytes + 1) % 2 ^ 64) (sym (t refl)) (field_same 8 (8 * i) ((field 8 (8 * i) bytes + 1) % 2 ^ 64) bytes (omega arith) (below (field 8 (8 * i) bytes + 1)))
    split false t f = field_other 8 8 (8 * e) (8 * i) ((field 8 (8 * e) bytes + 1) % 2 ^ 64) bytes l (away (f refl)) ∙ whole (field 8 (8 * i) bytes) h

-- under count, events add to a site's eight bytes how often the site is among them, modulo 2^64
counted : (events : List Seen) (bytes : List ℕ) (i : ℕ) → 8 * i + 8 ≤ length bytes → field 8 (8 * i) bytes < 2 ^ 64 → field 8 (8 * i) (marked Count events bytes) ≡ (field 8 (8 * i) bytes + times i (numbers_of events)) % 2 ^ 64
counted [] bytes i l h = whole (field 8 (8 * i) bytes) h
  where
    whole : (x : ℕ) → x < 2 ^ 64 → x ≡ (x + 0) % 2 ^ 64
    whole x k = omega arith
counted (e ∷ es) bytes i l h =
    let longer = length-with_field 8 (8 * e.number) ((field 8 (8 * e.number) bytes + 1) % 2 ^ 64) bytes in
    let one = counted_one e.number i e.regs bytes l h in
    sums (field 8 (8 * i) (marked Count es (mark Count e.number e.regs bytes))) (field 8 (8 * i) (mark Count e.number e.regs bytes)) (field 8 (8 * i) bytes) (cond (eqb e.number i) 1 0) (times i (numbers_of es)) (times i (numbers_of (e ∷ es))) (counted es (mark Count e.number e.regs bytes) i (le_trans l longer) (below (field 8 (8 * i) (mark Count e.number e.regs bytes)) (field 8 (8 * i) bytes + cond (eqb e.number i) 1 0) one)) one (sum_by-cons (λ x. cond (eqb x i) 1 0) e.number (numbers_of es))
  where
    below : (b x : ℕ) → b ≡ x % 2 ^ 64 → b < 2 ^ 64
    below b x e = omega arith

    sums : (a b c d f g : ℕ) → a ≡ (b + f) % 2 ^ 64 → b ≡ (c + d) % 2 ^ 64 → g ≡ d + f → a ≡ (c + g) % 2 ^ 64
    sums a b c d f g p q s = omega arith

-- under count the eight bytes of a number are how often it occurs among the events, modulo 2^64
pub count_field : (r : Rewriting) (events : List Seen) (i : ℕ) → r.action ≡ Count → 8 * i + 8 ≤ r.data_len → field 8 (8 * i) (record_for r events) ≡ times i (numbers_of events) % 2 ^ 64
count_field r events i c l =
    let zeros : List ℕ = replicate r.data_len 0 in
    let none : field 8 (8 * i) zeros ≡ 0 = zero_field 8 (8 * i) r.data_len in
    ap (λ (z : Action). field 8 (8 * i) (marked z events zeros)) c
    ∙ counted events zeros i (omega (arith, length-replicate {A = ℕ} r.data_len 0)) (small (field 8 (8 * i) zeros) none)
    ∙ ap (λ z. (z + times i (numbers_of events)) % 2 ^ 64) none
    ∙ ap (λ z. z % 2 ^ 64) (zero-add (times i (numbers_of events)))
  where
    small : (x : ℕ) → x ≡ 0 → x < 2 ^ 64
    small x e = omega arith
