-- Which bytes jumps write, span and pun.
use Rattle.std.proofs.Common.{◌≡◌, ◌⊎◌, inl, inr, ℕ, ◌+◌, ◌-◌, ◌<◌, ◌≤◌, min, Bool, true, false, cond, not, ◌&&◌, List, [], ◌∷◌, length, get_or, Option, Some, None, is_some, refl, sym, ap, ◌∙◌, arith, true≢false}
use Rattle.std.specs.Option.{option_or}
use Rattle.std.proofs.lemmas.Bool.{cond-true, cond-false, or_left, or_right, or_cases}
use Rattle.pun_base.specs.Ranges.{is_within}
use Rattle.start_list.specs.PlanJumps.{Jump, written_by, written, is_written, is_spanned, is_punned}
use Rattle.start_list.specs.Plans.{Run, AreRuns}
use Rattle.scheme_search.proofs.OneJumpBytes.{within_true, within_false, within_parts}

-- One of the jumps has a property.
abbrev pub AnyJump : (Jump → Type 0) → List Jump → Type 0
AnyJump P [] = ⊥
AnyJump P (j ∷ js) = P j ⊎ AnyJump P js

-- How many bytes a jump writes.
abbrev pub room_of : Jump → ℕ
room_of j = min j.room (length j.bytes)

-- A jump writes an address.
abbrev pub Writes : ℕ → Jump → Type 0
Writes x j = (j.at ≤ x) × (x < j.at + room_of j)

-- An address is one of a jump's bytes.
abbrev pub Spans : ℕ → Jump → Type 0
Spans x j = (j.at ≤ x) × (x < j.at + length j.bytes)

-- A jump writes its own bytes at their places, as many as it has room for.
pub written_in : (j : Jump) (k : ℕ) → k < room_of j → written_by j (j.at + k) ≡ Some (get_or j.bytes k 0)
written_in j k l =
    let w = within_true j.at (room_of j) (j.at + k) (omega arith) (omega arith) in
    let e : j.at + k - j.at ≡ k = omega arith in
    cond-true (is_within j.at (room_of j) (j.at + k)) (Some (get_or j.bytes (j.at + k - j.at) 0)) None w
    ∙ ap (λ i. Some (get_or j.bytes i 0)) e

-- A jump writes nothing outside the bytes for which it has room.
pub written_out : (j : Jump) (x : ℕ) → (x < j.at) ⊎ (j.at + room_of j ≤ x) → written_by j x ≡ None
written_out j x h = cond-false (is_within j.at (room_of j) x) (Some (get_or j.bytes (x - j.at) 0)) None (within_false j.at (room_of j) x h)

-- Something stands where the first of two has something.
some_first : (w : Bool) (b : ℕ) (o : Option ℕ) → w ≡ true → is_some (option_or (cond w (Some b) None) o) ≡ true
some_first true b o e = refl
some_first false b o e = absurd (true≢false (sym e))

-- One option or else another is something where the second is.
some_later : (w : Bool) (b : ℕ) (o : Option ℕ) → is_some o ≡ true → is_some (option_or (cond w (Some b) None) o) ≡ true
some_later true b o e = refl
some_later false b None e = absurd (true≢false (sym e))
some_later false b (Some c) e = refl

-- One option or else another is something only where one of both is.
some_either : (w : Bool) (b : ℕ) (o : Option ℕ) → is_some (option_or (cond w (Some b) None) o) ≡ true → (w ≡ true) ⊎ (is_some o ≡ true)
some_either true b o e = inl refl
some_either false b None e = absurd (true≢false (sym e))
some_either false b (Some c) e = inr refl

-- What is written is what one of the jumps writes.
pub written_any : (js : List Jump) (x : ℕ) → is_written js x ≡ true → AnyJump (Writes x) js
written_any [] x e = absurd (true≢false (sym e))
written_any (j ∷ js) x e = elim (some_either (is_within j.at (room_of j) x) (get_or j.bytes (x - j.at) 0) (written js x) e) [
  | inl w ↦ inl (within_parts j.at (room_of j) x w)
  | inr w ↦ inr (written_any js x w)
]

-- What one of the jumps writes is written.
pub any_written : (js : List Jump) (x : ℕ) → AnyJump (Writes x) js → is_written js x ≡ true
any_written [] x h = absurd h
any_written (j ∷ js) x (inl w) = some_first (is_within j.at (room_of j) x) (get_or j.bytes (x - j.at) 0) (written js x)
    (within_true j.at (room_of j) x w.0 w.1)
any_written (j ∷ js) x (inr w) = some_later (is_within j.at (room_of j) x) (get_or j.bytes (x - j.at) 0) (written js x) (any_written js x w)

-- What is spanned is a byte of one of the jumps.
pub spanned_any : (js : List Jump) (x : ℕ) → is_spanned js x ≡ true → AnyJump (Spans x) js
spanned_any [] x e = absurd (true≢false (sym e))
spanned_any (j ∷ js) x e = elim (or_cases (is_within j.at (length j.bytes) x) (is_spanned js x) e) [
  | inl w ↦ inl (within_parts j.at (length j.bytes) x w)
  | inr w ↦ inr (spanned_any js x w)
]

-- A byte of one of the jumps is spanned.
pub any_spanned : (js : List Jump) (x : ℕ) → AnyJump (Spans x) js → is_spanned js x ≡ true
any_spanned [] x h = absurd h
any_spanned (j ∷ js) x (inl w) = or_left (is_within j.at (length j.bytes) x) (is_spanned js x)
    (within_true j.at (length j.bytes) x w.0 w.1)
any_spanned (j ∷ js) x (inr w) = or_right (is_within j.at (length j.bytes) x) (is_spanned js x) (any_spanned js x w)

-- A test and not another: the first holds and the second doesn't.
both_tests : (s w : Bool) → (s && not w) ≡ true → (s ≡ true) × (w ≡ false)
both_tests true true e = absurd (true≢false (sym e))
both_tests true false e = (refl, refl)
both_tests false w e = absurd (true≢false (sym e))

-- A test and the contrary of another both pass where the first passes and the other doesn't.
tests_both : (s w : Bool) → s ≡ true → (w ≡ true → ⊥) → (s && not w) ≡ true
tests_both true true e f = absurd (f refl)
tests_both true false e f = refl
tests_both false w e f = absurd (true≢false (sym e))

-- What is punned is spanned and not written.
pub punned_any : (js : List Jump) (x : ℕ) → is_punned js x ≡ true → AnyJump (Spans x) js × (AnyJump (Writes x) js → ⊥)
punned_any js x e =
    let k = both_tests (is_spanned js x) (is_written js x) e in
    (spanned_any js x k.0, λ w. true≢false (sym (any_written js x w) ∙ k.1))

-- A byte of a jump that none writes is punned.
pub any_punned : (js : List Jump) (x : ℕ) → AnyJump (Spans x) js → (AnyJump (Writes x) js → ⊥) → is_punned js x ≡ true
any_punned js x s f = tests_both (is_spanned js x) (is_written js x) (any_spanned js x s) (λ w. f (written_any js x w))

-- Runs of a set are those of an equal one.
pub same_runs : (p q : ℕ → Bool) (rs : List Run) → ((x : ℕ) → p x ≡ q x) → AreRuns p rs → AreRuns q rs
same_runs p q rs e r = record { ascend = r.ascend; told = λ a. r.told a ∙ e a }
