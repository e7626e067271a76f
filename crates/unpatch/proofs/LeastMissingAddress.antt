-- The least address at which a file hasn't a byte of runs has 32 bits.
use Rattle.std.proofs.Common.{◌≡◌, ℕ, ◌+◌, ◌-◌, ◌^◌, ◌<◌, ◌≤◌, inl, inr, Bool, true, false, cond, nat_le, nat_lt, IfSome, List, [], ◌∷◌, length, Option, Some, None, refl, sym, subst, arith}
use Rattle.std.specs.List.{AllByRecursion}
use Rattle.std.proofs.lemmas.Bool.{and_parts, cases_Bool, cond-true, cond-false, true≢false, leb-true, ltb-true}
use Rattle.elf_read.specs.declared.segment.Segment.{Segment}
use Rattle.elf_read.specs.Accepted.{IsPlaced}
use Rattle.elf_read.specs.Code.{is_backed}
use Rattle.elf_read.specs.Entries.{segments, loads}
use Rattle.elf_read.specs.Find.{covers, segment_of, segment_holding}
use Rattle.elf_read.specs.Refusals.{refusal}
use Rattle.elf_read.proofs.AcceptedFiles.{is_accepted}
use Rattle.elf_read.proofs.SegmentSearch.{some_inj, none_some}
use Rattle.unpatch.specs.Undone.{addressed}
use Rattle.unpatch.specs.Refusals.{has_byte, is_there, lesser, least_from}
use Rattle.unpatch.proofs.RestoredBytes.{all_addressed}
use Rattle.unpatch.proofs.RestoreAnswers.{lesser_first, lesser_best}

-- a segment that is found is one of those that are placed
found_step : (from len : ℕ) (s t : Segment) (o : Option Segment) (b : Bool) → IsPlaced from len s → (o ≡ Some t → IsPlaced from len t) → cond b (Some s) o ≡ Some t → IsPlaced from len t
found_step from len s t o true i f h = subst (IsPlaced from len) (some_inj s t h) i
found_step from len s t o false i f h = f h

found_placed : (from len a : ℕ) (ss : List Segment) (t : Segment) → AllByRecursion (IsPlaced from len) ss → segment_of ss a ≡ Some t → IsPlaced from len t
found_placed from len a [] t i h = absurd (none_some t h)
found_placed from len a (s ∷ ss) t i h = found_step from len s t (segment_of ss a) (covers s a) i.0 (λ e. found_placed from len a ss t i.1 e) h

-- so a byte that a file has stands at a program's address
there_low : (file : List ℕ) (a b : ℕ) → refusal 0x10000 file ≡ None → is_there file (a, b) ≡ true → a < 0x7fff0000
there_low file a b h e = by_segment (segment_holding file a) refl e
  where
    by_segment : (o : Option Segment) → segment_holding file a ≡ o → has_byte file a b o ≡ true → a < 0x7fff0000
    by_segment None f e2 = absurd (true≢false (sym e2))
    by_segment (Some s) f e2 =
        let i = found_placed 0x10000 (length file) a (loads (segments file)) s (is_accepted 0x10000 file h).placed f in
        let high = i.high in
        let sizes = i.sizes in
        let k = and_parts (nat_le s.vaddr a) (nat_lt (a - s.vaddr) s.filesz) (and_parts (is_backed s a) _ e2).0 in
        let above = leb-true s.vaddr a k.0 in
        let below = ltb-true (a - s.vaddr) s.filesz k.1 in
        omega arith

-- what is least stays below what is known, and below what all are
known_low : (n : ℕ) (file : List ℕ) (ps : List (ℕ × ℕ)) (x : ℕ) → x < n → IfSome (least_from file ps (Some x)) (λ a. a < n)
known_low n file [] x l = l
known_low n file (p ∷ ps) x l = elim (cases_Bool (is_there file p)) [
  | inl t ↦
      subst (λ (o : Option ℕ). IfSome (least_from file ps o) (λ a. a < n)) (sym (cond-true (is_there file p) (Some x) (Some (lesser p.0 (Some x))) t))
      (known_low n file ps x l)
  | inr t ↦
      let m : lesser p.0 (Some x) ≤ x = lesser_best p.0 x (Some x) refl in
      subst (λ (o : Option ℕ). IfSome (least_from file ps o) (λ a. a < n)) (sym (cond-false (is_there file p) (Some x) (Some (lesser p.0 (Some x))) t))
      (known_low n file ps (lesser p.0 (Some x)) (omega arith))
]

all_low : (n : ℕ) (file : List ℕ) (ps : List (ℕ × ℕ)) (best : Option ℕ) → AllByRecursion (λ p. p.0 < n) ps → IfSome best (λ a. a < n) → IfSome (least_from file ps best) (λ a. a < n)
all_low n file [] best h l = l
all_low n file (p ∷ ps) best h l = elim (cases_Bool (is_there file p)) [
  | inl t ↦
      subst (λ (o : Option ℕ). IfSome (least_from file ps o) (λ a. a < n)) (sym (cond-true (is_there file p) best (Some (lesser p.0 best)) t))
      (all_low n file ps best h.1 l)
  | inr t ↦
      let m : lesser p.0 best ≤ p.0 = lesser_first p.0 best in
      let k : p.0 < n = h.0 in
      subst (λ (o : Option ℕ). IfSome (least_from file ps o) (λ a. a < n)) (sym (cond-false (is_there file p) best (Some (lesser p.0 best)) t))
      (known_low n file ps (lesser p.0 best) (omega arith))
]

-- of a run that reaches past 32 bits the first byte is missing
pub run_low : (file : List ℕ) (a : ℕ) (bs : List ℕ) (best : Option ℕ) → refusal 0x10000 file ≡ None → a < 2 ^ 32 → length bs ≤ 16
    → IfSome best (λ x. x < 2 ^ 32) → IfSome (least_from file (addressed a bs) best) (λ x. x < 2 ^ 32)
run_low file a [] best h l m k = k
run_low file a (b ∷ bs) best h l m k = elim (cases_Bool (is_there file (a, b))) [
  | inl t ↦
      let low = there_low file a b h t in
      all_low (2 ^ 32) file (addressed a (b ∷ bs)) best (all_addressed (λ p. p.0 < 2 ^ 32) a (b ∷ bs) (λ i z. omega arith)) k
  | inr t ↦
      let first : lesser a best ≤ a = lesser_first a best in
      subst (λ (o : Option ℕ). IfSome (least_from file (addressed (a + 1) bs) o) (λ x. x < 2 ^ 32))
      (sym (cond-false (is_there file (a, b)) best (Some (lesser a best)) t))
      (known_low (2 ^ 32) file (addressed (a + 1) bs) (lesser a best) (omega arith))
]
