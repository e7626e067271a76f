-- The bytes of one segment that can be executed, as a part of the file.
use Rattle.std.proofs.Common.{◌≡◌, ℕ, zero, suc, ◌+◌, ◌-◌, ◌<◌, ◌≤◌, Bool, true, false, nat_lt, nat_le, ◌&&◌, List, [], ◌∷◌, length, take, drop, min, sym, ap, ◌∙◌, arith, slice_index, inl, inr}
use Rattle.std.proofs.Math.Seq.{drop-cons}
use Rattle.std.proofs.lemmas.Bool.{and_parts, cases_Bool, ltb-true, leb-true, ltb-false, cond-true, cond-false}
use Rattle.std.proofs.lemmas.Bool.Decides.{nat_tests}
use Rattle.elf_read.specs.declared.segment.Segment.{Segment}
use Rattle.elf_read.specs.Entries.{is_load}
use Rattle.elf_read.specs.Code.{is_code, is_backed, is_exec_in, code_from}

-- where the segment can be executed, the test is that its file bytes reach the address
pub backed_yes : (b : Bool) (v a f : ℕ) → b ≡ true → v ≤ a → a - v < f → (b && (nat_le v a && nat_lt (a - v) f)) ≡ true
backed_yes b v a f e l m = grind (arith, nat_tests)

-- where the file bytes end at or before the address, the test fails
pub backed_no : (b : Bool) (v a f : ℕ) → f ≤ a - v → (b && (nat_le v a && nat_lt (a - v) f)) ≡ false
backed_no b v a f m = grind (arith, nat_tests)

-- one byte more of a part of the file
one_byte : (file : List ℕ) (at k n : ℕ) → at < length file → k ≡ suc n → slice_index file at ∷ take n (drop (at + 1) file) ≡ take k (drop at file)
one_byte file at k n l e =
    let s : at + 1 ≡ suc at = omega arith in
    sym (ap (λ (z : ℕ). take z (drop at file)) e ∙ ap (λ (z : List ℕ). take (suc n) z) (drop-cons file at 0 l) ∙ ap (λ (z : ℕ). slice_index file at ∷ take n (drop z file)) (sym s))

no_byte : (file : List ℕ) (at k : ℕ) → k ≡ 0 → [] ≡ take k (drop at file)
no_byte file at k e = sym (ap (λ (z : ℕ). take z (drop at file)) e)

taken : (file : List ℕ) (s : Segment) (a n : ℕ) → (is_load s && is_code s) ≡ true → s.vaddr ≤ a → s.offset + s.filesz ≤ length file → code_from file s a n ≡ take (min n (s.filesz - (a - s.vaddr))) (drop (s.offset + (a - s.vaddr)) file)
unfolding code_from
taken file s a zero e v i = no_byte file (s.offset + (a - s.vaddr)) (min 0 (s.filesz - (a - s.vaddr))) (omega arith)
taken file s a (suc n) e v i = elim (cases_Bool (nat_lt (a - s.vaddr) s.filesz)) [
  | inl t ↦ (let l = ltb-true (a - s.vaddr) s.filesz t in
      let r = taken file s (a + 1) n e (omega arith) i in
      let place : s.offset + (a + 1 - s.vaddr) ≡ s.offset + (a - s.vaddr) + 1 = omega arith in
      cond-true (is_exec_in a s) _ _ (backed_yes (is_load s && is_code s) s.vaddr a s.filesz e v l)
      ∙ ap (λ (z : List ℕ). slice_index file (s.offset + (a - s.vaddr)) ∷ z) (r ∙ ap (λ (z : ℕ). take (min n (s.filesz - (a + 1 - s.vaddr))) (drop z file)) place)
      ∙ one_byte file (s.offset + (a - s.vaddr)) (min (suc n) (s.filesz - (a - s.vaddr))) (min n (s.filesz - (a + 1 - s.vaddr))) (omega arith) (omega arith))
  | inr f ↦ (let l = ltb-false (a - s.vaddr) s.filesz f in
      cond-false (is_exec_in a s) _ _ (backed_no (is_load s && is_code s) s.vaddr a s.filesz l)
      ∙ no_byte file (s.offset + (a - s.vaddr)) (min (suc n) (s.filesz - (a - s.vaddr))) (omega arith))
]

-- the part that the code takes
pub code_taken : (file : List ℕ) (s : Segment) (a n k from : ℕ) → is_exec_in a s ≡ true → s.offset + s.filesz ≤ length file → from ≡ s.offset + (a - s.vaddr) → k ≡ min n (s.filesz - (a - s.vaddr)) → take (from + k - from) (drop from file) ≡ code_from file s a n
code_taken file s a n k from e i p q =
    let t = and_parts (is_load s && is_code s) (is_backed s a) e in
    let v = leb-true s.vaddr a (and_parts (nat_le s.vaddr a) (nat_lt (a - s.vaddr) s.filesz) t.1).0 in
    let m : from + k - from ≡ min n (s.filesz - (a - s.vaddr)) = omega arith in
    ap (λ (z : ℕ). take z (drop from file)) m ∙ ap (λ (z : ℕ). take (min n (s.filesz - (a - s.vaddr))) (drop z file)) p ∙ sym (taken file s a n t.0 v i)
