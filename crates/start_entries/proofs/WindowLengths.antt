-- How long a window is: as far as its segment has bytes in the file, at most 15.
use Rattle.std.proofs.Common.{◌≡◌, ℕ, zero, suc, ◌+◌, ◌-◌, ◌<◌, ◌≤◌, Bool, true, false, cond, eqb, nat_lt, nat_le, ◌&&◌, List, [], ◌∷◌, length, min, Option, Some, None, is_some, refl, sym, ap, ◌∙◌, arith, inl, inr}
use Rattle.std.specs.List.{find}
use Rattle.std.proofs.lemmas.Bool.{and_parts, cases_Bool, ltb-true, leb-true, ltb-false, eqb-false, cond-true, cond-false}
use Rattle.elf_read.specs.declared.segment.Segment.{Segment}
use Rattle.elf_read.specs.Entries.{is_load, segments}
use Rattle.elf_read.specs.Code.{is_code, is_backed, is_exec_in, is_exec, code_from, code_of, window}
use Rattle.elf_read.proofs.SegmentSearch.{any_found}
use Rattle.start_entries.specs.Entries.{left_in, backed_bytes}
use Rattle.elf_read.proofs.WindowBytes.{backed_yes, backed_no}

-- the code of a segment from an address on is as long as asked for, or as the file has bytes of the segment
length-code : (file : List ℕ) (s : Segment) (a n : ℕ) → (is_load s && is_code s) ≡ true → s.vaddr ≤ a → length (code_from file s a n) ≡ min n (s.vaddr + s.filesz - a)
unfolding code_from
length-code file s a zero e v = omega arith
length-code file s a (suc n) e v = elim (cases_Bool (nat_lt (a - s.vaddr) s.filesz)) [
  | inl t ↦ (let l = ltb-true (a - s.vaddr) s.filesz t in
      let r = length-code file s (a + 1) n e (omega arith) in
      ap length (cond-true (is_exec_in a s) _ _ (backed_yes (is_load s && is_code s) s.vaddr a s.filesz e v l)) ∙ omega (arith, r))
  | inr f ↦ (let l = ltb-false (a - s.vaddr) s.filesz f in
      ap length (cond-false (is_exec_in a s) _ _ (backed_no (is_load s && is_code s) s.vaddr a s.filesz l)) ∙ omega arith)
]

-- what is found in a list passes the test, with one more element in front too
found_step : {X : Type 0} (p : X → Bool) (x y : X) (o : Option X) (b : Bool) → p x ≡ b → (o ≡ Some y → p y ≡ true) → cond b (Some x) o ≡ Some y → p y ≡ true
found_step p x y o true e f h = let k : x ≡ y = cc in ap p (sym k) ∙ e
found_step p x y o false e f h = f h

-- what is found passes the test
pub found_passes : {X : Type 0} (p : X → Bool) (xs : List X) (y : X) → find p xs ≡ Some y → p y ≡ true
found_passes p [] y h = absurd cc
found_passes p (x ∷ xs) y h = found_step p x y (find p xs) (p x) refl (λ e. found_passes p xs y e) h

-- a byte that is executed from a segment is one of a PT_LOAD of code, and lies between its first and its last in the file
exec_parts : (a : ℕ) (s : Segment) → is_exec_in a s ≡ true → ((is_load s && is_code s) ≡ true) × (s.vaddr ≤ a) × (a - s.vaddr < s.filesz)
exec_parts a s e =
    let k = and_parts (is_load s && is_code s) (is_backed s a) e in
    let m = and_parts (nat_le s.vaddr a) (nat_lt (a - s.vaddr) s.filesz) k.1 in
    (k.0, leb-true s.vaddr a m.0, ltb-true (a - s.vaddr) s.filesz m.1)

-- a window in the segment that is found at an address is as long as the file has bytes of that segment, at most 15
window_by : (file : List ℕ) (a : ℕ) (o : Option Segment) → ((s : Segment) → o ≡ Some s → is_exec_in a s ≡ true) → length (code_of file a o) ≡ min 15 (left_in a o)
window_by file a None e = omega arith
window_by file a (Some s) e = let p = exec_parts a s (e s refl) in length-code file s a 15 p.0 p.1

-- a window is as long as the file has bytes of its segment from the address on, at most 15
pub length-window : (file : List ℕ) (a : ℕ) → length (window file a) ≡ min 15 (backed_bytes file a)
unfolding backed_bytes
length-window file a = window_by file a (find (is_exec_in a) (segments file)) (λ s e. found_passes (is_exec_in a) (segments file) s e)

-- a window has at most 15 bytes
pub window_short : (file : List ℕ) (a : ℕ) → length (window file a) ≤ 15
window_short file a = omega (arith, length-window file a)

-- where the byte can be executed, the window has it
left_some : (a : ℕ) (o : Option Segment) → ((s : Segment) → o ≡ Some s → is_exec_in a s ≡ true) → is_some o ≡ true → 0 < left_in a o
left_some a None e h = absurd cc
left_some a (Some s) e h = let p = exec_parts a s (e s refl) in omega (arith, p.1, p.2)

-- where an address can be executed, the file has a byte of its segment from there on
pub backed_some : (file : List ℕ) (a : ℕ) → is_exec file a ≡ true → 0 < backed_bytes file a
unfolding backed_bytes
backed_some file a h = left_some a (find (is_exec_in a) (segments file)) (λ s e. found_passes (is_exec_in a) (segments file) s e) (sym (any_found (is_exec_in a) (segments file)) ∙ h)

-- where no segment is found, none of its bytes is left
left_none : (a : ℕ) (o : Option Segment) → is_some o ≡ false → left_in a o ≡ 0
left_none a None h = refl
left_none a (Some s) h = absurd cc

-- where a byte can't be executed, no byte of its segment is counted
backed_none : (file : List ℕ) (a : ℕ) → is_exec file a ≡ false → backed_bytes file a ≡ 0
unfolding backed_bytes
backed_none file a h = left_none a (find (is_exec_in a) (segments file)) (sym (any_found (is_exec_in a) (segments file)) ∙ h)

-- where the window has a byte, the first can be executed
pub exec_window : (file : List ℕ) (a : ℕ) → eqb (length (window file a)) 0 ≡ false → is_exec file a ≡ true
exec_window file a l = elim (cases_Bool (is_exec file a)) [
  | inl t ↦ t
  | inr f ↦ (let z = backed_none file a f in absurd (eqb-false (length (window file a)) 0 l (omega (arith, z, length-window file a))))
]

-- where the window at an address has no byte, the byte there can't be executed
pub idle_window : (file : List ℕ) (a : ℕ) → length (window file a) ≡ 0 → is_exec file a ≡ false
idle_window file a l = elim (cases_Bool (is_exec file a)) [
  | inl t ↦ (let b = backed_some file a t in absurd (omega (arith, b, l, length-window file a)))
  | inr f ↦ f
]
