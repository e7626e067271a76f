-- The bytes of an instruction with zeros for a RIP displacement.
use Rattle.std.proofs.Common.{◌≡◌, ℕ, ◌+◌, ◌≤◌, true, false, List, [], ◌∷◌, ◌++◌, length, take, drop, Some, None, sym, ap, ◌∙◌, arith}
use Rattle.std.proofs.lemmas.Bool.{cond-true, cond-false}
use Rattle.std.proofs.lemmas.Grind.{common_steps}
use Rattle.std.proofs.lemmas.List.{take_at, drop_at}
use Rattle.length_decode.specs.Spelling.{Fields, spelling, disp_at, IsInstruction, parts_of}
use Rattle.insn_form.specs.Classes.{has_rip}
use Rattle.cpu_state.specs.Bytes.{advanced}
use Rattle.cpu_state.specs.declared.world.Question.{Question}
use Rattle.insn_form.specs.Operands.{word_of}
use Rattle.insn_form.specs.Filling.{integer_of}
use Rattle.insn_form.specs.Step.{question_of}
use Rattle.insn_form.proofs.SpellingSlices.{imm_ends, disp_stands, head, split, split_after, head_length, rip_disp}

head_disp_length : (f : Fields) (n : ℕ) → length f.disp ≡ n → length (head f ++ f.disp) ≡ disp_at f + n
head_disp_length f n e = grind (arith, common_steps, head_length f)

abbrev zeros : List ℕ
zeros = 0 ∷ 0 ∷ 0 ∷ 0 ∷ []

-- The bytes with zeros in place of the four of the displacement spell the fields with zeros for it.
pub masked : (f : Fields) (bytes : List ℕ) (at : ℕ) → bytes ≡ spelling f → at ≡ disp_at f → length f.disp ≡ 4 → take at bytes ++ (zeros ++ drop (at + 4) bytes) ≡ spelling (record f { disp = zeros })
masked f bytes at b a l =
    let h : take at bytes ≡ head f = ap (take at) (b ∙ split f) ∙ take_at (head f) (f.disp ++ f.imm) at (head_length f ∙ sym a) in
    let t : drop (at + 4) bytes ≡ f.imm = ap (drop (at + 4)) (b ∙ split_after f) ∙ drop_at (head f ++ f.disp) f.imm (at + 4) (head_disp_length f 4 l ∙ ap (λ z. z + 4) (sym a)) in
    (λ i. h i ++ (zeros ++ t i)) ∙ sym (split (record f { disp = zeros }))

-- and lies in the spelling
pub rip_ends : (f : Fields) (bytes : List ℕ) (at : ℕ) → bytes ≡ spelling f → at ≡ disp_at f → length f.disp ≡ 4 → at + 4 ≤ length bytes
rip_ends f bytes at b a l = let e = imm_ends f in let k = ap length b in omega (arith, e, k, a, l)

-- what is asked with a RIP operand, and without one
pub asked_by_rip : (f : Fields) (bytes zs : List ℕ) (at next n : ℕ) → IsInstruction f → has_rip (parts_of f) ≡ true → bytes ≡ spelling f → at ≡ disp_at f → zs ≡ take at bytes ++ (zeros ++ drop (at + 4) bytes)
    → n ≡ advanced next (word_of (integer_of (take 4 (drop at bytes)))) → ◌≡◌ {A = Question} (record { bytes = zs; addr = Some n }) (question_of f next)
asked_by_rip f bytes zs at next n i h b a z e =
    let l = rip_disp f i h in
    let k = sym l in
    let z' = z ∙ masked f bytes at b a l in
    let d = (λ j. take (k j) (drop (a j) (b j))) ∙ disp_stands f in
    let e' = e ∙ ap (λ (x : List ℕ). advanced next (word_of (integer_of x))) d in
    (λ j. record { bytes = z' j; addr = Some (e' j) }) ∙ sym (cond-true (has_rip (parts_of f)) _ _ h)

-- Without a RIP operand the bytes are asked as they are, with no address.
pub asked_plainly : (f : Fields) (bytes zs : List ℕ) (next : ℕ) → has_rip (parts_of f) ≡ false → bytes ≡ spelling f → zs ≡ bytes → ◌≡◌ {A = Question} (record { bytes = zs; addr = None }) (question_of f next)
asked_plainly f bytes zs next h b z =
    let z' = z ∙ b in
    (λ j. record { bytes = z' j; addr = None }) ∙ sym (cond-false (has_rip (parts_of f)) _ _ h)
