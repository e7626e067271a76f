-- The parts of the bytes of one instruction.
use Rattle.std.proofs.Common.{◌≡◌, ℕ, ◌+◌, ◌≤◌, true, List, [], ◌++◌, length, take, drop, sym, ap, ◌∙◌, arith}
use Rattle.std.proofs.lemmas.List.{take_at, drop_at}
use Rattle.std.proofs.lemmas.Grind.{common_steps}
use Rattle.length_decode.specs.declared.instruction_parts.Parts.{Parts}
use Rattle.length_decode.specs.Spelling.{Fields, IsInstruction, IsSpelling, spelling, disp_at, parts_of}
use Rattle.length_decode.proofs.ShapeAnswers.{one_fields}
use Rattle.insn_form.specs.Classes.{has_rip}
use Rattle.insn_form.specs.Filling.{integer_of}
use Rattle.insn_form.specs.Displacing.{goes_to}
use Rattle.insn_form.proofs.SpellingSlices.{imm_ends, disp_stands, head, split, split_after, head_length, rip_disp}
use Rattle.insn_form.specs.Moved.{named}

-- what is appended to what was appended is appended together
pub grown : (a x y b c : List ℕ) → b ≡ a ++ x → c ≡ b ++ y → c ≡ a ++ (x ++ y)
grown a x y b c e h = grind (arith, common_steps)

-- the parts of an instruction's bytes are those of its fields
pub one_parts : (f : Fields) (bytes : List ℕ) (p : Parts) → IsSpelling bytes p → IsInstruction f → bytes ≡ spelling f → p ≡ parts_of f
one_parts f bytes p h i b = h.divided ∙ ap parts_of (sym (one_fields f h.fields [] [] i.formed h.is.formed (ap (λ bs. bs ++ []) (sym b ∙ h.spelled))))

-- a RIP displacement lies in the bytes
pub rip_ends : (f : Fields) (bytes : List ℕ) (at : ℕ) → IsInstruction f → has_rip (parts_of f) ≡ true → bytes ≡ spelling f → at ≡ disp_at f → at + 4 ≤ length bytes
rip_ends f bytes at i h b a = let l = rip_disp f i h in let e = imm_ends f in let k = ap length b in omega (arith, e, k, a, l)

-- the address that a RIP operand names, from the four bytes at the displacement's place
pub named_is : (f : Fields) (bytes : List ℕ) (at next n : ℕ) → IsInstruction f → has_rip (parts_of f) ≡ true → bytes ≡ spelling f → at ≡ disp_at f → n ≡ goes_to next (integer_of (take 4 (drop at bytes))) → n ≡ named f next
named_is f bytes at next n i h b a e =
    let k = sym (rip_disp f i h) in
    let d = (λ j. take (k j) (drop (a j) (b j))) ∙ disp_stands f in
    e ∙ ap (λ (x : List ℕ). goes_to next (integer_of x)) d

head_disp_length : (f : Fields) → length (head f ++ f.disp) ≡ disp_at f + length f.disp
head_disp_length f = grind (arith, common_steps, head_length f)

-- the bytes before the displacement are the head
pub front_is : (f : Fields) (bytes : List ℕ) (at : ℕ) → bytes ≡ spelling f → at ≡ disp_at f → take at bytes ≡ head f
front_is f bytes at b a = ap (take at) (b ∙ split f) ∙ take_at (head f) (f.disp ++ f.imm) at (head_length f ∙ sym a)

-- the bytes behind the displacement are the immediate
pub rest_is : (f : Fields) (bytes : List ℕ) (at : ℕ) → bytes ≡ spelling f → at ≡ disp_at f + length f.disp → drop at bytes ≡ f.imm
rest_is f bytes at b a = ap (drop at) (b ∙ split_after f) ∙ drop_at (head f ++ f.disp) f.imm at (head_disp_length f ∙ sym a)

-- the bytes at the displacement's place are the displacement
pub disp_is : (f : Fields) (bytes : List ℕ) (at n : ℕ) → bytes ≡ spelling f → at ≡ disp_at f → n ≡ length f.disp → take n (drop at bytes) ≡ f.disp
disp_is f bytes at n b a e = (λ j. take (e j) (drop (a j) (b j))) ∙ disp_stands f
