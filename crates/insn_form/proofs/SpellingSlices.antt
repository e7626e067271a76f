-- Where the displacement and the immediate stand in a spelling.
use Rattle.std.proofs.Common.{◌≡◌, ℕ, ◌+◌, ◌-◌, ◌/◌, ◌%◌, ◌≤◌, Bool, true, false, ◌&&◌, eqb, List, [], ◌∷◌, ◌++◌, length, take, drop, Option, Some, None, unwrap_or, option_to_list, refl, ap, ◌∙◌, arith}
use Rattle.std.proofs.lemmas.Grind.{common_steps}
use Rattle.std.proofs.lemmas.List.{take_at, drop_at}
use Rattle.length_decode.specs.Rules.{escape_bytes, row_after, disp_size}
use Rattle.length_decode.specs.Spelling.{Fields, spelling, disp_at, IsInstruction, HasOperand, parts_of}
use Rattle.insn_form.specs.Classes.{has_rip}

-- what stands before the displacement
abbrev pub head : Fields → List ℕ
head f = f.prefixes ++ (escape_bytes f.escape ++ (f.opcode ∷ (option_to_list f.modrm ++ option_to_list f.sib)))

-- a spelling is its head, the displacement and the immediate, in this order
pub split : (f : Fields) → spelling f ≡ head f ++ (f.disp ++ f.imm)
split f = simp common_steps refl

-- the head ends where the displacement begins
pub head_length : (f : Fields) → length (head f) ≡ disp_at f
head_length f = grind (arith, common_steps)

slice : (a b c : List ℕ) (n : ℕ) → length a ≡ n → take (length b) (drop n (a ++ (b ++ c))) ≡ b
slice a b c n e = ap (take (length b)) (drop_at a (b ++ c) n e) ∙ take_at b c (length b) refl

-- the displacement stands at its place in the spelling
pub disp_stands : (f : Fields) → take (length f.disp) (drop (disp_at f) (spelling f)) ≡ f.disp
disp_stands f = ap (λ bs. take (length f.disp) (drop (disp_at f) bs)) (split f) ∙ slice (head f) f.disp f.imm (disp_at f) (head_length f)

-- the immediate stands behind the displacement
pub imm_stands : (f : Fields) → take (length f.imm) (drop (disp_at f + length f.disp) (spelling f)) ≡ f.imm
imm_stands f =
    let e : spelling f ≡ (head f ++ f.disp) ++ (f.imm ++ []) = simp common_steps refl in
    let l : length (head f ++ f.disp) ≡ disp_at f + length f.disp = grind (arith, common_steps, head_length f) in
    ap (λ bs. take (length f.imm) (drop (disp_at f + length f.disp) bs)) e ∙ slice (head f ++ f.disp) f.imm [] (disp_at f + length f.disp) l

-- a spelling is what stands up to the displacement's end, and then the immediate
pub split_after : (f : Fields) → spelling f ≡ (head f ++ f.disp) ++ f.imm
split_after f = simp common_steps refl

-- a RIP displacement has four bytes
rip_disp_by : (needed : Bool) (modrm sib : Option ℕ) (disp : List ℕ) → HasOperand needed modrm sib disp
    → (eqb (unwrap_or modrm 0 / 64) 0 && eqb (unwrap_or modrm 0 % 8) 5) ≡ true → length disp ≡ 4
rip_disp_by false None None disp h t = absurd cc
rip_disp_by false None (Some s) disp h t = absurd h
rip_disp_by false (Some m) sib disp h t = absurd h
rip_disp_by true None sib disp h t = absurd h
rip_disp_by true (Some m) None disp h t = let e = h.1 in grind arith
rip_disp_by true (Some m) (Some s) disp h t = let e = h.0 in absurd (grind arith)

-- the displacement of an operand relative to RIP has four bytes
pub rip_disp : (f : Fields) → IsInstruction f → has_rip (parts_of f) ≡ true → length f.disp ≡ 4
rip_disp f i h = rip_disp_by (row_after f.escape f.opcode).modrm f.modrm f.sib f.disp i.formed.operand h

-- a displacement has at most four bytes
size_small : (m : ℕ) (sib : Option ℕ) → disp_size m sib ≤ 4
size_small m sib = grind (arith)

disp_small_by : (needed : Bool) (modrm sib : Option ℕ) (disp : List ℕ) → HasOperand needed modrm sib disp → length disp ≤ 4
disp_small_by false None None disp h = omega arith
disp_small_by false None (Some s) disp h = absurd h
disp_small_by false (Some m) sib disp h = absurd h
disp_small_by true None sib disp h = absurd h
disp_small_by true (Some m) sib disp h = let s = size_small m sib in let e = h.1 in omega arith

-- the displacement of an instruction has at most four bytes
pub disp_small : (f : Fields) → IsInstruction f → length f.disp ≤ 4
disp_small f i = disp_small_by (row_after f.escape f.opcode).modrm f.modrm f.sib f.disp i.formed.operand

-- the immediate ends where the spelling does
pub imm_ends : (f : Fields) → disp_at f + length f.disp + length f.imm ≡ length (spelling f)
imm_ends f = grind (arith, common_steps)

-- the displacement is the slice of the spelling at its place
pub disp_slice : (f : Fields) (bytes : List ℕ) (p n : ℕ) → bytes ≡ spelling f → p ≡ disp_at f → n ≡ length f.disp → take (p + n - p) (drop p bytes) ≡ f.disp
disp_slice f bytes p n e a b = let w : p + n - p ≡ length f.disp = omega (arith, b) in rw (w, a, e) (disp_stands f)

-- the immediate is the slice of the spelling at its place
pub imm_slice : (f : Fields) (bytes : List ℕ) (p n : ℕ) → bytes ≡ spelling f → p ≡ disp_at f + length f.disp → n ≡ length f.imm → take (p + n - p) (drop p bytes) ≡ f.imm
imm_slice f bytes p n e a b = let w : p + n - p ≡ length f.imm = omega (arith, b) in rw (w, a, e) (imm_stands f)
