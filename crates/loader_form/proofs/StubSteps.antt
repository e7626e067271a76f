-- The steps of the stub's instructions.
use Rattle.std.proofs.Common.{◌≡◌, ◌⊎◌, inl, inr, ℕ, ◌+◌, ◌*◌, ◌-◌, ◌%◌, ◌^◌, ◌<◌, ◌≤◌, Bool, true, false, cond, List, [], ◌∷◌, length, Some, None, Ok, refl, sym, ap, ◌∙◌, subst, arith}
use Rattle.std.specs.Prelude.{unwrap_or}
use Rattle.std.specs.Int.{cast_signed, w32}
use Rattle.cpu_alu.specs.declared.operation.Width.TheVariants.{W32, W64}
use Rattle.cpu_alu.specs.Widths.{cut}
use Rattle.cpu_state.specs.Bytes.{advanced, lacking, number_at, put_list, bytes_of}
use Rattle.cpu_state.specs.Fixed.{IsFixed}
use Rattle.length_decode.specs.declared.escape_bytes.Escape.TheVariants.{OneByte}
use Rattle.length_decode.specs.Spelling.{Fields, IsInstruction, spelling}
use Rattle.length_decode.specs.Forms.{system_call}
use Rattle.insn_form.specs.declared.form.Seg.TheVariants.{Plain}
use Rattle.insn_form.specs.declared.form.MemForm.{MemForm}
use Rattle.insn_form.specs.declared.form.Target.TheVariants.{Rel, Through}
use Rattle.insn_form.specs.declared.form.Spot.TheVariants.{Reg, Mem}
use Rattle.insn_form.specs.declared.form.Value.TheVariants as value
use Rattle.insn_form.specs.declared.form.Op.{Op}
use Rattle.insn_form.specs.declared.form.Op.TheVariants.{Mov, Lea, Widen, Loop, Jmp}
use Rattle.insn_form.specs.declared.form.Insn.{Insn}
use Rattle.insn_form.specs.declared.form.Insn.TheVariants.{Exact}
use Rattle.insn_form.specs.Operands.{word_of, reg, with_reg, place}
use Rattle.insn_form.specs.Moves.{sign_filled}
use Rattle.insn_form.specs.Branches.{is_empty}
use Rattle.insn_form.specs.Classes.{template}
use Rattle.insn_form.specs.Filling.{filled, integer_of, immediate}
use Rattle.insn_form.specs.Instruction.{insn_of}
use Rattle.insn_form.specs.Resolving.{absolute, resolved_insn}
use Rattle.insn_form.specs.Meaning.{effect}
use Rattle.insn_form.specs.Plan.{number_in}
use Rattle.insn_form.specs.Machine.{Machine, act}
use Rattle.insn_form.specs.Step.{IsAt, StepsBy, next_after, task_of, question_of}
use Rattle.insn_form.specs.Runs.{nowhere}
use Rattle.insn_form.specs.Exactly.{after_op, HasOperands}
use Rattle.insn_form.proofs.TouchedMemory.{leaves_nowhere}
use Rattle.insn_form.proofs.TaskCopies.{low_word, four_signed}
use Rattle.insn_form.proofs.ExactSteps.{exact_acts}
use Rattle.relocate_insn.specs.Pieces.{four, jump_through}
use Rattle.relocate_insn.proofs.PieceSteps.{is_at, next_is, absolute_word, at_fixed, fixed_place, gone_to, through_fields, through_is, through_insn, ecx_word, moved_on}
use Rattle.loader_form.specs.Stub.{Used, Rax, code_of, rex_byte, modrm_byte, set_front, set_opcode, store, load, put_in, call_kernel, spread_sign, sign_to_ecx, if_zero, go_back, number_to_r8, number_to_rdi, to_the_end, read_place, read_size, read_offset, next_record}
use Rattle.loader_form.specs.Kernel.{is_syscall, IsAtCall}

-- a step of the machine that is no call
abbrev pub Own : Machine → Machine → Type 0
Own s t = (f : Fields) × StepsBy nowhere f s t × (is_syscall (insn_of f) ≡ false)

-- an instruction whose undefined flags are none makes its own step
own_here : (s : Machine) (f : Fields) (plain op : Op) → IsAt s f → insn_of f ≡ Exact plain → resolved_insn (next_after s.rip f) (Exact plain) ≡ Exact op
    → HasOperands s (next_after s.rip f) op
    → ((effect op (next_after s.rip f) s.core).out (number_in s.mem (effect op (next_after s.rip f) s.core).read)).undefined ≡ 0
    → Own s (after_op s (next_after s.rip f) op)
own_here s f plain op at i r h u =
    let next = next_after s.rip f in
    let q = question_of f next in
    let e : resolved_insn next (insn_of f) ≡ Exact op = ap (resolved_insn next) i ∙ r in (
      f,
      record {
        at = at;
        apart = leaves_nowhere (task_of f next) next s;
        acts = subst (λ (z : Insn). act (record { insn = z; asks = q }) next s ≡ Ok (after_op s next op)) (sym e) (exact_acts s next op q h.read h.write u);
      },
      ap is_syscall i,
    )

-- the step of an operation that asks nothing, where its code stays
pub own_step : (v : Machine) (at : ℕ) (f : Fields) (plain op : Op) → IsInstruction f → at + length (spelling f) < 2 ^ 64 → v.rip ≡ at
    → IsFixed v.mem at (spelling f) → insn_of f ≡ Exact plain → resolved_insn (at + length (spelling f)) (Exact plain) ≡ Exact op
    → HasOperands v (at + length (spelling f)) op
    → ((effect op (at + length (spelling f)) v.core).out (number_in v.mem (effect op (at + length (spelling f)) v.core).read)).undefined ≡ 0
    → Own v (after_op v (at + length (spelling f)) op)
own_step v at f plain op i l r c e w h u =
    let n = sym (next_is v at f l r) in
    let w' = subst (λ (z : ℕ). resolved_insn z (Exact plain) ≡ Exact op) n w in
    let h' = subst (λ (z : ℕ). HasOperands v z op) n h in
    let u' = subst (λ (z : ℕ). ((effect op z v.core).out (number_in v.mem (effect op z v.core).read)).undefined ≡ 0) n u in
    subst (λ (z : ℕ). Own v (after_op v z op)) (sym n) (own_here v f plain op (is_at v at f i r c) e w' h' u')

-- a step to a state leads to each equal one
lands : {s t u : Machine} → t ≡ u → Own s t → Own s u
lands {s} e st = subst (λ (z : Machine). Own s z) e st

-- MOV [a], r
abbrev store_fields : Used → ℕ → Fields
store_fields r a =
    record { prefixes = rex_byte r ∷ []; escape = OneByte; opcode = 0x89; modrm = Some (modrm_byte r); sib = Some 0x25; disp = four a; imm = [] }

-- the MOV of a register to memory is an instruction
store_is : (r : Used) (a : ℕ) → IsInstruction (store_fields r a)
store_is Rax a = record {
  formed = record { prefixes = refl; escape = refl; opcode = refl; known = refl; modrm = refl; operand = (refl, refl); imm = refl };
  short = omega arith;
}
store_is r a = record {
  formed = record { prefixes = refl; escape = refl; opcode = refl; known = refl; modrm = refl; operand = (refl, refl); imm = refl };
  short = omega arith;
}

-- the MOV of a register to memory moves the register's 64 bits to the address
store_insn : (r : Used) (a : ℕ) → insn_of (store_fields r a) ≡ Exact (Mov W64 (Mem (at_fixed (four a))) (value.Spot (Reg (code_of r))))
unfolding template filled
store_insn Rax a = refl
store_insn r a = refl

-- the state after a store of a register
abbrev pub stored : Machine → Used → ℕ → ℕ → Machine
stored v r a rip = record { core = v.core; rip = rip; mem = put_list v.mem a (bytes_of 8 (reg v.core (code_of r) % 2 ^ 64)); world = v.world }

-- MOV [a], r stores the register's eight bytes
pub store_step : (v : Machine) (r : Used) (at a : ℕ) → at + 8 < 2 ^ 31 → a < 2 ^ 31 → v.rip ≡ at → lacking 2 v.mem a 8 ≡ None
    → IsFixed v.mem at (store r a) → Own v (stored v r a (at + 8))
unfolding effect
store_step v r at a l k h w c =
    let p = fixed_place v.core a k in
    let o = Mov W64 (Mem (at_fixed (four a))) (value.Spot (Reg (code_of r))) in
    let st = own_step v at (store_fields r a) o o (store_is r a) (omega arith) h c (store_insn r a) refl
    (record { read = refl; write = ap (λ z. lacking 2 v.mem z 8) p ∙ w }) refl in
    lands (λ j. stored v r (p j) (at + 8)) st

-- MOV r, [a]
abbrev load_fields : Used → ℕ → Fields
load_fields r a =
    record { prefixes = rex_byte r ∷ []; escape = OneByte; opcode = 0x8b; modrm = Some (modrm_byte r); sib = Some 0x25; disp = four a; imm = [] }

-- the MOV of memory to a register is an instruction
load_is : (r : Used) (a : ℕ) → IsInstruction (load_fields r a)
load_is Rax a = record {
  formed = record { prefixes = refl; escape = refl; opcode = refl; known = refl; modrm = refl; operand = (refl, refl); imm = refl };
  short = omega arith;
}
load_is r a = record {
  formed = record { prefixes = refl; escape = refl; opcode = refl; known = refl; modrm = refl; operand = (refl, refl); imm = refl };
  short = omega arith;
}

-- the MOV of memory to a register moves 64 bits from the address
load_insn : (r : Used) (a : ℕ) → insn_of (load_fields r a) ≡ Exact (Mov W64 (Reg (code_of r)) (value.Spot (Mem (at_fixed (four a)))))
unfolding template filled
load_insn Rax a = refl
load_insn r a = refl

-- the state after a load of a register
abbrev pub loaded : Machine → Used → ℕ → ℕ → Machine
loaded v r a rip = moved_on v (with_reg v.core (code_of r) (number_at v.mem a 8 % 2 ^ 64 % 2 ^ 64)) rip

-- MOV r, [a] loads the eight bytes at the address
pub load_step : (v : Machine) (r : Used) (at a : ℕ) → at + 8 < 2 ^ 31 → a < 2 ^ 31 → v.rip ≡ at → lacking 4 v.mem a 8 ≡ None
    → IsFixed v.mem at (load r a) → Own v (loaded v r a (at + 8))
unfolding effect
load_step v r at a l k h w c =
    let p = fixed_place v.core a k in
    let o = Mov W64 (Reg (code_of r)) (value.Spot (Mem (at_fixed (four a)))) in
    let st = own_step v at (load_fields r a) o o (load_is r a) (omega arith) h c (load_insn r a) refl
    (record { read = ap (λ z. lacking 4 v.mem z 8) p ∙ w; write = refl }) refl in
    lands (λ j. loaded v r (p j) (at + 8)) st

-- MOV r, n, of 32 bits
abbrev set_fields : Used → ℕ → Fields
set_fields r n = record { prefixes = set_front r; escape = OneByte; opcode = set_opcode r; modrm = None; sib = None; disp = []; imm = four n }

-- the MOV of a number to a register is an instruction
set_is : (r : Used) (a : ℕ) → IsInstruction (set_fields r a)
set_is Rax a = record {
  formed = record { prefixes = refl; escape = refl; opcode = refl; known = refl; modrm = refl; operand = refl; imm = refl };
  short = omega arith;
}
set_is r a = record {
  formed = record { prefixes = refl; escape = refl; opcode = refl; known = refl; modrm = refl; operand = refl; imm = refl };
  short = omega arith;
}

-- the MOV of a number to a register moves its 32 bits
set_insn : (r : Used) (n : ℕ) → insn_of (set_fields r n) ≡ Exact (Mov W32 (Reg (code_of r)) (value.Imm (immediate W32 (four n))))
unfolding template filled
set_insn Rax n = refl
set_insn r n = refl

-- the bytes that put a number in a register are the spelling of that MOV
set_spelled : (r : Used) (n : ℕ) → put_in r n ≡ spelling (set_fields r n)
set_spelled Rax n = refl
set_spelled r n = refl

-- the bytes that put a number in a register are six at most
set_length : (r : Used) (n : ℕ) → length (put_in r n) ≤ 6
set_length Rax n = omega arith
set_length r n = omega arith

-- the state after a number put into a register
abbrev pub set_to : Machine → Used → ℕ → ℕ → Machine
set_to v r n rip = moved_on v (with_reg v.core (code_of r) n) rip

-- MOV r, imm32 puts the number into the register
pub set_step : (v : Machine) (r : Used) (at n : ℕ) → at + 6 < 2 ^ 31 → n < 2 ^ 31 → v.rip ≡ at → IsFixed v.mem at (put_in r n)
    → Own v (set_to v r n (at + length (put_in r n)))
unfolding effect
set_step v r at n l k h c =
    let o = Mov W32 (Reg (code_of r)) (value.Imm (immediate W32 (four n))) in
    let e = set_spelled r n in
    let m = set_length r n in
    let long : length (put_in r n) ≡ length (spelling (set_fields r n)) = ap length e in
    let st = own_step v at (set_fields r n) o o (set_is r n) (omega (arith, long, m)) h (subst (λ (z : List ℕ). IsFixed v.mem at z) e c) (set_insn r n)
    refl (record { read = refl; write = refl }) refl in
    let q = ecx_word n k in
    lands (λ j. set_to v r (q j) (at + sym long j)) st

-- CQO: rdx is the sign of rax
abbrev spread_fields : Fields
spread_fields = record { prefixes = 0x48 ∷ []; escape = OneByte; opcode = 0x99; modrm = None; sib = None; disp = []; imm = [] }

-- CQO is an instruction
spread_is : IsInstruction spread_fields
spread_is = record {
  formed = record { prefixes = refl; escape = refl; opcode = refl; known = refl; modrm = refl; operand = refl; imm = refl };
  short = omega arith;
}

-- CQO widens rax to rdx and rax by its sign
spread_insn : insn_of spread_fields ≡ Exact (Widen W64 true)
unfolding template filled
spread_insn = refl

-- CQO puts the sign of rax into all bits of rdx
pub spread_step : (v : Machine) (at : ℕ) → at + 2 < 2 ^ 31 → v.rip ≡ at → IsFixed v.mem at spread_sign → Own v (moved_on v (with_reg v.core 2 (cut W64 (sign_filled W64 (reg v.core 0)))) (at + 2))
unfolding effect
spread_step v at l h c =
    own_step v at spread_fields (Widen W64 true) (Widen W64 true) spread_is (omega arith) h c spread_insn refl (record { read = refl; write = refl }) refl

-- MOV ecx, edx
abbrev sign_fields : Fields
sign_fields = record { prefixes = []; escape = OneByte; opcode = 0x89; modrm = Some 0xd1; sib = None; disp = []; imm = [] }

-- MOV ecx, edx is an instruction
sign_is : IsInstruction sign_fields
sign_is = record {
  formed = record { prefixes = refl; escape = refl; opcode = refl; known = refl; modrm = refl; operand = (refl, refl); imm = refl };
  short = omega arith;
}

-- MOV ecx, edx moves 32 bits
sign_insn : insn_of sign_fields ≡ Exact (Mov W32 (Reg 1) (value.Spot (Reg 2)))
unfolding template filled
sign_insn = refl

-- MOV ecx, edx puts the low half of rdx into rcx
pub sign_step : (v : Machine) (at : ℕ) → at + 2 < 2 ^ 31 → v.rip ≡ at → IsFixed v.mem at sign_to_ecx → Own v (moved_on v (with_reg v.core 1 (cut W32 (cut W32 (reg v.core 2)))) (at + 2))
unfolding effect
sign_step v at l h c =
    own_step v at sign_fields (Mov W32 (Reg 1) (value.Spot (Reg 2))) (Mov W32 (Reg 1) (value.Spot (Reg 2))) sign_is (omega arith) h c sign_insn refl (record { read = refl; write = refl }) refl

-- MOV r8, rax
abbrev to_r8_fields : Fields
to_r8_fields = record { prefixes = 0x49 ∷ []; escape = OneByte; opcode = 0x89; modrm = Some 0xc0; sib = None; disp = []; imm = [] }

-- MOV r8, rax is an instruction
to_r8_is : IsInstruction to_r8_fields
to_r8_is = record {
  formed = record { prefixes = refl; escape = refl; opcode = refl; known = refl; modrm = refl; operand = (refl, refl); imm = refl };
  short = omega arith;
}

-- MOV r8, rax moves 64 bits
to_r8_insn : insn_of to_r8_fields ≡ Exact (Mov W64 (Reg 8) (value.Spot (Reg 0)))
unfolding template filled
to_r8_insn = refl

-- MOV r8, rax
pub to_r8_step : (v : Machine) (at : ℕ) → at + 3 < 2 ^ 31 → v.rip ≡ at → IsFixed v.mem at number_to_r8 → Own v (moved_on v (with_reg v.core 8 (cut W64 (cut W64 (reg v.core 0)))) (at + 3))
unfolding effect
to_r8_step v at l h c =
    own_step v at to_r8_fields (Mov W64 (Reg 8) (value.Spot (Reg 0))) (Mov W64 (Reg 8) (value.Spot (Reg 0))) to_r8_is (omega arith) h c to_r8_insn refl (record { read = refl; write = refl }) refl

-- MOV rdi, r8
abbrev to_rdi_fields : Fields
to_rdi_fields = record { prefixes = 0x4c ∷ []; escape = OneByte; opcode = 0x89; modrm = Some 0xc7; sib = None; disp = []; imm = [] }

-- MOV rdi, r8 is an instruction
to_rdi_is : IsInstruction to_rdi_fields
to_rdi_is = record {
  formed = record { prefixes = refl; escape = refl; opcode = refl; known = refl; modrm = refl; operand = (refl, refl); imm = refl };
  short = omega arith;
}

-- MOV rdi, r8 moves 64 bits
to_rdi_insn : insn_of to_rdi_fields ≡ Exact (Mov W64 (Reg 7) (value.Spot (Reg 8)))
unfolding template filled
to_rdi_insn = refl

-- MOV rdi, r8
pub to_rdi_step : (v : Machine) (at : ℕ) → at + 3 < 2 ^ 31 → v.rip ≡ at → IsFixed v.mem at number_to_rdi → Own v (moved_on v (with_reg v.core 7 (cut W64 (cut W64 (reg v.core 8)))) (at + 3))
unfolding effect
to_rdi_step v at l h c =
    own_step v at to_rdi_fields (Mov W64 (Reg 7) (value.Spot (Reg 8))) (Mov W64 (Reg 7) (value.Spot (Reg 8))) to_rdi_is (omega arith) h c to_rdi_insn refl (record { read = refl; write = refl }) refl

-- an operand at rbx
abbrev at_rbx : List ℕ → ℕ → MemForm
at_rbx d tail = record { base = Some 3; index = None; scale = 1; disp = integer_of d; rip = false; seg = Plain; short = false; tail = tail }

-- MOV edi, [rbx]
abbrev place_fields : Fields
place_fields = record { prefixes = []; escape = OneByte; opcode = 0x8b; modrm = Some 0x3b; sib = None; disp = []; imm = [] }

-- MOV edi, [rbx] is an instruction
place_is : IsInstruction place_fields
place_is = record {
  formed = record { prefixes = refl; escape = refl; opcode = refl; known = refl; modrm = refl; operand = (refl, refl); imm = refl };
  short = omega arith;
}

-- MOV edi, [rbx] moves 32 bits from the record's first byte on
place_insn : insn_of place_fields ≡ Exact (Mov W32 (Reg 7) (value.Spot (Mem (at_rbx ([]) 1))))
unfolding template filled
place_insn = refl

-- MOV edi, [rbx] reads a record's place
pub place_step : (v : Machine) (at a x : ℕ) → at + 2 < 2 ^ 31 → a + 0 < 2 ^ 64 → v.rip ≡ at → reg v.core 3 ≡ a → lacking 4 v.mem (a) 4 ≡ None → number_at v.mem (a) 4 ≡ x → x < 2 ^ 32
    → IsFixed v.mem at read_place → Own v (moved_on v (with_reg v.core 7 x) (at + 2))
unfolding effect
place_step v at a x l k h b w e y c =
    let o = Mov W32 (Reg 7) (value.Spot (Mem (at_rbx ([]) 1))) in
    let p : place v.core (at_rbx ([]) 1) ≡ a = ap (λ z. ((z + 0 * 1 + 0) % 2 ^ 64 + 0) % 2 ^ 64) b ∙ (let q : ((a + 0 * 1 + 0) % 2 ^ 64 + 0) % 2 ^ 64 ≡ a = omega arith in q) in
    let st = own_step v at place_fields o o place_is (omega arith) h c place_insn refl (record { read = ap (λ z. lacking 4 v.mem z 4) p ∙ w; write = refl }) refl in
    let q : cut W32 (cut W32 (number_at v.mem (place v.core (at_rbx ([]) 1)) 4)) ≡ x = ap (λ z. cut W32 (cut W32 (number_at v.mem z 4))) p ∙ ap (λ z. cut W32 (cut W32 z)) e ∙ (let g : x % 2 ^ 32 % 2 ^ 32 ≡ x = omega arith in g) in
    lands (λ j. moved_on v (with_reg v.core 7 (q j)) (at + 2)) st

-- MOV esi, [rbx + 4]
abbrev size_fields : Fields
size_fields = record { prefixes = []; escape = OneByte; opcode = 0x8b; modrm = Some 0x73; sib = None; disp = 0x04 ∷ []; imm = [] }

-- MOV esi, [rbx + 4] is an instruction
size_is : IsInstruction size_fields
size_is = record {
  formed = record { prefixes = refl; escape = refl; opcode = refl; known = refl; modrm = refl; operand = (refl, refl); imm = refl };
  short = omega arith;
}

-- MOV esi, [rbx + 4] moves 32 bits from the record's byte 4 on
size_insn : insn_of size_fields ≡ Exact (Mov W32 (Reg 6) (value.Spot (Mem (at_rbx (0x04 ∷ []) 2))))
unfolding template filled
size_insn = refl

-- MOV esi, [rbx + 4] reads a record's size
pub size_step : (v : Machine) (at a x : ℕ) → at + 3 < 2 ^ 31 → a + 4 < 2 ^ 64 → v.rip ≡ at → reg v.core 3 ≡ a → lacking 4 v.mem (a + 4) 4 ≡ None → number_at v.mem (a + 4) 4 ≡ x → x < 2 ^ 32
    → IsFixed v.mem at read_size → Own v (moved_on v (with_reg v.core 6 x) (at + 3))
unfolding effect
size_step v at a x l k h b w e y c =
    let o = Mov W32 (Reg 6) (value.Spot (Mem (at_rbx (0x04 ∷ []) 2))) in
    let p : place v.core (at_rbx (0x04 ∷ []) 2) ≡ a + 4 = ap (λ z. ((z + 0 * 1 + 4) % 2 ^ 64 + 0) % 2 ^ 64) b ∙ (let q : ((a + 0 * 1 + 4) % 2 ^ 64 + 0) % 2 ^ 64 ≡ a + 4 = omega arith in q) in
    let st = own_step v at size_fields o o size_is (omega arith) h c size_insn refl (record { read = ap (λ z. lacking 4 v.mem z 4) p ∙ w; write = refl }) refl in
    let q : cut W32 (cut W32 (number_at v.mem (place v.core (at_rbx (0x04 ∷ []) 2)) 4)) ≡ x = ap (λ z. cut W32 (cut W32 (number_at v.mem z 4))) p ∙ ap (λ z. cut W32 (cut W32 z)) e ∙ (let g : x % 2 ^ 32 % 2 ^ 32 ≡ x = omega arith in g) in
    lands (λ j. moved_on v (with_reg v.core 6 (q j)) (at + 3)) st

-- MOV r9, [rbx + 8]
abbrev offset_fields : Fields
offset_fields = record { prefixes = 0x4c ∷ []; escape = OneByte; opcode = 0x8b; modrm = Some 0x4b; sib = None; disp = 0x08 ∷ []; imm = [] }

-- MOV r9, [rbx + 8] is an instruction
offset_is : IsInstruction offset_fields
offset_is = record {
  formed = record { prefixes = refl; escape = refl; opcode = refl; known = refl; modrm = refl; operand = (refl, refl); imm = refl };
  short = omega arith;
}

-- MOV r9, [rbx + 8] moves 64 bits from the record's byte 8 on
offset_insn : insn_of offset_fields ≡ Exact (Mov W64 (Reg 9) (value.Spot (Mem (at_rbx (0x08 ∷ []) 2))))
unfolding template filled
offset_insn = refl

-- MOV r9, [rbx + 8] reads a record's offset
pub offset_step : (v : Machine) (at a x : ℕ) → at + 4 < 2 ^ 31 → a + 8 < 2 ^ 64 → v.rip ≡ at → reg v.core 3 ≡ a → lacking 4 v.mem (a + 8) 8 ≡ None → number_at v.mem (a + 8) 8 ≡ x → x < 2 ^ 64
    → IsFixed v.mem at read_offset → Own v (moved_on v (with_reg v.core 9 x) (at + 4))
unfolding effect
offset_step v at a x l k h b w e y c =
    let o = Mov W64 (Reg 9) (value.Spot (Mem (at_rbx (0x08 ∷ []) 2))) in
    let p : place v.core (at_rbx (0x08 ∷ []) 2) ≡ a + 8 = ap (λ z. ((z + 0 * 1 + 8) % 2 ^ 64 + 0) % 2 ^ 64) b ∙ (let q : ((a + 0 * 1 + 8) % 2 ^ 64 + 0) % 2 ^ 64 ≡ a + 8 = omega arith in q) in
    let st = own_step v at offset_fields o o offset_is (omega arith) h c offset_insn refl (record { read = ap (λ z. lacking 4 v.mem z 8) p ∙ w; write = refl }) refl in
    let q : cut W64 (cut W64 (number_at v.mem (place v.core (at_rbx (0x08 ∷ []) 2)) 8)) ≡ x = ap (λ z. cut W64 (cut W64 (number_at v.mem z 8))) p ∙ ap (λ z. cut W64 (cut W64 z)) e ∙ (let g : x % 2 ^ 64 % 2 ^ 64 ≡ x = omega arith in g) in
    lands (λ j. moved_on v (with_reg v.core 9 (q j)) (at + 4)) st

-- LEA rbx, [rbx + 16]
abbrev next_fields : Fields
next_fields = record { prefixes = 0x48 ∷ []; escape = OneByte; opcode = 0x8d; modrm = Some 0x5b; sib = None; disp = 0x10 ∷ []; imm = [] }

-- LEA rbx, [rbx + 16] is an instruction
next_fits : IsInstruction next_fields
next_fits = record {
  formed = record { prefixes = refl; escape = refl; opcode = refl; known = refl; modrm = refl; operand = (refl, refl); imm = refl };
  short = omega arith;
}

-- LEA rbx, [rbx + 16] goes on to the next record
next_insn : insn_of next_fields ≡ Exact (Lea W64 3 (at_rbx (0x10 ∷ []) 2))
unfolding template filled
next_insn = refl

-- LEA rbx, [rbx + 16] goes on to the next record
pub next_step : (v : Machine) (at a : ℕ) → at + 4 < 2 ^ 31 → a + 16 < 2 ^ 64 → v.rip ≡ at → reg v.core 3 ≡ a → IsFixed v.mem at next_record
    → Own v (moved_on v (with_reg v.core 3 (a + 16)) (at + 4))
unfolding effect
next_step v at a l k h b c =
    let o = Lea W64 3 (at_rbx (0x10 ∷ []) 2) in
    let st = own_step v at next_fields o o next_fits (omega arith) h c next_insn refl (record { read = refl; write = refl }) refl in
    let q : (reg v.core 3 + 0 * 1 + 16) % 2 ^ 64 % 2 ^ 64 ≡ a + 16 = ap (λ z. (z + 0 * 1 + 16) % 2 ^ 64 % 2 ^ 64) b ∙ (let g : (a + 0 * 1 + 16) % 2 ^ 64 % 2 ^ 64 ≡ a + 16 = omega arith in g) in
    lands (λ j. moved_on v (with_reg v.core 3 (q j)) (at + 4)) st

-- LEA ecx, [rbx - end]
abbrev end_fields : ℕ → Fields
end_fields n = record { prefixes = []; escape = OneByte; opcode = 0x8d; modrm = Some 0x8b; sib = None; disp = four n; imm = [] }

-- LEA ecx, [rbx + n] is an instruction
end_fits : (n : ℕ) → IsInstruction (end_fields n)
end_fits n = record {
  formed = record { prefixes = refl; escape = refl; opcode = refl; known = refl; modrm = refl; operand = (refl, refl); imm = refl };
  short = omega arith;
}

-- LEA ecx, [rbx + n] adds the constant to rbx, in 32 bits
end_insn : (n : ℕ) → insn_of (end_fields n) ≡ Exact (Lea W32 1 (at_rbx (four n) 5))
unfolding template filled
end_insn n = refl

-- four bytes of a number with the top bit
high_word : (a : ℕ) → 2 ^ 31 ≤ a → a < 2 ^ 32 → word_of (integer_of (four a)) ≡ a + (2 ^ 64 - 2 ^ 32)
high_word a k h = ap word_of (four_signed a h) ∙ high (low_word a h)
  where
    high : ((a < 2 ^ 31) × (word_of (cast_signed w32 a) ≡ a)) ⊎ ((2 ^ 31 ≤ a) × (word_of (cast_signed w32 a) ≡ a + (2 ^ 64 - 2 ^ 32)))
        → word_of (cast_signed w32 a) ≡ a + (2 ^ 64 - 2 ^ 32)
    high (inl q) = absurd (omega (arith, q.0))
    high (inr q) = q.1

-- LEA ecx, [rbx - end] puts the distance from the records' end into rcx, modulo 2^32
pub end_step : (v : Machine) (at a end x : ℕ) → at + 6 < 2 ^ 31 → a ≤ end → 0 < end → end ≤ 2 ^ 31 → (a + 2 ^ 32 - end) % 2 ^ 32 ≡ x → v.rip ≡ at → reg v.core 3 ≡ a
    → IsFixed v.mem at (to_the_end end) → Own v (moved_on v (with_reg v.core 1 x) (at + 6))
unfolding effect
end_step v at a end x l k p r e h b c =
    let n = 2 ^ 32 - end in
    let o = Lea W32 1 (at_rbx (four n) 5) in
    let st = own_step v at (end_fields n) o o (end_fits n) (omega arith) h c (end_insn n) refl (record { read = refl; write = refl }) refl in
    let w : word_of (integer_of (four n)) ≡ n + (2 ^ 64 - 2 ^ 32) = high_word n (omega arith) (omega arith) in
    let q : (reg v.core 3 + 0 * 1 + word_of (integer_of (four n))) % 2 ^ 64 % 2 ^ 32 ≡ x = ap (λ z. (z + 0 * 1 + word_of (integer_of (four n))) % 2 ^ 64 % 2 ^ 32) b
    ∙ ap (λ z. (a + 0 * 1 + z) % 2 ^ 64 % 2 ^ 32) w ∙ (let g : (a + 0 * 1 + (n + (2 ^ 64 - 2 ^ 32))) % 2 ^ 64 % 2 ^ 32 ≡ x = omega (arith, e) in g) in
    lands (λ j. moved_on v (with_reg v.core 1 (q j)) (at + 6)) st

-- JRCXZ
abbrev zero_fields : ℕ → Fields
zero_fields n = record { prefixes = []; escape = OneByte; opcode = 0xe3; modrm = None; sib = None; disp = []; imm = n ∷ [] }

-- JRCXZ is an instruction
zero_is : (n : ℕ) → IsInstruction (zero_fields n)
zero_is n = record {
  formed = record { prefixes = refl; escape = refl; opcode = refl; known = refl; modrm = refl; operand = refl; imm = refl };
  short = omega arith;
}

-- JRCXZ jumps by its byte where rcx is 0
zero_insn : (n : ℕ) → insn_of (zero_fields n) ≡ Exact (Loop 3 (integer_of (n ∷ [])) false)
unfolding template filled
zero_insn n = refl

-- JRCXZ goes to its target where rcx is empty, and on otherwise
zero_by : (v : Machine) (at n : ℕ) (b : Bool) → at + 2 < 2 ^ 31 → v.rip ≡ at → is_empty false (reg v.core 1) ≡ b → IsFixed v.mem at (if_zero n)
    → Own v (gone_to v (unwrap_or (cond b (Some (word_of (absolute (at + 2) (integer_of (n ∷ []))))) None) (at + 2)))
unfolding effect
zero_by v at n b l h e c =
    let z = absolute (at + 2) (integer_of (n ∷ [])) in
    let st = own_step v at (zero_fields n) (Loop 3 (integer_of (n ∷ [])) false) (Loop 3 z false) (zero_is n) (omega arith) h c (zero_insn n) refl
    (record { read = refl; write = refl }) refl in
    lands (λ j. gone_to v (unwrap_or (cond (e j) (Some (word_of z)) None) (at + 2))) st

-- JRCXZ branches where rcx is 0
pub taken_step : (v : Machine) (at n target : ℕ) → at + 2 < 2 ^ 31 → v.rip ≡ at → reg v.core 1 ≡ 0 → advanced (at + 2) (word_of (integer_of (n ∷ []))) ≡ target
    → IsFixed v.mem at (if_zero n) → Own v (gone_to v target)
taken_step v at n target l h e g c =
    let st = zero_by v at n true l h (ap (is_empty false) e) c in
    let w : word_of (absolute (at + 2) (integer_of (n ∷ []))) ≡ target = absolute_word (at + 2) (integer_of (n ∷ [])) ∙ g in
    lands (λ j. gone_to v (w j)) st

-- JRCXZ passes on where rcx is not 0
pub passed_step : (v : Machine) (at n : ℕ) → at + 2 < 2 ^ 31 → v.rip ≡ at → is_empty false (reg v.core 1) ≡ false → IsFixed v.mem at (if_zero n) → Own v (gone_to v (at + 2))
passed_step v at n l h e c = zero_by v at n false l h e c

-- JMP by one byte
abbrev back_fields : ℕ → Fields
back_fields n = record { prefixes = []; escape = OneByte; opcode = 0xeb; modrm = None; sib = None; disp = []; imm = n ∷ [] }

-- JMP rel8 is an instruction
back_is : (n : ℕ) → IsInstruction (back_fields n)
back_is n = record {
  formed = record { prefixes = refl; escape = refl; opcode = refl; known = refl; modrm = refl; operand = refl; imm = refl };
  short = omega arith;
}

-- JMP rel8 jumps by its byte, read as a signed number
back_insn : (n : ℕ) → insn_of (back_fields n) ≡ Exact (Jmp (Rel (integer_of (n ∷ []))))
unfolding template filled
back_insn n = refl

-- JMP rel8 goes to its target
pub back_step : (v : Machine) (at n target : ℕ) → at + 2 < 2 ^ 31 → v.rip ≡ at → advanced (at + 2) (word_of (integer_of (n ∷ []))) ≡ target
    → IsFixed v.mem at (go_back n) → Own v (gone_to v target)
unfolding effect
back_step v at n target l h g c =
    let z = absolute (at + 2) (integer_of (n ∷ [])) in
    let st = own_step v at (back_fields n) (Jmp (Rel (integer_of (n ∷ [])))) (Jmp (Rel z)) (back_is n) (omega arith) h c (back_insn n) refl
    (record { read = refl; write = refl }) refl in
    let w : word_of z ≡ target = absolute_word (at + 2) (integer_of (n ∷ [])) ∙ g in
    lands (λ j. gone_to v (w j)) st

-- JMP [a]
pub leave_step : (v : Machine) (at a target : ℕ) → at + 7 < 2 ^ 31 → a < 2 ^ 31 → target < 2 ^ 64 → v.rip ≡ at → lacking 4 v.mem a 8 ≡ None → number_at v.mem a 8 ≡ target
    → IsFixed v.mem at (jump_through a) → Own v (gone_to v target)
unfolding effect
leave_step v at a target l k y h w e c =
    let p = fixed_place v.core a k in
    let o = Jmp (Through (Mem (at_fixed (four a)))) in
    let st = own_step v at (through_fields a) o o (through_is a) (omega arith) h c (through_insn a) refl
    (record { read = ap (λ z. lacking 4 v.mem z 8) p ∙ w; write = refl }) refl in
    let q : number_at v.mem (place v.core (at_fixed (four a))) 8 % 2 ^ 64 ≡ target = ap (λ z. number_at v.mem z 8 % 2 ^ 64) p ∙ ap (λ z. z % 2 ^ 64) e ∙ (let g : target % 2 ^ 64 ≡ target = omega arith in g) in
    lands (λ j. gone_to v (q j)) st

-- SYSCALL's fields are an instruction's
pub call_is : IsInstruction system_call
call_is = record {
  formed = record { prefixes = refl; escape = refl; opcode = refl; known = refl; modrm = refl; operand = refl; imm = refl };
  short = omega arith;
}

-- the instruction of these fields is SYSCALL
pub calls_kernel : is_syscall (insn_of system_call) ≡ true
unfolding template filled
calls_kernel = refl

-- where SYSCALL stands at the instruction pointer, the state is at a call
abbrev pub call_here : (v : Machine) (at : ℕ) → v.rip ≡ at → IsFixed v.mem at call_kernel → IsAtCall v
call_here v at h c = record { fields = system_call; at = is_at v at system_call call_is h c; calls = calls_kernel; plain = refl }
