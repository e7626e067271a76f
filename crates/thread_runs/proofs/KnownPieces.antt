-- Pieces of relocated code as known code.
use Rattle.std.proofs.Common.{◌≡◌, ℕ, zero, suc, ◌+◌, ◌*◌, ◌%◌, ◌^◌, ◌<◌, Bool, true, false, cond, eqb, [], ◌∷◌, ◌++◌, length, Some, None, refl, ap, subst, arith}
use Rattle.std.specs.Prelude.{nat_lt}
use Rattle.cpu_alu.specs.declared.operation.Width.TheVariants.{W32, W64}
use Rattle.cpu_state.specs.Fixed.{IsFixed}
use Rattle.length_decode.specs.declared.escape_bytes.Escape.TheVariants.{OneByte}
use Rattle.length_decode.specs.Spelling.{Fields, IsInstruction, parts_of}
use Rattle.insn_form.specs.declared.form.Spot.TheVariants.{Reg, Mem}
use Rattle.insn_form.specs.declared.form.Target.TheVariants.{Rel, Through}
use Rattle.insn_form.specs.declared.form.Value.TheVariants as value
use Rattle.insn_form.specs.declared.form.Op.{Op}
use Rattle.insn_form.specs.declared.form.Op.TheVariants.{Mov, Push, Jmp, Call}
use Rattle.insn_form.specs.declared.form.Insn.TheVariants.{Exact}
use Rattle.insn_form.specs.Classes.{template, mod_of}
use Rattle.insn_form.specs.Filling.{filled, integer_of, immediate, rm_code, mem_form}
use Rattle.insn_form.specs.Instruction.{insn_of}
use Rattle.insn_form.specs.Resolving.{absolute, resolved_insn}
use Rattle.insn_form.specs.Meaning.{effect}
use Rattle.insn_form.specs.Machine.{Machine}
use Rattle.insn_form.specs.Moved.{rel_bytes}
use Rattle.event_steps.specs.ThreadSteps.{thread_task}
use Rattle.relocate_insn.specs.Pieces.{four, jump_code, push_code, ecx_code}
use Rattle.relocate_insn.proofs.RelocatedLengths.{call_spot}
use Rattle.relocate_insn.proofs.PieceSteps.{jump_fields, jump_is, jump_insn, push_fields, push_is, push_insn, ecx_fields, ecx_is, ecx_insn}
use Rattle.thread_runs.specs.ThreadCode.{jump_reg}
use Rattle.event_steps.proofs.KnownCodeSteps.{IsKnown, known_fixed}

-- JMP rel32
abbrev pub jump_op : ℕ → ℕ → Op
jump_op at target = Jmp (Rel (absolute (at + 5) (integer_of (rel_bytes (at + 5) target))))

-- where the code of a jump to a target stands, JMP to it is the next instruction
pub known_jump : (v : Machine) (at target : ℕ) → at + 5 < 2 ^ 31 → v.rip ≡ at → IsFixed v.mem at (jump_code at target) → IsKnown v (jump_fields (rel_bytes (at + 5) target)) (at + 5) (jump_op at target)
unfolding effect
known_jump v at target l r c =
    known_fixed v at (jump_fields (rel_bytes (at + 5) target)) (at + 5) (jump_op at target) (jump_is _ _ _ _) r c refl (omega arith) (ap (resolved_insn (at + 5)) (jump_insn (rel_bytes (at + 5) target))) (λ x. refl) refl

-- PUSH imm32
abbrev pub push_op : ℕ → Op
push_op n = Push (value.Imm (immediate W64 (four n)))

-- where the code that pushes a number stands, its PUSH is the next instruction
pub known_push : (v : Machine) (at n : ℕ) → at + 5 < 2 ^ 31 → v.rip ≡ at → IsFixed v.mem at (push_code n) → IsKnown v (push_fields n) (at + 5) (push_op n)
unfolding effect
known_push v at n l r c = known_fixed v at (push_fields n) (at + 5) (push_op n) (push_is n) r c refl (omega arith) (ap (resolved_insn (at + 5)) (push_insn n)) (λ x. refl) refl

-- MOV ecx, imm32
abbrev pub ecx_op : ℕ → Op
ecx_op n = Mov W32 (Reg 1) (value.Imm (immediate W32 (four n)))

-- where the code that moves a number to ecx stands, that MOV is the next instruction
pub known_ecx : (v : Machine) (at n : ℕ) → at + 5 < 2 ^ 31 → v.rip ≡ at → IsFixed v.mem at (ecx_code n) → IsKnown v (ecx_fields n) (at + 5) (ecx_op n)
unfolding effect
known_ecx v at n l r c = known_fixed v at (ecx_fields n) (at + 5) (ecx_op n) (ecx_is n) r c refl (omega arith) (ap (resolved_insn (at + 5)) (ecx_insn n)) (λ x. refl) refl

-- JMP to a register
abbrev pub reg_fields : ℕ → Fields
reg_fields r = record { prefixes = cond (nat_lt r 8) [] (0x41 ∷ []); escape = OneByte; opcode = 0xff; modrm = Some (0xe0 + r % 8); sib = None; disp = []; imm = [] }

-- the bytes of a jump to a register are an instruction, that jump
reg_is : (r : ℕ) → r < 16 → IsInstruction (reg_fields r) × ((n : ℕ) → (thread_task (reg_fields r) n).insn ≡ Exact (Jmp (Through (Reg r))))
unfolding template filled
reg_is zero h = (record { formed = record { prefixes = refl; escape = refl; opcode = refl; known = refl; modrm = refl; operand = (refl, refl); imm = refl }; short = omega arith }, λ n. refl)
reg_is (suc zero) h =
    (record { formed = record { prefixes = refl; escape = refl; opcode = refl; known = refl; modrm = refl; operand = (refl, refl); imm = refl }; short = omega arith }, λ n. refl)
reg_is (suc (suc zero)) h =
    (record { formed = record { prefixes = refl; escape = refl; opcode = refl; known = refl; modrm = refl; operand = (refl, refl); imm = refl }; short = omega arith }, λ n. refl)
reg_is (suc (suc (suc zero))) h =
    (record { formed = record { prefixes = refl; escape = refl; opcode = refl; known = refl; modrm = refl; operand = (refl, refl); imm = refl }; short = omega arith }, λ n. refl)
reg_is (suc (suc (suc (suc zero)))) h =
    (record { formed = record { prefixes = refl; escape = refl; opcode = refl; known = refl; modrm = refl; operand = (refl, refl); imm = refl }; short = omega arith }, λ n. refl)
reg_is (suc (suc (suc (suc (suc zero))))) h =
    (record { formed = record { prefixes = refl; escape = refl; opcode = refl; known = refl; modrm = refl; operand = (refl, refl); imm = refl }; short = omega arith }, λ n. refl)
reg_is (suc (suc (suc (suc (suc (suc zero)))))) h =
    (record { formed = record { prefixes = refl; escape = refl; opcode = refl; known = refl; modrm = refl; operand = (refl, refl); imm = refl }; short = omega arith }, λ n. refl)
reg_is (suc (suc (suc (suc (suc (suc (suc zero))))))) h =
    (record { formed = record { prefixes = refl; escape = refl; opcode = refl; known = refl; modrm = refl; operand = (refl, refl); imm = refl }; short = omega arith }, λ n. refl)
reg_is (suc (suc (suc (suc (suc (suc (suc (suc zero)))))))) h =
    (record { formed = record { prefixes = refl; escape = refl; opcode = refl; known = refl; modrm = refl; operand = (refl, refl); imm = refl }; short = omega arith }, λ n. refl)
reg_is (suc (suc (suc (suc (suc (suc (suc (suc (suc zero))))))))) h =
    (record { formed = record { prefixes = refl; escape = refl; opcode = refl; known = refl; modrm = refl; operand = (refl, refl); imm = refl }; short = omega arith }, λ n. refl)
reg_is (suc (suc (suc (suc (suc (suc (suc (suc (suc (suc zero)))))))))) h =
    (record { formed = record { prefixes = refl; escape = refl; opcode = refl; known = refl; modrm = refl; operand = (refl, refl); imm = refl }; short = omega arith }, λ n. refl)
reg_is (suc (suc (suc (suc (suc (suc (suc (suc (suc (suc (suc zero))))))))))) h =
    (record { formed = record { prefixes = refl; escape = refl; opcode = refl; known = refl; modrm = refl; operand = (refl, refl); imm = refl }; short = omega arith }, λ n. refl)
reg_is (suc (suc (suc (suc (suc (suc (suc (suc (suc (suc (suc (suc zero)))))))))))) h =
    (record { formed = record { prefixes = refl; escape = refl; opcode = refl; known = refl; modrm = refl; operand = (refl, refl); imm = refl }; short = omega arith }, λ n. refl)
reg_is (suc (suc (suc (suc (suc (suc (suc (suc (suc (suc (suc (suc (suc zero))))))))))))) h =
    (record { formed = record { prefixes = refl; escape = refl; opcode = refl; known = refl; modrm = refl; operand = (refl, refl); imm = refl }; short = omega arith }, λ n. refl)
reg_is (suc (suc (suc (suc (suc (suc (suc (suc (suc (suc (suc (suc (suc (suc zero)))))))))))))) h =
    (record { formed = record { prefixes = refl; escape = refl; opcode = refl; known = refl; modrm = refl; operand = (refl, refl); imm = refl }; short = omega arith }, λ n. refl)
reg_is (suc (suc (suc (suc (suc (suc (suc (suc (suc (suc (suc (suc (suc (suc (suc zero))))))))))))))) h =
    (record { formed = record { prefixes = refl; escape = refl; opcode = refl; known = refl; modrm = refl; operand = (refl, refl); imm = refl }; short = omega arith }, λ n. refl)
reg_is (suc (suc (suc (suc (suc (suc (suc (suc (suc (suc (suc (suc (suc (suc (suc (suc n)))))))))))))))) h = absurd (omega arith)

-- a jump to a register has at most three bytes
pub reg_length : (b : Bool) (m : ℕ) → length (cond b [] (0x41 ∷ []) ++ 0xff ∷ m ∷ []) < 4
reg_length true m = omega arith
reg_length false m = omega arith

-- where the code of a jump to a register stands, JMP through it is the next instruction
pub known_reg : (v : Machine) (at r : ℕ) → r < 16 → at + 4 < 2 ^ 31 → v.rip ≡ at → IsFixed v.mem at (jump_reg r) → IsKnown v (reg_fields r) (at + length (jump_reg r)) (Jmp (Through (Reg r)))
unfolding effect
known_reg v at r h l p c =
    let q = reg_is r h in let n = reg_length (nat_lt r 8) (0xe0 + r % 8) in
    known_fixed v at (reg_fields r) (at + length (jump_reg r)) (Jmp (Through (Reg r))) q.0 p c refl (omega (arith, n)) (q.1 (at + length (jump_reg r))) (λ x. refl) refl

-- the register of a call is one of sixteen
code_small : (m r : ℕ) → m % 8 + 8 * (r % 2) < 16
code_small m r = omega arith

-- the register of a call through one is below 16
pub call_reg : (f : Fields) (r : ℕ) → insn_of f ≡ Exact (Call (Through (Reg r))) → r < 16
call_reg f r e = by_mod (eqb (mod_of (parts_of f)) 3) (call_spot (template (parts_of f)) (parts_of f) f.disp f.imm (Reg r) e)
  where
    by_mod : (b : Bool) → cond b (Reg (rm_code (parts_of f))) (Mem (mem_form (parts_of f) f.disp)) ≡ Reg r → r < 16
    by_mod true k = let n : rm_code (parts_of f) ≡ r = cc in subst (λ z. z < 16) n (code_small _ _)
    by_mod false k = absurd cc
