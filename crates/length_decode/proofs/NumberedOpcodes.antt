-- Opcodes with a number in them.
use Rattle.std.proofs.Common.{◌≡◌, ℕ, zero, suc, ◌+◌, ◌<◌, refl, ap, arith}
use Rattle.std.proofs.lemmas.Bool.Decides.{nat_tests}
use Rattle.insn_tables.specs.Rows.{plain, row_of}
use Rattle.insn_tables.specs.declared.table_row.Imm.TheVariants.{V}
use Rattle.length_decode.specs.Spelling.{IsFormed}
use Rattle.length_decode.specs.Forms.{near_branch, constant}

-- after each opcode of a move of a constant to a register the constant follows
pub constant_row : (r : ℕ) → r < 8 → row_of 0 (0xb8 + r) ≡ plain V
constant_row zero h = refl
constant_row (suc zero) h = refl
constant_row (suc (suc zero)) h = refl
constant_row (suc (suc (suc zero))) h = refl
constant_row (suc (suc (suc (suc zero)))) h = refl
constant_row (suc (suc (suc (suc (suc zero))))) h = refl
constant_row (suc (suc (suc (suc (suc (suc zero)))))) h = refl
constant_row (suc (suc (suc (suc (suc (suc (suc zero))))))) h = refl
constant_row (suc (suc (suc (suc (suc (suc (suc (suc r)))))))) h = absurd (omega arith)

-- a constant of four bytes into one of eight registers is formed, whatever the bytes are
pub formed_constant : (r a b c d : ℕ) → r < 8 → IsFormed (constant r a b c d)
formed_constant r a b c d h =
    let row = constant_row r h in
    record { prefixes = refl; escape = refl; opcode = grind (arith, nat_tests); known = ap (λ t. t.known) row; modrm = refl; operand = rw row refl; imm = rw row refl }

-- a conditional branch by four bytes, of one of sixteen conditions, is formed, whatever the bytes are
pub formed_branch : (cc a b c d : ℕ) → cc < 16 → IsFormed (near_branch cc a b c d)
formed_branch cc a b c d h = record { prefixes = refl; escape = refl; opcode = grind (arith, nat_tests); known = grind (arith, nat_tests); modrm = refl; operand = grind (arith, nat_tests); imm = grind (arith, nat_tests) }
