-- Bytes that are the spelling of an instruction, whatever constants are in them.
use Rattle.std.proofs.Common.{refl, lit≤, []}
use Rattle.length_decode.specs.Spelling.{Fields, parts_of}
use Rattle.length_decode.specs.declared.escape_bytes.Escape.TheVariants.{OneByte}
use Rattle.std.specs.Prelude.{None}
use Rattle.length_decode.specs.Forms.{near_jump, constant, mark_byte}
use Rattle.length_decode.proofs.NumberedOpcodes.{formed_constant}
use Rattle.start_entries.specs.Laws.{AreCode}

abbrev one_byte : Fields
one_byte = record { prefixes = []; escape = OneByte; opcode = 0x90; modrm = None; sib = None; disp = []; imm = [] }

-- The bytes of a constant into a register, of the nop, of a jump by four bytes, and of a constant byte into memory spell instructions.
pub are_code : AreCode
are_code = record {
  constant = λ r a b c d h. (parts_of (constant r a b c d), record { fields = constant r a b c d; is = record { formed = formed_constant r a b c d h; short = lit≤ tt }; spelled = refl; divided = refl });
  nop = (parts_of one_byte, record { fields = one_byte; is = record { formed = record { prefixes = refl; escape = refl; opcode = refl; known = refl; modrm = refl; operand = refl; imm = refl }; short = lit≤ tt }; spelled = refl; divided = refl });
  jump = λ a b c d. (parts_of (near_jump a b c d), record { fields = near_jump a b c d; is = record { formed = record { prefixes = refl; escape = refl; opcode = refl; known = refl; modrm = refl; operand = refl; imm = refl }; short = lit≤ tt }; spelled = refl; divided = refl });
  mark = λ a b c d e. (parts_of (mark_byte a b c d e), record { fields = mark_byte a b c d e; is = record { formed = record { prefixes = refl; escape = refl; opcode = refl; known = refl; modrm = refl; operand = (refl, refl); imm = refl }; short = lit≤ tt }; spelled = refl; divided = refl });
}
