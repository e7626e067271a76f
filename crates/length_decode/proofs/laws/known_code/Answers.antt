use Rattle.length_decode.proofs.NumberedOpcodes.{formed_branch, formed_constant}
use Rattle.std.proofs.Common.{refl}
use Rattle.length_decode.proofs.laws.known_code.Goals as goal

pub returns : goal.returns
returns c =
    record {
      jump = λ a b c d. record { prefixes = refl; escape = refl; opcode = refl; known = refl; modrm = refl; operand = refl; imm = refl };
      branch = formed_branch;
      constant_is = formed_constant;
      mark = λ a b c d e. record { prefixes = refl; escape = refl; opcode = refl; known = refl; modrm = refl; operand = (refl, refl); imm = refl };
      load = λ a b c d. record { prefixes = refl; escape = refl; opcode = refl; known = refl; modrm = refl; operand = (refl, refl); imm = refl };
    }
