-- The fields that the code's slices stand for. Contracts of private functions alone cite it.
use Rattle.length_decode.specs.declared.field_bytes.Fields as bytes
use Rattle.length_decode.specs.Spelling.{Fields}

-- the fields, each slice by its bytes
abbrev pub fields_of : bytes.Fields → Fields
fields_of f = record { prefixes = f.prefixes.now; escape = f.escape; opcode = f.opcode; modrm = f.modrm; sib = f.sib; disp = f.disp.now; imm = f.imm.now }
