-- The spelling of an instruction: prefixes, opcode, ModRM, SIB, displacement and immediate, at most 15 bytes. Theorems cite it.
use Rattle.std.specs.Prelude.{◌≡◌, ℕ, ◌+◌, ◌<◌, ◌≤◌, Bool, true, false, nat_lt, List, ◌∷◌, ◌++◌, length, Option, Some, None, is_some, option_to_list}
use Rattle.std.specs.List.{list_all}
use Rattle.length_decode.specs.declared.instruction_parts.Parts.{Parts}
use Rattle.length_decode.specs.declared.prefix_bytes.Lead.{Lead}
use Rattle.length_decode.specs.declared.escape_bytes.Escape.{Escape}
use Rattle.length_decode.specs.Prefix.{is_prefix, prefixes_of, rex_of, lead_of}
use Rattle.length_decode.specs.Rules.{escape_bytes, map_of, row_after, allows_escape, allows_opcode, allows_modrm, reg_bits, needs_sib, disp_size, imm_size}

-- the bytes of an instruction, part by part
pub record Fields : Type 0 where
  pub prefixes : List ℕ
  pub escape : Escape
  pub opcode : ℕ
  pub modrm : Option ℕ
  pub sib : Option ℕ
  pub disp : List ℕ
  pub imm : List ℕ

-- its bytes in their order
abbrev pub spelling : Fields → List ℕ
spelling f = f.prefixes ++ (escape_bytes f.escape ++ (f.opcode ∷ (option_to_list f.modrm ++ (option_to_list f.sib ++ (f.disp ++ f.imm)))))

-- ModRM, SIB and displacement, where a ModRM byte is asked for or not
abbrev pub HasOperand : Bool → Option ℕ → Option ℕ → List ℕ → Type 0
HasOperand false None None disp = length disp ≡ 0
HasOperand false None (Some s) disp = ⊥
HasOperand false (Some m) sib disp = ⊥
HasOperand true None sib disp = ⊥
HasOperand true (Some m) sib disp = (is_some sib ≡ needs_sib m) × (length disp ≡ disp_size m sib)

-- the ModRM byte, if there is one, may stand there
abbrev pub allows_operand : Lead → Escape → ℕ → Option ℕ → Bool
allows_operand lead escape op None = true
allows_operand lead escape op (Some m) = allows_modrm lead escape op m

-- reg of the ModRM byte, and 0 without one
abbrev pub reg_of : Option ℕ → ℕ
reg_of None = 0
reg_of (Some m) = reg_bits m

-- the fields are those of an instruction, of any length
pub record IsFormed (f : Fields) : Type 0 where
  pub prefixes : list_all is_prefix f.prefixes ≡ true
  pub escape : allows_escape (lead_of f.prefixes) f.escape ≡ true
  pub opcode : allows_opcode (lead_of f.prefixes) f.escape f.opcode ≡ true
  pub known : (row_after f.escape f.opcode).known ≡ true
  pub modrm : allows_operand (lead_of f.prefixes) f.escape f.opcode f.modrm ≡ true
  pub operand : HasOperand (row_after f.escape f.opcode).modrm f.modrm f.sib f.disp
  pub imm : length f.imm ≡ imm_size (lead_of f.prefixes) (row_after f.escape f.opcode).imm (reg_of f.modrm)

-- and have at most 15 bytes
pub record IsInstruction (f : Fields) : Type 0 where
  pub formed : IsFormed f
  pub short : length (spelling f) ≤ 15

-- the place of the last opcode byte
abbrev pub opcode_at : Fields → ℕ
opcode_at f = length f.prefixes + length (escape_bytes f.escape)

-- the place where a displacement would stand
abbrev pub disp_at : Fields → ℕ
disp_at f = opcode_at f + 1 + length (option_to_list f.modrm) + length (option_to_list f.sib)

-- the parts of such fields
abbrev pub parts_of : Fields → Parts
parts_of f =
    record {
      len = length (spelling f);
      prefixes = prefixes_of f.prefixes;
      rex = rex_of f.prefixes;
      map = map_of f.escape;
      opcode_at = opcode_at f;
      opcode = f.opcode;
      modrm = f.modrm;
      sib = f.sib;
      disp_at = disp_at f;
      disp_len = length f.disp;
      imm_at = disp_at f + length f.disp;
      imm_len = length f.imm;
    }

-- the bytes are exactly the spelling of an instruction with these parts
pub record IsSpelling (bytes : List ℕ) (parts : Parts) : Type 0 where
  pub fields : Fields
  pub is : IsInstruction fields
  pub spelled : bytes ≡ spelling fields
  pub divided : parts ≡ parts_of fields

-- the bytes begin with the spelling of an instruction with these parts
pub record BeginsWith (bytes : List ℕ) (parts : Parts) : Type 0 where
  pub front : List ℕ
  pub rest : List ℕ
  pub joined : bytes ≡ front ++ rest
  pub spelled : IsSpelling front parts

-- further bytes make a spelling of the bytes
pub record IsContinued (bytes : List ℕ) : Type 0 where
  pub more : List ℕ
  pub are_bytes : list_all (λ b. nat_lt b 256) more ≡ true
  pub some : 0 < length more
  pub parts : Parts
  pub spelled : IsSpelling (bytes ++ more) parts

-- the bytes begin with no spelling
abbrev pub BeginsWithNone : List ℕ → Type 0
BeginsWithNone bytes = (parts : Parts) → BeginsWith bytes parts → ⊥

-- fewer than 15 bytes that begin with no spelling and are a proper prefix of one
pub record IsShort (bytes : List ℕ) : Type 0 where
  pub few : length bytes < 15
  pub none : BeginsWithNone bytes
  pub continued : IsContinued bytes
