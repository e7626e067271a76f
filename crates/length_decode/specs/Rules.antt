-- What follows what in a spelling, by the opcode, the ModRM byte and the SIB byte alone. Theorems cite it.
use Rattle.std.specs.Prelude.{ℕ, ◌/◌, ◌%◌, Bool, true, false, not, ◌&&◌, ◌||◌, nat_lt, ◌==◌, if◌then◌else◌, List, [], ◌∷◌, Option, Some, None}
use Rattle.insn_tables.specs.Rows.{within, among, row_of}
use Rattle.insn_tables.specs.declared.table_row.Imm.{Imm}
use Rattle.insn_tables.specs.declared.table_row.Imm.TheVariants.{NoImm, I8, I16, Z, V, Moffs, Rel8, Rel32, I16I8, Group8, GroupZ}
use Rattle.insn_tables.specs.declared.table_row.TableRow.{TableRow}
use Rattle.length_decode.specs.declared.prefix_bytes.Lead.{Lead}
use Rattle.length_decode.specs.declared.escape_bytes.Escape.{Escape}
use Rattle.length_decode.specs.declared.escape_bytes.Escape.TheVariants.{OneByte, TwoByte, Byte38, Byte3A, Vex2, Vex3}

-- the opcode bytes before the last, of which C5 takes one byte of its own and C4 two (SDM volume 2, sections 2.1.2 and 2.3.5)
abbrev pub escape_bytes : Escape → List ℕ
escape_bytes OneByte = []
escape_bytes TwoByte = 0x0f ∷ []
escape_bytes Byte38 = 0x0f ∷ 0x38 ∷ []
escape_bytes Byte3A = 0x0f ∷ 0x3a ∷ []
escape_bytes (Vex2 v) = 0xc5 ∷ v ∷ []
escape_bytes (Vex3 v w) = 0xc4 ∷ v ∷ w ∷ []

-- the map that they choose; after C4 the low five bits of the next byte do
abbrev pub map_of : Escape → ℕ
map_of OneByte = 0
map_of TwoByte = 1
map_of Byte38 = 2
map_of Byte3A = 3
map_of (Vex2 v) = 4
map_of (Vex3 v w) = if v % 32 == 1 then 4 else (if v % 32 == 2 then 5 else 6)

-- what follows an opcode byte of that map
abbrev pub row_after : Escape → ℕ → TableRow
row_after escape op = row_of (map_of escape) op

-- no VEX opcode follows operand size, lock, repne, rep or REX
abbrev pub bars_vex : Lead → Bool
bars_vex lead = lead.prefixes.opsize || (lead.prefixes.lock || (lead.prefixes.repne || (lead.prefixes.rep || lead.any_rex)))

-- the opcode bytes before the last may stand there
abbrev pub allows_escape : Lead → Escape → Bool
allows_escape lead OneByte = true
allows_escape lead TwoByte = true
allows_escape lead Byte38 = true
allows_escape lead Byte3A = true
allows_escape lead (Vex2 v) = not (bars_vex lead)
allows_escape lead (Vex3 v w) = not (bars_vex lead) && within 1 3 (v % 32)

-- direct branches and near returns
abbrev pub is_branch : Escape → ℕ → Bool
is_branch OneByte op = within 0x70 0x7f op || (within 0xe0 0xe3 op || among (0xc2 ∷ 0xc3 ∷ 0xe8 ∷ 0xe9 ∷ 0xeb ∷ []) op)
is_branch TwoByte op = within 0x80 0x8f op
is_branch Byte38 op = false
is_branch Byte3A op = false
is_branch (Vex2 v) op = false
is_branch (Vex3 v w) op = false

-- they aren't spelled with operand size
abbrev pub allows_opcode : Lead → Escape → ℕ → Bool
allows_opcode lead escape op = not (is_branch escape op && lead.prefixes.opsize)

-- the three fields of a ModRM byte (SDM volume 2, section 2.1.3)
abbrev pub mod_bits : ℕ → ℕ
mod_bits m = m / 64

abbrev pub reg_bits : ℕ → ℕ
reg_bits m = m / 8 % 8

abbrev pub rm_bits : ℕ → ℕ
rm_bits m = m % 8

-- reg 2 and 4 of FF are the indirect near branches
abbrev pub is_indirect : ℕ → ℕ → Bool
is_indirect op reg = (reg == 2 || reg == 4) && op == 0xff

-- 8F has reg 0 alone, and the indirect near branches aren't spelled with operand size
abbrev pub allows_modrm : Lead → Escape → ℕ → ℕ → Bool
allows_modrm lead OneByte op m = (reg_bits m == 0 || not (op == 0x8f)) && not (is_indirect op (reg_bits m) && lead.prefixes.opsize)
allows_modrm lead TwoByte op m = true
allows_modrm lead Byte38 op m = true
allows_modrm lead Byte3A op m = true
allows_modrm lead (Vex2 v) op m = true
allows_modrm lead (Vex3 v w) op m = true

-- a SIB byte follows
abbrev pub needs_sib : ℕ → Bool
needs_sib m = not (mod_bits m == 3) && rm_bits m == 4

-- the base: of the SIB byte where there is one
abbrev pub base_bits : ℕ → Option ℕ → ℕ
base_bits m None = rm_bits m
base_bits m (Some s) = s % 8

-- bytes of displacement: one at mod 1, four at mod 2, and four at mod 0 with base 5, which is no register there
abbrev pub disp_size : ℕ → Option ℕ → ℕ
disp_size m sib = if mod_bits m == 1 then 1 else (if mod_bits m == 2 || (mod_bits m == 0 && base_bits m sib == 5) then 4 else 0)

-- REX.W
abbrev pub is_wide : Lead → Bool
is_wide lead = lead.rex / 8 % 2 == 1

-- four bytes, but two with operand size and without REX.W
abbrev pub full_size : Lead → ℕ
full_size lead = if lead.prefixes.opsize && not (is_wide lead) then 2 else 4

-- bytes of immediate; reg is that of the ModRM byte
abbrev pub imm_size : Lead → Imm → ℕ → ℕ
imm_size lead NoImm reg = 0
imm_size lead I8 reg = 1
imm_size lead I16 reg = 2
imm_size lead Z reg = full_size lead
imm_size lead V reg = if is_wide lead then 8 else full_size lead
imm_size lead Moffs reg = if lead.prefixes.addrsize then 4 else 8
imm_size lead Rel8 reg = 1
imm_size lead Rel32 reg = 4
imm_size lead I16I8 reg = 3
imm_size lead Group8 reg = if nat_lt reg 2 then 1 else 0
imm_size lead GroupZ reg = if nat_lt reg 2 then full_size lead else 0
