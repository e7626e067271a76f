-- What follows an opcode byte: a case for each line of a map's table, in the table's order. Theorems cite it.
use Rattle.std.specs.Prelude.{ℕ, Bool, true, false, ◌&&◌, ◌||◌, nat_le, ◌==◌, if◌then◌else◌, List, [], ◌∷◌, ◌+◌}
use Rattle.insn_tables.specs.declared.table_row.Imm.{Imm}
use Rattle.insn_tables.specs.declared.table_row.Imm.TheVariants.{NoImm, I8, I16, Z, V, Moffs, Rel8, Rel32, I16I8, Group8, GroupZ}
use Rattle.insn_tables.specs.declared.table_row.TableRow.{TableRow}

-- no instruction has this opcode
abbrev pub undefined : TableRow
undefined = record { known = false; modrm = false; imm = NoImm }

-- an instruction without ModRM byte
abbrev pub plain : Imm → TableRow
plain imm = record { known = true; modrm = false; imm = imm }

-- an instruction with a ModRM byte
abbrev pub operand : Imm → TableRow
operand imm = record { known = true; modrm = true; imm = imm }

-- from the low byte to the high one, both included
abbrev pub within : ℕ → ℕ → ℕ → Bool
within low high b = nat_le low b && nat_le b high

-- one of the bytes
abbrev pub among : List ℕ → ℕ → Bool
among [] b = false
among (x ∷ xs) b = b == x || among xs b

-- n + 1 bytes from one of the first bytes on
abbrev pub spans : ℕ → List ℕ → ℕ → Bool
spans n [] b = false
spans n (x ∷ xs) b = within x (x + n) b || spans n xs b

-- the n-th byte after one of the first bytes
abbrev pub beyond : ℕ → List ℕ → ℕ → Bool
beyond n [] b = false
beyond n (x ∷ xs) b = b == x + n || beyond n xs b

-- the first bytes of the eight operations add, or, adc, sbb, and, sub, xor, cmp
abbrev pub arithmetic : List ℕ
arithmetic = 0x00 ∷ 0x08 ∷ 0x10 ∷ 0x18 ∷ 0x20 ∷ 0x28 ∷ 0x30 ∷ 0x38 ∷ []

-- of one byte: nothing follows
abbrev pub is_bare : ℕ → Bool
is_bare b =
    within 0x50 0x5f b || (within 0x6c 0x6f b || (within 0x90 0x99 b || (within 0x9b 0x9f b || (within 0xa4 0xa7 b || (within 0xaa 0xaf b
    || (among (0xc3 ∷ 0xc9 ∷ 0xcb ∷ 0xcc ∷ 0xcf ∷ 0xd7 ∷ []) b || (within 0xec 0xef b || (among (0xf1 ∷ 0xf4 ∷ 0xf5 ∷ []) b || within 0xf8 0xfd b))))))))

-- of one byte: a ModRM byte follows
abbrev pub is_operand : ℕ → Bool
is_operand b = b == 0x63 || (within 0x84 0x8e b || (within 0xd0 0xd3 b || (within 0xd8 0xdf b || among (0xfe ∷ 0xff ∷ []) b)))

-- of one byte: an immediate byte follows
abbrev pub is_byte : ℕ → Bool
is_byte b = among (0x6a ∷ 0xa8 ∷ []) b || (within 0xb0 0xb7 b || (b == 0xcd || within 0xe4 0xe7 b))

-- of one byte: a branch by a displacement of one byte
abbrev pub is_short_branch : ℕ → Bool
is_short_branch b = within 0x70 0x7f b || (within 0xe0 0xe3 b || b == 0xeb)

-- the last lines of the one-byte opcodes: moffs, constants, returns, enter, and the groups with and without immediate
abbrev pub last_lines : ℕ → TableRow
last_lines b =
    if within 0xa0 0xa3 b then plain Moffs
    else (if within 0xb8 0xbf b then plain V
    else (if among (0xc2 ∷ 0xca ∷ []) b then plain I16
    else (if b == 0xc8 then plain I16I8
    else (if b == 0xf6 then operand Group8
    else (if b == 0xf7 then operand GroupZ
    else undefined)))))

-- the one-byte opcodes; that 8F wants reg 0 is a matter of spellings
abbrev pub one_byte : ℕ → TableRow
one_byte b =
    if spans 3 arithmetic b then operand NoImm
    else (if beyond 4 arithmetic b then plain I8
    else (if beyond 5 arithmetic b then plain Z
    else (if is_bare b then plain NoImm
    else (if is_operand b then operand NoImm
    else (if b == 0x8f then operand NoImm
    else (if among (0x68 ∷ 0xa9 ∷ []) b then plain Z
    else (if is_byte b then plain I8
    else (if among (0x69 ∷ 0x81 ∷ 0xc7 ∷ []) b then operand Z
    else (if among (0x6b ∷ 0x80 ∷ 0x83 ∷ 0xc0 ∷ 0xc1 ∷ 0xc6 ∷ []) b then operand I8
    else (if is_short_branch b then plain Rel8
    else (if among (0xe8 ∷ 0xe9 ∷ []) b then plain Rel32
    else last_lines b)))))))))))

-- after 0F: a ModRM byte follows
abbrev pub is_two_byte_operand : ℕ → Bool
is_two_byte_operand b =
    within 0x00 0x03 b || (b == 0x0d || (within 0x10 0x1f b || (within 0x28 0x2f b || (within 0x40 0x6f b || (within 0x74 0x76 b || (within 0x7c 0x7f b
    || (within 0x90 0x9f b || (among (0xa3 ∷ 0xa5 ∷ 0xab ∷ []) b || (within 0xad 0xb8 b || (within 0xbb 0xc1 b || (among (0xc3 ∷ 0xc7 ∷ []) b || within 0xd0 0xfe b)))))))))))

-- after 0F: nothing follows
abbrev pub is_two_byte_bare : ℕ → Bool
is_two_byte_bare b = within 0x05 0x09 b || (b == 0x0b || (within 0x30 0x35 b || (among (0x37 ∷ 0x77 ∷ 0xa0 ∷ 0xa1 ∷ 0xa2 ∷ 0xa8 ∷ 0xa9 ∷ 0xaa ∷ []) b || within 0xc8 0xcf b)))

-- the opcodes after 0F
abbrev pub two_byte : ℕ → TableRow
two_byte b =
    if is_two_byte_operand b then operand NoImm
    else (if within 0x70 0x73 b || among (0xa4 ∷ 0xac ∷ 0xba ∷ 0xc2 ∷ 0xc4 ∷ 0xc5 ∷ 0xc6 ∷ []) b then operand I8
    else (if within 0x80 0x8f b then plain Rel32
    else (if is_two_byte_bare b then plain NoImm
    else undefined)))

-- the opcodes of VEX map 1
abbrev pub vex_one : ℕ → TableRow
vex_one b =
    if b == 0x77 then plain NoImm
    else (if within 0x70 0x73 b || among (0xc2 ∷ 0xc4 ∷ 0xc5 ∷ 0xc6 ∷ []) b then operand I8
    else operand NoImm)

-- the maps: 0 one byte, 1 after 0F, 2 after 0F 38, 3 after 0F 3A, 4 to 6 the VEX maps 1 to 3
abbrev pub row_of : ℕ → ℕ → TableRow
row_of map b =
    if map == 0 then one_byte b
    else (if map == 1 then two_byte b
    else (if map == 2 then operand NoImm
    else (if map == 3 then operand I8
    else (if map == 4 then vex_one b
    else (if map == 5 then operand NoImm
    else (if map == 6 then operand I8
    else undefined))))))
