-- The instruction at the front of bytes: its fields, that there is none, or how many bytes are missing at least. Theorems cite it.
use Rattle.std.specs.Prelude.{ℕ, ◌+◌, ◌-◌, ◌%◌, nat_le, nat_lt, ◌==◌, if◌then◌else◌, List, [], ◌∷◌, length, take, drop, Some, None, Result, Ok, Err}
use Rattle.insn_tables.specs.Rows.{within}
use Rattle.insn_tables.specs.declared.table_row.Imm.{Imm}
use Rattle.insn_tables.specs.declared.table_row.TableRow.{TableRow}
use Rattle.length_decode.specs.declared.prefix_bytes.Lead.{Lead}
use Rattle.length_decode.specs.declared.escape_bytes.Escape.{Escape}
use Rattle.length_decode.specs.declared.escape_bytes.Escape.TheVariants.{OneByte, TwoByte, Byte38, Byte3A, Vex2, Vex3}
use Rattle.length_decode.specs.declared.instruction_parts.Shape.{Shape}
use Rattle.length_decode.specs.declared.instruction_parts.Shape.TheVariants.{Known, Unknown, Short}
use Rattle.length_decode.specs.declared.field_bytes.Stop.{Stop}
use Rattle.length_decode.specs.declared.field_bytes.Stop.TheVariants.{NoSpelling, Missing}
use Rattle.length_decode.specs.Prefix.{is_prefix, lead_of}
use Rattle.length_decode.specs.Rules.{row_after, bars_vex, allows_opcode, allows_modrm, reg_bits, needs_sib, disp_size, imm_size}
use Rattle.length_decode.specs.Spelling.{Fields, parts_of}

-- the fields so far, without operand and immediate
abbrev pub opening : List ℕ → Escape → ℕ → Fields
opening ps escape op = record { prefixes = ps; escape = escape; opcode = op; modrm = None; sib = None; disp = []; imm = [] }

-- d bytes of displacement and n of immediate
abbrev pub with_tail : Fields → ℕ → ℕ → List ℕ → Result Fields Stop
with_tail f d n bs =
    if nat_lt (length bs) (d + n) then Err (Missing (d + n - length bs)) else Ok (record f { disp = take d bs; imm = take n (drop d bs) })

-- after ModRM byte m, at the SIB byte; the least displacement is that with base 0
abbrev pub with_base : Fields → ℕ → ℕ → List ℕ → Result Fields Stop
with_base f m n [] = Err (Missing (1 + disp_size m (Some 0) + n))
with_base f m n (s ∷ bs) = with_tail (record f { sib = Some s }) (disp_size m (Some s)) n bs

-- after ModRM byte m
abbrev pub with_sib : Fields → ℕ → ℕ → List ℕ → Result Fields Stop
with_sib f m n bs = if needs_sib m then with_base f m n bs else with_tail f (disp_size m None) n bs

-- a reg that every opcode may have, but for 8F; no group has an immediate with it
abbrev pub least_reg : Escape → ℕ → ℕ
least_reg OneByte op = if op == 0x8f then 0 else 3
least_reg TwoByte op = 3
least_reg Byte38 op = 3
least_reg Byte3A op = 3
least_reg (Vex2 v) op = 3
least_reg (Vex3 v w) op = 3

-- the least operand is a register
abbrev pub with_modrm : Lead → Fields → Imm → List ℕ → Result Fields Stop
with_modrm lead f imm [] = Err (Missing (1 + imm_size lead imm (least_reg f.escape f.opcode)))
with_modrm lead f imm (m ∷ bs) =
    if allows_modrm lead f.escape f.opcode m then with_sib (record f { modrm = Some m }) m (imm_size lead imm (reg_bits m)) bs else Err NoSpelling

-- after the opcode
abbrev pub with_row : Lead → Fields → TableRow → List ℕ → Result Fields Stop
with_row lead f row bs =
    if row.known then (if row.modrm then with_modrm lead f row.imm bs else with_tail f 0 (imm_size lead row.imm 0) bs) else Err NoSpelling

-- bytes from the last opcode byte on, at least
abbrev pub least_after : Escape → ℕ
least_after OneByte = 1
least_after TwoByte = 1
least_after Byte38 = 2
least_after Byte3A = 3
least_after (Vex2 v) = 1
least_after (Vex3 v w) = if v % 32 == 1 then 1 else (if v % 32 == 2 then 2 else 3)

-- at the last opcode byte
abbrev pub at_opcode : Lead → List ℕ → Escape → List ℕ → Result Fields Stop
at_opcode lead ps escape [] = Err (Missing (least_after escape))
at_opcode lead ps escape (b ∷ bs) =
    if allows_opcode lead escape b then with_row lead (opening ps escape b) (row_after escape b) bs else Err NoSpelling

-- after the byte 0F
abbrev pub after_0f : Lead → List ℕ → List ℕ → Result Fields Stop
after_0f lead ps [] = Err (Missing 1)
after_0f lead ps (b ∷ bs) =
    if b == 0x38 then at_opcode lead ps Byte38 bs else (if b == 0x3a then at_opcode lead ps Byte3A bs else at_opcode lead ps TwoByte (b ∷ bs))

-- after the byte C5
abbrev pub after_c5 : Lead → List ℕ → List ℕ → Result Fields Stop
after_c5 lead ps [] = Err (Missing 2)
after_c5 lead ps (v ∷ bs) = at_opcode lead ps (Vex2 v) bs

-- after C4 and the byte v, which chose a map
abbrev pub after_map : Lead → List ℕ → ℕ → List ℕ → Result Fields Stop
after_map lead ps v [] = Err (Missing (1 + least_after (Vex3 v 0)))
after_map lead ps v (w ∷ bs) = at_opcode lead ps (Vex3 v w) bs

-- after the byte C4
abbrev pub after_c4 : Lead → List ℕ → List ℕ → Result Fields Stop
after_c4 lead ps [] = Err (Missing 3)
after_c4 lead ps (v ∷ bs) = if within 1 3 (v % 32) then after_map lead ps v bs else Err NoSpelling

-- at the first opcode byte
abbrev pub after_prefixes : Lead → List ℕ → List ℕ → Result Fields Stop
after_prefixes lead ps [] = Err (Missing 1)
after_prefixes lead ps (b ∷ bs) =
    if b == 0x0f then after_0f lead ps bs
    else (if b == 0xc5 then (if bars_vex lead then Err NoSpelling else after_c5 lead ps bs)
    else (if b == 0xc4 then (if bars_vex lead then Err NoSpelling else after_c4 lead ps bs)
    else at_opcode lead ps OneByte (b ∷ bs)))

-- the prefix bytes at the front
abbrev pub prefix_run : List ℕ → List ℕ
prefix_run [] = []
prefix_run (b ∷ bs) = if is_prefix b then b ∷ prefix_run bs else []

-- the instruction at the front
abbrev pub parse : List ℕ → Result Fields Stop
parse bs = let ps = prefix_run bs in after_prefixes (lead_of ps) ps (drop (length ps) bs)

-- the answer for a slice of which these are the first 15 bytes
abbrev pub shape_from : ℕ → Result Fields Stop → Shape
shape_from n (Ok f) = Known (parts_of f)
shape_from n (Err NoSpelling) = Unknown
shape_from n (Err (Missing k)) = if nat_le (n + k) 15 then Short else Unknown

-- the answer for a slice
abbrev pub shape_of : List ℕ → Shape
shape_of bytes = let window = take 15 bytes in shape_from (length window) (parse window)
