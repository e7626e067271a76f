-- The tables, row by row, are the rule.
use Rattle.std.proofs.Common.{◌≡◌, ℕ, ◌<◌, List, map, get_or, refl, sym, ap, ◌∙◌, arith}
use Rattle.std.specs.List.{range_with_len}
use Rattle.std.proofs.lemmas.List.FromFn.{get_or-map-range_with_len}
use Rattle.insn_tables.specs.Rows.{row_of}
use Rattle.insn_tables.specs.declared.table_row.TableRow.{TableRow}
use Rattle.insn_tables.specs.declared.tables.TheConstants.{ONE_BYTE, TWO_BYTE, BYTE_38, BYTE_3A, VEX_1, VEX_2, VEX_3}

-- the rule's rows of a map, at the bytes 0 to 255
abbrev pub rows : ℕ → List TableRow
rows m = map (row_of m) (range_with_len 0 256)

-- the table of one-byte opcodes is the rule's
pub one_byte : ONE_BYTE ≡ rows 0
one_byte = refl

-- the table of opcodes after 0F is the rule's
pub two_byte : TWO_BYTE ≡ rows 1
two_byte = refl

-- the table of opcodes after 0F 38 is the rule's
pub byte_38 : BYTE_38 ≡ rows 2
byte_38 = refl

-- the table of opcodes after 0F 3A is the rule's
pub byte_3a : BYTE_3A ≡ rows 3
byte_3a = refl

-- the table of VEX map 1 is the rule's
pub vex_1 : VEX_1 ≡ rows 4
vex_1 = refl

-- the table of VEX map 2 is the rule's
pub vex_2 : VEX_2 ≡ rows 5
vex_2 = refl

-- the table of VEX map 3 is the rule's
pub vex_3 : VEX_3 ≡ rows 6
vex_3 = refl

-- a table that is the rule's rows holds the rule's row at each byte
pub row_at : (table : List TableRow) (m n b i : ℕ) (d : TableRow) → table ≡ rows n → m ≡ n → i ≡ b → b < 256 → get_or table i d ≡ row_of m b
row_at table m n b i d e f p l =
    ap (λ (z : List TableRow). get_or z i d) e ∙ ap (λ (z : ℕ). get_or (rows n) z d) p ∙ get_or-map-range_with_len (row_of n) 0 256 b b d l (omega arith) ∙ ap (λ (z : ℕ). row_of z b) (sym f)
