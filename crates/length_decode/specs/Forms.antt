-- Instructions of known opcode whose displacement or immediate bytes are any. Theorems cite it.
use Rattle.std.specs.Prelude.{ℕ, ◌+◌, ◌<◌, [], ◌∷◌, Some, None}
use Rattle.length_decode.specs.declared.escape_bytes.Escape.TheVariants.{OneByte, TwoByte}
use Rattle.length_decode.specs.Spelling.{Fields, IsFormed}

-- a jump by four bytes
abbrev pub near_jump : ℕ → ℕ → ℕ → ℕ → Fields
near_jump a b c d = record { prefixes = []; escape = OneByte; opcode = 0xe9; modrm = None; sib = None; disp = []; imm = a ∷ b ∷ c ∷ d ∷ [] }

-- no operation
abbrev pub no_operation : Fields
no_operation = record { prefixes = []; escape = OneByte; opcode = 0x90; modrm = None; sib = None; disp = []; imm = [] }

-- SYSCALL
abbrev pub system_call : Fields
system_call = record { prefixes = []; escape = TwoByte; opcode = 0x05; modrm = None; sib = None; disp = []; imm = [] }

-- a conditional branch by four bytes, of condition code cc
abbrev pub near_branch : ℕ → ℕ → ℕ → ℕ → ℕ → Fields
near_branch cc a b c d = record { prefixes = []; escape = TwoByte; opcode = 0x80 + cc; modrm = None; sib = None; disp = []; imm = a ∷ b ∷ c ∷ d ∷ [] }

-- a constant of four bytes into register r
abbrev pub constant : ℕ → ℕ → ℕ → ℕ → ℕ → Fields
constant r a b c d = record { prefixes = []; escape = OneByte; opcode = 0xb8 + r; modrm = None; sib = None; disp = []; imm = a ∷ b ∷ c ∷ d ∷ [] }

-- a constant byte into the four-byte address
abbrev pub mark_byte : ℕ → ℕ → ℕ → ℕ → ℕ → Fields
mark_byte a b c d e = record { prefixes = []; escape = OneByte; opcode = 0xc6; modrm = Some 0x04; sib = Some 0x25; disp = a ∷ b ∷ c ∷ d ∷ []; imm = e ∷ [] }

-- rax from the four-byte address
abbrev pub load_rax : ℕ → ℕ → ℕ → ℕ → Fields
load_rax a b c d = record { prefixes = 0x48 ∷ []; escape = OneByte; opcode = 0x8b; modrm = Some 0x04; sib = Some 0x25; disp = a ∷ b ∷ c ∷ d ∷ []; imm = [] }

-- each is formed, whatever those bytes are
pub record AreFormed : Type 0 where
  pub jump : (a b c d : ℕ) → IsFormed (near_jump a b c d)
  pub branch : (cc a b c d : ℕ) → cc < 16 → IsFormed (near_branch cc a b c d)
  pub constant_is : (r a b c d : ℕ) → r < 8 → IsFormed (constant r a b c d)
  pub mark : (a b c d e : ℕ) → IsFormed (mark_byte a b c d e)
  pub load : (a b c d : ℕ) → IsFormed (load_rax a b c d)
