-- Pieces of code (Intel SDM, volume 2, JMP, MOV, sections 2.1.3 and 2.2.1). Numbers are little endian. Theorems cite it.
use Rattle.std.specs.Prelude.{ℕ, ◌+◌, List, ◌∷◌}
use Rattle.std.specs.Int.{to_le_bytes, w32}
use Rattle.insn_form.specs.Moved.{rel_bytes}

-- the four bytes of an address
abbrev pub four : ℕ → List ℕ
four a = to_le_bytes w32 a

-- JMP rel32, from a place to a target
abbrev pub jump_code : ℕ → ℕ → List ℕ
jump_code place target = 0xe9 ∷ rel_bytes (place + 5) target

-- MOV [a], rax
abbrev pub store_rax : ℕ → List ℕ
store_rax a = 0x48 ∷ 0x89 ∷ 0x04 ∷ 0x25 ∷ four a

-- MOV rax, [a]
abbrev pub load_rax : ℕ → List ℕ
load_rax a = 0x48 ∷ 0x8b ∷ 0x04 ∷ 0x25 ∷ four a

-- JMP [a]
abbrev pub jump_through : ℕ → List ℕ
jump_through a = 0xff ∷ 0x24 ∷ 0x25 ∷ four a

-- PUSH imm32
abbrev pub push_code : ℕ → List ℕ
push_code n = 0x68 ∷ four n

-- MOV ecx, imm32
abbrev pub ecx_code : ℕ → List ℕ
ecx_code n = 0xb9 ∷ four n
