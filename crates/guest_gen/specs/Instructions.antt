-- The instructions of a guest (Intel SDM, volume 2, the page of each), and the addresses they name. Theorems cite it.
use Rattle.std.specs.Prelude.{ℕ, ◌+◌, List, [], ◌∷◌}
use Rattle.std.specs.Int.{to_le_bytes, w32}
use Rattle.insn_form.specs.Moved.{rel_bytes}
use Rattle.guest_gen.specs.declared.instruction.GuestInsn.{GuestInsn}
use Rattle.guest_gen.specs.declared.instruction.GuestInsn.TheVariants.{Ret, MovRaxRbx, AddRbxRax, MovEax, AddRbx, AddRcxOne, PushRax, PopRax, CmpRaxRbx, JeOverInc, IncRdx, LoadRax, StoreRax, CallRet, LeaData, XorRaxRcx, Nop, Cpuid, LeaRcx, CallRsi, JmpBack}

-- a text begins with a ret that blocks call
abbrev pub text_start : ℕ
text_start = 0x401000

-- behind it the first block
abbrev pub blocks_start : ℕ
blocks_start = 0x401001

-- the page that blocks read and write
abbrev pub data_start : ℕ
data_start = 0x600000

-- in it the stack begins, and grows down
abbrev pub stack_top : ℕ
stack_top = 0x600f00

-- the bytes of an instruction at an address
abbrev pub spelled : GuestInsn → ℕ → List ℕ
spelled Ret at = 0xc3 ∷ []
spelled MovRaxRbx at = 0x48 ∷ 0x89 ∷ 0xd8 ∷ []
spelled AddRbxRax at = 0x48 ∷ 0x01 ∷ 0xc3 ∷ []
spelled (MovEax n) at = 0xb8 ∷ to_le_bytes w32 n
spelled (AddRbx n) at = 0x48 ∷ 0x81 ∷ 0xc3 ∷ to_le_bytes w32 n
spelled AddRcxOne at = 0x48 ∷ 0x83 ∷ 0xc1 ∷ 0x01 ∷ []
spelled PushRax at = 0x50 ∷ []
spelled PopRax at = 0x58 ∷ []
spelled CmpRaxRbx at = 0x48 ∷ 0x39 ∷ 0xd8 ∷ []
spelled JeOverInc at = 0x74 ∷ 0x03 ∷ []
spelled IncRdx at = 0x48 ∷ 0xff ∷ 0xc2 ∷ []
spelled LoadRax at = 0x48 ∷ 0x8b ∷ 0x45 ∷ 0x08 ∷ []
spelled StoreRax at = 0x48 ∷ 0x89 ∷ 0x45 ∷ 0x10 ∷ []
spelled CallRet at = 0xe8 ∷ rel_bytes (at + 5) text_start
spelled LeaData at = 0x48 ∷ 0x8d ∷ 0x05 ∷ rel_bytes (at + 7) data_start
spelled XorRaxRcx at = 0x48 ∷ 0x31 ∷ 0xc8 ∷ []
spelled Nop at = 0x90 ∷ []
spelled Cpuid at = 0x0f ∷ 0xa2 ∷ []
spelled LeaRcx at = 0x48 ∷ 0x8d ∷ 0x4c ∷ 0x01 ∷ 0x04 ∷ []
spelled CallRsi at = 0xff ∷ 0xd6 ∷ []
spelled JmpBack at = 0xe9 ∷ rel_bytes (at + 5) blocks_start
