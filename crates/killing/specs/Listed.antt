-- The table at spelled instructions, worked out by hand. Theorems cite it.
use Rattle.std.specs.Prelude.{◌≡◌, ℕ, List, [], ◌∷◌, Option, Some, None}
use Rattle.length_decode.specs.declared.escape_bytes.Escape.TheVariants.{OneByte, TwoByte}
use Rattle.length_decode.specs.Spelling.{Fields}
use Rattle.insn_form.specs.Instruction.{insn_of}
use Rattle.killing.specs.declared.place.Place.{Place}
use Rattle.killing.specs.declared.place.Place.TheVariants.{FiveFlags, SixFlags, Register}
use Rattle.killing.specs.Table.{killed}

-- prefixes, an opcode, ModRM, and an immediate operand
abbrev pub one : List ℕ → ℕ → ℕ → List ℕ → Fields
one prefixes opcode modrm imm = record { prefixes = prefixes; escape = OneByte; opcode = opcode; modrm = Some modrm; sib = None; disp = []; imm = imm }

-- the same without ModRM
abbrev pub bare : List ℕ → ℕ → Fields
bare prefixes opcode = record { prefixes = prefixes; escape = OneByte; opcode = opcode; modrm = None; sib = None; disp = []; imm = [] }

-- an opcode behind 0F
abbrev pub two : ℕ → ℕ → Fields
two opcode modrm = record { prefixes = []; escape = TwoByte; opcode = opcode; modrm = Some modrm; sib = None; disp = []; imm = [] }

-- SYSCALL behind prefixes
abbrev pub called : List ℕ → Fields
called prefixes = record { prefixes = prefixes; escape = TwoByte; opcode = 0x05; modrm = None; sib = None; disp = []; imm = [] }

-- what an event in front of the instruction may use
abbrev pub Uses : Fields → Option Place → Type 0
Uses f p = killed (insn_of f) ≡ p

pub record AreListed : Type 0 where
  -- CMP rax, rbx; TEST eax, eax; XOR eax, eax; NEG eax; SHL rax, 4; CMP [rbx], al
  pub cmp : Uses (one (0x48 ∷ []) 0x39 0xd8 []) (Some SixFlags)
  pub test : Uses (one [] 0x85 0xc0 []) (Some SixFlags)
  pub xor : Uses (one [] 0x31 0xc0 []) (Some SixFlags)
  pub neg : Uses (one [] 0xf7 0xd8 []) (Some SixFlags)
  pub shl : Uses (one (0x48 ∷ []) 0xc1 0xe0 (4 ∷ [])) (Some SixFlags)
  pub cmp_memory : Uses (one [] 0x38 0x03 []) (Some SixFlags)
  -- INC eax; DEC eax; ADC eax, ebx; SBB eax, eax
  pub inc : Uses (one [] 0xff 0xc0 []) (Some FiveFlags)
  pub dec : Uses (one [] 0xff 0xc8 []) (Some FiveFlags)
  pub adc : Uses (one [] 0x11 0xd8 []) (Some FiveFlags)
  pub sbb : Uses (one [] 0x19 0xc0 []) (Some FiveFlags)
  -- MOV eax, ebx; MOV rax, [rbx]; LEA rcx, [rax]; MOVZX eax, bl; MOVSXD rax, ebx; POP rsi; POP rdi; POP r8; POP r11; CQO
  pub mov : Uses (one [] 0x89 0xd8 []) (Some (Register 0))
  pub load : Uses (one (0x48 ∷ []) 0x8b 0x03 []) (Some (Register 0))
  pub lea : Uses (one (0x48 ∷ []) 0x8d 0x08 []) (Some (Register 1))
  pub movzx : Uses (two 0xb6 0xc3) (Some (Register 0))
  pub movsxd : Uses (one (0x48 ∷ []) 0x63 0xc3 []) (Some (Register 0))
  pub pop_rsi : Uses (bare [] 0x5e) (Some (Register 6))
  pub pop_rdi : Uses (bare [] 0x5f) (Some (Register 7))
  pub pop_r8 : Uses (bare (0x41 ∷ []) 0x58) (Some (Register 8))
  pub pop_r11 : Uses (bare (0x41 ∷ []) 0x5b) (Some (Register 11))
  pub cqo : Uses (bare (0x48 ∷ []) 0x99) (Some (Register 2))
  -- SHL rax, CL; SHL eax, 32; MOV ax, bx; MOV al, bl; MOV rax, [rax]; LEA rax, [rax]; MOVZX eax, ah; POP rbx; POP rsp; POP rbp; POP r12; POP r15; MOV rsp, rbp;
  -- CDQE
  pub by_cl : Uses (one (0x48 ∷ []) 0xd3 0xe0 []) None
  pub by_32 : Uses (one [] 0xc1 0xe0 (32 ∷ [])) None
  pub mov_ax : Uses (one (0x66 ∷ []) 0x89 0xd8 []) None
  pub mov_al : Uses (one [] 0x88 0xd8 []) None
  pub own_load : Uses (one (0x48 ∷ []) 0x8b 0x00 []) None
  pub own_lea : Uses (one (0x48 ∷ []) 0x8d 0x00 []) None
  pub from_ah : Uses (two 0xb6 0xc4) None
  pub pop_rbx : Uses (bare [] 0x5b) None
  pub pop_rsp : Uses (bare [] 0x5c) None
  pub pop_rbp : Uses (bare [] 0x5d) None
  pub pop_r12 : Uses (bare (0x41 ∷ []) 0x5c) None
  pub pop_r15 : Uses (bare (0x41 ∷ []) 0x5f) None
  pub mov_rsp : Uses (one (0x48 ∷ []) 0x89 0xec []) None
  pub cdqe : Uses (bare (0x48 ∷ []) 0x98) None
  -- NOT eax; SETO al; CMOVO eax, ebx; XCHG ecx, ebx; PUSH rbx; RET; IMUL eax, ebx; LOCK ADD [rbx], eax; SYSCALL; SYSCALL behind F3
  pub inverted : Uses (one [] 0xf7 0xd0 []) None
  pub set : Uses (two 0x90 0xc0) None
  pub cmov : Uses (two 0x40 0xc3) None
  pub xchg : Uses (one [] 0x87 0xd9 []) None
  pub push : Uses (bare [] 0x53) None
  pub ret : Uses (bare [] 0xc3) None
  pub imul : Uses (two 0xaf 0xc3) None
  pub locked : Uses (one (0xf0 ∷ []) 0x01 0x03 []) None
  pub syscall : Uses (called []) None
  pub syscall_behind : Uses (called (0xf3 ∷ [])) None
