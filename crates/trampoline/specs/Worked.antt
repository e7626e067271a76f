-- Events and trampolines as they are by hand. The private range begins at 0x20000. Worked examples alone cite it.
use Rattle.std.specs.Prelude.{◌≡◌, ◌≤◌, ℕ, ◌+◌, ◌-◌, Bool, false, nat_le, nat_lt, ◌&&◌, if◌then◌else◌, List, [], ◌∷◌, length, replicate, slice_index, None, Some}
use Rattle.pun_base.specs.Memory.{Bytes, joined}
use Rattle.cpu_alu.specs.declared.flag_word.Flags.{Flags}
use Rattle.cpu_state.specs.declared.state.Core.{Core}
use Rattle.pun_base.specs.declared.action.Action.{Action}
use Rattle.pun_base.specs.declared.action.Action.TheVariants.{Cover, Count, Ring, When}
use Rattle.pun_base.specs.declared.action.Base.TheVariants as base
use Rattle.pun_base.specs.declared.action.CompareOp.TheVariants.{Eq, Lt}
use Rattle.pun_base.specs.declared.action.Comparison.{Comparison}
use Rattle.pun_base.specs.declared.action.Comparisons.TheVariants.{One}
use Rattle.length_decode.specs.declared.escape_bytes.Escape.TheVariants.{OneByte, TwoByte}
use Rattle.length_decode.specs.Spelling.{Fields, spelling}
use Rattle.length_decode.specs.Forms.{system_call}
use Rattle.insn_form.specs.Machine.{Machine}
use Rattle.insn_form.specs.Step.{StepsBy}
use Rattle.relocate_insn.specs.Running.{IsReady}
use Rattle.trampoline.specs.Events.{Seen, mark, record_of}
use Rattle.trampoline.specs.Trampolines.{code_of}
use Rattle.trampoline.specs.declared.event.Event.{Event}
use Rattle.trampoline.specs.Running.{room_of, IsEvent, HasData}

-- an event at site 1
abbrev pub at_one : Seen
at_one = record { number = 1; regs = [] }

-- what three events leave, two of them at site 1
pub record AreRecords : Type 0 where
  pub covered : record_of Cover 3 (at_one ∷ record { number = 0; regs = 7 ∷ [] } ∷ at_one ∷ []) ≡ 1 ∷ 1 ∷ 0 ∷ []
  pub counted : record_of Count 16 (at_one ∷ record { number = 0; regs = 7 ∷ [] } ∷ at_one ∷ []) ≡ 1 ∷ 0 ∷ 0 ∷ 0 ∷ 0 ∷ 0 ∷ 0 ∷ 0 ∷ 2 ∷ 0 ∷ 0 ∷ 0 ∷ 0 ∷ 0 ∷ 0 ∷ 0 ∷ []
  pub carried : mark Count 0 [] (255 ∷ 255 ∷ 3 ∷ 0 ∷ 0 ∷ 0 ∷ 0 ∷ 0 ∷ 9 ∷ []) ≡ 0 ∷ 0 ∷ 4 ∷ 0 ∷ 0 ∷ 0 ∷ 0 ∷ 0 ∷ 9 ∷ []
  pub wrapped : mark Count 0 [] (255 ∷ 255 ∷ 255 ∷ 255 ∷ 255 ∷ 255 ∷ 255 ∷ 255 ∷ 9 ∷ []) ≡ 0 ∷ 0 ∷ 0 ∷ 0 ∷ 0 ∷ 0 ∷ 0 ∷ 0 ∷ 9 ∷ []
  -- in a ring of two slots the third event takes the first one's slot
  pub ringed : record_of (Ring 2) 12 (at_one ∷ record { number = 0; regs = 7 ∷ [] } ∷ at_one ∷ [])
      ≡ 1 ∷ 0 ∷ 0 ∷ 0 ∷ 2 ∷ 0 ∷ 0 ∷ 0 ∷ 1 ∷ 0 ∷ 0 ∷ 0 ∷ []
  -- where rcx is below 5, and where it isn't
  pub met : mark (When base.Cover (One (record { reg = 1; op = Lt; value = 5 }))) 1 (9 ∷ 4 ∷ []) (0 ∷ 0 ∷ [])
      ≡ 0 ∷ 1 ∷ []
  pub unmet : mark (When base.Cover (One (record { reg = 1; op = Lt; value = 5 }))) 1 (9 ∷ 5 ∷ []) (0 ∷ 0 ∷ [])
      ≡ 0 ∷ 0 ∷ []

-- EB FE: a jump to itself
abbrev pub jump_to_itself : Fields
jump_to_itself = record { prefixes = []; escape = OneByte; opcode = 0xeb; modrm = None; sib = None; disp = []; imm = 0xfe ∷ [] }

-- 0F 28 05 disp32: MOVAPS xmm0, [rip + 16]
abbrev pub rip_operand : Fields
rip_operand = record { prefixes = []; escape = TwoByte; opcode = 0x28; modrm = Some 0x05; sib = None; disp = 0x10 ∷ 0 ∷ 0 ∷ 0 ∷ []; imm = [] }

-- B8 3C 00 00 00: MOV eax, 60
abbrev pub mov_sixty : Fields
mov_sixty = record {
  prefixes = [];
  escape = OneByte;
  opcode = 0xb8;
  modrm = None;
  sib = None;
  disp = [];
  imm = 0x3c ∷ 0 ∷ 0 ∷ 0 ∷ [];
}

-- rdi == 5
abbrev pub rdi_is_five : Comparison
rdi_is_five = record { reg = 7; op = Eq; value = 5 }

-- trampolines of instructions at 0x401000, and of SYSCALL at 0x401005
pub record AreCodes : Type 0 where
  pub counted : code_of (Some (record { action = Count; number = 0 })) 0x20000 jump_to_itself 0x401002 0x2401005 ≡
      0x48 ∷ 0x89 ∷ 0x04 ∷ 0x25 ∷ 0x00 ∷ 0x00 ∷ 0x02 ∷ 0x00 ∷ 0x48 ∷ 0x8b ∷ 0x04 ∷ 0x25 ∷ 0x40 ∷ 0x00 ∷ 0x02 ∷ 0x00 ∷ 0x48 ∷ 0x8d ∷ 0x40 ∷ 0x01
      ∷ 0x48 ∷ 0x89 ∷ 0x04 ∷ 0x25 ∷ 0x40 ∷ 0x00 ∷ 0x02 ∷ 0x00 ∷ 0x48 ∷ 0x8b ∷ 0x04 ∷ 0x25 ∷ 0x00 ∷ 0x00 ∷ 0x02 ∷ 0x00 ∷ 0xe9 ∷ 0xd2 ∷ 0xff ∷ 0xff ∷ 0xfd ∷ []
  pub named : code_of (Some (record { action = Cover; number = 0 })) 0x20000 rip_operand 0x401007 0x21000 ≡
      0xc6 ∷ 0x04 ∷ 0x25 ∷ 0x40 ∷ 0x00 ∷ 0x02 ∷ 0x00 ∷ 0x01 ∷ 0x0f ∷ 0x28 ∷ 0x05 ∷ 0x08 ∷ 0x00 ∷ 0x3e ∷ 0x00 ∷ 0xe9 ∷ 0xf3 ∷ 0xff ∷ 0x3d ∷ 0x00 ∷ []
  pub called : code_of (Some (record { action = Cover; number = 0 })) 0x20000 system_call 0x401007 0x240100a ≡
      0xc6 ∷ 0x04 ∷ 0x25 ∷ 0x40 ∷ 0x00 ∷ 0x02 ∷ 0x00 ∷ 0x01 ∷ 0x0f ∷ 0x05 ∷ 0xb9 ∷ 0x07 ∷ 0x10 ∷ 0x40 ∷ 0x00 ∷ 0xe9 ∷ 0xe9 ∷ 0xff ∷ 0xff ∷ 0xfd ∷ []
  pub ringed : code_of (Some (record { action = Ring 4; number = 0 })) 0x20000 mov_sixty 0x401005 0x21000 ≡
      0x48 ∷ 0x89 ∷ 0x04 ∷ 0x25 ∷ 0x00 ∷ 0x00 ∷ 0x02 ∷ 0x00 ∷ 0x9f ∷ 0x0f ∷ 0x90 ∷ 0xc0
      ∷ 0x89 ∷ 0x04 ∷ 0x25 ∷ 0x08 ∷ 0x00 ∷ 0x02 ∷ 0x00 ∷ 0x8b ∷ 0x04 ∷ 0x25 ∷ 0x40 ∷ 0x00
      ∷ 0x02 ∷ 0x00 ∷ 0xc7 ∷ 0x04 ∷ 0x85 ∷ 0x44 ∷ 0x00 ∷ 0x02 ∷ 0x00 ∷ 0x01 ∷ 0x00 ∷ 0x00
      ∷ 0x00 ∷ 0x8d ∷ 0x40 ∷ 0x01 ∷ 0x3d ∷ 0x04 ∷ 0x00 ∷ 0x00 ∷ 0x00 ∷ 0x75 ∷ 0x05 ∷ 0xb8
      ∷ 0x00 ∷ 0x00 ∷ 0x00 ∷ 0x00 ∷ 0x89 ∷ 0x04 ∷ 0x25 ∷ 0x40 ∷ 0x00 ∷ 0x02 ∷ 0x00 ∷ 0x8b
      ∷ 0x04 ∷ 0x25 ∷ 0x08 ∷ 0x00 ∷ 0x02 ∷ 0x00 ∷ 0x04 ∷ 0x7f ∷ 0x9e ∷ 0x48 ∷ 0x8b ∷ 0x04
      ∷ 0x25 ∷ 0x00 ∷ 0x00 ∷ 0x02 ∷ 0x00 ∷ 0xb8 ∷ 0x3c ∷ 0x00 ∷ 0x00 ∷ 0x00 ∷ 0xe9 ∷ 0xae
      ∷ 0xff ∷ 0x3d ∷ 0x00 ∷ []
  pub asked : code_of
      (Some (record { action = When base.Cover (One rdi_is_five); number = 0 })) 0x20000 mov_sixty
      0x401005 0x21000 ≡
      0x48 ∷ 0x89 ∷ 0x04 ∷ 0x25 ∷ 0x00 ∷ 0x00 ∷ 0x02 ∷ 0x00 ∷ 0x9f ∷ 0x0f ∷ 0x90 ∷ 0xc0
      ∷ 0x89 ∷ 0x04 ∷ 0x25 ∷ 0x08 ∷ 0x00 ∷ 0x02 ∷ 0x00 ∷ 0x48 ∷ 0x8b ∷ 0x04 ∷ 0x25 ∷ 0x00
      ∷ 0x00 ∷ 0x02 ∷ 0x00 ∷ 0x48 ∷ 0x81 ∷ 0xff ∷ 0x05 ∷ 0x00 ∷ 0x00 ∷ 0x00 ∷ 0x75 ∷ 0x08
      ∷ 0xc6 ∷ 0x04 ∷ 0x25 ∷ 0x40 ∷ 0x00 ∷ 0x02 ∷ 0x00 ∷ 0x01 ∷ 0x8b ∷ 0x04 ∷ 0x25 ∷ 0x08
      ∷ 0x00 ∷ 0x02 ∷ 0x00 ∷ 0x04 ∷ 0x7f ∷ 0x9e ∷ 0x48 ∷ 0x8b ∷ 0x04 ∷ 0x25 ∷ 0x00 ∷ 0x00
      ∷ 0x02 ∷ 0x00 ∷ 0xb8 ∷ 0x3c ∷ 0x00 ∷ 0x00 ∷ 0x00 ∷ 0xe9 ∷ 0xbd ∷ 0xff ∷ 0x3d ∷ 0x00 ∷ []

-- the trampoline of MOV eax, 60 at 0x21000, with an event of site 0
abbrev pub sixty_tramp : Action → List ℕ
sixty_tramp action = code_of (Some (record { action = action; number = 0 })) 0x20000 mov_sixty
    0x401005 0x21000

-- that which covers
abbrev pub sixty_code : List ℕ
sixty_code = sixty_tramp Cover

-- so many bytes from an address on
abbrev pub is_within : ℕ → ℕ → ℕ → Bool
is_within lo n x = nat_le lo x && nat_lt x (lo + n)

-- bytes that are held there, with permissions
abbrev pub held_from : ℕ → ℕ → List ℕ → Bytes
held_from lo perms bytes x =
    if is_within lo (length bytes) x
    then Some (record { byte = slice_index bytes (x - lo); perms = perms })
    else None

-- the private range of n zeros, the trampoline, and the instruction at 0x401000
abbrev pub sixty_memory : Action → ℕ → Bytes
sixty_memory action n =
    joined (held_from 0x20000 6 (replicate n 0))
    (joined (held_from 0x21000 5 (sixty_tramp action)) (held_from 0x401000 5 (spelling mov_sixty)))

-- no flag is set
abbrev pub no_flags : Flags
no_flags = record { cf = false; pf = false; af = false; zf = false; sf = false; of = false; rest = 0 }

-- a number in rax and zeros in the other registers
abbrev pub sixty_core : ℕ → Core
sixty_core rax = record { regs = rax ∷ replicate 15 0; flags = no_flags; fs = 0; gs = 0 }

-- the state with a number in rax, at an address
abbrev pub sixty_state : Action → ℕ → ℕ → ℕ → Machine
sixty_state action n rax rip = record {
  core = sixty_core rax;
  rip = rip;
  mem = sixty_memory action n;
  world = [];
}

-- the private range
abbrev pub sixty_private : ℕ → ℕ → Bool
sixty_private n x = is_within 0x20000 n x

-- the event
abbrev pub sixty_event : Action → Event
sixty_event action = record { action = action; number = 0 }

-- what the law of trampolines asks holds of them, and the instruction steps
pub record SixtyIsReady (action : Action) (n : ℕ) : Type 0 where
  pub room : room_of (Some (sixty_event action)) ≤ n
  pub ready : IsReady (sixty_private n) 0x20000 n 0x21000 (sixty_tramp action)
      (sixty_state action n 7 0x401000) (sixty_state action n 7 0x21000)
  pub held : HasData (Some (sixty_event action)) 0x20000 n (replicate (n - 64) 0)
      (sixty_state action n 7 0x21000)
  pub event : IsEvent (sixty_event action)
  pub steps : StepsBy (sixty_private n) mov_sixty (sixty_state action n 7 0x401000)
      (sixty_state action n 60 0x401005)

-- so it is with an event that covers, with a ring of one slot, and with one that covers where rdi is 5
pub record AreMet : Type 0 where
  pub covered : SixtyIsReady Cover 65
  pub ringed : SixtyIsReady (Ring 1) 72
  pub asked : SixtyIsReady (When base.Cover (One rdi_is_five)) 65
