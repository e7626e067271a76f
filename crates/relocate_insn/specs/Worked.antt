-- One call by hand: FF 13, CALL [rbx] at 0x401000, relocated to 0x21008. Worked examples alone cite it.
-- Its operand is the place to which it pushes. The private range begins at 0x20000.
use Rattle.std.specs.Prelude.{◌≡◌, ℕ, ◌-◌, ◌≤◌, Bool, false, ◌&&◌, nat_le, nat_lt, if◌then◌else◌, List, [], ◌∷◌, ◌++◌, length, replicate, slice_index, None, Some}
use Rattle.pun_base.specs.Memory.{Bytes, joined}
use Rattle.cpu_state.specs.declared.state.Core.{Core}
use Rattle.cpu_state.specs.Bytes.{number_at, put_number}
use Rattle.length_decode.specs.declared.escape_bytes.Escape.TheVariants.{OneByte}
use Rattle.length_decode.specs.Spelling.{Fields, spelling}
use Rattle.insn_form.specs.Machine.{Machine}
use Rattle.insn_form.specs.Step.{StepsBy, Step}
use Rattle.insn_form.specs.Runs.{IsRun}
use Rattle.relocate_insn.specs.Relocating.{relocated_code}
use Rattle.relocate_insn.specs.Running.{IsReady}

-- FF 13: CALL [rbx]
abbrev pub call_at_rbx : Fields
call_at_rbx = record { prefixes = []; escape = OneByte; opcode = 0xff; modrm = Some 0x13; sib = None; disp = []; imm = [] }

-- its code at 0x21008
abbrev pub call_code : List ℕ
call_code = relocated_code 0x20000 call_at_rbx 0x401002 0x21008

-- from one address up to another
abbrev pub is_between : ℕ → ℕ → ℕ → Bool
is_between lo hi x = nat_le lo x && nat_lt x hi

-- the same permissions from one address up to another, with a list's bytes and zeros behind them
abbrev pub spread : ℕ → ℕ → ℕ → List ℕ → Bytes
spread lo hi perms bytes x =
    if is_between lo hi x
    then Some (record { byte = slice_index bytes (x - lo); perms = perms })
    else None

-- 24 private bytes, the code, the instruction, and a stack that holds the address 0x401005 at 0x600EF8
abbrev pub call_memory : Bytes
call_memory =
    joined (spread 0x20000 0x20018 6 [])
    (joined (spread 0x21008 0x2102f 5 call_code)
    (joined (spread 0x401000 0x401002 5 (spelling call_at_rbx))
    (joined (spread 0x600ef8 0x600f00 6 (0x05 ∷ 0x10 ∷ 0x40 ∷ []))
    (spread 0x600000 0x601000 6 []))))

-- the private range
abbrev pub call_private : ℕ → Bool
call_private x = is_between 0x20000 0x20018 x

-- 7 in rax, 0x600EF8 in rbx, a number in rsp, and zeros in the other registers and the flags
abbrev pub call_core : ℕ → Core
call_core rsp = record {
  regs = 7 ∷ 0 ∷ 0 ∷ 0x600ef8 ∷ rsp ∷ replicate 11 0;
  flags = record { cf = false; pf = false; af = false; zf = false; sf = false; of = false; rest = 0 };
  fs = 0;
  gs = 0;
}

-- the state before, at an address
abbrev pub before_call : ℕ → Machine
before_call rip = record { core = call_core 0x600f00; rip = rip; mem = call_memory; world = [] }

-- the state behind the call, with 0x401002 on the stack
abbrev pub after_call : Machine
after_call = record {
  core = call_core 0x600ef8;
  rip = 0x401005;
  mem = put_number call_memory 0x600ef8 8 0x401002;
  world = [];
}

-- a state stands at the call's target, with the call's registers, and with the address behind the call on the stack
pub record IsCalled (s : Machine) : Type 0 where
  pub rip : s.rip ≡ 0x401005
  pub regs : s.core.regs ≡ 7 ∷ 0 ∷ 0 ∷ 0x600ef8 ∷ 0x600ef8 ∷ replicate 11 0
  pub pushed : number_at s.mem 0x600ef8 8 ≡ 0x401002

-- from a state some run of six steps at most leads there
pub record LeadsToCalled (s : Machine) : Type 0 where
  pub inner : List Machine
  pub end : Machine
  pub run : IsRun Step s (inner ++ end ∷ [])
  pub few : length inner ≤ 5
  pub called : IsCalled end

-- the code, the call itself, a state that meets the premises of the law of relocated code, and where its code leads
pub record CallIsRelocated : Type 0 where
  pub code : call_code ≡
      0x48 ∷ 0x89 ∷ 0x04 ∷ 0x25 ∷ 0x00 ∷ 0x00 ∷ 0x02 ∷ 0x00
      ∷ 0x48 ∷ 0x8b ∷ 0x03
      ∷ 0x48 ∷ 0x89 ∷ 0x04 ∷ 0x25 ∷ 0x10 ∷ 0x00 ∷ 0x02 ∷ 0x00
      ∷ 0x48 ∷ 0x8b ∷ 0x04 ∷ 0x25 ∷ 0x00 ∷ 0x00 ∷ 0x02 ∷ 0x00
      ∷ 0x68 ∷ 0x02 ∷ 0x10 ∷ 0x40 ∷ 0x00
      ∷ 0xff ∷ 0x24 ∷ 0x25 ∷ 0x10 ∷ 0x00 ∷ 0x02 ∷ 0x00 ∷ []
  pub target : number_at call_memory 0x600ef8 8 ≡ 0x401005
  pub steps : StepsBy call_private call_at_rbx (before_call 0x401000) after_call
  pub called : IsCalled after_call
  pub ready : IsReady call_private 0x20000 24 0x21008 call_code
      (before_call 0x401000) (before_call 0x21008)
  pub leads : LeadsToCalled (before_call 0x21008)
