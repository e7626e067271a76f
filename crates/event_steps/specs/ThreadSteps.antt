-- The steps of threads that share their memory: LOCK INC of eight bytes at an address is one step, as INC is, and so is LOCK XADD of four bytes at an
-- address with eax, which adds eax to them as ADD does and loads what they held before into eax (Intel SDM, volume 2, LOCK, INC, XADD). Theorems cite it.
use Rattle.std.specs.Prelude.{◌≡◌, ℕ, Bool, true, false, ◌&&◌, ◌==◌, if◌then◌else◌, [], ◌∷◌, Some, Result, Ok, Err}
use Rattle.pun_base.specs.Memory.{Bytes}
use Rattle.length_decode.specs.declared.escape_bytes.Escape.{Escape}
use Rattle.length_decode.specs.declared.escape_bytes.Escape.TheVariants.{OneByte, TwoByte}
use Rattle.length_decode.specs.Spelling.{Fields}
use Rattle.cpu_alu.specs.declared.operation.Width.TheVariants.{W32}
use Rattle.cpu_alu.specs.Widths.{cut}
use Rattle.cpu_state.specs.declared.state.Core.{Core}
use Rattle.insn_form.specs.declared.form.Insn.{Insn}
use Rattle.insn_form.specs.declared.form.Insn.TheVariants.{Exact, Asked, Ending}
use Rattle.insn_form.specs.Operands.{with_reg, rax}
use Rattle.insn_form.specs.Meaning.{effect}
use Rattle.insn_form.specs.Plan.{Halt, number_in, same_bytes, same_address}
use Rattle.insn_form.specs.Machine.{Machine, Task, act}
use Rattle.insn_form.specs.Step.{IsAt, next_after, task_of, StepsBy}

-- an opcode is of the map without an escape
abbrev pub is_one_byte : Escape → Bool
is_one_byte OneByte = true
is_one_byte e = false

-- an opcode is of the map behind 0F
abbrev pub is_two_byte : Escape → Bool
is_two_byte TwoByte = true
is_two_byte e = false

-- these fields are LOCK INC of eight bytes at an address: F0 48 FF 04 25 and four bytes
abbrev pub is_locked_inc : Fields → Bool
is_locked_inc f =
    same_bytes f.prefixes (0xf0 ∷ 0x48 ∷ []) && (is_one_byte f.escape && (f.opcode == 0xff && (same_address f.modrm (Some 0x04) && same_address f.sib (Some 0x25))))

-- these fields are LOCK XADD of four bytes at an address with eax: F0 0F C1 04 25 and four bytes
abbrev pub is_locked_xadd : Fields → Bool
is_locked_xadd f =
    is_two_byte f.escape && (same_bytes f.prefixes (0xf0 ∷ []) && (f.opcode == 0xc1 && (same_address f.modrm (Some 0x04) && same_address f.sib (Some 0x25))))

-- the fields of LOCK INC without F0
abbrev pub unlocked : Fields → Fields
unlocked f = record f { prefixes = 0x48 ∷ [] }

-- the fields of ADD of eax to the four bytes that LOCK XADD names: 01 04 25 and four bytes
abbrev pub adding : Fields → Fields
adding f = record f { prefixes = []; escape = OneByte; opcode = 0x01 }

-- the task of a spelling: LOCK INC does what INC does, in one step, and isn't asked, and what LOCK XADD reads and writes is what ADD does
abbrev pub thread_task : Fields → ℕ → Task
thread_task f next = if is_locked_inc f then task_of (unlocked f) next else (if is_locked_xadd f then task_of (adding f) next else task_of f next)

-- the number that an instruction with absolute addresses reads
abbrev pub number_read : Insn → ℕ → Core → Bytes → ℕ
number_read (Exact op) next c m = number_in m (effect op next c).read
number_read (Asked form) next c m = 0
number_read Ending next c m = 0

-- the state with the four bytes that an instruction of s read in eax
abbrev pub loaded : Task → ℕ → Machine → Machine → Machine
loaded t next s u = record u { core = with_reg u.core rax (cut W32 (number_read t.insn next s.core s.mem)) }

-- what an instruction of s leads to, where it loads what it read into eax, or doesn't
abbrev pub exchanged : Bool → Task → ℕ → Machine → Result Machine Halt → Result Machine Halt
exchanged false t next s r = r
exchanged true t next s (Ok u) = Ok (loaded t next s u)
exchanged true t next s (Err h) = Err h

-- what the instruction of a task does, where it loads what it read into eax, or doesn't
abbrev pub acting : Bool → Task → ℕ → Machine → Result Machine Halt
acting x t next s = exchanged x t next s (act t next s)

-- what a spelling in front of a next address does to the state of a thread: LOCK XADD alone loads what it read
abbrev pub thread_act : Fields → ℕ → Machine → Result Machine Halt
thread_act f next s = acting (is_locked_xadd f) (thread_task f next) next s

-- the instruction of these fields leads from s to t
pub record ThreadStepsBy (f : Fields) (s t : Machine) : Type 0 where
  pub at : IsAt s f
  pub acts : thread_act f (next_after s.rip f) s ≡ Ok t

-- one instruction of a thread leads from s to t
abbrev pub ThreadStep : Machine → Machine → Type 0
ThreadStep s t = (f : Fields) × ThreadStepsBy f s t

-- A step that a single processor makes by an instruction other than LOCK INC and LOCK XADD is a step of a thread.
abbrev pub IsThreadStep : Type 0
IsThreadStep = (set : ℕ → Bool) (f : Fields) (s t : Machine) → is_locked_inc f ≡ false → is_locked_xadd f ≡ false → StepsBy set f s t → ThreadStepsBy f s t
