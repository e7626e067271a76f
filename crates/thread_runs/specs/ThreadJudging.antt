-- What one step of a thread answers: the step, or why there is none. Theorems cite it. A step is judged as a single processor's is, but LOCK INC is read as INC,
-- and LOCK XADD as ADD that loads what it reads.
use Rattle.std.specs.Prelude.{◌≡◌, ℕ, ◌%◌, ◌^◌, Bool, true, false, ◌&&◌, nat_le, List, [], ◌∷◌, length, take, Option, Some, None, Result, Ok, Err, slice_index}
use Rattle.pun_base.specs.Memory.{Bytes}
use Rattle.length_decode.specs.declared.field_bytes.Stop as reading
use Rattle.length_decode.specs.Spelling.{Fields}
use Rattle.length_decode.specs.Parse.{parse, shape_from}
use Rattle.cpu_state.specs.declared.state.Core.{Core}
use Rattle.cpu_state.specs.declared.state.State.{State}
use Rattle.cpu_state.specs.declared.world.Entry.{Entry}
use Rattle.cpu_state.specs.Bytes.{advanced, lacking, number_at, put_number, code_at}
use Rattle.cpu_alu.specs.declared.operation.Width.TheVariants.{W32}
use Rattle.cpu_alu.specs.declared.operation.AluOp.TheVariants.{Add}
use Rattle.cpu_alu.specs.declared.outcome.AluOut.{AluOut}
use Rattle.cpu_alu.specs.Arithmetic.{arithmetic}
use Rattle.cpu_alu.specs.Widths.{cut}
use Rattle.cpu_state.specs.Parts.{core_of}
use Rattle.cpu_state.specs.Regions.{cell_at}
use Rattle.insn_form.specs.Filling.{integer_of}
use Rattle.insn_form.specs.Operands.{word_of, reg, with_reg, with_flags, rax}
use Rattle.insn_form.specs.Plan.{same_bytes, or_first}
use Rattle.insn_form.specs.Machine.{Machine, Task, first}
use Rattle.insn_form.specs.Step.{next_after}
use Rattle.cpu_step.specs.declared.stop.Stop.{Stop}
use Rattle.cpu_step.specs.declared.stop.Stop.TheVariants.{NoByte}
use Rattle.cpu_step.specs.Stepping.{Taken, judged_task, unread, machine_of, world_after}
use Rattle.event_steps.specs.ThreadSteps.{is_locked_xadd, thread_task, number_read, ThreadStep}

-- the step that is judged, with what is read in eax, where the instruction loads it
abbrev pub loading : Bool → Task → ℕ → Core → Bytes → Result Taken Stop → Result Taken Stop
loading false t next c m r = r
loading true t next c m (Ok k) = Ok (record k { core = with_reg k.core rax (cut W32 (number_read t.insn next c m)) })
loading true t next c m (Err stop) = Err stop

-- the judgement by what is read of the n executable bytes from rip on
abbrev pub thread_reading : ℕ → Result Fields reading.Stop → Core → ℕ → Bytes → Option Entry → Result Taken Stop
thread_reading n (Ok f) c rip m entry =
    let next = next_after rip f in loading (is_locked_xadd f) (thread_task f next) next c m (judged_task (thread_task f next) next c rip m entry)
thread_reading n (Err e) c rip m entry = Err (unread rip n (shape_from n (Err e)))

-- the judgement by the executable bytes from rip on
abbrev pub thread_code : List ℕ → Core → ℕ → Bytes → Option Entry → Result Taken Stop
thread_code [] c rip m entry = Err (NoByte rip)
thread_code (b ∷ bs) c rip m entry = thread_reading (length (b ∷ bs)) (parse (b ∷ bs)) c rip m entry

-- the judgement of the state of a thread
abbrev pub thread_judgement : Machine → Result Taken Stop
thread_judgement s = thread_code (code_at s.mem s.rip 15) s.core s.rip s.mem (first s.world)

-- The thread has no step, for this reason.
pub record IsStopped (s : Machine) (stop : Stop) : Type 0 where
  pub reason : thread_judgement s ≡ Err stop
  pub none : (t : Machine) → ThreadStep s t → ⊥

-- An entry of the world is used up only where one was given.
abbrev pub UsesOne : Option Entry → Bool → Type 0
UsesOne None used = used ≡ false
UsesOne (Some e) used = Unit {0}

-- In each world whose next entry was given: a step to the new state, with whether the entry was
-- used, or none, and then the state stays.
abbrev pub StepsThread : Option Entry → State → State → Result Bool Stop → Type 0
StepsThread next old new (Ok used) =
    UsesOne next used × ((world : List Entry) → first world ≡ next → ThreadStep (machine_of old world) (machine_of new (world_after used world)))
StepsThread next old new (Err stop) = (new ≡ old) × ((world : List Entry) → first world ≡ next → IsStopped (machine_of old world) stop)

-- The bytes begin with those of LOCK INC: F0 48 FF 04 25 and four more.
abbrev pub begins_locked : List ℕ → Bool
begins_locked bs = nat_le 9 (length bs) && same_bytes (take 5 bs) (0xf0 ∷ 0x48 ∷ 0xff ∷ 0x04 ∷ 0x25 ∷ [])

-- The bytes begin with those of LOCK XADD: F0 0F C1 04 25 and four more.
abbrev pub begins_xadd : List ℕ → Bool
begins_xadd bs = nat_le 9 (length bs) && same_bytes (take 5 bs) (0xf0 ∷ 0x0f ∷ 0xc1 ∷ 0x04 ∷ 0x25 ∷ [])

-- the address that its four last bytes name
abbrev pub xadd_address : List ℕ → ℕ
xadd_address bs = word_of (integer_of (slice_index bs 5 ∷ slice_index bs 6 ∷ slice_index bs 7 ∷ slice_index bs 8 ∷ []))

-- the sum of the four bytes at an address and eax
abbrev pub sum_at : ℕ → State → AluOut
sum_at a s = arithmetic Add W32 (number_at (cell_at s.mem) a 4) (reg (core_of s) rax) s.flags

-- The four bytes at an address have risen by eax, which holds what they were; the instruction pointer is behind the instruction.
pub record Exchanged (a : ℕ) (old new : State) (used : Bool) : Type 0 where
  pub unused : used ≡ false
  pub read : lacking 4 (cell_at old.mem) a 4 ≡ None
  pub written : lacking 2 (cell_at old.mem) a 4 ≡ None
  pub mem : cell_at new.mem ≡ put_number (cell_at old.mem) a 4 (sum_at a old).value
  pub core : core_of new ≡ with_reg (with_flags (core_of old) (sum_at a old).flags) rax (number_at (cell_at old.mem) a 4 % 2 ^ 32)
  pub rip : new.rip ≡ advanced old.rip 9

-- It is so, or a byte lacks the permission to read or, else, to write, and the state stays.
abbrev pub Exchanges : ℕ → State → State → Result Bool Stop → Type 0
Exchanges a old new (Ok used) = Exchanged a old new used
Exchanges a old new (Err stop) = (new ≡ old) × ((x : ℕ) × (or_first (lacking 4 (cell_at old.mem) a 4) (lacking 2 (cell_at old.mem) a 4) ≡ Some x) × (stop ≡ NoByte x))
