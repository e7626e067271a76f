-- What one step answers, by the executable bytes at the instruction pointer: their instruction, what it changes. Theorems cite it.
use Rattle.std.specs.Prelude.{◌≡◌, ◌↔◌, ℕ, ◌^◌, ◌<◌, Bool, false, not, ◌||◌, ◌==◌, if◌then◌else◌, List, [], ◌∷◌, length, Option, None, unwrap_or, Result, Ok, Err}
use Rattle.pun_base.specs.Memory.{Bytes}
use Rattle.length_decode.specs.declared.instruction_parts.Shape.{Shape}
use Rattle.length_decode.specs.declared.instruction_parts.Shape.TheVariants.{Known, Unknown, Short}
use Rattle.length_decode.specs.declared.field_bytes.Stop as reading
use Rattle.length_decode.specs.Spelling.{Fields, IsShort}
use Rattle.length_decode.specs.Parse.{parse, shape_from}
use Rattle.cpu_state.specs.declared.state.Core.{Core}
use Rattle.cpu_state.specs.declared.state.State.{State}
use Rattle.cpu_state.specs.declared.world.Question.{Question}
use Rattle.cpu_state.specs.declared.world.Entry.{Entry}
use Rattle.cpu_state.specs.declared.world.MemWrite.{MemWrite}
use Rattle.cpu_state.specs.Bytes.{advanced, code_at}
use Rattle.cpu_state.specs.Regions.{cell_at}
use Rattle.cpu_state.specs.Parts.{core_of}
use Rattle.insn_form.specs.declared.effect.Span.{Span}
use Rattle.insn_form.specs.declared.form.Insn.{Insn}
use Rattle.insn_form.specs.declared.form.Insn.TheVariants.{Exact, Asked, Ending}
use Rattle.insn_form.specs.Meaning.{effect}
use Rattle.insn_form.specs.Resolving.{resolved_insn}
use Rattle.insn_form.specs.Plan.{Plan, Halt, Lacks, Ends, Empty, Differs, plan}
use Rattle.insn_form.specs.Machine.{Machine, Task, first, rest, put_all}
use Rattle.insn_form.specs.Step.{Step, IsAt, next_after, task_of}
use Rattle.insn_form.specs.Runs.{nowhere}
use Rattle.cpu_step.specs.declared.stop.Stop.{Stop}
use Rattle.cpu_step.specs.declared.stop.Stop.TheVariants.{NoByte, UnknownInsn, Ending as EndingStop, WorldEmpty, WorldDiffers}

-- a state, with the entries of the world that are left
abbrev pub machine_of : State → List Entry → Machine
machine_of s world = record { core = core_of s; rip = s.rip; mem = cell_at s.mem; world = world }

-- a step that is made: what the instruction itself reads and writes as data, whether an answer wrote, what changes
pub record Taken : Type 0 where
  pub read : Option Span
  pub write : Option Span
  pub answer_wrote : Bool
  pub core : Core
  pub rip : ℕ
  pub writes : List MemWrite
  pub used : Bool

-- what an instruction itself reads as data: what an asked one reads is the world's to know
abbrev pub read_of : Insn → ℕ → Core → Option Span
read_of (Exact op) next c = (effect op next c).read
read_of (Asked form) next c = None
read_of Ending next c = None

-- what it writes itself: an asked one leaves that to the answer
abbrev pub write_of : Insn → ℕ → Core → Option Span
write_of (Exact op) next c = (effect op next c).write
write_of (Asked form) next c = None
write_of Ending next c = None

-- some byte is written
abbrev pub has_byte : List MemWrite → Bool
has_byte [] = false
has_byte (w ∷ ws) = not (length w.bytes == 0) || has_byte ws

-- what an asked instruction writes is an answer's
abbrev pub answer_writes : Insn → List MemWrite → Bool
answer_writes (Exact op) ws = false
answer_writes (Asked form) ws = has_byte ws
answer_writes Ending ws = false

-- of an instruction in front of the address next, by its plan
abbrev pub taken : Insn → ℕ → Core → Plan → Taken
taken i next c p = record {
  read = read_of i next c;
  write = write_of i next c;
  answer_wrote = answer_writes i p.writes;
  core = p.core;
  rip = unwrap_or p.target next;
  writes = p.writes;
  used = p.used;
}

-- the stop of an instruction at rip that would ask a question
abbrev pub stop_at : ℕ → Question → Halt → Stop
stop_at rip asked (Lacks a) = NoByte a
stop_at rip asked Ends = EndingStop rip
stop_at rip asked Empty = WorldEmpty rip
stop_at rip asked Differs = WorldDiffers rip asked

-- the step that a plan makes, or the stop where there is no plan
abbrev pub taken_or_stop : ℕ → Question → Insn → ℕ → Core → Result Plan Halt → Result Taken Stop
taken_or_stop rip asked i next c (Ok p) = Ok (taken i next c p)
taken_or_stop rip asked i next c (Err h) = Err (stop_at rip asked h)

-- an instruction with absolute addresses, by its plan
abbrev pub judged_insn : Insn → Question → ℕ → Core → ℕ → Bytes → Option Entry → Result Taken Stop
judged_insn i asked next c rip m entry =
    taken_or_stop rip asked i next c (plan i asked next c m entry)

-- the same of a task: an instruction and what it asks
abbrev pub judged_task : Task → ℕ → Core → ℕ → Bytes → Option Entry → Result Taken Stop
judged_task t next c rip m entry = judged_insn t.insn t.asks next c rip m entry

-- the stop where n executable bytes at rip begin with no instruction: a byte is missing, or none helps
abbrev pub unread : ℕ → ℕ → Shape → Stop
unread rip n Short = NoByte (advanced rip n)
unread rip n Unknown = UnknownInsn rip
unread rip n (Known parts) = UnknownInsn rip

-- n executable bytes at rip, by what they were read as: an instruction that they begin with, or none
abbrev pub judged_reading : ℕ → Result Fields reading.Stop → Core → ℕ → Bytes → Option Entry → Result Taken Stop
judged_reading n (Ok f) c rip m entry =
    let next = next_after rip f in judged_task (task_of f next) next c rip m entry
judged_reading n (Err e) c rip m entry = Err (unread rip n (shape_from n (Err e)))

-- the executable bytes at rip
abbrev pub judged_code : List ℕ → Core → ℕ → Bytes → Option Entry → Result Taken Stop
judged_code [] c rip m entry = Err (NoByte rip)
judged_code (b ∷ bs) c rip m entry =
    judged_reading (length (b ∷ bs)) (parse (b ∷ bs)) c rip m entry

-- the checks in their order: bytes to execute, an instruction, and what its plan needs. An exact one needs its read, its
-- write, and where flags are undefined the world's next entry; an asked one that entry, and then the answer's writes.
abbrev pub judged : Core → ℕ → Bytes → Option Entry → Result Taken Stop
judged c rip m entry = judged_code (code_at m rip 15) c rip m entry

-- the same of a state, by its code
abbrev pub judged_in : State → Option Entry → Result Taken Stop
judged_in s entry = judged (core_of s) s.rip (cell_at s.mem) entry

-- the same by the instruction of a spelling
abbrev pub fields_in : Fields → State → Option Entry → Result Taken Stop
fields_in f s entry =
    let next = next_after s.rip f in
    judged_task (task_of f next) next (core_of s) s.rip (cell_at s.mem) entry

-- the same by an instruction in front of the address next
abbrev pub insn_in : Insn → Question → ℕ → State → Option Entry → Result Taken Stop
insn_in i asked next s entry =
    judged_insn (resolved_insn next i) asked next (core_of s) s.rip (cell_at s.mem) entry

-- the entries of a world that are left after a step
abbrev pub world_after : Bool → List Entry → List Entry
world_after used world = if used then rest world else world

-- the state that a step makes
abbrev pub moved : Bytes → List Entry → Taken → Machine
moved m world t =
    record { core = t.core; rip = t.rip; mem = put_all m t.writes; world = world_after t.used world }

-- that state, or the stop
abbrev pub moved_or_stop : Bytes → List Entry → Result Taken Stop → Result Machine Stop
moved_or_stop m world (Ok t) = Ok (moved m world t)
moved_or_stop m world (Err stop) = Err stop

-- what is judged of a state and the next entry of its world
abbrev pub judgement : Machine → Result Taken Stop
judgement s = judged s.core s.rip s.mem (first s.world)

-- the state after one step, or the stop
abbrev pub stepped : Machine → Result Machine Stop
stepped s = moved_or_stop s.mem s.world (judgement s)

-- a step is made exactly where the step relation has one, and to where that leads
abbrev pub StepsAreOk : Type 0
StepsAreOk = (s t : Machine) → (stepped s ≡ Ok t) ↔ Step nowhere s t

-- where an instruction stands, its plan tells the step or the stop
abbrev pub IsByPlan : Type 0
IsByPlan = (s : Machine) (f : Fields) → IsAt s f →
    let next = next_after s.rip f in
    let t = task_of f next in
    judgement s
    ≡ taken_or_stop s.rip t.asks t.insn next s.core
    (plan t.insn t.asks next s.core s.mem (first s.world))

-- the executable bytes at the instruction pointer, at most 15
abbrev pub code_of : Machine → List ℕ
code_of s = code_at s.mem s.rip 15

-- where they are too few for an instruction that they begin, the stop is the address behind them
abbrev pub IsByMissing : Type 0
IsByMissing = (s : Machine) → s.rip < 2 ^ 64 → IsShort (code_of s) →
    judgement s ≡ Err (NoByte (advanced s.rip (length (code_of s))))

-- where they begin none, and none stands there, the stop is the address of an unknown one
abbrev pub IsByUnknown : Type 0
IsByUnknown = (s : Machine) → (IsShort (code_of s) → ⊥) → ((f : Fields) → IsAt s f → ⊥) →
    judgement s ≡ Err (UnknownInsn s.rip)
