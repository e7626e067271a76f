-- Machines, what one instruction makes of them, and the view over a set of addresses. Theorems cite it.
use Rattle.std.specs.Prelude.{ℕ, Bool, true, ◌&&◌, if◌then◌else◌, List, [], ◌∷◌, length, Option, Some, None, unwrap_or, Result, Ok, Err}
use Rattle.pun_base.specs.Memory.{Bytes, without}
use Rattle.cpu_state.specs.declared.state.Core.{Core}
use Rattle.cpu_state.specs.declared.world.Question.{Question}
use Rattle.cpu_state.specs.declared.world.Entry.{Entry}
use Rattle.cpu_state.specs.declared.world.MemWrite.{MemWrite}
use Rattle.cpu_state.specs.Bytes.{put_list, avoids}
use Rattle.insn_form.specs.declared.effect.Span.{Span}
use Rattle.insn_form.specs.declared.form.Insn.{Insn}
use Rattle.insn_form.specs.declared.form.Insn.TheVariants.{Exact, Asked, Ending}
use Rattle.insn_form.specs.Effect.{Effect}
use Rattle.insn_form.specs.Meaning.{effect}
use Rattle.insn_form.specs.Plan.{Plan, Halt, plan}

-- the world is the list of the entries that are left
pub record Machine : Type 0 where
  pub core : Core
  pub rip : ℕ
  pub mem : Bytes
  pub world : List Entry

-- an instruction apart from where it stands: with absolute addresses, and with what it would ask
pub record Task : Type 0 where
  pub insn : Insn
  pub asks : Question

-- the entry that comes next
abbrev pub first : List Entry → Option Entry
first [] = None
first (e ∷ es) = Some e

-- the entries behind it
abbrev pub rest : List Entry → List Entry
rest [] = []
rest (e ∷ es) = es

-- the map with writes made in order
abbrev pub put_all : Bytes → List MemWrite → Bytes
put_all m [] = m
put_all m (w ∷ ws) = put_all (put_list m w.addr w.bytes) ws

-- a plan carried out, where next is the address after the instruction
abbrev pub carried : ℕ → Bytes → List Entry → Plan → Machine
carried next m world p = record { core = p.core; rip = unwrap_or p.target next; mem = put_all m p.writes; world = if p.used then rest world else world }

-- the same where there may be no plan
abbrev pub carry : ℕ → Bytes → List Entry → Result Plan Halt → Result Machine Halt
carry next m world (Ok p) = Ok (carried next m world p)
carry next m world (Err h) = Err h

-- one instruction: the state after it, or why there is none
abbrev pub act : Task → ℕ → Machine → Result Machine Halt
act t next s = carry next s.mem s.world (plan t.insn t.asks next s.core s.mem (first s.world))

-- the state, with its memory without a set of addresses
abbrev pub view : (ℕ → Bool) → Machine → Machine
view set s = record { core = s.core; rip = s.rip; mem = without set s.mem; world = s.world }

-- the state as if it stood at an address
abbrev pub standing_at : ℕ → Machine → Machine
standing_at rip s = record { core = s.core; rip = rip; mem = s.mem; world = s.world }

-- a span, if there is one, has no address of the set
abbrev pub avoids_span : (ℕ → Bool) → Option Span → Bool
avoids_span set None = true
avoids_span set (Some s) = avoids set s.addr s.size

-- nor has a write
abbrev pub avoids_writes : (ℕ → Bool) → List MemWrite → Bool
avoids_writes set [] = true
avoids_writes set (w ∷ ws) = avoids set w.addr (length w.bytes) && avoids_writes set ws

-- nor what an operation reads and writes
abbrev pub avoids_effect : (ℕ → Bool) → Effect → Bool
avoids_effect set e = avoids_span set e.read && avoids_span set e.write

-- nor what an answer writes
abbrev pub avoids_answer : (ℕ → Bool) → Option Entry → Bool
avoids_answer set None = true
avoids_answer set (Some e) = avoids_writes set e.answer.writes

-- nor what an instruction reads and writes, or an answer to it writes
abbrev pub avoids_insn : (ℕ → Bool) → Insn → ℕ → Core → Option Entry → Bool
avoids_insn set (Exact op) next c entry = avoids_effect set (effect op next c)
avoids_insn set (Asked form) next c entry = avoids_answer set entry
avoids_insn set Ending next c entry = true

-- the instruction reads and writes as data no byte of the set, and no answer to it writes one; what an asked instruction
-- reads isn't counted
abbrev pub leaves : (ℕ → Bool) → Task → ℕ → Machine → Bool
leaves set t next s = avoids_insn set t.insn next s.core (first s.world)
