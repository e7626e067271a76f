-- What an instruction changes, found without writing: by its effect, or by the world's answer. Theorems cite it.
use Rattle.std.specs.Prelude.{ℕ, Bool, true, false, ◌&&◌, ◌==◌, if◌then◌else◌, List, [], ◌∷◌, length, Option, Some, None, unwrap_or, Result, Ok, Err}
use Rattle.cpu_alu.specs.declared.flag_word.Flags.{Flags}
use Rattle.cpu_alu.specs.FlagWord.{is_set, unpacked}
use Rattle.pun_base.specs.Memory.{Bytes}
use Rattle.cpu_state.specs.declared.state.Core.{Core}
use Rattle.cpu_state.specs.declared.world.Question.{Question}
use Rattle.cpu_state.specs.declared.world.Answer.{Answer}
use Rattle.cpu_state.specs.declared.world.Entry.{Entry}
use Rattle.cpu_state.specs.declared.world.MemWrite.{MemWrite}
use Rattle.cpu_state.specs.Bytes.{lacking, number_at, bytes_of}
use Rattle.insn_form.specs.declared.effect.Span.{Span}
use Rattle.insn_form.specs.declared.effect.Out.{Out}
use Rattle.insn_form.specs.declared.form.Insn.{Insn}
use Rattle.insn_form.specs.declared.form.Insn.TheVariants.{Exact, Asked, Ending}
use Rattle.insn_form.specs.Operands.{with_reg, with_flags, rcx}
use Rattle.insn_form.specs.Effect.{Effect}
use Rattle.insn_form.specs.Meaning.{effect}

-- what is to be changed
pub record Plan : Type 0 where
  pub core : Core
  -- where the run goes on, if not at the next instruction
  pub target : Option ℕ
  -- in order
  pub writes : List MemWrite
  -- whether the world's next entry is used up
  pub used : Bool

-- why there is no step
pub data Halt : Type 0 where
  -- no byte is held at the address with the permission that is needed
  Lacks : (addr : ℕ) → Halt
  -- the instruction ends the run
  Ends : Halt
  -- the world has no further entry
  Empty : Halt
  -- the world's next entry has another question
  Differs : Halt

-- memory at a span, where there is one
abbrev pub lacking_in : ℕ → Bytes → Option Span → Option ℕ
lacking_in p m None = None
lacking_in p m (Some s) = lacking p m s.addr s.size

-- the number at a span, 0 where there is none
abbrev pub number_in : Bytes → Option Span → ℕ
number_in m None = 0
number_in m (Some s) = number_at m s.addr s.size

-- a number written into a span, where there is one
abbrev pub writes_in : Option Span → ℕ → List MemWrite
writes_in None v = []
writes_in (Some s) v = record { addr = s.addr; bytes = bytes_of s.size v } ∷ []

-- goes on unless an address lacks its byte
abbrev pub unless : {A : Type 0} → Option ℕ → Result A Halt → Result A Halt
unless None r = r
unless (Some a) r = Err (Lacks a)

-- the first of two addresses that is there
abbrev pub or_first : Option ℕ → Option ℕ → Option ℕ
or_first None o = o
or_first (Some a) o = Some a

-- the first byte of the writes, in order, that isn't held with W
abbrev pub lacking_writes : Bytes → List MemWrite → Option ℕ
lacking_writes m [] = None
lacking_writes m (w ∷ ws) = or_first (lacking 2 m w.addr (length w.bytes)) (lacking_writes m ws)

-- the lists are equal
abbrev pub same_bytes : List ℕ → List ℕ → Bool
same_bytes [] [] = true
same_bytes (x ∷ xs) (y ∷ ys) = x == y && same_bytes xs ys
same_bytes xs ys = false

-- the addresses are equal, or both are missing
abbrev pub same_address : Option ℕ → Option ℕ → Bool
same_address None None = true
same_address (Some a) (Some b) = a == b
same_address a b = false

-- the questions are equal
abbrev pub same_question : Question → Question → Bool
same_question p q = same_bytes p.bytes q.bytes && same_address p.addr q.addr

-- goes on with the answer that the world's next entry gives to a question
abbrev pub ask : {A : Type 0} → Question → Option Entry → (Answer → Result A Halt) → Result A Halt
ask q None go = Err Empty
ask q (Some e) go = if same_question q e.question then go e.answer else Err Differs

-- the flags of a mask are taken from a word: its bits 0 to 5 are CF, PF, AF, ZF, SF and OF
abbrev pub chosen : ℕ → ℕ → Bool → Bool → Bool
chosen mask bit asked own = if is_set mask bit then asked else own

-- flags of which the mask's are another word's
abbrev pub with_undefined : ℕ → Flags → Flags → Flags
with_undefined mask asked own = record {
  cf = chosen mask 0 asked.cf own.cf;
  pf = chosen mask 1 asked.pf own.pf;
  af = chosen mask 2 asked.af own.af;
  zf = chosen mask 3 asked.zf own.zf;
  sf = chosen mask 4 asked.sf own.sf;
  of = chosen mask 5 asked.of own.of;
  rest = own.rest;
}

-- an exact instruction takes of an answer its undefined flags alone, from the word 0 where the answer gives none
abbrev pub completed : ℕ → Core → Answer → Core
completed mask c a = with_flags c (with_undefined mask (unpacked (unwrap_or a.flags 0)) c.flags)

-- the plan of an outcome with these registers and flags
abbrev pub planned : Core → Out → List MemWrite → Bool → Plan
planned c o ws used = record { core = c; target = o.target; writes = ws; used = used }

-- the plan of an exact instruction, which asks the world where it leaves flags undefined
abbrev pub exactly : Question → List MemWrite → Option Entry → Out → Result Plan Halt
exactly q ws next o =
    if o.undefined == 0 then Ok (planned o.core o ws false)
    else ask q next (λ a. Ok (planned (completed o.undefined o.core a) o ws true))

-- the read and the write are checked first, in this order, and the world is asked last
abbrev pub by_effect : Question → Effect → Bytes → Option Entry → Result Plan Halt
by_effect q e m next =
    unless (lacking_in 4 m e.read) (unless (lacking_in 2 m e.write)
    (let o = e.out (number_in m e.read) in exactly q (writes_in e.write o.value) next o))

-- each register that an answer gives; the others stay
abbrev pub answered : List (Option ℕ) → List ℕ → List ℕ
answered [] rs = rs
answered (o ∷ os) [] = []
answered (o ∷ os) (r ∷ rs) = unwrap_or o r ∷ answered os rs

-- the flags that an answer gives, if it gives any
abbrev pub answered_flags : Option ℕ → Flags → Flags
answered_flags None f = f
answered_flags (Some word) f = unpacked word

-- what an answer gives; the rest stays
abbrev pub answered_core : Answer → Core → Core
answered_core a c = record { regs = answered a.regs c.regs; flags = answered_flags a.flags c.flags; fs = unwrap_or a.fs c.fs; gs = unwrap_or a.gs c.gs }

-- SYSCALL sets rcx to the next address, whatever the answer gives (Intel SDM, volume 2, SYSCALL)
abbrev pub after_answer : Bool → ℕ → Answer → Core → Core
after_answer true next a c = with_reg (answered_core a c) rcx next
after_answer false next a c = answered_core a c

-- the world is asked first, and then the answer's writes are checked
abbrev pub by_answer : Bool → ℕ → Core → Bytes → Answer → Result Plan Halt
by_answer syscall next c m a =
    unless (lacking_writes m a.writes) (Ok (record { core = after_answer syscall next a c; target = None; writes = a.writes; used = true }))

-- what an instruction with absolute addresses changes: what it asks, the address after it, registers, memory, and the world's next entry
abbrev pub plan : Insn → Question → ℕ → Core → Bytes → Option Entry → Result Plan Halt
plan (Exact op) q next c m entry = by_effect q (effect op next c) m entry
plan (Asked form) q next c m entry = ask q entry (by_answer form.syscall next c m)
plan Ending q next c m entry = Err Ends
