-- What some instructions leave alone. Worked examples alone cite it.
-- In all of it rsp is 0x1000, and the world's next answer writes one byte at 0x600000.
use Rattle.std.specs.Prelude.{◌≡◌, ℕ, ◌+◌, ◌-◌, Bool, true, false, ◌&&◌, nat_le, nat_lt, [], ◌∷◌, ◌==◌, replicate, Some, None, pos}
use Rattle.cpu_alu.specs.declared.operation.Width.TheVariants.{W8, W64}
use Rattle.cpu_alu.specs.declared.operation.AluOp.TheVariants.{Xor}
use Rattle.cpu_state.specs.declared.world.Question.{Question}
use Rattle.cpu_state.specs.declared.world.Entry.{Entry}
use Rattle.insn_form.specs.declared.form.Seg.TheVariants.{Plain}
use Rattle.insn_form.specs.declared.form.MemForm.{MemForm}
use Rattle.insn_form.specs.declared.form.Spot.TheVariants.{Reg, Mem}
use Rattle.insn_form.specs.declared.form.Value.TheVariants as value
use Rattle.insn_form.specs.declared.form.Op.TheVariants.{Mov, Push, Alu}
use Rattle.insn_form.specs.declared.form.Insn.{Insn}
use Rattle.insn_form.specs.declared.form.Insn.TheVariants.{Exact, Asked}
use Rattle.insn_form.specs.Operands.{rax}
use Rattle.insn_form.specs.Machine.{Machine, leaves}
use Rattle.insn_form.specs.Touched.{writes_within}
use Rattle.insn_form.specs.Worked.{start}

-- a question, which matters to nothing here
abbrev pub asked_bytes : Question
asked_bytes = record { bytes = []; addr = None }

-- an answer that writes one byte at 0x600000
abbrev pub writing : Entry
writing = record { question = asked_bytes; answer = record { regs = replicate 16 None; flags = None; fs = None; gs = None; writes = record { addr = 0x600000; bytes = 1 ∷ [] } ∷ [] } }

-- a state in front of that answer
abbrev pub at_start : Machine
at_start = record { core = start; rip = 0x401000; mem = λ a. None; world = writing ∷ [] }

-- an instruction leaves one address alone
abbrev pub spares : Insn → ℕ → Bool
spares i a = leaves (λ x. x == a) (record { insn = i; asks = asked_bytes }) 0x401008 at_start

-- an operand in memory at 0x600000; then MOV byte [0x600000], 1; MOV al, [0x600000]; PUSH rax; an asked instruction; XOR rax, rax
abbrev pub at_600000 : MemForm
at_600000 = record { base = None; index = None; scale = 1; disp = pos 0x600000; rip = false; seg = Plain; short = false; tail = 6 }

abbrev pub store_byte : Insn
store_byte = Exact (Mov W8 (Mem at_600000) (value.Imm 1))

abbrev pub load_byte : Insn
load_byte = Exact (Mov W8 (Reg rax) (value.Spot (Mem at_600000)))

abbrev pub push_rax : Insn
push_rax = Exact (Push (value.Spot (Reg rax)))

abbrev pub asked : Insn
asked = Asked (record { rip_disp = None; syscall = false; copied = true })

abbrev pub clear_rax : Insn
clear_rax = Exact (Alu Xor W64 (Reg rax) (value.Spot (Reg rax)) true)

-- all that it writes lies between two addresses
abbrev pub stays_in : Insn → ℕ → ℕ → Bool
stays_in i lo hi = writes_within (λ x. nat_le lo x && nat_lt x hi) i 0x401008 start (Some writing)

-- one byte and no other is touched by the moves, eight by the push; of answers those to asked instructions write
pub record LeavesAlone (byte next low high : ℕ) : Type 0 where
  pub stored : spares store_byte byte ≡ false
  pub beside_stored : spares store_byte next ≡ true
  pub loaded : spares load_byte byte ≡ false
  pub beside_loaded : spares load_byte next ≡ true
  pub pushed : spares push_rax low ≡ false
  pub beside_pushed : spares push_rax high ≡ true
  pub answered : spares asked byte ≡ false
  pub beside_answered : spares asked next ≡ true
  pub ignored : spares clear_rax byte ≡ true

-- what the moves write is the one byte, and what the push writes the eight below the old top; so of answers
pub record WritesInside (byte low high : ℕ) : Type 0 where
  pub stored : stays_in store_byte byte (byte + 1) ≡ true
  pub stored_elsewhere : stays_in store_byte (byte + 1) (byte + 9) ≡ false
  pub loaded : stays_in load_byte 0 0 ≡ true
  pub pushed : stays_in push_rax low high ≡ true
  pub pushed_lower : stays_in push_rax low (high - 1) ≡ false
  pub answered : stays_in asked byte (byte + 1) ≡ true
  pub answered_elsewhere : stays_in asked low high ≡ false
