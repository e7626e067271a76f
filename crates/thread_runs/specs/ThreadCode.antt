-- The code of a trampoline where threads share their memory: the event, the relocated code, and a jump back. Theorems cite it. Without a
-- condition an event that counts has 32 bytes, one that covers 8, one of a ring 67, and the jump back stands where the relocated code falls
-- through (Intel SDM, volume 2, MOV, LAHF, SETcc, CMP, Jcc, INC, XADD, MOVZX, ADD, SAHF, PUSH, JMP).
use Rattle.std.specs.Prelude.{ℕ, zero, suc, ◌+◌, ◌*◌, ◌-◌, ◌%◌, ◌^◌, ◌==◌, nat_lt, Bool, true, false, ◌||◌, if◌then◌else◌, List, [], ◌∷◌, ◌++◌, length, replicate, Option, Some, None}
use Rattle.pun_base.specs.declared.action.Base.{Base}
use Rattle.pun_base.specs.declared.action.Base.TheVariants.{Cover, Count}
use Rattle.pun_base.specs.declared.action.Comparison.{Comparison}
use Rattle.cpu_state.specs.declared.state.Core.{Core}
use Rattle.cpu_state.specs.Bytes.{advanced}
use Rattle.length_decode.specs.Spelling.{Fields}
use Rattle.insn_form.specs.declared.form.Spot.TheVariants.{Reg}
use Rattle.insn_form.specs.declared.form.Target.TheVariants.{Through}
use Rattle.insn_form.specs.declared.form.Op.TheVariants.{Call}
use Rattle.insn_form.specs.declared.form.Insn.{Insn}
use Rattle.insn_form.specs.declared.form.Insn.TheVariants.{Exact}
use Rattle.insn_form.specs.Operands.{reg, rsp}
use Rattle.insn_form.specs.Instruction.{insn_of}
use Rattle.insn_form.specs.Displacing.{falls}
use Rattle.relocate_insn.specs.Pieces.{four, push_code}
use Rattle.relocate_insn.specs.Relocating.{relocated_by}
use Rattle.cond_action.specs.Codes.{compare_code, failing, mark_byte}
use Rattle.trampoline.specs.Trampolines.{back_if}
use Rattle.trampoline.specs.Events.{put_slot}
use Rattle.trampoline.specs.EventLists.{counter_at, mark_at}

-- what an event of threads does: it marks as its base says, or keeps its site's number in a ring of n slots
pub data Kind : Type 0 where
  Marks : Base → Kind
  Keeps : ℕ → Kind

-- MOV [rsp - 136], rax; LAHF; SETO al
abbrev pub saving_code : List ℕ
saving_code = 0x48 ∷ 0x89 ∷ 0x84 ∷ 0x24 ∷ 0x78 ∷ 0xff ∷ 0xff ∷ 0xff ∷ 0x9f ∷ 0x0f ∷ 0x90 ∷ 0xc0 ∷ []

-- LOCK INC of the eight bytes at an address
abbrev pub counting_code : ℕ → List ℕ
counting_code a = 0xf0 ∷ 0x48 ∷ 0xff ∷ 0x04 ∷ 0x25 ∷ four a

-- ADD al, 7F; SAHF; MOV rax, [rsp - 136]
abbrev pub restoring_code : List ℕ
restoring_code = 0x04 ∷ 0x7f ∷ 0x9e ∷ 0x48 ∷ 0x8b ∷ 0x84 ∷ 0x24 ∷ 0x78 ∷ 0xff ∷ 0xff ∷ 0xff ∷ []

-- the instruction that marks what an event of site i marks
abbrev pub marking_code : Base → ℕ → ℕ → List ℕ
marking_code Cover p i = mark_byte (mark_at Cover p i)
marking_code Count p i = counting_code (counter_at p i)

-- how many bytes it has
abbrev pub marking_len : Base → ℕ
marking_len Cover = 8
marking_len Count = 9

-- CMP with n: of a register, or, since rax holds the flags, of the eight bytes in which it is saved
abbrev pub compare_with : ℕ → ℕ → List ℕ
compare_with zero n = 0x48 ∷ 0x81 ∷ 0xbc ∷ 0x24 ∷ 0x78 ∷ 0xff ∷ 0xff ∷ 0xff ∷ four n
compare_with (suc r) n = compare_code (suc r) n

-- how many bytes it has
abbrev pub compare_len : ℕ → ℕ
compare_len zero = 12
compare_len (suc r) = 7

-- how many bytes comparisons have, each with a short jump
abbrev pub checking_len : List Comparison → ℕ
checking_len [] = 0
checking_len (c ∷ cs) = compare_len c.reg + 2 + checking_len cs

-- comparisons, each with a short jump over those behind it and m bytes more, which is taken where it fails
abbrev pub checking_code : List Comparison → ℕ → List ℕ
checking_code [] m = []
checking_code (c ∷ cs) m = compare_with c.reg c.value ++ ((0x70 + failing c.op) ∷ (checking_len cs + m) ∷ checking_code cs m)

-- an event that saves rax and the flags, and marks where all comparisons hold
abbrev pub saving_event : Base → List Comparison → ℕ → ℕ → List ℕ
saving_event b cs p i = saving_code ++ (checking_code cs (marking_len b) ++ (marking_code b p i ++ restoring_code))

-- how many bytes it has
abbrev pub saving_len : Base → List Comparison → ℕ
saving_len b cs = 12 + checking_len cs + marking_len b + 11

-- the event of site i under a condition, or under none, where it has no comparison: it covers by one store alone, or saves
abbrev pub thread_event : Base → List Comparison → ℕ → ℕ → List ℕ
thread_event Cover [] p i = mark_byte (mark_at Cover p i)
thread_event Cover (c ∷ cs) p i = saving_event Cover (c ∷ cs) p i
thread_event Count cs p i = saving_event Count cs p i

-- the position of a ring: four bytes, the number of slots that were claimed so far, modulo 2^32; p is the first address of the private range
abbrev pub position_at : ℕ → ℕ
position_at p = p + 64

-- slot j of a ring: four bytes, 0 or one more than the number of a site
abbrev pub slot_at : ℕ → ℕ → ℕ
slot_at p j = p + 68 + 4 * j

-- MOV [rsp - 144], rax
abbrev pub keep_ax : List ℕ
keep_ax = 0x48 ∷ 0x89 ∷ 0x84 ∷ 0x24 ∷ 0x70 ∷ 0xff ∷ 0xff ∷ 0xff ∷ []

-- MOV eax, 1
abbrev pub load_one : List ℕ
load_one = 0xb8 ∷ 0x01 ∷ 0x00 ∷ 0x00 ∷ 0x00 ∷ []

-- LOCK XADD of the four bytes at an address with eax
abbrev pub claiming_code : ℕ → List ℕ
claiming_code a = 0xf0 ∷ 0x0f ∷ 0xc1 ∷ 0x04 ∷ 0x25 ∷ four a

-- the opcode of MOVZX from a byte for 256 slots, and from a word for 65,536
abbrev pub reducing : ℕ → ℕ
reducing n = if n == 256 then 0xb6 else 0xb7

-- MOVZX eax, al or MOVZX eax, ax
abbrev pub reducing_code : ℕ → List ℕ
reducing_code n = 0x0f ∷ reducing n ∷ 0xc0 ∷ []

-- MOV rax, [rsp - 144]
abbrev pub take_ax : List ℕ
take_ax = 0x48 ∷ 0x8b ∷ 0x84 ∷ 0x24 ∷ 0x70 ∷ 0xff ∷ 0xff ∷ 0xff ∷ []

-- the event of site i with a ring of n slots: rax and the flags are saved, LOCK XADD claims a slot, i + 1 is moved into it, and flags and rax come back
abbrev pub ring_event : ℕ → ℕ → ℕ → List ℕ
ring_event n p i = saving_code
    ++ (keep_ax ++ (load_one ++ (claiming_code (position_at p) ++ (reducing_code n ++ (put_slot (p + 68) (i + 1) ++ (take_ax ++ restoring_code))))))

-- how many bytes it has
abbrev pub ring_len : ℕ
ring_len = 67

-- The lengths of rings that threads can share: the number of claims so far leads to a slot by its low byte or its low word, since
-- an AND with another length would leave AF undefined (Intel SDM, volume 2, AND).
abbrev pub is_ring_length : ℕ → Bool
is_ring_length n = n == 256 || n == 65536

-- the event of a trampoline, where it has one, saves rax and the flags
abbrev pub is_saving : Option Kind → List Comparison → Bool
is_saving (Some (Marks Cover)) [] = false
is_saving (Some (Marks Cover)) (c ∷ cs) = true
is_saving (Some (Marks Count)) cs = true
is_saving (Some (Keeps n)) cs = true
is_saving None cs = false

-- how many bytes it has
abbrev pub event_len : Option Kind → List Comparison → ℕ
event_len (Some (Marks Cover)) [] = 8
event_len (Some (Marks Cover)) (c ∷ cs) = saving_len Cover (c ∷ cs)
event_len (Some (Marks Count)) cs = saving_len Count cs
event_len (Some (Keeps n)) cs = ring_len
event_len None cs = 0

-- the event of site i, where its trampoline has one
abbrev pub event_if : Option Kind → List Comparison → ℕ → ℕ → List ℕ
event_if (Some (Marks b)) cs p i = thread_event b cs p i
event_if (Some (Keeps n)) cs p i = ring_event n p i
event_if None cs p i = []

-- JMP to a register
abbrev pub jump_reg : ℕ → List ℕ
jump_reg r = (if nat_lt r 8 then [] else 0x41 ∷ []) ++ 0xff ∷ (0xe0 + r % 8) ∷ []

-- a call through a register: PUSH, the jump, and NOPs up to 39 bytes
abbrev pub call_reg_code : ℕ → ℕ → List ℕ
call_reg_code r next = push_code next ++ (jump_reg r ++ replicate (34 - length (jump_reg r)) 0x90)

-- the relocated code is that of trampolines for one thread, but for calls through a register
abbrev pub thread_relocated : Insn → Fields → ℕ → ℕ → List ℕ
thread_relocated (Exact (Call (Through (Reg r)))) f next place = call_reg_code r next
thread_relocated i f next place = relocated_by i 0 f next place

-- the code after the event: the relocated code, and the jump back where it falls through
abbrev pub thread_work : Fields → ℕ → ℕ → List ℕ
thread_work f next place = thread_relocated (insn_of f) f next place ++ back_if (falls (insn_of f)) (place + length (thread_relocated (insn_of f) f next place)) next

-- the code of the trampoline of site i, which stands at a place, with an event or without: the event,
-- and the code after it
abbrev pub code_if : Option Kind → List Comparison → ℕ → ℕ → Fields → ℕ → ℕ → List ℕ
code_if event cs p i f next place = event_if event cs p i ++ thread_work f next (place + event_len event cs)

-- the code of the trampoline of a site that counts under no condition
abbrev pub thread_code : ℕ → ℕ → Fields → ℕ → ℕ → List ℕ
thread_code p i f next place = thread_event Count [] p i ++ thread_work f next (place + 32)

-- the first of the eight bytes in which an event saves rax
abbrev pub slot : Core → ℕ
slot c = advanced (reg c rsp) (2 ^ 64 - 136)

-- the first of the eight bytes in which an event of a ring saves the flags, which stand before those
abbrev pub flag_slot : Core → ℕ
flag_slot c = advanced (reg c rsp) (2 ^ 64 - 144)

-- the first of the bytes that events save: sixteen where they keep a ring of so many slots, and else eight
abbrev pub saved_from : Option ℕ → Core → ℕ
saved_from None c = slot c
saved_from (Some n) c = flag_slot c

-- how many they are
abbrev pub saved_len : Option ℕ → ℕ
saved_len None = 8
saved_len (Some n) = 16
