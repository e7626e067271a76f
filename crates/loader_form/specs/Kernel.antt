-- The kernel's replies to the stub's system calls, and the steps and runs of a machine that has this kernel. Theorems cite it. It is Linux
-- for x86-64, which answers open, mmap, close and exit_group. The number of a call is in rax, its arguments are in rdi, rsi, rdx, r10, r8
-- and r9.
use Rattle.std.specs.Prelude.{◌≡◌, ◌⊎◌, ℕ, ◌+◌, ◌-◌, ◌^◌, ◌<◌, ◌≤◌, true, false, ◌&&◌, nat_le, nat_lt, if◌then◌else◌, List, [], ◌∷◌, ◌++◌, length, slice_index, Option, Some, None}
use Rattle.pun_base.specs.Memory.{Bytes}
use Rattle.cpu_state.specs.declared.state.Core.{Core}
use Rattle.cpu_state.specs.Bytes.{allows, byte_of}
use Rattle.cpu_state.specs.Adding.{IsFree}
use Rattle.length_decode.specs.Spelling.{Fields, spelling}
use Rattle.insn_form.specs.Instruction.{insn_of}
use Rattle.insn_form.specs.Operands.{reg, with_reg, rax, rcx, rdx}
use Rattle.insn_form.specs.Machine.{Machine}
use Rattle.insn_form.specs.Step.{IsAt, StepsBy, next_after}
use Rattle.insn_form.specs.Runs.{nowhere}
pub use Rattle.sound_images.specs.Calls.{is_syscall}
use Rattle.loader_form.specs.declared.kernel.MapAnswer.{MapAnswer}
use Rattle.loader_form.specs.declared.kernel.MapAnswer.TheVariants as answer
use Rattle.loader_form.specs.Stub.{path}

-- What the kernel replies to a call: its answer, and what it leaves in r11, which may be any
-- number.
pub record Reply : Type 0 where
  pub answer : MapAnswer
  pub r11 : ℕ

-- An answer is one that the kernel can give: a number of 32 bits, or an error from 1 to 4,095.
abbrev pub IsAnswer : MapAnswer → Type 0
IsAnswer (answer.Ok n) = n < 2 ^ 32
IsAnswer (answer.Failed e) = (1 ≤ e) × (e ≤ 4095)

-- The answer of each reply is one that the kernel can give.
abbrev pub AreReplies : List Reply → Type 0
AreReplies [] = Unit {0}
AreReplies (r ∷ rs) = IsAnswer r.answer × AreReplies rs

-- The calls that have an answer: open of the program's own file, mmap of bytes of it at an address,
-- and close.
pub data Call : Type 0 where
  Open : Call
  Map : (place : ℕ) → (size : ℕ) → (offset : ℕ) → Call
  Close : Call

-- These bytes are held from an address on, and can be read.
abbrev pub CanRead : Bytes → ℕ → List ℕ → Type 0
CanRead m a [] = Unit {0}
CanRead m a (b ∷ bs) = (allows 4 (m a) ≡ true) × (byte_of (m a) ≡ b) × CanRead m (a + 1) bs

-- The code of rsi; the codes of rdi and of r8 to r11 follow.
abbrev pub rsi : ℕ
rsi = 6

abbrev pub rdi : ℕ
rdi = 7

abbrev pub r8 : ℕ
r8 = 8

abbrev pub r9 : ℕ
r9 = 9

abbrev pub r10 : ℕ
r10 = 10

abbrev pub r11 : ℕ
r11 = 11

-- The registers ask for a call: 2 is open of the text "/proc/self/exe", to read it; 9 is mmap,
-- where protection 5 is reading and executing, and 0x12 is MAP_PRIVATE with MAP_FIXED; 3 is close.
-- The file number of mmap and close is the open file's. What is mapped lies in the file and at a
-- program's addresses, where it replaces no byte.
abbrev pub Asks : List ℕ → Option ℕ → Core → Bytes → Call → Type 0
Asks file number c m Open = (reg c rax ≡ 2) × CanRead m (reg c rdi) path × (reg c rsi ≡ 0)
Asks file number c m (Map place size offset) =
    (reg c rax ≡ 9) × (reg c rdi ≡ place) × (reg c rsi ≡ size) × (reg c rdx ≡ 5) × (reg c r10 ≡ 0x12) × (number ≡ Some (reg c r8))
    × (reg c r9 ≡ offset) × (offset + size ≤ length file) × (place + size ≤ 2 ^ 47) × IsFree m place (place + size)
Asks file number c m Close = (reg c rax ≡ 3) × (number ≡ Some (reg c rdi))

-- The number in rax after a call: open answers the file's number, mmap the address, close 0, and each may answer an error e as -e.
abbrev pub answered : Call → MapAnswer → ℕ
answered call (answer.Failed e) = 2 ^ 64 - e
answered Open (answer.Ok n) = n
answered (Map place size offset) (answer.Ok n) = place
answered Close (answer.Ok n) = 0

-- Memory that shows so many bytes of the file from an offset on, to be read and executed.
abbrev pub mapped : List ℕ → ℕ → ℕ → ℕ → Bytes → Bytes
mapped file place size offset m x =
    if nat_le place x && nat_lt x (place + size)
    then Some (record { byte = slice_index file (offset + (x - place)); perms = 5 })
    else m x

-- A call that fails changes no memory, and of the others mmap alone does.
abbrev pub memory_after : List ℕ → Call → MapAnswer → Bytes → Bytes
memory_after file call (answer.Failed e) m = m
memory_after file Open (answer.Ok n) m = m
memory_after file (Map place size offset) (answer.Ok n) m = mapped file place size offset m
memory_after file Close (answer.Ok n) m = m

-- The open file's number after a call, if a file is open.
abbrev pub number_after : Call → MapAnswer → Option ℕ → Option ℕ
number_after call (answer.Failed e) number = number
number_after Open (answer.Ok n) number = Some n
number_after (Map place size offset) (answer.Ok n) number = number
number_after Close (answer.Ok n) number = None

-- The state after a call, even one that fails: rax has the answer, rcx the next address, r11 what
-- the kernel leaves there.
abbrev pub replied : List ℕ → Call → Reply → ℕ → Machine → Machine
replied file call r next s = record {
  core = with_reg (with_reg (with_reg s.core rax (answered call r.answer)) rcx next) r11 r.r11;
  rip = next;
  mem = memory_after file call r.answer s.mem;
  world = s.world;
}

-- SYSCALL stands at the instruction pointer, without a prefix: two bytes.
pub record IsAtCall (s : Machine) : Type 0 where
  pub fields : Fields
  pub at : IsAt s fields
  pub calls : is_syscall (insn_of fields) ≡ true
  pub plain : length (spelling fields) ≡ 2

-- The kernel replies to a call.
pub record IsReplied (file : List ℕ) (number : Option ℕ) (s : Machine) (r : Reply) (number' : Option ℕ) (t : Machine) : Type 0 where
  pub call : Call
  pub asks : Asks file number s.core s.mem call
  pub here : IsAtCall s
  pub opened : number' ≡ number_after call r.answer number
  pub after : t ≡ replied file call r (next_after s.rip here.fields) s

-- One step of the machine with this kernel: the machine's own, where the instruction isn't SYSCALL,
-- else the kernel's reply. The call that ends the program has no reply, and so is no step.
abbrev pub StepWith : List ℕ → Option ℕ → Machine → Option Reply → Option ℕ → Machine → Type 0
StepWith file number s None number' t = (f : Fields) × StepsBy nowhere f s t × (is_syscall (insn_of f) ≡ false) × (number' ≡ number)
StepWith file number s (Some r) number' t = IsReplied file number s r number' t

-- A step's reply, if it was a call, and the state and the open file's number after it.
pub record Move : Type 0 where
  pub reply : Option Reply
  pub number : Option ℕ
  pub state : Machine

-- A run of the machine with this kernel: each move is a step from the state before.
abbrev pub IsRunWith : List ℕ → Option ℕ → Machine → List Move → Type 0
IsRunWith file number s [] = Unit {0}
IsRunWith file number s (x ∷ xs) = StepWith file number s x.reply x.number x.state × IsRunWith file x.number x.state xs

-- The state in which a run ends.
abbrev pub last_state : Machine → List Move → Machine
last_state s [] = s
last_state s (x ∷ xs) = last_state x.state xs

-- The open file's number when a run ends.
abbrev pub last_number : Option ℕ → List Move → Option ℕ
last_number number [] = number
last_number number (x ∷ xs) = last_number x.number xs

-- Replies with one more in front, where a step took one.
abbrev pub with_reply : Option Reply → List Reply → List Reply
with_reply None rs = rs
with_reply (Some r) rs = r ∷ rs

-- The replies that a run took.
abbrev pub replies_in : List Move → List Reply
replies_in [] = []
replies_in (x ∷ xs) = with_reply x.reply (replies_in xs)

-- Each step is made at an address from lo on, below hi.
abbrev pub MadeInside : ℕ → ℕ → Machine → List Move → Type 0
MadeInside lo hi s [] = Unit {0}
MadeInside lo hi s (x ∷ xs) = (lo ≤ s.rip) × (s.rip < hi) × MadeInside lo hi x.state xs

-- The call that ends the program with a status: exit_group, 231.
pub record IsExit (status : ℕ) (s : Machine) : Type 0 where
  pub here : IsAtCall s
  pub call : reg s.core rax ≡ 231
  pub told : reg s.core rdi ≡ status

-- A call other than the one that ends the program, which waits for its reply.
pub record IsWaiting (file : List ℕ) (number : Option ℕ) (s : Machine) : Type 0 where
  pub here : IsAtCall s
  pub call : Call
  pub asks : Asks file number s.core s.mem call

-- From a state there is one next state at most, by one reply or without one.
abbrev pub HasOneStepWith : Type 0
HasOneStepWith =
    (file : List ℕ) (number : Option ℕ) (s : Machine) (r : Option Reply) (k k' : Option ℕ) (t t' : Machine)
    → StepWith file number s r k t → StepWith file number s r k' t' → (k ≡ k') × (t ≡ t')

-- A call takes a reply, and no other instruction does.
abbrev pub CallsAreReplied : Type 0
CallsAreReplied =
    (file : List ℕ) (number : Option ℕ) (s : Machine) (r : Reply) (k k' : Option ℕ) (t t' : Machine)
    → StepWith file number s None k t → StepWith file number s (Some r) k' t' → ⊥

-- A run is the beginning of another.
abbrev pub IsFrontOf : List Move → List Move → Type 0
IsFrontOf xs ys = (zs : List Move) × (ys ≡ xs ++ zs)

-- Of two runs by the same replies one is the beginning of the other.
abbrev pub RunsAreOne : Type 0
RunsAreOne =
    (file : List ℕ) (number : Option ℕ) (s : Machine) (xs ys : List Move) (rest rest' : List Reply) → IsRunWith file number s xs
    → IsRunWith file number s ys → replies_in xs ++ rest ≡ replies_in ys ++ rest' → IsFrontOf xs ys ⊎ IsFrontOf ys xs
