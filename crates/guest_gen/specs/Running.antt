-- What is so all along a guest's run, and what a step adds to its world. Contracts of private functions alone cite it.
use Rattle.std.specs.Prelude.{◌≡◌, ℕ, ◌+◌, ◌-◌, ◌<◌, ◌≤◌, Bool, true, false, not, ◌&&◌, ◌||◌, List, [], ◌∷◌, ◌++◌, length, Option, Some, None}
use Rattle.std.specs.List.{AllByRecursion}
use Rattle.pun_base.specs.Memory.{Bytes}
use Rattle.cpu_state.specs.declared.state.Core.{Core}
use Rattle.cpu_state.specs.declared.state.State.{State}
use Rattle.cpu_state.specs.declared.world.Entry.{Entry}
use Rattle.cpu_state.specs.Bytes.{allows, number_at}
use Rattle.cpu_state.specs.Fixed.{IsFixed}
use Rattle.insn_form.specs.Machine.{Machine}
use Rattle.insn_form.specs.Step.{Step}
use Rattle.insn_form.specs.Runs.{nowhere, IsRun, last_of}
use Rattle.cpu_state.specs.declared.world.Question.{Question}
use Rattle.cpu_step.specs.declared.stop.Stop.{Stop}
use Rattle.cpu_step.specs.declared.stop.Stop.TheVariants.{NoByte, UnknownInsn, Ending, WorldEmpty, WorldDiffers}
use Rattle.cpu_step.specs.Stepping.{machine_of}
use Rattle.guest_gen.specs.declared.instruction.GuestInsn.{GuestInsn}
use Rattle.guest_gen.specs.declared.instruction.GuestInsn.TheVariants.{Ret, PushRax, PopRax, JeOverInc, IncRdx, JmpBack}
use Rattle.guest_gen.specs.Instructions.{text_start, blocks_start, data_start, stack_top}
use Rattle.guest_gen.specs.Texts.{text_from}
use Rattle.guest_gen.specs.Worlds.{SetsNothing, UsesWorld, nothing}

-- behind a push a pop stands, and else neither a pop nor a ret
abbrev pub fits : Bool → GuestInsn → Bool
fits pushed PopRax = pushed
fits pushed Ret = false
fits pushed i = not pushed

-- the instruction that a branch skips is the one of three bytes that adds 1 to rdx
abbrev pub begins_with_inc : List GuestInsn → Bool
begins_with_inc [] = false
begins_with_inc (IncRdx ∷ is) = true
begins_with_inc (i ∷ is) = false

-- so a branch has it behind it
abbrev pub skips_inc : GuestInsn → List GuestInsn → Bool
skips_inc JeOverInc is = begins_with_inc is
skips_inc i is = true

-- the jump back, behind which nothing need stand
abbrev pub goes_back : GuestInsn → Bool
goes_back JmpBack = true
goes_back i = false

-- an instruction behind which one entry lies on the stack
abbrev pub pushes : GuestInsn → Bool
pushes PushRax = true
pushes i = false

-- instructions that can be run from the first one on, behind a push or not, up to the jump back
abbrev pub is_tail : Bool → List GuestInsn → Bool
is_tail pushed [] = false
is_tail pushed (i ∷ is) = fits pushed i && (skips_inc i is && (goes_back i || is_tail (pushes i) is))

-- such instructions stand at an address, below the page of data
pub record StandsAt (pushed : Bool) (a : ℕ) (m : Bytes) : Type 0 where
  pub insns : List GuestInsn
  pub tail : is_tail pushed insns ≡ true
  pub code : IsFixed m a (text_from a insns)
  pub low : a + length (text_from a insns) ≤ 0x600000

-- rsp is so, and rbp and rsi hold the first addresses of the page of data and of the text
pub record HasRegs (sp : ℕ) (c : Core) : Type 0 where
  pub rax : ℕ
  pub rcx : ℕ
  pub rdx : ℕ
  pub rbx : ℕ
  pub behind : List ℕ
  pub regs : c.regs ≡ rax ∷ rcx ∷ rdx ∷ rbx ∷ sp ∷ data_start ∷ text_start ∷ behind

-- one entry lies on the stack
abbrev pub one_pushed : ℕ
one_pushed = stack_top - 8

-- a guest stands at an instruction with an empty stack, at a pop behind a push, or in the ret that was called
pub data Place (s : Machine) : Type 0 where
  AtInsn : (regs : HasRegs stack_top s.core) → (here : StandsAt false s.rip s.mem) → Place s
  AtPop : (regs : HasRegs one_pushed s.core) → (here : StandsAt true s.rip s.mem) → Place s
  AtRet : (regs : HasRegs one_pushed s.core) → (here : s.rip ≡ text_start) → (back : StandsAt false (number_at s.mem one_pushed 8) s.mem) → Place s

-- its code and its page of data are in their places
pub record CanRun (s : Machine) : Type 0 where
  pub ret : IsFixed s.mem text_start (0xc3 ∷ [])
  pub blocks : StandsAt false blocks_start s.mem
  pub read : (x : ℕ) → data_start ≤ x → x < data_start + 0x1000 → allows 4 (s.mem x) ≡ true
  pub written : (x : ℕ) → data_start ≤ x → x < data_start + 0x1000 → allows 2 (s.mem x) ≡ true
  pub place : Place s

-- an entry that answers no instruction
abbrev pub blank : Entry
blank = record { question = record { bytes = []; addr = None }; answer = nothing }

-- what was asked, where a stop tells it
abbrev pub asked_in : Stop → Option Question
asked_in (NoByte a) = None
asked_in (UnknownInsn a) = None
asked_in (Ending a) = None
asked_in (WorldEmpty a) = None
asked_in (WorldDiffers a asked) = Some asked

-- some step is made where this entry is left
abbrev pub HasStep : State → Entry → Type 0
HasStep old e = (t : Machine) × Step nowhere (machine_of old (e ∷ [])) t

-- one was made, to a state
abbrev pub MakesStep : State → Entry → State → Type 0
MakesStep old e new = (world : List Entry) × Step nowhere (machine_of old (e ∷ [])) (machine_of new world)

-- one step, and the entries that it adds: none, or the one that it uses up
pub record Advances (old new : State) (before after : List Entry) : Type 0 where
  pub more : List Entry
  pub entries : after ≡ before ++ more
  pub nothing : AllByRecursion SetsNothing more
  pub steps : (rest : List Entry) → Step nowhere (machine_of old (more ++ rest)) (machine_of new rest)
  pub goes : CanRun (machine_of new [])

-- the entries answer a run of n steps
pub record Answered (n : ℕ) (first : State) (entries : List Entry) : Type 0 where
  pub nothing : AllByRecursion SetsNothing entries
  pub states : List Machine
  pub uses : UsesWorld (machine_of first entries) n states

-- states of n steps, from a state to another one
pub record Leads (start end : Machine) (n : ℕ) (states : List Machine) : Type 0 where
  pub count : length states ≡ n
  pub run : IsRun Step start states
  pub last : last_of start states ≡ end

-- so far n steps led to a state, whatever entries are left
pub record AnsweredSoFar (n : ℕ) (first now : State) (entries : List Entry) : Type 0 where
  pub nothing : AllByRecursion SetsNothing entries
  pub goes : CanRun (machine_of now [])
  pub states : List Entry → List Machine
  pub leads : (rest : List Entry) → Leads (machine_of first (entries ++ rest)) (machine_of now rest) n (states rest)
