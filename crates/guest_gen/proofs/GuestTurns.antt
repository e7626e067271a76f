-- The next step of a guest: what it is made of, and what it keeps.
use Rattle.std.proofs.Common.{◌≡◌, ℕ, ◌+◌, ◌^◌, ◌<◌, ◌≤◌, Bool, true, false, List, [], ◌∷◌, ◌++◌, length, None, Err, refl, sym, ◌∙◌, subst, arith, length-append}
use Rattle.pun_base.specs.Memory.{Bytes}
use Rattle.cpu_alu.specs.declared.flag_word.Flags.{Flags}
use Rattle.cpu_state.specs.declared.state.Core.{Core}
use Rattle.cpu_state.specs.declared.world.Entry.{Entry}
use Rattle.cpu_state.specs.declared.world.Question.{Question}
use Rattle.cpu_state.specs.Bytes.{allows, lacking}
use Rattle.cpu_state.specs.Fixed.{IsFixed}
use Rattle.length_decode.specs.Spelling.{Fields, IsInstruction, spelling}
use Rattle.insn_form.specs.declared.form.Op.{Op}
use Rattle.insn_form.specs.declared.form.Insn.TheVariants.{Exact}
use Rattle.insn_form.specs.Instruction.{insn_of}
use Rattle.insn_form.specs.Resolving.{resolved_insn}
use Rattle.insn_form.specs.Meaning.{effect}
use Rattle.insn_form.specs.Plan.{number_in}
use Rattle.insn_form.specs.Machine.{Machine}
use Rattle.insn_form.specs.Step.{Step}
use Rattle.insn_form.specs.Runs.{nowhere}
use Rattle.insn_form.specs.Exactly.{after_op, HasOperands}
use Rattle.insn_form.proofs.AlikeMemories.{same_allows}
use Rattle.cpu_step.specs.declared.stop.Stop.TheVariants.{WorldDiffers}
use Rattle.cpu_step.specs.Stepping.{judgement}
use Rattle.relocate_insn.specs.Running.{IsPrivate}
use Rattle.relocate_insn.proofs.FixedCode.{SameCode, step_code, fixed_on, fixed_front, fixed_back}
use Rattle.relocate_insn.proofs.PrivateRange.{step_perms, private_free}
use Rattle.relocate_insn.proofs.PieceSteps.{op_step}
use Rattle.guest_gen.specs.declared.instruction.GuestInsn.{GuestInsn}
use Rattle.guest_gen.specs.Instructions.{text_start, blocks_start, data_start, stack_top}
use Rattle.guest_gen.specs.Texts.{text_from}
use Rattle.guest_gen.specs.Worlds.{nothing}
use Rattle.guest_gen.specs.Running.{StandsAt, HasRegs, Place, AtInsn, CanRun, is_tail, blank}

-- the state with these entries left
abbrev pub left : Machine → List Entry → Machine
left s es = record { core = s.core; rip = s.rip; mem = s.mem; world = es }

-- a question that is answered by nothing
abbrev pub told : Question → Entry
told q = record { question = q; answer = nothing }

-- the next step asks nothing, or an entry that answers its question by nothing leads on
pub data Turn (s : Machine) : Type 0 where
  Quiet : (t : Machine) → (steps : (rest : List Entry) → Step nowhere (left s rest) (left t rest)) → (goes : CanRun (left t [])) → Turn s
  Asks : (q : Question) → (t : Machine) → (judged : judgement (left s (blank ∷ [])) ≡ Err (WorldDiffers s.rip q))
      → (steps : (rest : List Entry) → Step nowhere (left s (told q ∷ rest)) (left t rest)) → (goes : CanRun (left t [])) → Turn s

-- the registers of a guest, but for rsp, rbp and rsi
pub record Loose : Type 0 where
  pub rax : ℕ
  pub rcx : ℕ
  pub rdx : ℕ
  pub rbx : ℕ
  pub behind : List ℕ
  pub flags : Flags
  pub fs : ℕ
  pub gs : ℕ

-- the registers with an rsp
abbrev pub core_at : ℕ → Loose → Core
core_at sp x = record {
  regs = x.rax ∷ x.rcx ∷ x.rdx ∷ x.rbx ∷ sp ∷ data_start ∷ text_start ∷ x.behind;
  flags = x.flags;
  fs = x.fs;
  gs = x.gs;
}

-- the state of a guest
abbrev pub guest_at : ℕ → Loose → ℕ → Bytes → List Entry → Machine
guest_at sp x rip m es = record { core = core_at sp x; rip = rip; mem = m; world = es }

-- what each state of a guest has
pub record Keeps (m : Bytes) : Type 0 where
  pub ret : IsFixed m text_start (0xc3 ∷ [])
  pub blocks : StandsAt false blocks_start m
  pub read : (x : ℕ) → data_start ≤ x → x < data_start + 0x1000 → allows 4 (m x) ≡ true
  pub written : (x : ℕ) → data_start ≤ x → x < data_start + 0x1000 → allows 2 (m x) ≡ true

-- they are part of what lets it run
pub kept_in : (s : Machine) → CanRun s → Keeps s.mem
kept_in s h = record { ret = h.ret; blocks = h.blocks; read = h.read; written = h.written }

-- bytes of the page of data can be written and read
pub data_free : (m : Bytes) (a k : ℕ) → Keeps m → data_start ≤ a → a + k ≤ data_start + 0x1000
    → (lacking 2 m a k ≡ None) × (lacking 4 m a k ≡ None)
data_free m a k h l u =
    let p : IsPrivate (λ x. true) data_start 0x1000 m =
    record { inside = λ x i j. refl; read = h.read; written = h.written; low = omega arith } in
    let f = private_free (λ x. true) data_start 0x1000 m a k p l u in
    (f.0, f.1)

-- what stands stays
pub stands_on : (p : Bool) (a : ℕ) (m w : Bytes) → SameCode m w → StandsAt p a m → StandsAt p a w
stands_on p a m w c h = record { insns = h.insns; tail = h.tail; code = fixed_on m w a (text_from a h.insns) c h.code; low = h.low }

-- the instructions behind the first one
pub stands_behind : (p : Bool) (is : List GuestInsn) (a : ℕ) (bs : List ℕ) (m : Bytes) → is_tail p is ≡ true
    → IsFixed m a (bs ++ text_from (a + length bs) is) → a + length (bs ++ text_from (a + length bs) is) ≤ 0x600000
    → StandsAt p (a + length bs) m
stands_behind p is a bs m h c l =
    let e = length-append bs (text_from (a + length bs) is) in
    record { insns = is; tail = h; code = fixed_back m a bs (text_from (a + length bs) is) (omega arith) c; low = omega arith }

-- a step keeps what each state has
pub goes_on : (s t : Machine) → Step nowhere s t → Keeps s.mem → Place t → CanRun t
goes_on s t st k p =
    let c = step_code nowhere s.mem s t st (λ x i j. refl) in
    record {
      ret = fixed_on s.mem t.mem text_start (0xc3 ∷ []) c k.ret;
      blocks = stands_on false blocks_start s.mem t.mem c k.blocks;
      read = λ x i j. same_allows 4 (t.mem x) (s.mem x) (step_perms nowhere s t st x) ∙ k.read x i j;
      written = λ x i j. same_allows 2 (t.mem x) (s.mem x) (step_perms nowhere s t st x) ∙ k.written x i j;
      place = p;
    }

-- with an empty stack an instruction in front of others has a turn
abbrev pub HasTurn : GuestInsn → Type 0
HasTurn i = (x : Loose) (rip : ℕ) (m : Bytes) → Keeps m → (is : List GuestInsn) → is_tail false is ≡ true
    → IsFixed m rip (text_from rip (i ∷ is)) → rip + length (text_from rip (i ∷ is)) ≤ 0x600000 → Turn (guest_at stack_top x rip m [])

-- the flags that an operation leaves undefined
abbrev pub undefined_in : Op → ℕ → Core → Bytes → ℕ
undefined_in op next c m = ((effect op next c).out (number_in m (effect op next c).read)).undefined

-- the turn of an operation that asks nothing
pub op_turn : (sp : ℕ) (x : Loose) (rip : ℕ) (m : Bytes) → Keeps m → (f : Fields) → IsInstruction f → rip + length (spelling f) < 2 ^ 64
    → IsFixed m rip (spelling f) → (op : Op) → resolved_insn (rip + length (spelling f)) (insn_of f) ≡ Exact op
    → HasOperands (guest_at sp x rip m []) (rip + length (spelling f)) op
    → undefined_in op (rip + length (spelling f)) (core_at sp x) m ≡ 0
    → (((p : Bool) (a : ℕ) → StandsAt p a m → StandsAt p a (after_op (guest_at sp x rip m []) (rip + length (spelling f)) op).mem)
    → Place (after_op (guest_at sp x rip m []) (rip + length (spelling f)) op))
    → Turn (guest_at sp x rip m [])
op_turn sp x rip m k f i l c op e h u place =
    let next = rip + length (spelling f) in
    let t = after_op (guest_at sp x rip m []) next op in
    let st : (rest : List Entry) → Step nowhere (guest_at sp x rip m rest) (left t rest) =
    λ rest. op_step (guest_at sp x rip m rest) rip f op i l refl c e (record { read = h.read; write = h.write }) u in
    let code = step_code nowhere m (guest_at sp x rip m []) t (st []) (λ y a b. refl) in
    Quiet t st (goes_on (guest_at sp x rip m []) t (st []) k (place (λ p a s. stands_on p a m t.mem code s)))

-- where it goes on at the next instruction, and leaves the stack
pub plain_turn : (x : Loose) (rip : ℕ) (m : Bytes) → Keeps m → (is : List GuestInsn) → is_tail false is ≡ true → (f : Fields)
    → IsFixed m rip (spelling f ++ text_from (rip + length (spelling f)) is)
    → rip + length (spelling f ++ text_from (rip + length (spelling f)) is) ≤ 0x600000
    → IsInstruction f → (op : Op) → resolved_insn (rip + length (spelling f)) (insn_of f) ≡ Exact op
    → HasOperands (guest_at stack_top x rip m []) (rip + length (spelling f)) op
    → undefined_in op (rip + length (spelling f)) (core_at stack_top x) m ≡ 0
    → HasRegs stack_top (after_op (guest_at stack_top x rip m []) (rip + length (spelling f)) op).core
    → (after_op (guest_at stack_top x rip m []) (rip + length (spelling f)) op).rip ≡ rip + length (spelling f)
    → Turn (guest_at stack_top x rip m [])
plain_turn x rip m k is h f c l i op e o u r n =
    let next = rip + length (spelling f) in
    let t = after_op (guest_at stack_top x rip m []) next op in
    let len = length-append (spelling f) (text_from next is) in
    op_turn stack_top x rip m k f i (omega arith) (fixed_front m rip (spelling f) (text_from next is) c) op e o u
    (λ on. AtInsn r (subst (λ (a : ℕ). StandsAt false a t.mem) (sym n) (on false next (stands_behind false is rip (spelling f) m h c l))))
