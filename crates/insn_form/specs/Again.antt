-- The same instruction in another state, and elsewhere: it does the same. Theorems cite it.
use Rattle.std.specs.Prelude.{◌≡◌, ℕ, Bool, true, false, Option, Ok, unwrap_or, is_some}
use Rattle.length_decode.specs.Spelling.{Fields, spelling}
use Rattle.cpu_state.specs.declared.world.Question.{Question}
use Rattle.cpu_state.specs.Bytes.{Stands}
use Rattle.insn_form.specs.declared.form.AskedForm.{AskedForm}
use Rattle.insn_form.specs.declared.form.Insn.{Insn}
use Rattle.insn_form.specs.declared.form.Insn.TheVariants.{Exact, Asked, Ending}
use Rattle.insn_form.specs.declared.form.Op.{Op}
use Rattle.insn_form.specs.declared.form.Op.TheVariants.{Jmp, Ret}
use Rattle.insn_form.specs.Operands.{with_reg, rcx}
use Rattle.insn_form.specs.Meaning.{effect}
use Rattle.insn_form.specs.Machine.{Machine, Task, act, view, leaves}
use Rattle.insn_form.specs.Step.{StepsBy}
use Rattle.insn_form.specs.Laws.{SameView, Keeps, is_steady}

-- a step of an instruction goes over to each state that differs in the set alone, where the instruction stands there too
abbrev pub IsSameStep : Type 0
IsSameStep = (set : ℕ → Bool) (f : Fields) (s t u : Machine) → StepsBy set f s t → view set u ≡ view set s → Stands u.mem s.rip (spelling f)
    → (v : Machine) × StepsBy set f u v × (view set v ≡ view set t) × Keeps set u v

-- JMP and RET always tell where to go on
abbrev pub always_goes : Insn → Bool
always_goes (Exact (Jmp target)) = true
always_goes (Exact (Ret extra)) = true
always_goes (Exact op) = false
always_goes (Asked form) = false
always_goes Ending = false

-- both go to one target, or where there is none each to the address after its own instruction
pub record GoesOn (set : ℕ → Bool) (i : Insn) (next next' : ℕ) (s u : Machine) : Type 0 where
  pub same : SameView set s u
  pub target : Option ℕ
  pub own : s.rip ≡ unwrap_or target next
  pub other : u.rip ≡ unwrap_or target next'
  pub gone : always_goes i ≡ true → is_some target ≡ true

-- the same instruction elsewhere does the same, if it uses its own place at most to go on behind itself
abbrev pub IsCopiedTo : Type 0
IsCopiedTo = (set : ℕ → Bool) (t : Task) (next next' : ℕ) (s u s' : Machine) → is_steady t.insn ≡ true → SameView set s u → leaves set t next s ≡ true → act t next s ≡ Ok s'
    → (u' : Machine) × (act t next' u ≡ Ok u') × GoesOn set t.insn next next' s' u' × Keeps set u u'

-- the state with another rcx
abbrev pub with_rcx : ℕ → Machine → Machine
with_rcx v s = record { core = with_reg s.core rcx v; rip = s.rip; mem = s.mem; world = s.world }

-- the task of an asked instruction of this form
abbrev pub syscall_task : AskedForm → Question → Task
syscall_task form asks = record { insn = Asked form; asks = asks }

-- SYSCALL elsewhere does the same, but that rcx gets the address after its own place, where it goes on
pub record GoesOnAfter (set : ℕ → Bool) (next next' : ℕ) (s u : Machine) : Type 0 where
  pub same : SameView set (with_rcx next' s) u
  pub own : s.rip ≡ next
  pub other : u.rip ≡ next'

-- SYSCALL elsewhere does the same, but for rcx
abbrev pub IsSyscallCopied : Type 0
IsSyscallCopied = (set : ℕ → Bool) (form : AskedForm) (asks : Question) (next next' : ℕ) (s u s' : Machine) → form.syscall ≡ true → SameView set s u
    → leaves set (syscall_task form asks) next s ≡ true → act (syscall_task form asks) next s ≡ Ok s'
    → (u' : Machine) × (act (syscall_task form asks) next' u ≡ Ok u') × GoesOnAfter set next next' s' u' × Keeps set u u'

-- the task of an operation
abbrev pub op_task : Op → Question → Task
op_task op asks = record { insn = Exact op; asks = asks }

-- an operation that leaves no flag undefined does the same whatever it would ask
abbrev pub IsUnasked : Type 0
IsUnasked = (op : Op) (next : ℕ) (s : Machine) (p q : Question) → ((v : ℕ) → ((effect op next s.core).out v).undefined ≡ 0) → act (op_task op p) next s ≡ act (op_task op q) next s
