-- Relocated code of threads, step by step: its first instruction makes the original's step, and the others lead on. Theorems cite it.
use Rattle.std.specs.Prelude.{◌≡◌, ℕ, ◌+◌, ◌^◌, ◌<◌, ◌≤◌, Bool, true, false, if◌then◌else◌, length, Some}
use Rattle.length_decode.specs.Spelling.{Fields, IsInstruction, spelling}
use Rattle.cpu_alu.specs.declared.operation.Width.TheVariants.{W64}
use Rattle.cpu_alu.specs.Widths.{cut}
use Rattle.cpu_state.specs.declared.state.Core.{Core}
use Rattle.cpu_state.specs.Fixed.{IsFixed}
use Rattle.insn_form.specs.declared.form.Spot.TheVariants.{Reg}
use Rattle.insn_form.specs.declared.form.Target.TheVariants.{Rel, Through}
use Rattle.insn_form.specs.declared.form.Op.TheVariants.{Call}
use Rattle.insn_form.specs.declared.form.Insn.{Insn}
use Rattle.insn_form.specs.declared.form.Insn.TheVariants.{Exact}
use Rattle.insn_form.specs.Operands.{reg, with_reg, rcx}
use Rattle.insn_form.specs.Instruction.{insn_of}
use Rattle.insn_form.specs.Displacing.{falls, goes_to}
use Rattle.insn_form.specs.Machine.{Machine, leaves}
use Rattle.insn_form.specs.Step.{IsAt, next_after}
use Rattle.insn_form.specs.Touched.{reads_none}
use Rattle.event_steps.specs.ThreadSteps.{thread_task, ThreadStepsBy, ThreadStep}
use Rattle.insn_form.specs.Alike.{AreAlike, IsAlike, writes_at, still}
use Rattle.thread_runs.specs.ThreadCode.{thread_relocated, thread_work}
use Rattle.trampoline.specs.Atomic.{thread_len}
pub use Rattle.sound_images.specs.Calls.{is_syscall}

-- where a thread stands after its effect step: outside, where its instruction leads; at the jump
-- back; at the jump after the PUSH of a call; or at MOV ecx after SYSCALL
pub data Tail : Type 0 where
  Out : Tail
  Back : Tail
  Jump : Tail
  Ecx : Tail

-- how many steps are left in the trampoline at most
abbrev pub left : Tail → ℕ
left Out = 0
left Back = 1
left Jump = 1
left Ecx = 2

-- the instruction is a call
abbrev pub is_call : Insn → Bool
is_call (Exact (Call target)) = true
is_call i = false

-- where a call leads that can be relocated for threads
abbrev pub call_target : Insn → ℕ → Core → ℕ
call_target (Exact (Call (Rel z))) next c = goes_to next z
call_target (Exact (Call (Through (Reg r)))) next c = cut W64 (reg c r)
call_target i next c = 0

-- after the effect step the thread v of the patched run counts as one of the original with
-- registers and flags c that stands at rip
abbrev pub InTail : Fields → ℕ → ℕ → Tail → Core → ℕ → Machine → Type 0
InTail f next to Out c rip v = (v.core ≡ c) × (v.rip ≡ rip)
InTail f next to Back c rip v = (falls (insn_of f) ≡ true) × (v.core ≡ c) × (v.rip ≡ to + length (thread_relocated (insn_of f) f next to)) × (rip ≡ next)
InTail f next to Jump c rip v = (is_call (insn_of f) ≡ true) × (v.core ≡ c) × (v.rip ≡ to + 5) × (rip ≡ call_target (insn_of f) next c)
InTail f next to Ecx c rip v = (is_syscall (insn_of f) ≡ true) × (with_reg v.core rcx next ≡ c) × (v.rip ≡ to + length (spelling f)) × (rip ≡ next)

-- code at a place is the relocated code of the instruction of these fields, which stood at an address
pub record IsWork (f : Fields) (addr next to : ℕ) (v : Machine) : Type 0 where
  pub spelled : IsInstruction f
  pub size : ℕ
  pub displaced : thread_len (insn_of f) (length (spelling f)) addr ≡ Some size
  pub behind : next ≡ addr + length (spelling f)
  pub low : next ≤ 0x7FFF0000
  pub stands : IsFixed v.mem to (thread_work f next to)
  pub place_low : to + length (thread_work f next to) < 2 ^ 31

-- s stands at an instruction, and u, which is like it, at its relocated code
pub record AtWork (hidden stale : ℕ → Bool) (f : Fields) (next to : ℕ) (s u : Machine) : Type 0 where
  pub here : IsAt s f
  pub there : u.rip ≡ to
  pub work : IsWork f s.rip next to u
  pub alike : IsAlike hidden stale s u
  pub apart : leaves hidden (thread_task f next) next s ≡ true
  pub fresh : reads_none stale (thread_task f next) next s ≡ true

-- both states made the instruction's step, u by the first instruction of the relocated code
pub record Worked (hidden stale : ℕ → Bool) (f : Fields) (next to : ℕ) (s u s' u' : Machine) : Type 0 where
  pub own : ThreadStepsBy f s s'
  pub fields : Fields
  pub other : ThreadStepsBy fields u u'
  pub tail : Tail
  pub there : InTail f next to tail s'.core s'.rip u'
  -- registers and flags are equal, but that rcx gets the original's next address after SYSCALL
  pub core : s'.core ≡ (if is_syscall (insn_of f) then with_reg u'.core rcx next else u'.core)
  pub world : s'.world ≡ u'.world
  pub mem : AreAlike hidden (still stale (writes_at (thread_task fields (next_after u.rip fields)) (next_after u.rip fields) u)) s'.mem u'.mem

-- Where one of original and relocated code has the instruction's step, the other has it too, and
-- the effect step leads to the relocated code's tail.
abbrev pub IsEffectStep : Type 0
IsEffectStep = (hidden stale : ℕ → Bool) (f : Fields) (next to : ℕ) (s u : Machine) → AtWork hidden stale f next to s u
    → ((s' : Machine) → ThreadStepsBy f s s' → (u' : Machine) × Worked hidden stale f next to s u s' u')
    × ((u' : Machine) → ThreadStep u u' → (s' : Machine) × Worked hidden stale f next to s u s' u')

-- v after one further step of the trampoline: the thread of the original as which it counts stays
-- the same, and so does memory
pub record TailNext (f : Fields) (next to : ℕ) (k : Tail) (c : Core) (rip : ℕ) (v w : Machine) : Type 0 where
  pub tail : Tail
  pub fewer : left tail < left k
  pub there : InTail f next to tail c rip w
  pub mem : w.mem ≡ v.mem
  pub world : w.world ≡ v.world

-- After the effect step there is one step at each place of the trampoline, and it leads on.
abbrev pub IsTailStep : Type 0
IsTailStep = (f : Fields) (addr next to : ℕ) (k : Tail) (c : Core) (rip : ℕ) (v : Machine) → 0 < left k → IsWork f addr next to v → InTail f next to k c rip v
    → ((w : Machine) × ThreadStep v w × TailNext f next to k c rip v w)
    × ((w : Machine) → ThreadStep v w → TailNext f next to k c rip v w)
