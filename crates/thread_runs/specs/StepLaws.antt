-- The facts of single steps on which the theorem on guest threads rests. Theorems cite it.
use Rattle.std.specs.Prelude.{◌≡◌, ◌⊎◌, ℕ, ◌+◌, ◌<◌, Bool, true, false, if◌then◌else◌, length, Some, Ok}
use Rattle.length_decode.specs.Spelling.{Fields, IsInstruction, spelling}
use Rattle.cpu_state.specs.declared.state.Core.{Core}
use Rattle.insn_form.specs.Instruction.{insn_of}
use Rattle.insn_form.specs.declared.form.Op.{Op}
use Rattle.insn_form.specs.declared.form.Insn.TheVariants.{Exact}
use Rattle.insn_form.specs.Operands.{with_reg, rcx}
use Rattle.insn_form.specs.Resolving.{resolved_insn}
use Rattle.insn_form.specs.Machine.{Machine, Task, leaves}
use Rattle.insn_form.specs.Laws.{is_steady}
use Rattle.insn_form.specs.Step.{IsAt, next_after}
use Rattle.insn_form.specs.Touched.{reads_none, writes_none}
use Rattle.event_steps.specs.ThreadSteps.{is_locked_inc, is_locked_xadd, thread_task, acting, thread_act, ThreadStepsBy, ThreadStep}
use Rattle.insn_form.specs.Alike.{IsAlike, GoesAlike, writes_at, still}
use Rattle.thread_runs.specs.ThreadCode.{thread_work}
use Rattle.trampoline.specs.Atomic.{thread_len}
use Rattle.thread_runs.specs.SiteEvents.{SiteComesIn, SiteGoesOn, SiteCanGoOn, SiteRestores, SiteMarks, SiteWrites}
use Rattle.thread_runs.specs.Work.{Tail, left, is_syscall, InTail, IsWork, AtWork, Worked, IsEffectStep, IsTailStep}
use Rattle.thread_runs.specs.Watching.{leads_to}
use Rattle.thread_runs.specs.Premises.{reads_nothing_of}

-- the instruction of a state writes no byte of a set
abbrev pub writes_of : (ℕ → Bool) → Fields → Machine → Bool
writes_of set f s = writes_none set (thread_task f (next_after s.rip f)) (next_after s.rip f) s

-- the first instruction of relocated code reads and writes what the displaced instruction does
abbrev pub WorkTouches : Type 0
WorkTouches = (f g : Fields) (next to : ℕ) (s u : Machine) → IsWork f s.rip next to u → u.rip ≡ to → u.core ≡ s.core → u.world ≡ s.world → IsAt u g
    → (set : ℕ → Bool) → (reads_nothing_of set g u ≡ reads_nothing_of set f s) × (writes_of set g u ≡ writes_of set f s)

-- relocated code has at least one byte
abbrev pub WorkLong : Type 0
WorkLong = (f : Fields) (next place size len addr : ℕ) → IsInstruction f → length (spelling f) ≡ len → thread_len (insn_of f) len addr ≡ Some size → 0 < length (thread_work f next place)

-- what a step of a thread from the original leads to and what it leads to in the other state, from one place
pub record ThreadsAlike (hidden stale : ℕ → Bool) (f : Fields) (s u s' u' : Machine) : Type 0 where
  pub own : ThreadStepsBy f s s'
  pub other : ThreadStepsBy f u u'
  pub alike : IsAlike hidden (still stale (writes_at (thread_task f (next_after s.rip f)) (next_after s.rip f) s)) s' u'
  pub rip : s'.rip ≡ u'.rip

-- the step of a thread's instruction that stands at one place in two states: where one of them has it, the other has it too
abbrev pub IsAlikeThread : Type 0
IsAlikeThread = (hidden stale : ℕ → Bool) (f : Fields) (s u : Machine) → IsAlike hidden stale s u → s.rip ≡ u.rip → IsAt s f → IsAt u f
    → leaves hidden (thread_task f (next_after s.rip f)) (next_after s.rip f) s ≡ true → reads_nothing_of stale f s ≡ true
    → ((s' : Machine) → ThreadStepsBy f s s' → (u' : Machine) × ThreadsAlike hidden stale f s u s' u')
    × ((u' : Machine) → ThreadStepsBy f u u' → (s' : Machine) × ThreadsAlike hidden stale f s u s' u')

-- an instruction that leaves the hidden set alone and reads no stale byte acts alike at two places, whether or not it loads what it read
abbrev pub IsAlikeActing : Type 0
IsAlikeActing = (hidden stale : ℕ → Bool) (x : Bool) (t : Task) (next next' : ℕ) (s u : Machine) → (next ≡ next') ⊎ (is_steady t.insn ≡ true)
    → IsAlike hidden stale s u → leaves hidden t next s ≡ true → reads_none stale t next s ≡ true
    → ((s' : Machine) → acting x t next s ≡ Ok s' → (u' : Machine) × (acting x t next' u ≡ Ok u') × GoesAlike hidden (still stale (writes_at t next s)) t.insn next next' s' u')
    × ((u' : Machine) → acting x t next' u ≡ Ok u' → (s' : Machine) × (acting x t next s ≡ Ok s') × GoesAlike hidden (still stale (writes_at t next s)) t.insn next next' s' u')

-- after the effect step the instructions of a trampoline read and write no byte
abbrev pub TailTouches : Type 0
TailTouches = (f g : Fields) (addr next to : ℕ) (k : Tail) (c : Core) (rip : ℕ) (v : Machine) → 0 < left k → IsWork f addr next to v → InTail f next to k c rip v → IsAt v g
    → (set : ℕ → Bool) → (reads_nothing_of set g v ≡ true) × (writes_of set g v ≡ true)

-- after the effect step a thread that has steps left stands inside the relocated code
abbrev pub TailInside : Type 0
TailInside = (f : Fields) (addr next to : ℕ) (k : Tail) (c : Core) (rip : ℕ) (v : Machine) → 0 < left k → IsWork f addr next to v → InTail f next to k c rip v
    → (to < v.rip) × (v.rip < to + length (thread_work f next to))

-- the registers and flags of the original are those of the thread, but for rcx after a SYSCALL
abbrev pub WorkedCore : Type 0
WorkedCore = (hidden stale : ℕ → Bool) (f : Fields) (next to : ℕ) (s u s' u' : Machine) → AtWork hidden stale f next to s u → Worked hidden stale f next to s u s' u'
    → s'.core ≡ (if is_syscall (insn_of f) then with_reg u'.core rcx next else u'.core)

-- the step of an instruction leads to the address that its resolved form says
abbrev pub LeadsTold : Type 0
LeadsTold = (f : Fields) (next : ℕ) (s s' : Machine) → thread_act f next s ≡ Ok s' → s'.rip ≡ leads_to (resolved_insn next (insn_of f)) next s.core s.mem

-- an instruction that a single processor doesn't ask about is neither LOCK INC nor LOCK XADD
abbrev pub NotLocked : Type 0
NotLocked = (f : Fields) (op : Op) → insn_of f ≡ Exact op → (is_locked_inc f ≡ false) × (is_locked_xadd f ≡ false)

-- all the facts of single steps
pub record StepLaws : Type 0 where
  pub alike : IsAlikeThread
  pub comes : SiteComesIn
  pub goes_on : SiteGoesOn
  pub can_go_on : SiteCanGoOn
  pub restores : SiteRestores
  pub marks : SiteMarks
  pub writes : SiteWrites
  pub effects : IsEffectStep
  pub tails : IsTailStep
  pub touches : WorkTouches
  pub long : WorkLong
  pub act : IsAlikeActing
  pub tail_touches : TailTouches
  pub tail_inside : TailInside
  pub core : WorkedCore
  pub leads : LeadsTold
  pub not_locked : NotLocked
