-- Events of threads as lists of steps. Theorems cite it. p is the first address of the private range, i the number of the site.
use Rattle.std.specs.Prelude.{◌≡◌, ℕ, zero, suc, ◌+◌, ◌*◌, true, not, ◌==◌, List, [], ◌∷◌, ◌++◌, length, ◌&&◌, nat_le}
use Rattle.pun_base.specs.declared.action.Base.{Base}
use Rattle.pun_base.specs.declared.action.Base.TheVariants as base
use Rattle.pun_base.specs.declared.action.Comparison.{Comparison}
use Rattle.pun_base.specs.Actions.{AreComparisons}
use Rattle.cond_action.specs.Conditions.{all_hold}
use Rattle.cond_action.specs.Codes.{failing}
use Rattle.trampoline.specs.EventLists.{four_at, marked_datum, marking_step, cover_event, slots_at}
use Rattle.thread_runs.specs.ThreadCode.{thread_event, saving_event, ring_event, is_ring_length}
use Rattle.event_steps.specs.declared.step.Datum.{Datum}
use Rattle.event_steps.specs.declared.step.EventStep.{EventStep}
use Rattle.event_steps.specs.EventSteps.{code}
use Rattle.event_steps.specs.DoneSteps.{Local, started, FitsIn}
use Rattle.event_steps.specs.declared.step.Place.TheVariants.{Below}
use Rattle.event_steps.specs.declared.step.EventStep.TheVariants.{Store, Load, IntoAh, IntoAl, FromAl, FromAh, Compare, CompareAt, SetLow, Reduce, Put, Claim, SkipIf}
use Rattle.event_steps.specs.Interleaved.{Listed, Reaches}
use Rattle.trampoline.specs.Recording.{AgreeBut}
use Rattle.event_steps.specs.Interleaved.Killed.{Nothing}
use Rattle.cpu_state.specs.declared.state.Core.{Core}
use Rattle.cpu_state.specs.Processor.{IsProcessorCore}

-- eight bytes so far below rsp
abbrev pub eight_below : ℕ → Datum
eight_below d = record { place = Below d; size = 8; number = true }

-- CMP with n: of a register, or, since rax holds the flags, of the datum in which it is saved
abbrev pub comparing_step : ℕ → ℕ → EventStep
comparing_step zero n = CompareAt 0 n
comparing_step (suc r) n = Compare (suc r) n

-- comparisons, each with a jump over those behind it and the step that marks
abbrev pub checks : List Comparison → List EventStep
checks [] = []
checks (c ∷ cs) = comparing_step c.reg c.value ∷ SkipIf (failing c.op) (2 * length cs + 1) ∷ checks cs

-- events that save, under a condition or under none: rax below the red zone, LAHF, SETO, comparisons, the mark, and all back
abbrev pub saving_thread_event : Base → List Comparison → ℕ → ℕ → Listed
saving_thread_event b cs p i = record {
  uses = eight_below 136 ∷ marked_datum b p i ∷ [];
  steps = Store 0 ∷ IntoAh ∷ IntoAl ∷ (checks cs ++ (marking_step b true 1 ∷ FromAl ∷ FromAh ∷ Load 0 ∷ []));
  kills = Nothing;
}

-- the event with a ring: rax and the flags saved below the red zone, LOCK XADD claims a slot, the number put into it, and all back
abbrev pub thread_ring_list : ℕ → ℕ → ℕ → Listed
thread_ring_list n p i = record {
  uses = eight_below 136 ∷ eight_below 144 ∷ four_at (p + 64) ∷ slots_at (p + 68) n ∷ [];
  steps = Store 0 ∷ IntoAh ∷ IntoAl ∷ Store 1 ∷ SetLow 1 ∷ Claim 2 ∷ Reduce (not (n == 256)) ∷ Put 3 (i + 1) ∷ Load 1 ∷ FromAl ∷ FromAh ∷ Load 0 ∷ [];
  kills = Nothing;
}

-- Their code is that of the events of threads.
pub record HaveThreadCode (p i : ℕ) : Type 0 where
  pub cover : code (cover_event p i).uses (cover_event p i).steps ≡ thread_event base.Cover [] p i
  pub saving : (b : Base) (cs : List Comparison) → code (saving_thread_event b cs p i).uses (saving_thread_event b cs p i).steps ≡ saving_event b cs p i
  pub ring : (n : ℕ) → code (thread_ring_list n p i).uses (thread_ring_list n p i).steps ≡ ring_event n p i

abbrev pub AreThreadLists : Type 0
AreThreadLists = (p i : ℕ) → HaveThreadCode p i

-- An event restores, whatever others do in between: registers and flags are as before but for what is killed.
abbrev pub Restores : Listed → Type 0
Restores e = (c : Core) (began : List ℕ) (l : Local) → IsProcessorCore c → Reaches e.uses 0 e.steps [] (started c began) l → AgreeBut e.kills c l.core

-- all that mark do, under a condition or under none
abbrev pub ThreadEventsRestore : Type 0
ThreadEventsRestore = (b : Base) (cs : List Comparison) (p i : ℕ) → Restores (saving_thread_event b cs p i) × Restores (cover_event p i)

-- Whether it has marked is told by where it stands and by the registers with which it came: it has where it stands behind the step that marks, and the
-- condition holds of them. So what other threads see of it is told by addresses.
abbrev pub MarksWhereMet : Type 0
MarksWhereMet = (b : Base) (cs : List Comparison) (p i : ℕ) (c : Core) (began : List ℕ) (rest : List EventStep) (l : Local) → IsProcessorCore c → AreComparisons cs
    → Reaches (saving_thread_event b cs p i).uses 0 (saving_thread_event b cs p i).steps rest (started c began) l → l.marked ≡ (all_hold cs c.regs && nat_le (length rest) 3)

-- The event with a ring restores, and puts its number into a slot that there is.
abbrev pub ThreadRingsRestore : Type 0
ThreadRingsRestore = (n p i : ℕ) → is_ring_length n ≡ true → Restores (thread_ring_list n p i)
    × ((c : Core) (began : List ℕ) (s : EventStep) (rest : List EventStep) (l : Local) → IsProcessorCore c
    → Reaches (thread_ring_list n p i).uses 0 (thread_ring_list n p i).steps (s ∷ rest) (started c began) l → FitsIn (thread_ring_list n p i).uses s l)
