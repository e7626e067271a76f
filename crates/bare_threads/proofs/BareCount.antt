-- The one step of an event that counts by LOCK INC alone, by the laws of lists.
use Rattle.std.proofs.Common.{ℕ, ◌+◌, ◌^◌, ◌<◌, true, List, [], ◌∷◌, refl, sym, ap, subst, arith}
use Rattle.insn_form.specs.Machine.{Machine}
use Rattle.killing.specs.declared.place.Place.TheVariants.{FiveFlags}
use Rattle.killing.specs.Places.{cleared}
use Rattle.event_steps.specs.declared.step.Datum.{Datum}
use Rattle.event_steps.specs.declared.step.EventStep.{EventStep}
use Rattle.event_steps.specs.declared.step.EventStep.TheVariants.{CountUp}
use Rattle.event_steps.specs.EventSteps.{long, AreSteps}
use Rattle.event_steps.specs.EventSteps.Mode.{Shared}
use Rattle.event_steps.specs.MadeSteps.{after}
use Rattle.event_steps.specs.DoneSteps.{Local, started, AreLow, AreApart, AreFree, StandsBy, IsDone}
use Rattle.event_steps.specs.Interleaved.{numbers_in}
use Rattle.event_steps.proofs.ListedCode.{step_told, step_goes, step_leads}
use Rattle.event_steps.proofs.LocalSteps.{step_done, steps_done}
use Rattle.event_steps.proofs.InterleavedSteps.{held_now}
use Rattle.bare_threads.specs.KilledThreads.{thread_count, AtCounter, HasCounted, IsBareCountStep, BareCountGoes, BareCountBytes}

module _ (p i at : ℕ) (v : Machine) (h : AtCounter p i at v) where
  abbrev ds : List Datum
  ds = (thread_count p i).uses

  abbrev count : EventStep
  count = CountUp true 0

  abbrev l : Local
  l = started v.core (numbers_in ds v.core v.mem)

  abbrev next : Machine
  next = after ds count [] at v

  are : AreSteps Shared ds (count ∷ [])
  are = (tt, (omega arith, refl, refl), omega arith, tt)

  low : at + long (count ∷ []) < 2 ^ 31
  low = omega (arith, h.low)

  lie : AreLow ds
  lie = (h.room, tt)

  apart : AreApart ds v.core
  apart = (λ x e. refl, tt)

  by : StandsBy ds v.core l v
  by = record { core = refl; stack = refl; hold = held_now ds v.core v.mem }

  -- the state after it
  counts : IsDone ds v.core count l v next → HasCounted p i at v next
  counts d =
      let to = step_leads ds count [] at v low are.2 in
      record { same = ap (cleared FiveFlags) d.beside.core; rip = omega (arith, to); mem = d.mem; world = d.world }

pub bare_count_step : IsBareCountStep
bare_count_step p i at v w h st =
    let t = step_told Shared (ds p i at v h) (count p i at v h) [] at v w (are p i at v h) (low p i at v h) h.rip h.stands st in
    subst (HasCounted p i at v) (sym t.1)
    (counts p i at v h (step_done Shared (ds p i at v h) v.core (count p i at v h) [] at (l p i at v h) v tt (omega arith, refl, refl) (lie p i at v h) (apart p i at v h) tt (by p i at v h) t.0))

pub bare_count_goes : BareCountGoes
bare_count_goes p i at v h r w =
    let free : AreFree (ds p i at v h) v.core v.mem = ((λ t. r), w, tt) in
    let d = steps_done Shared (ds p i at v h) v.core (count p i at v h) [] at (l p i at v h) v tt (omega arith, refl, refl) (lie p i at v h) (apart p i at v h) free tt (by p i at v h) in
    (next p i at v h, step_goes Shared (ds p i at v h) (count p i at v h) [] at v (are p i at v h) (low p i at v h) h.rip h.stands d.0, counts p i at v h d.1)

pub bare_count_bytes : BareCountBytes
bare_count_bytes p i = refl
