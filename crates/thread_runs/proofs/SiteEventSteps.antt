-- What holds of the list of a site's event, whatever its kind.
use Rattle.std.proofs.Common.{◌≡◌, ℕ, zero, suc, ◌+◌, ◌^◌, ◌<◌, ◌≤◌, Bool, true, eqb, List, [], ◌∷◌, ◌++◌, length, drop, Option, Some, None, refl, sym, subst, arith}
use Rattle.pun_base.specs.Memory.{Bytes}
use Rattle.pun_base.specs.Actions.{AreComparisons}
use Rattle.pun_base.specs.declared.action.Base.{Base}
use Rattle.pun_base.specs.declared.action.Base.TheVariants.{Cover, Count}
use Rattle.pun_base.specs.declared.action.CompareOp.{CompareOp}
use Rattle.pun_base.specs.declared.action.CompareOp.TheVariants.{Eq, Ne, Lt, Le, Gt, Ge}
use Rattle.pun_base.specs.declared.action.Comparison.{Comparison}
use Rattle.cpu_state.specs.Fixed.{IsFixed}
use Rattle.insn_form.specs.Machine.{Machine}
use Rattle.cond_action.specs.Codes.{failing}
use Rattle.trampoline.specs.EventLists.{marking_step}
use Rattle.event_steps.specs.declared.step.Datum.{Datum}
use Rattle.event_steps.specs.declared.step.EventStep.{EventStep}
use Rattle.event_steps.specs.declared.step.EventStep.TheVariants.{FromAl, FromAh, Load}
use Rattle.event_steps.specs.EventSteps.Mode.{Shared}
use Rattle.event_steps.specs.EventSteps.{size, long, place_in, over, IsStep, HasDatum, AreSteps, code}
use Rattle.event_steps.specs.DoneSteps.{AreLow}
use Rattle.event_steps.proofs.ListedCode.{step_told, step_goes, rest_stands}
use Rattle.thread_runs.specs.ThreadCode.{Kind, Marks, Keeps, marking_len, checking_len}
use Rattle.thread_runs.specs.ThreadLists.{comparing_step, checks, saving_thread_event, thread_ring_list}
use Rattle.thread_runs.specs.Event.{AreFew}
use Rattle.thread_runs.specs.SiteEvents.{event_list, IsPlaced, SiteEventsAreLists, StandsAt, SiteStepTold, SiteStepGoes}
use Rattle.thread_runs.proofs.ComparisonCode.{checking_few}
use Rattle.thread_runs.proofs.ThreadListCode.{compare_size, mark_size, checks_over, are_thread_lists}

-- how long the steps of checks are
checks_long : (cs : List Comparison) (back : List EventStep) → long (checks cs ++ back) ≡ checking_len cs + long back
checks_long [] back = omega arith
checks_long (c ∷ cs) back = let q = checks_long cs back in let s = compare_size c.reg c.value in omega (arith, q, s)

pub saving_long : (b : Base) (cs : List Comparison) (p i : ℕ) → long (saving_thread_event b cs p i).steps ≡ 12 + checking_len cs + marking_len b + 11
saving_long b cs p i = let q = checks_long cs (marking_step b true 1 ∷ FromAl ∷ FromAh ∷ Load 0 ∷ []) in let s = mark_size b in omega (arith, q, s)

-- each event is its list
pub are_lists : SiteEventsAreLists
are_lists (Some (Marks Cover)) [] p i = record { code = (are_thread_lists p i).cover; len = refl }
are_lists (Some (Marks Cover)) (c ∷ cs) p i = record { code = (are_thread_lists p i).saving Cover (c ∷ cs); len = saving_long Cover (c ∷ cs) p i }
are_lists (Some (Marks Count)) cs p i = record { code = (are_thread_lists p i).saving Count cs; len = saving_long Count cs p i }
are_lists (Some (Keeps n)) cs p i = record { code = (are_thread_lists p i).ring n; len = ring_long (eqb n 256) }
  where
    ring_long : (t : Bool) → long (thread_ring_list n p i).steps ≡ 67
    ring_long t = refl
are_lists None cs p i = record { code = refl; len = refl }

-- a jump over what a failed comparison leaves out has one of six conditions
failing_is : (op : CompareOp) → (2 ≤ failing op) × (failing op < 8)
failing_is Eq = (omega arith, omega arith)
failing_is Ne = (omega arith, omega arith)
failing_is Lt = (omega arith, omega arith)
failing_is Le = (omega arith, omega arith)
failing_is Gt = (omega arith, omega arith)
failing_is Ge = (omega arith, omega arith)

module _ (b : Base) (p i : ℕ) where
  abbrev us : List Datum
  us = (saving_thread_event b [] p i).uses

  abbrev tail : List EventStep
  tail = marking_step b true 1 ∷ FromAl ∷ FromAh ∷ Load 0 ∷ []

  -- the step that marks, and those that bring all back
  tail_steps : (d : Base) → d ≡ b → AreSteps Shared us tail
  tail_steps Cover e = subst (λ (z : Base). AreSteps Shared (saving_thread_event z [] p i).uses (marking_step z true 1 ∷ FromAl ∷ FromAh ∷ Load 0 ∷ [])) e
      (tt, (omega arith, refl, refl), omega arith, (tt, tt, omega arith, (tt, tt, omega arith, (tt, (omega arith, refl, refl), omega arith, tt))))
  tail_steps Count e = subst (λ (z : Base). AreSteps Shared (saving_thread_event z [] p i).uses (marking_step z true 1 ∷ FromAl ∷ FromAh ∷ Load 0 ∷ [])) e
      (tt, (omega arith, refl, refl), omega arith, (tt, tt, omega arith, (tt, tt, omega arith, (tt, (omega arith, refl, refl), omega arith, tt))))

  compare_step : (r n : ℕ) → r < 16 → n < 2 ^ 31 → IsStep Shared (place_in us (comparing_step r n)) (comparing_step r n) × HasDatum us (comparing_step r n)
  compare_step zero n l m = (m, (omega arith, refl, refl))
  compare_step (suc r) n l m = ((l, m), tt)

  compare_over : (r n : ℕ) (ss : List EventStep) → over (comparing_step r n) ss < 128
  compare_over zero n ss = omega arith
  compare_over (suc r) n ss = omega arith

  mark_few : (d : Base) → marking_len d ≤ 9
  mark_few Cover = omega arith
  mark_few Count = omega arith

  -- up to three checks in front of them
  check_steps : (cs : List Comparison) → AreComparisons cs → length cs ≤ 3 → AreSteps Shared us (checks cs ++ tail)
  check_steps [] h l = tail_steps b refl
  check_steps (c ∷ cs) h l =
      let q = compare_step c.reg c.value h.0 h.1 in
      let n = checks_over b cs (FromAl ∷ FromAh ∷ Load 0 ∷ []) in
      (q.0, q.1, compare_over c.reg c.value _, (failing_is c.op, tt, omega (arith, n, l, checking_few cs, mark_few b), check_steps cs h.2 (omega (arith, l))))

  saving_steps : (cs : List Comparison) → AreFew cs → AreSteps Shared us (saving_thread_event b cs p i).steps
  saving_steps cs h = (tt, (omega arith, refl, refl), omega arith, (tt, tt, omega arith, (tt, tt, omega arith, check_steps cs h.asked h.few)))

-- the steps of a site's event are ones that threads have
pub site_steps : (o : Option Kind) (cs : List Comparison) (p i at : ℕ) → IsPlaced o cs p i at → AreSteps Shared (event_list o cs p i).uses (event_list o cs p i).steps
site_steps (Some (Marks Cover)) [] p i at h = (tt, (omega arith, refl, refl), omega arith, tt)
site_steps (Some (Marks Cover)) (c ∷ cs) p i at h = saving_steps Cover p i (c ∷ cs) h.few
site_steps (Some (Marks Count)) cs p i at h = saving_steps Count p i cs h.few
site_steps (Some (Keeps n)) cs p i at h = (
  tt,
  (omega arith, refl, refl),
  omega arith,
  (tt, tt, omega arith, (tt, tt, omega arith, (tt, (omega arith, refl, refl), omega arith, (omega arith, tt, omega arith, (tt, (omega arith, refl, refl), omega arith, filling))))),
)
  where
    number : i + 1 < 2 ^ 31
    number = h.room.2

    filling : AreSteps Shared (thread_ring_list n p i).uses (drop 6 (thread_ring_list n p i).steps)
    filling = (tt, tt, omega arith, ((tt, number), (omega arith, refl), omega arith, (tt, (omega arith, refl, refl), omega arith, (tt, tt, omega arith, (tt, tt, omega arith, (tt, (omega arith, refl, refl), omega arith, tt))))))
site_steps None cs p i at h = tt

-- its data lie low
pub site_low : (o : Option Kind) (cs : List Comparison) (p i at : ℕ) → IsPlaced o cs p i at → AreLow (event_list o cs p i).uses
site_low (Some (Marks Cover)) [] p i at h = (h.room, tt)
site_low (Some (Marks Cover)) (c ∷ cs) p i at h = ((omega arith, omega arith), (h.room, tt))
site_low (Some (Marks Count)) cs p i at h = ((omega arith, omega arith), (h.room, tt))
site_low (Some (Keeps n)) cs p i at h = let q = h.room.1 in ((omega arith, omega arith), ((omega arith, omega arith), (omega (arith, q), (omega (arith, q), tt))))
site_low None cs p i at h = tt

-- the last of some steps whose code stands, with their code
record AreLast (ds : List Datum) (at : ℕ) (ss rest : List EventStep) (m : Bytes) : Type 0 where
  steps : AreSteps Shared ds rest
  place : ℕ
  here : place + long rest ≡ at + long ss
  stands : IsFixed m place (code ds rest)

last_ones : (ds : List Datum) (j : ℕ) (ss : List EventStep) (at : ℕ) (m : Bytes) → AreSteps Shared ds ss → at + long ss < 2 ^ 31 → IsFixed m at (code ds ss) → AreLast ds at ss (drop j ss) m
last_ones ds zero [] at m a low c = record { steps = a; place = at; here = refl; stands = c }
last_ones ds (suc j) [] at m a low c = record { steps = a; place = at; here = refl; stands = c }
last_ones ds zero (s ∷ ss) at m a low c = record { steps = a; place = at; here = refl; stands = c }
last_ones ds (suc j) (s ∷ ss) at m a low c =
    let q = last_ones ds j ss (at + size s) m a.3 (omega (arith, low)) (rest_stands m ds at s ss low c) in
    record { steps = q.steps; place = q.place; here = omega (arith, q.here); stands = q.stands }

-- a thread in front of steps stands at their code
pub at_last : (o : Option Kind) (cs : List Comparison) (p i at : ℕ) (rest : List EventStep) (v : Machine) → IsPlaced o cs p i at → StandsAt o cs p i at rest v
    → AreSteps Shared (event_list o cs p i).uses rest × (v.rip + long rest < 2 ^ 31) × IsFixed v.mem v.rip (code (event_list o cs p i).uses rest)
at_last o cs p i at rest v h k =
    let ds = (event_list o cs p i).uses in
    let ss = (event_list o cs p i).steps in
    let l = are_lists o cs p i in
    let q = last_ones ds k.passed ss at v.mem (site_steps o cs p i at h) (let z = h.below in let y = l.len in omega (arith, z, y)) (subst (λ (z : List ℕ). IsFixed v.mem at z) (sym l.code) k.stands) in
    let z = subst (λ (z : List EventStep). AreLast ds at ss z v.mem) (sym k.left) q in
    let e : z.place ≡ v.rip = (let a = z.here in let b = k.here in let c = l.len in omega (arith, a, b, c)) in
    (z.steps, (let a = k.here in let b = h.below in omega (arith, a, b)), subst (λ (y : ℕ). IsFixed v.mem y (code ds rest)) e z.stands)

-- each step that is made there is that step
pub site_step_told : SiteStepTold
site_step_told o cs p i at s rest v w h k st =
    let q = at_last o cs p i at (s ∷ rest) v h k in
    step_told Shared (event_list o cs p i).uses s rest v.rip v w q.0 q.1 refl q.2 st

-- and there is one
pub site_step_goes : SiteStepGoes
site_step_goes o cs p i at s rest v h k can =
    let q = at_last o cs p i at (s ∷ rest) v h k in
    step_goes Shared (event_list o cs p i).uses s rest v.rip v q.0 q.1 refl q.2 can
