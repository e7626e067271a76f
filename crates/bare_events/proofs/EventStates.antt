-- Each state of an event's run differs from its first one by what its steps may change.
use Rattle.std.proofs.Common.{◌≡◌, ℕ, zero, suc, ◌+◌, ◌^◌, ◌<◌, false, List, [], ◌∷◌, length, take, refl, sym, ap, ◌∙◌, subst, arith}
use Rattle.cpu_state.specs.declared.state.Core.{Core}
use Rattle.cpu_state.specs.Fixed.{IsFixed}
use Rattle.insn_form.specs.Machine.{Machine}
use Rattle.insn_form.specs.Runs.{IsPath}
use Rattle.killing.specs.declared.place.Place.{Place}
use Rattle.relocate_insn.proofs.FixedCode.{fixed_on}
use Rattle.event_steps.specs.declared.step.Datum.{Datum}
use Rattle.event_steps.specs.declared.step.EventStep.{EventStep}
use Rattle.event_steps.specs.EventSteps.{size, long, code, AreSteps}
use Rattle.event_steps.specs.EventSteps.Mode.{Alone}
use Rattle.event_steps.specs.MadeSteps.{StepIn, skipped}
use Rattle.event_steps.specs.DoneSteps.{Local, done, ended, datum_held, is_in, AreLow, AreApart, AreFree, StandsBy, IsDone}
use Rattle.event_steps.specs.WholeEvents.{FitAll, made_in}
use Rattle.event_steps.proofs.ListedCode.{step_told, step_leads, same_code, rest_stands}
use Rattle.event_steps.proofs.LocalSteps.{steps_done}
use Rattle.event_steps.proofs.EventRuns.{same_perms, free_on}
use Rattle.bare_events.specs.BareRunning.{meanwhile, AllChangeLittle}

-- registers and flags are as before behind steps, but for what these may change
pub little_left : (p : Place) (k : ℕ) (ss : List EventStep) (l : Local) → AllChangeLittle p ss → meanwhile p (ended k ss l).core ≡ meanwhile p l.core
little_left p zero [] l h = refl
little_left p (suc k) [] l h = refl
little_left p (suc k) (s ∷ ss) l h = little_left p k ss l h.1
little_left p zero (s ∷ ss) l h = little_left p (skipped s l.core) ss (done s l) h.1 ∙ h.0 (datum_held s l) l.core

-- a state is as v but for that and for data
pub record IsMeanwhile (p : Place) (ds : List Datum) (c : Core) (v u : Machine) : Type 0 where
  pub core : meanwhile p u.core ≡ meanwhile p v.core
  pub world : u.world ≡ v.world
  pub kept : (x : ℕ) → is_in ds c x ≡ false → u.mem x ≡ v.mem x

-- each state is
abbrev pub AreMeanwhile : Place → List Datum → Core → Machine → List Machine → Type 0
AreMeanwhile p ds c v [] = Unit {0}
AreMeanwhile p ds c v (u ∷ us) = IsMeanwhile p ds c v u × AreMeanwhile p ds c v us

-- those that are as a later state are as an earlier one
meanwhile_on : (p : Place) (ds : List Datum) (c : Core) (v w : Machine) (us : List Machine) → IsMeanwhile p ds c v w → AreMeanwhile p ds c w us → AreMeanwhile p ds c v us
meanwhile_on p ds c v w [] h a = tt
meanwhile_on p ds c v w (u ∷ us) h a =
    (record { core = a.0.core ∙ h.core; world = a.0.world ∙ h.world; kept = λ x o. a.0.kept x o ∙ h.kept x o }, meanwhile_on p ds c v w us h a.1)

-- the states of an event's run are
pub events_pass : (p : Place) (ds : List Datum) (c : Core) (k : ℕ) (ss : List EventStep) (at : ℕ) (l : Local) (v : Machine) (us : List Machine)
    → AreSteps Alone ds ss → at + long ss < 2 ^ 31 → v.rip ≡ at + long (take k ss) → IsFixed v.mem at (code ds ss) → AreLow ds → AreApart ds c → AreFree ds c v.mem
    → FitAll ds k ss l → StandsBy ds c l v → AllChangeLittle p ss → IsPath (StepIn Alone) v us → length us ≡ made_in k ss l → AreMeanwhile p ds c v us
events_pass p ds c k ss at l v [] are low r stands lie apart free fits b h run n = tt
events_pass p ds c zero [] at l v (w ∷ us) are low r stands lie apart free fits b h run n = absurd (omega (arith, n))
events_pass p ds c (suc k) [] at l v (w ∷ us) are low r stands lie apart free fits b h run n = absurd (omega (arith, n))
events_pass p ds c (suc k) (s ∷ ss) at l v (w ∷ us) are low r stands lie apart free fits b h run n =
    events_pass p ds c k ss (at + size s) l v (w ∷ us) are.3 (omega (arith, low)) (omega (arith, r)) (rest_stands v.mem ds at s ss low stands) lie apart free fits b h.1 run n
events_pass p ds c zero (s ∷ ss) at l v (w ∷ us) are low r stands lie apart free fits b h run n =
    let here : v.rip ≡ at = omega (arith, r) in
    let t = step_told Alone ds s ss at v w are low here stands run.0 in
    let d = steps_done Alone ds c s ss at l v are.0 are.1 lie apart free fits.0 b in
    let e = subst (λ (z : Machine). IsDone ds c s l v z) (sym t.1) d.1 in
    let to = ap (λ (z : Machine). z.rip) t.1 ∙ step_leads ds s ss at v low are.2 ∙ ap (λ z. at + size s + long (take (skipped s z) ss)) b.core in
    let one : IsMeanwhile p ds c v w = record {
      core = ap (meanwhile p) e.beside.core ∙ h.0 (datum_held s l) l.core ∙ sym (ap (meanwhile p) b.core);
      world = e.world;
      kept = e.kept;
    } in (
      one,
      meanwhile_on p ds c v w us one
          (events_pass p ds c (skipped s l.core) ss (at + size s) (done s l) w us are.3 (omega (arith, low)) to
          (fixed_on v.mem w.mem (at + size s) (code ds ss) (same_code Alone v w run.0) (rest_stands v.mem ds at s ss low stands)) lie apart
          (free_on ds c v.mem w.mem (same_perms Alone v w run.0) free) fits.1 e.beside h.1 run.1 (omega (arith, n))),
    )
