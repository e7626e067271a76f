-- What the run of a whole event leaves. Theorems cite it.
use Rattle.std.specs.Prelude.{◌≡◌, ℕ, zero, suc, ◌+◌, ◌^◌, ◌<◌, ◌≤◌, false, List, [], ◌∷◌, length, take}
use Rattle.cpu_state.specs.declared.state.Core.{Core}
use Rattle.pun_base.specs.Memory.{Bytes}
use Rattle.cpu_state.specs.Fixed.{IsFixed}
use Rattle.insn_form.specs.Machine.{Machine}
use Rattle.insn_form.specs.Runs.{IsPath, last_of}
use Rattle.relocate_insn.specs.Running.{Inside}
use Rattle.event_steps.specs.declared.step.Datum.{Datum}
use Rattle.event_steps.specs.declared.step.EventStep.{EventStep}
use Rattle.event_steps.specs.EventSteps.{Mode, long, AreSteps, code}
use Rattle.event_steps.specs.MadeSteps.{StepIn, skipped}
use Rattle.event_steps.specs.DoneSteps.{Local, done, ended, AreLow, is_in, AreApart, AreFree, FitsIn, mem_done, StandsBy}

-- each step's element has its place
abbrev pub FitAll : List Datum → ℕ → List EventStep → Local → Type 0
FitAll ds k [] l = Unit {0}
FitAll ds (suc k) (s ∷ ss) l = FitAll ds k ss l
FitAll ds zero (s ∷ ss) l = FitsIn ds s l × FitAll ds (skipped s l.core) ss (done s l)

-- memory after steps one after the other, where the first k are left out
abbrev pub left_in : List Datum → Core → ℕ → List EventStep → Local → Bytes → Bytes
left_in ds c k [] l m = m
left_in ds c (suc k) (s ∷ ss) l m = left_in ds c k ss l m
left_in ds c zero (s ∷ ss) l m = left_in ds c (skipped s l.core) ss (done s l) (mem_done ds c s l m)

-- how many steps are made
abbrev pub made_in : ℕ → List EventStep → Local → ℕ
made_in k [] l = 0
made_in (suc k) (s ∷ ss) l = made_in k ss l
made_in zero (s ∷ ss) l = suc (made_in (skipped s l.core) ss (done s l))

-- What a run of a whole event leaves, where nothing steps in between.
pub record Leaves (mode : Mode) (ds : List Datum) (c : Core) (k : ℕ) (ss : List EventStep) (at : ℕ) (l : Local) (v : Machine) (us : List Machine) : Type 0 where
  pub run : IsPath (StepIn mode) v us
  pub many : length us ≡ made_in k ss l
  pub few : length us ≤ length ss
  pub there : (last_of v us).rip ≡ at + long ss
  pub inside : Inside (at + 1) (at + long ss + 1) us
  pub beside : StandsBy ds c (ended k ss l) (last_of v us)
  pub mem : (last_of v us).mem ≡ left_in ds c k ss l v.mem
  pub world : (last_of v us).world ≡ v.world
  pub kept : (x : ℕ) → is_in ds c x ≡ false → (last_of v us).mem x ≡ v.mem x

-- Where the code of an event stands and its data are held and apart, it runs and leaves what its list says.
abbrev pub EventsLeave : Type 0
EventsLeave = (mode : Mode) (ds : List Datum) (c : Core) (k : ℕ) (ss : List EventStep) (at : ℕ) (l : Local) (v : Machine) → AreSteps mode ds ss → at + long ss < 2 ^ 31
    → v.rip ≡ at + long (take k ss) → IsFixed v.mem at (code ds ss) → AreLow ds → AreApart ds c → AreFree ds c v.mem → FitAll ds k ss l → StandsBy ds c l v
    → (us : List Machine) × Leaves mode ds c k ss at l v us
