-- Guests beside memory that they leave alone. Theorems cite it.
use Rattle.std.specs.Prelude.{◌≡◌, ◌⊎◌, ℕ, Bool, true, false, List, [], ◌∷◌, length, map, Some, None, is_some, slice_get}
use Rattle.pun_base.specs.Memory.{Bytes, joined}
use Rattle.length_decode.specs.Spelling.{Fields, spelling}
use Rattle.cpu_state.specs.Bytes.{allows, avoids}
use Rattle.start_entries.specs.declared.entry.StartEntry.{StartEntry}
use Rattle.insn_form.specs.Machine.{Machine}
use Rattle.insn_form.specs.Step.{IsAt}
use Rattle.event_steps.specs.ThreadSteps.{ThreadStepsBy}
use Rattle.thread_runs.specs.Guest.{Thread, Guest, machine_of}
use Rattle.thread_runs.specs.Premises.{reads_nothing_of}
use Rattle.thread_runs.specs.GuestDeliveries.{Goes, Takes}
use Rattle.thread_laws.specs.Beginning.{BirthItem, Does, Begins, IsGrowing}
use Rattle.settled_runs.specs.Laws.{beside}

-- The memory holds the address.
abbrev pub is_held : Bytes → ℕ → Bool
is_held w x = is_some (w x)

-- No byte of the memory can be written.
abbrev pub IsUnwritable : Bytes → Type 0
IsUnwritable w = (x : ℕ) → is_held w x ≡ true → allows 2 (w x) ≡ false

-- Two memories hold no address both.
abbrev pub AreApart : Bytes → Bytes → Type 0
AreApart w m = (x : ℕ) → (w x ≡ None) ⊎ (m x ≡ None)

-- The instruction of a state has no byte in the memory, and reads none of it as data.
pub record LeavesAlone (w : Bytes) (f : Fields) (s : Machine) : Type 0 where
  pub fetched : avoids (is_held w) s.rip (length (spelling f)) ≡ true
  pub unread : reads_nothing_of (is_held w) f s ≡ true

-- A state without the memory, from which these fields lead to what they lead to beside it.
pub record ComesBack (w : Bytes) (f : Fields) (s t : Machine) : Type 0 where
  pub to : Machine
  pub steps : ThreadStepsBy f s to
  pub same : t ≡ beside w to

-- A thread's step beside memory that can't be written, and that it leaves alone, is one without it.
abbrev pub StepsComeBack : Type 0
StepsComeBack =
    (w : Bytes) (f : Fields) (s t : Machine) → IsUnwritable w → AreApart w s.mem → LeavesAlone w f (beside w s)
    → ThreadStepsBy f (beside w s) t → ComesBack w f s t

-- The guest with further memory in front of its own.
abbrev pub guest_beside : Bytes → Guest → Guest
guest_beside w g = record { threads = g.threads; mem = joined w g.mem }

-- The thread that makes a step leaves the memory alone. A delivery does, where it can't be written, and so does a thread that begins.
abbrev pub ItemLeaves : Bytes → BirthItem → Guest → Type 0
ItemLeaves w (Does (Goes k)) g =
    (t : Thread) (f : Fields) → slice_get g.threads k ≡ Some t → IsAt (machine_of g.mem t) f → LeavesAlone w f (machine_of g.mem t)
ItemLeaves w (Does (Takes k d)) g = Unit {0}
ItemLeaves w (Begins t) g = Unit {0}

-- So does each step of a run.
abbrev pub RunLeaves : Bytes → List BirthItem → Guest → List Guest → Type 0
RunLeaves w [] g hs = Unit {0}
RunLeaves w (i ∷ is) g [] = Unit {0}
RunLeaves w (i ∷ is) g (h ∷ hs) = ItemLeaves w i g × RunLeaves w is h hs

-- A run of a guest without the memory, beside which its states are these.
pub record IsRunBeside (w : Bytes) (listed : List StartEntry) (is : List BirthItem) (g : Guest) (hs : List Guest) : Type 0 where
  pub states : List Guest
  pub run : IsGrowing listed is g states
  pub same : hs ≡ map (guest_beside w) states

-- A run beside memory that can't be written, and that it leaves alone, is one without it, with deliveries and threads that begin.
abbrev pub RunsComeBack : Type 0
RunsComeBack =
    (w : Bytes) (listed : List StartEntry) (is : List BirthItem) (g : Guest) (hs : List Guest) → IsUnwritable w → AreApart w g.mem
    → IsGrowing listed is (guest_beside w g) hs → RunLeaves w is (guest_beside w g) hs → IsRunBeside w listed is g hs
