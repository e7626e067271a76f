-- What is asked of a run of the patched guest: the four premises, as conditions on each of the run's steps. Theorems cite it.
use Rattle.std.specs.Prelude.{◌≡◌, ◌≢◌, ℕ, Bool, true, false, List, [], ◌∷◌, Some, slice_get}
use Rattle.std.specs.List.{AllByRecursion}
use Rattle.length_decode.specs.Spelling.{Fields, IsInstruction, spelling}
use Rattle.cpu_state.specs.Bytes.{Stands, avoids}
use Rattle.insn_form.specs.Machine.{Machine, leaves}
use Rattle.insn_form.specs.Step.{next_after}
use Rattle.insn_form.specs.Touched.{reads_none}
use Rattle.image_runs.specs.Listed.{is_start, is_known_start}
use Rattle.event_steps.specs.ThreadSteps.{thread_task}
use Rattle.thread_runs.specs.Guest.{machine_of}
use Rattle.thread_runs.specs.ThreadCode.{saved_from, saved_len}
use Rattle.thread_runs.specs.Threading.{Threading, is_new, is_hidden, in_event, saves, has_saved, is_saved_by}
use Rattle.thread_runs.specs.Watching.{Watched, Watch, is_effect, Watches}

-- The instruction at which a thread of the original stands is of known length, and reads and writes
-- as data no byte of a listed instruction and no new byte, nor does an answer of the world write
-- one.
pub record IsQuietAt (r : Threading) (s : Machine) : Type 0 where
  pub known : is_known_start r.listed s.rip ≡ true
  pub leaves : (f : Fields) → IsInstruction f → Stands r.original s.rip (spelling f)
      → leaves (is_hidden r) (thread_task f (next_after s.rip f)) (next_after s.rip f) s ≡ true

-- all threads of the original stand at listed starts
abbrev pub StandAtStarts : Threading → List Watched → Type 0
StandAtStarts r ts = AllByRecursion (λ t. is_start r.listed t.projected.rip ≡ true) ts

-- the instruction of a step touches no byte of a set
abbrev pub touches_none : (ℕ → Bool) → Fields → Machine → Bool
touches_none set f s = leaves set (thread_task f (next_after s.rip f)) (next_after s.rip f) s

-- the instruction of a step reads no byte of a set
abbrev pub reads_nothing_of : (ℕ → Bool) → Fields → Machine → Bool
reads_nothing_of set f s = reads_none set (thread_task f (next_after s.rip f)) (next_after s.rip f) s

-- the step of thread k touches none of the saved bytes of any other thread that stands between its
-- save and its restore: eight, or sixteen where events keep a ring
abbrev pub LeavesSaved : Threading → Watch → ℕ → Fields → Machine → Type 0
LeavesSaved r w k f s =
    (j : ℕ) (other : Watched) → j ≢ k → slice_get w.threads j ≡ Some other → has_saved r other.now.rip ≡ true
    → touches_none (is_saved_by r other.now.core) f s ≡ true

-- a step that meets the premises
pub record IsProper (r : Threading) (k : ℕ) (w v : Watch) (m : Watches r k w v) : Type 0 where
  -- the instruction of an effect step is quiet, and all projected threads stand at listed starts
  pub quiet : is_effect r m.one.now.rip ≡ true → IsQuietAt r (machine_of w.mem m.one.projected)
  pub stand : StandAtStarts r v.threads
  -- no step outside an event reads a stale byte
  pub fresh : in_event r m.one.now.rip ≡ false → reads_nothing_of w.stale m.fields (machine_of w.mem m.one.now) ≡ true
  -- no saved byte is new
  pub saved : saves r m.one.now.rip ≡ true → avoids (is_new r) (saved_from r.ring m.one.now.core) (saved_len r.ring) ≡ true
  pub apart : LeavesSaved r w k m.fields (machine_of w.mem m.one.now)

-- a run of the watched guest over a schedule, all of whose steps meet the premises
abbrev pub IsProperRun : Threading → List ℕ → Watch → List Watch → Type 0
IsProperRun r [] w [] = StandAtStarts r w.threads
IsProperRun r [] w (v ∷ vs) = ⊥
IsProperRun r (k ∷ ks) w [] = ⊥
IsProperRun r (k ∷ ks) w (v ∷ vs) = StandAtStarts r w.threads × ((m : Watches r k w v) × IsProper r k w v m) × IsProperRun r ks v vs
