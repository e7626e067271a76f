-- Steps of a guest that runs, one after the other.
use Rattle.std.proofs.Common.{◌≡◌, ℕ, zero, suc, ◌+◌, ◌<◌, ◌≤◌, Bool, cond, List, [], ◌∷◌, ◌++◌, length, take, drop, map, get_or, Option, Some, None, Ok, Err, Bor, refl, ap, sym, subst, ◌∙◌, arith}
use Rattle.std.specs.Prelude.{option_copied, slice_get, slice_set}
use Rattle.std.specs.Slice.{IsItemAt}
use Rattle.cpu_state.specs.declared.regions.MemoryRegion.{MemoryRegion}
use Rattle.cpu_state.specs.declared.state.State.{State}
use Rattle.cpu_state.specs.declared.world.Entry.{Entry}
use Rattle.cpu_state.specs.Parts.{core_of}
use Rattle.cpu_state.specs.Regions.{cell_at}
use Rattle.cpu_step.specs.declared.stop.Stop.{Stop}
use Rattle.cpu_step.specs.Stepping as state
use Rattle.patch_report.proofs.ListPlaces.{some_is}
use Rattle.image_step.proofs.RunnerSteps.{first_left, world_left}
use Rattle.event_steps.specs.ThreadSteps.{ThreadStep}
use Rattle.thread_runs.specs.ThreadJudging.{IsStopped, StepsThread}
use Rattle.thread_runs.specs.declared.runner.RunnerThread.{RunnerThread}
use Rattle.thread_runs.specs.declared.runner.ThreadRunner.{ThreadRunner}
use Rattle.thread_runs.specs.Guest.{Thread, Guest, machine_of, Moves, IsInterleaved, last_guest}
use Rattle.thread_runs.specs.Running.{thread_in, guest_in, Leads, HasStopped, StepsOn}
use Rattle.thread_runs.proofs.ListUpdates.{map_set, map_same, get_map}

-- a step of a state, in the world of which k entries are used
pub step_on_ok : (old new : State) (world : List Entry) (k : ℕ) (r : Option (Bor Entry)) (used : Bool) → IsItemAt world k r → StepsThread (option_copied r) old new (Ok used)
    → ThreadStep (state.machine_of old (drop k world)) (state.machine_of new (drop (k + cond used 1 0) world))
step_on_ok old new world k r used h st =
    subst (λ (w : List Entry). ThreadStep (state.machine_of old (drop k world)) (state.machine_of new w)) (world_left used world k) (st.1 (drop k world) (first_left world k r h))

-- a state that stops stays as it is, and has no step in the world of which k entries are used, for this reason
pub step_on_err : (old new : State) (world : List Entry) (k : ℕ) (r : Option (Bor Entry)) (stop : Stop) → IsItemAt world k r → StepsThread (option_copied r) old new (Err stop)
    → (new ≡ old) × IsStopped (state.machine_of old (drop k world)) stop
step_on_err old new world k r stop h st = (st.0, st.1 (drop k world) (first_left world k r h))

-- ---- schedules

-- the empty schedule leads from a guest to itself
pub leads_none : (g : Guest) → Leads [] g g
leads_none g = record { states = []; run = tt; last = refl }

-- a schedule that leads to a guest leads with one more entry to the guest after that thread's step
leads_more_from : (ks : List ℕ) (k : ℕ) (g h i : Guest) (gs : List Guest) → IsInterleaved ks g gs → h ≡ last_guest g gs → Moves k h i
    → (hs : List Guest) × IsInterleaved (ks ++ k ∷ []) g hs × (i ≡ last_guest g hs)
leads_more_from [] k g h i [] r e m = (i ∷ [], (subst (λ z. Moves k z i) e m, tt), refl)
leads_more_from [] k g h i (x ∷ xs) r e m = absurd r
leads_more_from (j ∷ ks) k g h i [] r e m = absurd r
leads_more_from (j ∷ ks) k g h i (x ∷ xs) r e m =
    let s = leads_more_from ks k x h i xs r.1 e m in
    (x ∷ s.0, (r.0, s.1), s.2)

-- a schedule and one step more lead where the step leads
pub leads_more : (ks : List ℕ) (k : ℕ) (g h i : Guest) → Leads ks g h → Moves k h i → Leads (ks ++ k ∷ []) g i
leads_more ks k g h i l m = let s = leads_more_from ks k g h i l.states l.run l.last m in record { states = s.0; run = s.1; last = s.2 }

-- the entries up to one and that one are the entries up to the next
take_next : (xs : List ℕ) (place k : ℕ) → slice_get xs place ≡ Some k → take (suc place) xs ≡ take place xs ++ k ∷ []
take_next [] place k e = absurd cc
take_next (x ∷ xs) zero k e = ap (λ z. z ∷ []) (some_is x k e)
take_next (x ∷ xs) (suc place) k e = ap (λ l. x ∷ l) (take_next xs place k e)

-- an entry within a list's length is the one read there
pub at_number : (xs : List ℕ) (k : ℕ) → k < length xs → slice_get xs k ≡ Some (get_or xs k 0)
at_number [] k h = absurd (omega (arith, h))
at_number (x ∷ xs) zero h = refl
at_number (x ∷ xs) (suc k) h = at_number xs k (omega (arith, h))

-- a schedule that leads to a guest leads with its next entry to the guest after that thread's step
pub goes_on : (schedule : List ℕ) (place k : ℕ) (g h i : Guest) → slice_get schedule place ≡ Some k → Leads (take place schedule) g h → Moves k h i → Leads (take (place + 1) schedule) g i
goes_on schedule place k g h i e l m =
    let one : suc place ≡ place + 1 = omega arith in
    subst (λ n. Leads (take n schedule) g i) one (subst (λ ks. Leads ks g i) (sym (take_next schedule place k e)) (leads_more (take place schedule) k g h i l m))

-- ---- one thread of a runner

abbrev thread_from : State → List Entry → Thread
thread_from s world = record { core = core_of s; rip = s.rip; world = world }

-- with its memory lent by the runner, and back
pub lent_ok : (old new : State) (memory mid after : List MemoryRegion) (world : List Entry) (k n : ℕ) (r : Option (Bor Entry)) (used : Bool) → mid ≡ memory → after ≡ new.mem
    → n ≡ k + cond used 1 0 → IsItemAt world k r → StepsThread (option_copied r) (record old { mem = mid }) new (Ok used)
    → ThreadStep (machine_of (cell_at memory) (thread_from old (drop k world))) (machine_of (cell_at after) (thread_from new (drop n world)))
lent_ok old new memory mid after world k n r used e d l h st =
    let t = thread_from new (drop n world) in
    let x = subst (λ (j : ℕ). ThreadStep (machine_of (cell_at mid) (thread_from old (drop k world))) (machine_of (cell_at new.mem) (thread_from new (drop j world)))) (sym l)
    (step_on_ok (record old { mem = mid }) new world k r used h st) in
    let y = subst (λ (z : List MemoryRegion). ThreadStep (machine_of (cell_at z) (thread_from old (drop k world))) (machine_of (cell_at new.mem) t)) e x in
    subst (λ (z : List MemoryRegion). ThreadStep (machine_of (cell_at memory) (thread_from old (drop k world))) (machine_of (cell_at z) t)) (sym d) y

-- a state that stops with its memory lent by the runner stays, and so does the memory
pub lent_err : (old new : State) (memory mid after : List MemoryRegion) (world : List Entry) (k : ℕ) (r : Option (Bor Entry)) (stop : Stop) → mid ≡ memory → after ≡ new.mem
    → IsItemAt world k r → StepsThread (option_copied r) (record old { mem = mid }) new (Err stop)
    → (thread_from new (drop k world) ≡ thread_from old (drop k world)) × (cell_at after ≡ cell_at memory) × IsStopped (machine_of (cell_at memory) (thread_from old (drop k world))) stop
lent_err old new memory mid after world k r stop e d h st =
    let x = step_on_err (record old { mem = mid }) new world k r stop h st in (
      ap (λ (z : State). thread_from z (drop k world)) x.0,
      ap cell_at (d ∙ ap (λ (z : State). z.mem) x.0 ∙ e),
      subst (λ (z : List MemoryRegion). IsStopped (machine_of (cell_at z) (thread_from old (drop k world))) stop) e x.1,
    )

-- ---- threads of a runner

-- the element read at an index of a list is found there
at_place : {X : Type 0} (xs : List X) (k : ℕ) (x : X) → k < length xs → x ≡ get_or xs k x → slice_get xs k ≡ Some x
at_place [] k x h e = absurd (omega (arith, h))
at_place (z ∷ zs) zero x h e = ap Some (sym e)
at_place (z ∷ zs) (suc k) x h e = at_place zs k x (omega (arith, h)) e

-- from the length of a list on no element of its image is found
none_at : {X Y : Type 0} (f : X → Y) (xs : List X) (k : ℕ) → length xs ≤ k → slice_get (map f xs) k ≡ None
none_at f [] k h = refl
none_at f (z ∷ zs) zero h = absurd (omega (arith, h))
none_at f (z ∷ zs) (suc k) h = none_at f zs k (omega (arith, h))

-- a step of thread k's state is a step of thread k of the runner's guest
pub moves_at : (r : ThreadRunner) (k : ℕ) (x y : RunnerThread) (m : List MemoryRegion) → k < length r.threads.items → x ≡ get_or r.threads.items k x
    → ThreadStep (machine_of (cell_at r.memory) (thread_in x)) (machine_of (cell_at m) (thread_in y))
    → Moves k (guest_in r) (record { threads = map thread_in (slice_set r.threads.items k y); mem = cell_at m })
moves_at r k x y m h e st =
    let p = map_set thread_in r.threads.items k y in
    record {
      thread = thread_in x;
      there = get_map thread_in r.threads.items k x (at_place r.threads.items k x h e);
      to = machine_of (cell_at m) (thread_in y);
      steps = st;
      after = λ i. record { threads = p i; mem = cell_at m };
    }

-- where thread k stops, the runner's guest stays as it is and has stopped there
pub stays_at : (r : ThreadRunner) (k : ℕ) (x y : RunnerThread) (m : List MemoryRegion) (stop : Stop) → k < length r.threads.items → x ≡ get_or r.threads.items k x
    → StepsOn x (cell_at r.memory) y (cell_at m) (Err stop)
    → (◌≡◌ {A = Guest} (record { threads = map thread_in (slice_set r.threads.items k y); mem = cell_at m }) (guest_in r)) × HasStopped (guest_in r) k stop
stays_at r k x y m stop h e st =
    let there = at_place r.threads.items k x h e in
    let p = map_same thread_in r.threads.items k x y there st.0 in
    let q = st.1 in
    (λ i. record { threads = p i; mem = q i }, record { thread = thread_in x; there = get_map thread_in r.threads.items k x there; stopped = st.2 })

-- the state that a runner shows has the registers and the instruction pointer of that thread of its guest
pub shows_some : (ts : List RunnerThread) (k : ℕ) (x : Bor RunnerThread) → IsItemAt ts k (Some x)
    → (t : Thread) × (slice_get (map thread_in ts) k ≡ Some t) × (core_of x.now.state ≡ t.core) × (x.now.state.rip ≡ t.rip)
shows_some ts k x h =
    let l = h.3.0 in
    (thread_in x.now, get_map thread_in ts k x.now (at_place ts k x.now (omega (arith, l)) h.1), refl, refl)

-- where a runner shows none, its guest has no thread of the number
pub shows_none : (ts : List RunnerThread) (k : ℕ) → IsItemAt ts k None → slice_get (map thread_in ts) k ≡ None
shows_none ts k h = let l = h.3 in none_at thread_in ts k (omega (arith, l))
