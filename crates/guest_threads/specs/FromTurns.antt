-- What the turns have done, loaded with the code of threads, is sound for threads, and runs as the original does. Theorems cite it.
use Rattle.std.specs.Prelude.{◌≡◌, ℕ, ◌+◌, ◌^◌, ◌<◌, ◌≤◌, true, false, List, ◌∷◌, length, map, Contains, Some, None, is_some, option_to_list, option_map}
use Rattle.std.specs.List.{AllByRecursion, flat_map}
use Rattle.pun_base.specs.Memory.{Bytes}
use Rattle.pun_base.specs.declared.action.Action.{Action}
use Rattle.pun_base.specs.Actions.{IsAction}
use Rattle.pun_base.specs.declared.range.Range.{Range}
use Rattle.length_decode.specs.Spelling.{Fields, IsInstruction, spelling}
use Rattle.cpu_state.specs.Bytes.{Stands}
use Rattle.elf_read.specs.Entries.{entry_of, segments}
use Rattle.elf_read.specs.Image.{image_of}
use Rattle.elf_emit.specs.Job.{Job}
use Rattle.elf_emit.specs.Layout.{count, layout}
use Rattle.elf_emit.specs.Laws.{IsJob, Shows}
use Rattle.address_space.specs.declared.extent.Extent.{Extent}
use Rattle.start_entries.specs.declared.entry.StartEntry.{StartEntry}
use Rattle.start_entries.specs.Entries.{entries_of}
use Rattle.start_entries.specs.Finding.{entry_at}
use Rattle.start_entries.specs.Leading.{Leads}
use Rattle.start_entries.specs.Standing.{AreEntries}
use Rattle.start_entries.specs.Laws.{AreStarts}
use Rattle.sound_images.specs.Reports.{Line}
use Rattle.site_turns.specs.PrivateRange.{taken_first, IsPrivate}
use Rattle.site_turns.specs.States.{Scene, State, memory_at, first_state}
use Rattle.site_turns.specs.Choices.{Choice, IsTurns, state_after}
use Rattle.site_turns.specs.Laws.{five, AreSites, EventsAreNumbered}
use Rattle.site_turns.specs.Folded.{done_by, in_code, IsFolded}
use Rattle.site_turns.specs.Loaded.{AreShown}
use Rattle.site_turns.specs.Jobs.{patch_of, AreTurnsOf}
use Rattle.thread_runs.specs.ThreadCode.{Kind, Marks, Keeps, slot_at, code_if}
use Rattle.trampoline.specs.EventLists.{mark_at, mark_len}
use Rattle.site_turns.specs.Modes.{can_in_threads, IsShared, thread_event_size, thread_event_of}
use Rattle.thread_runs.specs.Theorem.{AreFollowed, GetOut}
use Rattle.thread_runs.specs.Building.{kind_of, event_of, when_of}
use Rattle.thread_runs.specs.TheoremWithDeliveries.{AreFollowedWith, GetOutWith}
use Rattle.thread_runs.specs.Threading.{ThreadSite, Threading, ring_of, IsThreadSound}

-- The scene is one whose turns go by the rules for threads.
pub record IsForThreads (g : Scene) : Type 0 where
  pub event : g.event_size ≡ thread_event_size g.action
  pub can : g.can ≡ can_in_threads

-- The scene of a file whose turns go by the rules for threads, with the events of an action.
abbrev pub thread_scene : Action → List ℕ → List ℕ → List Range → Extent → Scene
thread_scene action file starts reserves private = record {
  image = image_of file;
  segments = segments file;
  entries = entries_of file starts;
  action = action;
  event_size = thread_event_size action;
  can = can_in_threads;
  private = private;
  shut = private ∷ taken_first (segments file) reserves;
}

-- The code of a line for threads, with the event of an action or without, of an instruction with these fields that ends before an address;
-- p is the first address of the private range.
abbrev pub code_of_line : Action → ℕ → Line → Fields → ℕ → List ℕ
code_of_line action p l f next =
    code_if (event_of (thread_event_of action l.tramp.event)) (when_of (thread_event_of action l.tramp.event)) p l.number f next l.tramp.place

-- The site of a line, as threads have it, whose event covers or counts where the action's condition holds, or keeps a ring.
abbrev pub site_with : Action → Line → StartEntry → ThreadSite
site_with action l e = record {
  number = l.number;
  entry = e;
  place = l.tramp.place;
  event = event_of (thread_event_of action l.tramp.event);
  when = when_of (thread_event_of action l.tramp.event);
}

-- It is there where the line's start is listed.
abbrev pub site_of : Action → List StartEntry → Line → List ThreadSite
site_of action es l = option_to_list (option_map (site_with action l) (entry_at es l.tramp.start))

-- What was patched for threads, by the lines that the turns have done.
abbrev pub threading_of : Scene → State → Bytes → ℕ → Threading
threading_of g t patched entry = record {
  original = g.image;
  patched = patched;
  entry = entry;
  listed = g.entries;
  sites = flat_map (site_of g.action g.entries) (done_by t).lines;
  private = g.private.lo;
  ring = ring_of (kind_of g.action);
}

-- A line of the turns, with an event or without: the instruction at its start can be displaced where
-- threads share memory, and shares no byte with another listed one, and one jump leads to its place,
-- or two, of which the second stands at no listed start. One more than its number fits a slot of a ring.
pub record IsThreadLine (g : Scene) (t : State) (l : Line) : Type 0 where
  pub moves : (e : StartEntry) → entry_at g.entries l.tramp.start ≡ Some e → is_some (can_in_threads e) ≡ true
  pub alone : (e : StartEntry) → entry_at g.entries l.tramp.start ≡ Some e → e.shared ≡ false
  pub leads : Leads (memory_at g t) g.entries l.tramp.start l.tramp.place
  pub number : l.number + 1 < 2 ^ 31

-- What events of a kind write to lies between these addresses: the counter or the byte of each line, or the ring, which they share.
abbrev pub HaveRoom : Kind → ℕ → ℕ → List Line → Type 0
HaveRoom (Marks b) lo hi ls = AllByRecursion (λ l. mark_at b lo l.number + mark_len b ≤ hi) ls
HaveRoom (Keeps n) lo hi ls = slot_at lo n ≤ hi

-- What the events of lines write to lies in the private range.
abbrev pub HaveMarks : Scene → List Line → Type 0
HaveMarks g ls = HaveRoom (kind_of g.action) g.private.lo g.private.hi ls

-- P holds of a line's place and code, whatever the line's instruction is.
abbrev pub OfCode : Scene → (ℕ → List ℕ → Type 0) → Line → Type 0
OfCode g P l = (f : Fields) (next : ℕ) → IsInstruction f → Stands g.image l.tramp.start (spelling f) → next ≡ l.tramp.start + length (spelling f)
    → P l.tramp.place (code_of_line g.action g.private.lo l f next)

-- Loaded are memory as it stands, the code of threads at each place, at new addresses, and the
-- private range of zeros.
pub record IsThreadLoaded (g : Scene) (t : State) (patched : Bytes) : Type 0 where
  pub originals : (x : ℕ) → is_some (g.image x) ≡ true → patched x ≡ memory_at g t x
  pub code : AllByRecursion (OfCode g (AreShown patched)) (done_by t).lines
  pub fresh : AllByRecursion (λ l. (x : ℕ) → in_code g x l ≡ true → g.image x ≡ None) (done_by t).lines
  pub zeros : (x : ℕ) → g.private.lo ≤ x → x < g.private.hi → (patched x ≡ Some (record { byte = 0; perms = 6 })) × (g.image x ≡ None)
  pub room : HaveMarks g (done_by t).lines
  pub high : g.private.hi ≤ 0x7FFF0000

-- What the turns for threads have done is sound for threads once it is loaded, where the action can be asked for, and threads can get its events.
abbrev pub FoldedIsThreadSound : Type 0
FoldedIsThreadSound = (g : Scene) (t : State) (patched : Bytes) (entry : ℕ) → AreEntries g.image g.entries → IsAction g.action → IsShared g.action → IsFolded g t → IsForThreads g
    → AllByRecursion (IsThreadLine g t) (done_by t).lines → EventsAreNumbered (done_by t).lines → IsThreadLoaded g t patched → IsThreadSound (threading_of g t patched entry)

-- After the turns of all five schemes one jump or two lead to each line's place, and of two lines with
-- an event the numbers differ.
abbrev pub TurnsForThreads : Type 0
TurnsForThreads = (g : Scene) (sites : List StartEntry) (choices : List Choice) → AreEntries g.image g.entries → IsForThreads g → AreSites g sites
    → IsTurns g five (first_state g) sites choices
    → AllByRecursion (IsThreadLine g (state_after g (first_state g) sites choices)) (done_by (state_after g (first_state g) sites choices)).lines
    × EventsAreNumbered (done_by (state_after g (first_state g) sites choices)).lines

-- The private range has room for what the events of all lines write to.
abbrev pub MarksHaveRoom : Type 0
MarksHaveRoom = (g : Scene) (taken : List Extent) (sites : List StartEntry) (choices : List Choice) → IsPrivate taken g.action (length sites) g.private
    → IsTurns g five (first_state g) sites choices → HaveMarks g (done_by (state_after g (first_state g) sites choices)).lines

-- Once what the turns have done is loaded, the patched guest runs as the original does and counts,
-- covers or keeps a ring, and its threads get out of the trampolines, with deliveries and without.
abbrev pub TurnsAreThreaded : Type 0
TurnsAreThreaded = (g : Scene) (sites : List StartEntry) (choices : List Choice) (patched : Bytes) (entry : ℕ) → AreEntries g.image g.entries → IsAction g.action
    → IsShared g.action → IsForThreads g → AreSites g sites
    → IsTurns g five (first_state g) sites choices → IsThreadLoaded g (state_after g (first_state g) sites choices) patched
    → AreFollowed (threading_of g (state_after g (first_state g) sites choices) patched entry) × GetOut (threading_of g (state_after g (first_state g) sites choices) patched entry)
    × AreFollowedWith (threading_of g (state_after g (first_state g) sites choices) patched entry) × GetOutWith (threading_of g (state_after g (first_state g) sites choices) patched entry)

-- The job writes the original with the runs, the private range, and the code of threads for each line.
pub record IsThreadJobOf (g : Scene) (t : State) (j : Job) : Type 0 where
  pub orig : (x : ℕ) → image_of j.orig x ≡ g.image x
  pub writes : j.writes ≡ map patch_of (done_by t).runs
  pub lo : j.private_lo ≡ g.private.lo
  pub hi : j.private_hi ≡ g.private.hi
  pub pieces : AllByRecursion (OfCode g (λ place code. Contains j.pieces (record { addr = place; now = code }))) (done_by t).lines

-- A map that shows the job of the turns for threads loads what they have done.
abbrev pub ThreadJobLoads : Type 0
ThreadJobLoads = (g : Scene) (t : State) (m : Bytes) (j : Job) → AreEntries g.image g.entries → IsFolded g t → IsForThreads g → AllByRecursion (IsThreadLine g t) (done_by t).lines
    → HaveMarks g (done_by t).lines → IsJob j → Shows j m → IsThreadJobOf g t j → IsThreadLoaded g t m

-- The file that is written for the turns of a file's sites, by all five schemes, runs with any number of threads as the original does, and
-- counts, covers or keeps a ring; it starts where the original does.
pub record IsThreaded (g : Scene) (t : State) (m : Bytes) (j : Job) : Type 0 where
  pub sound : IsThreadSound (threading_of g t m (entry_of j.orig))
  pub followed : AreFollowed (threading_of g t m (entry_of j.orig))
  pub out : GetOut (threading_of g t m (entry_of j.orig))
  -- the same where something is delivered to threads that stand outside
  pub followed_with : AreFollowedWith (threading_of g t m (entry_of j.orig))
  pub out_with : GetOutWith (threading_of g t m (entry_of j.orig))
  pub entry : count j ≤ 1024 → entry_of (layout j) ≡ entry_of j.orig

-- Each memory that shows the job of a file's turns runs with any number of threads as the original
-- does, and counts, covers or keeps a ring.
abbrev pub WrittenIsThreaded : Type 0
WrittenIsThreaded = (action : Action) (low : ℕ) (file starts : List ℕ) (reserves : List Range) (private : Extent) (sites : List StartEntry) (choices : List Choice) (m : Bytes) (j : Job)
    → IsAction action → IsShared action → AreStarts low file starts → AreTurnsOf (thread_scene action file starts reserves private) (taken_first (segments file) reserves) five sites choices
    → IsJob j → Shows j m
    → IsThreadJobOf (thread_scene action file starts reserves private)
    (state_after (thread_scene action file starts reserves private) (first_state (thread_scene action file starts reserves private)) sites choices) j
    → IsThreaded (thread_scene action file starts reserves private)
    (state_after (thread_scene action file starts reserves private) (first_state (thread_scene action file starts reserves private)) sites choices) m j
