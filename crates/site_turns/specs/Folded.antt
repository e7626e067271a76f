-- What each turn keeps of what was done: of locks, runs of written bytes, trampolines, codes and rows. Theorems cite it.
use Rattle.std.specs.Prelude.{◌≡◌, ℕ, ◌+◌, ◌-◌, ◌^◌, ◌<◌, ◌≤◌, Bool, true, false, ◌==◌, if◌then◌else◌, List, [], ◌∷◌, length, slice_index, Option, Some, None, is_some, unwrap_or, option_map, Contains}
use Rattle.std.specs.List.{AllByRecursion, count_by, list_any, flat_map}
use Rattle.pun_base.specs.Ranges.{is_within}
use Rattle.pun_base.specs.Memory.{Bytes}
use Rattle.cpu_state.specs.Fixed.{IsFixed}
use Rattle.byte_locks.specs.declared.lock.Lock.{Lock}
use Rattle.byte_locks.specs.declared.lock.Lock.TheVariants.{Free, Punned, Changed}
use Rattle.address_space.specs.declared.extent.Extent.{Extent}
use Rattle.patch_report.specs.Values.{RowValue, WriteValue}
use Rattle.start_entries.specs.declared.entry.StartEntry.{StartEntry}
use Rattle.start_entries.specs.Finding.{entry_at}
use Rattle.start_entries.specs.Leading.{Leads}
use Rattle.start_entries.specs.Standing.{IsOnlyIn}
use Rattle.start_list.specs.TurnViews.{cell_by}
use Rattle.start_list.specs.PlanJumps.{Jump}
use Rattle.start_list.specs.Forms.{work_length}
use Rattle.sound_images.specs.Reports.{Line, row_lines, runs_of, in_run, tramps_of}
use Rattle.sound_images.specs.Rules.{holds_byte, is_own, displaced_at}
use Rattle.site_turns.specs.States.{Scene, State, is_taken}

-- A byte is locked where it is punned or changed.
abbrev pub is_locked : Lock → Bool
is_locked Free = false
is_locked Punned = true
is_locked (Changed value) = true

-- What the turns so far have done: the locks, what is taken, the trampolines and the runs of
-- written bytes.
pub record Done : Type 0 where
  pub lock : ℕ → Lock
  pub taken : List Extent
  pub lines : List Line
  pub runs : List WriteValue

-- What was done, as a state after turns tells it.
abbrev pub done_by : State → Done
done_by t = record {
  lock = t.lock;
  taken = t.taken;
  lines = flat_map row_lines t.rows;
  runs = flat_map (λ r. runs_of r.outcome) t.rows;
}

-- Memory as it stands: the original's image with the changed bytes.
abbrev pub memory_in : Scene → Done → Bytes
memory_in g d x = cell_by (d.lock x) (g.image x)

-- An address is in a run.
abbrev pub in_runs : Done → ℕ → Bool
in_runs d x = list_any (in_run x) d.runs

-- An address is the start of a trampoline.
abbrev pub starts_at : ℕ → Line → Bool
starts_at x l = l.tramp.start == x

-- How many bytes the code of a trampoline has, by the listed instruction at its start.
abbrev pub size_from : ℕ → Bool → Option StartEntry → Option ℕ
size_from size event None = None
size_from size event (Some e) =
    option_map (λ n. (if event then size else 0) + n) (work_length e)

-- How many bytes the code of a trampoline of a scene has.
abbrev pub code_size : Scene → Line → Option ℕ
code_size g l = size_from g.event_size l.tramp.event (entry_at g.entries l.tramp.start)

-- An address is one of a trampoline's code.
abbrev pub in_code : Scene → ℕ → Line → Bool
in_code g x l = is_within l.tramp.place (unwrap_or (code_size g l) 0) x

-- The bytes of a jump stand in memory, and each of them is locked.
pub record IsHeld (g : Scene) (d : Done) (j : Jump) : Type 0 where
  pub low : j.at + length j.bytes < 2 ^ 64
  pub stands : IsFixed (memory_in g d) j.at j.bytes
  pub locked : (x : ℕ) → is_within j.at (length j.bytes) x ≡ true → is_locked (d.lock x) ≡ true

-- In each memory in which these jumps stand the start leads to the place.
abbrev pub LeadBy : List StartEntry → List Jump → ℕ → ℕ → Type 0
LeadBy es js start place =
    (m : Bytes) → AllByRecursion (λ j. IsFixed m j.at j.bytes) js → Leads m es start place

-- A trampoline's start leads to it by jumps that are held, its first byte is locked, and it can be
-- displaced.
pub record IsLed (g : Scene) (d : Done) (l : Line) : Type 0 where
  pub jumps : List Jump
  pub held : AllByRecursion (IsHeld g d) jumps
  pub leads : LeadBy g.entries jumps l.tramp.start l.tramp.place
  pub begun : is_locked (d.lock l.tramp.start) ≡ true
  pub displaced : is_some (displaced_at g.entries l.tramp.start) ≡ true

-- A run tells the byte of the original, and the one that stands.
pub record Tells (g : Scene) (d : Done) (w : WriteValue) (x : ℕ) : Type 0 where
  pub was : holds_byte (g.image x) (slice_index w.was (x - w.addr)) ≡ true
  pub now : holds_byte (memory_in g d x) (slice_index w.now (x - w.addr)) ≡ true

-- The byte belongs to exactly one listed instruction, and one of these trampolines is that instruction's.
pub record IsOwned (g : Scene) (ls : List Line) (x : ℕ) : Type 0 where
  pub entry : StartEntry
  pub listed : Contains g.entries entry
  pub low : entry.addr ≤ x
  pub high : x < entry.addr + entry.len
  pub alone : IsOnlyIn g.entries entry x
  pub starts : list_any (starts_at entry.addr) ls ≡ true

-- A byte of code is taken, was not before the first turn, and lies among a program's addresses.
pub record IsNewlyTaken (g : Scene) (d : Done) (x : ℕ) : Type 0 where
  pub taken : is_taken d.taken x ≡ true
  pub new : is_taken g.shut x ≡ false
  pub low : 0x20000 ≤ x
  pub high : x < 0x7FFF0000

-- What each turn keeps of locks, written runs, trampolines and taken ranges.
pub record IsKept (g : Scene) (d : Done) : Type 0 where
  -- bytes of no run are the original's
  pub others : (x : ℕ) → in_runs d x ≡ false → memory_in g d x ≡ g.image x
  -- runs are locked, tell as many old as new bytes, don't meet, and lie in instructions with
  -- trampolines
  pub locked : (x : ℕ) → in_runs d x ≡ true → is_locked (d.lock x) ≡ true
  pub tells : AllByRecursion (λ w. (x : ℕ) → in_run x w ≡ true → Tells g d w x) d.runs
  pub even : AllByRecursion (λ w. length w.now ≡ length w.was) d.runs
  pub apart : (x : ℕ) → count_by (in_run x) d.runs ≤ 1
  pub owned : (x : ℕ) → in_runs d x ≡ true → IsOwned g d.lines x
  -- each start has one trampoline, to which it leads
  pub led : AllByRecursion (IsLed g d) d.lines
  pub once : (x : ℕ) → count_by (starts_at x) d.lines ≤ 1
  -- codes are taken, and don't meet
  pub taken : AllByRecursion (λ l. (x : ℕ) → in_code g x l ≡ true → IsNewlyTaken g d x) d.lines
  pub alone : (x : ℕ) → count_by (in_code g x) d.lines ≤ 1
  -- what was taken before the first turn stays so
  pub shut : (x : ℕ) → is_taken g.shut x ≡ true → is_taken d.taken x ≡ true

-- A row's site is listed, and its first trampoline, alone with an event, is the site's.
pub record IsRowOf (es : List StartEntry) (r : RowValue) : Type 0 where
  pub listed : is_some (entry_at es r.site) ≡ true
  pub own : is_own r.site (tramps_of r.outcome) ≡ true

-- Each row's site is below those before it.
abbrev pub Descend : List RowValue → Type 0
Descend [] = Unit {0}
Descend (r ∷ rs) = AllByRecursion (λ s. s.site < r.site) rs × Descend rs

-- The invariant of the turns, which holds after each of them: what each keeps of what was done, and
-- rows of listed sites that descend.
pub record IsFolded (g : Scene) (t : State) : Type 0 where
  pub kept : IsKept g (done_by t)
  pub rows : AllByRecursion (IsRowOf g.entries) t.rows
  pub descend : Descend t.rows
