-- What a plan adds to what was done, when an addition fits, and that a fitting one keeps the invariant of the turns. Theorems cite it.
use Rattle.std.specs.Prelude.{◌≡◌, ℕ, ◌<◌, ◌≤◌, true, false, List, ◌++◌, length}
use Rattle.std.specs.List.{AllByRecursion, count_by, list_any}
use Rattle.byte_locks.specs.declared.lock.Lock.TheVariants.{Free}
use Rattle.address_space.specs.declared.extent.Extent.{Extent}
use Rattle.patch_report.specs.Values.{WriteValue}
use Rattle.start_list.specs.PlanJumps.{Jump, is_written}
use Rattle.sound_images.specs.Reports.{Line, in_run}
use Rattle.site_turns.specs.States.{Scene, is_taken, lock_after}
use Rattle.site_turns.specs.Folded.{Done, IsLed, Tells, IsOwned, IsKept, in_code, starts_at}

-- The jumps of a plan, its trampolines, its runs of written bytes, and the addresses of its
-- trampolines.
pub record Addition : Type 0 where
  pub jumps : List Jump
  pub lines : List Line
  pub runs : List WriteValue
  pub ranges : List Extent

-- What was done, together with what a plan adds to it.
abbrev pub done_after : Done → Addition → Done
done_after d p = record {
  lock = lock_after d.lock p.jumps;
  taken = p.ranges ++ d.taken;
  lines = d.lines ++ p.lines;
  runs = d.runs ++ p.runs;
}

-- A byte of new code was free before the plan, lies in one of the plan's ranges, and among a
-- program's addresses.
pub record IsRoom (d : Done) (p : Addition) (x : ℕ) : Type 0 where
  pub free : is_taken d.taken x ≡ false
  pub taken : is_taken p.ranges x ≡ true
  pub low : 0x20000 ≤ x
  pub high : x < 0x7FFF0000

-- What a plan adds fits what was done: its written bytes were free, its starts lead to its
-- trampolines, and its code stands apart at free places.
pub record Fits (g : Scene) (d : Done) (p : Addition) : Type 0 where
  -- written bytes were free; the runs tell them, once each, and they lie in instructions that get
  -- trampolines
  pub free : (x : ℕ) → is_written p.jumps x ≡ true → d.lock x ≡ Free
  pub told : (x : ℕ) → list_any (in_run x) p.runs ≡ is_written p.jumps x
  pub tells : AllByRecursion (λ w. (x : ℕ) → in_run x w ≡ true
      → Tells g (done_after d p) w x) p.runs
  pub even : AllByRecursion (λ w. length w.now ≡ length w.was) p.runs
  pub apart : (x : ℕ) → count_by (in_run x) p.runs ≤ 1
  pub owned : (x : ℕ) → is_written p.jumps x ≡ true → IsOwned g p.lines x
  -- each start leads to its trampoline after the writes, and its first byte is written
  pub led : AllByRecursion (IsLed g (done_after d p)) p.lines
  pub begun : AllByRecursion (λ l. is_written p.jumps l.tramp.start ≡ true) p.lines
  pub once : (x : ℕ) → count_by (starts_at x) p.lines ≤ 1
  -- codes stand at free places, and don't meet
  pub room : AllByRecursion (λ l. (x : ℕ) → in_code g x l ≡ true → IsRoom d p x) p.lines
  pub alone : (x : ℕ) → count_by (in_code g x) p.lines ≤ 1

-- An addition that fits keeps the invariant of the turns.
abbrev pub FittingKeeps : Type 0
FittingKeeps = (g : Scene) (d : Done) (p : Addition) → IsKept g d → Fits g d p
    → IsKept g (done_after d p)
