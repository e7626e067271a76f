-- Where the stub and the save page are laid: at the least free pages after the turns. Theorems cite it.
use Rattle.std.specs.Prelude.{◌≡◌, ◌⊎◌, ◌↔◌, ℕ, ◌+◌, ◌*◌, ◌≤◌, ◌<◌, List, ◌∷◌, ◌++◌, length, map, Some, None, Result, Ok, Err}
use Rattle.std.specs.Int.{div_ceil}
use Rattle.std.specs.List.{AllByRecursion}
use Rattle.pun_base.specs.declared.range.Range.{Range}
use Rattle.elf_read.specs.Entries.{segments}
use Rattle.address_space.specs.declared.extent.Extent.{Extent}
use Rattle.address_space.specs.Free.{extent_of}
use Rattle.pun_base.specs.Least.{Least}
use Rattle.address_space.specs.Fit.{FitsPages}
use Rattle.page_group.specs.Grouping.{GroupsState}
use Rattle.elf_emit.specs.declared.built.Built.{Built}
use Rattle.elf_emit.specs.Emits.{pages_of}
use Rattle.elf_emit.specs.Layout.{runs_of}
use Rattle.site_turns.specs.PlannedState.{EndsLow, PlannedState}
use Rattle.site_turns.specs.PrivateRange.{taken_first}
use Rattle.site_turns.specs.Planning.{Request, Turns, IsPlanned}
use Rattle.site_turns.specs.PlanLaws.{IsAsked, job_for, AreGroups}
use Rattle.loader_form.specs.declared.error.LoadError.{LoadError}
use Rattle.loader_form.specs.declared.error.LoadError.TheVariants as load
use Rattle.loader_form.specs.LoaderState.{LoaderState}
use Rattle.loader_form.specs.Laid.{Laid, IsLaid}

-- The addresses of a trampoline's code.
abbrev pub code_extent : Built → Extent
code_extent b = record { lo = b.place; hi = b.place + length b.code.bytes }

-- What is taken after the turns: the private range, the code, where the original is loaded, and what is reserved.
abbrev pub taken_after : List ℕ → List Range → PlannedState → List Extent
taken_after file reserves p = extent_of p.private ∷ (map code_extent p.built ++ taken_first (segments file) reserves)

-- How many runs the pages for code have.
abbrev pub run_count : GroupsState → ℕ
run_count groups = length (runs_of (pages_of groups.homes))

-- How many pages hold the stub for so many runs: 4,096 bytes of code, 16 of text and 16 a run.
abbrev pub stub_count : ℕ → ℕ
stub_count runs = div_ceil (4112 + 16 * runs) 4096

-- Beside two lists of taken ranges pages fit at the same places.
abbrev pub FitSame : List Extent → List Extent → Type 0
FitSame taken others = (n t : ℕ) → 1 ≤ n → FitsPages taken n t ↔ FitsPages others n t

-- The stub is laid at the least free pages that hold it for so many runs, and the save page at the
-- least free page that is then left.
pub record IsLoader (taken : List Extent) (count : ℕ) (l : LoaderState) : Type 0 where
  pub runs : l.runs ≡ count
  pub few : count ≤ 65535
  pub stub : Least (FitsPages taken (stub_count count)) (Some l.stub.lo)
  pub stub_size : l.stub.hi ≡ l.stub.lo + 4096 * stub_count count
  pub save : Least (FitsPages (extent_of l.stub ∷ taken) 1) (Some l.save.lo)
  pub save_size : l.save.hi ≡ l.save.lo + 4096

-- No free pages are left for the stub, or no free page for the save page once the stub is laid.
abbrev pub HasNoPlace : List Extent → ℕ → Type 0
HasNoPlace taken pages =
    Least (FitsPages taken pages) None
    ⊎ ((at : ℕ) × Least (FitsPages taken pages) (Some at)
    × Least (FitsPages (record { lo = at; hi = at + 4096 * pages } ∷ taken) 1) None)

-- What `lay` answers. That there are more than 65,535 runs is judged before places are.
abbrev pub Lays : List Extent → ℕ → Result LoaderState LoadError → Type 0
Lays taken runs (Ok l) = IsLoader taken runs l
Lays taken runs (Err (load.TooManyRuns n)) = (n ≡ runs) × (65535 < runs)
Lays taken runs (Err (load.NoLoader pages)) = (runs ≤ 65535) × (pages ≡ stub_count runs) × HasNoPlace taken pages
Lays taken runs (Err load.Memory) = Unit {0}

-- Where stub and save page stand.
abbrev pub laid_of : LoaderState → Laid
laid_of l = record { at = l.stub.lo; pages = stub_count l.runs; save = l.save.lo }

-- Each trampoline's code that was planned has bytes, and ends among addresses of 32 bits.
abbrev pub PlannedEndsLow : Type 0
PlannedEndsLow = (q : Request) (t : Turns) (p : PlannedState) → IsAsked q → IsPlanned q t p → AllByRecursion EndsLow p.built

-- The stub's pages and the save page, laid at the least free pages after the turns, meet nothing, whatever was planned.
abbrev pub LaidForIsLaid : Type 0
LaidForIsLaid =
    (q : Request) (p : PlannedState) (groups : GroupsState) (l : LoaderState) → AreGroups p groups
    → IsLoader (taken_after q.file q.reserves p) (run_count groups) l → IsLaid (job_for q p groups) (laid_of l)
