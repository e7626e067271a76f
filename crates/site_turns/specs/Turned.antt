-- What the steps of a turn ask and answer: finding, applying, taking ranges, building. Contracts of private functions and of `Coding` alone cite it.
use Rattle.std.specs.Prelude.{◌≡◌, ℕ, ◌+◌, ◌<◌, ◌≤◌, ◌↔◌, ◌⊎◌, true, List, [], ◌∷◌, ◌++◌, length, map, reverse, Option, Some, None, is_some, unwrap_or, Contains}
use Rattle.std.specs.List.{AllByRecursion}
use Rattle.pun_base.specs.Actions.{IsAction}
use Rattle.pun_base.specs.declared.tramp.Tramp.{Tramp}
use Rattle.pun_base.specs.declared.range.Range.{Range}
use Rattle.pun_base.specs.declared.scheme.Scheme.{Scheme}
use Rattle.pun_base.specs.declared.outcome.Plan.{Plan}
use Rattle.pun_base.specs.declared.outcome.Outcome.{Outcome}
use Rattle.pun_base.specs.declared.outcome.Outcome.TheVariants.{Patched, NotRelocatable, NoPlan, Shared as SharesBytes}
use Rattle.pun_base.specs.Limits.{most_sites}
use Rattle.elf_read.specs.Refusals.{refusal}
use Rattle.byte_locks.specs.declared.lock.Lock.{Lock}
use Rattle.byte_locks.specs.declared.lock.Lock.TheVariants.{Free}
use Rattle.byte_locks.specs.Locking.{lock_at}
use Rattle.address_space.specs.declared.extent.Extent.{Extent}
use Rattle.address_space.specs.Free.{SpaceState, IsFree, extent_of}
use Rattle.elf_emit.specs.declared.built.Built.{Built}
use Rattle.patch_report.specs.Values.{row_value, Immovable, Unplanned, Shared}
use Rattle.start_entries.specs.declared.entry.StartEntry.{StartEntry}
use Rattle.start_list.specs.declared.turn.Turn.{Turn}
use Rattle.start_entries.specs.Finding.{addresses, entry_at}
use Rattle.start_list.specs.Admissible.{IsAdmissible}
use Rattle.start_list.specs.Plans.{IsPlanOf}
use Rattle.start_entries.specs.Laws.{IsBuilt}
use Rattle.start_list.specs.TurnViews.{TurnView}
use Rattle.start_list.specs.Forms.{Candidate}
use Rattle.trampoline.specs.Events.{event_length}
use Rattle.start_list.specs.Turning.{view_of}
use Rattle.sound_images.specs.Reports.{Line}
use Rattle.sound_images.specs.Rules.{Case}
use Rattle.site_turns.specs.declared.building.EventSetting.{EventSetting}
use Rattle.site_turns.specs.declared.setting.Setting.{Setting}
use Rattle.site_turns.specs.declared.progress.Progress.{Progress}
use Rattle.site_turns.specs.States.{Scene, State, first_state, view_at}
use Rattle.site_turns.specs.Choices.{Choice, Apply, Left, NoneOf, FirstOf, IsChoice, outcome_of, after, IsTurns, state_after}
use Rattle.site_turns.specs.Modes.{event_rules, rules_scene, rules_of, action_of, event_size_of, schemes_of}
use Rattle.site_turns.specs.Folded.{size_from}
use Rattle.site_turns.specs.Laws.{AreSites}
use Rattle.site_turns.specs.Loaded.{case_of}
use Rattle.site_turns.specs.LockedRuns.{runs_changed, runs_punned}
use Rattle.site_turns.specs.Planning.{AreCodesBy, HasFewRuns}

-- The first plan of the first scheme that has one, and None where no scheme has one.
abbrev pub FoundBy : TurnView → StartEntry → List Scheme → Option Plan → Type 0
FoundBy v site ss None = NoneOf v site ss
FoundBy v site ss (Some plan) = (c : Candidate) × FirstOf v site ss c plan

-- What becomes of a site is what the rules give, where these schemes are tried.
abbrev pub IsJudged : List Scheme → TurnView → StartEntry → Outcome → Type 0
IsJudged ss v site (Patched plan) = (c : Candidate) × IsChoice v ss site (Apply c plan)
IsJudged ss v site NotRelocatable = IsChoice v ss site (Left Immovable)
IsJudged ss v site NoPlan = IsChoice v ss site (Left Unplanned)
IsJudged ss v site SharesBytes = IsChoice v ss site (Left Shared)

-- Each byte of an instruction is free.
abbrev pub IsFreeIn : (ℕ → Lock) → StartEntry → Type 0
IsFreeIn lock site = (k : ℕ) → k < site.len → lock (site.addr + k) ≡ Free

-- A turn's starts are those of its file, and the site is one of them, and is free.
pub record IsFreeSite (t : Turn) (site : StartEntry) : Type 0 where
  pub built : IsBuilt t.elf.now.bytes t.starts.now
  pub listed : Contains t.starts.now site
  pub free : IsFreeIn (view_of t).lock site
  pub event : t.event_size ≤ 80

-- The file is accepted, the starts are its own, the private range is laid out for an action that
-- can be asked for, and lies among a program's addresses.
pub record IsSetting (s : Setting) : Type 0 where
  pub accepted : refusal 0x10000 s.elf.now.bytes ≡ None
  pub own : IsBuilt s.elf.now.bytes s.starts.now
  pub action : IsAction (action_of s.mode)
  pub low : s.private.lo < 0x7FFF0000

-- What no turn changes, where these ranges are taken before the first one.
abbrev pub scene_by : Setting → List Extent → Scene
scene_by s shut =
    rules_scene (rules_of s.mode) s.elf.now.bytes s.starts.now (action_of s.mode)
    (extent_of s.private) shut

-- The state that the turns so far have left.
abbrev pub state_of : Progress → State
state_of p = record {
  lock = lock_at p.locks;
  taken = p.space.taken;
  rows = map row_value p.rows.items;
}

-- The same ranges of addresses are free beside both lists of taken ones.
abbrev pub HasSameFree : List Extent → List Extent → Type 0
HasSameFree taken others = (p n : ℕ) → 1 ≤ n → IsFree taken p n ↔ IsFree others p n

-- Two states that no later turn tells apart.
pub record SameState (t u : State) : Type 0 where
  pub lock : t.lock ≡ u.lock
  pub free : HasSameFree t.taken u.taken
  pub rows : t.rows ≡ u.rows

-- A trampoline of the site with a number.
abbrev pub line_at : ℕ → Tramp → Line
line_at number t = record { number = number; tramp = t }

-- How many bytes the code of a trampoline has.
abbrev pub size_at : Setting → Tramp → Option ℕ
size_at s t = size_from (event_size_of s.mode) t.event (entry_at s.starts.now t.start)

-- Two trampolines don't meet.
abbrev pub AreApartOf : Setting → Tramp → Tramp → Type 0
AreApartOf s t u =
    (n m : ℕ) → size_at s t ≡ Some n → size_at s u ≡ Some m
    → (t.place + n ≤ u.place) ⊎ (u.place + m ≤ t.place)

-- There is room for each trampoline of a list, and no two of them meet.
abbrev pub AreRoomy : Setting → List Extent → List Tramp → Type 0
AreRoomy s taken [] = Unit {0}
AreRoomy s taken (t ∷ ts) =
    ((n : ℕ) × (size_at s t ≡ Some n) × (1 ≤ n) × IsFree taken t.place n)
    × AllByRecursion (AreApartOf s t) ts × AreRoomy s taken ts

-- The addresses of a trampoline.
abbrev pub extent_at : Setting → Tramp → Extent
extent_at s t = record { lo = t.place; hi = t.place + unwrap_or (size_at s t) 0 }

-- The ranges of these trampolines can be taken: they are free and apart, and no more memory is wanted.
pub record CanAdd (s : Setting) (space : SpaceState) (tramps : List Tramp) : Type 0 where
  pub roomy : AreRoomy s space.taken tramps
  pub spare : length tramps ≤ space.spare

-- The ranges of these trampolines are taken: what is free now is what was free apart from them.
abbrev pub HasAdded : Setting → List Tramp → SpaceState → SpaceState → Type 0
HasAdded s tramps old new = HasSameFree (map (extent_at s) tramps ++ old.taken) new.taken

-- The plan is that of an admissible candidate at this state.
pub record CanApply (s : Setting) (plan : Plan) (p : Progress) : Type 0 where
  pub site : StartEntry
  pub candidate : Candidate
  pub listed : Contains s.starts.now site
  pub admissible : IsAdmissible (view_at (scene_by s []) (state_of p)) site candidate
  pub told : IsPlanOf (view_at (scene_by s []) (state_of p)) site candidate plan

-- A plan is applied: its written bytes are Changed, its puns Punned, and its trampolines' ranges
-- taken.
pub record HasApplied (s : Setting) (plan : Plan) (p q : Progress) : Type 0 where
  pub lock : lock_at q.locks ≡ runs_punned plan.puns (runs_changed plan.writes (lock_at p.locks))
  pub rows : q.rows ≡ p.rows
  pub few_writes : length plan.writes ≤ 3
  pub few_puns : length plan.puns ≤ 3
  pub added : HasAdded s plan.tramps p.space q.space

-- An outcome can be enacted: its plan can be applied; where the site is left, nothing is to be
-- done.
abbrev pub CanEnact : Setting → Outcome → Progress → Type 0
CanEnact s (Patched plan) p = CanApply s plan p
CanEnact s outcome p = Unit {0}

-- An outcome is enacted: its plan is applied; where the site is left, nothing changes.
abbrev pub HasEnacted : Setting → Outcome → Progress → Progress → Type 0
HasEnacted s (Patched plan) p q = HasApplied s plan p q
HasEnacted s outcome p q = q ≡ p

-- A turn is done: the rules give a choice, and the new state is the one after that choice.
pub record HasTurned (g : Scene) (ss : List Scheme) (site : StartEntry) (number : ℕ)
    (p q : Progress) : Type 0 where
  pub choice : Choice
  pub is : IsChoice (view_at g (state_of p)) ss site choice
  pub same : SameState (after g (state_of p) site number choice) (state_of q)
  pub few : HasFewRuns (outcome_of choice)

-- The private range is taken, and nothing else is done.
pub record HasBegun (taken : List Extent) (private : Range) (p : Progress) : Type 0 where
  pub lock : lock_at p.locks ≡ λ a. Free
  pub free : HasSameFree (extent_of private ∷ taken) p.space.taken
  pub rows : p.rows.items ≡ []

-- All turns are done, the highest site's first.
pub record HasAllTurned (s : Setting) (sites : List ℕ) (taken : List Extent) (p : Progress) : Type
    0 where
  pub entries : List StartEntry
  pub choices : List Choice
  pub addressed : addresses entries ≡ reverse sites
  pub listed : AreSites (scene_by s (extent_of s.private ∷ taken)) entries
  pub turns : IsTurns (scene_by s (extent_of s.private ∷ taken)) (schemes_of s.mode)
      (first_state (scene_by s (extent_of s.private ∷ taken))) entries choices
  pub state : SameState (state_after (scene_by s (extent_of s.private ∷ taken))
      (first_state (scene_by s (extent_of s.private ∷ taken))) entries choices) (state_of p)
  pub few : AllByRecursion (λ r. HasFewRuns r.outcome) (map row_value p.rows.items)

-- What the code of events is made of: the file is accepted, the starts are its own, the action can
-- be asked for, and the private range lies among a program's addresses.
pub record IsEventSetting (s : EventSetting) : Type 0 where
  pub accepted : refusal 0x10000 s.elf.now.bytes ≡ None
  pub own : IsBuilt s.elf.now.bytes s.starts.now
  pub action : IsAction s.action
  pub low : s.private.lo < 0x7FFF0000

-- How many bytes the code of a trampoline has, by a setting of events.
abbrev pub event_size_at : EventSetting → Tramp → Option ℕ
event_size_at s t = size_from (event_length s.action) t.event (entry_at s.starts.now t.start)

-- The case of a scene before any turn.
abbrev pub case_in : Scene → Case
case_in g = case_of g (first_state g) [] g.image 0

-- The case by which the code of events is defined: that of the setting's scene, before any turn.
abbrev pub events_case : EventSetting → Case
events_case s =
    case_in (rules_scene (event_rules s.action) s.elf.now.bytes s.starts.now s.action
    (extent_of s.private) [])

-- A trampoline's code can be made.
pub record CanBuild (s : EventSetting) (l : Line) : Type 0 where
  pub set : IsEventSetting s
  pub number : l.number < most_sites
  pub can : is_some (event_size_at s l.tramp) ≡ true
  pub place : l.tramp.place < 0x7FFF0000

-- The code of these trampolines is appended to what was built.
abbrev pub AddsCodes : (Line → List ℕ → Type 0) → List Line → List Built → List Built → Type 0
AddsCodes C added old new =
    (ls : List Line) → AreCodesBy C ls old → AreCodesBy C (ls ++ added) new
