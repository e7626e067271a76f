-- What the headline and the record say, in the reader's words. Theorems cite it.
use Rattle.std.specs.Prelude.{◌≡◌, ℕ, ◌+◌, ◌*◌, ◌%◌, ◌^◌, ◌<◌, ◌≤◌, ◌==◌, Bool, true, if◌then◌else◌, List, [], ◌∷◌, ◌++◌, length, map, filter, slice_index, Some}
use Rattle.std.specs.List.{list_any, count_by}
use Rattle.pun_base.specs.declared.action.Action.TheVariants.{Cover, Count, Ring, When}
use Rattle.pun_base.specs.declared.action.Base.{Base}
use Rattle.pun_base.specs.declared.action.Comparisons.{Comparisons}
use Rattle.pun_base.specs.Actions.{IsAction}
use Rattle.pun_base.specs.Field.{field}
use Rattle.list_text.specs.Words.{always}
use Rattle.cond_action.specs.Conditions.{holds}
use Rattle.insn_form.specs.Machine.{Machine}
use Rattle.insn_form.specs.Runs.{StepRelation, IsRun, last_of}
use Rattle.image_runs.specs.Listed.{is_start}
use Rattle.sound_images.specs.Rewriting.{Rewriting, shown, outside}
use Rattle.trampoline.specs.Events.{Seen, record_of}
use Rattle.sound_images.specs.Events.{due_events, log, passes, record_for, data_of}
use Rattle.image_runs.specs.Quiet.{IsQuiet}
use Rattle.sound_images.specs.Headline.{moments, due_moments, made_at, Follows}

-- How often a number occurs in a list of events.
abbrev pub times : ℕ → List ℕ → ℕ
times i events = count_by (λ e. e == i) events

-- A number occurs in a list of events.
abbrev pub occurs : ℕ → List ℕ → Bool
occurs i events = list_any (λ e. e == i) events

-- The numbers of events.
abbrev pub numbers_of : List Seen → List ℕ
numbers_of events = map (λ e. e.number) events

-- What a patched run us from b says of the original's run ts from a.
pub record Said (r : Rewriting) (a : Machine) (ts : List Machine) (b : Machine)
    (us : List Machine) : Type 0 where
  -- the patched run has an outside state for each state of the original's run
  pub as_many : length (outside r (b ∷ us)) ≡ length ts + 1
  -- the views of these outside states are those of the original's states, one by one
  pub alike : map (shown r) (outside r (b ∷ us)) ≡ map (shown r) (a ∷ ts)
  -- the patched run ends in a state whose view is that of the original's last one
  pub ends_alike : shown r (last_of b us) ≡ shown r (last_of a ts)
  -- the patched run passed the sites' trampolines in the order in which the original executed the
  -- sites
  pub in_order : passes r (b ∷ us) ≡ log r (made_at a ts)
  -- the patched run passed each site's trampoline as often as the original executed the site
  pub as_often : (i : ℕ) → times i (passes r (b ∷ us)) ≡ times i (log r (made_at a ts))
  -- the data part at the patched run's end is the record of these executions
  pub recorded : data_of r (last_of b us) ≡ map Some (record_for r (due_events r (made_at a ts)))

-- A patched run that ends outside and has the original's moments says all of this of the original's
-- run. No step relation is named: `Follows` has these two facts for each.
abbrev pub MomentsSaid : Type 0
MomentsSaid =
    (r : Rewriting) (a : Machine) (ts : List Machine) (b : Machine) (us : List Machine) →
    is_start r.listed (last_of b us).rip ≡ true → moments r [] (b ∷ us) ≡ due_moments r [] (a ∷ ts)
    → Said r a ts b us

-- A patched run that follows the original's has as many outside states, of the same views, with the
-- same end, passes and record.
abbrev pub FollowsSaid : StepRelation → Type 0
FollowsSaid Step =
    (r : Rewriting) (a : Machine) (ts : List Machine) (b : Machine) (us : List Machine) →
    Follows Step r a ts b us → Said r a ts b us

-- A quiet run is a run.
abbrev pub QuietRuns : StepRelation → Type 0
QuietRuns Step =
    (r : Rewriting) (s : Machine) (ts : List Machine) → IsQuiet Step r.listed s ts
    → IsRun Step s ts

-- Under cover the record has the data part's length.
abbrev pub CoverLength : Type 0
CoverLength =
    (r : Rewriting) (events : List Seen) → r.action ≡ Cover
    → length (record_for r events) ≡ r.data_len

-- Under cover byte i of the record is 1 where site i occurs among the events, else 0.
abbrev pub CoverRecord : Type 0
CoverRecord =
    (r : Rewriting) (events : List Seen) (i : ℕ) → r.action ≡ Cover → i < r.data_len →
    slice_index (record_for r events) i ≡ (if occurs i (numbers_of events) then 1 else 0)

-- Under count the eight bytes of site i are the number of its events, modulo 2^64.
abbrev pub CountRecord : Type 0
CountRecord =
    (r : Rewriting) (events : List Seen) (i : ℕ) → r.action ≡ Count → 8 * i + 8 ≤ r.data_len →
    field 8 (8 * i) (record_for r events) ≡ times i (numbers_of events) % 2 ^ 64

-- The number in slot j of a ring.
abbrev pub slot : ℕ → List ℕ → ℕ
slot j bytes = field 4 (4 + 4 * j) bytes

-- A ring of n slots holds the last n events, each in the slot numbered by its place among all
-- events, modulo n.
pub record RingTells (r : Rewriting) (n : ℕ) (events : List Seen) : Type 0 where
  -- the ring's position is the number of events, modulo n
  pub position : field 4 0 (record_for r events) ≡ length events % n
  -- each of the last n events has its number and 1 in its slot
  pub last : (before : List Seen) (e : Seen) (after : List Seen) → events ≡ before ++ e ∷ after
      → length after < n → e.number + 1 < 2 ^ 32
      → slot (length before % n) (record_for r events) ≡ e.number + 1
  -- a slot that no event has reached holds 0
  pub unreached : (j : ℕ) → length events ≤ j → j < n → slot j (record_for r events) ≡ 0

-- Under a ring that can be asked for, the record is that ring, where the data part has room for it.
abbrev pub RingRecord : Type 0
RingRecord =
    (r : Rewriting) (events : List Seen) (n : ℕ) → r.action ≡ Ring n → IsAction (Ring n)
    → 4 + 4 * n ≤ r.data_len → RingTells r n events

-- Under a condition the record is that of the base, over the events whose registers meet the
-- condition.
abbrev pub WhenRecord : Type 0
WhenRecord =
    (r : Rewriting) (events : List Seen) (b : Base) (list : Comparisons) → r.action ≡ When b list →
    record_for r events
    ≡ record_of (always b) r.data_len (filter (λ e. holds list e.regs) events)
