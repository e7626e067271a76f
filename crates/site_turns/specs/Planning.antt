-- What `turn_sites` and `plan_all` answer: the turns of a request, what is planned by them, or why nothing is. Theorems cite it.
use Rattle.std.specs.Prelude.{◌≡◌, ℕ, ◌≤◌, false, if◌then◌else◌, List, [], ◌∷◌, reverse, length, map, Option, Some, None, is_some}
use Rattle.std.specs.List.{AllByRecursion, flat_map}
use Rattle.pun_base.specs.declared.action.Action.{Action}
use Rattle.pun_base.specs.declared.range.Range.{Range}
use Rattle.elf_read.specs.Entries.{segments}
use Rattle.elf_read.specs.Image.{image_of}
use Rattle.address_space.specs.Free.{extent_of}
use Rattle.pun_base.specs.Least.{Least}
use Rattle.address_space.specs.Fit.{FitsPages}
use Rattle.address_space.specs.declared.extent.Extent.{Extent}
use Rattle.elf_emit.specs.declared.built.Built.{Built}
use Rattle.patch_report.specs.declared.row.ReportRow.{ReportRow}
use Rattle.patch_report.specs.Values.{OutcomeValue, patched, left, row_value}
use Rattle.start_entries.specs.declared.entry.StartEntry.{StartEntry}
use Rattle.start_entries.specs.Finding.{addresses, entry_at}
use Rattle.sound_images.specs.Reports.{Line, row_lines, lines}
use Rattle.sound_images.specs.Rules.{Case, HasCode}
use Rattle.site_turns.specs.declared.error.TurnError.{TurnError}
use Rattle.site_turns.specs.declared.error.TurnError.TheVariants.{NotListed, NoPrivate, Memory}
use Rattle.site_turns.specs.PlannedState.{PlannedState}
use Rattle.site_turns.specs.PrivateRange.{taken_first, pages_for}
use Rattle.site_turns.specs.States.{Scene, State, first_state, report_of}
use Rattle.site_turns.specs.Choices.{Choice, state_after}
use Rattle.site_turns.specs.Loaded.{case_of}
use Rattle.site_turns.specs.Jobs.{AreTurnsOf}
use Rattle.site_turns.specs.Modes.{TurnRules, event_rules, rules_scene}

-- What is planned for: a file, its listed entries, the sites in ascending order, the action, and
-- the ranges that are reserved.
pub record Request : Type 0 where
  pub file : List ℕ
  pub listed : List StartEntry
  pub sites : List ℕ
  pub action : Action
  pub reserves : List Range

-- The request of a call.
abbrev pub requested : List ℕ → List StartEntry → List ℕ → Action → List Range → Request
requested file listed sites action reserves =
    record { file = file; listed = listed; sites = sites; action = action; reserves = reserves }

-- The first site that isn't listed.
abbrev pub first_unlisted : List StartEntry → List ℕ → Option ℕ
first_unlisted es [] = None
first_unlisted es (s ∷ ss) = if is_some (entry_at es s) then first_unlisted es ss else Some s

-- What is taken of the address space before the private range is.
abbrev pub taken_at_first : Request → List Extent
taken_at_first q = taken_first (segments q.file) q.reserves

-- How many pages the private range has.
abbrev pub private_pages : Request → ℕ
private_pages q = pages_for q.action (length q.sites)

-- The turns of a request: its sites' entries, the highest first, the private range, and the choice
-- at each turn.
pub record Turns : Type 0 where
  pub entries : List StartEntry
  pub private : Extent
  pub choices : List Choice

-- What none of a request's turns changes, where they go by these rules.
abbrev pub scene_under : TurnRules → Request → Turns → Scene
scene_under r q t =
    rules_scene r q.file q.listed q.action t.private (t.private ∷ taken_at_first q)

-- The state after all turns of a request, where they go by these rules.
abbrev pub end_under : TurnRules → Request → Turns → State
end_under r q t =
    state_after (scene_under r q t) (first_state (scene_under r q t)) t.entries t.choices

-- What none of a request's turns changes, where its sites get the events of its action.
abbrev pub scene_in : Request → Turns → Scene
scene_in q t = scene_under (event_rules q.action) q t

-- The state after all turns of a request, where its sites get the events of its action.
abbrev pub end_of : Request → Turns → State
end_of q t = end_under (event_rules q.action) q t

-- These are the turns that the given rules make of a request.
pub record AreTurnsUnder (r : TurnRules) (q : Request) (t : Turns) : Type 0 where
  pub sites : addresses t.entries ≡ reverse q.sites
  pub turns : AreTurnsOf (scene_under r q t) (taken_at_first q) r.schemes t.entries t.choices

-- These are the turns that the rules of events make of a request.
abbrev pub AreTurns : Request → Turns → Type 0
AreTurns q t = AreTurnsUnder (event_rules q.action) q t

-- The trampolines of rows, in their order.
abbrev pub lines_of : List ReportRow → List Line
lines_of rows = flat_map row_lines (map row_value rows)

-- The code of each trampoline at its place, in this order, where C says what the code of one is.
-- None falls through.
abbrev pub AreCodesBy : (Line → List ℕ → Type 0) → List Line → List Built → Type 0
AreCodesBy C [] [] = Unit {0}
AreCodesBy C [] (b ∷ bs) = ⊥
AreCodesBy C (l ∷ ls) [] = ⊥
AreCodesBy C (l ∷ ls) (b ∷ bs) =
    (b.place ≡ l.tramp.place) × C l b.code.bytes × (b.code.falls ≡ false)
    × AreCodesBy C ls bs

-- The codes of the events of a case.
abbrev pub AreCodes : Case → List Line → List Built → Type 0
AreCodes c = AreCodesBy (HasCode c)

-- A row has at most three runs of written bytes, and three of punned ones.
abbrev pub HasFewRuns : OutcomeValue → Type 0
HasFewRuns (patched p) = (length p.writes ≤ 3) × (length p.puns ≤ 3)
HasFewRuns (left why) = Unit {0}

-- The private range and the rows are those of turns by such rules: a row for each site in turn
-- order.
pub record IsTurned (r : TurnRules) (q : Request) (t : Turns) (range : Range)
    (told : List ReportRow) : Type 0 where
  pub turns : AreTurnsUnder r q t
  pub private : extent_of range ≡ t.private
  pub rows : map row_value told ≡ (end_under r q t).rows
  pub few : AllByRecursion (λ row. HasFewRuns row.outcome) (end_under r q t).rows

-- What was planned is what the turns give: the private range, a row for each site in turn order,
-- and the code of each trampoline in the order of the rows.
pub record IsPlanned (q : Request) (t : Turns) (p : PlannedState) : Type 0 where
  pub turns : AreTurns q t
  pub private : extent_of p.private ≡ t.private
  pub rows : map row_value p.rows ≡ (end_of q t).rows
  pub few : AllByRecursion (λ r. HasFewRuns r.outcome) (end_of q t).rows
  pub built : AreCodes (case_of (scene_in q t) (end_of q t) [] (image_of q.file) 0)
      (lines (report_of (scene_in q t) (end_of q t) [])) p.built

-- Why nothing is planned: the least site that isn't listed, or no free run of so many pages for
-- the private range.
abbrev pub IsRequestRefused : Request → TurnError → Type 0
IsRequestRefused q (NotListed site) = first_unlisted q.listed q.sites ≡ Some site
IsRequestRefused q (NoPrivate pages) =
    (first_unlisted q.listed q.sites ≡ None)
    × (pages ≡ private_pages q)
    × Least (FitsPages (taken_at_first q) (private_pages q)) None
IsRequestRefused q Memory = Unit {0}
