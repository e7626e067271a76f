-- What becomes of each site at its turn, the state after it, and the turns of sites that descend. Theorems cite it.
use Rattle.std.specs.Prelude.{◌≡◌, ◌⊎◌, ℕ, true, List, [], ◌∷◌, length, None, is_some}
use Rattle.pun_base.specs.declared.scheme.Scheme.{Scheme}
use Rattle.pun_base.specs.declared.outcome.Plan.{Plan}
use Rattle.patch_report.specs.Values.{RowValue, Reason, Immovable, Unplanned, Shared, OutcomeValue, patched, left, plan_value}
use Rattle.start_entries.specs.declared.entry.StartEntry.{StartEntry}
use Rattle.start_list.specs.TurnViews.{TurnView}
use Rattle.start_list.specs.Forms.{Candidate, MayBeSite}
use Rattle.start_list.specs.Admissible.{IsFirst}
use Rattle.start_list.specs.Plans.{IsPlanOf, FirstPlan}
use Rattle.site_turns.specs.States.{Scene, State, view_at, applied, passed_over}

-- What is done at a turn: a plan is applied, or the site is left.
pub data Choice : Type 0 where
  Apply : (c : Candidate) (plan : Plan) → Choice
  Left : (why : Reason) → Choice

-- No scheme has an admissible plan.
abbrev pub NoneOf : TurnView → StartEntry → List Scheme → Type 0
NoneOf v site [] = Unit {0}
NoneOf v site (s ∷ ss) = FirstPlan v site s None × NoneOf v site ss

-- The plan is the first of the first scheme that has an admissible one.
abbrev pub FirstOf : TurnView → StartEntry → List Scheme → Candidate → Plan → Type 0
FirstOf v site [] c plan = ⊥
FirstOf v site (s ∷ ss) c plan =
    (IsFirst v site s c × IsPlanOf v site c plan)
    ⊎ (FirstPlan v site s None × FirstOf v site ss c plan)

-- Why the rules leave a site, where these schemes are tried: that it shares bytes comes first.
abbrev pub IsReason : TurnView → List Scheme → StartEntry → Reason → Type 0
IsReason v ss site Shared = site.shared ≡ true
IsReason v ss site Immovable = MayBeSite site × (v.can site ≡ None)
IsReason v ss site Unplanned = MayBeSite site × (is_some (v.can site) ≡ true) × NoneOf v site ss

-- What the rules give at a turn, where these schemes are tried in this order. The site of an admissible plan shares no bytes.
abbrev pub IsChoice : TurnView → List Scheme → StartEntry → Choice → Type 0
IsChoice v ss site (Apply c plan) = (is_some (v.can site) ≡ true) × FirstOf v site ss c plan
IsChoice v ss site (Left why) = IsReason v ss site why

-- The outcome of a choice, as a report tells it.
abbrev pub outcome_of : Choice → OutcomeValue
outcome_of (Apply c plan) = patched (plan_value plan)
outcome_of (Left why) = left why

-- The row of a site with a number.
abbrev pub row_of : StartEntry → ℕ → Choice → RowValue
row_of site number x = record { site = site.addr; number = number; outcome = outcome_of x }

-- The state after the turn of the site with a number.
abbrev pub after : Scene → State → StartEntry → ℕ → Choice → State
after g t site n (Apply c plan) = applied g t site c (row_of site n (Apply c plan))
after g t site n (Left why) = passed_over t (row_of site n (Left why))

-- The rules give these choices at the turns of sites that descend; a site's number is how many
-- sites lie below it.
abbrev pub IsTurns : Scene → List Scheme → State → List StartEntry → List Choice → Type 0
IsTurns g ss t [] [] = Unit {0}
IsTurns g ss t [] (x ∷ xs) = ⊥
IsTurns g ss t (e ∷ es) [] = ⊥
IsTurns g ss t (e ∷ es) (x ∷ xs) =
    IsChoice (view_at g t) ss e x × IsTurns g ss (after g t e (length es) x) es xs

-- The state after the turns of sites that descend, with these choices.
abbrev pub state_after : Scene → State → List StartEntry → List Choice → State
state_after g t [] xs = t
state_after g t (e ∷ es) [] = t
state_after g t (e ∷ es) (x ∷ xs) = state_after g (after g t e (length es) x) es xs
