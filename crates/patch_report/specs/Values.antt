-- What a report tells, as plain values. Theorems cite it.
use Rattle.std.specs.Prelude.{ℕ, List, map, Option, Some, None}
use Rattle.pun_base.specs.declared.action.Action.{Action}
use Rattle.pun_base.specs.declared.scheme.Scheme.{Scheme}
use Rattle.pun_base.specs.declared.tramp.Tramp.{Tramp}
use Rattle.pun_base.specs.declared.pun.Pun.{Pun}
use Rattle.pun_base.specs.declared.plan.Write.{Write}
use Rattle.pun_base.specs.declared.range.Range.{Range}
use Rattle.pun_base.specs.declared.outcome.Plan.{Plan}
use Rattle.pun_base.specs.declared.outcome.Outcome.{Outcome}
use Rattle.pun_base.specs.declared.outcome.Outcome.TheVariants.{Patched, NotRelocatable, NoPlan, Shared as SharesBytes}
use Rattle.pun_base.specs.Ranges.{ends}
use Rattle.patch_report.specs.declared.origin.Origin.{Origin}
use Rattle.patch_report.specs.declared.origin.Version.{Version}
use Rattle.patch_report.specs.declared.origin.Version.TheVariants.{One, Two}
use Rattle.patch_report.specs.declared.row.ReportRow.{ReportRow}

-- Bytes from an address on, before and after.
pub record WriteValue : Type 0 where
  pub addr : ℕ
  pub was : List ℕ
  pub now : List ℕ

-- A write of the code as a value.
abbrev pub write_value : Write → WriteValue
write_value w = record { addr = w.addr; was = w.was; now = w.now }

-- A plan: its scheme, trampolines, written bytes and punned bytes.
pub record PlanValue : Type 0 where
  pub scheme : Scheme
  pub tramps : List Tramp
  pub writes : List WriteValue
  pub puns : List Pun

-- A plan of the code as a value.
abbrev pub plan_value : Plan → PlanValue
plan_value p = record {
  scheme = p.scheme;
  tramps = p.tramps;
  writes =
      map write_value p.writes;
  puns = p.puns;
}

-- Why a site is left: its instruction can't be displaced, no plan is admissible, or its instruction
-- shares bytes with another start's.
pub data Reason : Type 0 where
  Immovable : Reason
  Unplanned : Reason
  Shared : Reason

-- What became of a site.
pub data OutcomeValue : Type 0 where
  patched : PlanValue → OutcomeValue
  left : Reason → OutcomeValue

-- An outcome of the code as a value.
abbrev pub outcome_value : Outcome → OutcomeValue
outcome_value (Patched p) = patched (plan_value p)
outcome_value NotRelocatable = left Immovable
outcome_value NoPlan = left Unplanned
outcome_value SharesBytes = left Shared

-- A row: a site, its number, and what became of it.
pub record RowValue : Type 0 where
  pub site : ℕ
  pub number : ℕ
  pub outcome : OutcomeValue

-- A row of the code as a value.
abbrev pub row_value : ReportRow → RowValue
row_value r = record { site = r.site; number = r.number; outcome = outcome_value r.outcome }

-- What was done: the action, the private range as its ends, rows in turn order, and pages with
-- their groups.
pub record BodyValue : Type 0 where
  pub action : Action
  pub private : ℕ × ℕ
  pub rows : List RowValue
  pub pages : List (ℕ × ℕ)

-- A report: what was done, and what its version tells of the original.
pub record ReportValue : Type 0 where
  pub body : BodyValue
  pub origin : Option Origin

-- The first version tells nothing of the original, the second its origin.
abbrev pub version_in : Option Origin → Version
version_in None = One
version_in (Some origin) = Two

-- What was done, of these parts.
abbrev pub body_of : Action → Range → List ReportRow → List (ℕ × ℕ) → BodyValue
body_of action private rows pages = record
    { action = action; private = ends private; rows = map row_value rows; pages = pages }

-- The report of it that is written, in the second version.
abbrev pub written : BodyValue → Origin → ReportValue
written body origin = record { body = body; origin = Some origin }
