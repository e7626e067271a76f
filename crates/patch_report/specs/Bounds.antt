-- The bounds of what a report tells. Theorems cite it.
use Rattle.std.specs.Prelude.{◌≡◌, ℕ, ◌+◌, ◌<◌, ◌≤◌, length, Contains}
use Rattle.pun_base.specs.Actions.{IsAction}
use Rattle.pun_base.specs.declared.tramp.Tramp.{Tramp}
use Rattle.pun_base.specs.Limits.{most_sites}
use Rattle.patch_report.specs.Values.{BodyValue, RowValue, PlanValue, patched}
use Rattle.patch_report.specs.Grammar.{high_end, IsTold}

-- The action can be asked for. The private range has a page at least and ends at the high end at
-- the latest; there are at most 65,536 sites, with numbers below their count; pages and trampolines
-- begin below the high end.
pub record IsBounded (v : BodyValue) : Type 0 where
  pub action : IsAction v.action
  pub range : v.private.0 + 4096 ≤ v.private.1
  pub end : v.private.1 ≤ high_end
  pub sites : length v.rows ≤ most_sites
  pub numbers : (r : RowValue) → Contains v.rows r → r.number < length v.rows
  pub tramps : (r : RowValue) (p : PlanValue) (t : Tramp)
      → Contains v.rows r → r.outcome ≡ patched p → Contains p.tramps t → t.place < high_end
  pub pages : (p : ℕ × ℕ) → Contains v.pages p → p.0 < high_end

-- What a report of any version tells keeps them.
abbrev pub ReportsAreBounded : Type 0
ReportsAreBounded = (v : BodyValue) → IsTold v → IsBounded v
