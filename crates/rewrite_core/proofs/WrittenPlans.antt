-- What was planned can be told and written, and the written file follows the original.
use Rattle.std.proofs.Common.{◌≡◌, ℕ, ◌+◌, ◌^◌, ◌≤◌, ◌<◌, List, [], ◌∷◌, length, sym, subst, arith}
use Rattle.std.specs.List.{AllByRecursion}
use Rattle.pun_base.specs.Actions.{IsAction}
use Rattle.page_group.specs.Pages.{AreDisjoint}
use Rattle.page_group.specs.Grouping.{GroupsState, group_count}
use Rattle.elf_emit.specs.Job.{BytesAt}
use Rattle.elf_emit.specs.Layout.{count, layout}
use Rattle.elf_emit.specs.Laws.{PairsByRecursion, PagesApart, IsPage, IsJob}
use Rattle.elf_emit.specs.Emits.{page_of_home, pages_of}
use Rattle.elf_emit.proofs.JobConditions.{CanEmit}
use Rattle.patch_report.specs.declared.origin.Version.TheVariants.{Two}
use Rattle.patch_report.specs.Grammar.{IsBody, AscendFrom, OriginFits}
use Rattle.patch_report.specs.Values.{body_of, written}
use Rattle.sound_images.specs.Rules.{Case, IsSound}
use Rattle.sound_images.specs.Soundness as soundness
use Rattle.site_turns.specs.PlannedState.{PlannedState}
use Rattle.site_turns.specs.Planning.{Request, Turns, IsPlanned}
use Rattle.site_turns.specs.PlanLaws.{IsAsked, IsReportPage, AreGroups, CanBeWritten, writes_of, job_for, planned_report}
use Rattle.site_turns.proofs.PlannedReports.{planned_is_report}
use Rattle.site_turns.proofs.PlannedJobs.{planned_is_job}
use Rattle.site_turns.proofs.PlannedFiles.{planned_is_written_well}
use Rattle.rewrite_core.specs.Asked.{Asked, request_of}
use Rattle.rewrite_core.specs.Followed.{case_for, IsFollowed}
use Rattle.rewrite_core.specs.Origins.{origin_of}

-- pages of a job are pages that a report tells
told_pages : (lo hi n : ℕ) (homes : List (ℕ × ℕ)) → n < 2 ^ 32 → AllByRecursion (IsPage lo hi n) (pages_of homes)
    → AllByRecursion IsReportPage homes
told_pages lo hi n [] few h = tt
told_pages lo hi n (x ∷ xs) few h =
    (record { whole = h.0.whole; low = omega (arith, h.0.high); group = omega (arith, h.0.shown) }, told_pages lo hi n xs few h.1)

-- the pages after a page are above it
later_pages : (pieces : List BytesAt) (x : ℕ × ℕ) (xs : List (ℕ × ℕ)) → AllByRecursion (PagesApart pieces (page_of_home x)) (pages_of xs)
    → AllByRecursion (λ (y : ℕ × ℕ). x.0 + 1 ≤ y.0) xs
later_pages pieces x [] h = tt
later_pages pieces x (y ∷ ys) h = (omega (arith, h.0.ascend), later_pages pieces x ys h.1)

-- pages that lie apart in order ascend
ascending : (pieces : List BytesAt) (low : ℕ) (homes : List (ℕ × ℕ)) → AllByRecursion (λ (x : ℕ × ℕ). low ≤ x.0) homes
    → PairsByRecursion (PagesApart pieces) (pages_of homes) → AscendFrom low homes
ascending pieces low [] l h = tt
ascending pieces low (x ∷ xs) l h = (l.0, ascending pieces (x.0 + 1) xs (later_pages pieces x xs h.0) h.1)

-- no page is below 0
none_below : (homes : List (ℕ × ℕ)) → AllByRecursion (λ (x : ℕ × ℕ). 0 ≤ x.0) homes
none_below [] = tt
none_below (x ∷ xs) = (omega arith, none_below xs)

-- the pages of a job's groups are pages that a report tells, and ascend
pub job_pages : (q : Request) (p : PlannedState) (groups : GroupsState) → IsJob (job_for q p groups)
    → AllByRecursion IsReportPage groups.homes × AscendFrom 0 groups.homes
job_pages q p groups j = (
  told_pages p.private.lo p.private.hi (group_count groups.homes) groups.homes j.few_groups j.pages,
  ascending (job_for q p groups).pieces 0 groups.homes (none_below groups.homes) j.pages_apart,
)

-- what can be written of a file meets what `emit` asks
pub emit_asked : (q : Request) (p : PlannedState) (groups : GroupsState) → length q.file < 2 ^ 63 → IsAsked q → CanBeWritten q p → AreGroups p groups
    → CanEmit q.file (writes_of p.rows) p.built groups p.private.lo p.private.hi
emit_asked q p groups size asked w g = record {
  bytes = asked.bytes;
  size = size;
  original = asked.accepted;
  backed = w.backed;
  groups_of = record { pieces = g.0; disjoint = subst AreDisjoint (sym g.0) w.disjoint };
  grouping = g.1;
  private = w.private;
  free = w.free groups g;
  nothing_there = w.nothing groups g;
}

module _ (q : Request) (t : Turns) (p : PlannedState) (size : length q.file < 2 ^ 63) (asked : IsAsked q) (planned : IsPlanned q t p) where
  -- the report of the code's values is that of the turns
  pub report_is : (groups : GroupsState) → body_of q.action p.private p.rows groups.homes ≡ planned_report q t groups
  report_is groups i = record {
    action = q.action;
    private = ((planned.private i).lo, (planned.private i).hi);
    rows = planned.rows i;
    pages = groups.homes;
  }

  -- which a report tells
  pub is_report : (groups : GroupsState) → IsAction q.action → AreGroups p groups
      → IsBody Two (body_of q.action p.private p.rows groups.homes)
  is_report groups action g =
      let pages = job_pages q p groups (planned_is_job q t p groups asked planned g size) in
      subst (IsBody Two) (sym (report_is groups)) (planned_is_report q t p groups.homes asked action planned pages.0 pages.1)

-- the written file follows the original
pub file_followed : (a : Asked) (t : Turns) (p : PlannedState) (groups : GroupsState) → length a.file < 2 ^ 63 → IsAsked (request_of a)
    → IsAction a.action → IsPlanned (request_of a) t p → AreGroups p groups → count (job_for (request_of a) p groups) ≤ 1024
    → OriginFits (origin_of a.file)
    → IsFollowed a.file a.starts (layout (job_for (request_of a) p groups))
    (written (planned_report (request_of a) t groups) (origin_of a.file))
unfolding soundness.IsCaseFollowed
file_followed a t p groups size asked action planned g few fits =
    let q : Request = request_of a in
    let w = planned_is_written_well q t p groups asked action planned g (planned_is_job q t p groups asked planned g size) few in
    let checked : Case = case_for a.file a.starts (layout (job_for q p groups)) (written (planned_report q t groups) (origin_of a.file)) in
    record {
      told = record { origin = fits; body = w.shown.report };
      entry = w.entry;
      sound = subst (λ (x : ℕ). IsSound (record checked { patched_entry = x })) (sym w.entry) w.shown.sound;
      headline = w.shown.followed.1;
    }
