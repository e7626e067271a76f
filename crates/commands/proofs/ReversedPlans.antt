-- What was planned for a file and written, in either form, is undone by its report.
use Rattle.std.proofs.Common.{◌≡◌, ℕ, ◌+◌, ◌-◌, ◌^◌, ◌<◌, ◌≤◌, true, false, cond, ◌&&◌, nat_le, nat_lt, List, [], ◌∷◌, length, map, flat_map, slice_index, Option, Some, None, option_map, refl, sym, ap, ◌∙◌, subst, arith, eqb-true}
use Rattle.std.specs.List.{AllByRecursion, count_by, list_any}
use Rattle.std.proofs.lemmas.Bool.{le-ltb, true≢false}
use Rattle.std.proofs.lemmas.Bool.Decides.{nat_tests}
use Rattle.pun_base.specs.declared.plan.Write.{Write}
use Rattle.pun_base.specs.Memory.{Cell}
use Rattle.page_group.specs.Grouping.{GroupsState}
use Rattle.elf_emit.specs.Job.{BytesAt}
use Rattle.elf_emit.specs.Layout.{count, frame_of}
use Rattle.elf_emit.specs.Frames as frames
use Rattle.elf_emit.specs.Views as views
use Rattle.elf_emit.proofs.PageRuns.{job_frame}
use Rattle.elf_emit.proofs.FrameAcceptance.{frame_loads}
use Rattle.elf_emit.specs.FrameLaws.{PairsByRecursion}
use Rattle.elf_emit.proofs.StayingSegments.{all_map, all_both, or_false}
use Rattle.patch_report.specs.Values.{WriteValue, RowValue, ReportValue, write_value, row_value, written}
use Rattle.patch_report.specs.Runs.{runs, runs_of, in_run}
use Rattle.sound_images.specs.Rules.{holds_byte}
use Rattle.sound_images.proofs.CountedElements.{count_cons, by_count}
use Rattle.site_turns.specs.States.{Scene}
use Rattle.site_turns.specs.Folded.{Done, Tells as TellsAt, done_by}
use Rattle.site_turns.specs.PlannedState.{PlannedState}
use Rattle.site_turns.specs.Laws.{SchemeLeads}
use Rattle.site_turns.specs.Modes.{TurnRules, event_rules}
use Rattle.site_turns.specs.Planning.{Request, Turns, AreTurnsUnder, IsPlanned, scene_under, end_under}
use Rattle.site_turns.specs.PlanLaws.{IsAsked, AreGroups, CanBeWritten, job_for, writes_of, report_under, planned_report}
use Rattle.site_turns.proofs.LoadedJobs.{five_lead}
use Rattle.site_turns.proofs.RequestScene.{entries_are, folded}
use Rattle.site_turns.proofs.PlannedJobs.{runs_are, planned_can_be_written, planned_is_job, writing_is_job}
use Rattle.rewrite_core.specs.Asked.{request_of}
use Rattle.rewrite_core.specs.Judging.{Job}
use Rattle.rewrite_core.specs.Origins.{origin_of}
use Rattle.rewrite_core.specs.Rewrites.{file_of}
use Rattle.rewrite_core.proofs.OneVerdict.{asked_of}
use Rattle.loader_form.specs.Laid.{loader_frame}
use Rattle.loader_form.proofs.LaidFile.{laid_frame}
use Rattle.loader_form.specs.LoaderState.{LoaderState}
use Rattle.loader_form.specs.Lay.{taken_after, run_count, IsLoader, laid_of}
use Rattle.loader_form.proofs.LaidPages.{laid_for}
use Rattle.unpatch.specs.Laws.{written_of, IsOver, RunsApart, Tells}
use Rattle.commands.specs.Planned.{report_for, IsReversed, FrameIsReversed, PlannedIsTold, PlannedIsReversed, PlannedLoaderIsReversed, JudgedIsReversed}
use Rattle.unpatch.proofs.UndoneFiles.{frame_is_undone}

-- writes as patches, told by a report's runs
patches_are : (ws : List Write) → map views.patch_of ws ≡ map written_of (map write_value ws)
patches_are [] = refl
patches_are (w ∷ ws) = ap (λ (ps : List BytesAt). views.patch_of w ∷ ps) (patches_are ws)

-- the report of what turns by any rules have done tells the writes
pub writes_under : (r : TurnRules) (q : Request) (t : Turns) (p : PlannedState) (groups : GroupsState) → map row_value p.rows ≡ (end_under r q t).rows
    → (job_for q p groups).writes ≡ map written_of (runs (report_under r q t groups))
writes_under r q t p groups rows =
    patches_are (writes_of p.rows)
    ∙ sym (ap (map written_of) (ap (flat_map (λ (x : RowValue). runs_of x.outcome)) (sym rows) ∙ runs_are p.rows))

-- the report of what was planned tells the writes
writes_are : (q : Request) (t : Turns) (p : PlannedState) (groups : GroupsState) → IsPlanned q t p
    → (job_for q p groups).writes ≡ map written_of (runs (planned_report q t groups))
writes_are q t p groups h = writes_under (event_rules q.action) q t p groups h.rows

-- an old byte at its place in a run
byte_is : (o : Option Cell) (b : ℕ) → holds_byte o b ≡ true → option_map (λ c. c.byte) o ≡ Some b
byte_is None b h = absurd (true≢false (sym h))
byte_is (Some c) b h = ap (λ (x : ℕ). Some x) (eqb-true c.byte b h)

was_at : (g : Scene) (d : Done) (w : WriteValue) → ((x : ℕ) → in_run x w ≡ true → TellsAt g d w x) → (k : ℕ) → k < length w.was
    → option_map (λ c. c.byte) (g.image (w.addr + k)) ≡ Some (slice_index w.was k)
was_at g d w h k l =
    let e : w.addr + k - w.addr ≡ k = omega arith in
    byte_is (g.image (w.addr + k)) (slice_index w.was k)
    (subst (λ (j : ℕ). holds_byte (g.image (w.addr + k)) (slice_index w.was j) ≡ true) e (h (w.addr + k) (inside w.addr k (length w.was) l)).was)
  where
    inside : (lo i n : ℕ) → i < n → (nat_le lo (lo + i) && nat_lt (lo + i) (lo + n)) ≡ true
    inside lo i n m = grind (arith, nat_tests)

-- runs of which no address is in two are apart
none_more : (x : ℕ) (w : WriteValue) (ws : List WriteValue) → count_by (in_run x) (w ∷ ws) ≤ 1 → in_run x w ≡ true → list_any (in_run x) ws ≡ false
none_more x w ws c t =
    let n : count_by (in_run x) (w ∷ ws) ≡ 1 + count_by (in_run x) ws = count_cons (in_run x) w ws ∙ ap (λ b. cond b 1 0 + count_by (in_run x) ws) t in
    by_count (in_run x) ws ∙ le-ltb 0 (count_by (in_run x) ws) (omega arith)

from_one : (w : WriteValue) (vs : List WriteValue) → ((x : ℕ) → in_run x w ≡ true → list_any (in_run x) vs ≡ false) → AllByRecursion (RunsApart w) vs
from_one w [] h = tt
from_one w (v ∷ vs) h = (λ x t. (or_false (in_run x v) (list_any (in_run x) vs) (h x t)).0, from_one w vs (λ x t. (or_false (in_run x v) (list_any (in_run x) vs) (h x t)).1))

all_apart : (ws : List WriteValue) → ((x : ℕ) → count_by (in_run x) ws ≤ 1) → PairsByRecursion RunsApart ws
all_apart [] h = tt
all_apart (w ∷ ws) h =
    (from_one w ws (λ x t. none_more x w ws (h x) t), all_apart ws (λ x. (let n = count_cons (in_run x) w ws in let c = h x in omega arith)))

-- the report of what turns by rules whose schemes lead have done tells what the file was, and its runs are over the file and apart
pub told_under : (r : TurnRules) → AllByRecursion SchemeLeads r.schemes → (q : Request) (t : Turns) (groups : GroupsState) → IsAsked q
    → AreTurnsUnder r q t → Tells q.file (written (report_under r q t groups) (origin_of q.file))
told_under r lead q t groups a h =
    let g = scene_under r q t in
    let d = done_by (end_under r q t) in
    let k = (folded r q t h lead (entries_are q a)).kept in
    record {
      origin = refl;
      over = all_map (λ w. (length w.now ≡ length w.was) × ((x : ℕ) → in_run x w ≡ true → TellsAt g d w x)) (IsOver q.file) d.runs
          (λ w z. record { even = z.0; was = was_at g d w z.1 })
          (all_both (λ w. length w.now ≡ length w.was) (λ w. (x : ℕ) → in_run x w ≡ true → TellsAt g d w x) d.runs k.even k.tells);
      apart = all_apart d.runs k.apart;
    }

-- so does the report of what was planned for a file
pub planned_is_told : PlannedIsTold
planned_is_told q t p groups a h = told_under (event_rules q.action) five_lead q t groups a h.turns

-- whatever stands behind the private range, a written file can be loaded, and is undone by a report that tells the original
pub frame_is_reversed : FrameIsReversed
frame_is_reversed f report h few w t = record { loads = (frame_loads f h few).accepted; undone = frame_is_undone f report h few w t }

-- so what `patch` writes of what was planned is undone by its report
pub planned_is_reversed : PlannedIsReversed
planned_is_reversed q t p groups a h G size few =
    let j = job_for q p groups in
    frame_is_reversed (frame_of j) (report_for q t groups) (job_frame j (planned_is_job q t p groups a h G size)) few
    (writes_are q t p groups h) (planned_is_told q t p groups a h)

-- what can be written and was laid is undone by each report that tells the file and what is written
pub loader_is_reversed : (q : Request) (p : PlannedState) (groups : GroupsState) (l : LoaderState) (report : ReportValue) → IsAsked q → CanBeWritten q p
    → AreGroups p groups → length q.file < 2 ^ 63 → IsLoader (taken_after q.file q.reserves p) (run_count groups) l
    → frames.count (loader_frame (job_for q p groups) (laid_of l)) ≤ 1024 → (job_for q p groups).writes ≡ map written_of (runs report.body)
    → Tells q.file report → IsReversed q.file (frames.layout (loader_frame (job_for q p groups) (laid_of l))) report
loader_is_reversed q p groups l report a can G size lay few w t =
    let j = job_for q p groups in
    frame_is_reversed (loader_frame j (laid_of l)) report (laid_frame j (laid_of l) (writing_is_job q p groups a can G size) (laid_for q p groups l G lay)) few w t

-- and what `load` does
pub planned_loader_is_reversed : PlannedLoaderIsReversed
planned_loader_is_reversed q t p groups l a h G size lay few =
    loader_is_reversed q p groups l (report_for q t groups) a (planned_can_be_written q t p a h) G size lay few (writes_are q t p groups h)
    (planned_is_told q t p groups a h)

-- so is the file of each job that an input is judged to be
pub judged_is_reversed : JudgedIsReversed
judged_is_reversed a job order size judged =
    let q = request_of a in
    let j = judged.1.is_job in
    subst (λ (z : Job). IsReversed a.file (file_of z) z.report) (sym j.is)
    (planned_is_reversed q j.turns j.planned j.groups (asked_of a order judged.0) j.is_planned j.are_groups size (subst (λ (z : Job). count z.emit ≤ 1024) j.is judged.1.few))
