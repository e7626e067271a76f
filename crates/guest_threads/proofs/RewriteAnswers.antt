-- What a call of `rewrite_threads` or `rewrite_threads_reported` knows once the sites are planned, and what its answers then say.
use Rattle.std.proofs.Common.{◌≡◌, ℕ, ◌^◌, ◌<◌, List, map, length, None, Result, Ok, Err, refl, sym, ap, ◌∙◌, subst}
use Rattle.pun_base.specs.Memory.{Bytes}
use Rattle.pun_base.specs.Shown.{DeskState}
use Rattle.pun_base.specs.Actions.{IsAction}
use Rattle.address_space.specs.Free.{extent_of}
use Rattle.page_group.specs.Grouping.{GroupsState}
use Rattle.elf_read.specs.Image.{image_of}
use Rattle.elf_read.specs.Refusals.{refusal}
use Rattle.elf_emit.specs.Layout.{layout}
use Rattle.elf_emit.specs.Laws.{IsJob, Shows}
use Rattle.elf_emit.proofs.JobImages.{file_shows}
use Rattle.patch_report.specs.declared.origin.Origin.{Origin}
use Rattle.patch_report.specs.declared.origin.Version.TheVariants.{Two}
use Rattle.patch_report.specs.Values.{ReportValue, body_of, row_value, written}
use Rattle.patch_report.specs.Grammar.{OriginFits, IsBody, IsReport}
use Rattle.start_entries.specs.declared.entry.StartEntry.{StartEntry}
use Rattle.start_entries.specs.Entries.{entries_of}
use Rattle.start_entries.specs.Refusals.{first_refusal}
use Rattle.start_entries.specs.Laws.{IsBuilt}
use Rattle.site_turns.specs.Modes.{thread_rules, IsShared}
use Rattle.site_turns.specs.PlannedState.{PlannedState}
use Rattle.site_turns.specs.Planning.{Turns, scene_under, end_under}
use Rattle.site_turns.specs.PlanLaws.{AreGroups, CanBeWritten, report_under}
use Rattle.site_turns.proofs.PlannedJobs.{writing_is_job}
use Rattle.site_turns.proofs.CodeEnds.{fitting_end_low}
use Rattle.site_turns.proofs.PlannedReports.{turned_is_report}
use Rattle.site_turns.proofs.LoadedJobs.{five_lead}
use Rattle.rewrite_core.specs.Asked.{Asked, IsInOrder, request_of}
use Rattle.rewrite_core.specs.declared.patching.Patch.{Patch}
use Rattle.rewrite_core.specs.Origins.{origin_of}
use Rattle.rewrite_core.specs.declared.rewrite.RewriteError.{RewriteError}
use Rattle.rewrite_core.specs.declared.rewrite.RewriteError.TheVariants as rewrite
use Rattle.rewrite_core.specs.Patching.{IsCallBy, IsUnwritten, IsWritable, PlansBy, WritesPatch}
use Rattle.rewrite_core.proofs.PlannedCalls.{request_with, told_of, planned_for, unplanned, unwritten, untold}
use Rattle.rewrite_core.proofs.WrittenPlans.{job_pages}
use Rattle.guest_threads.specs.declared.rewriting.ThreadReport.{ThreadReport}
use Rattle.guest_threads.specs.FromTurns.{IsThreaded}
use Rattle.guest_threads.specs.ThreadCalls.{IsSharedPlanned, IsWritten, WritesThreads}
use Rattle.guest_threads.specs.ThreadPlanning.{IsThreadPlanned}
use Rattle.guest_threads.specs.ThreadRewriting.{ThreadJob, job_of, IsThreadJobFor, writing_of, Judges, IsFollowedInThreads, IsRewritten, TellsJob, IsReported, RewritesThreads, ReportsThreads}
use Rattle.guest_threads.proofs.ThreadPlans as plans
use Rattle.guest_threads.proofs.ThreadPlans.{fitting, threaded}

-- what is planned for threads of an accepted file with its entries is planned of the input
pub planned_threads : (a : Asked) (es : List StartEntry) (p : PlannedState) → IsAction a.action → IsShared a.action → IsInOrder a → length a.file < 2 ^ 63
    → refusal 0x20000 a.file ≡ None → es ≡ entries_of a.file a.starts → first_refusal a.file a.starts ≡ None → IsBuilt a.file es
    → (t : Turns) × IsThreadPlanned (request_with a a.file es) t p → (t : Turns) × IsCallBy IsSharedPlanned a t p
planned_threads a es p asked shared o l r e n i x =
    planned_for IsSharedPlanned a es p asked o.few o.bytes l r e n i (x.0, record { shared = shared; planned = x.1 })

-- where nothing is planned, that is the call's answer
pub refused : (a : Asked) (name : List ℕ) (s : DeskState) (error : RewriteError) → PlansBy IsSharedPlanned a (Err error)
    → RewritesThreads a name s s (Err error)
refused a name s error x = unplanned IsThreadJobFor writing_of IsRewritten a name s s IsSharedPlanned error refl x

module _ (a : Asked) (t : Turns) (p : PlannedState) (call : IsCallBy IsSharedPlanned a t p) where
  -- what was planned meets what writing asks
  pub can_write : CanBeWritten (request_of a) p
  can_write = let h = call.planned in plans.writable (request_of a) t p call.asked h.planned

  -- what was planned can be written
  pub writable : IsWritable a.file p
  writable = let h = call.planned in record {
    request = request_of a;
    file_is = refl;
    size = call.size;
    asked = call.asked;
    can = can_write;
    placed = fitting_end_low p.built (fitting (request_of a) t p call.asked h.planned);
  }

  -- the job of the plan, by its groups
  abbrev pub job : GroupsState → ThreadJob
  job groups = job_of (request_of a) t p groups

  -- it is the input's
  pub is_job : (groups : GroupsState) → AreGroups p groups → IsThreadJobFor (request_of a) (job groups)
  is_job groups g = let h = call.planned in
      record { turns = t; planned = p; groups = groups; is_planned = h.planned; are_groups = g; is = refl }

  -- where the plan's file wasn't written, that is an answer
  not_written : (name : List ℕ) (s u : DeskState) (error : RewriteError) → IsUnwritten a.file p name s u error
      → RewritesThreads a name s u (Err error)
  not_written name s u error x =
      unwritten IsThreadJobFor writing_of IsRewritten a name s u call.starts p job is_job (λ groups. refl) error x

  -- what was written, or why nothing was
  pub written_so : (name : List ℕ) (s u : DeskState) (r : Result Patch RewriteError) → WritesPatch a.file p name s u r → WritesThreads a name s u r
  written_so name s u (Ok patch) x = record { turns = t; planned = p; call = call; patch_for = x.0; emitted = x.1 }
  written_so name s u (Err error) x = not_written name s u error x

  -- What is known of the plan, by the groups of its code.
  module _ (groups : GroupsState) (g : AreGroups p groups) where
    -- what is written of its job is a job of writing
    pub writes_job : IsJob (job groups).emit
    writes_job = writing_is_job (request_of a) p groups call.asked can_write g call.size

    -- what is told of the plan is the body of the job's report
    pub told_plan : body_of a.action p.private p.rows groups.homes ≡ report_under (thread_rules a.action) (request_of a) t groups
    told_plan i = record {
      action = a.action;
      private = ((call.planned.planned.turned.private i).lo, (call.planned.planned.turned.private i).hi);
      rows = call.planned.planned.turned.rows i;
      pages = groups.homes;
    }

    -- a report can tell it
    pub plan_report : IsBody Two (body_of a.action p.private p.rows groups.homes)
    plan_report =
        let pages = job_pages (request_of a) p groups writes_job in
        subst (IsBody Two) (sym told_plan)
        (turned_is_report (thread_rules a.action) five_lead (request_of a) t groups.homes call.asked call.action
        call.planned.planned.turned.turns call.planned.planned.turned.few pages.0 pages.1)

    -- the job's report tells the job
    pub tells : (report : ReportValue) → report ≡ (job groups).report → IsReport report → TellsJob a.action (job groups) report
    tells report same told = record {
      told = told;
      action_is = ap (λ (z : ReportValue). z.body.action) same;
      private_is = ap (λ (z : ReportValue). z.body.private) same;
      rows_are = ap (λ (z : ReportValue). z.body.rows) same;
    }

    -- memory that shows the job is sound for threads, and followed
    pub shown_threaded : (m : Bytes) → Shows (job groups).emit m
        → IsThreaded (scene_under (thread_rules a.action) (request_of a) t) (end_under (thread_rules a.action) (request_of a) t) m (job groups).emit
    shown_threaded m shown = threaded (request_of a) t p call.asked call.planned.planned groups call.action call.planned.shared writes_job m shown

-- What is known of a patch that was written.
module _ (a : Asked) (name : List ℕ) (s u : DeskState) (patch : Patch) (w : IsWritten a name s u patch) where
  -- its job
  abbrev written_job : ThreadJob
  written_job = job a w.turns w.planned w.call patch.groups

  -- what was patched begins and ends where the turns' private range does
  same_range : extent_of patch.private ≡ w.turns.private
  same_range = ap extent_of w.patch_for.private ∙ w.call.planned.planned.turned.private

  -- its rows are those of the turns
  same_rows : map row_value patch.rows.items ≡ written_job.rows
  same_rows = ap (map row_value) w.patch_for.rows ∙ w.call.planned.planned.turned.rows

  -- what is told of the patch is what is told of the plan
  same_told : told_of a.action patch ≡ body_of a.action w.planned.private w.planned.rows patch.groups.homes
  same_told i = body_of a.action (w.patch_for.private i) (w.patch_for.rows i) patch.groups.homes

  -- which is the body of the job's report
  told : told_of a.action patch ≡ report_under (thread_rules a.action) (request_of a) w.turns patch.groups
  told = same_told ∙ told_plan a w.turns w.planned w.call patch.groups w.patch_for.groups

  -- a report can tell it
  pub can_report : IsBody Two (told_of a.action patch)
  can_report = subst (IsBody Two) (sym same_told) (plan_report a w.turns w.planned w.call patch.groups w.patch_for.groups)

  -- the input is judged to be its job
  accepted : Judges a (Ok written_job)
  accepted = (w.call.starts, record { is_job = is_job a w.turns w.planned w.call patch.groups w.patch_for.groups; few = w.emitted.0 })

  -- its file follows the original
  followed : IsFollowedInThreads a.action a.file a.starts (layout written_job.emit) written_job.private written_job.rows
  followed =
      let th = shown_threaded a w.turns w.planned w.call patch.groups w.patch_for.groups (image_of (layout written_job.emit))
      (file_shows written_job.emit (writes_job a w.turns w.planned w.call patch.groups w.patch_for.groups) w.emitted.0) in
      record { entry = th.entry w.emitted.0; sound = th.sound; followed = th.followed; out = th.out; followed_with = th.followed_with; out_with = th.out_with }

  -- a report of the private range and the rows is an answer of `rewrite_threads`
  pub rewritten : (report : ThreadReport) → report.private ≡ patch.private → report.rows.items ≡ patch.rows.items → RewritesThreads a name s u (Ok report)
  rewritten report v r = (
    written_job,
    accepted,
    record {
      private_is = ap extent_of v ∙ same_range;
      rows_are = ap (map row_value) r ∙ same_rows;
      holds = w.emitted.1;
      followed = followed;
    },
  )

  -- the report of it is an answer of `rewrite_threads_reported`
  pub reported : (report : ReportValue) (origin : Origin) → origin ≡ origin_of a.file → OriginFits origin
      → report ≡ written (told_of a.action patch) origin → ReportsThreads a name s u (Ok report)
  reported report origin o fits r =
      let same : report ≡ written_job.report = r ∙ (λ i. written (told i) (o i)) in (
        written_job,
        accepted,
        record {
          report_is = same;
          tells = tells a w.turns w.planned w.call patch.groups w.patch_for.groups report same
              (subst IsReport (sym r) (record { origin = fits; body = can_report }));
          holds = w.emitted.1;
          followed = followed;
        },
      )

  -- want of memory after the writing is an answer, too
  pub not_told : ReportsThreads a name s u (Err rewrite.Memory)
  not_told =
      untold IsThreadJobFor writing_of IsReported a name s u w.call.starts w.planned (job a w.turns w.planned w.call)
      (is_job a w.turns w.planned w.call) (λ groups. refl) patch.groups w.patch_for.groups w.emitted
