-- What a call of a rewriting into the loader form knows once the sites are planned, and what its answers then say.
use Rattle.std.proofs.Common.{◌≡◌, inl, inr, ℕ, ◌≤◌, List, [], ◌∷◌, ◌++◌, map, Result, Ok, Err, refl, sym, ap, ◌∙◌, subst}
use Rattle.pun_base.specs.Shown.{DeskState}
use Rattle.pun_base.specs.declared.action.Action.{Action}
use Rattle.address_space.specs.declared.extent.Extent.{Extent}
use Rattle.address_space.specs.Free.{extent_of}
use Rattle.page_group.specs.Grouping.{GroupsState}
use Rattle.elf_read.specs.Entries.{segments}
use Rattle.elf_emit.specs.Job as written_job
use Rattle.elf_emit.specs.Frames as frames
use Rattle.elf_emit.specs.declared.built.Built.{Built}
use Rattle.elf_emit.specs.declared.emit.EmitError.{EmitError}
use Rattle.elf_emit.specs.declared.emit.EmitError.TheVariants as emit
use Rattle.elf_emit.specs.Emits.{EmitsFrame}
use Rattle.elf_emit.specs.Views.{piece_of}
use Rattle.patch_report.specs.declared.origin.Origin.{Origin}
use Rattle.patch_report.specs.declared.origin.Version.TheVariants.{Two}
use Rattle.patch_report.specs.Values.{BodyValue, ReportValue, body_of, written}
use Rattle.patch_report.specs.Grammar.{IsBody, OriginFits}
use Rattle.sound_images.specs.Soundness as soundness
use Rattle.site_turns.specs.PlannedState.{PlannedState}
use Rattle.site_turns.specs.PrivateRange.{taken_first}
use Rattle.site_turns.specs.Planning.{Request, Turns}
use Rattle.site_turns.specs.PlanLaws.{AreGroups, job_for}
use Rattle.rewrite_core.specs.declared.rewrite.RewriteError.{RewriteError}
use Rattle.rewrite_core.specs.declared.rewrite.RewriteError.TheVariants as rewrite
use Rattle.rewrite_core.specs.Asked.{Asked, request_of}
use Rattle.rewrite_core.specs.Causes.{emit_error}
use Rattle.rewrite_core.specs.Judging.{HasStarts, IsJobFor, Job, job_of, writing_of}
use Rattle.rewrite_core.specs.Origins.{origin_of}
use Rattle.rewrite_core.specs.Patching.{IsCall, PlansBy}
use Rattle.rewrite_core.proofs.PlannedCalls.{written_whole}
use Rattle.rewrite_core.proofs.WrittenPlans.{report_is, is_report}
use Rattle.loader_form.specs.declared.error.LoadError.{LoadError}
use Rattle.loader_form.specs.declared.error.LoadError.TheVariants as load
use Rattle.loader_form.specs.LoaderState.{LoaderState}
use Rattle.loader_form.specs.Laid.{loader_frame}
use Rattle.loader_form.specs.Lay as lay
use Rattle.loader_form.specs.Lay.{code_extent, taken_after, Lays, laid_of}
use Rattle.loader_form.proofs.PlannedLoader.{planned_loader_followed}
use Rattle.rewrite_loader.specs.declared.error.LoaderError.{LoaderError}
use Rattle.rewrite_loader.specs.declared.error.LoaderError.TheVariants.{Rewrite}
use Rattle.rewrite_loader.specs.declared.writing.Loaded.{Loaded}
use Rattle.rewrite_loader.specs.Causes.{load_error}
use Rattle.rewrite_loader.specs.Judging.{LaidJob, file_by, extent_at, taken_by, run_count, with_loader, JudgesLoaderBy}
use Rattle.rewrite_loader.specs.Writing.{IsLaidBeside, EmitsLaid, IsLoadedPlan, WritesLoader}
use Rattle.rewrite_loader.specs.Followed.{IsLoaderFollowed}
use Rattle.rewrite_loader.specs.Rewrites.{LoadsBy, IsRewritten, Rewrites}

-- the addresses of code, by its bytes
extents_told : (bs : List Built) → map code_extent bs ≡ map extent_at (map piece_of bs)
extents_told [] = refl
extents_told (b ∷ bs) = ap (λ (es : List Extent). code_extent b ∷ es) (extents_told bs)

-- what is taken after the turns is what is taken by the job of what was planned
pub taken_told : (q : Request) (p : PlannedState) (groups : GroupsState) → taken_after q.file q.reserves p ≡ taken_by (job_for q p groups) q.reserves
taken_told q p groups =
    ap (λ (es : List Extent). extent_of p.private ∷ (es ++ taken_first (segments q.file) q.reserves)) (extents_told p.built)

-- ---- what the answers of any rewriting into the loader form say

module _ {J R : Type 0} (IsJob : Request → J → Type 0) (writing : J → written_job.Job)
    (Is : Asked → List ℕ → DeskState → DeskState → R → LaidJob J → Type 0) (a : Asked) (name : List ℕ) (s u : DeskState) where
  -- what an answer says
  abbrev Says : Result R LoaderError → Type 0
  Says = LoadsBy (JudgesLoaderBy IsJob writing) (file_by writing) Is a name s u

  -- where nothing was planned, the input is refused, or memory ran out
  pub unplanned : (Plan : Request → Turns → PlannedState → Type 0) (error : RewriteError) → u ≡ s → PlansBy Plan a (Err error)
      → Says (Err (Rewrite error))
  unplanned Plan rewrite.Memory e x = inl e
  unplanned Plan (rewrite.Elf error) e x = (x, e)
  unplanned Plan (rewrite.Start error) e x = (x, e)
  unplanned Plan (rewrite.Turn error) e x = (x, e)
  unplanned Plan (rewrite.Emit error) e x = absurd x

  module _ (starts : HasStarts a) (p : PlannedState) (job : GroupsState → J)
      (is_job : (groups : GroupsState) → AreGroups p groups → IsJob (request_of a) (job groups))
      (same : (groups : GroupsState) → writing (job groups) ≡ job_for (request_of a) p groups) where
    -- what is laid, by the job
    by_job : (groups : GroupsState) (r : Result LoaderState LoadError) → Lays (taken_after a.file a.reserves p) (lay.run_count groups) r
        → Lays (taken_by (writing (job groups)) a.reserves) (run_count (writing (job groups))) r
    by_job groups r h =
        subst (λ (j : written_job.Job). Lays (taken_by j a.reserves) (run_count j) r) (sym (same groups))
        (subst (λ (es : List Extent). Lays es (lay.run_count groups) r) (taken_told (request_of a) p groups) h)

    -- nothing is laid
    unlaid : (groups : GroupsState) → AreGroups p groups → (error : LoadError) → u ≡ s
        → Lays (taken_after a.file a.reserves p) (lay.run_count groups) (Err error) → Says (Err (load_error error))
    unlaid groups g load.Memory e h = inl e
    unlaid groups g (load.TooManyRuns n) e h = ((job groups, (starts, is_job groups g), by_job groups (Err (load.TooManyRuns n)) h), e)
    unlaid groups g (load.NoLoader n) e h = ((job groups, (starts, is_job groups g), by_job groups (Err (load.NoLoader n)) h), e)

    module _ (groups : GroupsState) (l : LoaderState) (laid : IsLaidBeside a.file a.reserves p groups l) where
      -- the frame of the job's file
      abbrev frame : written_job.Frame
      frame = loader_frame (writing (job groups)) (laid_of l)

      -- the table isn't too long
      accepted : frames.count frame ≤ 1024 → JudgesLoaderBy IsJob writing a (Ok (with_loader (job groups) l))
      accepted few = (job groups, (starts, is_job groups laid.are_groups), (l, by_job groups (Ok l) laid.laid, refl, few))

      -- what was emitted is the job's file
      emits_job : (r : Result (Unit {0}) EmitError) → EmitsLaid a.file p groups l name s u r → EmitsFrame frame name s u r
      emits_job r x = subst (λ (j : written_job.Job). EmitsFrame (loader_frame j (laid_of l)) name s u r) (sym (same groups)) x

      -- the file wasn't written whole
      answered : (error : EmitError) → EmitsFrame frame name s u (Err error) → Says (Err (Rewrite (emit_error error)))
      answered (emit.TooManySegments n) x =
          ((job groups, (starts, is_job groups laid.are_groups), (l, by_job groups (Ok l) laid.laid, x.1, x.0)), x.2)
      answered emit.WriteFault x = (with_loader (job groups) l, accepted x.0, x.1)
      answered emit.Memory (inl x) = inl x
      answered emit.Memory (inr x) = inr (with_loader (job groups) l, accepted x.0, x.1)

      -- where the file was written and memory ran out after it, that is an answer
      told_later : EmitsFrame frame name s u (Ok tt) → Says (Err (Rewrite rewrite.Memory))
      told_later x = inr (with_loader (job groups) l, accepted x.0, written_whole name (file_by writing (with_loader (job groups) l)) s u x.1)

    -- where the plan's file wasn't written, that is an answer
    pub unwritten : (error : LoaderError) → WritesLoader a.file a.reserves p name s u (Err error) → Says (Err error)
    unwritten error (inl x) = subst (λ (e : LoaderError). Says (Err e)) (sym x.0) (inl x.1)
    unwritten error (inr (inl x)) =
        subst (λ (e : LoaderError). Says (Err e)) (sym x.0.is) (unlaid x.0.groups x.0.are_groups x.0.cause x.1 x.0.lays)
    unwritten error (inr (inr x)) =
        subst (λ (e : LoaderError). Says (Err e)) (sym x.is)
        (answered x.groups x.loader x.laid x.cause (emits_job x.groups x.loader x.laid (Err x.cause) x.emitted))

    module _ (x : Loaded) (w : IsLoadedPlan a.file a.reserves p name s u x) where
      -- the job of what was written, with its stub
      abbrev pub loaded_job : LaidJob J
      loaded_job = with_loader (job x.groups) w.loader

      -- its file is what was written
      pub emits_loaded : EmitsFrame (loader_frame (writing (job x.groups)) (laid_of w.loader)) name s u (Ok tt)
      emits_loaded = emits_job x.groups w.loader w.laid (Ok tt) w.emitted

      -- the input is judged to be it
      pub judged : JudgesLoaderBy IsJob writing a (Ok loaded_job)
      judged = accepted x.groups w.loader w.laid emits_loaded.0

      -- want of memory after the writing is an answer, too
      pub untold : Says (Err (Rewrite rewrite.Memory))
      untold = told_later x.groups w.loader w.laid emits_loaded

-- ---- what those of `rewrite_loader` say

-- what a report tells
abbrev pub told_of : Action → Loaded → BodyValue
told_of action x = body_of action x.planned.private x.planned.rows x.groups.homes

module _ (a : Asked) (t : Turns) (p : PlannedState) (call : IsCall a t p) where
  -- the job of the plan, by its groups
  abbrev job : GroupsState → Job
  job groups = job_of (request_of a) t p groups

  -- it is the input's
  is_job : (groups : GroupsState) → AreGroups p groups → IsJobFor (request_of a) (job groups)
  is_job groups g = record { turns = t; planned = p; groups = groups; is_planned = call.planned; are_groups = g; is = refl }

  -- where the plan's file wasn't written, that is the call's answer
  pub not_written : (name : List ℕ) (s u : DeskState) (error : LoaderError) → WritesLoader a.file a.reserves p name s u (Err error)
      → Rewrites a name s u (Err error)
  not_written name s u error x = unwritten IsJobFor writing_of IsRewritten a name s u call.starts p job is_job (λ groups. refl) error x

  module _ (name : List ℕ) (s u : DeskState) (x : Loaded) (w : IsLoadedPlan a.file a.reserves p name s u x) where
    -- where the file was written, want of memory after it is an answer too
    pub not_told : Rewrites a name s u (Err (Rewrite rewrite.Memory))
    not_told = untold IsJobFor writing_of IsRewritten a name s u call.starts p job is_job (λ groups. refl) x w

    -- what is told of what was written
    same_told : told_of a.action x ≡ body_of a.action p.private p.rows x.groups.homes
    same_told i = body_of a.action (w.planned i).private (w.planned i).rows x.groups.homes

    -- a report can tell it
    pub may_report : IsBody Two (told_of a.action x)
    may_report =
        subst (IsBody Two) (sym same_told)
        (is_report (request_of a) t p call.size call.asked call.planned x.groups call.action w.laid.are_groups)

    -- the file follows the original
    followed : frames.count (loader_frame (job x.groups).emit (laid_of w.loader)) ≤ 1024 → OriginFits (origin_of a.file)
        → IsLoaderFollowed a.file a.starts (with_loader (job x.groups) w.loader) (job x.groups).report
    unfolding soundness.IsCaseFollowed
    followed few fits =
        let f = planned_loader_followed (request_of a) t p x.groups w.loader call.asked call.action call.planned w.laid.are_groups call.size w.laid.laid few in
        record {
          told = record { origin = fits; body = f.shown.report };
          loads = w.loads;
          sound = f.shown.sound;
          headline = f.shown.followed.1;
          leads = f.leads;
        }

    -- the report of it is an answer
    pub rewritten : (report : ReportValue) (origin : Origin) → origin ≡ origin_of a.file → OriginFits origin
        → report ≡ written (told_of a.action x) origin → Rewrites a name s u (Ok report)
    rewritten report origin o fits r =
        let j = job x.groups in
        let told : told_of a.action x ≡ j.report.body =
        same_told ∙ report_is (request_of a) t p call.size call.asked call.planned x.groups in
        let same : report ≡ j.report = r ∙ (λ i. written (told i) (o i)) in (
          with_loader j w.loader,
          judged IsJobFor writing_of IsRewritten a name s u call.starts p job is_job (λ groups. refl) x w,
          record {
            report_is = same;
            holds = w.emitted.1;
            followed = subst (λ (z : ReportValue). IsLoaderFollowed a.file a.starts (with_loader j w.loader) z) (sym same)
                (followed w.emitted.0 (subst OriginFits o fits));
          },
        )
