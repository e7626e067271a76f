-- Where the stub leads guests of several threads start; and what the answers of a call say.
use Rattle.std.proofs.Common.{◌≡◌, ℕ, List, ◌∷◌, Ok, Err, refl, sym, ap, ◌∙◌, subst}
use Rattle.pun_base.specs.Shown.{DeskState}
use Rattle.insn_form.specs.Machine.{Machine}
use Rattle.elf_read.specs.Entries.{entry_of}
use Rattle.elf_read.specs.Image.{image_of}
use Rattle.elf_emit.specs.Laws.{bare_image}
use Rattle.elf_emit.proofs.JobImages.{bare_shows}
use Rattle.patch_report.specs.declared.origin.Origin.{Origin}
use Rattle.patch_report.specs.declared.origin.Version.TheVariants.{Two}
use Rattle.patch_report.specs.Values.{ReportValue, body_of, written}
use Rattle.patch_report.specs.Grammar.{IsBody, IsReport, OriginFits}
use Rattle.image_runs.specs.Quiet.{IsStartPair}
use Rattle.site_turns.specs.Modes.{thread_rules}
use Rattle.site_turns.specs.PlannedState.{PlannedState}
use Rattle.site_turns.specs.Planning.{Turns}
use Rattle.site_turns.specs.PlanLaws.{report_under}
use Rattle.rewrite_core.specs.Asked.{Asked, request_of}
use Rattle.rewrite_core.specs.Origins.{origin_of}
use Rattle.rewrite_core.specs.Patching.{IsCallBy, PlansBy}
use Rattle.rewrite_core.specs.declared.rewrite.RewriteError.{RewriteError}
use Rattle.rewrite_core.specs.declared.rewrite.RewriteError.TheVariants as rewrite
use Rattle.loader_form.proofs.MemoryParts.{leads_with}
use Rattle.loader_form.proofs.PlannedLoader.{written_leads}
use Rattle.rewrite_loader.specs.declared.error.LoaderError.{LoaderError}
use Rattle.rewrite_loader.specs.declared.error.LoaderError.TheVariants.{Rewrite}
use Rattle.rewrite_loader.specs.declared.writing.Loaded.{Loaded}
use Rattle.rewrite_loader.specs.Judging.{run_count, with_loader}
use Rattle.rewrite_loader.specs.Writing.{IsLoadedPlan, WritesLoader}
use Rattle.rewrite_loader.proofs.CallAnswers as loader
use Rattle.rewrite_loader.proofs.CallAnswers.{told_of}
use Rattle.thread_runs.specs.Guest.{Thread, thread_of}
use Rattle.thread_runs.specs.Threading.{Threading}
use Rattle.guest_threads.specs.ThreadCalls.{IsSharedPlanned}
use Rattle.guest_threads.specs.ThreadRewriting.{IsThreadJobFor, writing_of}
use Rattle.guest_threads.proofs.RewriteAnswers.{can_write, job, is_job, writes_job, told_plan, plan_report, tells, shown_threaded}
use Rattle.thread_loader.specs.Followed.{ThreadLoaderJob, threading_for, StartThreads, IsLoaderFollowedInThreads}
use Rattle.thread_loader.specs.Rewriting.{IsReported, LoadsThreads}

-- a start pair starts guests of any number of threads
pub starts_threads : (r : Threading) (s u : Machine) → IsStartPair r.original r.patched r.entry s u → StartThreads r s u
starts_threads r s u p =
    let same : thread_of u ≡ thread_of s = λ i. record { core = p.core i; rip = (p.patched_at ∙ sym p.original_at) i; world = p.world i } in
    record {
      pair = p;
      guests = λ more each. record {
        threads = ap (λ (t : Thread). t ∷ more) same;
        each = ((record { core = p.sized.core; world = p.sized.world }, p.original_at), each);
        further = p.further;
        apart = p.apart;
        original = p.original;
        patched = p.patched;
      };
    }

-- where nothing is planned, that is the call's answer
pub refused : (a : Asked) (name : List ℕ) (s : DeskState) (error : RewriteError) → PlansBy IsSharedPlanned a (Err error)
    → LoadsThreads a name s s (Err (Rewrite error))
refused a name s error x = loader.unplanned IsThreadJobFor writing_of IsReported a name s s IsSharedPlanned error refl x

module _ (a : Asked) (t : Turns) (p : PlannedState) (call : IsCallBy IsSharedPlanned a t p) where
  -- where the plan's file wasn't written, that is an answer
  pub not_written : (name : List ℕ) (s u : DeskState) (error : LoaderError) → WritesLoader a.file a.reserves p name s u (Err error)
      → LoadsThreads a name s u (Err error)
  not_written name s u error x =
      loader.unwritten IsThreadJobFor writing_of IsReported a name s u call.starts p (job a t p call) (is_job a t p call) (λ groups. refl) error x

  module _ (name : List ℕ) (s u : DeskState) (x : Loaded) (w : IsLoadedPlan a.file a.reserves p name s u x) where
    -- want of memory after the writing is an answer, too
    pub not_told : LoadsThreads a name s u (Err (Rewrite rewrite.Memory))
    not_told = loader.untold IsThreadJobFor writing_of IsReported a name s u call.starts p (job a t p call) (is_job a t p call) (λ groups. refl) x w

    -- what is told of what was written is what is told of the plan
    same_told : told_of a.action x ≡ body_of a.action p.private p.rows x.groups.homes
    same_told i = body_of a.action (w.planned i).private (w.planned i).rows x.groups.homes

    -- a report can tell it
    pub can_report : IsBody Two (told_of a.action x)
    can_report = subst (IsBody Two) (sym same_told) (plan_report a t p call x.groups w.laid.are_groups)

    -- the job of what was written
    abbrev loaded : ThreadLoaderJob
    loaded = with_loader (job a t p call x.groups) w.loader

    -- its file follows the original
    followed : IsLoaderFollowedInThreads a.action a.file a.starts loaded
    followed =
        let j = job a t p call x.groups in
        let g = w.laid.are_groups in
        let th = shown_threaded a t p call x.groups g (bare_image j.emit) (bare_shows j.emit (writes_job a t p call x.groups g)) in
        let r = threading_for a.action a.file a.starts loaded in
        record {
          loads = w.loads;
          sound = th.sound;
          followed = th.followed;
          out = th.out;
          followed_with = th.followed_with;
          out_with = th.out_with;
          leads = λ further m st.
              leads_with j.emit loaded.laid (run_count j.emit) (image_of a.file) (IsStartPair (image_of a.file) (bare_image j.emit) (entry_of a.file))
              (StartThreads r) m (starts_threads r)
              (written_leads (request_of a) p x.groups w.loader call.asked (can_write a t p call) g call.size w.laid.laid w.emitted.0 further m st);
        }

    -- the report of it is an answer
    pub reported : (report : ReportValue) (origin : Origin) → origin ≡ origin_of a.file → OriginFits origin
        → report ≡ written (told_of a.action x) origin → LoadsThreads a name s u (Ok report)
    reported report origin o fits r =
        let told : told_of a.action x ≡ report_under (thread_rules a.action) (request_of a) t x.groups = same_told ∙ told_plan a t p call x.groups w.laid.are_groups in
        let same : report ≡ loaded.job.report = r ∙ (λ i. written (told i) (o i)) in (
          loaded,
          loader.judged IsThreadJobFor writing_of IsReported a name s u call.starts p (job a t p call) (is_job a t p call) (λ groups. refl) x w,
          record {
            report_is = same;
            tells = tells a t p call x.groups w.laid.are_groups report same (subst IsReport (sym r) (record { origin = fits; body = can_report }));
            holds = w.emitted.1;
            followed = followed;
          },
        )
