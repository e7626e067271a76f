-- What the rewriting in each form comes to, by the form.
use Rattle.std.proofs.Common.{◌≡◌, ℕ, ◌<◌, inl, List, map, slice_index, Result, Ok, Err, refl, sym, subst}
use Rattle.pun_base.specs.Shown.{DeskState}
use Rattle.pun_base.specs.Desk.{Fills}
use Rattle.pun_base.specs.declared.action.Action.{Action}
use Rattle.pun_base.specs.declared.range.Range.{Range}
use Rattle.pun_base.specs.Ranges.{ends}
use Rattle.patch_report.specs.Values.{ReportValue}
use Rattle.rewrite_core.specs.Asked.{Asked}
use Rattle.rewrite_core.specs.Followed.{IsFollowed}
use Rattle.rewrite_core.specs.Judging as core
use Rattle.rewrite_core.specs.Rewrites as core_answers
use Rattle.rewrite_loader.specs.Followed.{IsLoaderFollowed}
use Rattle.rewrite_loader.specs.Judging as loader_judging
use Rattle.rewrite_loader.specs.Rewrites as loader_answers
use Rattle.guest_threads.specs.ThreadRewriting as threads
use Rattle.guest_threads.specs.ThreadRewriting.{ThreadJob, IsFollowedInThreads, TellsJob}
use Rattle.thread_loader.specs.Followed.{IsLoaderFollowedInThreads}
use Rattle.thread_loader.specs.Rewriting as thread_loader
use Rattle.command_io.specs.Writing.{Verdict, Accepted}
use Rattle.command_io.specs.Verdict as verdict
use Rattle.command_io.specs.Verdict.{Patching, plain, rewriting_in, asked, OfTexts}
use Rattle.command_io.specs.declared.report_mode.Mode.{Mode}
use Rattle.command_io.specs.Failing.{Failed, Answer}
use Rattle.command_io.specs.Works.{IsOnly, Works}
use Rattle.command_io.proofs.WholeCommands.{works_as}
use Rattle.patch_commands.specs.LoadAnswers.{with_stub}
use Rattle.patch_commands.specs.ThreadsAnswers.{for_threads, for_threads_with_stub}
use Rattle.patch_commands.specs.Patching.{patch_texts, AreLists, WritesReport}
use Rattle.patch_commands.specs.Forms.{action_in, job_in, form_in, mode_in, writing_in, RewritesIn}
use Rattle.patch_commands.specs.declared.patching.Form.{Form}
use Rattle.patch_commands.specs.declared.patching.Form.TheVariants.{Plain, WithStub, ForThreads, ForThreadsWithStub}
use Rattle.patch_commands.specs.declared.patch.Inputs.{Inputs}
use Rattle.patch_commands.proofs.TextVerdicts.{IsOnce, one_plain, one_with_stub, one_for_threads, one_for_threads_with_stub}
use Rattle.patch_commands.proofs.Rewritings.{IsGiven, given, verdict_of, reported_in, unfinished, unloaded}

-- what is done in a form that is known
pub in_form : (f g : Form) (rs : List Range) (file starts sites out : List ℕ) (s t : DeskState) (r : Result ReportValue Failed) → f ≡ g
    → RewritesIn g (asked (action_in g) rs file starts sites) out s t r → RewritesIn f (asked (action_in f) rs file starts sites) out s t r
in_form f g rs file starts sites out s t r d h = subst (λ (z : Form). RewritesIn z (asked (action_in z) rs file starts sites) out s t r) (sym d) h

-- ---- what was rewritten, in any form

-- A job was rewritten in a form, and this is its report.
record IsRewrittenIn {J : Type 0} (f : verdict.Form J) (a : Asked) (out : List ℕ) (s t : DeskState) (report : ReportValue) : Type 0 where
  job : J
  judged : f.Judged a (Accepted job)
  told : report ≡ f.report job
  holds : Fills out (f.file job) s t (Ok tt)
  followed : f.Follows a.file a.starts job

-- so was a job of which all this is known
written : {J : Type 0} → (f : verdict.Form J) (a : Asked) (out : List ℕ) (s t : DeskState) (report : ReportValue) (j : J) → f.Judged a (Accepted j)
    → report ≡ f.report j → Fills out (f.file j) s t (Ok tt) → f.Follows a.file a.starts j → IsRewrittenIn f a out s t report
written f a out s t report j v r h w = record { job = j; judged = v; told = r; holds = h; followed = w }

-- what a report that is the job's tells is what the job's report tells
tells_of : (b action : Action) (j : ThreadJob) (report : ReportValue) → b ≡ action → report ≡ j.report → TellsJob b j report → TellsJob action j j.report
tells_of b action j report same told h = subst (λ (z : Action). TellsJob z j j.report) same (subst (TellsJob b j) told h)

-- a rewriting that ended well, of what was asked with the form's action
rewritten : (f : Form) (a : Asked) (out : List ℕ) (s t : DeskState) (report : ReportValue) → a.action ≡ action_in f → RewritesIn f a out s t (Ok report)
    → IsRewrittenIn (form_in f) a out s t report
rewritten (Plain action) a out s t report same h =
    written plain a out s t report h.0 h.1 h.2.report_is h.2.holds
    (subst (λ (v : ReportValue). IsFollowed a.file a.starts (core_answers.file_of h.0) v) h.2.report_is h.2.followed)
rewritten (WithStub action) a out s t report same h =
    written with_stub a out s t report h.0 h.1 h.2.report_is h.2.holds
    (subst (λ (v : ReportValue). IsLoaderFollowed a.file a.starts h.0 v) h.2.report_is h.2.followed)
rewritten (ForThreads action) a out s t report same h =
    written (for_threads action) a out s t report h.0 h.1 h.2.report_is h.2.holds (record {
      of_job = tells_of a.action action h.0 report same h.2.report_is h.2.tells;
      followed = subst (λ (z : Action). IsFollowedInThreads z a.file a.starts (threads.file_of h.0) h.0.private h.0.rows) same h.2.followed;
    })
rewritten (ForThreadsWithStub action) a out s t report same h =
    written (for_threads_with_stub action) a out s t report h.0 h.1 h.2.report_is h.2.holds (record {
      of_job = tells_of a.action action h.0.job report same h.2.report_is h.2.tells;
      followed = subst (λ (z : Action). IsLoaderFollowedInThreads z a.file a.starts h.0) same h.2.followed;
    })

-- the mode of a form's report is that of the form
mode_is : (f : Form) → mode_in f ≡ (form_in f).mode
mode_is (Plain action) = refl
mode_is (WithStub action) = refl
mode_is (ForThreads action) = refl
mode_is (ForThreadsWithStub action) = refl

-- an input in order has one verdict at most in each form
once_in : (f : Form) (p : Patching) → IsOnce (rewriting_in (form_in f) p)
once_in (Plain action) p = one_plain
once_in (WithStub action) p = one_with_stub
once_in (ForThreads action) p = one_for_threads action
once_in (ForThreadsWithStub action) p = one_for_threads_with_stub action

-- ---- a rewriting that doesn't end well

-- what is judged is to be said of the texts
only_this : (f : Form) (p : Patching) (x : Inputs) (a : Asked) → IsGiven (rewriting_in (form_in f) p) x a → (v : Verdict (job_in f))
    → (form_in f).Judged a v → IsOnly v (OfTexts (rewriting_in (form_in f) p) (patch_texts x))
only_this f p x a g v h = verdict_of (rewriting_in (form_in f) p) (once_in f p) x a v g h

-- nothing was rewritten in a form, or OUT isn't whole
refused : (f : Form) (p : Patching) (x : Inputs) (a : Asked) → IsGiven (rewriting_in (form_in f) p) x a → (s t : DeskState) (e : Failed)
    → RewritesIn f a p.names.out s t (Err e) → Works (writing_in f p) (patch_texts x) s t (Err e)
refused (Plain action) p x a g s t e h =
    works_as (writing_in (Plain action) p) (patch_texts x) s t e _ h.1
    (unfinished core.Judges core_answers.file_of core_answers.IsRewritten (writing_in (Plain action) p) (patch_texts x) a p.names.out (λ j u v d q. inl q)
    (only_this (Plain action) p x a g) s t h.0 h.2)
refused (WithStub action) p x a g s t e h =
    works_as (writing_in (WithStub action) p) (patch_texts x) s t e _ h.1
    (unloaded loader_judging.Judges loader_judging.file_of loader_answers.IsRewritten (writing_in (WithStub action) p) (patch_texts x) a p.names.out
    (λ j u v d q. inl q) (only_this (WithStub action) p x a g) s t h.0 h.2)
refused (ForThreads action) p x a g s t e h =
    works_as (writing_in (ForThreads action) p) (patch_texts x) s t e _ h.1
    (unfinished threads.Judges threads.file_of threads.IsReported (writing_in (ForThreads action) p) (patch_texts x) a p.names.out (λ j u v d q. inl q)
    (only_this (ForThreads action) p x a g) s t h.0 h.2)
refused (ForThreadsWithStub action) p x a g s t e h =
    works_as (writing_in (ForThreadsWithStub action) p) (patch_texts x) s t e _ h.1
    (unloaded thread_loader.Judges thread_loader.file_of thread_loader.IsReported (writing_in (ForThreadsWithStub action) p) (patch_texts x) a p.names.out
    (λ j u v d q. inl q) (only_this (ForThreadsWithStub action) p x a g) s t h.0 h.2)

-- ---- of the lists that were read

module _ (f : Form) (p : Patching) (same : p.action ≡ action_in f) (rs : List Range) (x : Inputs) (file starts sites bs ns ms : List ℕ)
    (r : map ends rs ≡ p.reserves) (l : AreLists x bs ns ms) (d : file ≡ bs) (e : starts ≡ ns) (i : sites ≡ ms)
    (b : (k : ℕ) → slice_index file k < 256) where
  -- what is asked is what the texts tell
  is_given : IsGiven (rewriting_in (form_in f) p) x (asked p.action rs file starts sites)
  is_given = given (rewriting_in (form_in f) p) rs x file starts sites bs ns ms r l d e i b

  -- the file was rewritten, and its report was written or not
  pub reported : (report : ReportValue) (s u t : DeskState) (a : Result Answer Failed)
      → RewritesIn f (asked p.action rs file starts sites) p.names.out s u (Ok report)
      → WritesReport (mode_in f) p.names.report report u t a → Works (writing_in f p) (patch_texts x) s t a
  reported report s u t a h w =
      let z = rewritten f (asked p.action rs file starts sites) p.names.out s u report same h in
      let v : WritesReport (form_in f).mode p.names.report report u t a =
      subst (λ (m : Mode). WritesReport m p.names.report report u t a) (mode_is f) w in
      reported_in (form_in f) p (once_in f p) x _ is_given z.job s u t a z.judged z.holds z.followed
      (subst (λ (r : ReportValue). WritesReport (form_in f).mode p.names.report r u t a) z.told v)

  -- nothing was rewritten, or OUT isn't whole
  pub not_rewritten : (s t : DeskState) (e : Failed) → RewritesIn f (asked p.action rs file starts sites) p.names.out s t (Err e)
      → Works (writing_in f p) (patch_texts x) s t (Err e)
  not_rewritten s t e h = refused f p x _ is_given s t e h
