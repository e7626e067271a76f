-- OUT is rewritten for threads without a report, and the summary is told.
use Rattle.std.proofs.Common.{◌≡◌, inl, inr, List, map, Result, Ok, Err, refl, ap, ◌∙◌, subst}
use Rattle.pun_base.specs.Shown.{DeskState}
use Rattle.pun_base.specs.declared.action.Action.{Action}
use Rattle.pun_base.specs.declared.action.Action.TheVariants.{Count}
use Rattle.patch_report.specs.Values.{RowValue, row_value}
use Rattle.patch_report.specs.declared.row.ReportRow.{ReportRow}
use Rattle.rewrite_core.specs.declared.rewrite.RewriteError.{RewriteError}
use Rattle.rewrite_core.specs.Asked.{Asked}
use Rattle.guest_threads.specs.declared.rewriting.ThreadReport.{ThreadReport}
use Rattle.guest_threads.specs.ThreadRewriting.{ThreadJob, Judges, file_of, IsRewritten, RewritesThreads}
use Rattle.command_io.specs.Summary.{summary_text, done_status}
use Rattle.command_io.specs.Inputs.{gathered}
use Rattle.command_io.specs.Writing.{Verdict, Accepted}
use Rattle.command_io.specs.Verdict.{OfTexts}
use Rattle.patch_commands.specs.Answers.{listed_inputs, ListFollowed}
use Rattle.patch_commands.specs.ThreadsAnswers.{ThreadPatching, threads_rewriting, FollowsInThreads, threads_writing, ThreadsHaveOneVerdict}
use Rattle.command_io.specs.Failing.{Failed, Answer, rewrite_failed}
use Rattle.command_io.specs.Works.{IsOnly, Works}
use Rattle.command_io.proofs.WholeCommands.{if_done, told_behind}
use Rattle.patch_commands.specs.Patching.{patch_texts, TellsSummary}
use Rattle.patch_commands.specs.declared.patch.Inputs.{Inputs}
use Rattle.patch_commands.proofs.TextVerdicts.{one_for_threads, one_gathered}
use Rattle.patch_commands.proofs.Rewritings.{IsGiven, verdict_of, list_followed, unfinished}

-- the inputs of `threads` have one verdict at most
pub one_threads_verdict : ThreadsHaveOneVerdict
one_threads_verdict files p v w b h k =
    one_gathered (threads_rewriting p) (one_for_threads Count) files p.names.file p.names.starts p.names.sites v w
    (gathered files (listed_inputs p.names.file p.names.starts p.names.sites)) b refl h k

module _ (p : ThreadPatching) (x : Inputs) (a : Asked) (g : IsGiven (threads_rewriting p) x a) where
  -- what is judged is to be said of the texts
  only_this : (v : Verdict ThreadJob) → (threads_rewriting p).Judged a v → IsOnly v (OfTexts (threads_rewriting p) (patch_texts x))
  only_this v h = verdict_of (threads_rewriting p) (one_for_threads Count) x a v g h

  -- the file was rewritten, and the summary is told or not
  pub rewrote : (report : ThreadReport) (rows : List ReportRow) (s t : DeskState) (r : Result Answer Failed) → rows ≡ report.rows.items
      → RewritesThreads a p.names.out s t (Ok report) → TellsSummary (map row_value rows) r → Works (threads_writing p) (patch_texts x) s t r
  rewrote report rows s t r e h w =
      let same : map row_value rows ≡ h.0.rows = ap (map row_value) e ∙ h.2.rows_are in
      inr (
        h.0,
        record {
          verdict = only_this (Accepted h.0) h.1;
          finishes = told_behind (p.names.out, file_of) h.0 (file_of h.0) (summary_text h.0.rows, done_status h.0.rows) s t r refl h.2.holds
              (subst (λ (z : List RowValue). TellsSummary z r) same w);
          promised = if_done (ListFollowed (FollowsInThreads Count) x.file.items x.starts.items h.0) r
              (list_followed (FollowsInThreads Count) (threads_rewriting p) x a h.0 g
              (subst (λ (action : Action). FollowsInThreads action a.file a.starts h.0) (ap (λ (z : Asked). z.action) g.same) h.2.followed));
        },
      )

  -- nothing was rewritten, or OUT isn't whole
  pub refused : (s t : DeskState) (error : RewriteError) → RewritesThreads a p.names.out s t (Err error)
      → Works (threads_writing p) (patch_texts x) s t (Err (rewrite_failed p.names.out error))
  refused s t error h =
      unfinished Judges file_of IsRewritten (threads_writing p) (patch_texts x) a p.names.out (λ j u v e q. inl q) only_this s t error h
