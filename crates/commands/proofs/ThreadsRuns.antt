-- What `threads` does without a report is what a command does that writes OUT.
use Rattle.std.proofs.Common.{◌≡◌, ℕ, List, [], ◌∷◌, Result, subst, arith}
use Rattle.pun_base.specs.Shown.{Files, DeskState, SinkState, Told}
use Rattle.pun_base.specs.declared.action.Action.TheVariants.{Count}
use Rattle.pun_base.proofs.HeldFiles.{with_file-same}
use Rattle.guest_threads.specs.ThreadRewriting.{ThreadJob, file_of}
use Rattle.command_words.specs.Words.{ThreadNames}
use Rattle.command_io.specs.Inputs.{All, gathered}
use Rattle.command_io.specs.Endings.{Delivers}
use Rattle.command_io.specs.Writing.{KeepsRest, files_after}
use Rattle.patch_commands.specs.Answers.{TextsFollowed}
use Rattle.patch_commands.specs.ThreadsAnswers.{ThreadPatching, threads_inputs, threads_outputs, FollowsInThreads, threads_writing, FilesFollowedInThreads, PatchesThreads}
use Rattle.command_io.specs.Failing.{Failed, Answer, end_message}
use Rattle.command_io.specs.Works.{AreApart, Ends}
use Rattle.command_io.proofs.GatheredInputs.{first_read}
use Rattle.command_io.proofs.WritingEnds.{IsApart, writes}
use Rattle.commands.proofs.PatchRuns.{summary_head}
use Rattle.patch_commands.proofs.DoneStatuses.{end_done}

-- its texts and statuses are its own
is_apart : (p : ThreadPatching) → IsApart (threads_writing p)
is_apart p = record {
  own = λ job. end_done job.rows;
  odd = λ status o q. let z = q.0 in omega arith;
  head = λ job. summary_head job.rows;
}

-- what is promised of the texts, for the names that held them
followed : (n : ThreadNames) (files new : Files) (texts : List (List ℕ)) (job : ThreadJob) → gathered files (threads_inputs n) ≡ All texts
    → TextsFollowed (FollowsInThreads Count) texts job → files_after files (threads_outputs n) job ≡ new → FilesFollowedInThreads n files new
followed n files new (file ∷ starts ∷ sites ∷ []) job e h same =
    let a = first_read (files n.file) _ file _ _ e in
    let b = first_read (files n.starts) _ starts _ _ a.1 in
    subst (FilesFollowedInThreads n files) same (record {
      file = file;
      starts = starts;
      job = job;
      held_file = a.0;
      held_starts = b.0;
      holds_out = with_file-same files n.out (file_of job);
      list = h.list;
      listed = h.listed;
      followed = h.followed;
    })
followed n files new other job e h same = absurd h

-- an end that was printed
pub threads_ended : (p : ThreadPatching) (s t : DeskState) (k l : SinkState) (r : Result Answer Failed) (status : ℕ)
    → Told (KeepsRest (threads_outputs p.names)) s.held t.held → Ends (threads_writing p) s t r → Delivers (end_message r) k l status
    → PatchesThreads p s t k l status
threads_ended p s t k l r status rest e d =
    let apart : AreApart (threads_outputs p.names) = (λ b. b, tt) in
    let w = writes (threads_writing p) (is_apart p) apart s t k l r status rest e d in
    record {
      writes = w;
      followed = λ files h new g o.
          let x = (w.held files h).done o in
          let z = x.1.outputs in
          let q : files_after files (threads_outputs p.names) x.0 ≡ new = cc in
          followed p.names files new x.1.texts x.0 x.1.read x.1.promised q;
    }
