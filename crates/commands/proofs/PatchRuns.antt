-- What patching in a form does, and `patch`, is what a command does that writes OUT and REPORT.
use Rattle.std.proofs.Common.{◌≡◌, ℕ, ◌⊎◌, inl, inr, List, [], ◌∷◌, Result, Err, refl, sym, ◌∙◌, subst, arith}
use Rattle.pun_base.specs.Shown.{Files, DeskState, SinkState, with_file, Told}
use Rattle.pun_base.proofs.HeldFiles.{with_file-same}
use Rattle.patch_report.specs.Values.{RowValue}
use Rattle.patch_report.specs.Spelling.{report_text}
use Rattle.rewrite_core.specs.Rewrites.{file_of}
use Rattle.command_words.specs.Words.{Names}
use Rattle.command_io.specs.Summary.{summary_text, sites_line}
use Rattle.command_io.specs.Inputs.{All, gathered}
use Rattle.command_io.specs.Endings.{Delivers}
use Rattle.command_io.specs.Writing.{Writing, KeepsRest, files_after}
use Rattle.command_io.specs.Verdict.{Patching, Form, reported_text, plain}
use Rattle.patch_commands.specs.Answers.{patch_inputs, form_outputs, TextsFollowed, form_writing, patch_writing, FormFollowed, FilesFollowed, Patches, PatchesIn}
use Rattle.command_io.specs.Failing.{Failed, NoMemory, Answer, end_message}
use Rattle.command_io.specs.Works.{AreApart, Ends}
use Rattle.command_io.proofs.NamedFiles.{with_file-other}
use Rattle.command_io.proofs.GatheredInputs.{first_read}
use Rattle.command_io.proofs.DeliveredTexts.{HasOwnHead}
use Rattle.command_io.proofs.WrittenOutputs.{told_same}
use Rattle.command_io.proofs.WritingEnds.{IsApart, writes}
use Rattle.patch_commands.proofs.DoneStatuses.{end_done}

-- a summary begins with an s
pub summary_head : (rows : List RowValue) → HasOwnHead (summary_text rows)
unfolding summary_text sites_line
summary_head rows = record { first = 115; rest = _; is = refl; own = λ e. omega arith }

-- a patch's texts and statuses are its own
is_apart : {J : Type 0} → (f : Form J) (p : Patching) → IsApart (form_writing f p)
is_apart f p = record {
  own = λ job. end_done (f.report job).body.rows;
  odd = λ status o q. let z = q.0 in omega arith;
  head = λ job. summary_head (f.report job).body.rows;
}

-- OUT and REPORT differ
outputs_apart : {J : Type 0} → (f : Form J) (n : Names) → (n.out ≡ n.report → ⊥) → AreApart (form_outputs f n)
outputs_apart f n apart = (only_one, (λ b. b, tt))
  where
    only_one : (n.out ≡ n.report) ⊎ ⊥ → ⊥
    only_one (inl e) = apart e
    only_one (inr b) = b

-- ---- what is promised, for what the names hold

-- what is promised of the texts, for the names that held them
followed : {J : Type 0} → (f : Form J) (n : Names) (files new : Files) (texts : List (List ℕ)) (job : J) → (n.out ≡ n.report → ⊥)
    → gathered files (patch_inputs n) ≡ All texts → TextsFollowed f.Follows texts job → files_after files (form_outputs f n) job ≡ new
    → FormFollowed f n files new
followed f n files new (file ∷ starts ∷ sites ∷ []) job apart e h same =
    let a = first_read (files n.file) _ file _ _ e in
    let b = first_read (files n.starts) _ starts _ _ a.1 in
    subst (FormFollowed f n files) same (record {
      file = file;
      starts = starts;
      job = job;
      held_file = a.0;
      held_starts = b.0;
      holds_out = with_file-other (with_file files n.out (f.file job)) n.report n.out (reported_text f job) (λ q. apart (sym q))
          ∙ with_file-same files n.out (f.file job);
      holds_report = with_file-same (with_file files n.out (f.file job)) n.report (reported_text f job);
      list = h.list;
      listed = h.listed;
      followed = h.followed;
    })
followed f n files new other job apart e h same = absurd h

-- ---- what patching in a form does

-- an end that was printed
pub form_ended : {J : Type 0} → (f : Form J) (p : Patching) → (p.names.out ≡ p.names.report → ⊥) → (s t : DeskState) (k l : SinkState)
    → (r : Result Answer Failed) (status : ℕ) → Told (KeepsRest (form_outputs f p.names)) s.held t.held → Ends (form_writing f p) s t r
    → Delivers (end_message r) k l status → PatchesIn f p s t k l status
form_ended f p apart s t k l r status rest e d =
    let w = writes (form_writing f p) (is_apart f p) (outputs_apart f p.names apart) s t k l r status rest e d in
    record {
      writes = w;
      followed = λ files h new g o.
          let x = (w.held files h).done o in
          let z = x.1.outputs in
          let q : files_after files (form_outputs f p.names) x.0 ≡ new = cc in
          followed f p.names files new x.1.texts x.0 apart x.1.read x.1.promised q;
    }

-- memory ran out before the words were read, of any command that writes, by what its printed ends come to
pub lost : {J : Type 0} → (w : Writing J) (Done : DeskState → DeskState → SinkState → SinkState → ℕ → Type 0)
    → ((s t : DeskState) (k l : SinkState) (r : Result Answer Failed) (status : ℕ) → Told (KeepsRest w.outputs) s.held t.held → Ends w s t r
    → Delivers (end_message r) k l status → Done s t k l status) → (s : DeskState) (k : SinkState) → Done s s k k 6
lost w Done ended s k =
    ended s s k k (Err NoMemory) 6 (told_same (KeepsRest w.outputs) s.held s.held (λ files name o. refl) refl)
    (inl (record { held = refl; writes = refl })) (refl, refl)

-- ---- what `patch` does

-- the headline, for what the names hold
files_followed : (n : Names) (old new : Files) → FormFollowed plain n old new → FilesFollowed n old new
files_followed n old new h = record {
  file = h.file;
  starts = h.starts;
  out = file_of h.job;
  text = report_text h.job.report;
  held_file = h.held_file;
  held_starts = h.held_starts;
  holds_out = h.holds_out;
  holds_report = h.holds_report;
  list = h.list;
  report = h.job.report;
  listed = h.listed;
  told = refl;
  followed = h.followed;
}

-- an end that was printed
pub patch_ended : (p : Patching) → (p.names.out ≡ p.names.report → ⊥) → (s t : DeskState) (k l : SinkState) (r : Result Answer Failed) (status : ℕ)
    → Told (KeepsRest (form_outputs plain p.names)) s.held t.held → Ends (patch_writing p) s t r → Delivers (end_message r) k l status
    → Patches p s t k l status
patch_ended p apart s t k l r status rest e d =
    let w = form_ended plain p apart s t k l r status rest e d in
    record { writes = w.writes; followed = λ files h new g o. files_followed p.names files new (w.followed files h new g o) }
