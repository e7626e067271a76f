-- OUT is rewritten, and then the report is written.
use Rattle.std.proofs.Common.{◌≡◌, ℕ, ◌<◌, inl, inr, List, map, slice_index, ◌++◌, Result, Ok, Err, refl, ◌∙◌, subst}
use Rattle.pun_base.specs.Shown.{DeskState}
use Rattle.pun_base.specs.Desk.{Fills}
use Rattle.pun_base.specs.declared.range.Range.{Range}
use Rattle.pun_base.specs.Ranges.{ends}
use Rattle.elf_emit.specs.declared.emit.EmitError.TheVariants as emit
use Rattle.patch_report.specs.Values.{ReportValue}
use Rattle.patch_report.specs.Spelling.{report_text}
use Rattle.rewrite_core.specs.Asked.{Asked}
use Rattle.rewrite_core.specs.Rewrites.{RewritesBy}
use Rattle.rewrite_core.specs.declared.rewrite.RewriteError.{RewriteError}
use Rattle.rewrite_core.specs.declared.rewrite.RewriteError.TheVariants as rewrite
use Rattle.loader_form.specs.declared.error.LoadError.TheVariants as load
use Rattle.rewrite_loader.specs.declared.error.LoaderError.{LoaderError}
use Rattle.rewrite_loader.specs.declared.error.LoaderError.TheVariants as loader
use Rattle.rewrite_loader.specs.Rewrites.{LoadsBy}
use Rattle.command_words.specs.Words.{Names}
use Rattle.command_io.specs.Refusals.{Rewrite}
use Rattle.command_io.specs.Summary.{summary_text, done_status}
use Rattle.command_io.specs.ReportModes.{mode_text}
use Rattle.command_io.specs.declared.report_mode.Mode.{Mode}
use Rattle.command_io.specs.Writing.{Verdict, Refused, Accepted, Writing}
use Rattle.command_io.specs.Verdict.{Patching, Form, IsJudgedAs, Rewriting, rewriting_in, starts_of, sites_of, asked, OfTexts}
use Rattle.patch_commands.specs.Answers.{form_outputs, ListFollowed, form_writing}
use Rattle.patch_commands.specs.LoadAnswers.{refusal_told}
use Rattle.command_io.specs.Failing.{Failed, Unwritten, NoMemory, Answer, rewrite_failed, loader_failed}
use Rattle.command_io.specs.Works.{IsOnly, WritesOne, WritesAll, Finishes, Works}
use Rattle.command_io.proofs.WholeCommands.{if_done, stopped}
use Rattle.patch_commands.specs.Patching.{patch_texts, AreLists, WritesReport}
use Rattle.patch_commands.specs.declared.patch.Inputs.{Inputs}
use Rattle.patch_commands.proofs.TextVerdicts.{IsOnce, only_judged}

-- What a rewriting is asked is what the texts tell.
pub record IsGiven {J : Type 0} (w : Rewriting J) (x : Inputs) (a : Asked) : Type 0 where
  pub reserves : List Range
  pub starts : List ℕ
  pub sites : List ℕ
  pub reserves_are : map ends reserves ≡ w.reserves
  pub starts_are : starts_of x.starts.items ≡ Ok starts
  pub sites_are : sites_of x.sites.items ≡ Ok sites
  pub same : a ≡ asked w.action reserves x.file.items starts sites
  pub bytes : (k : ℕ) → slice_index x.file.items k < 256

-- so are copies of a file that is bytes, and of its lists
pub given : {J : Type 0} → (w : Rewriting J) (rs : List Range) (x : Inputs) (file starts sites bs ns ms : List ℕ) → map ends rs ≡ w.reserves
    → AreLists x bs ns ms → file ≡ bs → starts ≡ ns → sites ≡ ms → ((k : ℕ) → slice_index file k < 256)
    → IsGiven w x (asked w.action rs file starts sites)
given w rs x file starts sites bs ns ms r l f s t b = record {
  reserves = rs;
  starts = ns;
  sites = ms;
  reserves_are = r;
  starts_are = l.starts_are;
  sites_are = l.sites_are;
  same = λ i. asked w.action rs ((f ∙ l.file_is) i) (s i) (t i);
  bytes = λ k. subst (λ (z : List ℕ). slice_index z k < 256) (f ∙ l.file_is) (b k);
}

-- what rewriting is judged to be is to be said of the texts
pub verdict_of : {J : Type 0} → (w : Rewriting J) → IsOnce w → (x : Inputs) (a : Asked) (v : Verdict J) → IsGiven w x a → w.Judged a v
    → IsOnly v (OfTexts w (patch_texts x))
verdict_of w once x a v g h =
    only_judged w once x.file.items x.starts.items x.sites.items g.reserves g.starts g.sites v g.bytes g.starts_are g.sites_are g.reserves_are
    (subst (λ (z : Asked). w.Judged z v) g.same h)

-- what is promised, for the starts as the text has them
pub list_followed : {J : Type 0} → (Follows : List ℕ → List ℕ → J → Type 0) (w : Rewriting J) (x : Inputs) (a : Asked) (j : J) → IsGiven w x a
    → Follows a.file a.starts j → ListFollowed Follows x.file.items x.starts.items j
list_followed Follows w x a j g h =
    record { list = g.starts; listed = g.starts_are; followed = subst (λ (z : Asked). Follows z.file z.starts j) g.same h }

-- REPORT couldn't be written
pub unreported : (m : Mode) (name text : List ℕ) (report : ReportValue) (s t : DeskState) (e : Failed) → text ≡ mode_text m ++ report_text report
    → WritesOne name text s t (Err e) → WritesReport m name report s t (Err e)
unreported m name text report s t e q w = inl (subst (λ (b : List ℕ). WritesOne name b s t (Err e)) q w)

-- OUT is written, and then REPORT is or not
both_finish : {J : Type 0} → (f : Form J) (n : Names) (j : J) (s u t : DeskState) (r : Result Answer Failed) → Fills n.out (f.file j) s u (Ok tt)
    → WritesReport f.mode n.report (f.report j) u t r
    → Finishes (form_outputs f n) j (summary_text (f.report j).body.rows, done_status (f.report j).body.rows) s t r
both_finish f n j s u t (Ok a) o w = (w.0, (u, o, w.1))
both_finish f n j s u t (Err e) o w = inr (u, o, w)

-- in any form OUT is written, and then REPORT is or not
pub reported_in : {J : Type 0} → (f : Form J) (p : Patching) → IsOnce (rewriting_in f p) → (x : Inputs) (a : Asked) → IsGiven (rewriting_in f p) x a
    → (j : J) (s u t : DeskState) (r : Result Answer Failed) → f.Judged a (Accepted j) → Fills p.names.out (f.file j) s u (Ok tt)
    → f.Follows a.file a.starts j → WritesReport f.mode p.names.report (f.report j) u t r → Works (form_writing f p) (patch_texts x) s t r
reported_in f p once x a g j s u t r judged o h w = inr (
  j,
  record {
    verdict = verdict_of (rewriting_in f p) once x a (Accepted j) g judged;
    finishes = both_finish f p.names j s u t r o w;
    promised = if_done (ListFollowed f.Follows x.file.items x.starts.items j) r (list_followed f.Follows (rewriting_in f p) x a j g h);
  },
)

-- ---- a rewriting that doesn't end well, for any command that writes the file of a job first

module _ {J R : Type 0} (Judges : Asked → Result J RewriteError → Type 0) (file : J → List ℕ)
    (Is : Asked → List ℕ → DeskState → DeskState → R → J → Type 0) (w : Writing J) (texts : List (List ℕ)) (a : Asked) (out : List ℕ)
    (cut : (j : J) (s t : DeskState) (e : Failed) → WritesOne out (file j) s t (Err e) → WritesAll w.outputs j s t (Err e))
    (only : (v : Verdict J) → IsJudgedAs Rewrite Judges a v → IsOnly v (w.Judges texts)) where
  -- nothing was rewritten, or OUT isn't whole
  pub unfinished : (s t : DeskState) (error : RewriteError) → RewritesBy Judges file Is a out s t (Err error)
      → Works w texts s t (Err (rewrite_failed out error))
  unfinished s t (rewrite.Emit emit.WriteFault) h =
      stopped w texts s t h.0 (Unwritten out) (only (Accepted h.0) h.1) (cut h.0 s t (Unwritten out) (refl, h.2))
  unfinished s t (rewrite.Emit emit.Memory) h = inl (h.1, tt)
  unfinished s t rewrite.Memory (inl e) = inl (e, tt)
  unfinished s t rewrite.Memory (inr h) = stopped w texts s t h.0 NoMemory (only (Accepted h.0) h.1) (cut h.0 s t NoMemory (inr h.2))
  unfinished s t error h = inl (h.1, only (Refused (Rewrite error)) (error, refl, h.0))

-- ---- the same of a rewriting into the loader form

module _ {J R : Type 0} (Judges : Asked → Result J LoaderError → Type 0) (file : J → List ℕ)
    (Is : Asked → List ℕ → DeskState → DeskState → R → J → Type 0) (w : Writing J) (texts : List (List ℕ)) (a : Asked) (out : List ℕ)
    (cut : (j : J) (s t : DeskState) (e : Failed) → WritesOne out (file j) s t (Err e) → WritesAll w.outputs j s t (Err e))
    (only : (v : Verdict J) → IsJudgedAs refusal_told Judges a v → IsOnly v (w.Judges texts)) where
  -- nothing was rewritten, or OUT isn't whole
  pub unloaded : (s t : DeskState) (error : LoaderError) → LoadsBy Judges file Is a out s t (Err error)
      → Works w texts s t (Err (loader_failed out error))
  unloaded s t (loader.Rewrite (rewrite.Emit emit.WriteFault)) h =
      stopped w texts s t h.0 (Unwritten out) (only (Accepted h.0) h.1) (cut h.0 s t (Unwritten out) (refl, h.2))
  unloaded s t (loader.Rewrite (rewrite.Emit emit.Memory)) h = inl (h.1, tt)
  unloaded s t (loader.Rewrite rewrite.Memory) (inl e) = inl (e, tt)
  unloaded s t (loader.Rewrite rewrite.Memory) (inr h) = stopped w texts s t h.0 NoMemory (only (Accepted h.0) h.1) (cut h.0 s t NoMemory (inr h.2))
  unloaded s t (loader.Load load.Memory) h = inl (h.1, tt)
  unloaded s t error h = inl (h.1, only (Refused (refusal_told error)) (error, refl, h.0))
