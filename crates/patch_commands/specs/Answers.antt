-- What `patch` reads, judges, writes, prints and promises, and what words of no command's form do. Theorems cite it. `patch` has any form
-- of the patched file. In all of it s and t are what the desk shows before and after, k and l what the sink shows.
use Rattle.std.specs.Prelude.{◌≡◌, ℕ, ◌≤◌, List, [], ◌∷◌, Some, Ok}
use Rattle.pun_base.specs.Shown.{Files, DeskState, SinkState}
use Rattle.patch_report.specs.Values.{ReportValue}
use Rattle.patch_report.specs.Spelling.{report_text}
use Rattle.rewrite_core.specs.Judging.{Job}
use Rattle.rewrite_core.specs.Followed.{IsFollowed}
use Rattle.command_words.specs.Words.{Names, usage_text}
use Rattle.command_io.specs.Summary.{summary_text, done_status}
use Rattle.command_io.specs.Messages.{Answer, TellsOne}
use Rattle.command_io.specs.Inputs.{Inputs, WhereTold}
use Rattle.command_io.specs.Writing.{Verdict, Outputs, Writing, IsInputVerdict, Writes}
use Rattle.command_io.specs.Verdict.{Patching, starts_of, Form, reported_text, plain, rewriting_in, OfTexts, HoldsBytes}
use Rattle.command_io.specs.declared.ends.Input.TheVariants as input

-- Words that are of no command's form: the usage is told, with status 2, and what the desk
-- shows is as before.
pub record IsUsage (s t : DeskState) (k l : SinkState) (status : ℕ) : Type 0 where
  pub untouched : t ≡ s
  pub told : TellsOne (λ m. m ≡ Answer usage_text 2) k l status

-- The statuses of a patch that did its work: 0, or 1 where some site is left.
abbrev pub IsDone : ℕ → Type 0
IsDone status = status ≤ 1

-- FILE, STARTS and SITES are read in this order.
abbrev pub listed_inputs : (file starts sites : List ℕ) → Inputs
listed_inputs file starts sites = (input.File, file) ∷ (input.Starts, starts) ∷ (input.Sites, sites) ∷ []

-- So are those of each form.
abbrev pub patch_inputs : Names → Inputs
patch_inputs n = listed_inputs n.file n.starts n.sites

-- OUT is written, and then REPORT.
abbrev pub form_outputs : {J : Type 0} → Form J → Names → Outputs J
form_outputs f n = (n.out, f.file) ∷ (n.report, reported_text f) ∷ []

-- What is promised of texts of FILE and STARTS: STARTS lists instructions, and the patched file follows the original.
pub record ListFollowed {J : Type 0} (Follows : List ℕ → List ℕ → J → Type 0) (file starts : List ℕ) (job : J) : Type 0 where
  pub list : List ℕ
  pub listed : starts_of starts ≡ Ok list
  pub followed : Follows file list job

-- The same of the texts of all inputs.
abbrev pub TextsFollowed : {J : Type 0} → (List ℕ → List ℕ → J → Type 0) → List (List ℕ) → J → Type 0
TextsFollowed Follows (file ∷ starts ∷ sites ∷ []) job = ListFollowed Follows file starts job
TextsFollowed Follows other job = ⊥

-- Patching in a form, with what it is given.
abbrev pub form_writing : {J : Type 0} → Form J → Patching → Writing J
form_writing f p = record {
  inputs = patch_inputs p.names;
  Judges = OfTexts (rewriting_in f p);
  outputs = form_outputs f p.names;
  text = λ job. summary_text (f.report job).body.rows;
  status = λ job. done_status (f.report job).body.rows;
  IsOwn = IsDone;
  Promises = TextsFollowed f.Follows;
}

-- `patch`, with what it is given.
abbrev pub patch_writing : Patching → Writing Job
patch_writing p = form_writing plain p

-- There is one verdict at most.
abbrev pub HasOneVerdict : {J : Type 0} → Form J → Type 0
HasOneVerdict {J = J} f =
    (files : Files) (p : Patching) (v w : Verdict J) → HoldsBytes files p.names.file
    → IsInputVerdict (form_writing f p) files v → IsInputVerdict (form_writing f p) files w → v ≡ w

-- What is promised, of the files before and after patching in a form. FILE held an original and STARTS the list of its instructions;
-- OUT holds the file of a job and REPORT the text of its report, in the form's mode.
pub record FormFollowed {J : Type 0} (f : Form J) (n : Names) (old new : Files) : Type 0 where
  pub file : List ℕ
  pub starts : List ℕ
  pub job : J
  pub held_file : old n.file ≡ Some file
  pub held_starts : old n.starts ≡ Some starts
  pub holds_out : new n.out ≡ Some (f.file job)
  pub holds_report : new n.report ≡ Some (reported_text f job)
  -- the addresses that the text of STARTS lists
  pub list : List ℕ
  pub listed : starts_of starts ≡ Ok list
  pub followed : f.Follows file list job

-- What patching in a form does, with what it is given.
pub record PatchesIn {J : Type 0} (f : Form J) (p : Patching) (s t : DeskState) (k l : SinkState) (status : ℕ) : Type 0 where
  pub writes : Writes (form_writing f p) s t k l status
  -- what is promised of the patched file and its report
  pub followed : WhereTold s (λ files. (new : Files) → t.held ≡ Some new → IsDone status → FormFollowed f p.names files new)

-- The headline, of the files before and after a patch. FILE held an original and STARTS the list of
-- its instructions; OUT holds a patched file and REPORT the text of a report. The patched file
-- follows the original: it is sound, it starts where the original does, and outside its new code it
-- runs through exactly the original's states, with an event before each patched site.
pub record FilesFollowed (n : Names) (old new : Files) : Type 0 where
  pub file : List ℕ
  pub starts : List ℕ
  pub out : List ℕ
  pub text : List ℕ
  pub held_file : old n.file ≡ Some file
  pub held_starts : old n.starts ≡ Some starts
  pub holds_out : new n.out ≡ Some out
  pub holds_report : new n.report ≡ Some text
  -- the addresses that the text of STARTS lists, and the report that the text of REPORT tells
  pub list : List ℕ
  pub report : ReportValue
  pub listed : starts_of starts ≡ Ok list
  pub told : text ≡ report_text report
  pub followed : IsFollowed file list out report

-- What `patch` does, with what it is given.
pub record Patches (p : Patching) (s t : DeskState) (k l : SinkState) (status : ℕ) : Type 0 where
  pub writes : Writes (patch_writing p) s t k l status
  -- the headline
  pub followed : WhereTold s (λ files. (new : Files) → t.held ≡ Some new → IsDone status → FilesFollowed p.names files new)
