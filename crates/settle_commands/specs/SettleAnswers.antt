-- What `settle` reads, judges, writes, prints and promises. Theorems cite it.
use Rattle.std.specs.Prelude.{◌≡◌, ℕ, List, [], ◌∷◌, ◌++◌, Option, Some, None, codes}
use Rattle.pun_base.specs.Memory.{Bytes}
use Rattle.pun_base.specs.Shown.{Files}
use Rattle.start_entries.specs.declared.entry.StartEntry.{StartEntry}
use Rattle.insn_form.specs.Machine.{Machine}
use Rattle.elf_read.specs.Image.{image_of}
use Rattle.patch_report.specs.Spelling.{hex8}
use Rattle.settle.specs.declared.error.SettleError.{SettleError}
use Rattle.settle.specs.Settled.{settled, image_at}
use Rattle.settle.specs.Refusals.{settle_refusal, chosen_base}
use Rattle.settle.specs.Undone.{unsettled}
use Rattle.settle.specs.Laws.{IsTaken}
use Rattle.settled_runs.specs.Laws.{IsSettledStart, Follows}
use Rattle.settled_runs.specs.Quiet.{ListsStub, QuietlyFollows}
use Rattle.command_words.specs.Words.{SettleNames}
use Rattle.command_io.specs.Refusals.{Settle}
use Rattle.command_io.specs.Inputs.{Inputs}
use Rattle.command_io.specs.Writing.{Verdict, Refused, Accepted, Outputs, Writing, IsInputVerdict}
use Rattle.command_io.specs.declared.ends.Input.TheVariants as input

-- FILE is read.
abbrev pub settle_inputs : SettleNames → Inputs
settle_inputs n = (input.File, n.file) ∷ []

-- A file that is to be settled, and its base.
pub record SettleJob : Type 0 where
  pub base : ℕ
  pub file : List ℕ

-- The settled file is written as OUT.
abbrev pub settle_outputs : SettleNames → Outputs SettleJob
settle_outputs n = (n.out, λ job. settled job.base job.file) ∷ []

-- The verdict on a file, by the first refusal that holds of it at the base that is told, or else at the highest.
abbrev pub verdict_of : Option ℕ → List ℕ → Option SettleError → Verdict SettleJob
verdict_of base file (Some error) = Refused (Settle error)
verdict_of base file None = Accepted (record { base = chosen_base base file; file = file })

-- What is to be said of the text of FILE.
abbrev pub OfFile : Option ℕ → List (List ℕ) → Verdict SettleJob → Type 0
OfFile base (file ∷ []) v = v ≡ verdict_of base file (settle_refusal (chosen_base base file) file)
OfFile base other v = ⊥

-- ---- what is answered

-- The line that is printed, with the base.
unfoldable pub settled_text : ℕ → List ℕ
settled_text base = codes "settled " ++ (hex8 base ++ codes "\n")

-- The status of a file that was settled.
abbrev pub IsSettled : ℕ → Type 0
IsSettled status = status ≡ 0

-- What is promised of a file and its base.
pub record IsSettledWell (b : ℕ) (file : List ℕ) : Type 0 where
  -- every other command takes the settled file
  pub taken : IsTaken b file
  -- the file comes back
  pub back : unsettled (settled b file) ≡ Some file
  -- the settled file loads its front, and what the file loads, moved by the base
  pub loads : (a : ℕ) → image_of (settled b file) a ≡ image_at b file a
  -- from where a kernel starts it, it follows whatever run the file makes at that base
  pub runs : (further : Bytes) (s : Machine) (n : ℕ) (vs ks : List ℕ) → IsSettledStart b file further s n vs ks → Follows b file further s n vs ks
  -- and is quiet where that run is
  pub quiet : (further : Bytes) (s : Machine) (n : ℕ) (vs ks : List ℕ) (listed : List StartEntry) → IsSettledStart b file further s n vs ks
      → ListsStub b file further listed → QuietlyFollows b file further s n vs ks listed

-- So it is of the job of FILE's text.
pub record SettlesWell (texts : List (List ℕ)) (job : SettleJob) : Type 0 where
  pub text : texts ≡ job.file ∷ []
  pub well : IsSettledWell job.base job.file

-- `settle`, with its names and the base that is told.
abbrev pub settle_writing : SettleNames → Option ℕ → Writing SettleJob
settle_writing n base = record {
  inputs = settle_inputs n;
  Judges = OfFile base;
  outputs = settle_outputs n;
  text = λ job. settled_text job.base;
  status = λ job. 0;
  IsOwn = IsSettled;
  Promises = SettlesWell;
}

-- There is one verdict at most.
abbrev pub SettleHasOneVerdict : Type 0
SettleHasOneVerdict =
    (files : Files) (n : SettleNames) (base : Option ℕ) (v w : Verdict SettleJob) → IsInputVerdict (settle_writing n base) files v
    → IsInputVerdict (settle_writing n base) files w → v ≡ w
