-- What `unsettle` reads, judges, writes, prints and promises. Theorems cite it.
use Rattle.std.specs.Prelude.{◌≡◌, ℕ, List, [], ◌∷◌, ◌++◌, length, Option, Some, None, codes}
use Rattle.std.specs.Fmt.{decimal}
use Rattle.pun_base.specs.Shown.{Files}
use Rattle.settle.specs.declared.error.UnsettleError.TheVariants.{NotSettled}
use Rattle.settle.specs.Settled.{settled}
use Rattle.settle.specs.Refusals.{settle_refusal}
use Rattle.settle.specs.Undone.{base_in, unsettled}
use Rattle.command_words.specs.Words.{UnsettleNames}
use Rattle.command_io.specs.Refusals.{Unsettle}
use Rattle.command_io.specs.Inputs.{Inputs}
use Rattle.command_io.specs.Writing.{Verdict, Refused, Accepted, Outputs, Writing, IsInputVerdict}
use Rattle.command_io.specs.declared.ends.Input.TheVariants as input

-- FILE is read.
abbrev pub unsettle_inputs : UnsettleNames → Inputs
unsettle_inputs n = (input.File, n.file) ∷ []

-- The file that was settled is written as NEW.
abbrev pub unsettle_outputs : UnsettleNames → Outputs (List ℕ)
unsettle_outputs n = (n.new, λ bytes. bytes) ∷ []

-- The verdict, by the file that was settled, if there is one.
abbrev pub back_verdict : Option (List ℕ) → Verdict (List ℕ)
back_verdict None = Refused (Unsettle NotSettled)
back_verdict (Some bytes) = Accepted bytes

-- What is to be said of the text of FILE.
abbrev pub OfSettled : List (List ℕ) → Verdict (List ℕ) → Type 0
OfSettled (out ∷ []) v = v ≡ back_verdict (unsettled out)
OfSettled other v = ⊥

-- ---- what is answered

-- The line that is printed, with the number of bytes that are given back.
unfoldable pub unsettled_text : ℕ → List ℕ
unsettled_text len = codes "unsettled " ++ (decimal len ++ codes "\n")

-- The status of a file that came back.
abbrev pub IsUnsettled : ℕ → Type 0
IsUnsettled status = status ≡ 0

-- FILE is what `settle` writes for these bytes, at the base that FILE tells.
abbrev pub WasSettled : List (List ℕ) → List ℕ → Type 0
WasSettled (out ∷ []) bytes = (settle_refusal (base_in out) bytes ≡ None) × (settled (base_in out) bytes ≡ out)
WasSettled other bytes = ⊥

-- `unsettle`, with its names.
abbrev pub unsettle_writing : UnsettleNames → Writing (List ℕ)
unsettle_writing n = record {
  inputs = unsettle_inputs n;
  Judges = OfSettled;
  outputs = unsettle_outputs n;
  text = λ bytes. unsettled_text (length bytes);
  status = λ bytes. 0;
  IsOwn = IsUnsettled;
  Promises = WasSettled;
}

-- There is one verdict at most.
abbrev pub UnsettleHasOneVerdict : Type 0
UnsettleHasOneVerdict =
    (files : Files) (n : UnsettleNames) (v w : Verdict (List ℕ)) → IsInputVerdict (unsettle_writing n) files v
    → IsInputVerdict (unsettle_writing n) files w → v ≡ w
