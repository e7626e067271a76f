-- What the code of `settle` and `unsettle` holds, and what its private functions do. Contracts of private functions alone cite it.
use Rattle.std.specs.Prelude.{◌≡◌, ℕ, List, [], ◌∷◌, length, Option, Result, Ok, Err}
use Rattle.pun_base.specs.Shown.{DeskState}
use Rattle.settle.specs.Settled.{settled}
use Rattle.settle.specs.Refusals.{chosen_base}
use Rattle.settle.specs.declared.settling.SettledFile.{SettledFile}
use Rattle.command_words.specs.Words.{SettleNames, UnsettleNames}
use Rattle.command_io.specs.Writing.{Accepted}
use Rattle.command_io.specs.Failing.{Failed, Answer}
use Rattle.command_io.specs.Works.{IsOnly, EndsEarly, TellsOnly, Finishes}
use Rattle.settle_commands.specs.SettleAnswers.{SettleJob, OfFile, IsSettledWell, settled_text, settle_writing}
use Rattle.settle_commands.specs.UnsettleAnswers.{OfSettled, WasSettled, unsettled_text, unsettle_writing}
use Rattle.settle_commands.specs.declared.settle_command.SettleInputs.{SettleInputs}
use Rattle.settle_commands.specs.declared.unsettle_command.UnsettleInputs.{UnsettleInputs}

-- The input's bytes.
abbrev pub settle_texts : SettleInputs → List (List ℕ)
settle_texts x = x.file.items ∷ []

abbrev pub unsettle_texts : UnsettleInputs → List (List ℕ)
unsettle_texts x = x.file.items ∷ []

-- A base and bytes, as a settled file that the code holds.
abbrev pub seen_file : SettledFile → ℕ × List ℕ
seen_file x = (x.base, x.bytes.items)

-- The file is accepted, and these are its base and the settled file.
pub record IsSettledAs (base : Option ℕ) (file : List ℕ) (x : ℕ × List ℕ) : Type 0 where
  pub verdict : IsOnly (Accepted (record { base = x.0; file = file })) (OfFile base (file ∷ []))
  pub bytes : x.1 ≡ settled x.0 file
  pub well : IsSettledWell x.0 file

-- It is settled; or it ends any settling of the text.
abbrev pub SettlesText : Option ℕ → List ℕ → Result (ℕ × List ℕ) Failed → Type 0
SettlesText base file (Ok x) = IsSettledAs base file x
SettlesText base file (Err e) = (n : SettleNames) → EndsEarly (settle_writing n base) (file ∷ []) (Err e)

-- The line with a base, or memory ran out.
abbrev pub TellsBase : ℕ → Result Answer Failed → Type 0
TellsBase base r = TellsOnly (settled_text base, 0) r

-- OUT was written for a job, and its base is answered; or not.
abbrev pub WritesOut : List ℕ → SettleJob → DeskState → DeskState → Result Answer Failed → Type 0
WritesOut name job s t result = Finishes ((name, λ (j : SettleJob). settled j.base j.file) ∷ []) job (settled_text job.base, 0) s t result

-- The text comes back as these bytes.
pub record IsGivenBack (out : List ℕ) (bytes : List ℕ) : Type 0 where
  pub verdict : IsOnly (Accepted bytes) (OfSettled (out ∷ []))
  pub was : WasSettled (out ∷ []) bytes

-- It comes back; or it ends any unsettling of the text.
abbrev pub UnsettlesText : List ℕ → Result (List ℕ) Failed → Type 0
UnsettlesText out (Ok bytes) = IsGivenBack out bytes
UnsettlesText out (Err e) = (n : UnsettleNames) → EndsEarly (unsettle_writing n) (out ∷ []) (Err e)

-- The line with a length, or memory ran out.
abbrev pub TellsCount : ℕ → Result Answer Failed → Type 0
TellsCount len r = TellsOnly (unsettled_text len, 0) r

-- NEW was written, and its length is answered; or not.
abbrev pub WritesNew : List ℕ → List ℕ → DeskState → DeskState → Result Answer Failed → Type 0
WritesNew name bytes s t result = Finishes ((name, λ (b : List ℕ). b) ∷ []) bytes (unsettled_text (length bytes), 0) s t result
