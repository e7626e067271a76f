-- What the code of `unpatch` holds, and what its private functions do. Contracts of private functions alone cite it.
use Rattle.std.specs.Prelude.{ℕ, List, [], ◌∷◌, length, Result, Ok, Err}
use Rattle.pun_base.specs.Shown.{DeskState}
use Rattle.command_words.specs.Words.{UnpatchNames}
use Rattle.command_io.specs.Writing.{Accepted}
use Rattle.command_io.specs.Failing.{Failed, Answer}
use Rattle.command_io.specs.Works.{IsOnly, EndsEarly, TellsOnly, Finishes}
use Rattle.patch_commands.specs.UnpatchAnswers.{OfBoth, HaveToldLength, restored_text, unpatch_writing}
use Rattle.patch_commands.specs.declared.unpatch_command.UnpatchInputs.{UnpatchInputs}

-- The inputs' bytes, in order.
abbrev pub unpatch_texts : UnpatchInputs → List (List ℕ)
unpatch_texts x = x.patched.items ∷ x.report.items ∷ []

-- The texts are accepted as these bytes.
pub record AreUndone (texts : List (List ℕ)) (bytes : List ℕ) : Type 0 where
  pub verdict : IsOnly (Accepted bytes) (OfBoth texts)
  pub length : HaveToldLength texts bytes

-- They are undone; or they end any undoing of the texts.
abbrev pub Restores : List (List ℕ) → Result (List ℕ) Failed → Type 0
Restores texts (Ok bytes) = AreUndone texts bytes
Restores texts (Err e) = (n : UnpatchNames) → EndsEarly (unpatch_writing n) texts (Err e)

-- The line with a length, or memory ran out.
abbrev pub TellsLength : ℕ → Result Answer Failed → Type 0
TellsLength len r = TellsOnly (restored_text len, 0) r

-- NEW was written, and its length is answered; or not.
abbrev pub WritesNew : List ℕ → List ℕ → DeskState → DeskState → Result Answer Failed → Type 0
WritesNew name bytes s t result = Finishes ((name, λ (b : List ℕ). b) ∷ []) bytes (restored_text (length bytes), 0) s t result
