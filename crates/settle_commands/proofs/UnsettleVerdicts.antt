-- A settled file is judged, and what was settled is written.
use Rattle.std.proofs.Common.{◌≡◌, ℕ, inr, List, [], ◌∷◌, Option, Some, None, Result, Ok, Err, refl, sym, ap, ◌∙◌}
use Rattle.pun_base.specs.Shown.{DeskState}
use Rattle.settle.specs.declared.error.UnsettleError.{UnsettleError}
use Rattle.settle.specs.declared.error.UnsettleError.TheVariants as unsettle
use Rattle.settle.specs.Undone.{unsettled, NotUndone}
use Rattle.settle.proofs.Undoing.{undone_was_settled}
use Rattle.command_words.specs.Words.{UnsettleNames}
use Rattle.command_io.specs.Inputs as inputs
use Rattle.command_io.specs.Inputs.{Gathered, gathered}
use Rattle.command_io.specs.Writing.{Verdict, Missing, Refused, Accepted, OfGathered}
use Rattle.command_io.specs.Failing.{Failed, Answer, unsettle_failed}
use Rattle.command_io.specs.Works.{IsOnly, EndsEarly, Works}
use Rattle.command_io.proofs.WholeCommands.{if_done}
use Rattle.settle_commands.specs.UnsettleAnswers.{back_verdict, OfSettled, WasSettled, unsettle_inputs, unsettle_writing, UnsettleHasOneVerdict}
use Rattle.settle_commands.specs.Settling.{IsGivenBack, WritesNew}

-- ---- there is one verdict at most

one_settled : (texts : List (List ℕ)) (v w : Verdict (List ℕ)) → OfSettled texts v → OfSettled texts w → v ≡ w
one_settled (out ∷ []) v w g h = g ∙ sym h
one_settled other v w g h = absurd g

one_gathered : (g : Gathered) (v w : Verdict (List ℕ)) → OfGathered OfSettled g v → OfGathered OfSettled g w → v ≡ w
one_gathered (inputs.Missing name) v w g h = g ∙ sym h
one_gathered (inputs.TooLong which) v w g h = g ∙ sym h
one_gathered (inputs.All texts) v w g h = one_settled texts v w g h

-- the input of `unsettle` has one verdict at most
pub one_unsettle_verdict : UnsettleHasOneVerdict
one_unsettle_verdict files n v w g h = one_gathered (gathered files (unsettle_inputs n)) v w g h

-- ---- by what unsettling answers

module _ (out : List ℕ) where
  only_verdict : (o : Option (List ℕ)) → unsettled out ≡ o → IsOnly (back_verdict o) (OfSettled (out ∷ []))
  only_verdict o e = record { so = sym (ap back_verdict e); alone = λ w h. h ∙ ap back_verdict e }

  -- a file that isn't a settled one ends `unsettle` before anything is written
  pub unsettle_refused : (e : UnsettleError) (n : UnsettleNames) → NotUndone out e → EndsEarly (unsettle_writing n) (out ∷ []) (Err (unsettle_failed e))
  unsettle_refused unsettle.Memory n h = tt
  unsettle_refused unsettle.NotSettled n h = only_verdict None h

  -- what comes back is accepted
  pub is_given_back : (bytes : List ℕ) → unsettled out ≡ Some bytes → IsGivenBack out bytes
  is_given_back bytes h = record { verdict = only_verdict (Some bytes) h; was = undone_was_settled out bytes h }

-- the text came back, and NEW was written or not
pub wrote_new : (n : UnsettleNames) (out bytes : List ℕ) (s t : DeskState) (r : Result Answer Failed) → IsGivenBack out bytes
    → WritesNew n.new bytes s t r → Works (unsettle_writing n) (out ∷ []) s t r
wrote_new n out bytes s t r a w = inr (bytes, record { verdict = a.verdict; finishes = w; promised = if_done (WasSettled (out ∷ []) bytes) r a.was })
