-- A file is judged, and what is settled is written.
use Rattle.std.proofs.Common.{◌≡◌, ℕ, inr, List, [], ◌∷◌, Option, Some, None, Result, Ok, Err, refl, sym, ap, ◌∙◌, subst}
use Rattle.pun_base.specs.Shown.{DeskState}
use Rattle.settle.specs.declared.error.SettleError.{SettleError}
use Rattle.settle.specs.declared.error.SettleError.TheVariants as settle
use Rattle.settle.specs.Settled.{settled}
use Rattle.settle.specs.Refusals as rules
use Rattle.settle.specs.Refusals.{settle_refusal, chosen_base}
use Rattle.settle.specs.Laws.{IsReadable}
use Rattle.settle.proofs.TakenFiles.{unrefused_is_taken}
use Rattle.settle.proofs.MovedImages.{settled_loads}
use Rattle.settle.proofs.Undoing.{settled_is_undone}
use Rattle.settled_runs.proofs.BesideRuns.{settled_follows}
use Rattle.settled_runs.proofs.QuietStub.{settled_is_quiet}
use Rattle.command_words.specs.Words.{SettleNames}
use Rattle.command_io.specs.Refusals.{Settle}
use Rattle.command_io.specs.Inputs as inputs
use Rattle.command_io.specs.Inputs.{Gathered, gathered}
use Rattle.command_io.specs.Writing.{Verdict, Missing, Refused, Accepted, OfGathered}
use Rattle.command_io.specs.Failing.{Failed, Answer, settle_failed}
use Rattle.command_io.specs.Works.{IsOnly, EndsEarly, Works}
use Rattle.command_io.proofs.WholeCommands.{if_done}
use Rattle.settle_commands.specs.SettleAnswers.{SettleJob, verdict_of, OfFile, IsSettledWell, SettlesWell, settle_inputs, settle_writing, SettleHasOneVerdict}
use Rattle.settle_commands.specs.Settling.{IsSettledAs, WritesOut}

-- ---- there is one verdict at most

one_file : (base : Option ℕ) (texts : List (List ℕ)) (v w : Verdict SettleJob) → OfFile base texts v → OfFile base texts w → v ≡ w
one_file base (file ∷ []) v w g h = g ∙ sym h
one_file base other v w g h = absurd g

one_gathered : (base : Option ℕ) (g : Gathered) (v w : Verdict SettleJob) → OfGathered (OfFile base) g v → OfGathered (OfFile base) g w → v ≡ w
one_gathered base (inputs.Missing name) v w g h = g ∙ sym h
one_gathered base (inputs.TooLong which) v w g h = g ∙ sym h
one_gathered base (inputs.All texts) v w g h = one_file base texts v w g h

-- the input of `settle` has one verdict at most
pub one_settle_verdict : SettleHasOneVerdict
one_settle_verdict files n base v w g h = one_gathered base (gathered files (settle_inputs n)) v w g h

-- ---- by what settling answers

module _ (base : Option ℕ) (file : List ℕ) where
  -- the verdict is the only one
  only_verdict : (o : Option SettleError) → settle_refusal (chosen_base base file) file ≡ o → IsOnly (verdict_of base file o) (OfFile base (file ∷ []))
  only_verdict o e = record { so = sym (ap (verdict_of base file) e); alone = λ w h. h ∙ ap (verdict_of base file) e }

  -- a file that is refused ends `settle` before anything is written
  pub settle_refused : (e : SettleError) (n : SettleNames) → rules.Refused (chosen_base base file) file e
      → EndsEarly (settle_writing n base) (file ∷ []) (Err (settle_failed e))
  settle_refused settle.Memory n h = tt
  settle_refused e n h = only_verdict (Some e) h

  -- what isn't refused is settled well
  settled_well : IsReadable file → (b : ℕ) → settle_refusal b file ≡ None → IsSettledWell b file
  settled_well readable b h =
      let t = unrefused_is_taken b file readable h in
      record {
        taken = t;
        back = settled_is_undone b file readable h;
        loads = settled_loads b file t.settleable;
        runs = λ further s n vs ks i. settled_follows b file further s n vs ks t.settleable t.placeable i;
        quiet = λ further s n vs ks listed i l. settled_is_quiet b file further s n vs ks listed t.settleable t.placeable i l;
      }

  -- a file that isn't refused is accepted as what is settled
  pub is_settled_as : IsReadable file → (b : ℕ) (bytes : List ℕ) → settle_refusal (chosen_base base file) file ≡ None → b ≡ chosen_base base file
      → bytes ≡ settled (chosen_base base file) file → IsSettledAs base file (b, bytes)
  is_settled_as readable b bytes h e f = record {
    verdict = subst (λ (x : ℕ). IsOnly (Accepted (record { base = x; file = file })) (OfFile base (file ∷ []))) (sym e) (only_verdict None h);
    bytes = f ∙ ap (λ (x : ℕ). settled x file) (sym e);
    well = settled_well readable b (ap (λ (x : ℕ). settle_refusal x file) e ∙ h);
  }

-- the text was settled, and OUT was written or not
pub wrote_out : (n : SettleNames) (base : Option ℕ) (file : List ℕ) (x : ℕ × List ℕ) (s t : DeskState) (r : Result Answer Failed) → IsSettledAs base file x
    → WritesOut n.out (record { base = x.0; file = file }) s t r → Works (settle_writing n base) (file ∷ []) s t r
wrote_out n base file x s t r a w =
    let job : SettleJob = record { base = x.0; file = file } in
    inr (job, record { verdict = a.verdict; finishes = w; promised = if_done (SettlesWell (file ∷ []) job) r (record { text = refl; well = a.well }) })
