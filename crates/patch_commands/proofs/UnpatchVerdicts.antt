-- A patched file and its report are judged, and what is undone is written.
use Rattle.std.proofs.Common.{◌≡◌, ℕ, inr, List, [], ◌∷◌, Option, Some, None, Result, Ok, Err, refl, sym, ap, ◌∙◌, subst}
use Rattle.pun_base.specs.Shown.{DeskState}
use Rattle.elf_read.specs.Refusals as files
use Rattle.elf_read.specs.declared.refusal.ElfError.{ElfError}
use Rattle.elf_read.specs.declared.refusal.ElfError.TheVariants as elf
use Rattle.patch_report.specs.Runs.{runs}
use Rattle.patch_report.specs.Values.{ReportValue, WriteValue}
use Rattle.patch_report.specs.declared.origin.Origin.{Origin}
use Rattle.patch_report.specs.declared.error.ReportError.{ReportError}
use Rattle.patch_report.specs.declared.error.ReportError.TheVariants as errors
use Rattle.unpatch.specs.Refusals as undoing
use Rattle.unpatch.specs.Refusals.{Undoes, UndoneBy}
use Rattle.unpatch.specs.declared.error.UnpatchError.{UnpatchError}
use Rattle.unpatch.specs.declared.error.UnpatchError.TheVariants as undo
use Rattle.unpatch.proofs.RestoreAnswers.{length_is_told}
use Rattle.command_words.specs.Words.{UnpatchNames}
use Rattle.command_io.specs.Refusals.{BadReport, BadFile, Undo}
use Rattle.command_io.specs.Inputs as inputs
use Rattle.command_io.specs.Inputs.{Gathered, gathered}
use Rattle.command_io.specs.Writing.{Verdict, Missing, Refused, Accepted, OfGathered}
use Rattle.command_io.specs.ReportModes.{IsModedText, IsReadIn, ReadsIn}
use Rattle.command_io.specs.declared.report_mode.Mode.{Mode}
use Rattle.command_io.specs.Failing.{Failed, Answer, report_failed, file_failed, undo_failed}
use Rattle.command_io.specs.Works.{IsOnly, EndsEarly, Works}
use Rattle.command_io.proofs.WholeCommands.{if_done}
use Rattle.command_io.proofs.ModedReadings.{one_moded_reading}
use Rattle.patch_commands.specs.UnpatchAnswers.{unpatch_inputs, OfUndoing, OfPatched, OfReport, OfBoth, HaveToldLength, unpatch_writing, UnpatchHasOneVerdict}
use Rattle.patch_commands.specs.Unpatching.{AreUndone, WritesNew}
use Rattle.command_io.specs.declared.ends.Input.TheVariants as input

-- ---- there is one verdict at most

-- the file undone is one
one_undone : (file : List ℕ) (o : Option Origin) (ws : List WriteValue) (xs ys : List ℕ) → UndoneBy file o ws xs → UndoneBy file o ws ys → xs ≡ ys
one_undone file None ws xs ys g h = absurd g
one_undone file (Some o) ws xs ys g h = g ∙ sym h

one_undoing : (patched : List ℕ) (report : ReportValue) (e : Option UnpatchError) (v w : Verdict (List ℕ))
    → OfUndoing patched report e v → OfUndoing patched report e w → v ≡ w
one_undoing patched report (Some error) v w g h = g ∙ sym h
one_undoing patched report None (Accepted xs) (Accepted ys) g h =
    ap (λ (b : List ℕ). Accepted b) (one_undone patched report.origin (runs report.body) xs ys g h)
one_undoing patched report None (Accepted xs) (Refused r) g h = absurd h
one_undoing patched report None (Accepted xs) (Missing name) g h = absurd h
one_undoing patched report None (Refused r) w g h = absurd g
one_undoing patched report None (Missing name) w g h = absurd g

one_patched : (patched : List ℕ) (report : ReportValue) (e : Option ElfError) (v w : Verdict (List ℕ))
    → OfPatched patched report e v → OfPatched patched report e w → v ≡ w
one_patched patched report (Some error) v w g h = g ∙ sym h
one_patched patched report None v w g h = one_undoing patched report (undoing.refusal patched report) v w g h

one_report : (patched : List ℕ) (r : Result (Mode × ReportValue) ReportError) (v w : Verdict (List ℕ)) → OfReport patched r v → OfReport patched r w → v ≡ w
one_report patched (Err error) v w g h = g ∙ sym h
one_report patched (Ok x) v w g h = one_patched patched x.1 (files.refusal 0x10000 patched) v w g h

-- of both texts
one_both : (texts : List (List ℕ)) (v w : Verdict (List ℕ)) → OfBoth texts v → OfBoth texts w → v ≡ w
one_both (patched ∷ text ∷ []) v w g h =
    one_report patched g.0 v w g.2 (subst (λ (q : Result (Mode × ReportValue) ReportError). OfReport patched q w) (one_moded_reading text h.0 g.0 h.1 g.1) h.2)
one_both other v w g h = absurd g

-- by what reading comes to
one_gathered : (g : Gathered) (v w : Verdict (List ℕ)) → OfGathered OfBoth g v → OfGathered OfBoth g w → v ≡ w
one_gathered (inputs.Missing name) v w g h = g ∙ sym h
one_gathered (inputs.TooLong which) v w g h = g ∙ sym h
one_gathered (inputs.All texts) v w g h = one_both texts v w g h

-- the inputs of `unpatch` have one verdict at most
pub one_unpatch_verdict : UnpatchHasOneVerdict
one_unpatch_verdict files n v w g h = one_gathered (gathered files (unpatch_inputs n)) v w g h

module _ (patched text : List ℕ) where
  -- what is to be said of the texts, and nothing else is
  only_both : (r : Result (Mode × ReportValue) ReportError) (v : Verdict (List ℕ)) → IsReadIn text r → OfReport patched r v
      → IsOnly v (OfBoth (patched ∷ text ∷ []))
  only_both r v i o = record {
    so = (r, i, o);
    alone = λ w h.
        one_report patched r w v (subst (λ (q : Result (Mode × ReportValue) ReportError). OfReport patched q w) (one_moded_reading text h.0 r h.1 i) h.2) o;
  }

  -- a refused REPORT ends `unpatch` before anything is written
  pub report_refused : (e : ReportError) (n : UnpatchNames) → ReadsIn text (Err e)
      → EndsEarly (unpatch_writing n) (patched ∷ text ∷ []) (Err (report_failed e))
  report_refused errors.Memory n h = tt
  report_refused (errors.BadReport line) n h = only_both (Err (errors.BadReport line)) (Refused (BadReport (errors.BadReport line))) h refl
  report_refused (errors.BadVersion line) n h = only_both (Err (errors.BadVersion line)) (Refused (BadReport (errors.BadVersion line))) h refl

  module _ (mode : Mode) (report : ReportValue) (i : IsModedText text mode report) where
    -- by what refuses the file
    of_patched : (e : Option ElfError) (v : Verdict (List ℕ)) → files.refusal 0x10000 patched ≡ e → OfPatched patched report e v
        → IsOnly v (OfBoth (patched ∷ text ∷ []))
    of_patched e v q h = only_both (Ok (mode, report)) v i (subst (λ (x : Option ElfError). OfPatched patched report x v) (sym q) h)

    -- so does a patched file that is refused, behind a report
    pub file_refused : (e : ElfError) (n : UnpatchNames) → files.Refused 0x10000 patched e
        → EndsEarly (unpatch_writing n) (patched ∷ text ∷ []) (Err (file_failed input.Out e))
    file_refused elf.Memory n h = tt
    file_refused e n h = of_patched (Some e) (Refused (BadFile input.Out e)) h refl

    module _ (f : files.refusal 0x10000 patched ≡ None) where
      -- by what refuses undoing a file that can be loaded
      pub of_undoing : (e : Option UnpatchError) (v : Verdict (List ℕ)) → undoing.refusal patched report ≡ e → OfUndoing patched report e v
          → IsOnly v (OfBoth (patched ∷ text ∷ []))
      of_undoing e v q h = of_patched None v f (subst (λ (x : Option UnpatchError). OfUndoing patched report x v) (sym q) h)

      -- so does a report that isn't of the file
      pub undo_refused : (e : UnpatchError) (n : UnpatchNames) → undoing.Refused patched report e
          → EndsEarly (unpatch_writing n) (patched ∷ text ∷ []) (Err (undo_failed e))
      undo_refused undo.Memory n h = tt
      undo_refused e n h = of_undoing (Some e) (Refused (Undo e)) h refl

      -- bytes undone by an accepted report are those that `unpatch` accepts
      pub are_undone : (bytes : List ℕ) → undoing.refusal patched report ≡ None → Undoes patched report bytes
          → AreUndone (patched ∷ text ∷ []) bytes
      are_undone bytes a u =
          record { verdict = of_undoing None (Accepted bytes) a u; length = (mode, report, i, length_is_told patched report bytes a u) }

-- the texts were undone, and NEW was written or not
pub wrote_new : (n : UnpatchNames) (texts : List (List ℕ)) (bytes : List ℕ) (s t : DeskState) (r : Result Answer Failed) → AreUndone texts bytes
    → WritesNew n.new bytes s t r → Works (unpatch_writing n) texts s t r
wrote_new n texts bytes s t r a w =
    inr (bytes, record { verdict = a.verdict; finishes = w; promised = if_done (HaveToldLength texts bytes) r a.length })
