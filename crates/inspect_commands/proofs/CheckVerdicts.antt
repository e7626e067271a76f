-- The texts of `check` are judged.
use Rattle.std.proofs.Common.{◌≡◌, ℕ, ◌≤◌, inl, inr, List, [], ◌∷◌, None, Result, Ok, Err, refl, sym, subst, arith}
use Rattle.elf_read.specs.Refusals as files
use Rattle.elf_read.specs.declared.refusal.ElfError.{ElfError}
use Rattle.elf_read.specs.declared.refusal.ElfError.TheVariants as elf
use Rattle.start_entries.specs.Refusals as listing
use Rattle.start_entries.specs.declared.refusal.StartError.{StartError}
use Rattle.start_entries.specs.declared.refusal.StartError.TheVariants as start
use Rattle.patch_report.specs.Values.{ReportValue}
use Rattle.patch_report.specs.declared.error.ReportError.{ReportError}
use Rattle.patch_report.specs.declared.error.ReportError.TheVariants as errors
use Rattle.list_text.specs.declared.refusal.ListError.{ListError}
use Rattle.start_entries.specs.declared.entry.StartEntry.{StartEntry}
use Rattle.start_entries.specs.Entries.{entries_of}
use Rattle.sound_images.specs.Rules.{Case}
use Rattle.sound_images.specs.Cases.{case_of}
use Rattle.image_check.specs.declared.verdict.Verdict.{Verdict}
use Rattle.image_check.specs.declared.verdict.Verdict.TheVariants.{Yes, No}
use Rattle.command_io.specs.Refusals.{Refusal, BadReport, BadFile, BadStart}
use Rattle.command_io.specs.declared.report_mode.Mode.{Mode}
use Rattle.command_io.specs.ReportModes.{IsModedText, IsReadIn, ReadsIn}
use Rattle.command_io.specs.Verdict.{starts_of}
use Rattle.command_io.specs.Failing.{Judges, report_failed, file_failed, start_failed}
use Rattle.inspect_commands.specs.CheckAnswers.{AreChecked, CheckAccepts, OfReport, OfStarts, CheckRefuses, IsVerdictIn, IsFollowedIn, TellsVerdict, CheckTells, IsCheckStatus, verdict_text, verdict_status}
use Rattle.inspect_commands.specs.Checking.{check_texts}
use Rattle.inspect_commands.specs.declared.check.CheckInputs.{CheckInputs}
use Rattle.command_io.specs.declared.ends.Input.TheVariants as input
use Rattle.command_io.proofs.ReadingEnds.{Agree}
use Rattle.command_io.proofs.ModedReadings.{one_moded_reading}

-- ---- the rules of `check` agree

own_verdict : (v : Verdict) → IsCheckStatus (verdict_status v)
own_verdict Yes = inl refl
own_verdict (No addr rule) = inr refl

-- the status of a verdict is one of `check`
pub check_own : (texts : List (List ℕ)) (text : List ℕ) (status : ℕ) → CheckTells texts text status → IsCheckStatus status
check_own (file ∷ out ∷ starts ∷ report ∷ []) text status h = subst IsCheckStatus (sym h.answered) (own_verdict h.verdict)
check_own other text status h = absurd h

check_accepted : (texts : List (List ℕ)) (text : List ℕ) (status : ℕ) → CheckTells texts text status → CheckAccepts texts
check_accepted (file ∷ out ∷ starts ∷ report ∷ []) text status h = (h.list, (h.mode, (h.value, h.accepted)))
check_accepted other text status h = absurd h

-- texts that are accepted are not refused
check_apart : (texts : List (List ℕ)) (r : Refusal) → CheckAccepts texts → CheckRefuses texts r → ⊥
check_apart (file ∷ out ∷ starts ∷ report ∷ []) r a h =
    let o = subst (λ (l : Result (List ℕ) ListError). OfStarts file out report l r) a.1.1.1.starts_are h in
    let x : Mode × ReportValue = (a.1.0, a.1.1.0) in
    let f = subst (λ (q : Result (Mode × ReportValue) ReportError). OfReport file out a.0 q r) (one_moded_reading report o.0 (Ok x) o.1 a.1.1.1.report_is) o.2 in
    let n = a.1.1.1.not_refused in
    cc
check_apart other r a h = absurd a

own_apart : (status : ℕ) → IsCheckStatus status → 3 ≤ status → status ≤ 6 → ⊥
own_apart status (inl e) h k = omega arith
own_apart status (inr e) h k = omega arith

-- what `check` tells it accepted, what it accepts it doesn't refuse, and its statuses are none of a refusal or a fault
pub check_agrees : Agree CheckAccepts CheckRefuses CheckTells IsCheckStatus
check_agrees = record { accepted = check_accepted; apart = check_apart; own = own_apart }

-- ---- each refusal

module _ (x : CheckInputs) (ns : List ℕ) (a : starts_of x.starts.items ≡ Ok ns) where
  -- behind a list, what REPORT is read as decides
  decides : (q : Result (Mode × ReportValue) ReportError) (r : Refusal) → IsReadIn x.report.items q → OfReport x.file.items x.out.items ns q r
      → CheckRefuses (check_texts x) r
  decides q r i h = subst (λ (l : Result (List ℕ) ListError). OfStarts x.file.items x.out.items x.report.items l r) (sym a) (q, i, h)

  -- a refused REPORT is all that is to be said
  pub report_refused : (given : List ℕ) (e : ReportError) → given ≡ x.report.items → ReadsIn given (Err e)
      → Judges CheckRefuses CheckTells (check_texts x) (Err (report_failed e))
  report_refused given errors.Memory g h = tt
  report_refused given (errors.BadReport line) g h =
      decides (Err (errors.BadReport line)) (BadReport (errors.BadReport line)) (rw (← g) h) refl
  report_refused given (errors.BadVersion line) g h =
      decides (Err (errors.BadVersion line)) (BadReport (errors.BadVersion line)) (rw (← g) h) refl

  module _ (m : Mode) (v : ReportValue) (t : IsModedText x.report.items m v) where
    -- so is a refused FILE behind a report
    pub file_refused : (e : ElfError) → files.Refused 0x20000 x.file.items e
        → Judges CheckRefuses CheckTells (check_texts x) (Err (file_failed input.File e))
    file_refused elf.Memory h = tt
    file_refused e h = decides (Ok (m, v)) (BadFile input.File e) t (rw h)

    module _ (f : files.refusal 0x20000 x.file.items ≡ None) where
      -- so is a refused OUT behind a FILE that is accepted
      pub out_refused : (e : ElfError) → files.Refused 0x10000 x.out.items e
          → Judges CheckRefuses CheckTells (check_texts x) (Err (file_failed input.Out e))
      out_refused elf.Memory h = tt
      out_refused e h = decides (Ok (m, v)) (BadFile input.Out e) t (rw (f, h))

      -- so is a refused start, where all four texts are accepted
      pub listing_refused : (e : StartError) → files.refusal 0x10000 x.out.items ≡ None → listing.Refused x.file.items ns e
          → Judges CheckRefuses CheckTells (check_texts x) (Err (start_failed e))
      listing_refused start.Memory o h = tt
      listing_refused e o h = decides (Ok (m, v)) (BadStart e) t (rw (f, o, h))

-- status 0 is that of the verdict yes
pub yes_of : (v : Verdict) (status : ℕ) → status ≡ verdict_status v → status ≡ 0 → v ≡ Yes
yes_of Yes status e z = refl
yes_of (No addr rule) status e z = absurd (omega arith)

-- ---- a report, and the verdict

-- of accepted texts the verdict is told, with its status
pub tells : (file out starts report ns text original patched : List ℕ) (es : List StartEntry) (m : Mode) (v : ReportValue) (verdict : Verdict) (status : ℕ)
    → AreChecked file out starts report ns m v → original ≡ file → patched ≡ out → es ≡ entries_of file ns
    → IsVerdictIn m (case_of original patched es v.body) verdict → (verdict ≡ Yes → IsFollowedIn m (case_of original patched es v.body))
    → text ≡ verdict_text verdict → status ≡ verdict_status verdict → TellsVerdict file out starts report text status
tells file out starts report ns text original patched es m v verdict status a p q r j f t u =
    let e : case_of original patched es v.body ≡ case_of file out (entries_of file ns) v.body = λ i. case_of (p i) (q i) (r i) v.body in
    record {
      list = ns;
      mode = m;
      value = v;
      verdict = verdict;
      accepted = a;
      judged = subst (λ (c : Case). IsVerdictIn m c verdict) e j;
      followed = λ z. subst (λ (c : Case). IsFollowedIn m c) e (f (yes_of verdict status u z));
      told = t;
      answered = u;
    }
