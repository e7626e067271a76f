-- A text has one mode, and is read as one thing.
use Rattle.std.proofs.Common.{◌≡◌, ℕ, ◌+◌, ◌-◌, ◌≤◌, true, false, List, [], ◌∷◌, ◌++◌, length, take, drop, Option, Some, None, option_map, Result, Ok, Err, refl, sym, ap, ◌∙◌, subst, arith}
use Rattle.std.specs.Prelude.{codes, MatchOption}
use Rattle.std.specs.Borrow.{Bor}
use Rattle.std.specs.Str.{bytes_eq}
use Rattle.std.proofs.lemmas.Bool.Decides.{Decides-eqb}
use Rattle.std.proofs.lemmas.Slice.Eq.{strip_prefix_is}
use Rattle.patch_report.specs.Answers as reports
use Rattle.patch_report.specs.Grammar.{IsReport, IsFirstRefused}
use Rattle.patch_report.specs.Spelling.{report_text, report_lines}
use Rattle.patch_report.specs.Values.{ReportValue}
use Rattle.patch_report.specs.declared.origin.Origin.{Origin}
use Rattle.patch_report.specs.declared.error.ReportError.{ReportError}
use Rattle.patch_report.specs.declared.error.ReportError.TheVariants as errors
use Rattle.patch_report.proofs.LineCounts.{lines_few, most_lines}
use Rattle.patch_report.proofs.OtherVersions.{names_none, versions_are_numbers}
use Rattle.command_io.specs.ReportTexts.{IsReportText, IsRead}
use Rattle.command_io.specs.ReportModes.{mode_text, IsModedText, IsAfterModeLine, HasMode, error_in, IsReadIn, ReadsIn, read_in, HasNextLine, OneModedReading, PlainIsRead, ThreadedIsRead}
use Rattle.command_io.specs.declared.report_mode.Mode.{Mode}
use Rattle.command_io.specs.declared.report_mode.Mode.TheVariants.{Plain, Threaded}
use Rattle.command_io.proofs.ReadReports.{one_reading}

-- ---- one mode

-- what `strip_prefix` says of the mode's line
pub after_line : (text : List ℕ) (r : Option (Bor (List ℕ)))
    → MatchOption r (bytes_eq (take 13 text) (codes "mode threads\n") ≡ false)
    (λ x. (bytes_eq (take 13 text) (codes "mode threads\n") ≡ true) × (x.now ≡ drop 13 text) × (length x.now + 13 ≡ length text))
    → IsAfterModeLine text (option_map (λ x. x.now) r)
after_line text None m = strip_prefix_is Decides-eqb text (codes "mode threads\n") None m
after_line text (Some x) m = strip_prefix_is Decides-eqb text (codes "mode threads\n") (Some x) m

-- the first byte of a text, 0 where there is none
abbrev first : List ℕ → ℕ
first [] = 0
first (x ∷ xs) = x

other_first : ◌≡◌ {A = ℕ} 101 109 → ⊥
other_first e = omega arith

-- a report's text doesn't begin with a mode's line
no_mode : (v : ReportValue) → IsAfterModeLine (report_text v) None
no_mode v = by v.origin
  where
    by : (o : Option Origin) → IsAfterModeLine (report_text (record { origin = o; body = v.body })) None
    by None rest e = other_first (ap first e)
    by (Some o) rest e = other_first (ap first e)

-- what stands after the line is one
one_rest : (xs ys : List ℕ) → mode_text Threaded ++ xs ≡ mode_text Threaded ++ ys → xs ≡ ys
one_rest xs ys e = cc

-- a text has one mode and one rest
one_mode : (text : List ℕ) (m n : Mode) (xs ys : List ℕ) → HasMode text m xs → HasMode text n ys → (m ≡ n) × (xs ≡ ys)
one_mode text Plain Plain xs ys g h = (refl, g.0 ∙ sym h.0)
one_mode text Plain Threaded xs ys g h = absurd (g.1 ys h)
one_mode text Threaded Plain xs ys g h = absurd (h.1 xs g)
one_mode text Threaded Threaded xs ys g h = (refl, one_rest xs ys (sym g ∙ h))

-- ---- one reading

-- a report's own text
own_text : (v : ReportValue) → IsReport v → IsReportText (report_text v) v
own_text v h = record {
  holds = h;
  spelled = refl;
  own = λ z. (let a = names_none v in let b = (versions_are_numbers (report_text v)).1 z in cc);
}

-- What a text is read as, by its mode and what its report's text is read as.
record Reading (text : List ℕ) (r : Result (Mode × ReportValue) ReportError) : Type 0 where
  mode : Mode
  rest : List ℕ
  has : HasMode text mode rest
  read : Result ReportValue ReportError
  is : IsRead rest read
  told : r ≡ read_in mode read

moded_has : (text : List ℕ) (m : Mode) (v : ReportValue) → text ≡ mode_text m ++ report_text v → HasMode text m (report_text v)
moded_has text Threaded v e = e
moded_has text Plain v e = (sym e, subst (λ (t : List ℕ). IsAfterModeLine t None) (sym e) (no_mode v))

is_reading : (text : List ℕ) (r : Result (Mode × ReportValue) ReportError) → IsReadIn text r → Reading text r
is_reading text (Ok x) h = record {
  mode = x.0;
  rest = report_text x.1;
  has = moded_has text x.0 x.1 h.spelled;
  read = Ok x.1;
  is = own_text x.1 h.holds;
  told = refl;
}
is_reading text (Err e) h = record { mode = h.mode; rest = h.rest; has = h.has; read = Err h.error; is = h.refused; told = ap (λ (x : ReportError). Err x) h.counted }

-- a text is read as one thing
pub one_moded_reading : OneModedReading
one_moded_reading text q r g h =
    let a = is_reading text q g in
    let b = is_reading text r h in
    let p = one_mode text a.mode b.mode a.rest b.rest a.has b.has in
    let s = one_reading b.rest a.read b.read (subst (λ (t : List ℕ). IsRead t a.read) p.1 a.is) b.is in
    a.told ∙ ((λ i. read_in (p.0 i) (s i)) ∙ sym b.told)

-- ---- what is read after the mode is known

-- a report's text that was read, in the whole text
moded_text : (text : List ℕ) (m : Mode) (rest : List ℕ) (v : ReportValue) → HasMode text m rest → IsReport v → rest ≡ report_text v → IsModedText text m v
moded_text text Plain rest v h k e = record { holds = k; spelled = sym h.0 ∙ e }
moded_text text Threaded rest v h k e = record { holds = k; spelled = h ∙ ap (λ (t : List ℕ). mode_text Threaded ++ t) e }

-- what a text is read as where its mode is known
pub read_behind : (text : List ℕ) (m : Mode) (rest : List ℕ) (r : Result ReportValue ReportError) → HasMode text m rest → IsRead rest r → IsReadIn text (read_in m r)
read_behind text m rest (Ok v) h i = moded_text text m rest v h i.holds i.spelled
read_behind text m rest (Err e) h i = record { mode = m; rest = rest; has = h; error = e; refused = i; counted = refl }

-- a text without a mode's line is read as a plain report's
pub plain_is_read : PlainIsRead
plain_is_read text r n i = read_behind text Plain text r (refl, n) i

-- a text with one is read as the text after it
pub threaded_is_read : ThreadedIsRead
threaded_is_read rest r i = read_behind (mode_text Threaded ++ rest) Threaded rest r refl i

-- a report that was read
pub read_ok : (text : List ℕ) (m : Mode) (rest : List ℕ) (v : ReportValue) → HasMode text m rest
    → reports.ReadsReport {X = ReportValue} (λ r. r) rest (Ok v) → ReadsIn text (Ok (m, v))
read_ok text m rest v h i = moded_text text m rest v h i.1 i.2

-- a text that equals the one that was read is that of the report
pub moded_read : (given text : List ℕ) (m : Mode) (v : ReportValue) → given ≡ text → ReadsIn given (Ok (m, v)) → IsModedText text m v
moded_read given text m v e h = subst (λ (t : List ℕ). IsModedText t m v) e h

-- a refusal
pub read_err : (text : List ℕ) (m : Mode) (rest : List ℕ) (e : ReportError) → HasMode text m rest
    → reports.ReadsReport {X = ReportValue} (λ r. r) rest (Err e) → ReadsIn text (Err (error_in m e))
read_err text m rest errors.Memory h i = tt
read_err text m rest (errors.BadReport line) h i = read_behind text m rest (Err (errors.BadReport line)) h i
read_err text m rest (errors.BadVersion line) h i = read_behind text m rest (Err (errors.BadVersion line)) h i

-- a refused line is followed by another number
pub next_line : (rest : List ℕ) (e : ReportError) → reports.ReadsReport {X = ReportValue} (λ r. r) rest (Err e) → HasNextLine e
next_line rest errors.Memory i = tt
next_line rest (errors.BadVersion line) i = let e : line ≡ 1 = i.1 in omega arith
next_line rest (errors.BadReport line) i =
    let l : IsFirstRefused line rest = i.1 in
    let a : line - 1 ≤ length (report_lines l.least.0) = l.least.2.enough in
    let b : length (report_lines l.least.0) ≤ most_lines = lines_few l.least.0 l.least.1 in
    omega arith
