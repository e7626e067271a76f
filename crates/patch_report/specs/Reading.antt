-- Reading a report line by line: its value, or the number of the line at which it ends being one. Theorems cite it.
use Rattle.std.specs.Prelude.{ℕ, false, zero, suc, ◌+◌, ◌-◌, ◌^◌, ◌==◌, Bool, ◌&&◌, nat_le, nat_lt, min, if◌then◌else◌, List, [], ◌∷◌, ◌++◌, length, Option, Some, None, option_map, option_and_then, Result, Ok, Err}
use Rattle.std.specs.Option.{ok_or}
use Rattle.pun_base.specs.declared.action.Action.{Action}
use Rattle.pun_base.specs.declared.scheme.Scheme.{Scheme}
use Rattle.pun_base.specs.declared.tramp.Tramp.{Tramp}
use Rattle.pun_base.specs.declared.pun.Pun.{Pun}
use Rattle.patch_report.specs.declared.origin.Origin.{Origin}
use Rattle.patch_report.specs.declared.origin.Version.{Version}
use Rattle.patch_report.specs.declared.origin.Version.TheVariants.{One, Two}
use Rattle.patch_report.specs.declared.line.Line.{Line}
use Rattle.patch_report.specs.declared.line.Line.TheVariants as line
use Rattle.patch_report.specs.declared.line.Mark.{Mark}
use Rattle.patch_report.specs.declared.line.Mark.TheVariants as mark
use Rattle.patch_report.specs.Values.{ReportValue, RowValue, PlanValue, Immovable, Unplanned, Shared, OutcomeValue, patched, left, version_in, WriteValue}
use Rattle.patch_report.specs.Grammar.{is_new, is_told, tramp_count}
use Rattle.patch_report.specs.Front.{line_front}

-- ---- lines one after the other

-- What stands at a place is this byte.
abbrev pub is_there : ℕ → Option ℕ → Bool
is_there byte None = false
is_there byte (Some c) = c == byte

-- Where reading stands: the number of the next line, from 1, and the text from it on.
pub record At : Type 0 where
  pub place : ℕ
  pub text : List ℕ

-- Lines are counted up to the end of the count's type; no report has so many.
abbrev pub next_place : ℕ → ℕ
next_place place = min (place + 1) (2 ^ 32 - 1)

-- Where reading goes on behind a line.
abbrev pub behind_line : At → Line × List ℕ → Line × At
behind_line at x = (x.0, record { place = next_place at.place; text = x.1 })

-- The next line, which ends with LF, and where reading goes on.
unfoldable pub line_at : At → Option (Line × At)
line_at at = option_map (behind_line at) (line_front at.text)

infixl 10 ◌>>=◌
-- One reading after the other, unless the first is refused.
abbrev pub ◌>>=◌ : {A B : Type 0} → Result A ℕ → (A → Result B ℕ) → Result B ℕ
(Ok x) >>= f = f x
(Err e) >>= f = Err e

-- What a line is wanted for, with where reading goes on.
abbrev pub picked : {X : Type 0} → (Line → Option X) → Line × At → Option (X × At)
picked want x = option_map (λ v. (v, x.1)) (want x.0)

-- The next line, where it is as wanted.
unfoldable pub found : {X : Type 0} → (Line → Option X) → At → Option (X × At)
found want at = option_and_then (picked want) (line_at at)

-- The next line, or its number where there is none.
unfoldable pub next_at : At → Result (Line × At) ℕ
next_at at = ok_or (line_at at) at.place

-- The next line, where it is as wanted, or its number.
unfoldable pub wanted : {X : Type 0} → (Line → Option X) → At → Result (X × At) ℕ
wanted want at = next_at at >>= λ x. ok_or (picked want x) at.place

-- The list with the next line behind it, where that is as wanted.
abbrev pub appended : {X : Type 0} → List X × At → Option (X × At) → List X × At
appended front None = front
appended front (Some x) = (front.0 ++ x.0 ∷ [], x.1)

unfoldable pub one_more : {X : Type 0} → (Line → Option X) → List X × At → List X × At
one_more want front = appended front (found want front.1)

-- The lines as wanted that come next, at most three.
abbrev pub up_to_three : {X : Type 0} → (Line → Option X) → At → List X × At
up_to_three want at = one_more want (one_more want (one_more want ([], at)))

-- ---- what is wanted

-- What a line tells, where it is of one kind. A version.
abbrev pub version_of : Line → Option Version
version_of (line.Version version) = Some version
version_of _ = None

-- What it tells of the original.
abbrev pub origin_of : Line → Option Origin
origin_of (line.Origin origin) = Some origin
origin_of _ = None

-- An action.
abbrev pub action_of : Line → Option Action
action_of (line.Action action) = Some action
action_of _ = None

-- The private range of a line, where it isn't empty.
abbrev pub private_of : Line → Option (ℕ × ℕ)
private_of (line.Private lo hi) = if nat_lt lo hi then Some (lo, hi) else None
private_of _ = None

-- How many sites there are.
abbrev pub count_of : Line → Option ℕ
count_of (line.Sites count) = Some count
count_of _ = None

-- A site with the number that is due, and none of those before it, and an outcome that the version
-- can tell.
abbrev pub site_of : Version → ℕ → List RowValue → Line → Option (ℕ × Mark)
site_of version due before (line.Site site number outcome) =
    if (number == due) && (is_new site before && is_told outcome version)
    then Some (site, outcome) else None
site_of version due before _ = None

-- A trampoline.
abbrev pub tramp_of : Line → Option Tramp
tramp_of (line.Tramp t) = Some t
tramp_of _ = None

-- A run of written bytes.
abbrev pub write_of : Line → Option WriteValue
write_of (line.Write addr was now) = Some (record { addr = addr; was = was; now = now })
write_of _ = None

-- A pun.
abbrev pub pun_of : Line → Option Pun
pun_of (line.Pun p) = Some p
pun_of _ = None

-- A page from an address on.
abbrev pub page_from : ℕ → Line → Option (ℕ × ℕ)
page_from low (line.Page page group) = if nat_le low page then Some (page, group) else None
page_from low _ = None

-- The end.
abbrev pub end_of : Line → Option (Unit {0})
end_of line.End = Some tt
end_of _ = None

-- ---- parts of a report

-- The trampolines of a scheme: the site's, and for T2 and T3 the victim's.
unfoldable pub tramps_at : Scheme → At → Result (List Tramp × At) ℕ
tramps_at scheme at = do
  first ← wanted tramp_of at
  if tramp_count scheme == 1 then Ok (first.0 ∷ [], first.1) else wanted tramp_of first.1
      >>= λ second. Ok (first.0 ∷ second.0 ∷ [], second.1)

-- One to three writes.
unfoldable pub writes_at : At → Result (List WriteValue × At) ℕ
writes_at at = if length (up_to_three write_of at).0 == 0 then Err at.place
    else Ok (up_to_three write_of at)

unfoldable pub plan_at : Scheme → At → Result (PlanValue × At) ℕ
plan_at scheme at = do
  tramps ← tramps_at scheme at
  writes ← writes_at tramps.1
  Ok (
    record {
      scheme = scheme;
      tramps = tramps.0;
      writes = writes.0;
      puns =
          (up_to_three pun_of writes.1).0;
    },
    (up_to_three pun_of writes.1).1,
  )

-- A plan that was read is the outcome of a patched site.
abbrev pub as_patched : PlanValue × At → OutcomeValue × At
as_patched x = (patched x.0, x.1)

unfoldable pub outcome_at : Mark → At → Result (OutcomeValue × At) ℕ
outcome_at (mark.Patched scheme) at = plan_at scheme at >>= λ plan. Ok (as_patched plan)
outcome_at mark.NotRelocatable at = Ok (left Immovable, at)
outcome_at mark.NoPlan at = Ok (left Unplanned, at)
outcome_at mark.Shared at = Ok (left Shared, at)

-- A row with the number that is due.
unfoldable pub row_at : Version → ℕ → List RowValue → At → Result (RowValue × At) ℕ
row_at version due before at = do
  head ← wanted (site_of version due before) at
  outcome ← outcome_at head.0.1 head.1
  Ok (record { site = head.0.0; number = due; outcome = outcome.0 }, outcome.1)

-- So many rows, behind those before them.
unfoldable pub rows_at : Version → ℕ → List RowValue → At → Result (List RowValue × At) ℕ
rows_at version zero before at = Ok (before, at)
rows_at version (suc n) before at = do
  row ← row_at version n before at
  rows_at version n (before ++ row.0 ∷ []) row.1

-- The page that was found in front of the later ones, or none.
abbrev pub paged : At → Option ((ℕ × ℕ) × At) → ((ℕ × ℕ) × At → List (ℕ × ℕ) × At)
    → List (ℕ × ℕ) × At
paged at None later = ([], at)
paged at (Some x) later = (x.0 ∷ (later x).0, (later x).1)

-- The pages that come next, at most so many, each from an address on and above the one before it.
unfoldable pub pages_at : ℕ → ℕ → At → List (ℕ × ℕ) × At
pages_at zero low at = ([], at)
pages_at (suc n) low at = paged at (found (page_from low) at)
    (λ x. pages_at n (next_place x.0.0) x.1)

-- The line `end`, and nothing behind it.
unfoldable pub end_at : At → Result (Unit {0}) ℕ
end_at at = do
  last ← wanted end_of at
  if length last.1.text == 0 then Ok tt else Err last.1.place

-- A page has 4,096 bytes, so so many pages lie below 0x7FFF0000.
unfoldable pub most_pages : ℕ
most_pages = 0x7FFF0

-- What a version tells of the original.
unfoldable pub origin_at : Version → At → Result (Option Origin × At) ℕ
origin_at One at = Ok (None, at)
origin_at Two at = wanted origin_of at >>= λ origin. Ok (Some origin.0, origin.1)

-- The report behind that.
unfoldable pub body_at : Option Origin → At → Result ReportValue ℕ
body_at origin at = do
  action ← wanted action_of at
  range ← wanted private_of action.1
  count ← wanted count_of range.1
  rows ← rows_at (version_in origin) count.0 [] count.1
  last ← end_at (pages_at most_pages 0 rows.1).1
  Ok (record {
    body = record {
      action = action.0;
      private = range.0;
      rows = rows.0;
      pages =
          (pages_at most_pages 0 rows.1).0;
    };
    origin = origin;
  })

unfoldable pub report_at : At → Result ReportValue ℕ
report_at at = do
  version ← wanted version_of at
  origin ← origin_at version.0 version.1
  body_at origin.0 origin.1

-- The report of a text.
abbrev pub report_in : List ℕ → Result ReportValue ℕ
report_in text = report_at (record { place = 1; text = text })
