-- The one text of a report, line by line. Theorems cite it.
use Rattle.std.specs.Prelude.{ℕ, ◌-◌, ◌/◌, Bool, true, false, List, [], ◌∷◌, ◌++◌, length, map, codes, Option, Some, None}
use Rattle.std.specs.List.{flat_map}
use Rattle.std.specs.Int.{w32, w64, to_be_bytes}
use Rattle.std.specs.Fmt.{decimal}
use Rattle.hex.specs.Hex.{encode_lower}
use Rattle.list_text.specs.ActionWords.{action_word}
use Rattle.pun_base.specs.declared.scheme.Scheme.{Scheme}
use Rattle.pun_base.specs.declared.scheme.Scheme.TheVariants.{B1, B2, T1, T2, T3}
use Rattle.patch_report.specs.declared.origin.Origin.{Origin}
use Rattle.patch_report.specs.declared.origin.Version.TheVariants.{One, Two}
use Rattle.patch_report.specs.declared.line.Line.{Line}
use Rattle.patch_report.specs.declared.line.Line.TheVariants as line
use Rattle.patch_report.specs.declared.line.Mark.{Mark}
use Rattle.patch_report.specs.declared.line.Mark.TheVariants as mark
use Rattle.patch_report.specs.Values.{BodyValue, ReportValue, RowValue, PlanValue, Immovable, Unplanned, Shared, OutcomeValue, patched, left, WriteValue}

-- An address: its four bytes, the highest first, as eight lower-case hexadecimal digits.
unfoldable pub hex8 : ℕ → List ℕ
hex8 n = encode_lower (to_be_bytes w32 n)

-- An entry point: its eight bytes, the highest first, as sixteen of them.
unfoldable pub hex16 : ℕ → List ℕ
hex16 n = encode_lower (to_be_bytes w64 n)

-- The word of each scheme.
abbrev pub scheme_word : Scheme → List ℕ
scheme_word B1 = codes "B1"
scheme_word B2 = codes "B2"
scheme_word T1 = codes "T1"
scheme_word T2 = codes "T2"
scheme_word T3 = codes "T3"

-- The word of what became of a site.
abbrev pub mark_word : Mark → List ℕ
mark_word (mark.Patched scheme) = scheme_word scheme
mark_word mark.NotRelocatable = codes "NotRelocatable"
mark_word mark.NoPlan = codes "NoPlan"
mark_word mark.Shared = codes "Shared"

-- The word on whether a trampoline records an event.
abbrev pub event_word : Bool → List ℕ
event_word true = codes "event"
event_word false = codes "plain"

-- A line without the LF at its end. A private range is told by its first address and its number of
-- pages.
abbrev pub line_text : Line → List ℕ
line_text (line.Version One) = codes "e9report 1"
line_text (line.Version Two) = codes "e9report 2"
line_text (line.Origin o) = codes "origin "
    ++ (decimal o.len ++ (codes " " ++ (decimal o.phoff ++ (codes " "
    ++ (decimal o.phnum ++ (codes " " ++ hex16 o.entry))))))
line_text (line.Action action) = codes "action " ++ action_word action
line_text (line.Private lo hi) = codes "private "
    ++ (hex8 lo ++ (codes " " ++ decimal ((hi - lo) / 4096)))
line_text (line.Sites count) = codes "sites " ++ decimal count
line_text (line.Site site number outcome) =
    codes "site " ++ (hex8 site ++ (codes " "
    ++ (decimal number ++ (codes " " ++ mark_word outcome))))
line_text (line.Tramp t) = codes "tramp "
    ++ (hex8 t.place ++ (codes " " ++ (hex8 t.start ++ (codes " " ++ event_word t.event))))
line_text (line.Write addr was now) =
    codes "write " ++ (hex8 addr ++ (codes " "
    ++ (encode_lower was ++ (codes " " ++ encode_lower now))))
line_text (line.Pun p) = codes "pun " ++ (hex8 p.addr ++ (codes " " ++ encode_lower p.bytes))
line_text (line.Page page group) = codes "page " ++ (hex8 page ++ (codes " " ++ decimal group))
line_text line.End = codes "end"

-- Lines one after the other, each with an LF (10) behind it.
abbrev pub lines_text : List Line → List ℕ
lines_text [] = []
lines_text (x ∷ xs) = line_text x ++ 10 ∷ lines_text xs

-- The line of a write.
abbrev pub write_line : WriteValue → Line
write_line w = line.Write w.addr w.was w.now

-- The line of a page and its group.
abbrev pub page_line : ℕ × ℕ → Line
page_line page = line.Page page.0 page.1

-- A plan's lines: trampolines, writes, punned bytes.
abbrev pub plan_lines : PlanValue → List Line
plan_lines p = map line.Tramp p.tramps ++ (map write_line p.writes ++ map line.Pun p.puns)

-- What a site's line tells of an outcome.
abbrev pub mark_of : OutcomeValue → Mark
mark_of (patched p) = mark.Patched p.scheme
mark_of (left Immovable) = mark.NotRelocatable
mark_of (left Unplanned) = mark.NoPlan
mark_of (left Shared) = mark.Shared

-- The lines behind a site's: those of its plan.
abbrev pub outcome_lines : OutcomeValue → List Line
outcome_lines (patched p) = plan_lines p
outcome_lines (left why) = []

-- A row's lines: the site's, and those of its plan.
abbrev pub row_lines : RowValue → List Line
row_lines r = line.Site r.site r.number (mark_of r.outcome) ∷ outcome_lines r.outcome

-- The version, and what it tells of the original.
abbrev pub version_lines : Option Origin → List Line
version_lines None = line.Version One ∷ []
version_lines (Some origin) = line.Version Two ∷ line.Origin origin ∷ []

-- The lines of what was done: action, private range, number of sites, rows, pages, end.
abbrev pub body_lines : BodyValue → List Line
body_lines b =
    line.Action b.action ∷ line.Private b.private.0 b.private.1 ∷ line.Sites (length b.rows)
    ∷ (flat_map row_lines b.rows ++ (map page_line b.pages ++ line.End ∷ []))

-- All lines of a report.
abbrev pub report_lines : ReportValue → List Line
report_lines v = version_lines v.origin ++ body_lines v.body

-- The text of a report.
abbrev pub report_text : ReportValue → List ℕ
report_text v = lines_text (report_lines v)
