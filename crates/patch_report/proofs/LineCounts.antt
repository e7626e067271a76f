-- A report has fewer lines than a line's number can tell.
use Rattle.std.proofs.Common.{◌≡◌, ℕ, zero, suc, ◌+◌, ◌*◌, ◌%◌, ◌≤◌, List, [], ◌∷◌, ◌++◌, length, map, Option, Some, None, refl, ap, arith, length-append}
use Rattle.std.specs.List.{AllByRecursion, flat_map}
use Rattle.pun_base.specs.declared.scheme.Scheme.{Scheme}
use Rattle.pun_base.specs.declared.scheme.Scheme.TheVariants.{B1, B2, T1, T2, T3}
use Rattle.pun_base.specs.Limits.{most_sites}
use Rattle.patch_report.specs.declared.origin.Origin.{Origin}
use Rattle.patch_report.specs.declared.origin.Version.{Version}
use Rattle.patch_report.specs.declared.line.Line.{Line}
use Rattle.patch_report.specs.declared.line.Line.TheVariants as line
use Rattle.patch_report.specs.Values.{ReportValue, RowValue, OutcomeValue, patched, left}
use Rattle.patch_report.specs.Spelling.{body_lines, outcome_lines, page_line, report_lines, row_lines, version_lines, write_line}
use Rattle.patch_report.specs.Grammar.{AscendFrom, IsLine, IsReport, OutcomeCounts, RowCounts, tramp_count}
use Rattle.patch_report.proofs.AcceptedLines.{front, behind}
use Rattle.patch_report.proofs.LinesSoFar.{few}
use Rattle.patch_report.proofs.ReportTraces.{HasRoom, less_room, page_bounds}

-- No scheme has more than two trampolines.
pub tramps_few : (s : Scheme) → tramp_count s ≤ 2
tramps_few B1 = omega arith
tramps_few B2 = omega arith
tramps_few T1 = omega arith
tramps_few T2 = omega arith
tramps_few T3 = omega arith

length_mapped : {X : Type 0} (f : X → Line) (xs : List X) → length (map f xs) ≡ length xs
length_mapped f [] = refl
length_mapped f (x ∷ xs) = ap suc (length_mapped f xs)

outcome_few : (v : Version) (o : OutcomeValue) → OutcomeCounts v o → length (outcome_lines o) ≤ 8
outcome_few v (patched p) c =
    let a : length (map line.Tramp p.tramps) ≡ length p.tramps = length_mapped line.Tramp p.tramps in
    let b : length (map write_line p.writes) ≡ length p.writes = length_mapped write_line p.writes in
    let d : length (map line.Pun p.puns) ≡ length p.puns = length_mapped line.Pun p.puns in
    let e : length p.tramps ≡ tramp_count p.scheme = c.tramps in
    let f : tramp_count p.scheme ≤ 2 = tramps_few p.scheme in
    let g : length p.writes ≤ 3 = c.writes in
    let h : length p.puns ≤ 3 = c.puns in
    omega (
      arith,
      length-append (map line.Tramp p.tramps) (map write_line p.writes ++ map line.Pun p.puns),
      length-append
          (map write_line p.writes) (map line.Pun p.puns),
    )
outcome_few v (left why) c = omega arith

rows_few : (v : Version) (rs : List RowValue) → AllByRecursion (RowCounts v) rs → length (flat_map row_lines rs) ≤ 9 * length rs
rows_few v [] c = omega arith
rows_few v (r ∷ rs) c =
    let a : length (outcome_lines r.outcome) ≤ 8 = outcome_few v r.outcome c.0 in
    let b : length (flat_map row_lines rs) ≤ 9 * length rs = rows_few v rs c.1 in
    omega (arith, length-append (row_lines r) (flat_map row_lines rs))

pages_few : (n low : ℕ) (ps : List (ℕ × ℕ)) → HasRoom n low → AscendFrom low ps → AllByRecursion IsLine (map page_line ps) → length ps ≤ n
pages_few n low [] room a l = omega arith
pages_few zero low (p ∷ ps) room a l =
    let b = page_bounds p.0 p.1 l.0 in
    let m : p.0 % 4096 ≡ 0 = b.0 in
    let s = b.1 in
    let q : low ≤ p.0 = a.0 in
    absurd (omega arith)
pages_few (suc n) low (p ∷ ps) room a l =
    let r = pages_few n (p.0 + 1) ps (less_room n low p.0 room a.0 (page_bounds p.0 p.1 l.0).0) a.1 l.1 in
    omega arith

version_few : (o : Option Origin) → length (version_lines o) ≤ 2
version_few None = omega arith
version_few (Some o) = omega arith

-- The most lines of a report: nine for each of the most sites, one for each of 524,272 pages, and six more.
abbrev pub most_lines : ℕ
most_lines = 9 * most_sites + 524278

-- A report has no more lines.
pub lines_few : (v : ReportValue) → IsReport v → length (report_lines v) ≤ most_lines
lines_few v h =
    let b = v.body in
    let k = h.body in
    let pages : List Line = map page_line b.pages ++ line.End ∷ [] in
    let a : length b.rows ≤ most_sites = few (length b.rows) k.lines.1.1.0.holds in
    let r : length (flat_map row_lines b.rows) ≤ 9 * length b.rows = rows_few _ b.rows k.plans in
    let all = front (map page_line b.pages) (line.End ∷ []) (behind (flat_map row_lines b.rows) pages k.lines.1.1.1) in
    let c : length b.pages ≤ 524272 = pages_few 524272 0 b.pages (omega arith) k.pages all in
    let d : length (map page_line b.pages) ≡ length b.pages = length_mapped page_line b.pages in
    let e : length (version_lines v.origin) ≤ 2 = version_few v.origin in
    omega (
      arith,
      length-append (version_lines v.origin) (body_lines b),
      length-append (flat_map row_lines b.rows) pages,
      length-append (map page_line b.pages) (line.End ∷ []),
    )
