-- The bounds of what a report tells, from those of its lines.
use Rattle.std.proofs.Common.{◌≡◌, ℕ, zero, suc, ◌+◌, ◌%◌, ◌<◌, ◌≤◌, true, ◌&&◌, eqb, nat_le, nat_lt, List, [], ◌∷◌, ◌++◌, length, map, refl, sym, ap, subst, arith}
use Rattle.std.specs.List.{flat_map, AllByRecursion}
use Rattle.std.proofs.lemmas.Bool.{and_parts, eqb-true, leb-true, ltb-true}
use Rattle.pun_base.specs.declared.tramp.Tramp.{Tramp}
use Rattle.pun_base.specs.Limits.{most_sites}
use Rattle.patch_report.specs.declared.line.Line.{Line}
use Rattle.patch_report.specs.declared.line.Line.TheVariants as line
use Rattle.patch_report.specs.Values.{BodyValue, ReportValue, RowValue, PlanValue, patched, version_in}
use Rattle.patch_report.specs.Spelling.{write_line, page_line, outcome_lines, row_lines, body_lines}
use Rattle.patch_report.specs.Grammar.{high_end, line_holds, LineFits, IsLine, IsReport, IsTold, CountsDown}
use Rattle.patch_report.specs.Bounds.{IsBounded, ReportsAreBounded}
use Rattle.patch_report.proofs.ListPlaces.{In, in_left, in_right, in_map, in_flat, all_in, place_of}

-- numbers that count down are below their count
number_of : (rows : List RowValue) (r : RowValue) → CountsDown rows → In rows r → r.number < length rows
number_of [] r d h = let e = h.1 in absurd cc
number_of (q ∷ rows) r d (zero, e) = let k : q ≡ r = cc in let f = ap (λ (z : RowValue). z.number) k in omega (arith, f, d.0)
number_of (q ∷ rows) r d (suc i, e) = omega (arith, number_of rows r d.1 (i, e))

-- a private range of whole pages
range_long : (lo hi : ℕ) → line_holds (line.Private lo hi) ≡ true → (lo + 4096 ≤ hi) × (hi ≤ high_end)
range_long lo hi h =
    let a = and_parts (eqb (lo % 4096) 0) (eqb (hi % 4096) 0 && (nat_lt lo hi && nat_le hi high_end)) h in
    let b = and_parts (eqb (hi % 4096) 0) (nat_lt lo hi && nat_le hi high_end) a.1 in
    let d = and_parts (nat_lt lo hi) (nat_le hi high_end) b.1 in
    let x : lo % 4096 ≡ 0 = eqb-true (lo % 4096) 0 a.0 in
    let y : hi % 4096 ≡ 0 = eqb-true (hi % 4096) 0 b.0 in
    let p : lo < hi = ltb-true lo hi d.0 in
    (omega arith, leb-true hi high_end d.1)

module _ (P : Line → Type 0) (holds : (x : Line) → P x → line_holds x ≡ true) (fits : (x : Line) → P x → LineFits x) (v : BodyValue)
    (lines : AllByRecursion P (body_lines v)) (down : CountsDown v.rows) where
  -- the lines behind the first three
  abbrev rest : List Line
  rest = flat_map row_lines v.rows ++ (map page_line v.pages ++ line.End ∷ [])

  -- a line of the report
  line_at : (x : Line) → In (body_lines v) x → line_holds x ≡ true
  line_at x h = holds x (all_in P (body_lines v) x lines h)

  -- one behind the first three
  line_in : (x : Line) → In rest x → line_holds x ≡ true
  line_in x h = line_at x (suc (suc (suc h.0)), h.1)

  -- a trampoline's place
  tramp_low : (r : RowValue) (p : PlanValue) (t : Tramp) → In v.rows r → r.outcome ≡ patched p → In p.tramps t → t.place < high_end
  tramp_low r p t h e k =
      let own : In (outcome_lines (patched p)) (line.Tramp t) = in_left (map line.Tramp p.tramps)
      (map write_line p.writes ++ map line.Pun p.puns) (line.Tramp t) (in_map line.Tramp p.tramps t k) in
      let here : In (outcome_lines r.outcome) (line.Tramp t) = subst (λ o. In (outcome_lines o) (line.Tramp t)) (sym e) own in
      let whole = in_flat row_lines v.rows r (line.Tramp t) h (suc here.0, here.1) in
      ltb-true t.place high_end (line_in (line.Tramp t) (in_left (flat_map row_lines v.rows) (map page_line v.pages ++ line.End ∷ [])
      (line.Tramp t) whole))

  -- a page
  page_low : (p : ℕ × ℕ) → In v.pages p → p.0 < high_end
  page_low p h =
      let whole = in_right (flat_map row_lines v.rows) (map page_line v.pages ++ line.End ∷ []) (page_line p)
      (in_left (map page_line v.pages) (line.End ∷ []) (page_line p) (in_map page_line v.pages p h)) in
      ltb-true p.0 high_end (and_parts (eqb (p.0 % 4096) 0) (nat_lt p.0 high_end) (line_in (page_line p) whole)).1

  -- all bounds
  bounded_by : IsBounded v
  bounded_by =
      let range = range_long v.private.0 v.private.1 (line_at (line.Private v.private.0 v.private.1) (1, refl)) in
      record {
        action = fits (line.Action v.action) (all_in P (body_lines v) (line.Action v.action) lines (0, refl));
        range = range.0;
        end = range.1;
        sites = leb-true (length v.rows) most_sites (line_at (line.Sites (length v.rows)) (2, refl));
        numbers = λ r c. number_of v.rows r down (place_of v.rows r c);
        tramps = λ r p t c e k. tramp_low r p t (place_of v.rows r c) e (place_of p.tramps t k);
        pages = λ p c. page_low p (place_of v.pages p c);
      }

-- the law
pub bounded : ReportsAreBounded
bounded v g = bounded_by IsLine (λ x h. h.holds) (λ x h. h.fits) v g.1.lines g.1.numbers

-- what a report tells, its version tells
pub told : (v : ReportValue) → IsReport v → IsTold v.body
told v h = (version_in v.origin, h.body)
