-- Where a rule fails, there is a span that was made for it.
use Rattle.std.proofs.Common.{◌≡◌, inl, inr, ℕ, ◌≤◌, true, List, [], ◌∷◌, ◌++◌, map, length, Option, Some, None, refl, sym, ap, ◌∙◌, subst, arith}
use Rattle.std.specs.Prelude.{Contains}
use Rattle.std.specs.List.{list_any}
use Rattle.std.specs.List.Sorted.{IsPermutation}
use Rattle.std.proofs.lemmas.Bool.Decides.{nat_tests}
use Rattle.std.proofs.lemmas.Option.{slice_get_within}
use Rattle.patch_report.proofs.ListPlaces.{place_of, from_map, found}
use Rattle.pun_base.specs.declared.plan.Write.{Write}
use Rattle.patch_report.specs.Values.{BodyValue, write_value}
use Rattle.elf_read.specs.Entries.{entry_of}
use Rattle.image_check.specs.declared.flat.ReportLine.{ReportLine}
use Rattle.image_check.specs.declared.rule.Rule.TheVariants as rule
use Rattle.image_check.specs.declared.span.Span.{Span}
use Rattle.image_check.specs.Parts.{Covers, FindsFirst, any_row_bad, least_bad, option_spans, in_span, in_spans, line_of, run_span, single_span}
use Rattle.image_check.specs.Jumps.{LineFails}
use Rattle.image_check.specs.Stretches.{CoversFirst, LineBroken, RunBroken}
use Rattle.sound_images.specs.Reports.{Line, lines, in_run, runs}
use Rattle.sound_images.specs.Rules.{Case, RowFails, SiteFails}
use Rattle.image_check.proofs.RuleTests.{write_is}
use Rattle.image_check.proofs.NearCounts.{any_moved}
use Rattle.image_check.specs.Verdict.{IsLeastOf}
use Rattle.image_check.proofs.LeastRows.{least_row}
use Rattle.image_check.proofs.RowRule.{rows_are}
use Rattle.image_check.proofs.SharedPages.{any_map, any_before, any_behind, any_here, any_later}

-- an address in a run is in the run's span
in_run_span : (x : ℕ) (w : Write) → in_run x (write_value w) ≡ true → in_span x (run_span w) ≡ true
in_run_span x w h = grind (arith, nat_tests)

-- where rule 2 fails at a byte of a run, the run's span has it
pub run_has : (c : Case) (x : ℕ) (w : Write) → RunBroken c x w → in_span x (run_span w) ≡ true
run_has c x w f = in_run_span x w f.0

-- spans that have where rule 2 fails at a byte of each run have wherever it fails
pub write_covered : (c : Case) (ws : List Write) → IsPermutation (runs c.report) (map write_value ws) → (ss : List Span)
    → CoversFirst (RunBroken c) ws (length ws) ss → Covers c rule.Write ss
write_covered c ws e ss h x f =
    let k : list_any (in_run x) (map write_value ws) ≡ true = any_moved (in_run x) (runs c.report) (map write_value ws) e ∙ f.0 in
    let g = found (λ (w : Write). in_run x (write_value w)) ws (sym (any_map (in_run x) write_value ws) ∙ k) in
    h g.place g.is (slice_get_within ws g.place g.is g.at) g.at x (g.passes, (write_is c x).1 f)

-- an address is in the span of it alone
pub single_in : (x a : ℕ) → x ≡ a → in_span x (single_span a) ≡ true
single_in x a e = grind (arith, nat_tests)

-- spans that have where rule 3 fails for each trampoline have wherever it fails
pub entry_covered : (c : Case) (ls : List ReportLine) → map line_of ls ≡ lines c.report → (ss : List Span)
    → CoversFirst (LineBroken c) ls (length ls) ss → Covers c rule.Entry ss
entry_covered c ls e ss h x f =
    let p = place_of (map line_of ls) f.0 (subst (λ (z : List Line). Contains z f.0) (sym e) f.1) in
    let q = from_map line_of ls f.0 p in
    h q.1.0 q.0 (slice_get_within ls q.1.0 q.0 q.1.1) q.1.1 x (subst (λ (l : Line). LineFails c x l) (sym q.2) (f.2, f.3))

abbrev sites : Option ℕ → ℕ → ℕ → List Span
sites bad entry first = option_spans bad ++ (single_span entry ∷ single_span first ∷ [])

-- where a row fails, the least site of a bad row is there or below
row_reached : (c : Case) (bad : Option ℕ) (x : ℕ) → IsLeastOf (λ y. any_row_bad c.listed None c.report.rows y ≡ true) bad
    → RowFails c x → (y : ℕ) × (y ≤ x) × (in_spans (option_spans bad) y ≡ true) × SiteFails c y
row_reached c None x h f = absurd (h x ((rows_are c x).1 f))
row_reached c (Some y) x h f =
    (y, h.1 x ((rows_are c x).1 f), any_here (in_span y) (single_span y) [] (single_in y y refl), inl ((rows_are c y).0 h.0))

-- rule 6 first fails at the least site of a bad row, at the entry point or at the private range's first address
site_reached : (c : Case) (bad : Option ℕ) → IsLeastOf (λ y. any_row_bad c.listed None c.report.rows y ≡ true) bad
    → (ss : List Span) → ss ≡ sites bad c.patched_entry c.report.private.0 → FindsFirst c rule.Site ss
site_reached c bad h ss q x (inl f) =
    let r = row_reached c bad x h f in
    (r.0, r.1, (ap (λ z. in_spans z r.0) q ∙ any_before (in_span r.0) (option_spans bad) _ r.2, r.3))
site_reached c bad h ss q x (inr (inl f)) =
    (x, omega arith, (ap (λ z. in_spans z x) q ∙ any_behind (in_span x) (option_spans bad) _ (any_here (in_span x) (single_span c.patched_entry) (single_span c.report.private.0 ∷ []) (single_in x c.patched_entry f.0)), inr (inl f)))
site_reached c bad h ss q x (inr (inr f)) =
    (x, omega arith, (ap (λ z. in_spans z x) q ∙ any_behind (in_span x) (option_spans bad) _ (any_later (in_span x) (single_span c.patched_entry) (single_span c.report.private.0 ∷ []) (any_here (in_span x) (single_span c.report.private.0) [] (single_in x c.report.private.0 f.0))), inr (inr f)))

-- where rule 6 fails, it fails there or below in one of the spans, for a report that is that one
pub site_told : (c : Case) (file : List ℕ) (v : BodyValue) → c.patched_entry ≡ entry_of file → v ≡ c.report → (ss : List Span)
    → ss ≡ sites (least_bad c.listed None None v.rows) (entry_of file) v.private.0 → FindsFirst c rule.Site ss
site_told c file v e p ss q =
    site_reached c _ (least_row c.listed c.report.rows) ss (q ∙ (λ i. sites (least_bad c.listed None None (p i).rows) (sym e i) (p i).private.0))
