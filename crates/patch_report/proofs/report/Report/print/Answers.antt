use Rattle.std.proofs.Common.{◌≡◌, ℕ, List, [], ◌∷◌, ◌++◌, length, map, sym, ap, ◌∙◌}
use Rattle.std.specs.List.{flat_map}
use Rattle.patch_report.specs.declared.line.Line.{Line}
use Rattle.patch_report.specs.declared.line.Line.TheVariants as line
use Rattle.patch_report.specs.Values.{ReportValue, row_value}
use Rattle.patch_report.specs.Spelling.{lines_text, page_line, report_text, row_lines, version_lines}
use Rattle.patch_report.proofs.PrintedLines.{two, four}
use Rattle.patch_report.proofs.report.Report.print.Goals as goal

pub returns : goal.returns
returns c =
    let p = c.self.inside.parts in
    let vs : List Line = version_lines p.origin in
    let ws : ℕ → List Line = λ n. line.Action p.action ∷ line.Private p.private.lo p.private.hi ∷ line.Sites n ∷ [] in
    let xs : List Line = flat_map row_lines (map row_value p.rows) in
    let ys : List Line = map page_line p.pages.items in
    let zs : List Line = line.End ∷ [] in
    let n : ℕ = c.row_count.result in
    let count : n ≡ length (map row_value p.rows) =
    c.row_count.ensures ∙ sym (ap (λ (v : ReportValue). length v.body.rows) c.self.view_is) in
    let version : c.push_version.new.out.items ≡ [] ++ lines_text vs =
    c.in_ok-push_version.ensures ∙ ap (λ (l : List ℕ). l ++ lines_text vs) c.new-text.ensures.items in
    let rows : c.push_rows.new.out.items ≡ c.push_head.new.out.items ++ lines_text xs =
    c.in_ok-push_rows.ensures ∙ (λ i. c.push_head.new.out.items ++ lines_text (flat_map row_lines (map row_value (c.as_slice.ensures i))))
    in
    let pages : c.push_pages.new.out.items ≡ c.push_rows.new.out.items ++ lines_text ys =
    c.in_ok-push_pages.ensures ∙ (λ i. c.push_rows.new.out.items ++ lines_text (map page_line (c.as_slice-2.ensures.value i))) in
    let body : c.extend_from_slice.new.self.items ≡ c.push_version.new.out.items ++ lines_text (ws n ++ (xs ++ (ys ++ zs))) =
    four (ws n) xs ys zs c.push_version.new.out.items c.push_head.new.out.items c.push_rows.new.out.items c.push_pages.new.out.items
    c.extend_from_slice.new.self.items c.in_ok-push_head.ensures rows pages c.in_ok-extend_from_slice.ensures.items in
    let whole : c.extend_from_slice.new.self.items ≡ [] ++ lines_text (vs ++ (ws n ++ (xs ++ (ys ++ zs)))) =
    two vs (ws n ++ (xs ++ (ys ++ zs))) [] c.push_version.new.out.items c.extend_from_slice.new.self.items version body in
    whole ∙ (ap (λ (m : ℕ). lines_text (vs ++ (ws m ++ (xs ++ (ys ++ zs))))) count ∙ ap report_text c.self.view_is)
