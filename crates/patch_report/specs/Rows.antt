-- Rows by their sites: the row of a site, and the site of each row. Theorems cite it.
use Rattle.std.specs.Prelude.{ℕ, ◌==◌, List, [], ◌∷◌, map, Option, Some, None, if◌then◌else◌}
use Rattle.patch_report.specs.declared.row.ReportRow.{ReportRow}
use Rattle.patch_report.specs.Values.{RowValue}

-- The row of a site.
abbrev pub row_with : ℕ → List ReportRow → Option ReportRow
row_with site [] = None
row_with site (r ∷ rs) = if site == r.site then Some r else row_with site rs

-- The same among values.
abbrev pub row_of : ℕ → List RowValue → Option RowValue
row_of site [] = None
row_of site (r ∷ rs) = if site == r.site then Some r else row_of site rs

-- The site of each row.
abbrev pub sites_of : List ReportRow → List ℕ
sites_of rows = map (λ r. r.site) rows
