-- Rows that are counted, by what they are worth.
use Rattle.std.proofs.Common.{◌≡◌, ℕ, ◌+◌, cond, List, [], ◌∷◌, map, count_by, fold, refl}
use Rattle.patch_report.specs.declared.row.ReportRow.{ReportRow}
use Rattle.patch_report.specs.Values.{RowValue, outcome_value, row_value}
use Rattle.command_io.specs.declared.summary.Counted.{Counted}
use Rattle.command_io.specs.Summary.{is_counted, number}

-- rows are counted by their values
pub counted : (which : Counted) (rows : List ReportRow) → number which (map row_value rows) ≡ count_by (λ r. is_counted which (outcome_value r.outcome)) rows
counted which rows = from 0 rows
  where
    from : (n : ℕ) (rs : List ReportRow) → fold (λ (s : ℕ) (v : RowValue). s + cond (is_counted which v.outcome) 1 0) n (map row_value rs)
        ≡ fold (λ (s : ℕ) (r : ReportRow). s + cond (is_counted which (outcome_value r.outcome)) 1 0) n rs
    from n [] = refl
    from n (r ∷ rs) = from (n + cond (is_counted which (outcome_value r.outcome)) 1 0) rs
