-- Rows that were read so far, and those that are still to be read.
use Rattle.std.proofs.Common.{◌≡◌, ℕ, suc, ◌+◌, ◌-◌, ◌<◌, ◌≤◌, List, [], ◌∷◌, ◌++◌, Result, Ok, Err, refl, sym, ◌∙◌, arith}
use Rattle.patch_report.specs.declared.error.ReportError.{ReportError}
use Rattle.patch_report.specs.declared.origin.Version.{Version}
use Rattle.patch_report.specs.declared.error.ReportError.TheVariants as errors
use Rattle.patch_report.specs.Answers.{Fails}
use Rattle.patch_report.specs.Values.{RowValue}
use Rattle.patch_report.specs.Reading.{At, row_at, rows_at}

-- Where a row was read, the others are those of the rest.
pub goes_on : (v : Version) (before : List RowValue) (count turn : ℕ) (at : At) (row : RowValue) (next : At)
    (total : Result (List RowValue × At) ℕ)
    → turn < count → row_at v (count - 1 - turn) before at ≡ Ok (row, next)
    → rows_at v (count - turn) before at ≡ total
    → rows_at v (count - (turn + 1)) (before ++ row ∷ []) next ≡ total
unfolding rows_at
goes_on v before count turn at row next total lt h so_far =
    let k : count - turn ≡ suc (count - (turn + 1)) = omega arith in
    let d : count - (turn + 1) ≡ count - 1 - turn = omega arith in
    let g : row_at v (count - (turn + 1)) before at ≡ Ok (row, next) = rw d h in
    let one : rows_at v (count - turn) before at ≡ rows_at v (count - (turn + 1)) (before ++ row ∷ []) next = rw (k, g) refl in
    sym one ∙ so_far

-- Where the next row isn't one, reading ends with its fault.
pub ends : (v : Version) (e : ReportError) (before : List RowValue) (count turn : ℕ) (at : At) (total : Result (List RowValue × At) ℕ)
    → turn < count → Fails e (row_at v (count - 1 - turn) before at)
    → rows_at v (count - turn) before at ≡ total → Fails e total
unfolding rows_at
ends v errors.Memory before count turn at total lt h so_far = tt
ends v (errors.BadVersion line) before count turn at total lt h so_far = h
ends v (errors.BadReport line) before count turn at total lt h so_far =
    let k : count - turn ≡ suc (count - (turn + 1)) = omega arith in
    let d : count - (turn + 1) ≡ count - 1 - turn = omega arith in
    let g : row_at v (count - (turn + 1)) before at ≡ Err line = rw d h in
    let one : rows_at v (count - turn) before at ≡ Err line = rw (k, g) refl in
    sym so_far ∙ one

-- Where all rows were read, they are the rows.
pub is_done : (v : Version) (before : List RowValue) (count turn : ℕ) (at : At) (total : Result (List RowValue × At) ℕ)
    → count ≤ turn → rows_at v (count - turn) before at ≡ total → total ≡ Ok (before, at)
unfolding rows_at
is_done v before count turn at total le so_far =
    let k : count - turn ≡ 0 = omega arith in
    let one : rows_at v (count - turn) before at ≡ Ok (before, at) = rw k refl in
    sym so_far ∙ one
