-- The summary of a patch, counted from the rows of its report. Theorems cite it.
use Rattle.std.specs.Prelude.{ℕ, ◌==◌, Bool, true, false, if◌then◌else◌, List, ◌++◌, length, count_by, codes}
use Rattle.std.specs.Fmt.{decimal}
use Rattle.pun_base.specs.declared.scheme.Scheme.{Scheme}
use Rattle.pun_base.specs.declared.scheme.Scheme.TheVariants.{B1, B2, T1, T2, T3}
use Rattle.patch_report.specs.Values.{RowValue, Immovable, Unplanned, Shared as SharesBytes, OutcomeValue, patched, left}
use Rattle.command_io.specs.declared.summary.Counted.{Counted}
use Rattle.command_io.specs.declared.summary.Counted.TheVariants.{Patched, By, Left, NotRelocatable, NoPlan, Shared}

-- Two schemes are the same.
abbrev pub is_scheme : Scheme → Scheme → Bool
is_scheme B1 B1 = true
is_scheme B2 B2 = true
is_scheme T1 T1 = true
is_scheme T2 T2 = true
is_scheme T3 T3 = true
is_scheme one other = false

-- Whether an outcome is counted: a site is patched by one scheme, or it is left.
abbrev pub is_counted : Counted → OutcomeValue → Bool
is_counted Patched (patched plan) = true
is_counted (By scheme) (patched plan) = is_scheme scheme plan.scheme
is_counted Left (left why) = true
is_counted NotRelocatable (left Immovable) = true
is_counted NoPlan (left Unplanned) = true
is_counted Shared (left SharesBytes) = true
is_counted other outcome = false

-- How many rows are counted.
abbrev pub number : Counted → List RowValue → ℕ
number which rows = count_by (λ row. is_counted which row.outcome) rows

-- The number in decimal digits.
abbrev pub told : Counted → List RowValue → List ℕ
told which rows = decimal (number which rows)

-- Each line ends with LF (10).
unfoldable pub sites_line : List RowValue → List ℕ
sites_line rows =
    codes "sites " ++ (decimal (length rows) ++ (codes " patched " ++ (told Patched rows
    ++ (codes " left " ++ (told Left rows ++ codes "\n")))))

unfoldable pub schemes_line : List RowValue → List ℕ
schemes_line rows =
    codes "B1 " ++ (told (By B1) rows ++ (codes " B2 " ++ (told (By B2) rows
    ++ (codes " T1 " ++ (told (By T1) rows ++ (codes " T2 " ++ (told (By T2) rows
    ++ (codes " T3 " ++ (told (By T3) rows ++ codes "\n")))))))))

unfoldable pub left_line : List RowValue → List ℕ
left_line rows =
    codes "NotRelocatable " ++ (told NotRelocatable rows
    ++ (codes " NoPlan " ++ (told NoPlan rows
    ++ (codes " Shared " ++ (told Shared rows ++ codes "\n")))))

unfoldable pub summary_text : List RowValue → List ℕ
summary_text rows = sites_line rows ++ schemes_line rows ++ left_line rows

-- The status of a patch that did its work: 0 where no site is left, else 1.
abbrev pub done_status : List RowValue → ℕ
done_status rows = if number Left rows == 0 then 0 else 1
