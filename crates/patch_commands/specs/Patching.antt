-- What the code of `patch` holds, and what the functions do that each command calls that rewrites FILE. Theorems cite it.
use Rattle.std.specs.Prelude.{◌≡◌, ◌⊎◌, ℕ, ◌≤◌, List, [], ◌∷◌, ◌++◌, length, Result, Ok, Err}
use Rattle.std.specs.List.Sorted.{IsStrictlyIncreasing}
use Rattle.pun_base.specs.Shown.{DeskState}
use Rattle.pun_base.specs.Limits.{most_sites}
use Rattle.list_text.specs.declared.refusal.ListError.{ListError}
use Rattle.patch_report.specs.Values.{RowValue, ReportValue}
use Rattle.patch_report.specs.Spelling.{report_text}
use Rattle.command_io.specs.Summary.{summary_text, done_status}
use Rattle.command_io.specs.ReportModes.{mode_text}
use Rattle.command_io.specs.Refusals.{Refusal, BadList}
use Rattle.command_io.specs.Verdict.{starts_of, sites_of}
use Rattle.command_io.specs.Failing.{Failed, Refused, NoMemory, Answer}
use Rattle.command_io.specs.Works.{TellsOnly, Finishes}
use Rattle.command_io.specs.declared.ends.Input.TheVariants as input
use Rattle.command_io.specs.declared.report_mode.Mode.{Mode}
use Rattle.patch_commands.specs.declared.patch.Inputs.{Inputs}
use Rattle.patch_commands.specs.declared.patch.Listed.{Listed}

-- The inputs' bytes, in order.
abbrev pub patch_texts : Inputs → List (List ℕ)
patch_texts x = x.file.items ∷ x.starts.items ∷ x.sites.items ∷ []

-- FILE, and the addresses of both lists.
abbrev pub file_and_lists : Listed → List ℕ × List ℕ × List ℕ
file_and_lists l = (l.file.items, l.starts.items, l.sites.items)

-- FILE and both lists, as `rewrite` takes them.
pub record AreLists (x : Inputs) (file starts sites : List ℕ) : Type 0 where
  pub file_is : file ≡ x.file.items
  pub starts_are : starts_of x.starts.items ≡ Ok starts
  pub sites_are : sites_of x.sites.items ≡ Ok sites
  pub starts_ascend : IsStrictlyIncreasing starts
  pub sites_ascend : IsStrictlyIncreasing sites
  pub few_sites : length sites ≤ most_sites

-- STARTS is refused, or it is read and SITES is.
abbrev pub ListsRefused : Inputs → Refusal → Type 0
ListsRefused x r =
    ((error : ListError) × (starts_of x.starts.items ≡ Err error) × (r ≡ BadList input.Starts error))
    ⊎ ((starts : List ℕ) × (error : ListError) × (starts_of x.starts.items ≡ Ok starts)
    × (sites_of x.sites.items ≡ Err error) × (r ≡ BadList input.Sites error))

-- Both lists are read; or one is refused, or memory ran out.
abbrev pub ReadsLists : Inputs → Result (List ℕ × List ℕ × List ℕ) Failed → Type 0
ReadsLists x (Ok l) = AreLists x l.0 l.1 l.2
ReadsLists x (Err (Refused r)) = ListsRefused x r
ReadsLists x (Err NoMemory) = Unit {0}
ReadsLists x (Err other) = ⊥

-- The summary of these rows, or memory ran out.
abbrev pub TellsSummary : List RowValue → Result Answer Failed → Type 0
TellsSummary rows r = TellsOnly (summary_text rows, done_status rows) r

-- REPORT was written in a mode, and the summary is answered; or not.
abbrev pub WritesReport : Mode → List ℕ → ReportValue → DeskState → DeskState → Result Answer Failed → Type 0
WritesReport mode name report s t result =
    Finishes ((name, λ (v : ReportValue). mode_text mode ++ report_text v) ∷ []) report
    (summary_text report.body.rows, done_status report.body.rows) s t result
