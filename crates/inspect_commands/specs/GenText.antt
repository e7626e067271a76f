-- What `gen` prints: ten lines. Theorems cite it.
use Rattle.std.specs.Prelude.{ℕ, Bool, if◌then◌else◌, List, ◌++◌, length, codes}
use Rattle.std.specs.Fmt.{decimal}
use Rattle.guest_gen.specs.Texts.{guest_starts}
use Rattle.command_io.specs.Summary.{summary_text}
use Rattle.inspect_commands.specs.CheckAnswers.{verdict_text}
use Rattle.inspect_commands.specs.StepText.{count_line, quiet_line}
use Rattle.guest_findings.specs.Findings.{Findings}

-- Which guest it is: its seed and its number of blocks. Each line ends with LF (10).
unfoldable pub guest_line : ℕ → ℕ → List ℕ
guest_line seed blocks = codes "gen " ++ (decimal seed ++ (codes " " ++ (decimal blocks ++ codes "\n")))

-- The steps of the original, those of the patched file, and the sum of the counters.
unfoldable pub runs_line : Findings → List ℕ
runs_line f =
    codes "steps " ++ (decimal f.steps ++ (codes " " ++ (decimal f.patched_steps ++ (codes " events "
    ++ (decimal f.events ++ codes "\n")))))

-- Whether the last states look alike.
abbrev pub views_line : Bool → List ℕ
views_line agree = if agree then codes "views agree\n" else codes "views differ\n"

-- The ten lines.
abbrev pub gen_text : ℕ → ℕ → Findings → List ℕ
gen_text seed blocks f =
    guest_line seed blocks ++ (count_line (codes "starts") (length (guest_starts seed blocks)) ++ (summary_text f.rows
    ++ (count_line (codes "entries") f.entries ++ (verdict_text f.verdict ++ (runs_line f
    ++ (quiet_line f.quiet ++ views_line f.agree))))))
