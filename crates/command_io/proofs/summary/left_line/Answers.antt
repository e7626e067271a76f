use Rattle.std.proofs.Common.{◌≡◌, map, string_bytes}
use Rattle.std.proofs.lemmas.Result.{IfOk-weaker}
use Rattle.patch_report.specs.Values.{row_value}
use Rattle.command_io.specs.Summary.{left_line}
use Rattle.command_io.proofs.SummaryLines.{left_told}
use Rattle.command_io.proofs.summary.left_line.Goals as goal

pub returns : goal.returns
returns c =
    IfOk-weaker c.format.result _ (λ line. string_bytes line ≡ left_line (map row_value c.args.rows.now))
    (λ line e. left_told (map row_value c.args.rows.now) (string_bytes line) _ _ _ c.number-fixed.ensures c.number-unplanned.ensures
    c.number-shared.ensures e) c.format.ensures.ok
