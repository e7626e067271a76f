use Rattle.std.proofs.Common.{◌≡◌, map, string_bytes}
use Rattle.std.proofs.lemmas.Result.{IfOk-weaker}
use Rattle.patch_report.specs.Values.{row_value}
use Rattle.command_io.specs.Summary.{schemes_line}
use Rattle.command_io.proofs.SummaryLines.{schemes_told}
use Rattle.command_io.proofs.summary.schemes_line.Goals as goal

pub returns : goal.returns
returns c =
    IfOk-weaker c.format.result _ (λ line. string_bytes line ≡ schemes_line (map row_value c.args.rows.now))
    (λ line e. schemes_told (map row_value c.args.rows.now) (string_bytes line) _ _ _ _ _ c.number-b1.ensures c.number-b2.ensures
    c.number-t1.ensures c.number-t2.ensures c.number-t3.ensures e) c.format.ensures.ok
