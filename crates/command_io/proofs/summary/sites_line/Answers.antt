use Rattle.std.proofs.Common.{◌≡◌, map, string_bytes, sym}
use Rattle.std.proofs.lemmas.List.{length-map}
use Rattle.std.proofs.lemmas.Result.{IfOk-weaker}
use Rattle.patch_report.specs.Values.{row_value}
use Rattle.command_io.specs.Summary.{sites_line}
use Rattle.command_io.proofs.SummaryLines.{sites_told}
use Rattle.command_io.proofs.summary.sites_line.Goals as goal

pub returns : goal.returns
returns c =
    IfOk-weaker c.format.result _ (λ line. string_bytes line ≡ sites_line (map row_value c.args.rows.now))
    (λ line e. sites_told (map row_value c.args.rows.now) (string_bytes line) _ _ _ (sym (length-map c.args.rows.now row_value))
    c.number-patched.ensures c.number-left.ensures e) c.format.ensures.ok
