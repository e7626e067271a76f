use Rattle.std.proofs.Common.{rules, ◌≡◌, false, sym, ◌∙◌}
use Rattle.patch_report.specs.Views.{at_value}
use Rattle.patch_report.proofs.FirstByte.{no_write_next}
use Rattle.patch_report.proofs.part_reading.find_write.Goals as goal

pub returns-then-not-begins_with : goal.returns-then-not-begins_with
returns-then-not-begins_with c =
    let b : c.begins_with.result ≡ false = search rules in
    sym (no_write_next (at_value c.args.at) (sym c.begins_with.ensures ∙ b))
