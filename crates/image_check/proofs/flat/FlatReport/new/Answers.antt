use Rattle.std.proofs.Common.{map, subst, List}
use Rattle.std.specs.List.Sorted.{IsPermutation}
use Rattle.std.proofs.lemmas.List.Sorted.{IsPermutation-map}
use Rattle.patch_report.specs.Values.{WriteValue, write_value}
use Rattle.image_check.specs.declared.flat.ReportLine.{ReportLine}
use Rattle.image_check.proofs.flat.FlatReport.new.Goals as goal

pub invariant_of-result : goal.invariant_of-result
invariant_of-result c =
    let P : List ReportLine → Type 0 = λ z. IsPermutation z c.in_ok-started.started.items in
    let Q : List WriteValue → Type 0 = λ z. IsPermutation z (map write_value c.in_ok-runs.runs.items) in
    record {
      lines_are = c.in_ok-lines.ensures;
      started_are = subst P c.deref.ensures.value c.in_ok-started.ensures.moved;
      started_rise = c.in_ok-started.ensures.rises;
      runs_are = subst Q c.in_ok-told.ensures (IsPermutation-map write_value _ _ c.in_ok-runs.ensures.moved);
      runs_rise = c.in_ok-runs.ensures.rises;
    }
