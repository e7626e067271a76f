use Rattle.std.proofs.Common.{map, sym, subst, ap, ◌∙◌, List}
use Rattle.std.specs.List.Sorted.{IsPermutation}
use Rattle.std.proofs.lemmas.List.Sorted.{IsPermutation-map}
use Rattle.image_check.specs.declared.flat.ReportLine.{ReportLine}
use Rattle.image_check.specs.Parts.{line_of}
use Rattle.sound_images.specs.Reports.{Line, lines}
use Rattle.image_check.proofs.NearCounts.{near_told}
use Rattle.image_check.proofs.flat.FlatReport.near_lines.Goals as goal

pub returns : goal.returns
returns c =
    let P : List Line → Type 0 = λ z. IsPermutation z (map line_of c.deref.result.now) in
    let Q : List ReportLine → Type 0 = λ z. IsPermutation (map line_of c.self.inside.lines.items) (map line_of z) in
    let moved = subst Q (sym c.deref.ensures.value) (IsPermutation-map line_of _ _ c.self.invariant.started_are) in
    near_told line_of (λ l. l.tramp.start) 1 c.args.addr c.near.result.now c.deref.result.now _ c.near.ensures.near
    (subst P (c.self.invariant.lines_are ∙ ap lines c.self.view_is) moved)
