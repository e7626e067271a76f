use Rattle.std.proofs.Common.{sym, subst, ap, ◌∙◌, List, ℕ}
use Rattle.std.specs.List.Sorted.{IsNonDecreasingBy}
use Rattle.patch_report.specs.Values.{BodyValue}
use Rattle.image_check.specs.Nearness.{IsNear}
use Rattle.image_check.proofs.NearCounts.{pages_rise}
use Rattle.image_check.proofs.flat.FlatReport.near_pages.Goals as goal

pub near-requires : goal.near-requires
near-requires c = record {
  rises = subst (λ (z : List (ℕ × ℕ)). IsNonDecreasingBy (λ (p : ℕ × ℕ). p.0) z) (sym c.pages.ensures)
      (pages_rise 0 _ c.keeps.ensures.report.body.pages);
}

pub returns : goal.returns
returns c =
    subst (λ (z : List (ℕ × ℕ)). IsNear (λ y. y) (λ (p : ℕ × ℕ). p.0) 4096 c.args.addr c.near.result.now z)
    (c.pages.ensures ∙ ap (λ (v : BodyValue). v.pages) c.self.view_is) c.near.ensures.near
