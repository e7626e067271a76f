use Rattle.page_group.specs.Pages.{ends_of, IsPageList}
use Rattle.page_group.specs.Finding.{EndBelow}
use Rattle.std.proofs.lemmas.List.Filters.{dedup_is}
use Rattle.std.proofs.Common.{ℕ, List, eqb, lit≤, sym, subst}
use Rattle.page_group.proofs.PageLists.{found_more, exact_all, page_list, pages_fit, below_kept}
use Rattle.page_group.proofs.found_pages.found_pages.Goals as goal

pub loop-piece-preserved : goal.loop-piece-preserved
loop-piece-preserved c =
    let found = c.loop-piece.invariant in
    let added = c.in_ok-push_pages.ensures in (
      found_more c.args.pieces.now c.loop-piece.piece-index c.piece-item.result _ _ c.loop-piece-test.true c.piece-item.is found.0 added.adds,
      added.below found.1,
    )

pub returns-clause-listed : goal.returns-clause-listed
returns-clause-listed c =
    let exact = exact_all c.args.pieces.now c.loop-piece.piece-index c.loop-piece.found.items c.loop-piece-test.false c.loop-piece.invariant.0 in
    let kept = dedup_is eqb c.sort_unstable.new.self.items c.dedup.new.self.items c.dedup.ensures.filtered in
    subst (λ (ps : List ℕ). IsPageList (ends_of c.args.pieces.now) ps) (sym c.shrink_to_fit.ensures.items)
    (page_list (ends_of c.args.pieces.now) c.loop-piece.found.items c.sort_unstable.new.self.items c.dedup.new.self.items exact
    c.sort_unstable.ensures.permutation c.sort_unstable.ensures.sorted kept)

pub returns-clause-fits : goal.returns-clause-fits
returns-clause-fits c =
    let kept = dedup_is eqb c.sort_unstable.new.self.items c.dedup.new.self.items c.dedup.ensures.filtered in
    let below = below_kept 4294967296 c.loop-piece.found.items c.sort_unstable.new.self.items c.dedup.new.self.items c.loop-piece.invariant.1 c.sort_unstable.ensures.permutation kept in
    pages_fit 4294967296 c.shrink_to_fit.new.self.items (returns-clause-listed c).ascending
    (subst (EndBelow 4294967296) (sym c.shrink_to_fit.ensures.items) below) (lit≤ tt)
