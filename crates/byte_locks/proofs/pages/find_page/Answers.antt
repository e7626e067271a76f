use Rattle.std.proofs.Common.{ap, ◌∙◌, arith}
use Rattle.std.proofs.lemmas.List.{get_or_default}
use Rattle.byte_locks.proofs.pages.find_page.Goals.{else-place-pages-via-then-place-pages+else-pages-place, else-place-pages-via-else-place-pages}
use Rattle.byte_locks.proofs.pages.find_page.Goals as goal

pub returns-then-pages-place-clause-place : goal.returns-then-pages-place-clause-place
returns-then-pages-place-clause-place c =
    let pages = c.args.pages.now in
    let read = c.index-pages-place.result in (
      c.if-place-pages.true,
      λ d. ap (λ p. p.number) (get_or_default pages c.count_before-place.result d read c.if-place-pages.true) ∙ c.if-pages-place.true,
    )

pub returns-else-place-pages-clause-place : goal.returns-else-place-pages-clause-place
returns-else-place-pages-clause-place c = (
  c.count_before-place.ensures.value,
  λ d within same. elim c.else-place-pages.branch [
    | else-place-pages-via-then-place-pages+else-pages-place w ↦
        w.if-pages-place.false
        (ap (λ p. p.number) (get_or_default c.args.pages.now c.count_before-place.result w.index-pages-place.result d within) ∙ same)
    | else-place-pages-via-else-place-pages w ↦ omega arith
  ],
)
