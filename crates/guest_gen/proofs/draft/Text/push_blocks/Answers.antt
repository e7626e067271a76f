use Rattle.std.proofs.Common.{◌≡◌, ℕ, ◌+◌, ◌++◌, sym, ap, subst, ◌∙◌}
use Rattle.guest_gen.specs.Blocks.{block, block_at}
use Rattle.guest_gen.specs.Growing.{Grown}
use Rattle.guest_gen.specs.Texts.{site_at}
use Rattle.guest_gen.proofs.TextGrowth.{Drafted, drafted_more, drafted_all}
use Rattle.guest_gen.proofs.draft.Text.push_blocks.Goals as goal

pub loop-index-preserved : goal.loop-index-preserved
loop-index-preserved c =
    let l = c.loop-index in
    let d = c.draw_block-drawn in
    let every = c.spacing-every.result in
    let next = c.push_block.new.self in
    let same : block d.result.kind d.result.number ≡ block_at l.x = λ i. block (d.ensures.kind i) (d.ensures.number i) in
    let grown = subst (λ is. Grown is l.self next) same c.in_ok-push_block.ensures.grown in
    let found = c.in_ok-push_site.ensures ∙ ap (λ (a : ℕ). l.sites.items ++ site_at every l.index a) c.behind.ensures.value in
    subst (λ (x : ℕ). Drafted c.args.seed c.args.blocks every c.args.self.now next x (l.index + 1) c.push_site.new.sites.items)
    (sym d.ensures.next)
    (drafted_more c.args.seed c.args.blocks every c.args.self.now l.self next l.x l.index l.sites.items c.push_site.new.sites.items
    l.invariant c.loop-index-test.true grown c.in_ok-push_block.ensures.few found)

pub returns-clause-grown : goal.returns-clause-grown
returns-clause-grown c =
    let l = c.loop-index in
    let all = drafted_all c.args.seed c.args.blocks c.spacing-every.result c.args.self.now l.self l.x l.index l.sites.items l.invariant
    c.loop-index-test.false in
    all.0
