use Rattle.std.proofs.Common.{ℕ, ◌+◌, ◌*◌, sym, ap, subst, arith}
use Rattle.elf_emit.proofs.IndexPairs.{AddsBelow, adds_none, adds_one, adds_all}
use Rattle.elf_emit.proofs.index.push_pairs.Goals as goal

pub loop-key-init : goal.loop-key-init
loop-key-init c =
    subst (λ (n : ℕ). AddsBelow c.args.first n c.args.place c.args.pairs.now.items c.args.pairs.now.items) (sym c.from-key.ensures)
    (adds_none c.args.first c.args.place c.args.pairs.now.items)

pub loop-key-preserved : goal.loop-key-preserved
loop-key-preserved c =
    adds_one c.args.first c.loop-key.key c.args.place (c.loop-key.key * 4294967296 + c.from.result) c.args.pairs.now.items c.loop-key.pairs.items c.push.new.self.items
    (ap (λ (n : ℕ). c.loop-key.key * 4294967296 + n) c.from.ensures) c.in_ok-push.ensures.items c.loop-key.invariant

pub returns : goal.returns
returns c = adds_all c.args.first c.args.last c.loop-key.key c.args.place c.args.pairs.now.items c.loop-key.pairs.items (omega arith) c.loop-key.invariant
