use Rattle.std.proofs.Common.{rules, sym, ◌∙◌, arith}
use Rattle.image_check.proofs.FixedFronts.{front_fixed}
use Rattle.image_check.proofs.jumps.fixed_front.Goals as goal

pub returns-then-are_fixed : goal.returns-then-are_fixed
returns-then-are_fixed c m a b h =
    let k = c.if-rest-most.false in
    search rules ∙ front_fixed m c.args.perms 15 (sym c.are_fixed.ensures ∙ c.if-are_fixed.true) a c.args.rest.now (omega arith) b h
