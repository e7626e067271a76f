use Rattle.std.proofs.Common.{◌<◌, subst, sym, List, ℕ, arith}
use Rattle.std.proofs.lemmas.List.Elements.{All-from_get_or, recursion_from_All}
use Rattle.jump_form.specs.Jumps.{AreBytes}
use Rattle.scheme_search.proofs.pieces.byte_list.Goals as goal

pub returns-clause-small : goal.returns-clause-small
returns-clause-small c =
    subst (λ (xs : List ℕ). AreBytes xs) (sym c.from_slice.ensures)
    (recursion_from_All (λ b. b < 256) c.args.bytes.now (All-from_get_or (λ b. b < 256) c.args.bytes.now 0
    (λ i l. omega (arith, c.type_inv.bytes i))))
