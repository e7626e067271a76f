use Rattle.std.proofs.Common.{sym, ◌∙◌, refl, arith}
use Rattle.insn_form.proofs.KindTable.{one_byte_is}
use Rattle.insn_form.proofs.classes.one_byte.Goals as goal

pub returns : goal.returns
returns c = c.one_byte_by.ensures ∙ sym (one_byte_is c.args.parts.now _ c.from.result _ refl c.from.ensures (omega arith))
