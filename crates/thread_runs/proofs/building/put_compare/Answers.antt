use Rattle.std.proofs.Common.{List, [], ◌∷◌, ◌++◌, ℕ, sym, ap, ◌∙◌, arith}
use Rattle.relocate_insn.specs.Pieces.{four}
use Rattle.relocate_insn.proofs.InstructionParts.{grown}
use Rattle.thread_runs.specs.ThreadCode.{compare_with}
use Rattle.thread_runs.proofs.ComparisonCode.{compare_other}
use Rattle.thread_runs.proofs.building.put_compare.Goals as goal

pub returns-then-reg-eq0 : goal.returns-then-reg-eq0
returns-then-reg-eq0 c =
    grown c.args.code.now (0x48 ∷ 0x81 ∷ 0xbc ∷ 0x24 ∷ 0x78 ∷ 0xff ∷ 0xff ∷ 0xff ∷ []) (four c.args.value) c.put.new.self c.put_address.new.self c.put.ensures c.put_address.ensures
    ∙ ap (λ z. c.args.code.now ++ compare_with z c.args.value) (sym c.if-reg-eq0.true)

pub returns-else-reg-eq0 : goal.returns-else-reg-eq0
returns-else-reg-eq0 c = c.put_register_compare.ensures ∙ ap (λ (l : List ℕ). c.args.code.now ++ l) (sym (compare_other c.args.reg c.args.value (omega arith)))
