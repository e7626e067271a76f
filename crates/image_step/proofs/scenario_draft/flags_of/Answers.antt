use Rattle.std.proofs.Common.{ap, arith, ◌∙◌}
use Rattle.cpu_alu.specs.FlagWord.{packed}
use Rattle.cpu_alu.proofs.FlagBits.{packed_back}
use Rattle.image_step.proofs.scenario_draft.flags_of.Goals as goal

pub returns : goal.returns
returns c = ap packed c.unpack.ensures ∙ packed_back c.args.word (omega arith)
