use Rattle.std.proofs.Common.{refl}
use Rattle.insn_form.specs.Meaning.{effect}
use Rattle.insn_form.specs.Classes.{template}
use Rattle.insn_form.specs.Filling.{filled}
use Rattle.cpu_alu.specs.Outcome.{is_even}
use Rattle.cpu_alu.specs.FlagWord.{unpacked}
use Rattle.std.specs.Int.Count.{ones}
use Rattle.insn_form.proofs.worked.asked_flags.Goals as goal

pub returns : goal.returns
unfolding effect template filled is_even ones unpacked
returns c = record { unanswered = λ m. refl; otherwise = λ m. refl; answered = λ m. refl }
