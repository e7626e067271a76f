use Rattle.std.proofs.Common.{refl}
use Rattle.insn_form.specs.Meaning.{effect}
use Rattle.insn_form.proofs.worked.left_addresses.Goals as goal

pub returns-clause-touched : goal.returns-clause-touched
unfolding effect
returns-clause-touched c = record { stored = refl; beside_stored = refl; loaded = refl; beside_loaded = refl; pushed = refl; beside_pushed = refl; answered = refl; beside_answered = refl; ignored = refl }

pub returns-clause-inside : goal.returns-clause-inside
unfolding effect
returns-clause-inside c = record { stored = refl; stored_elsewhere = refl; loaded = refl; pushed = refl; pushed_lower = refl; answered = refl; answered_elsewhere = refl }
