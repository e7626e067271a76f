use Rattle.std.proofs.Common.{refl}
use Rattle.std.specs.Int.Count.{ones}
use Rattle.cpu_alu.specs.Sums.{total, carries, overflows}
use Rattle.cpu_alu.specs.Widths.{signed}
use Rattle.cpu_alu.specs.Outcome.{is_even}
use Rattle.insn_form.specs.Meaning.{effect}
use Rattle.insn_form.specs.Conditions.{is_met}
use Rattle.thread_runs.proofs.laws.worked_conditions.Goals as goal

pub returns : goal.returns
unfolding effect total carries overflows signed is_even ones is_met
returns c = record {
  counts = refl;
  counts_long = refl;
  covers = refl;
  covers_long = refl;
  plain = refl;
  plain_long = refl;
  steps = refl;
  second_at = refl;
  marks_at = refl;
  behind = refl;
  made = refl;
  marks = refl;
  first_fails = refl;
  first_unmarked = refl;
  second_fails = refl;
  second_unmarked = refl;
}
