use Rattle.std.proofs.Common.{ap, ◌∙◌}
use Rattle.image_runs.specs.Listed.{are_short}
use Rattle.image_step.proofs.InstructionByteSearch.{short_entries}
use Rattle.image_step.proofs.runner.Runner.new.Goals as goal

pub invariant_of-result-clause-short : goal.invariant_of-result-clause-short
invariant_of-result-clause-short c = ap are_short c.in_ok-starts.ensures ∙ short_entries c.args.elf.now.bytes c.args.starts.now
