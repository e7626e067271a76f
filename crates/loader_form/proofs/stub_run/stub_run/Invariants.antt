use Rattle.std.proofs.Common.{[], drop}
use Rattle.cpu_step.specs.Stepping.{machine_of}
use Rattle.loader_form.proofs.RunsByAnswers.{Going}
use Rattle.loader_form.proofs.stub_run.stub_run.Given as goal

abbrev pub invariant-loop-steps : goal.invariant-loop-steps
invariant-loop-steps l =
    Going l.fn.file.bytes l.fn.original_entry l.fn.answers (machine_of l.fn.state []) (drop l.used l.fn.answers) (machine_of l.state [])
    l.steps
