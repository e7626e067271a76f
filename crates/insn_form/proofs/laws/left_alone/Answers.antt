use Rattle.insn_form.proofs.TouchedMemory.{read_and_write, leaves_nowhere, narrowed, united}
use Rattle.insn_form.proofs.laws.left_alone.Goals as goal

pub returns-clause-parts : goal.returns-clause-parts
returns-clause-parts c = read_and_write

pub returns-clause-nowhere : goal.returns-clause-nowhere
returns-clause-nowhere c = leaves_nowhere

pub returns-clause-narrowed : goal.returns-clause-narrowed
returns-clause-narrowed c = narrowed

pub returns-clause-united : goal.returns-clause-united
returns-clause-united c = united
