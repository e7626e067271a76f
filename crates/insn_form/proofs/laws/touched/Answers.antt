use Rattle.insn_form.proofs.TouchedMemory.{reads_held, writes_are_held, touches}
use Rattle.insn_form.proofs.laws.touched.Goals as goal

pub returns-clause-reads : goal.returns-clause-reads
returns-clause-reads c = reads_held

pub returns-clause-writes : goal.returns-clause-writes
returns-clause-writes c = writes_are_held

pub returns-clause-held : goal.returns-clause-held
returns-clause-held c = touches
