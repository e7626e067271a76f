use Rattle.trampoline.proofs.EventData.{zeros_data, marks_data, marks_length}
use Rattle.trampoline.proofs.laws.events_keep_data.Goals as goal

pub returns-clause-zeros : goal.returns-clause-zeros
returns-clause-zeros c = zeros_data

pub returns-clause-data : goal.returns-clause-data
returns-clause-data c = marks_data

pub returns-clause-length : goal.returns-clause-length
returns-clause-length c = marks_length
