use Rattle.jump_form.proofs.JumpsInMemory.{jumps_stand}
use Rattle.jump_form.proofs.laws.jumps_stand.Goals as goal

pub returns : goal.returns
returns c = jumps_stand
