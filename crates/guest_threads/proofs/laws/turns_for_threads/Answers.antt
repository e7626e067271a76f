use Rattle.guest_threads.proofs.LinesAfterTurns.{turns_for_threads, marks_have_room}
use Rattle.guest_threads.proofs.laws.turns_for_threads.Goals as goal

pub returns-clause-jumps : goal.returns-clause-jumps
returns-clause-jumps c = turns_for_threads

pub returns-clause-room : goal.returns-clause-room
returns-clause-room c = marks_have_room
