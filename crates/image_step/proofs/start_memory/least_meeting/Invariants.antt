use Rattle.std.proofs.Common.{drop}
use Rattle.image_step.proofs.FirstMeetingRegion.{Sought}
use Rattle.image_step.proofs.start_memory.least_meeting.Given as goal

abbrev pub invariant-loop-region : goal.invariant-loop-region
invariant-loop-region l = Sought l.elf.bytes (drop l.region-index l.regions) l.regions
