use Rattle.std.proofs.Common.{◌∙◌, ap, List}
use Rattle.elf_read.specs.declared.segment.Segment.{Segment}
use Rattle.elf_read.specs.Find.{segment_of}
use Rattle.elf_read.proofs.elf.Elf.segment_at.Goals as goal

pub returns-clause-value : goal.returns-clause-value
returns-clause-value c = c.find_segment.ensures ∙ ap (λ (ss : List Segment). segment_of ss c.args.addr) c.loads-loads.ensures.value
