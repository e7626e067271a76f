use Rattle.std.proofs.Common.{◌∙◌, ap, sym, subst, List}
use Rattle.elf_read.specs.declared.segment.Segment.{Segment}
use Rattle.elf_read.specs.Entries.{segments, loads}
use Rattle.elf_read.specs.Accepted.{File, Ascends}
use Rattle.elf_read.proofs.HoldingSegments.{same_loads, file_ascends}
use Rattle.elf_read.proofs.elf.Elf.loads.Goals as goal

pub returns-clause-value : goal.returns-clause-value
returns-clause-value c =
    c.deref.ensures.value ∙ same_loads c.self.inside.file.now c.self.inside.segments.items c.self.inside.loads.items c.self.invariant
    ∙ ap (λ (v : File). loads (segments v.bytes)) c.self.view_is

pub returns-clause-ascends : goal.returns-clause-ascends
returns-clause-ascends c =
    subst (λ (ss : List Segment). Ascends 0 ss) (sym c.deref.ensures.value)
    (file_ascends c.self.inside.file.now c.self.inside.segments.items c.self.inside.loads.items c.self.invariant)
