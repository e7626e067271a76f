use Rattle.std.proofs.Common.{◌∙◌, List, map, sym, ap, subst}
use Rattle.elf_emit.specs.declared.runs.Page.{Page}
use Rattle.elf_emit.specs.Layout.{part_of, runs_of}
use Rattle.elf_emit.specs.Emits.{IsSmallFrame, emit_job}
use Rattle.elf_emit.proofs.JobConditions.{plain_path, parts_few, called_job, emitted}
use Rattle.elf_emit.proofs.WrittenPages.{loads_when}
use Rattle.elf_emit.proofs.PageRuns.{job_frame}
use Rattle.elf_emit.proofs.emit.emit.Goals as goal

pub emit_over-requires-clause-frame : goal.emit_over-requires-clause-frame
emit_over-requires-clause-frame g c = λ b n.
    let file = c.args.elf.now.bytes in
    let job = called_job file c.args.writes.now c.args.built.now c.args.groups.now c.args.private.lo c.args.private.hi b n
    c.requires.original c.requires.backed c.requires.groups c.in-Ok.ensures.grouping c.requires.private c.requires.free c.requires.nothing_there in
    subst IsSmallFrame (sym (c.changes_of-changes.ensures.frame file ∙ plain_path file c.args.writes.now c.args.built.now c.args.groups.now c.in-Ok.pages.items c.count.result c.args.private.lo c.args.private.hi
    c.as_slice.result.now c.in-Ok.ensures.shown c.count.ensures (c.as_slice.ensures.value ∙ c.in-Ok-parts_of.ensures ∙ ap (λ (z : List Page). map part_of (runs_of z)) c.deref.ensures.value)))
    (record { frame = job_frame _ job; few = parts_few _ job })

pub returns : goal.returns
returns g c =
    let file = c.args.elf.now.bytes in
    let frame = c.emit_over.ensures.frame in
    let job = called_job file c.args.writes.now c.args.built.now c.args.groups.now c.args.private.lo c.args.private.hi frame.bytes frame.size
    c.requires.original c.requires.backed c.requires.groups c.in-Ok.ensures.grouping c.requires.private c.requires.free c.requires.nothing_there in
    let emits = emitted _ _ c.args.name.now _ _ _ c.emit_over.ensures.emits
    (c.changes_of-changes.ensures.frame file ∙ plain_path file c.args.writes.now c.args.built.now c.args.groups.now c.in-Ok.pages.items c.count.result c.args.private.lo c.args.private.hi
    c.as_slice.result.now c.in-Ok.ensures.shown c.count.ensures (c.as_slice.ensures.value ∙ c.in-Ok-parts_of.ensures ∙ ap (λ (z : List Page). map part_of (runs_of z)) c.deref.ensures.value)) in
    record {
      emits = emits;
      loads = loads_when (emit_job file c.args.writes.now c.args.built.now c.args.groups.now c.args.private.lo c.args.private.hi) c.args.name.now _ _ c.emit_over.result job emits;
    }
