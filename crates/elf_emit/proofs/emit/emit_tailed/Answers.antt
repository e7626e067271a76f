use Rattle.std.proofs.Common.{◌∙◌, sym, subst}
use Rattle.elf_emit.specs.Emits.{IsSmallFrame}
use Rattle.elf_emit.proofs.JobConditions.{tailed_path, emitted}
use Rattle.elf_emit.proofs.emit.emit_tailed.Goals as goal

pub emit_over-requires-clause-frame : goal.emit_over-requires-clause-frame
emit_over-requires-clause-frame g c = λ b n.
    let file = c.args.elf.now.bytes in
    let t = c.args.tail in
    subst IsSmallFrame (sym (c.changes_of-changes.ensures.frame file ∙ tailed_path file c.args.writes.now c.args.built.now c.args.groups.now c.in-Ok.pages.items c.count.result c.args.private.lo c.args.private.hi
    t.bytes.now t.parts.now t.start c.in-Ok.ensures.shown c.count.ensures)) (record { frame = c.requires.frame; few = c.requires.few })

pub returns : goal.returns
returns g c =
    let file = c.args.elf.now.bytes in
    let t = c.args.tail in
    emitted _ _ c.args.name.now _ _ _ c.emit_over.ensures.emits
    (c.changes_of-changes.ensures.frame file ∙ tailed_path file c.args.writes.now c.args.built.now c.args.groups.now c.in-Ok.pages.items c.count.result c.args.private.lo c.args.private.hi
    t.bytes.now t.parts.now t.start c.in-Ok.ensures.shown c.count.ensures)
