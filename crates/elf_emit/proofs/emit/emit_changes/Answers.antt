use Rattle.std.proofs.Common.{◌∙◌, ap, Err, inr}
use Rattle.elf_emit.proofs.JobConditions.{filled_with}
use Rattle.elf_emit.proofs.emit.emit_changes.Goals as goal

pub returns-clause-emits : goal.returns-clause-emits
returns-clause-emits g c =
    inr (
      c.in-Ok.ensures.makes.0,
      filled_with c.args.name.now _ _ _ _ _ _ c.write_pages.ensures c.in-Ok.ensures.makes.1 (c.in-Err-Memory.is ∙ ap Err c.in-Err-Memory.field-0-is),
    )
