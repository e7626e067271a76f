-- The error of a rewriting that a lower call's error becomes; want of memory becomes the one error `Memory`, wherever it comes from. Theorems cite it.
use Rattle.elf_read.specs.declared.refusal.ElfError.{ElfError}
use Rattle.elf_read.specs.declared.refusal.ElfError.TheVariants as elf
use Rattle.start_entries.specs.declared.refusal.StartError.{StartError}
use Rattle.start_entries.specs.declared.refusal.StartError.TheVariants as start
use Rattle.site_turns.specs.declared.error.TurnError.{TurnError}
use Rattle.site_turns.specs.declared.error.TurnError.TheVariants as turn
use Rattle.elf_emit.specs.declared.emit.EmitError.{EmitError}
use Rattle.elf_emit.specs.declared.emit.EmitError.TheVariants as emit
use Rattle.rewrite_core.specs.declared.rewrite.RewriteError.{RewriteError}
use Rattle.rewrite_core.specs.declared.rewrite.RewriteError.TheVariants as rewrite

-- The error of a rewriting that a refusal of a file becomes.
abbrev pub elf_error : ElfError → RewriteError
elf_error elf.Memory = rewrite.Memory
elf_error error = rewrite.Elf error

-- The error of a rewriting that a refusal of starts becomes.
abbrev pub start_error : StartError → RewriteError
start_error start.Memory = rewrite.Memory
start_error error = rewrite.Start error

-- The error of a rewriting that an error of the turns becomes.
abbrev pub turn_error : TurnError → RewriteError
turn_error turn.Memory = rewrite.Memory
turn_error error = rewrite.Turn error

-- The error of a rewriting that an error of writing the file becomes.
abbrev pub emit_error : EmitError → RewriteError
emit_error emit.Memory = rewrite.Memory
emit_error error = rewrite.Emit error
