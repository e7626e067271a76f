use Rattle.std.proofs.Common.{arith}
use Rattle.std.proofs.lemmas.List.{take_rest}
use Rattle.elf_emit.proofs.PageContents.{window_rest}
use Rattle.elf_emit.proofs.parts.window.Goals as goal

pub returns-then-rest-clause-part : goal.returns-then-rest-clause-part
returns-then-rest-clause-part c = window_rest 4096 c.args.at c.args.file.now _ (take_rest c.args.file.now c.args.at) (omega arith)
