use Rattle.std.proofs.Common.{ℕ, List, Option, Ok, Err}
use Rattle.pun_base.specs.Desk.{ReadResult}
use Rattle.real_files.specs.Streams.{GivesAll}
use Rattle.real_files.specs.FileDesk.{IsSomeFile}
use Rattle.real_files.proofs.file_desk.read_opened.Goals as goal

-- what is read of a file is the whole of it
of_this : {F : Type 0} (remaining : F → Option (List ℕ)) (most : ℕ) (answer : ReadResult) (file : F)
    → GivesAll most answer (remaining file) → IsSomeFile remaining most answer
of_this {F = F} remaining most (Ok bytes) file all = (file, all)
of_this {F = F} remaining most (Err e) file all = tt

pub returns-in-Ok-clause-some_file : goal.returns-in-Ok-clause-some_file
returns-in-Ok-clause-some_file g c = of_this _ c.args.most _ c.in-Ok.opened.file c.read_at_most.ensures.all
