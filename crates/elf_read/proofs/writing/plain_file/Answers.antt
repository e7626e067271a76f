use Rattle.std.proofs.Common.{◌≡◌, List, ℕ, [], ◌∷◌, IfOk, ap, ◌∙◌, subst}
use Rattle.elf_read.specs.declared.segment.Segment.{Segment}
use Rattle.elf_read.specs.Writing.{file_with}
use Rattle.elf_read.proofs.PlainFronts.{plain_file_made}
use Rattle.elf_read.proofs.writing.plain_file.Goals as goal

pub returns : goal.returns
returns c =
    let text = c.args.text.now in
    subst (λ (bytes : List ℕ). IfOk c.file_with.result (λ file. file.items ≡ bytes))
    (ap (λ (s : Segment). file_with 0x401000 (s ∷ []) 0x1000 text) c.load_entry-entry.ensures ∙ plain_file_made text)
    c.file_with.ensures
