use Rattle.std.proofs.Common.{◌≡◌, ℕ, List, [], ◌∷◌, length, IfOk, ap, ◌∙◌, subst}
use Rattle.elf_read.specs.Writing.{load_entry, file_with}
use Rattle.guest_gen.proofs.GuestImages.{file_made}
use Rattle.guest_gen.proofs.file.file_of.Goals as goal

pub returns : goal.returns
returns c =
    let text = c.args.text.now in
    let code = c.load_entry-code.ensures ∙ ap (λ (start : ℕ). load_entry 5 0x1000 start (length text)) c.from-start.ensures in
    let page = c.load_entry.ensures ∙ ap (λ (start : ℕ). load_entry 6 0 start 0x1000) c.from.ensures in
    subst (λ (bytes : List ℕ). IfOk c.file_with.result (λ file. file.items ≡ bytes))
    ((λ i. file_with (c.from-2.ensures i) (code i ∷ record (page i) { filesz = 0 } ∷ []) 0x1000 text) ∙ file_made text)
    c.file_with.ensures
