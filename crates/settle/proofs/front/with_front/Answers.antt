use Rattle.std.proofs.Common.{ℕ, ap, ◌∙◌}
use Rattle.elf_read.specs.Writing.{filled_to}
use Rattle.settle.proofs.FilledFronts.{front_written}
use Rattle.settle.proofs.front.with_front.Goals as goal

pub returns : goal.returns
returns c =
    front_written c.args.base c.args.entries.now c.args.phdr c.args.entry c.in_ok-out.out.items c.push_sections.new.out.items c.fill_to.new.out.items c.extend_from_slice.new.self.items c.args.file.now
    c.in_ok-out.ensures.value c.in_ok-push_sections.ensures (c.in_ok-fill_to.ensures ∙ ap (λ (q : ℕ). filled_to q c.push_sections.new.out.items) c.front_len.ensures.value) c.in_ok-extend_from_slice.ensures.items
