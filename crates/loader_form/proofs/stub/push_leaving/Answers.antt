use Rattle.std.proofs.Common.{◌+◌, ◌++◌, ◌∙◌, ℕ, List, [], ◌∷◌, ap}
use Rattle.cpu_state.specs.Bytes.{bytes_of}
use Rattle.relocate_insn.specs.Pieces.{four}
use Rattle.elf_read.proofs.AppendedParts.{grown}
use Rattle.loader_form.proofs.StubBytes.{eight_bytes}
use Rattle.loader_form.proofs.stub.push_leaving.Goals as goal

pub returns : goal.returns
returns c =
    grown _ _ _ (0xff ∷ 0x24 ∷ 0x25 ∷ []) _ c.in_ok-extend_from_slice.ensures.items
    (grown _ _ _ (four (c.args.at + 7)) (bytes_of 8 c.args.entry) c.in_ok-push_u32.ensures
    (c.in_ok-push_u64.ensures ∙ ap (λ (z : List ℕ). c.push_u32.new.out.items ++ z) (eight_bytes c.args.entry)))
