use Rattle.std.proofs.Common.{[], ◌∷◌}
use Rattle.relocate_insn.specs.Pieces.{four}
use Rattle.elf_read.proofs.AppendedParts.{grown}
use Rattle.loader_form.proofs.stub.push_preparing.Goals as goal

pub returns : goal.returns
returns c =
    grown _ _ _ (0x49 ∷ 0x89 ∷ 0xc0 ∷ 0xbb ∷ []) _ c.in_ok-extend_from_slice.ensures.items
    (grown _ _ _ (four c.args.first) (0x41 ∷ 0xba ∷ 0x12 ∷ 0 ∷ 0 ∷ 0 ∷ []) c.in_ok-push_u32.ensures c.in_ok-extend_from_slice-2.ensures.items)
