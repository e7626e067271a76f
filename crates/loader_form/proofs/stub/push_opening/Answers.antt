use Rattle.std.proofs.Common.{[], ◌∷◌}
use Rattle.relocate_insn.specs.Pieces.{four}
use Rattle.elf_read.proofs.AppendedParts.{grown}
use Rattle.loader_form.proofs.stub.push_opening.Goals as goal

pub returns : goal.returns
returns c =
    grown _ _ _ (0xb8 ∷ 2 ∷ 0 ∷ 0 ∷ 0 ∷ 0xbf ∷ []) _ c.in_ok-extend_from_slice.ensures.items
    (grown _ _ _ (four c.args.text) (0xbe ∷ 0 ∷ 0 ∷ 0 ∷ 0 ∷ 0x0f ∷ 0x05 ∷ 0x48 ∷ 0x99 ∷ 0x89 ∷ 0xd1 ∷ 0xe3 ∷ 13 ∷ []) c.in_ok-push_u32.ensures c.in_ok-extend_from_slice-2.ensures.items)
