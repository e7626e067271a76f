use Rattle.std.proofs.Common.{◌≡◌, ◌+◌, ◌-◌, ◌^◌, ◌++◌, ◌∙◌, ℕ, [], ◌∷◌, ap, arith}
use Rattle.relocate_insn.specs.Pieces.{four}
use Rattle.elf_read.proofs.AppendedParts.{grown}
use Rattle.loader_form.proofs.stub.push_looking.Goals as goal

pub returns : goal.returns
returns c =
    let end = c.args.end in
    let e : 4294967295 - end + 1 ≡ 2 ^ 32 - end = omega arith in
    grown _ _ _ (0x8d ∷ 0x8b ∷ []) _ c.in_ok-extend_from_slice.ensures.items
    (grown _ _ _ (four (2 ^ 32 - end)) (0xe3 ∷ 33 ∷ []) (c.in_ok-push_u32.ensures ∙ ap (λ (n : ℕ). c.extend_from_slice.new.self.items ++ four n) e) c.in_ok-extend_from_slice-2.ensures.items)
