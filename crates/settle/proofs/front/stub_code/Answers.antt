use Rattle.std.proofs.Common.{List, ℕ, ◌+◌, ◌++◌, ap, ◌∙◌}
use Rattle.elf_read.proofs.AppendedParts.{grown}
use Rattle.settle.specs.Stub.{read_count, to_variables, variables, entries, jump, tell, set_rdi, go_to, stub_code}
use Rattle.settle.proofs.front.stub_code.Goals as goal

pub returns : goal.returns
unfolding stub_code
returns c =
    let walk = read_count ++ (to_variables ++ (variables ++ entries)) in
    let first = tell c.args.phdr in let second = jump 0xf0 ++ tell c.args.phnum in let third = jump 0xe6 ++ tell c.args.entry in
    let last = jump 0xdc ++ set_rdi 0 in let leave = go_to (c.args.at + 84) c.args.entry in
    grown _ _ _ walk _ c.in_ok-extend_from_slice.ensures.items
    (grown _ _ _ first _ c.in_ok-push_number.ensures
    (grown _ _ _ second _ c.in_ok-push_number-2.ensures
    (grown _ _ _ third _ c.in_ok-push_number-3.ensures
    (grown _ _ _ last leave c.in_ok-push_number-4.ensures c.in_ok-push_jump.ensures))))
    ∙ ap (λ (z : List ℕ). z ++ (walk ++ (first ++ (second ++ (third ++ (last ++ leave)))))) c.new-out.ensures.items
