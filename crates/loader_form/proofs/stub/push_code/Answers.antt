use Rattle.std.proofs.Common.{◌+◌, ◌++◌, ◌∙◌, sym}
use Rattle.elf_read.proofs.AppendedParts.{grown}
use Rattle.loader_form.specs.Stub.{used, stores, loads, opening, exiting, preparing, looking, mapping, closing, leaving}
use Rattle.loader_form.proofs.stub.push_code.Goals as goal

pub returns : goal.returns
returns c = λ b h s e n.
    let at = c.args.at in
    let save = c.args.save in
    grown _ _ _ (stores save used) _ c.in_ok-push_stores.ensures
    (grown _ _ _ (opening (at + 4096)) _ c.in_ok-push_opening.ensures
    (grown _ _ _ exiting _ c.in_ok-extend_from_slice.ensures.items
    (grown _ _ _ (preparing (at + 4112)) _ c.in_ok-push_preparing.ensures
    (grown _ _ _ (looking c.args.end) _ c.in_ok-push_looking.ensures
    (grown _ _ _ mapping _ c.in_ok-extend_from_slice-2.ensures.items
    (grown _ _ _ closing _ c.in_ok-extend_from_slice-3.ensures.items
    (grown _ _ _ (loads save used) (leaving (at + 261) c.args.entry) c.in_ok-push_loads.ensures c.in_ok-push_leaving.ensures)))))))
    ∙ (λ i. c.args.out.now.items ++ (stores (sym s i) used ++ (opening (sym h i + 4096) ++ (exiting ++ (preparing (sym h i + 4112)
    ++ (looking (sym e i) ++ (mapping ++ (closing ++ (loads (sym s i) used ++ leaving (sym h i + 261) (sym n i))))))))))
