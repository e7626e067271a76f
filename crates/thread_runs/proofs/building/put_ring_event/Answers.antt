use Rattle.std.proofs.Common.{ℕ, ◌+◌, List, [], ◌∷◌, ◌++◌, ap, ◌∙◌}
use Rattle.relocate_insn.specs.Pieces.{four}
use Rattle.relocate_insn.proofs.InstructionParts.{grown}
use Rattle.thread_runs.specs.ThreadCode.{saving_code, restoring_code, position_at, keep_ax, load_one, claiming_code, reducing, take_ax}
use Rattle.thread_runs.proofs.building.put_ring_event.Goals as goal

pub returns : goal.returns
returns c =
    let p = c.args.private in
    let claim = keep_ax ++ (load_one ++ claiming_code (position_at p)) in
    let slots = four (p + 68) in
    let shown = four (c.args.number + 1) in
    let end = c.put_restoring.new.code in
    let m0 = c.put_saving.new.code in
    let m1 = c.put_claim.new.code in
    let m2 = c.put.new.self in
    let m3 = c.put_address.new.self in
    let m4 = c.put_address-2.new.self in
    let back = take_ax ++ restoring_code in
    let filled = slots ++ (shown ++ back) in
    let reduced : List ℕ → List ℕ = λ r. 0x0f ∷ reducing c.args.len ∷ 0xc0 ∷ 0xc7 ∷ 0x04 ∷ 0x85 ∷ r in
    let put_is = c.put.ensures ∙ ap (λ b. m1 ++ 0x0f ∷ b ∷ 0xc0 ∷ 0xc7 ∷ 0x04 ∷ 0x85 ∷ []) c.reducing_opcode.ensures in
    grown c.args.code.now saving_code (claim ++ reduced filled) m0 end c.put_saving.ensures
    (grown m0 claim (reduced filled) m1 end c.put_claim.ensures
    (grown m1 (reduced []) filled m2 end put_is
    (grown m2 slots (shown ++ back) m3 end c.put_address.ensures
    (grown m3 shown back m4 end c.put_address-2.ensures
    (grown m4 take_ax restoring_code c.put-2.new.self end c.put-2.ensures c.put_restoring.ensures)))))
