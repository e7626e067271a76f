use Rattle.std.proofs.Common.{List, [], ◌∷◌, ◌++◌}
use Rattle.guest_gen.specs.declared.instruction.GuestInsn.{GuestInsn}
use Rattle.guest_gen.specs.declared.instruction.GuestInsn.TheVariants.{Ret, JmpBack}
use Rattle.guest_gen.specs.declared.draft.Text.{Text}
use Rattle.guest_gen.specs.Texts.{all_of, guest_blocks}
use Rattle.guest_gen.proofs.TextGrowth.{grown_twice, whole_text}
use Rattle.guest_gen.proofs.draft.draft.Goals as goal

pub returns-clause-text : goal.returns-clause-text
returns-clause-text c =
    let first : Text = record { bytes = c.new.result; starts = c.new-2.result } in
    let is : List GuestInsn = all_of (guest_blocks c.args.seed c.args.blocks) in
    let end = c.push-2.new.self in
    let grown = grown_twice (Ret ∷ []) (is ++ JmpBack ∷ []) first c.push.new.self end c.in_ok-push.ensures.grown
    (grown_twice is (JmpBack ∷ []) c.push.new.self c.push_blocks.new.self end c.in_ok-sites.ensures.grown c.in_ok-push-2.ensures.grown) in
    (whole_text (Ret ∷ (is ++ JmpBack ∷ [])) first end c.new.ensures.items c.new-2.ensures.items grown).0

pub returns-clause-starts : goal.returns-clause-starts
returns-clause-starts c =
    let first : Text = record { bytes = c.new.result; starts = c.new-2.result } in
    let is : List GuestInsn = all_of (guest_blocks c.args.seed c.args.blocks) in
    let end = c.push-2.new.self in
    let grown = grown_twice (Ret ∷ []) (is ++ JmpBack ∷ []) first c.push.new.self end c.in_ok-push.ensures.grown
    (grown_twice is (JmpBack ∷ []) c.push.new.self c.push_blocks.new.self end c.in_ok-sites.ensures.grown c.in_ok-push-2.ensures.grown) in
    (whole_text (Ret ∷ (is ++ JmpBack ∷ [])) first end c.new.ensures.items c.new-2.ensures.items grown).1
