use Rattle.std.proofs.Common.{◌≡◌, replicate, ap, ◌∙◌, append-nil}
use Rattle.pun_base.specs.Memory.{Bytes, joined}
use Rattle.cpu_state.specs.Adding.{laid}
use Rattle.cpu_state.specs.Regions.{cell_at}
use Rattle.guest_gen.specs.Instructions.{text_start}
use Rattle.guest_gen.specs.Starting.{start_memory}
use Rattle.guest_gen.proofs.GuestImages.{past_text, two_regions}
use Rattle.guest_gen.proofs.start.start_memory.Goals as goal

pub add-requires-2-clause-free : goal.add-requires-2-clause-free
add-requires-2-clause-free c = λ a h k.
    let e : cell_at c.add.new.memory ≡ laid text_start 5 c.args.text.now = c.in_ok-add.ensures
    ∙ (λ i. joined (cell_at (c.empty-memory.ensures i)) (laid text_start 5 (append-nil c.args.text.now i))) in
    ap (λ (f : Bytes). f a) e ∙ past_text c.args.text.now a c.requires.few h

pub returns : goal.returns
unfolding start_memory
returns c =
    let e : cell_at c.add.new.memory ≡ laid text_start 5 c.args.text.now = c.in_ok-add.ensures
    ∙ (λ i. joined (cell_at (c.empty-memory.ensures i)) (laid text_start 5 (append-nil c.args.text.now i))) in
    two_regions (cell_at c.add-2.new.memory) (cell_at c.add.new.memory) c.args.text.now (replicate 0x1000 0) e c.in_ok-add-2.ensures
