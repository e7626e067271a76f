use Rattle.std.proofs.Common.{ℕ, ◌≤◌, List, length, ap, subst, ◌∙◌, arith}
use Rattle.guest_gen.specs.Files.{file_of}
use Rattle.guest_gen.specs.Starting.{IsStartState}
use Rattle.guest_gen.proofs.StartStates.{start_runs, text_some, world_answers}
use Rattle.guest_gen.proofs.guest.generate.Goals as goal

pub answer_run-requires : goal.answer_run-requires
answer_run-requires c =
    let text = c.in_ok-text.text.bytes.items in
    let few : length text ≤ 1048576 = let l = c.in_ok-text.ensures.few in omega arith in
    let start = subst (λ (z : List ℕ). IsStartState z c.in_ok-state.state) c.deref-2.ensures.value c.in_ok-state.ensures in
    start_runs c.args.seed c.args.blocks text c.in_ok-state.state c.in_ok-text.ensures.text few start

pub returns-clause-world : goal.returns-clause-world
returns-clause-world c =
    let text = c.in_ok-text.text.bytes.items in
    let few : length text ≤ 1048576 = let l = c.in_ok-text.ensures.few in omega arith in
    let some = text_some c.args.seed c.args.blocks text c.in_ok-text.ensures.text in
    let start = subst (λ (z : List ℕ). IsStartState z c.in_ok-state.state) c.deref-2.ensures.value c.in_ok-state.ensures in
    let file = c.in_ok-elf.ensures ∙ ap file_of c.deref.ensures.value in
    world_answers 100000 c.in_ok-elf.elf.items text c.in_ok-state.state c.script_with.result c.in_ok-entries.entries.items file some few
    start c.script_with.ensures.script c.script_with.ensures.entries c.in_ok-entries.ensures
