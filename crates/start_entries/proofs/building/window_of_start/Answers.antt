use Rattle.std.proofs.Common.{◌≡◌, ◌∙◌, false, eqb, sym, ap, length, List, ℕ}
use Rattle.std.proofs.lemmas.Bool.{eqb-true, cond-true, cond-false}
use Rattle.elf_read.specs.Code.{is_exec, window}
use Rattle.start_entries.specs.Refusals.{refusal_of}
use Rattle.start_entries.proofs.WindowLengths.{exec_window, idle_window}
use Rattle.start_entries.proofs.building.window_of_start.Goals as goal

pub returns-then-is_empty : goal.returns-then-is_empty
unfolding refusal_of
returns-then-is_empty c =
    let file = c.args.elf.now.bytes in
    let none : length c.window_near-window.result.now ≡ 0 =
    eqb-true (length c.window_near-window.result.now) 0 (sym c.is_empty.ensures ∙ c.if-is_empty.true) in
    cond-false (is_exec file c.args.addr) _ _ (idle_window file c.args.addr (sym (ap (λ (w : List ℕ). length w) c.window_near-window.ensures) ∙ none))

pub returns-else-is_empty : goal.returns-else-is_empty
unfolding refusal_of
returns-else-is_empty c =
    let file = c.args.elf.now.bytes in
    let some : eqb (length (window file c.args.addr)) 0 ≡ false =
    ap (λ (w : List ℕ). eqb (length w) 0) (sym c.window_near-window.ensures) ∙ sym c.is_empty.ensures ∙ c.if-is_empty.false in
    (c.window_near-window.ensures, cond-true (is_exec file c.args.addr) _ _ (exec_window file c.args.addr some))
