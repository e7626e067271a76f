use Rattle.std.proofs.Common.{ℕ, List, length, sym, ap, ◌∙◌}
use Rattle.cpu_state.specs.Regions.{cell_at}
use Rattle.image_step.specs.Fitting.{addresses_from, first_refused, is_open, written}
use Rattle.image_step.proofs.OpenBytes.{write_met, write_passed}
use Rattle.image_step.proofs.fitting.first_written.Goals as goal

pub returns-then-is_some : goal.returns-then-is_some
returns-then-is_some c =
    let test = is_open c.args.starts.now (cell_at c.args.memory.now) in
    let ws = c.args.writes.now in
    let w = c.write-item.result in
    let h = c.first_in-first.ensures ∙ ap (λ (bs : List ℕ). first_refused test (addresses_from w.addr (length bs))) c.as_slice.ensures.value in
    write_met test ws c.loop-write.write-index w c.first_in-first.result (first_refused test (written ws)) c.loop-write-test.true c.write-item.is h
    (sym c.is_some.ensures ∙ c.if-is_some.true) c.loop-write.invariant

pub loop-write-preserved : goal.loop-write-preserved
loop-write-preserved c =
    let test = is_open c.args.starts.now (cell_at c.args.memory.now) in
    let ws = c.args.writes.now in
    let w = c.write-item.result in
    let h = c.first_in-first.ensures ∙ ap (λ (bs : List ℕ). first_refused test (addresses_from w.addr (length bs))) c.as_slice.ensures.value in
    write_passed test ws c.loop-write.write-index w c.first_in-first.result (first_refused test (written ws)) c.loop-write-test.true c.write-item.is h
    (sym c.is_some.ensures ∙ c.if-is_some.false) c.loop-write.invariant
