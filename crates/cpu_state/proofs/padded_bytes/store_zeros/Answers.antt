use Rattle.std.proofs.Common.{◌≡◌, ◌+◌, ◌-◌, ◌≤◌, ◌++◌, true, length, replicate, is_ok, ap, ap₂, ◌∙◌, arith, rules}
use Rattle.std.proofs.lemmas.Bool.{cond-true}
use Rattle.std.proofs.lemmas.List.{take_all}
use Rattle.cpu_state.specs.Padded.{zero_filled}
use Rattle.cpu_state.proofs.ZeroFilledLists.{filled_more}
use Rattle.cpu_state.proofs.padded_bytes.store_zeros.Goals as goal

pub returns-clause-same : goal.returns-clause-same
returns-clause-same c =
    let xs = c.args.stored.now.items in
    let end = c.if-size-at-gt-BLOCK.end in
    let ok : is_ok c.resize.result ≡ true = search rules in
    let within : length xs + (end - length xs) ≤ c.args.size = omega arith in
    ap (zero_filled c.args.size)
    (c.resize.ensures.items ∙ cond-true (is_ok c.resize.result) _ _ ok
    ∙ ap₂ (λ ys n. ys ++ replicate n 0) (take_all end xs (omega arith)) (omega (arith, c.args.stored.now.ok.0)))
    ∙ filled_more c.args.size (end - length xs) xs within
