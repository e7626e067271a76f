use Rattle.std.proofs.Common.{length, take, drop, sym, ap, ◌∙◌, arith}
use Rattle.std.proofs.lemmas.List.{take-replicate}
use Rattle.cpu_state.proofs.ZeroFilledLists.{zeros_in, length_filled}
use Rattle.cpu_state.proofs.padded_bytes.PaddedBytes.slice.Goals as goal

pub returns-then-count-le15 : goal.returns-then-count-le15
returns-then-count-le15 c =
    let size = length_filled c.self.inside.size c.self.inside.stored.items (omega arith) in (
      omega (arith, size, ap (λ p. length p.items) c.self.view_is),
      take-replicate c.args.count 15 0 (omega arith)
          ∙ sym (zeros_in c.self.inside.size c.args.at c.args.count c.self.inside.stored.items (omega arith) (omega arith))
          ∙ ap (λ p. take c.args.count (drop c.args.at p.items)) c.self.view_is,
    )
