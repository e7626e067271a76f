use Rattle.std.proofs.Common.{◌≡◌, ◌<◌, length, set, ap, ◌∙◌, arith}
use Rattle.cpu_state.specs.Padded.{zero_filled}
use Rattle.cpu_state.proofs.ZeroFilledLists.{set_filled}
use Rattle.cpu_state.proofs.padded_bytes.PaddedBytes.set.Goals.{then-at-len, else-at-len}
use Rattle.cpu_state.proofs.padded_bytes.PaddedBytes.set.Goals as goal

pub returns : goal.returns
returns c =
    let p = c.if-at-len.self-inside in
    let same : zero_filled p.size p.stored.items ≡ c.args.self.now.items = elim c.if-at-len.branch [
      | then-at-len w ↦ rw w.self-inside-is (w.store_zeros.ensures.same ∙ ap (λ q. q.items) c.self.view_is)
      | else-at-len w ↦ rw w.self-inside-is (ap (λ q. q.items) c.self.view_is)
    ] in
    let stored : c.args.at < length p.stored.items = elim c.if-at-len.branch [
      | then-at-len w ↦ rw w.self-inside-is w.store_zeros.ensures.stored
      | else-at-len w ↦ rw w.self-inside-is (omega arith)
    ] in
    set_filled p.size c.args.at c.args.byte p.stored.items stored ∙ ap (λ xs. set xs c.args.at c.args.byte) same
