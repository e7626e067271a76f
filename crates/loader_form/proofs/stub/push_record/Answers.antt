use Rattle.std.proofs.Common.{◌≡◌, ◌+◌, ◌*◌, ◌++◌, ◌∙◌, ℕ, List, ap}
use Rattle.std.specs.Int.{to_le_bytes, w64}
use Rattle.cpu_state.specs.Bytes.{bytes_of}
use Rattle.elf_read.proofs.AppendedParts.{grown}
use Rattle.loader_form.proofs.StubBytes.{four_bytes, eight_bytes}
use Rattle.loader_form.proofs.stub.push_record.Goals as goal

pub returns : goal.returns
returns c =
    let r = c.args.run.now in
    let at = c.args.at + 4096 * r.first in
    let place : to_le_bytes w64 (c.args.at + 4096 * c.from.result) ≡ bytes_of 8 at =
    ap (λ (n : ℕ). to_le_bytes w64 (c.args.at + 4096 * n)) c.from.ensures ∙ eight_bytes at in
    grown _ _ _ (bytes_of 4 r.addr) _ (c.in_ok-push_u32.ensures ∙ ap (λ (z : List ℕ). c.args.out.now.items ++ z) (four_bytes r.addr))
    (grown _ _ _ (bytes_of 4 (4096 * r.count)) (bytes_of 8 at)
    (c.in_ok-push_u32-2.ensures ∙ ap (λ (z : List ℕ). c.push_u32.new.out.items ++ z) (four_bytes (4096 * r.count)))
    (c.in_ok-push_u64.ensures ∙ ap (λ (z : List ℕ). c.push_u32-2.new.out.items ++ z) place))
