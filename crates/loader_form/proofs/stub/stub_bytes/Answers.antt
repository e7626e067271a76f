use Rattle.std.proofs.Common.{◌≡◌, ◌+◌, ◌-◌, ◌*◌, ◌++◌, ◌∙◌, List, ℕ, length, take, replicate, sym, ap, arith}
use Rattle.std.proofs.lemmas.List.{length-map}
use Rattle.loader_form.specs.Stub.{Run, end_of, records_of, stub_code}
use Rattle.loader_form.specs.Laid.{run_of}
use Rattle.loader_form.proofs.StubBytes.{stub_made}
use Rattle.loader_form.proofs.stub.stub_bytes.Goals as goal

pub returns : goal.returns
returns c = λ b a s e r.
    let runs = c.args.runs.now in
    let n : length b.runs ≡ length runs = ap (λ (z : List Run). length z) r ∙ length-map runs (run_of c.args.pages_at) in
    let end : end_of b ≡ c.args.at + 4112 + 16 * length runs = (λ i. a i + 4112 + 16 * n i) in
    let l = c.requires.len in
    let c0 : List ℕ = c.push_code.new.out.items in
    let c1 : List ℕ = c.resize.new.self.items in
    let c2 : List ℕ = c.extend_from_slice.new.self.items in
    let c3 : List ℕ = c.push_records.new.out.items in
    let c4 : List ℕ = c.resize-2.new.self.items in
    let first : c1 ≡ take 4096 c0 ++ replicate (4096 - length c0) 0 = c.in_ok-resize.ensures.items ∙ ap (λ (k : ℕ). take 4096 c0 ++ replicate (4096 - k) 0) c.push_code.new.out.ok.0 in
    let last : c4 ≡ take c.args.len c3 ++ replicate (c.args.len - length c3) 0 =
    c.in_ok-resize-2.ensures.items ∙ ap (λ (k : ℕ). take c.args.len c3 ++ replicate (c.args.len - k) 0) c.push_records.new.out.ok.0 in
    stub_made b c0 c1 c2 c3 c4 c.args.len
    (c.in_ok-push_code.ensures b a s end e ∙ ap (λ (z : List ℕ). z ++ stub_code b) c.new-bytes.ensures.items)
    first c.in_ok-extend_from_slice.ensures.items
    (c.in_ok-push_records.ensures ∙ ap (λ (z : List Run). c2 ++ records_of z) (sym r))
    last (omega (arith, n, l))
