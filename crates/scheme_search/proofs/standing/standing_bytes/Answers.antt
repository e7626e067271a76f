use Rattle.std.proofs.Common.{◌≡◌, ℕ, ◌+◌, ap, sym, ◌∙◌, arith, length, List, ◌++◌, ◌∷◌, [], add-one}
use Rattle.cpu_state.specs.Bytes.{byte_of}
use Rattle.start_list.specs.TurnViews.{memory_now}
use Rattle.start_list.specs.Turning.{view_of}
use Rattle.start_list.specs.Plans.{bytes_from}
use Rattle.scheme_search.proofs.ConsecutiveBytes.{length-bytes_from, bytes_from-more}
use Rattle.scheme_search.proofs.standing.standing_bytes.Goals as goal

pub push-requires : goal.push-requires
push-requires c =
    let n = ap length c.loop-k.invariant ∙ length-bytes_from (memory_now (view_of c.args.turn.now)) c.args.addr c.loop-k.k in
    omega (arith, n)

pub loop-k-preserved : goal.loop-k-preserved
loop-k-preserved c =
    let m = memory_now (view_of c.args.turn.now) in
    let a = c.args.addr in
    let k = c.loop-k.k in
    let last : c.standing.result ≡ byte_of (m (a + k)) = c.standing.ensures ∙ ap (λ x. byte_of (m (a + x))) c.from.ensures in
    rw add-one (c.push.ensures.items ∙ ap (λ (xs : List ℕ). xs ++ c.standing.result ∷ []) c.loop-k.invariant ∙ ap (λ x. bytes_from m a k ++ x ∷ []) last ∙ sym (bytes_from-more m a k))

pub returns-clause-length : goal.returns-clause-length
returns-clause-length c =
    let m = memory_now (view_of c.args.turn.now) in
    let n = ap length c.loop-k.invariant ∙ length-bytes_from m c.args.addr c.loop-k.k in
    let e = ap (length {A = ℕ}) (c.from_slice.ensures ∙ c.as_slice.ensures.value) in
    omega (arith, n, e)
