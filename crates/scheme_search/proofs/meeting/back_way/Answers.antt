use Rattle.std.proofs.Common.{ℕ, zero, suc, ◌^◌, ◌<◌, ◌≤◌, ap, ◌∙◌, arith}
use Rattle.scheme_search.proofs.meeting.back_way.Goals as goal

step_small : (s : ℕ) → s ≤ 2 → 256 ^ s < 2 ^ 32
step_small zero h = omega arith
step_small (suc zero) h = omega arith
step_small (suc (suc zero)) h = omega arith
step_small (suc (suc (suc s))) h = absurd (omega arith)

pub overflow_cast-result : goal.overflow_cast-result
overflow_cast-result c =
    let e = c.value_count.ensures.value ∙ ap (λ k. 256 ^ k) c.shared_bytes.ensures in
    omega (arith, e, step_small _ c.requires.few)
