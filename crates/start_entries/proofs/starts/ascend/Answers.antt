use Rattle.std.proofs.Common.{◌≡◌, ◌↔◌, ℕ, ◌+◌, Bool, true, false, nat_lt, List, refl, sym, ◌∙◌, rules, true≢false}
use Rattle.std.specs.Prelude.{slice_index}
use Rattle.std.specs.List.{IsAllAdjacentAnswer}
use Rattle.std.specs.List.Sorted.{IsStrictlyIncreasing}
use Rattle.std.proofs.lemmas.Bool.{ltb-true, lt-ltb}
use Rattle.std.proofs.lemmas.List.Sorted.{answers_always}
use Rattle.start_entries.proofs.starts.ascend.Goals as goal

-- The test of each number against the next tells whether they ascend.
adjacent : (xs : List ℕ) (r : Bool) → IsAllAdjacentAnswer (λ x y b. b ≡ nat_lt x y) xs r → (r ≡ true) ↔ IsStrictlyIncreasing xs
adjacent xs true h = (λ t k l. ltb-true (slice_index xs k) (slice_index xs (k + 1)) (sym (h k 0 l)), λ s. refl)
adjacent xs false h = (
  λ t. absurd (true≢false (sym t)),
  λ s. absurd (true≢false (sym (lt-ltb (slice_index xs h.0) (slice_index xs (h.0 + 1)) (s h.0 h.1)) ∙ sym (h.2 0))),
)

pub returns : goal.returns
returns c = adjacent c.args.addrs.now c.is_sorted_by.result (c.is_sorted_by.ensures.cases (λ x y. nat_lt x y)
    (answers_always _ (λ a r. r ≡ nat_lt a.0.now a.1.0.now) _ (λ f a r q k. search rules)))
