-- The least number of which a property holds.
use Rattle.std.proofs.Common.{ℕ, Option, Some, None}
use Rattle.pun_base.specs.Least.{Least}

-- Two properties of the same numbers have the same least number.
pub least_same : (P Q : ℕ → Type 0) (o : Option ℕ) → ((t : ℕ) → P t → Q t) → ((t : ℕ) → Q t → P t) → Least P o → Least Q o
least_same P Q None f g h = λ s q. h s (g s q)
least_same P Q (Some t) f g h = record { good = f t h.good; least = λ s q. h.least s (g s q) }
