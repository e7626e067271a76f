-- Ranges that words tell, read one after the other.
use Rattle.std.proofs.Common.{◌≡◌, ℕ, List, [], map, Option, Some, None, option_map, unwrap_or, ap, ◌∙◌}
use Rattle.std.specs.Borrow.{Bor}

-- the words of a row, or none
pub unwrapped : (o : Option (Bor (List (Bor (List ℕ))))) (d w : Bor (List (Bor (List ℕ)))) → w ≡ unwrap_or o d → d.now ≡ []
    → map (λ x. x.now) w.now ≡ unwrap_or (option_map (λ s. map (λ v. v.now) s.now) o) []
unwrapped None d w e z = ap (λ (x : Bor (List (Bor (List ℕ)))). map (λ v. v.now) x.now) e ∙ ap (map (λ (v : Bor (List ℕ)). v.now)) z
unwrapped (Some x) d w e z = ap (λ (y : Bor (List (Bor (List ℕ)))). map (λ v. v.now) y.now) e
