-- The section table of a front, section by section.
use Rattle.std.proofs.Common.{◌≡◌, ℕ, zero, suc, ◌+◌, ◌-◌, ◌<◌, List, ◌++◌, take, drop, ap, ◌∙◌, arith, append_assoc}
use Rattle.settle.specs.Sections.{moved_section, moved_sections}

-- a section, and then the others
pub one_more : (p : ℕ) (file : List ℕ) (at count : ℕ) (before between all : List ℕ) → 0 < count → between ≡ before ++ moved_section p (take 64 (drop at file))
    → all ≡ between ++ moved_sections p file (at + 64) (count - 1) → all ≡ before ++ moved_sections p file at count
one_more p file at zero before between all l m e = absurd (omega (arith, l))
one_more p file at (suc k) before between all l m e =
    let n : suc k - 1 ≡ k = omega arith in
    e ∙ ap (λ (q : ℕ). between ++ moved_sections p file (at + 64) q) n ∙ ap (λ (z : List ℕ). z ++ moved_sections p file (at + 64) k) m ∙ append_assoc before (moved_section p (take 64 (drop at file))) (moved_sections p file (at + 64) k)
