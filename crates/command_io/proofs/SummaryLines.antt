-- The lines of a summary.
use Rattle.std.proofs.Common.{◌≡◌, ℕ, List, ◌++◌, length, codes, ◌∙◌}
use Rattle.std.specs.Fmt.{decimal}
use Rattle.pun_base.specs.declared.scheme.Scheme.TheVariants.{B1, B2, T1, T2, T3}
use Rattle.patch_report.specs.Values.{RowValue}
use Rattle.command_io.specs.Summary.{number, sites_line, schemes_line, left_line}
use Rattle.command_io.specs.declared.summary.Counted.TheVariants.{Patched, By, Left, NotRelocatable, NoPlan, Shared}

-- numbers that are counted make up the first line
pub sites_told : (rows : List RowValue) (t : List ℕ) (a b d : ℕ) → a ≡ length rows → b ≡ number Patched rows → d ≡ number Left rows
    → t ≡ codes "sites " ++ (decimal a ++ (codes " patched " ++ (decimal b ++ (codes " left " ++ (decimal d ++ codes "\n")))))
    → t ≡ sites_line rows
unfolding sites_line
sites_told rows t a b d p q r e =
    e ∙ (λ i. codes "sites " ++ (decimal (p i) ++ (codes " patched " ++ (decimal (q i) ++ (codes " left " ++ (decimal (r i) ++ codes "\n"))))))

-- the second line
pub schemes_told : (rows : List RowValue) (t : List ℕ) (a b d f g : ℕ) → a ≡ number (By B1) rows → b ≡ number (By B2) rows
    → d ≡ number (By T1) rows → f ≡ number (By T2) rows → g ≡ number (By T3) rows
    → t ≡ codes "B1 " ++ (decimal a ++ (codes " B2 " ++ (decimal b ++ (codes " T1 " ++ (decimal d ++ (codes " T2 " ++ (decimal f
    ++ (codes " T3 " ++ (decimal g ++ codes "\n")))))))))
    → t ≡ schemes_line rows
unfolding schemes_line
schemes_told rows t a b d f g p q r u v e =
    e ∙ (λ i. codes "B1 " ++ (decimal (p i) ++ (codes " B2 " ++ (decimal (q i) ++ (codes " T1 " ++ (decimal (r i) ++ (codes " T2 " ++ (decimal (u i)
    ++ (codes " T3 " ++ (decimal (v i) ++ codes "\n"))))))))))

-- the third line
pub left_told : (rows : List RowValue) (t : List ℕ) (a b d : ℕ) → a ≡ number NotRelocatable rows → b ≡ number NoPlan rows
    → d ≡ number Shared rows
    → t ≡ codes "NotRelocatable " ++ (decimal a ++ (codes " NoPlan " ++ (decimal b ++ (codes " Shared " ++ (decimal d ++ codes "\n")))))
    → t ≡ left_line rows
unfolding left_line
left_told rows t a b d p q r e =
    e ∙ (λ i. codes "NotRelocatable " ++ (decimal (p i) ++ (codes " NoPlan " ++ (decimal (q i)
    ++ (codes " Shared " ++ (decimal (r i) ++ codes "\n"))))))
