-- The table of hexadecimal digits has at each byte the value that the rule gives.
use Rattle.std.proofs.Common.{◌≡◌, ℕ, ◌<◌, ◌≤◌, List, map, get_or, Option, Some, None, refl, ap, ◌∙◌, arith}
use Rattle.std.specs.List.{range_with_len}
use Rattle.std.proofs.lemmas.Bool.Decides.{nat_tests}
use Rattle.std.proofs.lemmas.List.FromFn.{get_or-map-range_with_len}
use Rattle.patch_report.specs.declared.field_reading.TheConstants.{VALUES}
use Rattle.patch_report.specs.Fields.{hex_value}

-- A digit's value, or 16.
abbrev value_or_16 : Option ℕ → ℕ
value_or_16 None = 16
value_or_16 (Some d) = d

-- The table has the rule's value at each byte.
values : VALUES ≡ map (λ c. value_or_16 (hex_value c)) (range_with_len 0 256)
unfolding hex_value
values = refl

-- So has a place in it.
stands : (c i : ℕ) → i ≡ c → c < 256 → get_or VALUES i 0 ≡ value_or_16 (hex_value c)
stands c i e h =
    ap (λ (l : List ℕ). get_or l i 0) values
    ∙ get_or-map-range_with_len (λ (b : ℕ). value_or_16 (hex_value b)) 0 256 i c 0 (omega arith) (omega arith)

-- A digit's value is below 16.
small : (c d : ℕ) → hex_value c ≡ Some d → d < 16
unfolding hex_value
small c d e = grind (arith, nat_tests)

-- A number below 16 is a digit's value, and 16 tells that there is none.
by_value : (c n : ℕ) (o : Option ℕ) → hex_value c ≡ o → n ≡ value_or_16 o → (n < 16 → Some n ≡ o) × (16 ≤ n → None ≡ o)
by_value c n None e h = (λ l. absurd (omega arith), λ l. refl)
by_value c n (Some d) e h = (λ l. ap Some h, λ l. absurd (omega (arith, small c d e)))

-- What stands in the table below 16 is the digit's value, and 16 stands where there is none.
pub table_is : (c i : ℕ) → i ≡ c → c < 256 → (get_or VALUES i 0 < 16 → Some (get_or VALUES i 0) ≡ hex_value c)
    × (16 ≤ get_or VALUES i 0 → None ≡ hex_value c)
table_is c i e h = by_value c (get_or VALUES i 0) (hex_value c) refl (stands c i e h)
