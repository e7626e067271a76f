-- The bytes of a region, of which zeros at the end may not be stored. Contracts of private functions alone cite it.
use Rattle.std.specs.Prelude.{ℕ, ◌-◌, List, ◌++◌, length, replicate, refl}
use Rattle.std.specs.Coded.{Coded, code_by, coded_list, coded_ℕ}

-- all the bytes, whether they are stored or not
pub record Padded : Type 0 where
  pub items : List ℕ

-- they are kept as their list
abbrev pub padded_code : Coded Padded
padded_code = code_by (List ℕ) (coded_list coded_ℕ) (λ p. p.items) (λ xs. record { items = xs }) (λ _. refl)

-- the bytes, filled up with zeros to a size
abbrev pub zero_filled : ℕ → List ℕ → List ℕ
zero_filled size xs = xs ++ replicate (size - length xs) 0
