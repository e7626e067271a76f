-- A map from texts to byte lists, as files. Contracts of private functions alone cite it.
use Rattle.std.specs.Prelude.{ℕ, List, map, String, Vec, string_bytes}
use Rattle.std.specs.BTreeMap.{BTreeMap}

-- Each text with its bytes, in the map's order.
abbrev pub files_in : {Y Z : Type 0} → BTreeMap (String Y) (Vec ℕ Z) → List (List ℕ × List ℕ)
files_in m = map (λ p. (string_bytes p.0, p.1.items)) m.entries
