-- Rule 4 for code near an address, and for code in another order.
use Rattle.std.proofs.Common.{◌≡◌, ℕ, ◌+◌, ◌<◌, ◌≤◌, true, List, length, arith}
use Rattle.std.specs.Prelude.{◌||◌, ◌&&◌, not, nat_le, Option}
use Rattle.std.specs.List.{list_any, count_by}
use Rattle.std.specs.List.Sorted.{IsPermutation}
use Rattle.std.proofs.lemmas.Bool.{and_parts, leb-true, ltb-true}
use Rattle.pun_base.specs.Memory.{Cell}
use Rattle.image_check.specs.declared.placed_code.PlacedCode.{PlacedCode}
use Rattle.image_check.specs.CodeParts.{in_code, breaks_code, wrong_code}
use Rattle.image_check.specs.Nearness.{IsNear}
use Rattle.sound_images.specs.Reports.{on_page}
use Rattle.sound_images.specs.Rules.{Case}
use Rattle.image_check.proofs.NearCounts.{any_near, any_moved, count_moved}

-- code that holds an address is near it
code_held : (x : ℕ) (p : PlacedCode) → in_code x p ≡ true → (p.line.tramp.place ≤ x) × (x < p.line.tramp.place + 128)
code_held x p h =
    let q = and_parts (nat_le p.line.tramp.place x) _ h in
    let l = ltb-true x (p.line.tramp.place + length p.bytes) q.1 in
    (leb-true p.line.tramp.place x q.0, omega (arith, l, p.fits))

-- code that is broken at an address is near it
broken_held : (d : Option Cell) (x : ℕ) (p : PlacedCode) → breaks_code d x p ≡ true
    → (p.line.tramp.place ≤ x) × (x < p.line.tramp.place + 128)
broken_held d x p h = code_held x p (and_parts (in_code x p) _ h).0

-- the test, where as much is counted
same_test : (c : Case) (x : ℕ) (ps qs : List PlacedCode) → count_by (in_code x) ps ≡ count_by (in_code x) qs
    → list_any (breaks_code (c.patched x) x) ps ≡ list_any (breaks_code (c.patched x) x) qs → wrong_code c ps x ≡ wrong_code c qs x
same_test c x ps qs k b = λ i. nat_le 1 (k i) && (nat_le 2 (k i) || (b i || not (on_page c.report x)))

-- the test of rule 4 is the same over the code near an address as over all
pub code_near : (c : Case) (x : ℕ) (near ps : List PlacedCode)
    → IsNear (λ (p : PlacedCode). p) (λ (p : PlacedCode). p.line.tramp.place) 128 x near ps → wrong_code c near x ≡ wrong_code c ps x
code_near c x near ps n = same_test c x near ps (n (in_code x) (code_held x))
    (any_near (λ (p : PlacedCode). p) (λ (p : PlacedCode). p.line.tramp.place) 128 x near ps n (breaks_code (c.patched x) x)
    (broken_held (c.patched x) x))

-- the test of rule 4 is the same over the code in another order
pub code_moved : (c : Case) (x : ℕ) (qs ps : List PlacedCode) → IsPermutation qs ps → wrong_code c ps x ≡ wrong_code c qs x
code_moved c x qs ps h = same_test c x ps qs (count_moved (in_code x) qs ps h) (any_moved (breaks_code (c.patched x) x) qs ps h)
