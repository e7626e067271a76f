-- Rule 3 for trampolines near an address.
use Rattle.std.proofs.Common.{◌≡◌, ◌↔◌, inl, inr, ℕ, zero, suc, Bool, true, false, cond, List, [], ◌∷◌, map, refl, sym, ap, ◌∙◌, subst, arith}
use Rattle.std.specs.Prelude.{◌&&◌, ◌==◌, not, Contains}
use Rattle.std.specs.List.{list_any}
use Rattle.std.proofs.lemmas.Bool.{and_parts, and_from, eqb-true, eq-eqb, or_cases, or_left, or_right}
use Rattle.image_check.specs.declared.flat.ReportLine.{ReportLine}
use Rattle.image_check.specs.Jumps.{AnyLineFails}
use Rattle.image_check.specs.Nearness.{IsNear}
use Rattle.image_check.specs.Parts.{line_of}
use Rattle.sound_images.specs.Reports.{Line, lines}
use Rattle.sound_images.specs.Rules.{Case, EntryFails}
use Rattle.image_check.proofs.EntryRule.{to_contained, from_contained}
use Rattle.image_check.proofs.NearCounts.{any_near}
use Rattle.image_check.proofs.SharedPages.{any_map}

-- whether a line is this one
abbrev same_bit : Bool → Bool → Bool
same_bit a b = cond a b (not b)

abbrev same_line : Line → Line → Bool
same_line l m =
    (m.number == l.number) && ((m.tramp.place == l.tramp.place) && ((m.tramp.start == l.tramp.start)
    && same_bit l.tramp.event m.tramp.event))

-- bits that compare as the same are equal
bit_is : (a b : Bool) → same_bit a b ≡ true → b ≡ a
bit_is true b h = h
bit_is false true h = absurd cc
bit_is false false h = refl

-- a bit compares as the same with itself
bit_self : (a : Bool) → same_bit a a ≡ true
bit_self true = refl
bit_self false = refl

-- lines that compare as the same are equal
line_is : (l m : Line) → same_line l m ≡ true → m ≡ l
line_is l m h =
    let p = and_parts (m.number == l.number) _ h in
    let q = and_parts (m.tramp.place == l.tramp.place) _ p.1 in
    let r = and_parts (m.tramp.start == l.tramp.start) _ q.1 in
    let n = eqb-true m.number l.number p.0 in
    let a = eqb-true m.tramp.place l.tramp.place q.0 in
    let b = eqb-true m.tramp.start l.tramp.start r.0 in
    let e = bit_is l.tramp.event m.tramp.event r.1 in
    λ i. record { number = n i; tramp = record { place = a i; start = b i; event = e i } }

-- a line compares as the same with itself
line_self : (l : Line) → same_line l l ≡ true
line_self l =
    and_from (l.number == l.number) _ (eq-eqb l.number l.number refl) (and_from (l.tramp.place == l.tramp.place) _
    (eq-eqb l.tramp.place l.tramp.place refl) (and_from (l.tramp.start == l.tramp.start) _ (eq-eqb l.tramp.start l.tramp.start refl)
    (bit_self l.tramp.event)))

-- a line is in a list where a test for it passes something
contained_any : (l : Line) (ls : List Line) → Contains ls l → list_any (same_line l) ls ≡ true
contained_any l [] h = absurd (omega (arith, h.1))
contained_any l (m ∷ ls) (zero, i, g) =
    or_left (same_line l m) (list_any (same_line l) ls) (subst (λ (z : Line). same_line l z ≡ true) (sym g) (line_self l))
contained_any l (m ∷ ls) (suc k, i, g) =
    or_right (same_line l m) (list_any (same_line l) ls) (contained_any l ls (k, omega arith, g))

-- a list of lines contains each with which one of its lines compares as the same
any_contained : (l : Line) (ls : List Line) → list_any (same_line l) ls ≡ true → Contains ls l
any_contained l [] h = absurd cc
any_contained l (m ∷ ls) h = elim (or_cases (same_line l m) (list_any (same_line l) ls) h) [
  | inl e ↦ (0, omega arith, line_is l m e)
  | inr e ↦ (let r = any_contained l ls e in (suc r.0, omega (arith, r.1), r.2))
]

-- a line is among those near its start where it is among all
same_near : (c : Case) (x : ℕ) (near : List ReportLine) (l : Line) → l.tramp.start ≡ x
    → IsNear line_of (λ (r : ReportLine). r.tramp.start) 1 x near (lines c.report)
    → list_any (same_line l) (map line_of near) ≡ list_any (same_line l) (lines c.report)
same_near c x near l e n =
    any_map (same_line l) line_of near
    ∙ any_near line_of (λ (r : ReportLine). r.tramp.start) 1 x near (lines c.report) n (same_line l)
    (λ r h. let k = ap (λ (z : Line). z.tramp.start) (line_is l (line_of r) h) in (omega (arith, k, e), omega (arith, k, e)))

-- rule 3 fails for a line near an address where it fails there
pub any_line_near : (c : Case) (x : ℕ) (near : List ReportLine)
    → IsNear line_of (λ (r : ReportLine). r.tramp.start) 1 x near (lines c.report) → AnyLineFails c x near ↔ EntryFails c x
any_line_near c x near n = (
  λ h. let r = to_contained c x near h in (
    r.0,
    any_contained r.0 (lines c.report) (sym (same_near c x near r.0 r.2.0 n) ∙ contained_any r.0
        (map line_of near) r.1),
    r.2.0,
    r.2.1,
  ),
  λ f. from_contained c x near f.0
      (any_contained f.0 (map line_of near) (same_near c x near f.0 f.2 n ∙ contained_any f.0 (lines c.report) f.1)) (f.2, f.3),
)
