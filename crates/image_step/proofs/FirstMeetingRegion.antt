-- The first region that meets an image is the least one.
use Rattle.std.proofs.Common.{◌≡◌, ℕ, ◌+◌, ◌<◌, ◌≤◌, Bool, true, false, ◌&&◌, cond, List, [], ◌∷◌, length, get_or, drop, Option, Some, None, IfSome, refl, sym, subst, ◌∙◌, arith}
use Rattle.std.specs.Prelude.{nat_le}
use Rattle.std.proofs.lemmas.Bool.{and_parts}
use Rattle.std.proofs.lemmas.Bool.Decides.{nat_tests}
use Rattle.cpu_state.specs.declared.script_regions.Region.{Region}
use Rattle.cpu_state.specs.Adding.{lower}
use Rattle.cpu_state.specs.Script.{are_regions, ascend, body_size, is_bounded, is_permission}
use Rattle.elf_read.specs.declared.segment.Segment.{Segment}
use Rattle.elf_read.specs.Entries.{loads, segments}
use Rattle.image_runs.specs.Starting.{least_meeting, least_met_of, meets_image}
use Rattle.image_step.proofs.Entries.{left_from}

-- What is left of regions ascends, and has the least one that meets.
pub record Sought (file : List ℕ) (left regions : List Region) : Type 0 where
  pub low : ℕ
  pub ascends : ascend low left ≡ true
  pub least : least_met_of file left ≡ least_met_of file regions

-- Before the first region is looked at, the least that meets is among all of them.
pub sought_all : (file : List ℕ) (rs : List Region) → are_regions rs ≡ true → Sought file rs rs
sought_all file rs h = record { low = 0; ascends = (and_parts (nat_le (length rs) 16) (ascend 0 rs) h).1; least = refl }

record Parts (low : ℕ) (r : Region) (rs : List Region) : Type 0 where
  above : low ≤ r.lo
  bounded : is_bounded r.lo r.body ≡ true
  later : ascend (r.lo + body_size r.body) rs ≡ true

parts : (low : ℕ) (r : Region) (rs : List Region) → ascend low (r ∷ rs) ≡ true → Parts low r rs
parts low r rs h =
    let p0 = and_parts (nat_le low r.lo) (is_permission r.perms && (is_bounded r.lo r.body && ascend (r.lo + body_size r.body) rs)) h in
    let p1 = and_parts (is_permission r.perms) (is_bounded r.lo r.body && ascend (r.lo + body_size r.body) rs) p0.1 in
    let p2 = and_parts (is_bounded r.lo r.body) (ascend (r.lo + body_size r.body) rs) p1.1 in
    record { above = grind (arith, nat_tests, p0.0); bounded = p2.0; later = p2.1 }

-- The least one is at or above the lower end.
least_above : (ss : List Segment) (low : ℕ) (rs : List Region) → ascend low rs ≡ true → IfSome (least_meeting ss rs) (λ x. low ≤ x)
least_above ss low [] h = tt
least_above ss low (r ∷ rs) h =
    let p = parts low r rs h in
    let ih = least_above ss (r.lo + body_size r.body) rs p.later in
    by (meets_image ss r) (least_meeting ss rs) p.above ih
  where
    weaker : (o : Option ℕ) → low ≤ r.lo → IfSome o (λ x. r.lo + body_size r.body ≤ x) → IfSome o (λ x. low ≤ x)
    weaker None above ih = tt
    weaker (Some x) above ih = omega arith

    taken : (o : Option ℕ) → low ≤ r.lo → IfSome o (λ x. r.lo + body_size r.body ≤ x) → IfSome (lower r.lo o) (λ x. low ≤ x)
    taken None above ih = above
    taken (Some x) above ih = first (nat_le r.lo x) above ih
      where
        first : (b : Bool) → low ≤ r.lo → r.lo + body_size r.body ≤ x → low ≤ (cond b r.lo x)
        first true above ih = above
        first false above ih = omega arith

    by : (b : Bool) (o : Option ℕ) → low ≤ r.lo → IfSome o (λ x. r.lo + body_size r.body ≤ x) → IfSome (cond b (lower r.lo o) o) (λ x. low ≤ x)
    by true o above ih = taken o above ih
    by false o above ih = weaker o above ih

lower_first : (a n : ℕ) (o : Option ℕ) → IfSome o (λ x. a + n ≤ x) → lower a o ≡ Some a
lower_first a n None h = refl
lower_first a n (Some x) h = let e : nat_le a x ≡ true = grind (arith, nat_tests) in rw e refl

-- What is left from a place on begins with the region there.
pub sought_item : (file : List ℕ) (rs : List Region) (i : ℕ) (r : Region) → i < length rs → r ≡ get_or rs i r → Sought file (drop i rs) rs
    → Sought file (r ∷ drop (i + 1) rs) rs
sought_item file rs i r l e s = subst (λ (left : List Region). Sought file left rs) (left_from rs i r l e) s

-- A region that meets is the least one.
pub sought_here : (file : List ℕ) (r : Region) (left rs : List Region) → Sought file (r ∷ left) rs → meets_image (loads (segments file)) r ≡ true → Some r.lo ≡ least_met_of file rs
sought_here file r left rs s m =
    let p = parts s.low r left s.ascends in
    let above = least_above (loads (segments file)) (r.lo + body_size r.body) left p.later in
    let e : least_met_of file (r ∷ left) ≡ Some r.lo = rw m (lower_first r.lo (body_size r.body) (least_met_of file left) above) in
    sym e ∙ s.least

-- Where the first region meets no page of the image, the least that meets is a later one.
pub sought_later : (file : List ℕ) (r : Region) (left rs : List Region) → Sought file (r ∷ left) rs → meets_image (loads (segments file)) r ≡ false → Sought file left rs
sought_later file r left rs s m =
    let p = parts s.low r left s.ascends in
    let e : least_met_of file (r ∷ left) ≡ least_met_of file left = rw m refl in
    record { low = r.lo + body_size r.body; ascends = p.later; least = sym e ∙ s.least }
