-- The regions of a script that meet no page of a file's image hold none of its addresses.
use Rattle.std.proofs.Common.{◌≡◌, ◌⊎◌, inl, inr, ℕ, ◌+◌, ◌-◌, ◌*◌, ◌/◌, ◌<◌, ◌≤◌, Bool, true, false, ◌&&◌, cond, List, [], ◌∷◌, length, map, Option, Some, None, refl, ap, sym, ◌∙◌, arith}
use Rattle.std.specs.Prelude.{nat_le, nat_lt}
use Rattle.std.proofs.lemmas.Bool.{and_parts, cases_Bool}
use Rattle.std.proofs.lemmas.Bool.Decides.{nat_tests}
use Rattle.std.proofs.lemmas.List.{length-replicate}
use Rattle.pun_base.specs.Memory.{Cell, joined, or_else}
use Rattle.pun_base.specs.Ranges.{is_within}
use Rattle.cpu_state.specs.declared.script_regions.RegionBody.{RegionBody}
use Rattle.cpu_state.specs.declared.script_regions.RegionBody.TheVariants.{Zeros, Bytes as Listed}
use Rattle.cpu_state.specs.declared.script_regions.Region.{Region}
use Rattle.cpu_state.specs.Adding.{lower}
use Rattle.cpu_state.specs.Script.{body_size}
use Rattle.elf_read.specs.declared.segment.Segment.{Segment}
use Rattle.elf_read.specs.Entries.{loads, segments}
use Rattle.elf_read.specs.Image.{chunk_of, image, image_of}
use Rattle.elf_read.specs.Refusals.{first_page, last_page}
use Rattle.image_runs.specs.Starting.{bytes_in, least_meeting, least_met_of, meets_image, meets_page, region_memory, regions_memory}

-- A region that meets no page of a segment has none of its addresses.
page_apart : (r : Region) (s : Segment) (x : ℕ) → meets_page r s ≡ false → r.lo ≤ x → x < r.lo + body_size r.body → is_within s.vaddr s.memsz x ≡ false
page_apart r s x m low high = elim (cases_Bool (is_within s.vaddr s.memsz x)) [
  | inl t ↦ absurd (
      let p = and_parts (nat_le s.vaddr x) (nat_lt (x - s.vaddr) s.memsz) t in
      let above : s.vaddr ≤ x = grind (arith, nat_tests, p.0) in
      let below : x - s.vaddr < s.memsz = grind (arith, nat_tests, p.1) in
      let first : s.vaddr / 4096 * 4096 < r.lo + body_size r.body = omega arith in
      let behind : r.lo < ((s.vaddr + s.memsz - 1) / 4096 + 1) * 4096 = omega arith in
      let a : nat_lt (first_page s * 4096) (r.lo + body_size r.body) ≡ true = grind (arith, nat_tests, first) in
      let b : nat_lt r.lo ((last_page s + 1) * 4096) ≡ true = grind (arith, nat_tests, behind) in
      let both : meets_page r s ≡ true = rw a (rw b refl) in
      let d : true ≡ false = sym both ∙ m in cc)
  | inr f ↦ f
]

-- A region that meets no page of an image has none of its addresses.
pub image_apart : (file : List ℕ) (ss : List Segment) (r : Region) (x : ℕ) → meets_image ss r ≡ false → r.lo ≤ x → x < r.lo + body_size r.body
    → image (map (chunk_of file) ss) x ≡ None
image_apart file [] r x m low high = refl
image_apart file (s ∷ ss) r x m low high = elim (cases_Bool (meets_page r s)) [
  | inl t ↦ absurd (let both : meets_image (s ∷ ss) r ≡ true = rw t refl in let d : true ≡ false = sym both ∙ m in cc)
  | inr f ↦
      let later : meets_image ss r ≡ false = (let e : meets_image (s ∷ ss) r ≡ meets_image ss r = rw f refl in sym e ∙ m) in
      rw (page_apart r s x f low high) (image_apart file ss r x later low high)
]

-- The first of regions that meet nothing meets nothing, and neither do the others.
pub none_met : (ss : List Segment) (r : Region) (rs : List Region) → least_meeting ss (r ∷ rs) ≡ None → (meets_image ss r ≡ false) × (least_meeting ss rs ≡ None)
none_met ss r rs h = by (meets_image ss r) refl h
  where
    told : (o : Option ℕ) → lower r.lo o ≡ None → ⊥
    told None e = absurd cc
    told (Some x) e = absurd cc

    by : (b : Bool) → meets_image ss r ≡ b → cond b (lower r.lo (least_meeting ss rs)) (least_meeting ss rs) ≡ None → (meets_image ss r ≡ false) × (least_meeting ss rs ≡ None)
    by true is e = absurd (told (least_meeting ss rs) e)
    by false is e = (is, e)

-- A region has as many bytes as its body tells.
size_is : (b : RegionBody) → length (bytes_in b) ≡ body_size b
size_is (Zeros n) = length-replicate {A = ℕ} n 0
size_is (Listed bs) = refl

-- An address at or behind the end of a region isn't held by it.
pub region_ends : (r : Region) (x : ℕ) → r.lo + body_size r.body ≤ x → region_memory r x ≡ None
region_ends r x h =
    let n = size_is r.body in
    let f : (nat_le r.lo x && nat_lt (x - r.lo) (length (bytes_in r.body))) ≡ false = (let g : nat_lt (x - r.lo) (length (bytes_in r.body)) ≡ false = grind (arith, nat_tests) in rw g (no_and (nat_le r.lo x))) in
    rw f refl
  where
    no_and : (b : Bool) → (b && false) ≡ false
    no_and true = refl
    no_and false = refl

-- What a region holds is one of its addresses.
region_holds : (r : Region) (x : ℕ) → (region_memory r x ≡ None) ⊎ ((r.lo ≤ x) × (x < r.lo + body_size r.body))
region_holds r x = elim (cases_Bool (nat_le r.lo x && nat_lt (x - r.lo) (length (bytes_in r.body)))) [
  | inl t ↦ inr (
      let p = and_parts (nat_le r.lo x) (nat_lt (x - r.lo) (length (bytes_in r.body))) t in
      let n = size_is r.body in
      let low : r.lo ≤ x = grind (arith, nat_tests, p.0) in
      let less : x - r.lo < length (bytes_in r.body) = grind (arith, nat_tests, p.1) in
      (low, omega arith))
  | inr f ↦ inl (rw f refl)
]

-- Regions that meet no page of an image have no address in common with it.
pub regions_apart : (file : List ℕ) (ss : List Segment) (rs : List Region) (x : ℕ) → least_meeting ss rs ≡ None
    → (image (map (chunk_of file) ss) x ≡ None) ⊎ (regions_memory rs x ≡ None)
regions_apart file ss [] x h = inr refl
regions_apart file ss (r ∷ rs) x h =
    let n = none_met ss r rs h in
    by (region_holds r x) (regions_apart file ss rs x n.1) n.0
  where
    by : (region_memory r x ≡ None) ⊎ ((r.lo ≤ x) × (x < r.lo + body_size r.body)) → (image (map (chunk_of file) ss) x ≡ None) ⊎ (regions_memory rs x ≡ None) → meets_image ss r ≡ false
        → (image (map (chunk_of file) ss) x ≡ None) ⊎ (regions_memory (r ∷ rs) x ≡ None)
    by (inr p) ih m = inl (image_apart file ss r x m p.0 p.1)
    by (inl e) (inl i) m = inl i
    by (inl e) (inr q) m = inr (ap (λ (o : Option Cell). or_else o (regions_memory rs x)) e ∙ q)

-- Regions that meet no page of two images have no address in common with either.
pub both_apart : (original patched : List ℕ) (rs : List Region) → least_met_of original rs ≡ None → least_met_of patched rs ≡ None
    → (x : ℕ) → (joined (image_of original) (image_of patched) x ≡ None) ⊎ (regions_memory rs x ≡ None)
both_apart original patched rs h k x = by (regions_apart original (loads (segments original)) rs x h) (regions_apart patched (loads (segments patched)) rs x k)
  where
    by : (image_of original x ≡ None) ⊎ (regions_memory rs x ≡ None) → (image_of patched x ≡ None) ⊎ (regions_memory rs x ≡ None)
        → (joined (image_of original) (image_of patched) x ≡ None) ⊎ (regions_memory rs x ≡ None)
    by (inr e) q = inr e
    by (inl e) (inr q) = inr q
    by (inl e) (inl f) = inl (ap (λ (o : Option Cell). or_else o (image_of patched x)) e ∙ f)
