use Rattle.std.proofs.Common.{◌≡◌, ℕ, ◌+◌, List, length, insert, ◌++◌, replicate, None, refl, sym, ap, ◌∙◌, arith}
use Rattle.std.proofs.lemmas.Grind.{common_steps}
use Rattle.cpu_state.specs.Adding.{least_met}
use Rattle.cpu_state.specs.Regions.{cell_at, begun}
use Rattle.cpu_state.proofs.RegionCells.{none_left}
use Rattle.cpu_state.proofs.AddedRegions.{inserted, inserted_ascending, none_holds, free, taken}
use Rattle.cpu_state.proofs.memory.add_region.Goals.{in-Ok-insert, in-Err}
use Rattle.cpu_state.proofs.memory.add_region.Goals as goal

-- bytes of the region
total : (bytes : List ℕ) (n : ℕ) → length (bytes ++ replicate n 0) ≡ length bytes + n
total bytes n = grind (arith, common_steps)

-- the end of the region
ends_at : (lo last n : ℕ) (bytes : List ℕ) → last + 1 ≡ lo + (length bytes + n) → last + 1 ≡ lo + length (bytes ++ replicate n 0)
ends_at lo last n bytes e = grind (arith, common_steps)

pub returns-in-Some-clause-value : goal.returns-in-Some-clause-value
returns-in-Some-clause-value c =
    let e = ends_at c.args.lo c.last_address.result c.args.zeros c.args.bytes.now c.last_address.ensures in
    (ap (λ h. least_met c.args.lo h c.args.regions.now.items) (sym e) ∙ ap (λ rs. least_met c.args.lo (c.last_address.result + 1) rs) (sym c.deref.ensures.value) ∙ sym c.first_met.ensures ∙ c.in-Some.is, refl)

pub returns-in_default-new-clause-value : goal.returns-in_default-new-clause-value
returns-in_default-new-clause-value c =
    let e = ends_at c.args.lo c.last_address.result c.args.zeros c.args.bytes.now c.last_address.ensures in
    (ap (λ h. least_met c.args.lo h c.args.regions.now.items) (sym e) ∙ ap (λ rs. least_met c.args.lo (c.last_address.result + 1) rs) (sym c.deref.ensures.value) ∙ sym c.first_met.ensures ∙ none_left c.first_met.result c.in_default.not-Some, refl)

pub returns-clause-value : goal.returns-clause-value
returns-clause-value c =
    let rs = c.args.regions.now.items in
    let e = ends_at c.args.lo c.last_address.result c.args.zeros c.args.bytes.now c.last_address.ensures in
    let none = ap (λ h. least_met c.args.lo h rs) (sym e) ∙ ap (λ rs. least_met c.args.lo (c.last_address.result + 1) rs) (sym c.deref.ensures.value) ∙ sym c.first_met.ensures ∙ none_left c.first_met.result c.in_default.not-Some in
    let placed : c.count_begun-place.result ≡ begun rs c.args.lo = c.count_begun-place.ensures.value ∙ ap (λ z. begun z c.args.lo) c.deref-2.ensures.value in
    elim c.match-insert.branch [
      | in-Ok-insert w ↦ rw w.result-is (none, (c.in-Ok.region, (c.in-Ok.ensures.lo, c.in-Ok.ensures.perms, c.in-Ok.ensures.bytes), w.in-Ok-insert.ensures.items ∙ ap (λ n. insert rs n c.in-Ok.region) placed), ap cell_at w.in-Ok-insert.ensures.items ∙ inserted c.count_begun-place.result c.args.lo c.args.perms (c.args.bytes.now ++ replicate c.args.zeros 0) c.in-Ok.region rs c.in-Ok.ensures.lo c.in-Ok.ensures.perms c.in-Ok.ensures.bytes none)
      | in-Err w ↦ rw w.result-is (none, w.in-Err.ensures.items)
    ]

pub returns-clause-ascending : goal.returns-clause-ascending
returns-clause-ascending c =
    let rs = c.args.regions.now.items in
    let q = c.in-Ok.region in
    let e = ends_at c.args.lo c.last_address.result c.args.zeros c.args.bytes.now c.last_address.ensures in
    let none = ap (λ h. least_met c.args.lo h rs) (sym e) ∙ ap (λ rs. least_met c.args.lo (c.last_address.result + 1) rs) (sym c.deref.ensures.value) ∙ sym c.first_met.ensures ∙ none_left c.first_met.result c.in_default.not-Some in
    let free : least_met q.lo (q.lo + length q.bytes.items) rs ≡ None = rw (c.in-Ok.ensures.lo, c.in-Ok.ensures.bytes) none in
    let size : length q.bytes.items ≡ length c.args.bytes.now + c.args.zeros = ap length c.in-Ok.ensures.bytes ∙ total c.args.bytes.now c.args.zeros in
    let held = none_holds q.lo (q.lo + length q.bytes.items) rs (omega (arith, size, c.requires.some)) free in
    let placed : begun rs q.lo ≡ c.count_begun-place.result = rw c.in-Ok.ensures.lo (ap (λ z. begun z c.args.lo) (sym c.deref-2.ensures.value) ∙ sym c.count_begun-place.ensures.value) in
    elim c.match-insert.branch [
      | in-Ok-insert w ↦ rw w.in-Ok-insert.ensures.items (inserted_ascending 0 c.count_begun-place.result q rs c.requires.ascending (omega arith) (omega (arith, size, c.requires.some)) (omega (arith, size, c.in-Ok.ensures.lo, c.requires.fits)) held placed free)
      | in-Err w ↦ rw w.in-Err.ensures.items c.requires.ascending
    ]

pub returns-in-Some-clause-held : goal.returns-in-Some-clause-held
returns-in-Some-clause-held c =
    let e = ap (λ h. least_met c.args.lo h c.args.regions.now.items) (sym c.last_address.ensures) ∙ ap (λ rs. least_met c.args.lo (c.last_address.result + 1) rs) (sym c.deref.ensures.value) ∙ sym c.first_met.ensures ∙ c.in-Some.is in
    taken 0 c.args.lo _ c.in-Some.lo c.args.regions.now.items c.requires.ascending (omega (arith, c.requires.some)) e

pub returns-in_default-new-clause-held : goal.returns-in_default-new-clause-held
returns-in_default-new-clause-held c =
    free c.args.lo _ c.args.regions.now.items (ap (λ h. least_met c.args.lo h c.args.regions.now.items) (sym c.last_address.ensures) ∙ ap (λ rs. least_met c.args.lo (c.last_address.result + 1) rs) (sym c.deref.ensures.value) ∙ sym c.first_met.ensures ∙ none_left c.first_met.result c.in_default.not-Some)

pub returns-clause-held : goal.returns-clause-held
returns-clause-held c =
    let f = free c.args.lo (c.args.lo + (length c.args.bytes.now + c.args.zeros)) c.args.regions.now.items (ap (λ h. least_met c.args.lo h c.args.regions.now.items) (sym c.last_address.ensures) ∙ ap (λ rs. least_met c.args.lo (c.last_address.result + 1) rs) (sym c.deref.ensures.value) ∙ sym c.first_met.ensures ∙ none_left c.first_met.result c.in_default.not-Some) in
    elim c.match-insert.branch [
      | in-Ok-insert w ↦ rw w.result-is f
      | in-Err w ↦ rw w.result-is f
    ]
