use Rattle.std.proofs.Common.{◌≡◌, ◌+◌, ◌<◌, ◌≤◌, length, get_or, sym, ap, ◌∙◌, arith}
use Rattle.std.proofs.lemmas.List.{get_or_default}
use Rattle.cpu_state.specs.declared.regions.MemoryRegion.{MemoryRegion}
use Rattle.cpu_state.proofs.AddedRegions.{met_at, met_next, none_met}
use Rattle.cpu_state.proofs.regions.first_met.Goals.{else-next-regions-via-then-next-regions+else-regions-next, else-next-regions-via-else-next-regions}
use Rattle.cpu_state.proofs.regions.first_met.Goals as goal

pub returns-in-Some : goal.returns-in-Some
returns-in-Some c = sym (met_at 0 c.args.lo (c.args.last + 1) c.in-Some.place c.args.regions.now c.index-regions-place.result c.requires.ascending (omega (arith, c.requires.some)) (sym c.find_place.ensures.value ∙ c.in-Some.is))

pub returns-then-regions-next : goal.returns-then-regions-next
returns-then-regions-next c =
    let rs = c.args.regions.now in
    let n = c.count_begun-next.result in
    let d = c.index-regions-next-then-regions-next.result in
    let f = c.index-regions-next.result in
    let low : (get_or rs n d).lo ≡ (get_or rs n f).lo = ap (λ (r : MemoryRegion). r.lo) (get_or_default rs n d f c.if-next-regions.true) in
    sym (met_next 0 c.args.lo (c.args.last + 1) n rs d c.requires.ascending (omega (arith, c.requires.some)) (sym c.find_place.ensures.value ∙ c.in_default.is) (sym c.count_begun-next.ensures.value) c.if-next-regions.true (omega (arith, low, c.if-regions-next.true)))

pub returns-else-next-regions : goal.returns-else-next-regions
returns-else-next-regions c =
    let rs = c.args.regions.now in
    let n = c.count_begun-next.result in
    let above : (d : MemoryRegion) → n < length rs → c.args.last + 1 ≤ (get_or rs n d).lo = λ d s. elim c.else-next-regions.branch [
      | else-next-regions-via-then-next-regions+else-regions-next w ↦
          let f = w.index-regions-next.result in
          let low : (get_or rs n d).lo ≡ (get_or rs n f).lo = ap (λ (r : MemoryRegion). r.lo) (get_or_default rs n d f s) in
          omega (arith, low, w.if-regions-next.false)
      | else-next-regions-via-else-next-regions w ↦ absurd (omega (arith, s, w.if-next-regions.false))
    ] in
    sym (none_met 0 c.args.lo (c.args.last + 1) n rs c.requires.ascending (sym c.find_place.ensures.value ∙ c.in_default.is) (sym c.count_begun-next.ensures.value) above)
