use Rattle.std.proofs.Common.{◌≡◌, ℕ, ◌+◌, ◌<◌, ◌^◌, min, List, take, ap, ◌∙◌, arith}
use Rattle.start_list.specs.PlanJumps.{after_writes}
use Rattle.start_list.specs.TurnViews.{memory_now}
use Rattle.start_list.specs.Turning.{view_of}
use Rattle.start_list.specs.Plans.{bytes_from}
use Rattle.scheme_search.specs.Padded.{jumps}
use Rattle.scheme_search.proofs.OneJumpPlans.{spelled_code, after_is}
use Rattle.scheme_search.proofs.plan.jump_write.Goals as goal

pub returns-clause-after : goal.returns-clause-after
returns-clause-after c =
    let v = view_of c.args.here.now.turn in
    let site = c.args.here.now.site in
    let p = c.args.pads in
    let t = c.args.place in
    let n = c.from.result in
    let few : n ≡ min site.len (p + 5) = c.from.ensures ∙ c.written_len-len.ensures in
    let low : site.addr + p + 5 < 2 ^ 31 = omega arith in
    let top = c.requires.reaches.placed.0.2.below in
    let under : t < 2 ^ 31 = omega (arith, top) in
    let spelled = c.as_slice.ensures.value ∙ spelled_code site p t c.spell-jump.result low under c.spell-jump.ensures in
    c.from_slice-now.ensures ∙ ap (λ (xs : List ℕ). take n xs) spelled ∙ after_is v site p t n few low c.requires.reaches.stands.0
    ∙ ap (λ k. bytes_from (after_writes (memory_now v) (jumps site p t)) site.addr k) few
