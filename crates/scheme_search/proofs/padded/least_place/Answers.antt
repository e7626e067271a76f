use Rattle.std.proofs.Common.{◌≡◌, ◌↔◌, ℕ, ℤ, ◌+◌, ◌-◌, ◌<◌, ◌≤ℤ◌, ◌<ℤ◌, min, [], Option, Some, None, IfSome, true, sym, ap, ◌∙◌, subst, true≢false}
use Rattle.elf_read.specs.Code.{is_exec_in}
use Rattle.jump_form.specs.Windows.{IsAllowed}
use Rattle.start_list.specs.TurnViews.{memory_now}
use Rattle.start_list.specs.Turning.{view_of}
use Rattle.start_list.specs.Plans.{bytes_from}
use Rattle.scheme_search.specs.Padded.{Reaches, IsTarget}
use Rattle.scheme_search.proofs.SiteJumpTargets.{OnSite, puns_code, jump_low, to_target, from_target}
use Rattle.scheme_search.proofs.SiteSegments.{on_site}
use Rattle.scheme_search.proofs.LeastNumbers.{least_same}
use Rattle.scheme_search.proofs.padded.least_place.Goals as goal

pub returns-then-are_code-clause-least : goal.returns-then-are_code-clause-least
returns-then-are_code-clause-least c =
    let v = view_of c.args.here.now.turn in
    let site = c.args.here.now.site in
    let s = c.args.here.now.segment in
    let p = c.args.pads in
    let own = c.own_bytes-own.result in
    let is_own : own ≡ min (site.len - p - 1) 4 = c.own_bytes-own.ensures.value in
    let g : OnSite v site s = on_site c.args.here.now in
    let end : site.addr + c.from.result ≡ site.addr + site.len = ap (λ x. site.addr + x) c.from.ensures in
    let executed = subst (λ (x : ℕ). (k : ℕ) → k < 4 - own → is_exec_in (x + k) s ≡ true) end (c.are_code.ensures.0 c.if-are_code.true) in
    let fixed = c.as_slice.result.now in
    let is_fixed : fixed ≡ bytes_from (memory_now v) (site.addr + site.len) (4 - own) =
    c.as_slice.ensures.value ∙ c.standing_bytes-fixed.ensures.value ∙ ap (λ x. bytes_from (memory_now v) x (4 - own)) end in
    let w = c.window-targets.result in
    let win : (target : ℤ) → IsAllowed (site.addr + p + 5) [] own fixed target ↔ ((w.lo ≤ℤ target) × (target <ℤ w.hi)) = c.window-targets.ensures in
    least_same (IsTarget v site w) (Reaches v site p) c.least_target.result
    (λ t h. from_target v site s g p own c.requires is_own executed fixed w is_fixed win t h)
    (λ t h. to_target v site s g p own c.requires is_own executed fixed w is_fixed win t h)
    c.least_target.ensures

pub returns-else-are_code-clause-least : goal.returns-else-are_code-clause-least
returns-else-are_code-clause-least c = λ t r.
    let v = view_of c.args.here.now.turn in
    let site = c.args.here.now.site in
    let s = c.args.here.now.segment in
    let own = c.own_bytes-own.result in
    let end : site.addr + site.len ≡ site.addr + c.from.result = ap (λ x. site.addr + x) (sym c.from.ensures) in
    let all = puns_code v site s (on_site c.args.here.now) c.args.pads own c.requires c.own_bytes-own.ensures.value t r in
    let yes = c.are_code.ensures.1 (subst (λ (x : ℕ). (k : ℕ) → k < 4 - own → is_exec_in (x + k) s ≡ true) end all) in
    true≢false (sym yes ∙ c.if-are_code.false)

some_low : {P : Type 0} (o : Option ℕ) → P → IfSome o (λ t. P)
some_low None h = tt
some_low (Some t) h = h

pub returns-then-are_code-clause-low : goal.returns-then-are_code-clause-low
returns-then-are_code-clause-low c =
    let here = c.args.here.now in
    let site = here.site in
    let own = c.own_bytes-own.result in
    let end : site.addr + c.from.result ≡ site.addr + site.len = ap (λ x. site.addr + x) c.from.ensures in
    let executed = subst (λ (x : ℕ). (k : ℕ) → k < 4 - own → is_exec_in (x + k) here.segment ≡ true) end (c.are_code.ensures.0 c.if-are_code.true) in
    some_low c.least_target.result (jump_low (view_of here.turn) site here.segment (on_site here) c.args.pads own c.requires c.own_bytes-own.ensures.value executed)
