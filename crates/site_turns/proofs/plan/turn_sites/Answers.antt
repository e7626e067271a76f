use Rattle.std.proofs.Common.{◌≡◌, ℕ, length, Option, Some, None, refl, sym, ap, ◌∙◌, subst, arith}
use Rattle.pun_base.specs.declared.action.Action.{Action}
use Rattle.pun_base.specs.Least.{Least}
use Rattle.address_space.specs.Fit.{FitsPages}
use Rattle.site_turns.specs.PrivateRange.{pages_for}
use Rattle.site_turns.specs.Modes.{action_of}
use Rattle.site_turns.specs.Planning.{requested, taken_at_first, private_pages}
use Rattle.site_turns.proofs.RequestTurns.{fits_same, turns_done}
use Rattle.site_turns.proofs.plan.turn_sites.Goals as goal

pub returns-in_default-least_pages-clause-refused : goal.returns-in_default-least_pages-clause-refused
returns-in_default-least_pages-clause-refused c =
    let q = requested c.args.elf.now.bytes c.args.starts.now c.args.sites.now (action_of c.args.mode) c.args.reserves.now in
    let pages = c.pages_for-pages.result in
    let size : pages ≡ private_pages q = c.pages_for-pages.ensures.value ∙ ap (λ (z : Action). pages_for z (length c.args.sites.now)) c.action.ensures in (
      sym c.unlisted.ensures ∙ c.in_default.is,
      size,
      subst (λ (n : ℕ). Least (FitsPages (taken_at_first q) n) None) size
          (fits_same c.in-Ok.space.taken (taken_at_first q) pages None c.pages_for-pages.ensures.some c.in-Ok.ensures.free
          (subst (λ (o : Option ℕ). Least (FitsPages c.in-Ok.space.taken pages) o) c.in_default-least_pages.is c.least_pages.ensures)),
    )

pub returns-clause-turned : goal.returns-clause-turned
returns-clause-turned c =
    let q = requested c.args.elf.now.bytes c.args.starts.now c.args.sites.now (action_of c.args.mode) c.args.reserves.now in
    let pages = c.pages_for-pages.result in
    let some = c.pages_for-pages.ensures.some in
    let size : pages ≡ private_pages q = c.pages_for-pages.ensures.value ∙ ap (λ (z : Action). pages_for z (length c.args.sites.now)) c.action.ensures in
    let least : Least (FitsPages c.in-Ok.space.taken pages) (Some c.in-Some-least_pages.lo) =
    subst (λ (o : Option ℕ). Least (FitsPages c.in-Ok.space.taken pages) o) c.in-Some-least_pages.is c.least_pages.ensures in
    let below = least.good.free.below in
    turns_done _ c.args.sites.now c.args.reserves.now c.in-Ok.space.taken c.in-Ok-turn_all.done pages
    (record { accepted = c.in-Ok.ensures.accepted; own = c.requires.built; action = c.requires.action; low = omega (arith, below, some) })
    c.in-Ok.ensures.free size some least refl c.in-Ok-turn_all.ensures
