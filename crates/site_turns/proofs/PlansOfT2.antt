-- The plans of T2 lead, after pads that are REX bytes too.
use Rattle.std.proofs.Common.{inl, arith}
use Rattle.start_list.specs.Forms.{B1, B2, T1, T2, T3}
use Rattle.start_list.proofs.StandingJumps.{standing_jumps_lead}
use Rattle.scheme_search.proofs.PaddedSpellings.{rex_leads}
use Rattle.site_turns.specs.Laws.{BehindLeads}
use Rattle.site_turns.proofs.PlansWithOneJump.{entry_listed}

-- in each memory in which the jumps of an admissible plan of T2 stand, its starts lead to its trampolines
pub behind_leads : BehindLeads
behind_leads v site (T2 x p q pad n t u) A E e a =
    let low = (A.each site (entry_listed v.entries site.addr site E)).low in
    let form = a.allowed.form in
    let vlow = (A.each x form.victim.listed).low in
    let short = form.short in
    let pads = form.pads in
    let vp = form.victim_pads in
    let place = a.placed.0.2.below in
    let second = a.placed.2.0.2.below in (
      λ m h. inl (standing_jumps_lead m site.addr site.len p t (omega (arith, short, pads)) (omega (arith, low, short, pads)) (omega (arith, place)) h.0),
      (λ m h. inl (rex_leads m x.addr x.len q pad u (omega (arith, vp.0)) form.rex.0 form.rex.1 (omega (arith, vlow, vp.0)) (omega (arith, second)) h.1.0), tt),
    )
behind_leads v site (B1 t) A E e a = absurd cc
behind_leads v site (B2 t) A E e a = absurd cc
behind_leads v site (T1 p t) A E e a = absurd cc
behind_leads v site (T3 x i n t u) A E e a = absurd cc
