-- The plans of B1, B2 and T1 lead.
use Rattle.std.proofs.Common.{◌≡◌, inl, ℕ, ◌+◌, ◌^◌, ◌<◌, ◌≤◌, eqb, List, [], ◌∷◌, Some, arith}
use Rattle.std.specs.Prelude.{Contains}
use Rattle.pun_base.specs.declared.scheme.Scheme.TheVariants as scheme
use Rattle.patch_report.proofs.ListPlaces.{finds, contains_at}
use Rattle.start_entries.specs.declared.entry.StartEntry.{StartEntry}
use Rattle.start_entries.specs.Finding.{entry_at}
use Rattle.start_list.specs.Forms.{B1, B2, T1, T2, T3}
use Rattle.start_list.specs.PlanJumps.{padded_jump}
use Rattle.start_list.proofs.StandingJumps.{standing_jumps_lead}
use Rattle.site_turns.specs.Folded.{LeadBy}
use Rattle.site_turns.specs.Laws.{SchemeLeads, SinglesLead}

-- where an entry is found, it is listed
pub entry_listed : (es : List StartEntry) (a : ℕ) (e : StartEntry) → entry_at es a ≡ Some e → Contains es e
entry_listed es a e h = let q = finds (λ (e : StartEntry). eqb e.addr a) es e h in contains_at es q.place e q.at

-- one jump after at most three pads leads wherever it stands
one_leads : (es : List StartEntry) (site : StartEntry) (p place : ℕ) → p ≤ 3 → site.addr + p + 5 < 2 ^ 31 → place < 2 ^ 31
    → LeadBy es (padded_jump site.addr site.len p 0x40 place ∷ []) site.addr place
one_leads es site p place few low high m h = inl (standing_jumps_lead m site.addr site.len p place few low high h.0)

-- the plans of B1 lead
b1_leads : SchemeLeads scheme.B1
b1_leads v site (B1 t) A E e a =
    let low = (A.each site (entry_listed v.entries site.addr site E)).low in
    let high = a.placed.0.2.below in
    (one_leads v.entries site 0 t (omega arith) (omega (arith, low)) (omega (arith, high)), tt)
b1_leads v site (B2 t) A E e a = absurd cc
b1_leads v site (T1 p t) A E e a = absurd cc
b1_leads v site (T2 x p q pad n t u) A E e a = absurd cc
b1_leads v site (T3 x i n t u) A E e a = absurd cc

-- the plans of B2 lead
b2_leads : SchemeLeads scheme.B2
b2_leads v site (B2 t) A E e a =
    let low = (A.each site (entry_listed v.entries site.addr site E)).low in
    let high = a.placed.0.2.below in
    (one_leads v.entries site 0 t (omega arith) (omega (arith, low)) (omega (arith, high)), tt)
b2_leads v site (B1 t) A E e a = absurd cc
b2_leads v site (T1 p t) A E e a = absurd cc
b2_leads v site (T2 x p q pad n t u) A E e a = absurd cc
b2_leads v site (T3 x i n t u) A E e a = absurd cc

-- the plans of T1 lead
t1_leads : SchemeLeads scheme.T1
t1_leads v site (T1 p t) A E e a =
    let low = (A.each site (entry_listed v.entries site.addr site E)).low in
    let high = a.placed.0.2.below in
    let form = a.allowed.form in
    let few : p ≤ 3 = omega (arith, form.0, form.2) in
    (one_leads v.entries site p t few (omega (arith, low, few)) (omega (arith, high)), tt)
t1_leads v site (B1 t) A E e a = absurd cc
t1_leads v site (B2 t) A E e a = absurd cc
t1_leads v site (T2 x p q pad n t u) A E e a = absurd cc
t1_leads v site (T3 x i n t u) A E e a = absurd cc

-- in each memory in which the jump of an admissible plan of B1, B2 or T1 stands, its start leads to its trampoline
pub singles_lead : SinglesLead
singles_lead = (b1_leads, (b2_leads, (t1_leads, tt)))
