-- Threads in the event of a site, while others step: they go on by its steps, restore, and mark where the condition holds.
use Rattle.std.proofs.Common.{◌≡◌, inl, inr, ℕ, zero, suc, ◌+◌, ◌<◌, ◌≤◌, Bool, true, false, ◌&&◌, List, [], ◌∷◌, ◌++◌, length, length-append, take, drop, Option, Some, None, refl, sym, ap, ◌∙◌, subst, arith}
use Rattle.std.specs.Prelude.{nat_le}
use Rattle.std.proofs.lemmas.Bool.{cases_lt}
use Rattle.std.proofs.lemmas.Bool.Decides.{nat_tests}
use Rattle.std.proofs.lemmas.List.{append_assoc}
use Rattle.pun_base.specs.Actions.{AreComparisons}
use Rattle.pun_base.specs.declared.action.Base.{Base}
use Rattle.pun_base.specs.declared.action.Base.TheVariants.{Cover, Count}
use Rattle.pun_base.specs.declared.action.Comparison.{Comparison}
use Rattle.cpu_state.specs.declared.state.Core.{Core}
use Rattle.cpu_state.specs.Fixed.{IsFixed}
use Rattle.cpu_state.specs.Processor.{IsProcessorCore}
use Rattle.insn_form.specs.Machine.{Machine}
use Rattle.cond_action.specs.Conditions.{all_hold}
use Rattle.trampoline.specs.EventLists.{marking_step, cover_event}
use Rattle.event_steps.specs.declared.step.Datum.{Datum}
use Rattle.event_steps.specs.declared.step.EventStep.{EventStep}
use Rattle.event_steps.specs.declared.step.EventStep.TheVariants.{CountUp, Put, FromAl, FromAh, Load, Store, IntoAh, IntoAl}
use Rattle.event_steps.specs.EventSteps.{size, long, code}
use Rattle.event_steps.specs.EventSteps.Mode.{Shared}
use Rattle.event_steps.specs.MadeSteps.{after, skipped}
use Rattle.event_steps.specs.DoneSteps.{Local, started, done, AreApart, FitsIn, StandsBy}
use Rattle.event_steps.specs.Interleaved.{Reaches, IsIn, IsWell}
use Rattle.event_steps.proofs.InterleavedSteps.{all_kept, reaches_more, comes_in, can_go_on}
use Rattle.event_steps.proofs.ListedCode.{step_told, step_leads, same_code}
use Rattle.event_steps.proofs.LocalSteps.{step_done}
use Rattle.relocate_insn.proofs.FixedCode.{fixed_on}
use Rattle.thread_runs.specs.ThreadCode.{Kind, Marks, Keeps, marking_len, checking_len}
use Rattle.thread_runs.specs.ThreadLists.{checks, comparing_step, saving_thread_event}
use Rattle.thread_runs.specs.SiteEvents.{event_list, IsPlaced, IsInSite, StandsAt, SiteComesIn, SiteGoesOn, SiteCanGoOn, SiteRestores, SiteMarks}
use Rattle.thread_runs.proofs.RestoredRegisters.{all_restore}
use Rattle.thread_runs.proofs.RestoredRings.{same_head, rings_restore}
use Rattle.thread_runs.proofs.MarkedEvents.{behind, marks_where_met}
use Rattle.thread_runs.proofs.SiteEventSteps.{are_lists, saving_long, site_steps, site_low, at_last}

-- what is left is the end of the steps
pub ends_with : (ds : List Datum) (k : ℕ) (ss rest : List EventStep) (l l' : Local) → Reaches ds k ss rest l l' → (j : ℕ) × (rest ≡ drop j ss)
ends_with ds zero [] rest l l' h = (0, h.0)
ends_with ds (suc k) [] rest l l' h = (0, h.0)
ends_with ds (suc k) (s ∷ ss) rest l l' h = let q = ends_with ds k ss rest l l' h in (suc q.0, q.1)
ends_with ds zero (s ∷ ss) rest l l' (inl h) = (0, h.0)
ends_with ds zero (s ∷ ss) rest l l' (inr h) = let q = ends_with ds (skipped s h.0.core) ss rest (done s h.0) l' h.2 in (suc q.0, q.1)

-- it puts a number into a slot
abbrev pub is_put : EventStep → Bool
is_put (Put k n) = true
is_put s = false

-- none of these steps does
abbrev pub PutNone : List EventStep → Type 0
PutNone [] = Unit {0}
PutNone (s ∷ ss) = (is_put s ≡ false) × PutNone ss

-- each other step finds its place in the data
plain_fits : (ds : List Datum) (s : EventStep) (l : Local) → is_put s ≡ false → FitsIn ds s l
plain_fits ds (Put k n) l h = absurd cc
plain_fits ds s l h = tt

compare_puts : (r n : ℕ) → is_put (comparing_step r n) ≡ false
compare_puts zero n = refl
compare_puts (suc r) n = refl

checks_put : (cs : List Comparison) (back : List EventStep) → PutNone back → PutNone (checks cs ++ back)
checks_put [] back h = h
checks_put (c ∷ cs) back h = (compare_puts c.reg c.value, (refl, checks_put cs back h))

saving_puts : (b : Base) (cs : List Comparison) (p i : ℕ) → PutNone (saving_thread_event b cs p i).steps
saving_puts Cover cs p i = (refl, (refl, (refl, checks_put cs _ (refl, (refl, (refl, (refl, tt)))))))
saving_puts Count cs p i = (refl, (refl, (refl, checks_put cs _ (refl, (refl, (refl, (refl, tt)))))))

pub no_step : (s : EventStep) (rest : List EventStep) → s ∷ rest ≡ [] → ⊥
no_step s rest e = absurd cc

puts_at : (j : ℕ) (ss : List EventStep) (s : EventStep) (rest : List EventStep) → s ∷ rest ≡ drop j ss → PutNone ss → is_put s ≡ false
puts_at zero [] s rest e h = absurd (no_step s rest e)
puts_at (suc j) [] s rest e h = absurd (no_step s rest e)
puts_at zero (t ∷ ss) s rest e h = ap is_put (same_head s t rest ss e) ∙ h.0
puts_at (suc j) (t ∷ ss) s rest e h = puts_at j ss s rest e h.1

-- an event's steps find their place in its data
pub site_fits : (o : Option Kind) (cs : List Comparison) (p i at : ℕ) (c : Core) (s : EventStep) (rest : List EventStep) (v : Machine) → IsProcessorCore c → IsPlaced o cs p i at
    → (h : IsInSite o cs p i at c (s ∷ rest) v) → FitsIn (event_list o cs p i).uses s h.now
site_fits (Some (Keeps n)) cs p i at c s rest v q k h = (rings_restore n p i k.room.0).1 c h.began s rest h.now q h.came
site_fits (Some (Marks Cover)) [] p i at c s rest v q k h =
    let e = ends_with (cover_event p i).uses 0 (cover_event p i).steps (s ∷ rest) (started c h.began) h.now h.came in
    plain_fits (cover_event p i).uses s h.now (puts_at e.0 (cover_event p i).steps s rest e.1 (refl, tt))
site_fits (Some (Marks Cover)) (x ∷ xs) p i at c s rest v q k h =
    let l = saving_thread_event Cover (x ∷ xs) p i in
    let e = ends_with l.uses 0 l.steps (s ∷ rest) (started c h.began) h.now h.came in
    plain_fits l.uses s h.now (puts_at e.0 l.steps s rest e.1 (saving_puts Cover (x ∷ xs) p i))
site_fits (Some (Marks Count)) cs p i at c s rest v q k h =
    let l = saving_thread_event Count cs p i in
    let e = ends_with l.uses 0 l.steps (s ∷ rest) (started c h.began) h.now h.came in
    plain_fits l.uses s h.now (puts_at e.0 l.steps s rest e.1 (saving_puts Count cs p i))
site_fits None cs p i at c s rest v q k h = absurd (no_step s rest h.came.0)

-- what is asked of an event and of where it stands
site_well : (o : Option Kind) (cs : List Comparison) (p i at : ℕ) (c : Core) → IsPlaced o cs p i at → AreApart (event_list o cs p i).uses c → IsWell (event_list o cs p i) at c
site_well o cs p i at c k apart = record {
  steps = site_steps o cs p i at k;
  below = (let z = k.below in let y = (are_lists o cs p i).len in omega (arith, z, y));
  low = site_low o cs p i at k;
  apart = apart;
}

-- a thread comes in
pub site_comes_in : SiteComesIn
site_comes_in o cs p i at v r c = comes_in (event_list o cs p i) at v r (subst (λ (z : List ℕ). IsFixed v.mem at z) (sym (are_lists o cs p i).code) c)

-- how far the steps behind those that are left out reach
dropped : (k : ℕ) (ss : List EventStep) → long (take k ss) + long (drop k ss) ≡ long ss
dropped zero ss = omega arith
dropped (suc k) [] = refl
dropped (suc k) (s ∷ ss) = let q = dropped k ss in omega (arith, q)

-- it stands in front of the steps that are left
pub in_front : (o : Option Kind) (cs : List Comparison) (p i at : ℕ) (c : Core) (rest : List EventStep) (v : Machine) → IsInSite o cs p i at c rest v → StandsAt o cs p i at rest v
in_front o cs p i at c rest v h =
    let e = ends_with (event_list o cs p i).uses 0 (event_list o cs p i).steps rest (started c h.began) h.now h.came in
    let l = are_lists o cs p i in
    record { passed = e.0; left = e.1; here = (let a = h.rip in let b = l.len in omega (arith, a, b)); stands = subst (λ (z : List ℕ). IsFixed v.mem at z) l.code h.stands }

-- it goes on
pub site_goes_on : SiteGoesOn
site_goes_on o cs p i at c s rest v w q k apart h st =
    let e = event_list o cs p i in
    let ds = e.uses in
    let well = site_well o cs p i at c k apart in
    let z = at_last o cs p i at (s ∷ rest) v k (in_front o cs p i at c (s ∷ rest) v h) in
    let t = step_told Shared ds s rest v.rip v w z.0 z.1 refl z.2 st in
    let d = step_done Shared ds c s rest v.rip h.now v z.0.0 z.0.1 well.low well.apart (site_fits o cs p i at c s rest v q k h) h.beside t.0 in
    let more = reaches_more ds 0 e.steps s rest (started c h.began) h.now h.came (all_kept ds c (after ds s rest v.rip v).mem (done s h.now).held d.beside.hold) in
    let leads = step_leads ds s rest v.rip v z.1 z.0.2 in
    let far = dropped (skipped s v.core) rest in
    record {
      is = record {
        began = h.began;
        now = done s h.now;
        came = subst (λ (y : Core). Reaches ds 0 e.steps (drop (skipped s y) rest) (started c h.began) (done s h.now)) (sym h.beside.core) more;
        beside = subst (StandsBy ds c (done s h.now)) (sym t.1) d.beside;
        rip = (let a = ap (λ (y : Machine). y.rip) t.1 ∙ leads in let b = h.rip in omega (arith, a, b, far));
        stands = fixed_on v.mem w.mem at (code ds e.steps) (same_code Shared v w st) h.stands;
      };
      now = refl;
      mem = ap (λ (y : Machine). y.mem) t.1 ∙ d.mem;
      world = ap (λ (y : Machine). y.world) t.1 ∙ d.world;
    }

-- it can
pub site_can_go_on : SiteCanGoOn
site_can_go_on o cs p i at c s rest v q k apart free h =
    can_go_on (event_list o cs p i) at c s rest v (site_well o cs p i at c k apart) free h (site_fits o cs p i at c s rest v q k h)

-- it restores
pub site_restores : SiteRestores
site_restores (Some (Marks Cover)) [] p i at c v q k h = h.beside.core ∙ (all_restore Cover [] p i).1 c h.began h.now q h.came
site_restores (Some (Marks Cover)) (x ∷ xs) p i at c v q k h = h.beside.core ∙ (all_restore Cover (x ∷ xs) p i).0 c h.began h.now q h.came
site_restores (Some (Marks Count)) cs p i at c v q k h = h.beside.core ∙ (all_restore Count cs p i).0 c h.began h.now q h.came
site_restores (Some (Keeps n)) cs p i at c v q k h = h.beside.core ∙ (rings_restore n p i k.room.0).0 c h.began h.now q h.came
site_restores None cs p i at c v q k h = h.beside.core ∙ h.came.1.0

-- each step has a byte
pub size_some : (s : EventStep) → 0 < size s
size_some (CountUp true k) = omega arith
size_some (CountUp false k) = omega arith
size_some s = omega arith

pub drop_long : (j : ℕ) (ss : List EventStep) → (long (drop j ss) ≤ long ss) × (length (drop j ss) ≤ length ss)
drop_long zero [] = (omega arith, omega arith)
drop_long (suc j) [] = (omega arith, omega arith)
drop_long zero (s ∷ ss) = (omega arith, omega arith)
drop_long (suc j) (s ∷ ss) = let q = drop_long j ss in (omega (arith, q.0), omega (arith, q.1))

append_long : (front back : List EventStep) → long (front ++ back) ≡ long front + long back
append_long [] back = omega arith
append_long (s ∷ ss) back = let q = append_long ss back in omega (arith, q)

-- of the ends of a list the ones with more steps have more bytes
end_long : (j : ℕ) (front back : List EventStep) → (length (drop j (front ++ back)) ≤ length back → long (drop j (front ++ back)) ≤ long back)
    × (length back < length (drop j (front ++ back)) → long back < long (drop j (front ++ back)))
end_long j [] back = let q = drop_long j back in ((λ h. q.0), (λ h. absurd (omega (arith, h, q.1))))
end_long zero (s ∷ ss) back =
    let l = length-append ss back in let b = append_long ss back in let z = size_some s in
    ((λ h. absurd (omega (arith, h, l))), (λ h. omega (arith, b, z)))
end_long (suc j) (s ∷ ss) back = end_long j ss back

pub le_false : (n m : ℕ) → m < n → nat_le n m ≡ false
le_false n m h = grind (arith, nat_tests)

-- so whether the step that marks is behind is told by the address
behind_mark : (b : Base) (cs : List Comparison) (p i at rip : ℕ) (rest : List EventStep) (j : ℕ) → rest ≡ drop j (saving_thread_event b cs p i).steps → rip + long rest ≡ at + (12 + checking_len cs + marking_len b + 11)
    → nat_le (length rest) 3 ≡ nat_le (at + (12 + checking_len cs + marking_len b)) rip
behind_mark b cs p i at rip rest j e here =
    let back = FromAl ∷ FromAh ∷ Load 0 ∷ [] in
    let front = Store 0 ∷ IntoAh ∷ IntoAl ∷ (checks cs ++ (marking_step b true 1 ∷ [])) in
    let all : front ++ back ≡ (saving_thread_event b cs p i).steps = ap (λ (z : List EventStep). Store 0 ∷ IntoAh ∷ IntoAl ∷ z) (append_assoc (checks cs) (marking_step b true 1 ∷ []) back) in
    let e' : rest ≡ drop j (front ++ back) = e ∙ ap (drop j) (sym all) in
    let q = end_long j front back in
    elim (cases_lt 3 (length rest)) [
      | inl more ↦ (let z = q.1 (let y = ap length e' in omega (arith, more, y)) in let y = ap long e' in le_false (length rest) 3 more ∙ sym (le_false _ rip (omega (arith, here, y, z))))
      | inr few ↦ (let z = q.0 (let y = ap length e' in omega (arith, few, y)) in let y = ap long e' in behind (length rest) 3 few ∙ sym (behind _ rip (omega (arith, here, y, z))))
    ]

saving_marked : (b : Base) (cs : List Comparison) (p i at : ℕ) (c : Core) (rest : List EventStep) (v : Machine) → IsProcessorCore c → AreComparisons cs
    → (h : IsIn (saving_thread_event b cs p i) at c rest v) → h.now.marked ≡ (all_hold cs c.regs && nat_le (at + (12 + checking_len cs + marking_len b)) v.rip)
saving_marked b cs p i at c rest v q are h =
    let l = saving_thread_event b cs p i in
    let e = ends_with l.uses 0 l.steps rest (started c h.began) h.now h.came in
    let r = h.rip in
    let n = saving_long b cs p i in
    marks_where_met b cs p i c h.began rest h.now q are h.came ∙ ap (λ z. all_hold cs c.regs && z) (behind_mark b cs p i at v.rip rest e.0 e.1 (omega (arith, r, n)))

-- it has marked where its address and the condition say so
pub site_marks : SiteMarks
site_marks Cover [] p i at c rest v q k h = by_way h.came
  where
    by_way : Reaches (cover_event p i).uses 0 (cover_event p i).steps rest (started c h.began) h.now → h.now.marked ≡ nat_le (at + 8) v.rip
    by_way (inl g) = g.1.1 ∙ sym (le_false (at + 8) v.rip (let r = h.rip in let e = ap long g.0 in omega (arith, r, e)))
    by_way (inr g) = g.2.1.1 ∙ sym (behind (at + 8) v.rip (let r = h.rip in let e = ap long g.2.0 in omega (arith, r, e)))
site_marks Cover (x ∷ xs) p i at c rest v q k h = saving_marked Cover (x ∷ xs) p i at c rest v q k.few.asked h
site_marks Count cs p i at c rest v q k h = saving_marked Count cs p i at c rest v q k.few.asked h
