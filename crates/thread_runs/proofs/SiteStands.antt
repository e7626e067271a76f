-- A site's event in a sound image: where its code and its data lie, and that a thread that comes to its code is in it.
use Rattle.std.proofs.Common.{◌≡◌, ◌⊎◌, inl, inr, ℕ, zero, suc, ◌+◌, ◌*◌, ◌^◌, ◌<◌, ◌≤◌, Bool, true, false, not, ◌||◌, cond, eqb, List, [], ◌∷◌, ◌++◌, length, drop, Option, Some, None, refl, sym, ap, ◌∙◌, subst, arith}
use Rattle.std.specs.Prelude.{Contains}
use Rattle.std.specs.Option.{is_some}
use Rattle.std.proofs.lemmas.Bool.{and_parts, or_from, eqb-true, true≢false, false≢true, not-true, false_from_ne_true}
use Rattle.pun_base.specs.Memory.{Bytes}
use Rattle.pun_base.specs.declared.action.Base.{Base}
use Rattle.pun_base.specs.declared.action.Base.TheVariants.{Cover, Count}
use Rattle.pun_base.specs.declared.action.Comparison.{Comparison}
use Rattle.cpu_state.specs.declared.state.Core.{Core}
use Rattle.cpu_state.specs.Bytes.{advanced, avoids, lacking}
use Rattle.cpu_state.specs.Processor.{IsProcessorCore}
use Rattle.insn_form.specs.Machine.{Machine}
use Rattle.relocate_insn.proofs.FixedCode.{SameCode}
use Rattle.start_entries.specs.Standing.{AreEntries}
use Rattle.trampoline.specs.EventLists.{mark_at, mark_len, marked_datum, marking_step}
use Rattle.event_steps.specs.declared.step.EventStep.{EventStep}
use Rattle.event_steps.specs.declared.step.EventStep.TheVariants.{FromAl, FromAh, Load}
use Rattle.event_steps.specs.EventSteps.{long}
use Rattle.event_steps.specs.DoneSteps.{is_one_of, is_in, AreApart, AreFree}
use Rattle.event_steps.proofs.ByteRanges.{range_first, range_rest}
use Rattle.thread_runs.specs.ThreadCode.{Kind, Marks, Keeps, position_at, slot_at, is_saving, event_len, slot, flag_slot, saved_from, saved_len}
use Rattle.thread_runs.specs.ThreadLists.{eight_below, checks, thread_ring_list}
use Rattle.thread_runs.specs.Guest.{Thread, machine_of}
use Rattle.thread_runs.specs.Threading.Part.{Save, Saved}
use Rattle.thread_runs.specs.Threading.{ThreadSite, Threading, is_new, is_keeping, work_at, part_to, saves, is_code_of, IsThreadSound}
use Rattle.thread_runs.specs.Relation.{AtEnds, IsAmid, AtEvent}
use Rattle.thread_runs.specs.SiteEvents.{event_list, IsRoomy, IsPlaced, IsInSite, SiteComesIn, SiteRestores}
use Rattle.thread_runs.specs.StepLaws.{WorkLong}
use Rattle.thread_runs.proofs.SavedBytes.{flags_then_rax, saved_two, rax_apart}
use Rattle.thread_runs.proofs.LoneEvents.{slots_free}
use Rattle.thread_runs.proofs.ThreadPlaces.{longer, in_code, part_is, part_true, part_only}
use Rattle.thread_runs.proofs.StandingCode.{event_stands, mark_new, ring_new, one_in}
use Rattle.thread_runs.proofs.SiteEventSteps.{are_lists}
use Rattle.thread_runs.proofs.SiteEventsGoOn.{size_some, drop_long, in_front, no_step}
use Rattle.thread_runs.proofs.WatchedRelation.{HasRoom, HasRing}

-- what a range avoids isn't one of it
pub not_of : (set : ℕ → Bool) (a n x : ℕ) → avoids set a n ≡ true → is_one_of a n x ≡ true → set x ≡ false
not_of set a zero x h e = absurd (false≢true e)
not_of set a (suc n) x h e =
    let q = and_parts (not (set a)) (avoids set (advanced a 1) n) h in
    by_test (eqb x a) refl (λ k. not_of set (advanced a 1) n x q.1 k) e
  where
    by_test : (b : Bool) → eqb x a ≡ b → (is_one_of (advanced a 1) n x ≡ true → set x ≡ false) → (b || is_one_of (advanced a 1) n x) ≡ true → set x ≡ false
    by_test true k go j = ap set (eqb-true x a k) ∙ not-true (set a) (and_parts (not (set a)) (avoids set (advanced a 1) n) h).0
    by_test false k go j = go j

-- an event of more than one step saves rax
two_save : (o : Option Kind) (cs : List Comparison) (p i : ℕ) → 1 < length (event_list o cs p i).steps → is_saving o cs ≡ true
two_save (Some (Marks Cover)) [] p i h = absurd (omega (arith, h))
two_save (Some (Marks Cover)) (c ∷ cs) p i h = refl
two_save (Some (Marks Count)) cs p i h = refl
two_save (Some (Keeps n)) cs p i h = refl
two_save None cs p i h = absurd (omega (arith, h))

-- it saves from its first byte on, and one that doesn't save nowhere
save_some : (o : Option Kind) (cs : List Comparison) → is_saving o cs ≡ true → 0 < part_to Save o cs
save_some (Some (Marks Cover)) [] h = absurd (false≢true h)
save_some (Some (Marks Cover)) (c ∷ cs) h = omega arith
save_some (Some (Marks Count)) cs h = omega arith
save_some (Some (Keeps n)) cs h = omega arith
save_some None cs h = absurd (false≢true h)

pub save_none : (o : Option Kind) (cs : List Comparison) → is_saving o cs ≡ false → part_to Save o cs ≡ 0
save_none (Some (Marks Cover)) [] h = refl
save_none (Some (Marks Cover)) (c ∷ cs) h = absurd (true≢false h)
save_none (Some (Marks Count)) cs h = absurd (true≢false h)
save_none (Some (Keeps n)) cs h = absurd (true≢false h)
save_none None cs h = refl

-- how many steps an event has
checks_many : (cs : List Comparison) (back : List EventStep) → length (checks cs ++ back) ≡ 2 * length cs + length back
checks_many [] back = omega arith
checks_many (c ∷ cs) back = let z = checks_many cs back in omega (arith, z)

pub steps_few : (o : Option Kind) (cs : List Comparison) (p i : ℕ) → length (event_list o cs p i).steps ≤ 7 + 2 * length cs + cond (is_keeping o) 5 0
steps_few (Some (Marks Cover)) [] p i = omega arith
steps_few (Some (Marks Cover)) (c ∷ cs) p i = let z = checks_many (c ∷ cs) (marking_step Cover true 1 ∷ FromAl ∷ FromAh ∷ Load 0 ∷ []) in omega (arith, z)
steps_few (Some (Marks Count)) cs p i = let z = checks_many cs (marking_step Count true 1 ∷ FromAl ∷ FromAh ∷ Load 0 ∷ []) in omega (arith, z)
steps_few (Some (Keeps n)) cs p i = omega arith
steps_few None cs p i = omega arith

-- a thread in front of some steps of an event stands in it, and behind its first step there is one more only if it saves rax
module _ (o : Option Kind) (cs : List Comparison) (p i at : ℕ) (c : Core) where
  pub front_here : (s : EventStep) (rest : List EventStep) (v : Machine) → IsInSite o cs p i at c (s ∷ rest) v → (at ≤ v.rip) × (v.rip < at + event_len o cs)
  front_here s rest v h =
      let f = in_front o cs p i at c (s ∷ rest) v h in
      let d = drop_long f.passed (event_list o cs p i).steps in
      let l = (are_lists o cs p i).len in
      let e = ap long f.left in
      let z = f.here in
      let y = size_some s in
      let d0 = d.0 in
      (omega (arith, d0, l, e, z), omega (arith, z, y))

  pub front_saves : (s t : EventStep) (rest ss : List EventStep) (k : ℕ) (v : Machine) → IsInSite o cs p i at c (s ∷ rest) v → t ∷ ss ≡ drop k rest → is_saving o cs ≡ true
  front_saves s t rest ss k v h e =
      let f = in_front o cs p i at c (s ∷ rest) v h in
      let d = (drop_long f.passed (event_list o cs p i).steps).1 in
      let g = (drop_long k rest).1 in
      let a = ap length f.left in
      let b = ap length e in
      two_save o cs p i (omega (arith, d, g, a, b))

module _ (r : Threading) (A : AreEntries r.original r.listed) (S : IsThreadSound r) (W : WorkLong) where
  -- its code and what it marks or fills lie low
  pub site_placed : (s : ThreadSite) → Contains r.sites s → (o : Option Kind) → s.event ≡ o → IsPlaced o s.when r.private s.number s.place
  site_placed s h o e =
      let K = S.sites s h in
      let more = longer r A S W s h in
      let low = K.low in
      let len = ap (λ z. event_len z s.when) e in
      record { few = K.few; below = omega (arith, low, more, len); room = room o e }
    where
      room : (o : Option Kind) → s.event ≡ o → IsRoomy o r.private s.number
      room (Some (Marks b)) e = S.low s h b e
      room (Some (Keeps n)) e = let q = S.ring n (S.rings s h (Keeps n) e) in (q.size, q.low, q.numbers s h (ap is_some e))
      room None e = tt

  module _ (s : ThreadSite) (h : Contains r.sites s) (c : Core) where
    -- what is new is none of the saved bytes
    mark_apart : (b : Base) → s.event ≡ Some (Marks b) → avoids (is_new r) (slot c) 8 ≡ true → AreApart (eight_below 136 ∷ marked_datum b r.private s.number ∷ []) c
    mark_apart b e free = (
      (λ x k. or_from (is_one_of (mark_at b r.private s.number) (mark_len b) x) false (false_from_ne_true _ (λ y.
          let low = S.low s h b e in
          let q = one_in r A S (mark_at b r.private s.number) (mark_len b) x (omega (arith, low)) y in
          true≢false (sym (mark_new r A S s h b e x q.0 q.1) ∙ not_of (is_new r) (slot c) 8 x free k))) refl),
      ((λ x k. refl), tt),
    )

    ring_apart : (n : ℕ) → r.ring ≡ Some n → avoids (is_new r) (flag_slot c) 16 ≡ true → AreApart (thread_ring_list n r.private s.number).uses c
    ring_apart n e free = (
      (λ x k. or_from (is_one_of (flag_slot c) 8 x) _ (rax_apart c x k) (shared_out x (range_rest (flag_slot c) 8 8 x (omega arith) (ap (λ z. is_one_of z 8 x) (flags_then_rax c) ∙ k)))),
      (
        (λ x k. shared_out x (range_first (flag_slot c) 8 8 x k)),
        (
          (λ x k. or_from (is_one_of (r.private + 68) (4 * n) x) false (false_from_ne_true _ (λ y.
              let a = one_in r A S (r.private + 64) 4 x (omega (arith, low)) k in let z = one_in r A S (r.private + 68) (4 * n) x (omega (arith, low)) y in omega (arith, a.1, z.0))) refl),
          ((λ x k. refl), tt),
        ),
      ),
    )
      where
        low : r.private + 68 + 4 * n ≤ 0x7FFF0000
        low = (S.ring n e).low

        shared_out : (x : ℕ) → is_one_of (flag_slot c) 16 x ≡ true → (is_one_of (r.private + 64) 4 x || (is_one_of (r.private + 68) (4 * n) x || false)) ≡ false
        shared_out x k = or_from (is_one_of (r.private + 64) 4 x) _
            (false_from_ne_true _ (λ y. let q = one_in r A S (r.private + 64) 4 x (omega (arith, low)) y in true≢false (sym (ring_new r A S n e x (omega (arith, q.0)) (omega (arith, q.1))) ∙ not_of (is_new r) (flag_slot c) 16 x free k)))
            (or_from (is_one_of (r.private + 68) (4 * n) x) false
            (false_from_ne_true _ (λ y. let q = one_in r A S (r.private + 68) (4 * n) x (omega (arith, low)) y in true≢false (sym (ring_new r A S n e x (omega (arith, q.0)) (omega (arith, q.1))) ∙ not_of (is_new r) (flag_slot c) 16 x free k))) refl)

    -- so no two of the event's data share a byte
    pub site_apart : (o : Option Kind) → s.event ≡ o → (is_saving o s.when ≡ true → avoids (is_new r) (saved_from r.ring c) (saved_len r.ring) ≡ true) → AreApart (event_list o s.when r.private s.number).uses c
    site_apart o e free = by_event o s.when e free
      where
        bare : {o : Option ℕ} → r.ring ≡ o → avoids (is_new r) (saved_from r.ring c) (saved_len r.ring) ≡ true → avoids (is_new r) (saved_from o c) (saved_len o) ≡ true
        bare k f = ap (λ z. avoids (is_new r) (saved_from z c) (saved_len z)) (sym k) ∙ f

        by_event : (o : Option Kind) (cs : List Comparison) → s.event ≡ o → (is_saving o cs ≡ true → avoids (is_new r) (saved_from r.ring c) (saved_len r.ring) ≡ true) → AreApart (event_list o cs r.private s.number).uses c
        by_event None cs e f = tt
        by_event (Some (Keeps n)) cs e f = let k = S.rings s h (Keeps n) e in ring_apart n k (bare k (f refl))
        by_event (Some (Marks Cover)) [] e f = ((λ x k. refl), tt)
        by_event (Some (Marks Cover)) (d ∷ ds) e f = mark_apart Cover e (bare (S.rings s h (Marks Cover) e) (f refl))
        by_event (Some (Marks Count)) cs e f = mark_apart Count e (bare (S.rings s h (Marks Count) e) (f refl))

    -- each can be written, and each number read
    pub site_free : (m : Bytes) → ((b : Base) → s.event ≡ Some (Marks b) → HasRoom m (mark_at b r.private s.number) (mark_len b)) → ((n : ℕ) → r.ring ≡ Some n → HasRing r n m)
        → (is_saving s.event s.when ≡ true → lacking 4 m (saved_from r.ring c) (saved_len r.ring) ≡ None) → (is_saving s.event s.when ≡ true → lacking 2 m (saved_from r.ring c) (saved_len r.ring) ≡ None)
        → AreFree (event_list s.event s.when r.private s.number).uses c m
    site_free m room rings read written = by_event s.event s.when refl read written
      where
        bare : (q : ℕ) {o : Option ℕ} → r.ring ≡ o → lacking q m (saved_from r.ring c) (saved_len r.ring) ≡ None → lacking q m (saved_from o c) (saved_len o) ≡ None
        bare q k f = ap (λ z. lacking q m (saved_from z c) (saved_len z)) (sym k) ∙ f

        marks : (b : Base) → s.event ≡ Some (Marks b) → lacking 4 m (saved_from r.ring c) (saved_len r.ring) ≡ None → lacking 2 m (saved_from r.ring c) (saved_len r.ring) ≡ None → AreFree (eight_below 136 ∷ marked_datum b r.private s.number ∷ []) c m
        marks b e f g = let k = S.rings s h (Marks b) e in let z = room b e in ((λ t. bare 4 k f), bare 2 k g, ((λ t. z.read), z.written, tt))

        keeps : (n : ℕ) → r.ring ≡ Some n → lacking 4 m (flag_slot c) 16 ≡ None → lacking 2 m (flag_slot c) 16 ≡ None → AreFree (thread_ring_list n r.private s.number).uses c m
        keeps n k f g =
            let z = rings n k in
            let a = saved_two 4 m c f in
            let b = saved_two 2 m c g in
            let low = (S.ring n k).low in (
              (λ t. a.1),
              b.1,
              ((λ t. a.0), b.0, ((λ t. z.position.read), z.position.written, ((λ t. absurd (false≢true t)), slots_free r.private n m (omega (arith, low)) (λ j l. (z.slots j l).written), tt))),
            )

        by_event : (o : Option Kind) (cs : List Comparison) → s.event ≡ o → (is_saving o cs ≡ true → lacking 4 m (saved_from r.ring c) (saved_len r.ring) ≡ None) → (is_saving o cs ≡ true → lacking 2 m (saved_from r.ring c) (saved_len r.ring) ≡ None)
            → AreFree (event_list o cs r.private s.number).uses c m
        by_event None cs e f g = tt
        by_event (Some (Keeps n)) cs e f g = let k = S.rings s h (Keeps n) e in keeps n k (bare 4 k (f refl)) (bare 2 k (g refl))
        by_event (Some (Marks Cover)) [] e f g = let z = room Cover e in ((λ t. z.read), z.written, tt)
        by_event (Some (Marks Cover)) (d ∷ ds) e f g = marks Cover e (f refl) (g refl)
        by_event (Some (Marks Count)) cs e f g = marks Count e (f refl) (g refl)

    -- a thread that comes to its code is in front of all steps
    pub site_comes : SiteComesIn → (o : Option Kind) → s.event ≡ o → (v : Machine) → SameCode r.patched v.mem → v.rip ≡ s.place → v.core ≡ c → IsInSite o s.when r.private s.number s.place c (event_list o s.when r.private s.number).steps v
    site_comes comes o e v code here core = subst (λ (z : Core). IsInSite o s.when r.private s.number s.place z (event_list o s.when r.private s.number).steps v) core
        (comes o s.when r.private s.number s.place v here (event_stands r A S s h o e v.mem code))

  -- ---- a thread in the relation at a site's event

  module _ (m : Bytes) (now projected : Thread) (q : AtEvent r m now projected) where
    -- its address is in the site's code
    pub stands_code : is_code_of r q.site (S.sites q.site q.listed) now.rip
    stands_code = let h = q.here in in_code r A S W q.site q.listed now.rip (from q.stands) (omega (arith, h))
      where
        at : (q.rest ≡ (event_list q.site.event q.site.when r.private q.site.number).steps) ⊎ (q.rest ≡ []) → q.site.place ≤ now.rip
        at (inl e) = let l = (are_lists q.site.event q.site.when r.private q.site.number).len in let z = ap long e in let h = q.here in omega (arith, l, z, h)
        at (inr e) = let z = ap long e in let h = q.here in omega (arith, z, h)

        from : AtEnds r q.site q.rest now projected ⊎ IsAmid r m q.site q.rest now projected → q.site.place ≤ now.rip
        from (inl e) = at e.whole
        from (inr e) = let z = (part_is Saved now.rip q.site e.saved).0 in omega (arith, z)

    -- in front of no step it stands where the relocated code begins, with the registers and flags of its projection
    pub stands_done : SiteRestores → IsProcessorCore projected.core → q.rest ≡ [] → (now.rip ≡ work_at q.site) × (now.core ≡ projected.core)
    stands_done restores p e = ((let h = q.here in let z = ap long e in omega (arith, h, z)), by_way q.stands)
      where
        by_way : AtEnds r q.site q.rest now projected ⊎ IsAmid r m q.site q.rest now projected → now.core ≡ projected.core
        by_way (inl k) = k.core
        by_way (inr k) = restores q.site.event q.site.when r.private q.site.number q.site.place projected.core (machine_of m now) p (site_placed q.site q.listed q.site.event refl)
            (subst (λ (z : List EventStep). IsInSite q.site.event q.site.when r.private q.site.number q.site.place projected.core z (machine_of m now)) e k.is)

    -- in front of steps it is in the event, and of the saved bytes none is new
    pub stands_in : SiteComesIn → SameCode r.patched m → (s : EventStep) (rest : List EventStep) → q.rest ≡ s ∷ rest
        → IsInSite q.site.event q.site.when r.private q.site.number q.site.place projected.core (s ∷ rest) (machine_of m now)
    stands_in comes code s rest e = subst (λ (z : List EventStep). IsInSite q.site.event q.site.when r.private q.site.number q.site.place projected.core z (machine_of m now)) e (by_way q.stands)
      where
        by_way : AtEnds r q.site q.rest now projected ⊎ IsAmid r m q.site q.rest now projected → IsInSite q.site.event q.site.when r.private q.site.number q.site.place projected.core q.rest (machine_of m now)
        by_way (inr k) = k.is
        by_way (inl k) = elim k.whole [
          | inl all ↦ subst (λ (z : List EventStep). IsInSite q.site.event q.site.when r.private q.site.number q.site.place projected.core z (machine_of m now)) (sym all)
              (site_comes q.site q.listed projected.core comes q.site.event refl (machine_of m now) code
              (let h = q.here in let l = (are_lists q.site.event q.site.when r.private q.site.number).len in let z = ap long all in omega (arith, h, l, z)) k.core)
          | inr none ↦ absurd (no_step s rest (sym e ∙ none))
        ]

    pub stands_free : (s : EventStep) (rest : List EventStep) → q.rest ≡ s ∷ rest → (saves r now.rip ≡ true → avoids (is_new r) (saved_from r.ring now.core) (saved_len r.ring) ≡ true)
        → is_saving q.site.event q.site.when ≡ true → avoids (is_new r) (saved_from r.ring projected.core) (saved_len r.ring) ≡ true
    stands_free s rest e avoided saving = by_way q.stands
      where
        by_way : AtEnds r q.site q.rest now projected ⊎ IsAmid r m q.site q.rest now projected → avoids (is_new r) (saved_from r.ring projected.core) (saved_len r.ring) ≡ true
        by_way (inr k) = k.old
        by_way (inl k) = elim k.whole [
          | inl all ↦ (let h = q.here in let l = (are_lists q.site.event q.site.when r.private q.site.number).len in let z = ap long all in let y = save_some q.site.event q.site.when saving in
              let here : now.rip ≡ q.site.place = omega (arith, h, l, z) in
              let there : saves r now.rip ≡ true = part_only r A S W q.site q.listed now.rip Save stands_code ∙ part_true Save now.rip q.site (omega (arith, here)) (omega (arith, here, y)) in
              ap (λ (z : Core). avoids (is_new r) (saved_from r.ring z) (saved_len r.ring)) (sym k.core) ∙ avoided there)
          | inr none ↦ absurd (no_step s rest (sym e ∙ none))
        ]
