-- One step of the watched guest keeps the relation, which shows what the theorem says and holds at the start.
use Rattle.std.proofs.Common.{◌≡◌, ◌⊎◌, inl, inr, ℕ, zero, suc, ◌+◌, ◌*◌, ◌^◌, ◌<◌, ◌≤◌, Bool, true, false, not, ◌&&◌, ◌||◌, cond, eqb, leb, ltb, List, [], ◌∷◌, map, Option, Some, None, refl, sym, ap, ap₂, ◌∙◌, subst, arith}
use Rattle.std.specs.Prelude.{Contains, slice_get, slice_set, count_by}
use Rattle.std.specs.Option.{is_some}
use Rattle.std.specs.List.{list_any}
use Rattle.std.proofs.lemmas.Bool.{and_from, or_parts, not_from_false, cond-true, cond-false, ne_eqb, true≢false, false≢true}
use Rattle.pun_base.specs.Memory.{Cell, Bytes, or_else, joined}
use Rattle.pun_base.specs.declared.action.Base.{Base}
use Rattle.pun_base.specs.declared.action.Base.TheVariants.{Cover, Count}
use Rattle.cpu_state.specs.Bytes.{allows, avoids, byte_of, lacking, number_at}
use Rattle.insn_form.specs.Touched.{perms_at}
use Rattle.insn_form.specs.Processor.{IsProcessorState}
use Rattle.relocate_insn.proofs.FixedCode.{SameCode, next_address}
use Rattle.start_entries.specs.declared.entry.StartEntry.{StartEntry}
use Rattle.start_entries.specs.Standing.{AreEntries}
use Rattle.image_runs.specs.Listed.{is_start, is_listed_byte}
use Rattle.thread_runs.specs.Guest.{Thread, Guest, machine_of, thread_of}
use Rattle.thread_runs.specs.ThreadCode.{Marks, Keeps, position_at, slot_at, ring_len}
use Rattle.trampoline.specs.EventLists.{mark_at, mark_len}
use Rattle.thread_runs.specs.Threading.{ThreadSite, Threading, next_of, work_at, is_new, is_hidden, is_site, is_kept, relocated_at, is_code_of, IsThreadSound}
use Rattle.thread_runs.specs.Watching.{Watched, Claim, Watch, watch_of, projection, stale_after, watched_after, Watches}
use Rattle.thread_runs.specs.Premises.{StandAtStarts, IsProper}
use Rattle.thread_runs.specs.Relation.{Outside, AtSecond, AtEvent, BehindEffect, IsBeside}
use Rattle.thread_runs.specs.Theorem.{AreStartGuests, is_recorded, has_marked, AreCounted, AreCovered}
use Rattle.thread_runs.specs.Ring.{AreKept}
use Rattle.thread_runs.specs.GuestDeliveries.{GuestItem}
use Rattle.thread_runs.specs.WatchedDeliveries.{WatchWith, made_after}
use Rattle.thread_runs.specs.TheoremWithDeliveries.{IsGuestFollowedWith}
use Rattle.thread_runs.specs.StepLaws.{StepLaws}
use Rattle.patch_report.proofs.ListPlaces.{any_at, place_of, some_is, all_in, all_from, count_cons}
use Rattle.sound_images.proofs.RelatedStates.{allowed_some}
use Rattle.sound_images.proofs.StartPairs.{held_first}
use Rattle.thread_runs.proofs.ListUpdates.{set_here}
use Rattle.thread_runs.proofs.ThreadPlaces.{any_none, effect_kept, effect_there, kept_not, site_here, work_in, start_old, code_unlisted, ring_in, old_unclaimed}
use Rattle.thread_runs.proofs.KeptRelation.{kept_by}
use Rattle.thread_runs.proofs.StandingCode.{fields_of, code_length, work_stands}
use Rattle.thread_runs.proofs.OutsideSteps.{made_kept, made_displaced, made_second, uncounted, start_uncounted}
use Rattle.event_steps.specs.declared.step.EventStep.{EventStep}
use Rattle.thread_runs.proofs.SiteStands.{stands_code, stands_done, stands_in, stands_free}
use Rattle.thread_runs.proofs.MadeEvents.{made_event}
use Rattle.thread_runs.proofs.RingLaw.{ring_shown, ring_after}
use Rattle.thread_runs.proofs.DisplacedSteps.{made_tail, reads_too, at_work, effect_told, made_effect}
use Rattle.thread_runs.proofs.WatchedRelation.{OnWay, Phase, ThreadKept, HasRoom, shown_after, Ground, Related, base_of, Made}

-- where each byte of a range has a permission, none of the range lacks it
held_none : (p : ℕ) (m : Bytes) (a n : ℕ) → a + n < 2 ^ 64 → ((x : ℕ) → a ≤ x → x < a + n → allows p (m x) ≡ true) → lacking p m a n ≡ None
held_none p m a zero l h = refl
held_none p m a (suc n) l h = cond-true (allows p (m a)) _ _ (h a (omega arith) (omega arith))
    ∙ ap (λ z. lacking p m z n) (next_address a 1 (omega arith)) ∙ held_none p m (a + 1) n (omega arith) (λ x i j. h x (omega arith) (omega arith))

-- bytes that are zeros spell the number 0
zero_number : (m : Bytes) (a n : ℕ) → a + n < 2 ^ 64 → ((x : ℕ) → a ≤ x → x < a + n → byte_of (m x) ≡ 0) → number_at m a n ≡ 0
zero_number m a zero l h = refl
zero_number m a (suc n) l h = ap₂ (λ x y. x + 256 * y) (h a (omega arith) (omega arith))
    (ap (λ z. number_at m z n) (next_address a 1 (omega arith)) ∙ zero_number m (a + 1) n (omega arith) (λ x i j. h x (omega arith) (omega arith)))

-- where no element passes a test, none is counted
count_none : {X : Type 0} (p : X → Bool) (xs : List X) → ((i : ℕ) (x : X) → slice_get xs i ≡ Some x → p x ≡ false) → count_by p xs ≡ 0
count_none p [] h = refl
count_none p (x ∷ xs) h =
    let b : ◌≡◌ {A = ℕ} (cond (p x) 1 0) 0 = cond-false (p x) 1 0 (h 0 x refl) in
    omega (arith, count_cons p x xs, b, count_none p xs (λ i y e. h (suc i) y e))

-- where some element passes, at least one is counted
count_some : {X : Type 0} (p : X → Bool) (xs : List X) → list_any p xs ≡ true → 0 < count_by p xs
count_some p [] h = absurd (false≢true h)
count_some p (x ∷ xs) h = by_first (p x) refl (count_some p xs)
  where
    by_first : (b : Bool) → p x ≡ b → (list_any p xs ≡ true → 0 < count_by p xs) → 0 < count_by p (x ∷ xs)
    by_first true e rest = let b : ◌≡◌ {A = ℕ} (cond (p x) 1 0) 1 = cond-true (p x) 1 0 e in omega (arith, count_cons p x xs, b)
    by_first false e rest = let k = rest (sym (ap (λ b. b || list_any p xs) e) ∙ h) in omega (arith, count_cons p x xs, k)

-- where none passes, none is counted
count_any : {X : Type 0} (p : X → Bool) (xs : List X) → list_any p xs ≡ false → count_by p xs ≡ 0
count_any p [] h = refl
count_any p (x ∷ xs) h =
    let q = or_parts (p x) (list_any p xs) h in
    let b : ◌≡◌ {A = ℕ} (cond (p x) 1 0) 0 = cond-false (p x) 1 0 q.0 in
    omega (arith, count_cons p x xs, b, count_any p xs q.1)

-- two counts show in one byte whether some element of either list passes
any_counted : {X Y : Type 0} (p : X → Bool) (xs : List X) (q : Y → Bool) (ys : List Y) → shown_after Cover (count_by p xs + count_by q ys) ≡ cond (list_any p xs || list_any q ys) 1 0
any_counted p xs q ys = by_tests (list_any p xs) (list_any q ys) refl refl
  where
    one : 0 < count_by p xs + count_by q ys → ◌≡◌ {A = ℕ} (cond (eqb (count_by p xs + count_by q ys) 0) 0 1) 1
    one h = cond-false (eqb (count_by p xs + count_by q ys) 0) 0 1 (ne_eqb (count_by p xs + count_by q ys) 0 (λ e. omega (arith, e, h)))

    by_tests : (b c : Bool) → list_any p xs ≡ b → list_any q ys ≡ c → ◌≡◌ {A = ℕ} (cond (eqb (count_by p xs + count_by q ys) 0) 0 1) (cond (b || c) 1 0)
    by_tests true c e f = one (omega (arith, count_some p xs e))
    by_tests false true e f = one (omega (arith, count_some q ys f))
    by_tests false false e f = let z : count_by p xs + count_by q ys ≡ 0 = omega (arith, count_any p xs e, count_any q ys f) in ap (λ n. cond (eqb n 0) 0 1) z

-- the number that one byte spells is the byte
one_byte : (m : Bytes) (a : ℕ) → byte_of (m a) ≡ number_at m a 1
one_byte m a = let z : number_at m a 1 ≡ byte_of (m a) + 256 * 0 = refl in omega (arith, z)

-- an element of a mapped list
map_back : {X Y : Type 0} (f : X → Y) (xs : List X) (k : ℕ) (y : Y) → slice_get (map f xs) k ≡ Some y → (x : X) × (slice_get xs k ≡ Some x) × (f x ≡ y)
map_back f [] k y e = absurd cc
map_back f (x ∷ xs) zero y e = (x, refl, some_is (f x) y e)
map_back f (x ∷ xs) (suc k) y e = map_back f xs k y e

-- at the start the projections of the watched guest are the guest's threads
map_back_all : (ts : List Thread) → map (λ (w : Watched). w.projected) (map (λ (t : Thread). record { now = t; projected = t }) ts) ≡ ts
map_back_all [] = refl
map_back_all (t ∷ ts) = ap (λ l. t ∷ l) (map_back_all ts)

module _ (r : Threading) (A : AreEntries r.original r.listed) (S : IsThreadSound r) (L : StepLaws) where
  -- a second jump stands at no new address
  second_old : (now projected : Thread) → (q : AtSecond r now projected) → is_new r now.rip ≡ false
  second_old now projected q = ap (is_new r) q.here ∙ q.jumps.old

  -- one step keeps the relation
  pub stepped : (a : Guest) (made : List GuestItem) (k : ℕ) (w v : Watch) → Related r S a made w → (m : Watches r k w v) → IsProper r k w v m → Related r S a (made_after r k m.one made) v
  stepped a made k w v R m P =
      subst (λ (z : Watch). Related r S a (made_after r k m.one made) z) (sym m.after) (by_phase kept.phase)
    where
      B : Ground r S R.end.mem w.stale w.mem m.one
      B = base_of r S a made w R k m.one m.there

      kept : ThreadKept r S w.mem m.one
      kept = R.each k m.one m.there

      one' : Watched
      one' = record { now = thread_of m.to; projected = projection r m.one w.mem m.to }

      stand : is_start r.listed (projection r m.one w.mem m.to).rip ≡ true
      stand = all_in (λ (t : Watched). is_start r.listed t.projected.rip ≡ true) (slice_set w.threads k (record { now = thread_of m.to; projected = projection r m.one w.mem m.to }))
          (record { now = thread_of m.to; projected = projection r m.one w.mem m.to })
          (subst (λ (z : Watch). StandAtStarts r z.threads) m.after P.stand)
          (k, set_here w.threads k m.one (record { now = thread_of m.to; projected = projection r m.one w.mem m.to }) m.there)

      done : (m' : Bytes) → Made r S (stale_after r w.stale m.one m.fields (machine_of w.mem m.one.now)) R.end.mem m' m.one w.mem m.to → Related r S a (made_after r k m.one made) (watched_after r k w m.one m.fields m.to)
      done m' M = kept_by r S a made w k m.one m.there m.fields m.to m.steps R m' P.apart
          (λ n e. ring_after r A S L.long n k w m.one m.fields m.to m.there (S.ring n e).size (R.rings n e) (M.ring n e)) stand M

      outside : Outside r m.one.now m.one.projected → (b : Bool) → is_site r m.one.now.rip ≡ b → Related r S a (made_after r k m.one made) (watched_after r k w m.one m.fields m.to)
      outside o true e = done R.end.mem (made_displaced r A S L R.end.mem w m.one m.fields m.to m.steps B (start_old r A S L.long m.one.now.rip o.start) o e)
      outside o false e =
          let is : is_kept r m.one.now.rip ≡ true = and_from (is_start r.listed m.one.now.rip) (not (is_site r m.one.now.rip)) o.start (not_from_false (is_site r m.one.now.rip) e) in
          let q = made_kept r A S L R.end.mem w m.one m.fields m.to m.steps B (start_old r A S L.long m.one.now.rip o.start) o is (P.quiet (effect_kept r A S L.long m.one.now.rip is)) P.fresh stand in
          done q.0 q.1

      event : (q : AtEvent r w.mem m.one.now m.one.projected) (rest : List EventStep) → q.rest ≡ rest → Related r S a (made_after r k m.one made) (watched_after r k w m.one m.fields m.to)
      event q [] e =
          let d = stands_done r A S L.long w.mem m.one.now m.one.projected q L.restores kept.processor e in
          let c = work_in r A S L.long q.site q.listed m.one.now.rip d.0 in
          let calm = kept_not r A S L.long q.site q.listed m.one.now.rip c in
          let eff = effect_there r A S L.long m.one.now.rip q.site calm (ap (relocated_at r.sites) d.0 ∙ site_here r A S L.long q.site q.listed) in
          let reads = reads_too r A S L q.site q.listed R.end.mem w m.one m.fields m.to m.steps B d.0 q.there d.1 q.world P.fresh in
          let work = at_work r A S L q.site q.listed R.end.mem w m.one B d.0 q.there d.1 q.world reads (P.quiet eff) in
          let T = effect_told r A S L q.site q.listed R.end.mem w m.one m.fields m.to m.steps B d.0 q.there work in
          let z = made_effect r A S L q.site q.listed R.end.mem w m.one m.fields m.to m.steps B d.0 q.there T stand in
          done z.0 z.1
      event q (s ∷ rest) e = done R.end.mem (made_event r A S L R.end.mem w m.one m.fields m.to m.steps B q.site q.listed s rest
          (stands_in r A S L.long w.mem m.one.now m.one.projected q L.comes R.other s rest e) (stands_free r A S L.long w.mem m.one.now m.one.projected q s rest e P.saved) q.there q.world)

      by_phase : Phase r S w.mem m.one.now m.one.projected → Related r S a (made_after r k m.one made) (watched_after r k w m.one m.fields m.to)
      by_phase (inl o) = outside o (is_site r m.one.now.rip) refl
      by_phase (inr (inl q)) = done R.end.mem (made_second r A S L R.end.mem w m.one m.fields m.to m.steps B (second_old m.one.now m.one.projected q) q)
      by_phase (inr (inr (inl q))) = event q q.rest refl
      by_phase (inr (inr (inr q))) = done R.end.mem (made_tail r A S L q.site q.listed R.end.mem w m.one m.fields m.to m.steps B q.tail q.more q.there q.world)

  -- what the relation shows. A thread on its way out is in the code: told in the original's memory, where the code stands
  pub way_inside : (m : Bytes) (now projected : Thread) → SameCode r.patched m → (q : OnWay r S m now projected) → is_code_of r q.site (S.sites q.site q.listed) now.rip
  way_inside m now projected c q =
      let W = work_stands r A S q.site q.listed (machine_of m now) c in
      let i = L.tail_inside (fields_of r A S q.site q.listed) q.site.entry.addr (next_of q.site) (work_at q.site) q.tail projected.core projected.rip (machine_of m now) q.more W q.there in
      (omega (arith, i.0), omega (arith, i.1, code_length r A S q.site q.listed))

  -- a thread at a listed start, whatever its phase, is its projection
  pub phase_outside : (m : Bytes) (now projected : Thread) → SameCode r.patched m → Phase r S m now projected → is_start r.listed now.rip ≡ true → now ≡ projected
  phase_outside m now projected c (inl o) h = o.same
  phase_outside m now projected c (inr (inl q)) h = absurd (true≢false (sym h ∙ ap (is_start r.listed) q.here ∙ q.jumps.unlisted))
  phase_outside m now projected c (inr (inr (inl q))) h = absurd (true≢false (sym h ∙ code_unlisted r A S L.long q.site q.listed now.rip (stands_code r A S L.long m now projected q)))
  phase_outside m now projected c (inr (inr (inr q))) h = absurd (true≢false (sym h ∙ code_unlisted r A S L.long q.site q.listed now.rip (way_inside m now projected c q)))

  -- where a thread stands beside its projection
  beside_at : (m : Bytes) (now projected : Thread) → Phase r S m now projected → Outside r now projected ⊎ AtSecond r now projected ⊎ AtEvent r m now projected ⊎ BehindEffect r m now projected
  beside_at m now projected (inl o) = inl o
  beside_at m now projected (inr (inl q)) = inr (inl q)
  beside_at m now projected (inr (inr (inl e))) = inr (inr (inl e))
  beside_at m now projected (inr (inr (inr q))) = inr (inr (inr (record {
    site = q.site;
    listed = q.listed;
    whole = S.sites q.site q.listed;
    tail = q.tail;
    more = q.more;
    there = q.there;
    world = q.world;
  })))

  -- each thread of a related guest stands beside its projection
  beside : (m : Bytes) (one : Watched) → ThreadKept r S m one → IsBeside r m one
  beside m one K = record { processor = K.processor; words = K.words; start = K.start; place = beside_at m one.now one.projected K.phase }

  -- the relation shows that the guest is followed, that each counter has its number, and each byte that covers is 1 where its site was reached
  pub shown : (a : Guest) (x : WatchWith) → Related r S a x.made x.watch → IsGuestFollowedWith r a x × AreCounted r x.watch × AreCovered r x.watch × AreKept r x.watch
  shown a x R = let w = x.watch in (
    record {
      states = R.states;
      run = R.run;
      beside = record {
        threads = ap (λ (g : Guest). g.threads) R.last ∙ R.threads;
        memory = λ x h s. ap (λ (g : Guest). g.mem x) R.last ∙ R.alike.bytes x h s;
        permissions = λ x h. ap (λ (g : Guest). perms_at g.mem x) R.last ∙ R.alike.perms x h;
        outside = all_from (λ (t : Watched). is_start r.listed t.now.rip ≡ true → t.now ≡ t.projected) w.threads (λ t i. phase_outside w.mem t.now t.projected R.other (R.each i.0 t i.1).phase);
        each = all_from (λ (t : Watched). IsBeside r w.mem t) w.threads (λ t i. beside w.mem t (R.each i.0 t i.1));
        own = λ x e n. ap (λ (g : Guest). g.mem x) R.last ∙ R.own x e n;
        other = R.other;
        marks = λ s c b i. ((R.room s c b i).read, (R.room s c b i).written);
        ring = λ n e. (let h = R.ring_room n e in (h.position.read, h.position.written, λ j l. ((h.slots j l).read, (h.slots j l).written)));
      };
    },
    λ s c i. R.marks s c Count i,
    λ s c i. one_byte w.mem (mark_at Cover r.private s.number) ∙ R.marks s c Cover i
        ∙ any_counted (is_recorded s) w.log (has_marked s) w.threads,
    λ n e. ring_shown r n w (S.ring n e).size (R.rings n e),
  )

  -- guests that start together are in the relation
  pub started : (a b : Guest) → AreStartGuests r a b → StandAtStarts r (watch_of b).threads → Related r S a [] (watch_of b)
  started a b G stand = record {
    states = [];
    run = tt;
    end = a;
    last = refl;
    threads = sym G.threads ∙ sym (map_back_all b.threads);
    alike = record { bytes = λ x h s. same x h; perms = λ x h. ap (λ (o : Option Cell). perms_of o) (same x h) };
    own = λ x e w. at_a x ∙ held_first (r.original x) (G.further x) (allowed_some 1 (r.original x) e);
    other = λ x e w. at_b x ∙ held_first (r.patched x) (G.further x) (allowed_some 1 (r.patched x) e);
    room = λ s c d v. let low = S.low s c d v in record {
      read = held_none 4 b.mem (mark_at d r.private s.number) (mark_len d) (omega (arith, low)) (λ x i j. ap (allows 4) (zero_at s c d v x i j));
      written = held_none 2 b.mem (mark_at d r.private s.number) (mark_len d) (omega (arith, low)) (λ x i j. ap (allows 2) (zero_at s c d v x i j));
    };
    ring_room = λ n e. (let low = (S.ring n e).low in record {
      position = free_room n e (position_at r.private) (omega arith) (omega arith);
      slots = λ j l. free_room n e (slot_at r.private j) (omega arith) (omega (arith, l));
    });
    rings = λ n e. (let low = (S.ring n e).low in record {
      position = free_number n e (position_at r.private) (omega arith) (omega arith);
      own = λ k one i. (let q = map_back (λ (t : Thread). record { now = t; projected = t }) b.threads k one i in
          let s = all_in (λ (t : Watched). is_start r.listed t.projected.rip ≡ true) (watch_of b).threads one stand (k, i) in
          let h = subst (λ (z : Watched). is_start r.listed z.projected.rip ≡ true → is_start r.listed z.now.rip ≡ true) q.2 (λ y. y) s in
          sym (old_unclaimed r A S L.long one.now.rip (start_old r A S L.long one.now.rip h)));
      filled = λ i c h. absurd (no_claim i c h);
      slots = λ j l. free_number n e (slot_at r.private j) (omega arith) (omega (arith, l));
      sorted = tt;
      reducing = λ k one i s h v p. absurd (no_ring k one i s h n v 34 (omega arith) p);
      filling = λ k one i s h v p. absurd (no_ring k one i s h n v 37 (omega arith) p);
    });
    marks = λ s c d v. let low = S.low s c d v in
        let n = zero_number b.mem (mark_at d r.private s.number) (mark_len d) (omega (arith, low)) (λ x i j. ap byte_of (zero_at s c d v x i j)) in
        let k = count_none (has_marked s) (watch_of b).threads (λ i t e. unmarked s c i t e) in
        let z : count_by (is_recorded s) (watch_of b).log + count_by (has_marked s) (watch_of b).threads ≡ 0 = omega (arith, k) in
        n ∙ sym (ap (shown_after d) z ∙ shown_first d);
    each = λ k one e. let q = map_back (λ (t : Thread). record { now = t; projected = t }) b.threads k one e in
        let p = all_in (λ (t : Thread). IsProcessorState (machine_of a.mem t) × (t.rip ≡ r.entry)) a.threads q.0 G.each (k, ap (λ (l : List Thread). slice_get l k) (sym G.threads) ∙ q.1) in
        let s = all_in (λ (t : Watched). is_start r.listed t.projected.rip ≡ true) (watch_of b).threads one stand (k, e) in
        subst (λ (z : Watched). is_start r.listed z.projected.rip ≡ true → ThreadKept r S b.mem z) q.2
        (λ s. record { processor = p.0.core; words = p.0.world; start = s; phase = inl (record { same = refl; start = s }) }) s;
  }
    where
      perms_of : Option Cell → Option ℕ
      perms_of o = perms_at (λ y. o) 0

      at_a : (x : ℕ) → a.mem x ≡ joined r.original G.further x
      at_a x = ap (λ (m : Bytes). m x) G.original

      at_b : (x : ℕ) → b.mem x ≡ joined r.patched G.further x
      at_b x = ap (λ (m : Bytes). m x) G.patched

      images : (x : ℕ) → is_hidden r x ≡ false → r.original x ≡ r.patched x
      images x h = by_held (r.original x) refl
        where
          q : (is_listed_byte r.listed x ≡ false) × (is_new r x ≡ false)
          q = or_parts (is_listed_byte r.listed x) (is_new r x) h

          not_new : (o : Option Cell) → r.original x ≡ None → (is_some o && not (is_some (r.original x))) ≡ false → None ≡ o
          not_new None e f = refl
          not_new (Some d) e f = absurd (true≢false (sym (ap (λ (z : Option Cell). not (is_some z)) e) ∙ f))

          free : list_any (λ (s : ThreadSite). leb s.entry.addr x && ltb x (s.entry.addr + s.entry.len)) r.sites ≡ false
          free = any_none (λ (s : ThreadSite). leb s.entry.addr x && ltb x (s.entry.addr + s.entry.len)) r.sites (λ t c p.
              let i = place_of r.listed t.entry (S.sites t c).listed in
              true≢false (sym (any_at (λ (e : StartEntry). leb e.addr x && ltb x (e.addr + e.len)) r.listed i.0 t.entry i.1 p) ∙ q.0))

          by_held : (o : Option Cell) → r.original x ≡ o → r.original x ≡ r.patched x
          by_held None e = e ∙ not_new (r.patched x) e q.1
          by_held (Some d) e = sym (S.stays x (ap is_some e) free)

      same : (x : ℕ) → is_hidden r x ≡ false → a.mem x ≡ b.mem x
      same x h = at_a x ∙ ap (λ o. or_else o (G.further x)) (images x h) ∙ sym (at_b x)

      free_at : (n : ℕ) → r.ring ≡ Some n → (x : ℕ) → position_at r.private ≤ x → x < slot_at r.private n → b.mem x ≡ Some (record { byte = 0; perms = 6 })
      free_at n e x i j = let z = ((S.ring n e).zeros x i j).0 in at_b x ∙ held_first (r.patched x) (G.further x) (ap is_some z) ∙ z

      free_room : (n : ℕ) → r.ring ≡ Some n → (a : ℕ) → position_at r.private ≤ a → a + 4 ≤ slot_at r.private n → HasRoom b.mem a 4
      free_room n e a i j = let low = (S.ring n e).low in record {
        read = held_none 4 b.mem a 4 (omega (arith, low, j)) (λ x k l. ap (allows 4) (free_at n e x (omega (arith, i, k)) (omega (arith, j, l))));
        written = held_none 2 b.mem a 4 (omega (arith, low, j)) (λ x k l. ap (allows 2) (free_at n e x (omega (arith, i, k)) (omega (arith, j, l))));
      }

      free_number : (n : ℕ) → r.ring ≡ Some n → (a : ℕ) → position_at r.private ≤ a → a + 4 ≤ slot_at r.private n → number_at b.mem a 4 ≡ 0
      free_number n e a i j = let low = (S.ring n e).low in zero_number b.mem a 4 (omega (arith, low, j)) (λ x k l. ap byte_of (free_at n e x (omega (arith, i, k)) (omega (arith, j, l))))

      no_claim : (i : ℕ) (c : Claim) → slice_get (watch_of b).claims i ≡ Some c → ⊥
      no_claim i c h = absurd cc

      no_ring : (k : ℕ) (one : Watched) → slice_get (watch_of b).threads k ≡ Some one → (s : ThreadSite) → Contains r.sites s → (n : ℕ) → s.event ≡ Some (Keeps n) → (m : ℕ) → m ≤ ring_len → one.now.rip ≡ s.place + m → ⊥
      no_ring k one i s h n v m l p =
          let q = map_back (λ (t : Thread). record { now = t; projected = t }) b.threads k one i in
          let z = all_in (λ (t : Watched). is_start r.listed t.projected.rip ≡ true) (watch_of b).threads one stand (k, i) in
          let g = subst (λ (y : Watched). is_start r.listed y.projected.rip ≡ true → is_start r.listed y.now.rip ≡ true) q.2 (λ y. y) z in
          true≢false (sym g ∙ code_unlisted r A S L.long s h one.now.rip (ring_in r A S L.long s h n one.now.rip v (omega (arith, p)) (omega (arith, p, l))))

      shown_first : (d : Base) → shown_after d 0 ≡ 0
      shown_first Cover = refl
      shown_first Count = refl

      zero_at : (s : ThreadSite) → Contains r.sites s → (d : Base) → s.event ≡ Some (Marks d) → (x : ℕ) → mark_at d r.private s.number ≤ x → x < mark_at d r.private s.number + mark_len d → b.mem x ≡ Some (record { byte = 0; perms = 6 })
      zero_at s c d v x i j = let z = (S.marks s c d v x i j).0 in at_b x ∙ held_first (r.patched x) (G.further x) (ap is_some z) ∙ z

      unmarked : (s : ThreadSite) → Contains r.sites s → (i : ℕ) (t : Watched) → slice_get (watch_of b).threads i ≡ Some t → has_marked s t ≡ false
      unmarked s c i t e =
          let q = map_back (λ (t : Thread). record { now = t; projected = t }) b.threads i t e in
          let k = all_in (λ (t : Watched). is_start r.listed t.projected.rip ≡ true) (watch_of b).threads t stand (i, e) in
          uncounted s t.now.rip t.projected.core (start_uncounted r A S L t.now.rip s c (subst (λ (z : Watched). is_start r.listed z.projected.rip ≡ true → is_start r.listed z.now.rip ≡ true) q.2 (λ h. h) k))
