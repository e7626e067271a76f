-- A ring along steps: what is kept of it stays so, and shows what is said of it.
use Rattle.std.proofs.Common.{◌≡◌, ◌≢◌, ◌⊎◌, inl, inr, ℕ, ◌+◌, ◌%◌, ◌^◌, ◌<◌, ◌≤◌, Bool, true, false, ◌&&◌, ◌||◌, cond, eqb, leb, List, [], ◌∷◌, ◌++◌, length, Some, None, refl, sym, ap, ap₂, ◌∙◌, subst, arith}
use Rattle.std.specs.Prelude.{Contains, slice_get, slice_set}
use Rattle.std.specs.List.{AllByRecursion}
use Rattle.std.proofs.lemmas.Bool.{and_from, and_right, le-leb, lt-leb, or_left, or_right, eq-eqb, ne_eqb, eqb-true, cond-true, cond-false, cases_lt, cases_eq, true≢false}
use Rattle.std.proofs.lemmas.List.{append_assoc, append-nil, length-append}
use Rattle.std.proofs.lemmas.Nat.{mod_below}
use native.Mathlib.Nat.{mod-eq_of_lt}
use Rattle.length_decode.specs.Spelling.{Fields}
use Rattle.insn_form.specs.Operands.{reg, rax}
use Rattle.insn_form.specs.Machine.{Machine}
use Rattle.patch_report.proofs.ListPlaces.{any_at, place_of, some_is, all_in}
use Rattle.start_entries.specs.Standing.{AreEntries}
use Rattle.thread_runs.specs.Guest.{machine_of, thread_of}
use Rattle.thread_runs.specs.ThreadCode.{Keeps, ring_len, is_ring_length}
use Rattle.thread_runs.specs.Threading.Part.{Marked, Unfilled}
use Rattle.thread_runs.specs.Threading.{ThreadSite, Threading, is_keeping, part_from, part_to, is_part, claims_at, is_filling, is_unfilled, is_code_of, IsThreadSound}
use Rattle.thread_runs.specs.Watching.{Watched, EffectStep, Claim, Fill, Watch, is_by, last_claim, is_effect, projection, stale_after, logged, claims_of, claims_after, fills_after, watched_after}
use Rattle.thread_runs.specs.Ring.{claimed_by, ringing_at, kept_by, claimed_at, or_later, last_fill, number_shown, shown_by, is_filled, NoneOvertaken, IsBetween, IsRing}
use Rattle.thread_runs.specs.StepLaws.{WorkLong}
use Rattle.thread_runs.proofs.ListUpdates.{set_here, set_away}
use Rattle.thread_runs.proofs.ThreadPlaces.{part_true, part_low, part_high, part_only, ring_in, ring_site, claiming_only, claiming_here, filling_only, claimed_here}
use Rattle.thread_runs.proofs.WatchedRelation.{slot_in, RingKept, Rests, InsideRing, Claims, Reduces, Fills, RingMoves}
use Rattle.thread_runs.proofs.RingLists.{get_more, get_end, get_either, get_below, get_some, get_none, any_more, claimed_more, kept_more, last_own, last_other, last_more, fill_below, shown_more, sorted_wider, sorted_more, last_is, none_overtaken, none_there}

-- what is kept of a ring of the lengths that threads can share shows what is said of it
pub ring_shown : (r : Threading) (n : ℕ) (w : Watch) → is_ring_length n ≡ true → RingKept r n w → IsRing r n w
ring_shown r n w long R = record {
  position = R.position;
  own = R.own;
  filled = R.filled;
  slots = R.slots;
  exact = exact;
  whole = whole;
}
  where
    few : (m : ℕ) → is_ring_length m ≡ true → 0 < m
    few m h = by_test (eqb m 256) refl h
      where
        by_test : (b : Bool) → eqb m 256 ≡ b → (b || eqb m 65536) ≡ true → 0 < m
        by_test true k g = let z = eqb-true m 256 k in omega (arith, z)
        by_test false k g = let z = eqb-true m 65536 g in omega (arith, z)

    exact : (i : ℕ) (c : Claim) → slice_get w.claims i ≡ Some c → length w.claims ≤ i + n → is_filled i w.fills ≡ true → NoneOvertaken n i w.fills → slot_in r w.mem (i % n) ≡ c.number + 1
    exact i c e l f o =
        R.slots (i % n) (mod_below i n (few n long)) ∙ ap (shown_by w.claims) (last_is n long i (length w.claims) l w.fills R.sorted o f) ∙ ap number_shown e

    whole : length w.claims ≤ n → AllByRecursion (λ (t : Watched). is_unfilled r t.now.rip ≡ false) w.threads → (j : ℕ) → j < n → slot_in r w.mem j ≡ shown_by w.claims (Some j)
    whole l all j h = R.slots j h ∙ elim (cases_lt j (length w.claims)) [
      | inl q ↦ (let c = get_some w.claims j q in
          let small : j % n ≡ j = mod-eq_of_lt h in
          ap (shown_by w.claims) (ap (λ z. last_fill n z w.fills) (sym small) ∙ last_is n long j (length w.claims) (omega (arith, l)) w.fills R.sorted (none_overtaken n j (length w.claims) w.fills l R.sorted) (filled j c.0 c.1)))
      | inr q ↦ ap (shown_by w.claims) (none_there n (length w.claims) j w.fills q h R.sorted) ∙ sym (ap number_shown (get_none w.claims j q))
    ]
      where
        filled : (i : ℕ) (c : Claim) → slice_get w.claims i ≡ Some c → is_filled i w.fills ≡ true
        filled i c e = elim (R.filled i c e) [
          | inl q ↦ q
          | inr q ↦ absurd (true≢false (sym q.unfilled ∙ all_in (λ (t : Watched). is_unfilled r t.now.rip ≡ false) w.threads q.one all (c.thread, q.there)))
        ]

module _ (r : Threading) (A : AreEntries r.original r.listed) (S : IsThreadSound r) (W : WorkLong) where
  -- an address between a claim and its fill
  unfilled_at : (s : ThreadSite) → Contains r.sites s → (n x : ℕ) → s.event ≡ Some (Keeps n) → s.place + 34 ≤ x → x < s.place + 48 → is_unfilled r x ≡ true
  unfilled_at s h n x e a b =
      let i = place_of r.sites s h in
      let to : part_to Unfilled s.event s.when ≡ 48 = ap (λ o. part_to Unfilled o s.when) e in
      any_at (is_part Unfilled x) r.sites i.0 s i.1 (part_true Unfilled x s a (omega (arith, b, to)))

  -- an address of a ring's event that is none
  pub filled_at : (s : ThreadSite) (h : Contains r.sites s) (n x : ℕ) → s.event ≡ Some (Keeps n) → s.place ≤ x → x ≤ s.place + ring_len → (x < s.place + 34) ⊎ (s.place + 48 ≤ x) → is_unfilled r x ≡ false
  filled_at s h n x e a b c =
      let to : part_to Unfilled s.event s.when ≡ 48 = ap (λ o. part_to Unfilled o s.when) e in
      part_only r A S W s h x Unfilled (ring_in r A S W s h n x e a b) ∙ elim c [
        | inl q ↦ part_low Unfilled x s q
        | inr q ↦ part_high Unfilled x s (omega (arith, q, to))
      ]

  -- what a thread in a ring's event claimed, and is still to come to its effect step
  pub ring_claimed : (s : ThreadSite) (h : Contains r.sites s) (n x m : ℕ) → s.event ≡ Some (Keeps n) → x ≡ s.place + m → m ≤ ring_len → claimed_at r.sites x ≡ cond (leb 34 m) (s.number ∷ []) []
  ring_claimed s h n x m keeps e l = claimed_here r A S W s h x (ring_in r A S W s h n x keeps (omega (arith, e)) (omega (arith, e, l))) ∙ ap (λ z. cond z (s.number ∷ []) []) by_place
    where
      start : part_from Marked s.event s.when ≡ 34
      start = ap (λ o. part_from Marked o s.when) keeps

      end : part_to Marked s.event s.when ≡ ring_len + 1
      end = ap (λ o. part_to Marked o s.when) keeps

      by_place : (is_keeping s.event && is_part Marked x s) ≡ leb 34 m
      by_place = elim (cases_lt m 34) [
        | inl q ↦ ap (λ b. is_keeping s.event && b) (part_low Marked x s (omega (arith, e, start, q))) ∙ and_right (is_keeping s.event) false refl
            ∙ sym (lt-leb 34 m q)
        | inr q ↦ and_from (is_keeping s.event) (is_part Marked x s) (ap is_keeping keeps) (part_true Marked x s (omega (arith, e, start, q)) (omega (arith, e, end, l))) ∙ sym (le-leb 34 m q)
      ]

  module _ (n k : ℕ) (w : Watch) (one : Watched) (f : Fields) (to : Machine) (there : slice_get w.threads k ≡ Some one) (long : is_ring_length n ≡ true) (R : RingKept r n w) where
    abbrev one' : Watched
    one' = record { now = thread_of to; projected = projection r one w.mem to }

    abbrev x0 : ℕ
    x0 = one.now.rip

    -- the watch after the step, with these effect steps, claims and fills
    abbrev after : List EffectStep → List Claim → List Fill → Watch
    after log claims fills = record {
      threads = slice_set w.threads k one';
      mem = to.mem;
      stale = stale_after r w.stale one f (machine_of w.mem one.now);
      log = log;
      claims = claims;
      fills = fills;
    }

    -- a thread of the watch after the step is the one that made it, or another that was there
    who : (j : ℕ) (other : Watched) → slice_get (slice_set w.threads k one') j ≡ Some other → (j ≡ k) × (one' ≡ other) ⊎ (j ≢ k) × (slice_get w.threads j ≡ Some other)
    who j other e = elim (cases_eq j k) [
      | inl same ↦ inl (same, some_is one' other (sym (set_here w.threads k one one' there) ∙ subst (λ (z : ℕ). slice_get (slice_set w.threads k one') z ≡ Some other) same e))
      | inr others ↦ inr (others, sym (set_away w.threads k j one' others) ∙ e)
    ]

    -- a thread that stood between a claim and its fill still does, but for the one that made the step
    still_between : (log : List EffectStep) (claims : List Claim) (fills : List Fill) (i j : ℕ) → j ≢ k → last_claim j claims ≡ last_claim j w.claims → IsBetween r w i j → IsBetween r (after log claims fills) i j
    still_between log claims fills i j others e B = record { one = B.one; there = set_away w.threads k j one' others ∙ B.there; unfilled = B.unfilled; last = e ∙ B.last }

    -- the thread that makes the step isn't between, where its address is none between a claim and its fill
    not_between : (i j : ℕ) → j ≡ k → is_unfilled r x0 ≡ false → IsBetween r w i j → ⊥
    not_between i j e free B =
        let same : B.one ≡ one = some_is B.one one (sym B.there ∙ ap (slice_get w.threads) e ∙ there) in
        true≢false (sym B.unfilled ∙ ap (λ (t : Watched). is_unfilled r t.now.rip) same ∙ free)

    -- the effect steps so far of each thread, with this one
    kept_logged : (b : Bool) → is_effect r x0 ≡ b → (j : ℕ) → kept_by r j (logged r k one w.log) ≡ kept_by r j w.log ++ cond b (cond (eqb k j) (ringing_at r.sites one.projected.rip) []) []
    kept_logged true e j = ap (kept_by r j) (cond-true (is_effect r x0) _ _ e) ∙ kept_more r j w.log (record { thread = k; at = one.projected.rip; core = one.projected.core })
    kept_logged false e j = ap (kept_by r j) (cond-false (is_effect r x0) _ _ e) ∙ sym (append-nil (kept_by r j w.log))

    -- each thread's claims are its effect steps, and what is still to come
    own_after : (claims : List Claim) (new : List ℕ) → ((j : ℕ) → claimed_by j claims ≡ claimed_by j w.claims ++ cond (eqb k j) new [])
        → cond (is_effect r x0) (ringing_at r.sites one.projected.rip) [] ++ claimed_at r.sites to.rip ≡ claimed_at r.sites x0 ++ new
        → (j : ℕ) (other : Watched) → slice_get (slice_set w.threads k one') j ≡ Some other → claimed_by j claims ≡ kept_by r j (logged r k one w.log) ++ claimed_at r.sites other.now.rip
    own_after claims new more even j other e = elim (who j other e) [
      | inl q ↦ subst (λ (t : Watched). claimed_by j claims ≡ kept_by r j (logged r k one w.log) ++ claimed_at r.sites t.now.rip) q.1 (own j q.0 (is_effect r x0) refl)
      | inr q ↦ (let b : eqb k j ≡ false = ne_eqb k j (λ z. q.0 (sym z)) in
          more j ∙ ap (λ z. claimed_by j w.claims ++ cond z new []) b ∙ append-nil (claimed_by j w.claims) ∙ R.own j other q.1
          ∙ ap (λ (l : List ℕ). l ++ claimed_at r.sites other.now.rip) (sym (kept_logged (is_effect r x0) refl j ∙ ap (λ z. kept_by r j w.log ++ cond (is_effect r x0) (cond z (ringing_at r.sites one.projected.rip) []) []) b
          ∙ ap (λ (l : List ℕ). kept_by r j w.log ++ l) (both (is_effect r x0)) ∙ append-nil (kept_by r j w.log))))
    ]
      where
        both : (b : Bool) → ◌≡◌ {A = List ℕ} (cond b [] []) []
        both true = refl
        both false = refl

        own : (j : ℕ) → j ≡ k → (b : Bool) → is_effect r x0 ≡ b → claimed_by j claims ≡ kept_by r j (logged r k one w.log) ++ claimed_at r.sites to.rip
        own j same b e =
            let z : eqb k j ≡ true = eq-eqb k j (sym same) in
            more j ∙ ap (λ y. claimed_by j w.claims ++ cond y new []) z ∙ ap (λ (l : List ℕ). l ++ new) (R.own j one (ap (slice_get w.threads) same ∙ there))
            ∙ append_assoc (kept_by r j w.log) (claimed_at r.sites x0) new ∙ ap (λ (l : List ℕ). kept_by r j w.log ++ l) (sym even)
            ∙ sym (append_assoc (kept_by r j w.log) (cond (is_effect r x0) (ringing_at r.sites one.projected.rip) []) (claimed_at r.sites to.rip))
            ∙ ap (λ (l : List ℕ). l ++ claimed_at r.sites to.rip) (sym (kept_logged (is_effect r x0) refl j ∙ ap (λ y. kept_by r j w.log ++ cond (is_effect r x0) (cond y (ringing_at r.sites one.projected.rip) []) []) z))

    -- where no claim is made
    same_claims : (j : ℕ) → claimed_by j w.claims ≡ claimed_by j w.claims ++ cond (eqb k j) [] []
    same_claims j = by_test (eqb k j)
      where
        by_test : (b : Bool) → claimed_by j w.claims ≡ claimed_by j w.claims ++ cond b [] []
        by_test true = sym (append-nil (claimed_by j w.claims))
        by_test false = sym (append-nil (claimed_by j w.claims))

    -- the watch after the step is this one
    after_is : (log : List EffectStep) (claims : List Claim) (fills : List Fill) → logged r k one w.log ≡ log → claims_after r k one w.claims ≡ claims → fills_after r k one w.claims w.fills ≡ fills
        → after log claims fills ≡ watched_after r k w one f to
    after_is log claims fills a b c = λ i. after (sym a i) (sym b i) (sym c i)

    -- ---- a step that leaves the ring

    rests : Rests r n (is_effect r x0) w.mem to.mem one.projected x0 to.rip → RingKept r n (watched_after r k w one f to)
    rests Q = subst (RingKept r n) (after_is (logged r k one w.log) w.claims w.fills refl (ap (λ o. claims_of k o w.claims) Q.quiet) (cond-false (is_filling r x0) _ _ Q.dry)) (record {
      position = Q.position ∙ R.position;
      own = own_after w.claims [] same_claims (Q.even ∙ sym (append-nil (claimed_at r.sites x0)));
      filled = λ i c e. elim (R.filled i c e) [
        | inl q ↦ inl q
        | inr q ↦ elim (cases_eq c.thread k) [
          | inl same ↦ absurd (not_between i c.thread same Q.free q)
          | inr others ↦ inr (still_between (logged r k one w.log) w.claims w.fills i c.thread others refl q)
        ]
      ];
      slots = λ j h. Q.slots j h ∙ R.slots j h;
      sorted = R.sorted;
      reducing = λ j other e s g v p. elim (who j other e) [
        | inl q ↦ absurd (true≢false (sym (unfilled_at s g n to.rip v (omega (arith, here other q.1 (s.place + 34) p)) (omega (arith, here other q.1 (s.place + 34) p))) ∙ Q.free'))
        | inr q ↦ R.reducing j other q.1 s g v p
      ];
      filling = λ j other e s g v p. elim (who j other e) [
        | inl q ↦ absurd (true≢false (sym (unfilled_at s g n to.rip v (omega (arith, here other q.1 (s.place + 37) p)) (omega (arith, here other q.1 (s.place + 37) p))) ∙ Q.free'))
        | inr q ↦ R.filling j other q.1 s g v p
      ];
    })
      where
        here : (other : Watched) → one' ≡ other → (x : ℕ) → other.now.rip ≡ x → to.rip ≡ x
        here other e x p = ap (λ (t : Watched). t.now.rip) e ∙ p

    -- ---- a step in an event that keeps a ring

    module _ (from upto : ℕ) (I : InsideRing r n (is_effect r x0) x0 to.rip from upto) (low : from ≤ ring_len) (high : upto ≤ ring_len) where
      -- the address is in the event's code
      inside : is_code_of r I.site (S.sites I.site I.listed) x0
      inside = let z = I.here in ring_in r A S W I.site I.listed n x0 I.keeps (omega (arith, z)) (omega (arith, z, low))

      -- so is the next one
      inside' : is_code_of r I.site (S.sites I.site I.listed) to.rip
      inside' = let z = I.there in ring_in r A S W I.site I.listed n to.rip I.keeps (omega (arith, z)) (omega (arith, z, high))

      -- it is no effect step
      same_log : logged r k one w.log ≡ w.log
      same_log = cond-false (is_effect r x0) _ _ I.calm

      -- what a thread in the event claimed, and is still to come
      claimed_is : (x m : ℕ) → x ≡ I.site.place + m → m ≤ ring_len → claimed_at r.sites x ≡ cond (leb 34 m) (I.site.number ∷ []) []
      claimed_is x m e l = ring_claimed I.site I.listed n x m I.keeps e l

      -- a site at which the thread stands after the step is this one
      this_site : (s : ThreadSite) → Contains r.sites s → s.event ≡ Some (Keeps n) → (m : ℕ) → m ≤ ring_len → to.rip ≡ s.place + m → s ≡ I.site
      this_site s g v m l e = ring_site r A S W I.site s I.listed g n to.rip v (omega (arith, e)) (omega (arith, e, l)) inside'

      -- what a claim more leads to, where one is made
      calm_even : (new : List ℕ) → claimed_at r.sites to.rip ≡ claimed_at r.sites x0 ++ new → cond (is_effect r x0) (ringing_at r.sites one.projected.rip) [] ++ claimed_at r.sites to.rip ≡ claimed_at r.sites x0 ++ new
      calm_even new e = ap (λ b. cond b (ringing_at r.sites one.projected.rip) [] ++ claimed_at r.sites to.rip) I.calm ∙ e

      -- the event claims by its LOCK XADD alone
      claims_is : (b : Bool) → eqb (I.site.place + 25) x0 ≡ b → claims_at x0 I.site ≡ b
      claims_is b e = ap₂ (λ x y. is_keeping x && y) I.keeps e

      -- and fills by one MOV alone
      fills_is : (b : Bool) → eqb (I.site.place + 37) x0 ≡ b → is_filling r x0 ≡ b
      fills_is b e = filling_only r A S W I.site I.listed x0 inside ∙ ap₂ (λ x y. is_keeping x && y) I.keeps e

      -- at another address no slot is claimed
      unclaiming : from ≢ 25 → claims_after r k one w.claims ≡ w.claims
      unclaiming e = ap (λ o. claims_of k o w.claims) (claiming_only r A S W I.site I.listed x0 inside (claims_is false (ne_eqb (I.site.place + 25) x0 (λ z. let h = I.here in e (omega (arith, z, h))))))

      -- nor filled
      unfilling : from ≢ 37 → fills_after r k one w.claims w.fills ≡ w.fills
      unfilling e = cond-false (is_filling r x0) _ _ (fills_is false (ne_eqb (I.site.place + 37) x0 (λ z. let h = I.here in e (omega (arith, z, h)))))

    -- a thread after the step
    turned : (other : Watched) → one' ≡ other → (x : ℕ) → other.now.rip ≡ x → to.rip ≡ x
    turned other e x p = ap (λ (t : Watched). t.now.rip) e ∙ p

    -- ---- LOCK XADD

    claims : Claims r n (is_effect r x0) w.mem to.mem to.core x0 to.rip → RingKept r n (watched_after r k w one f to)
    claims Q =
        let I = Q.inside in
        let here = I.here in
        let there' = I.there in
        let free : is_unfilled r x0 ≡ false = filled_at I.site I.listed n x0 I.keeps (omega (arith, here)) (omega (arith, here)) (inl (omega (arith, here))) in
        let taken : is_unfilled r to.rip ≡ true = unfilled_at I.site I.listed n to.rip I.keeps (omega (arith, there')) (omega (arith, there')) in
        let c0 : Claim = record { thread = k; number = I.site.number } in
        let cs = w.claims ++ c0 ∷ [] in
        let claim : claims_after r k one w.claims ≡ cs = ap (λ o. claims_of k o w.claims) (claiming_here r A S W I.site I.listed x0 (claims_is 25 34 I (omega arith) (omega arith) true (eq-eqb (I.site.place + 25) x0 (sym here)))) in
        let size : length cs ≡ length w.claims + 1 = length-append w.claims (c0 ∷ []) in
        let mine : is_by k c0 ≡ true = eq-eqb k k refl in
        let last : last_claim k cs ≡ length w.claims = last_own k w.claims c0 mine in
        let found : slice_get cs (last_claim k cs) ≡ Some c0 = ap (slice_get cs) last ∙ get_end w.claims c0 in
        let value : reg to.core rax ≡ last_claim k cs % 2 ^ 32 = Q.value ∙ ap (λ z. z % 2 ^ 32) R.position ∙ (let z : length w.claims % 2 ^ 32 % 2 ^ 32 ≡ length w.claims % 2 ^ 32 = omega arith in z) ∙ ap (λ z. z % 2 ^ 32) (sym last) in
        subst (RingKept r n) (after_is w.log cs w.fills (same_log 25 34 I (omega arith) (omega arith)) claim (unfilling 25 34 I (omega arith) (omega arith) (λ e. absurd cc))) (record {
          position = Q.position ∙ (let z = R.position in omega (arith, z, size));
          own = λ j other e. own_after cs (I.site.number ∷ []) (λ i. claimed_more i w.claims c0)
              (calm_even 25 34 I (omega arith) (omega arith) (I.site.number ∷ []) (claimed_is 25 34 I (omega arith) (omega arith) to.rip 34 there' (omega arith) ∙ sym (ap (λ (l : List ℕ). l ++ I.site.number ∷ []) (claimed_is 25 34 I (omega arith) (omega arith) x0 25 here (omega arith))))) j other e
              ∙ ap (λ l. kept_by r j l ++ claimed_at r.sites other.now.rip) (same_log 25 34 I (omega arith) (omega arith));
          filled = λ i c e. elim (get_either w.claims c0 i c e) [
            | inl q ↦ elim (R.filled i c q) [
              | inl z ↦ inl z
              | inr z ↦ elim (cases_eq c.thread k) [
                | inl same ↦ absurd (not_between i c.thread same free z)
                | inr others ↦ inr (still_between w.log cs w.fills i c.thread others (last_other c.thread w.claims c0 (ne_eqb k c.thread (λ y. others (sym y)))) z)
              ]
            ]
            | inr q ↦ inr (subst (λ (z : Claim). IsBetween r (after w.log cs w.fills) i z.thread) q.1 (record { one = one'; there = set_here w.threads k one one' there; unfilled = taken; last = last ∙ sym q.0 }))
          ];
          slots = λ j h. Q.slots j h ∙ R.slots j h ∙ sym (shown_more w.claims c0 (last_fill n j w.fills) (fill_below n j (length w.claims) w.fills R.sorted));
          sorted = sorted_wider (length w.claims) (length cs) w.fills (omega (arith, size)) R.sorted;
          reducing = λ j other e s g v p. elim (who j other e) [
            | inl q ↦ (let same = this_site 25 34 I (omega arith) (omega arith) s g v 34 (omega arith) (turned other q.1 (s.place + 34) p) in
                subst (λ i. (slice_get cs (last_claim i cs) ≡ Some (record { thread = i; number = s.number })) × (reg other.now.core rax ≡ last_claim i cs % 2 ^ 32)) (sym q.0)
                (found ∙ ap (λ (z : ThreadSite). Some (record { thread = k; number = z.number })) (sym same), ap (λ (t : Watched). reg t.now.core rax) (sym q.1) ∙ value))
            | inr q ↦ (let z = R.reducing j other q.1 s g v p in
                let l = last_other j w.claims c0 (ne_eqb k j (λ y. q.0 (sym y))) in
                (ap (slice_get cs) l ∙ get_more w.claims c0 (last_claim j w.claims) _ z.0, z.1 ∙ ap (λ y. y % 2 ^ 32) (sym l)))
          ];
          filling = λ j other e s g v p. elim (who j other e) [
            | inl q ↦ (let at = turned other q.1 (s.place + 37) p in
                let same = ap (λ (z : ThreadSite). z.place) (this_site 25 34 I (omega arith) (omega arith) s g v 37 (omega arith) at) in absurd (omega (arith, at, same, there')))
            | inr q ↦ (let z = R.filling j other q.1 s g v p in
                let l = last_other j w.claims c0 (ne_eqb k j (λ y. q.0 (sym y))) in
                (ap (slice_get cs) l ∙ get_more w.claims c0 (last_claim j w.claims) _ z.0, z.1 ∙ ap (λ y. y % n) (sym l)))
          ];
        })

    -- ---- MOVZX

    -- a ring's length divides 2^32
    divides : (m x : ℕ) → is_ring_length m ≡ true → x % 2 ^ 32 % m ≡ x % m
    divides m x h = by_test (eqb m 256) refl h
      where
        by_test : (b : Bool) → eqb m 256 ≡ b → (b || eqb m 65536) ≡ true → x % 2 ^ 32 % m ≡ x % m
        by_test true k g = let q : x % 2 ^ 32 % 256 ≡ x % 256 = omega arith in subst (λ z. x % 2 ^ 32 % z ≡ x % z) (sym (eqb-true m 256 k)) q
        by_test false k g = let q : x % 2 ^ 32 % 65536 ≡ x % 65536 = omega arith in subst (λ z. x % 2 ^ 32 % z ≡ x % z) (sym (eqb-true m 65536 g)) q

    -- where the lists stay, and the thread is between a claim and its fill before the step and after it
    between_filled : is_unfilled r to.rip ≡ true → (i : ℕ) (c : Claim) → slice_get w.claims i ≡ Some c → (is_filled i w.fills ≡ true) ⊎ IsBetween r (after w.log w.claims w.fills) i c.thread
    between_filled taken i c e = elim (R.filled i c e) [
      | inl q ↦ inl q
      | inr q ↦ elim (cases_eq c.thread k) [
        | inl same ↦ inr (record { one = one'; there = ap (slice_get (slice_set w.threads k one')) same ∙ set_here w.threads k one one' there; unfilled = taken; last = q.last })
        | inr others ↦ inr (still_between w.log w.claims w.fills i c.thread others refl q)
      ]
    ]

    reduces : Reduces r n (is_effect r x0) w.mem to.mem one.now.core to.core x0 to.rip → RingKept r n (watched_after r k w one f to)
    reduces Q =
        let I = Q.inside in
        let here = I.here in
        let there' = I.there in
        let taken : is_unfilled r to.rip ≡ true = unfilled_at I.site I.listed n to.rip I.keeps (omega (arith, there')) (omega (arith, there')) in
        let before = R.reducing k one there I.site I.listed I.keeps here in
        let value : reg to.core rax ≡ last_claim k w.claims % n = Q.value ∙ ap (λ z. z % n) before.1 ∙ divides n (last_claim k w.claims) long in
        subst (RingKept r n) (after_is w.log w.claims w.fills (same_log 34 37 I (omega arith) (omega arith)) (unclaiming 34 37 I (omega arith) (omega arith) (λ e. absurd cc)) (unfilling 34 37 I (omega arith) (omega arith) (λ e. absurd cc))) (record {
          position = Q.position ∙ R.position;
          own = λ j other e. own_after w.claims [] same_claims
              (calm_even 34 37 I (omega arith) (omega arith) [] (claimed_is 34 37 I (omega arith) (omega arith) to.rip 37 there' (omega arith) ∙ sym (ap (λ (l : List ℕ). l ++ []) (claimed_is 34 37 I (omega arith) (omega arith) x0 34 here (omega arith))))) j other e
              ∙ ap (λ l. kept_by r j l ++ claimed_at r.sites other.now.rip) (same_log 34 37 I (omega arith) (omega arith));
          filled = between_filled taken;
          slots = λ j h. Q.slots j h ∙ R.slots j h;
          sorted = R.sorted;
          reducing = λ j other e s g v p. elim (who j other e) [
            | inl q ↦ (let at = turned other q.1 (s.place + 34) p in
                let same = ap (λ (z : ThreadSite). z.place) (this_site 34 37 I (omega arith) (omega arith) s g v 34 (omega arith) at) in absurd (omega (arith, at, same, there')))
            | inr q ↦ R.reducing j other q.1 s g v p
          ];
          filling = λ j other e s g v p. elim (who j other e) [
            | inl q ↦ (let same = this_site 34 37 I (omega arith) (omega arith) s g v 37 (omega arith) (turned other q.1 (s.place + 37) p) in
                subst (λ i. (slice_get w.claims (last_claim i w.claims) ≡ Some (record { thread = i; number = s.number })) × (reg other.now.core rax ≡ last_claim i w.claims % n)) (sym q.0)
                (before.0 ∙ ap (λ (z : ThreadSite). Some (record { thread = k; number = z.number })) (sym same), ap (λ (t : Watched). reg t.now.core rax) (sym q.1) ∙ value))
            | inr q ↦ R.filling j other q.1 s g v p
          ];
        })

    -- ---- the MOV into a slot

    fills : Fills r n (is_effect r x0) w.mem to.mem one.now.core x0 to.rip → RingKept r n (watched_after r k w one f to)
    fills Q =
        let I = Q.inside in
        let here = I.here in
        let there' = I.there in
        let free' : is_unfilled r to.rip ≡ false = filled_at I.site I.listed n to.rip I.keeps (omega (arith, there')) (omega (arith, there')) (inr (omega (arith, there'))) in
        let before = R.filling k one there I.site I.listed I.keeps here in
        let last = last_claim k w.claims in
        let low = get_below w.claims last _ before.0 in
        let f0 : Fill = record { claim = last; claimed = length w.claims } in
        let fs = w.fills ++ f0 ∷ [] in
        let fill : fills_after r k one w.claims w.fills ≡ fs = cond-true (is_filling r x0) _ _ (fills_is 37 48 I (omega arith) (omega arith) true (eq-eqb (I.site.place + 37) x0 (sym here))) in
        subst (RingKept r n) (after_is w.log w.claims fs (same_log 37 48 I (omega arith) (omega arith)) (unclaiming 37 48 I (omega arith) (omega arith) (λ e. absurd cc)) fill) (record {
          position = Q.position ∙ R.position;
          own = λ j other e. own_after w.claims [] same_claims
              (calm_even 37 48 I (omega arith) (omega arith) [] (claimed_is 37 48 I (omega arith) (omega arith) to.rip 48 there' (omega arith) ∙ sym (ap (λ (l : List ℕ). l ++ []) (claimed_is 37 48 I (omega arith) (omega arith) x0 37 here (omega arith))))) j other e
              ∙ ap (λ l. kept_by r j l ++ claimed_at r.sites other.now.rip) (same_log 37 48 I (omega arith) (omega arith));
          filled = λ i c e. elim (R.filled i c e) [
            | inl q ↦ inl (any_more (λ (g : Fill). eqb g.claim i) w.fills f0 ∙ or_left (is_filled i w.fills) (eqb last i) q)
            | inr q ↦ elim (cases_eq c.thread k) [
              | inl same ↦ inl (any_more (λ (g : Fill). eqb g.claim i) w.fills f0 ∙ or_right (is_filled i w.fills) (eqb last i) (eq-eqb last i (ap (λ j. last_claim j w.claims) (sym same) ∙ q.last)))
              | inr others ↦ inr (still_between w.log w.claims fs i c.thread others refl q)
            ]
          ];
          slots = λ j h. shown j h before.1 before.0 ∙ ap (shown_by w.claims) (sym (last_more n j w.fills f0));
          sorted = sorted_more (length w.claims) last w.fills low R.sorted;
          reducing = λ j other e s g v p. elim (who j other e) [
            | inl q ↦ (let at = turned other q.1 (s.place + 34) p in
                let same = ap (λ (z : ThreadSite). z.place) (this_site 37 48 I (omega arith) (omega arith) s g v 34 (omega arith) at) in absurd (omega (arith, at, same, there')))
            | inr q ↦ R.reducing j other q.1 s g v p
          ];
          filling = λ j other e s g v p. elim (who j other e) [
            | inl q ↦ (let at = turned other q.1 (s.place + 37) p in
                let same = ap (λ (z : ThreadSite). z.place) (this_site 37 48 I (omega arith) (omega arith) s g v 37 (omega arith) at) in absurd (omega (arith, at, same, there')))
            | inr q ↦ R.filling j other q.1 s g v p
          ];
        })
      where
        shown : (j : ℕ) → j < n → reg one.now.core rax ≡ last_claim k w.claims % n → slice_get w.claims (last_claim k w.claims) ≡ Some (record { thread = k; number = Q.inside.site.number })
            → slot_in r to.mem j ≡ shown_by w.claims (or_later (last_fill n j w.fills) (cond (eqb (last_claim k w.claims % n) j) (Some (last_claim k w.claims)) None))
        shown j h value claim = elim (cases_eq j (reg one.now.core rax)) [
          | inl same ↦ ap (slot_in r to.mem) same ∙ Q.slot ∙ sym (ap number_shown claim)
              ∙ ap (λ b. shown_by w.claims (or_later (last_fill n j w.fills) (cond b (Some (last_claim k w.claims)) None))) (sym (eq-eqb (last_claim k w.claims % n) j (sym value ∙ sym same)))
          | inr others ↦ Q.slots j h others ∙ R.slots j h
              ∙ ap (λ b. shown_by w.claims (or_later (last_fill n j w.fills) (cond b (Some (last_claim k w.claims)) None))) (sym (ne_eqb (last_claim k w.claims % n) j (λ e. others (sym e ∙ sym value))))
        ]

    -- each step keeps what is kept of a ring
    pub ring_after : RingMoves r n (is_effect r x0) one w.mem to → RingKept r n (watched_after r k w one f to)
    ring_after (inl q) = rests q
    ring_after (inr (inl q)) = claims q
    ring_after (inr (inr (inl q))) = reduces q
    ring_after (inr (inr (inr q))) = fills q
