-- A delivery that meets the premises keeps the relation between the watched guest and the original's.
use Rattle.std.proofs.Common.{◌≡◌, ◌≢◌, ◌⊎◌, inl, inr, ℕ, ◌+◌, ◌≤◌, Bool, true, false, cond, List, [], ◌∷◌, ◌++◌, length, Some, None, refl, sym, ap, ap₂, ◌∙◌, subst, arith}
use Rattle.std.specs.Prelude.{Contains, count_by, slice_get, slice_set}
use Rattle.std.proofs.lemmas.Bool.{cases_eq, and_parts, cond-false, true≢false}
use Rattle.pun_base.specs.Memory.{Bytes}
use Rattle.pun_base.specs.declared.action.Base.{Base}
use Rattle.cpu_state.specs.declared.world.MemWrite.{MemWrite}
use Rattle.cpu_state.specs.Bytes.{avoids}
use Rattle.insn_form.specs.Plan.{or_first, lacking_writes}
use Rattle.insn_form.specs.Machine.{put_all, avoids_writes}
use Rattle.insn_form.specs.Alike.{AreAlike}
use Rattle.insn_form.proofs.AlikeMemories.{lacking_in_alike, carried_alike}
use Rattle.insn_form.proofs.FrameRule.{put_all_keeps}
use Rattle.insn_form.proofs.TouchedMemory.{writes_both, put_all_perms}
use Rattle.start_entries.specs.Standing.{AreEntries}
use Rattle.image_runs.specs.declared.delivery.Delivery.{Delivery}
use Rattle.image_runs.specs.Listed.{is_start, is_listed_byte}
use Rattle.sound_images.proofs.DeliveredStates.{written_code}
use Rattle.thread_runs.specs.Guest.{Thread, Guest}
use Rattle.thread_runs.specs.ThreadCode.{Marks, Keeps, position_at, slot_at, ring_len}
use Rattle.trampoline.specs.EventLists.{mark_at, mark_len}
use Rattle.thread_runs.specs.Threading.Part.{Unfilled}
use Rattle.thread_runs.specs.Ring.{claimed_by, kept_by, claimed_at}
use Rattle.thread_runs.specs.Threading.{ThreadSite, Threading, is_new, is_hidden, is_saved_by, is_unfilled, IsThreadSound}
use Rattle.thread_runs.specs.Watching.{Watched, Watch}
use Rattle.thread_runs.specs.StepLaws.{StepLaws}
use Rattle.thread_runs.specs.Theorem.{is_recorded, has_marked}
use Rattle.thread_runs.specs.GuestDeliveries.{Takes, given, LeadsBy, Receives}
use Rattle.thread_runs.specs.WatchedDeliveries.{WatchWith, writes_byte, watched_given, IsGiven}
use Rattle.patch_report.proofs.ListPlaces.{some_is}
use Rattle.thread_runs.proofs.ListUpdates.{set_here, set_away, map_set, get_map, count_set}
use Rattle.thread_runs.proofs.KeptRelation.{run_more, last_more, other_kept}
use Rattle.event_steps.proofs.ThreadSteps.{lacking_on}
use Rattle.thread_runs.proofs.ThreadPlaces.{start_old, part_never, code_unlisted, ring_in, old_unclaimed}
use Rattle.thread_runs.proofs.StandingCode.{mark_kept, position_kept, slot_kept}
use Rattle.thread_runs.proofs.OutsideSteps.{uncounted, start_uncounted}
use Rattle.thread_runs.proofs.WatchedRelation.{HasRoom, HasRing, RingKept, shown_after, marked, ThreadKept, Related}
use Rattle.thread_runs.proofs.WatchedSteps.{phase_outside}

-- writes that leave the hidden set alone are held in both memories or in neither
held_alike : (hidden stale : ℕ → Bool) (m w : Bytes) → AreAlike hidden stale m w → (ws : List MemWrite) → avoids_writes hidden ws ≡ true → lacking_writes m ws ≡ lacking_writes w ws
held_alike hidden stale m w e [] h = refl
held_alike hidden stale m w e (v ∷ ws) h =
    let q = and_parts (avoids hidden v.addr (length v.bytes)) (avoids_writes hidden ws) h in
    ap₂ or_first (lacking_in_alike hidden stale m w e 2 (Some (record { addr = v.addr; size = length v.bytes })) q.0) (held_alike hidden stale m w e ws q.1)

module _ (r : Threading) (A : AreEntries r.original r.listed) (S : IsThreadSound r) (L : StepLaws)
    (a : Guest) (k : ℕ) (d : Delivery) (x y : WatchWith) (R : Related r S a x.made x.watch) (D : IsGiven r k d x y) where
  abbrev w : Watch
  w = x.watch

  abbrev one : Watched
  one = D.one

  -- the thread and its projection after the delivery
  abbrev one' : Watched
  one' = record { now = given d one.now; projected = given d one.projected }

  abbrev v : Watch
  v = watched_given k one d w

  kept : ThreadKept r S w.mem one
  kept = R.each k one D.there

  -- the thread is its projection
  same : one.now ≡ one.projected
  same = phase_outside r A S L w.mem one.now one.projected R.other kept.phase D.fits.here

  -- no hidden byte is written
  unseen : avoids_writes (is_hidden r) d.writes ≡ true
  unseen = writes_both (is_listed_byte r.listed) (is_new r) d.writes D.fits.apart D.old

  -- the delivery can be made in the original too
  held : lacking_writes R.end.mem d.writes ≡ None
  held = held_alike (is_hidden r) w.stale R.end.mem w.mem R.alike d.writes unseen ∙ D.fits.held

  -- the original's guest after the delivery
  abbrev h : Guest
  h = record { threads = slice_set R.end.threads k (given d one.projected); mem = put_all R.end.mem d.writes }

  received : Receives r.listed k d R.end h
  received = record {
    thread = one.projected;
    there = ap (λ (l : List Thread). slice_get l k) R.threads ∙ get_map (λ (t : Watched). t.projected) w.threads k one D.there;
    fits = record { here = kept.start; there = D.fits.there; core = D.fits.core; held = held; apart = D.fits.apart };
    after = refl;
  }

  -- what a new byte holds stays
  news : (z : ℕ) → is_new r z ≡ true → v.mem z ≡ w.mem z
  news z e = put_all_keeps (is_new r) w.mem d.writes z D.old e

  -- what is kept of each thread
  each : (j : ℕ) (other : Watched) → slice_get v.threads j ≡ Some other → ThreadKept r S v.mem other
  each j other e = elim (cases_eq j k) [
    | inl q ↦ subst (λ (z : Watched). ThreadKept r S v.mem z)
        (some_is one' other (sym (set_here w.threads k one one' D.there) ∙ subst (λ (z : ℕ). slice_get v.threads z ≡ Some other) q e))
        (record { processor = D.fits.core; words = kept.words; start = D.fits.there; phase = inl (record { same = ap (given d) same; start = D.fits.there }) })
    | inr n ↦ (let g = sym (set_away w.threads k j one' n) ∙ e in
        other_kept r S w.mem v.mem other (written_code w.mem w.mem d.writes D.fits.held (λ x i j. refl)) (λ t z s. put_all_keeps (is_saved_by r other.now.core) w.mem d.writes z (D.apart j other n g t) s) (R.each j other g))
  ]

  -- what each event marks
  marks : (s : ThreadSite) → Contains r.sites s → (b : Base) → s.event ≡ Some (Marks b)
      → marked r b s v.mem ≡ shown_after b (count_by (is_recorded s) v.log + count_by (has_marked s) v.threads)
  marks s c b i =
      let p = count_set (has_marked s) w.threads k one one' D.there in
      let before : has_marked s one ≡ false = uncounted s one.now.rip one.projected.core (start_uncounted r A S L one.now.rip s c D.fits.here) in
      let after : has_marked s one' ≡ false = uncounted s d.rip (given d one.projected).core (start_uncounted r A S L d.rip s c D.fits.there) in
      let n = unchanged p before after in
      mark_kept r A S s c b i w.mem v.mem news ∙ R.marks s c b i ∙ ap (λ z. shown_after b (count_by (is_recorded s) v.log + z)) (sym n)
    where
      unchanged : {m n : ℕ} → n + cond (has_marked s one) 1 0 ≡ m + cond (has_marked s one') 1 0 → has_marked s one ≡ false → has_marked s one' ≡ false → n ≡ m
      unchanged q b c =
          let e : ◌≡◌ {A = ℕ} (cond (has_marked s one) 1 0) 0 = cond-false (has_marked s one) 1 0 b in
          let f : ◌≡◌ {A = ℕ} (cond (has_marked s one') 1 0) 0 = cond-false (has_marked s one') 1 0 c in
          omega (arith, q, e, f)

  -- the thread stands at listed starts before and after the delivery, and so at no address of a ring's event
  unringed : (x : ℕ) → is_start r.listed x ≡ true → (s : ThreadSite) → Contains r.sites s → (n : ℕ) → s.event ≡ Some (Keeps n) → (m : ℕ) → m ≤ ring_len → x ≡ s.place + m → ⊥
  unringed x h s g n v m l p = true≢false (sym h ∙ code_unlisted r A S L.long s g x (ring_in r A S L.long s g n x v (omega (arith, p)) (omega (arith, p, l))))

  -- what is kept of a ring
  rings : (n : ℕ) → r.ring ≡ Some n → RingKept r n v
  rings n e =
      let K = R.rings n e in
      let old = start_old r A S L.long one.now.rip D.fits.here in
      let old' = start_old r A S L.long d.rip D.fits.there in
      let none = old_unclaimed r A S L.long one.now.rip old in
      let none' = old_unclaimed r A S L.long d.rip old' in
      record {
        position = position_kept r A S n e w.mem v.mem news ∙ K.position;
        own = λ j other g. elim (who j other g) [
          | inl q ↦ subst (λ (t : Watched). claimed_by j w.claims ≡ kept_by r j w.log ++ claimed_at r.sites t.now.rip) q.1
              (K.own j one (ap (slice_get w.threads) q.0 ∙ D.there) ∙ ap (λ (l : List ℕ). kept_by r j w.log ++ l) (none ∙ sym none'))
          | inr q ↦ K.own j other q.1
        ];
        filled = λ i c g. elim (K.filled i c g) [
          | inl q ↦ inl q
          | inr q ↦ elim (cases_eq c.thread k) [
            | inl is ↦ (let z : q.one ≡ one = some_is q.one one (sym q.there ∙ ap (slice_get w.threads) is ∙ D.there) in
                absurd (true≢false (sym q.unfilled ∙ ap (λ (t : Watched). is_unfilled r t.now.rip) z ∙ part_never r A S L.long one.now.rip Unfilled old)))
            | inr others ↦ inr (record { one = q.one; there = set_away w.threads k c.thread one' others ∙ q.there; unfilled = q.unfilled; last = q.last })
          ]
        ];
        slots = λ j l. slot_kept r A S n e w.mem v.mem news j l ∙ K.slots j l;
        sorted = K.sorted;
        reducing = λ j other g s h i p. elim (who j other g) [
          | inl q ↦ absurd (unringed d.rip D.fits.there s h n i 34 (omega arith) (ap (λ (t : Watched). t.now.rip) q.1 ∙ p))
          | inr q ↦ K.reducing j other q.1 s h i p
        ];
        filling = λ j other g s h i p. elim (who j other g) [
          | inl q ↦ absurd (unringed d.rip D.fits.there s h n i 37 (omega arith) (ap (λ (t : Watched). t.now.rip) q.1 ∙ p))
          | inr q ↦ K.filling j other q.1 s h i p
        ];
      }
    where
      who : (j : ℕ) (other : Watched) → slice_get v.threads j ≡ Some other → (j ≡ k) × (one' ≡ other) ⊎ (j ≢ k) × (slice_get w.threads j ≡ Some other)
      who j other g = elim (cases_eq j k) [
        | inl is ↦ inl (is, some_is one' other (sym (set_here w.threads k one one' D.there) ∙ subst (λ (z : ℕ). slice_get v.threads z ≡ Some other) is g))
        | inr others ↦ inr (others, sym (set_away w.threads k j one' others) ∙ g)
      ]

  -- so can a ring's bytes
  ring_room : (n : ℕ) → r.ring ≡ Some n → HasRing r n v.mem
  ring_room n e =
      let m = R.ring_room n e in
      record { position = room_on (position_at r.private) 4 m.position; slots = λ j l. room_on (slot_at r.private j) 4 (m.slots j l) }
    where
      room_on : (a n : ℕ) → HasRoom w.mem a n → HasRoom v.mem a n
      room_on a n h = record {
        read = lacking_on 4 w.mem v.mem a n (put_all_perms w.mem d.writes) ∙ h.read;
        written = lacking_on 2 w.mem v.mem a n (put_all_perms w.mem d.writes) ∙ h.written;
      }

  -- the relation after the delivery
  pub given_kept : Related r S a (x.made ++ Takes k d ∷ []) v
  given_kept = record {
    states = R.states ++ h ∷ [];
    run = run_more r.listed x.made a R.states (Takes k d) h R.run (subst (λ (z : Guest). LeadsBy r.listed (Takes k d) z h) (sym R.last) received);
    end = h;
    last = last_more a R.states h;
    threads = ap (λ (l : List Thread). slice_set l k (given d one.projected)) R.threads ∙ sym (map_set (λ (t : Watched). t.projected) w.threads k one');
    alike = carried_alike (is_hidden r) w.stale (writes_byte d) R.end.mem w.mem d.writes R.alike (λ z. refl);
    own = written_code r.original R.end.mem d.writes held R.own;
    other = written_code r.patched w.mem d.writes D.fits.held R.other;
    room = λ s c b i. let m = R.room s c b i in record {
      read = lacking_on 4 w.mem v.mem (mark_at b r.private s.number) (mark_len b) (put_all_perms w.mem d.writes) ∙ m.read;
      written = lacking_on 2 w.mem v.mem (mark_at b r.private s.number) (mark_len b) (put_all_perms w.mem d.writes) ∙ m.written;
    };
    ring_room = ring_room;
    marks = marks;
    rings = rings;
    each = each;
  }
