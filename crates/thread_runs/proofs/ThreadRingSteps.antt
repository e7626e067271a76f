-- Steps of a thread in an event that keeps a ring: each keeps the relation to the original's guest, and claims or fills as it is due.
use Rattle.std.proofs.Common.{◌≡◌, ◌⊎◌, inl, inr, ℕ, zero, suc, ◌+◌, ◌*◌, ◌%◌, ◌^◌, ◌<◌, ◌≤◌, Bool, true, false, not, ◌&&◌, cond, eqb, leb, List, [], ◌∷◌, ◌++◌, length, drop, Some, None, refl, sym, ap, ap₂, ◌∙◌, subst, arith}
use Rattle.std.specs.Prelude.{Contains, if◌then◌else◌, slice_index}
use Rattle.std.specs.Option.{is_some}
use Rattle.std.proofs.lemmas.Bool.{or_parts, cases_lt, ne_eqb, eq-eqb, true≢false, false_from_ne_true}
use Rattle.std.proofs.lemmas.List.{get_or-set_same}
use Rattle.pun_base.specs.Memory.{Bytes}
use Rattle.pun_base.specs.declared.action.Base.{Base}
use Rattle.length_decode.specs.Spelling.{Fields}
use Rattle.cpu_state.specs.declared.state.Core.{Core}
use Rattle.cpu_state.specs.Bytes.{avoids, number_at, put_list, bytes_of}
use Rattle.cpu_state.proofs.Readback.{bytes_of_length, read_back}
use Rattle.insn_form.specs.Operands.{reg, rax}
use Rattle.insn_form.specs.Machine.{Machine}
use Rattle.relocate_insn.proofs.PrivateRange.{put_away}
use Rattle.patch_report.proofs.ListPlaces.{some_is}
use Rattle.start_entries.specs.Standing.{AreEntries}
use Rattle.image_runs.specs.Listed.{is_listed_byte}
use Rattle.event_steps.specs.ThreadSteps.{ThreadStepsBy}
use Rattle.event_steps.specs.declared.step.EventStep.{EventStep}
use Rattle.event_steps.specs.declared.step.EventStep.TheVariants.{Store, Load, IntoAh, IntoAl, FromAl, FromAh, SetLow, Reduce, Put, Claim}
use Rattle.event_steps.specs.EventSteps.{long}
use Rattle.event_steps.specs.MadeSteps.{skipped}
use Rattle.event_steps.specs.DoneSteps.{is_one_of, started}
use Rattle.event_steps.specs.Interleaved.{Reaches}
use Rattle.event_steps.proofs.ByteRanges.{number_on, put_elsewhere}
use Rattle.thread_runs.specs.Guest.{machine_of}
use Rattle.thread_runs.specs.ThreadCode.{Marks, Keeps, position_at, slot_at, ring_len, event_len, is_saving, slot, flag_slot, saved_from, saved_len}
use Rattle.thread_runs.specs.ThreadLists.{thread_ring_list}
use Rattle.thread_runs.specs.Threading.Part.{Save}
use Rattle.thread_runs.specs.Threading.{ThreadSite, Threading, is_new, is_hidden, is_keeping, part_to, saves, is_code_of, IsRingSound, IsThreadSound}
use Rattle.thread_runs.specs.Watching.{Watched, Watch}
use Rattle.thread_runs.specs.Ring.{claimed_at}
use Rattle.thread_runs.specs.SiteEvents.{event_list, IsInSite, WentOn}
use Rattle.thread_runs.specs.StepLaws.{StepLaws}
use Rattle.thread_runs.proofs.ThreadPlaces.{part_true, claiming_only, filling_only}
use Rattle.thread_runs.proofs.SavedBytes.{length_is, length_few}
use Rattle.thread_runs.proofs.LoneEvents.{slots_many}
use Rattle.thread_runs.proofs.KeptRelation.{rax_saved, flags_saved}
use Rattle.thread_runs.proofs.StandingCode.{ring_new, one_in, position_kept, slot_kept}
use Rattle.thread_runs.proofs.RingLaw.{filled_at, ring_claimed}
use Rattle.thread_runs.proofs.RingClaims.{reaches_count, one_at_claim, position_held, reduces_to}
use Rattle.thread_runs.proofs.SiteEventSteps.{are_lists}
use Rattle.thread_runs.proofs.SiteEventsGoOn.{site_fits, in_front}
use Rattle.thread_runs.proofs.SiteStands.{not_of}
use Rattle.thread_runs.proofs.SiteSteps.{IsGood, placed, went, code, stale_save, saves_here}
use Rattle.thread_runs.proofs.WatchedRelation.{position_in, slot_in, Ground, InsideRing, RingMoves, Changes, stale_next}

-- what holds of each end of a list holds of the steps that are left
abbrev OfEnds : (List EventStep → Type 0) → List EventStep → Type 0
OfEnds P [] = P []
OfEnds P (s ∷ ss) = P (s ∷ ss) × OfEnds P ss

of_end : (P : List EventStep → Type 0) (j : ℕ) (ss rest : List EventStep) → rest ≡ drop j ss → OfEnds P ss → P rest
of_end P zero [] rest e h = subst P (sym e) h
of_end P (suc j) [] rest e h = subst P (sym e) h
of_end P zero (s ∷ ss) rest e h = subst P (sym e) h.0
of_end P (suc j) (s ∷ ss) rest e h = of_end P j ss rest e h.1

module _ (r : Threading) (A : AreEntries r.original r.listed) (S : IsThreadSound r) (L : StepLaws) (M : Bytes) (w : Watch) (one : Watched) (f : Fields) (to : Machine)
    (steps : ThreadStepsBy f (machine_of w.mem one.now) to) (R : Ground r S M w.stale w.mem one) (site : ThreadSite) (listed : Contains r.sites site) (n : ℕ) (keeps : site.event ≡ Some (Keeps n))
    (free : is_saving (Some (Keeps n)) site.when ≡ true → avoids (is_new r) (saved_from r.ring one.projected.core) (saved_len r.ring) ≡ true) where
  abbrev x0 : ℕ
  x0 = one.now.rip

  abbrev c : Core
  c = one.projected.core

  abbrev u : Machine
  u = machine_of w.mem one.now

  -- events keep a ring
  ringing : r.ring ≡ Some n
  ringing = S.rings site listed (Keeps n) keeps

  -- it is sound
  sound : IsRingSound r n
  sound = S.ring n ringing

  -- of the saved bytes none is new
  free16 : avoids (is_new r) (flag_slot c) 16 ≡ true
  free16 = ap (λ o. avoids (is_new r) (saved_from o c) (saved_len o)) (sym ringing) ∙ free refl

  new_apart : (x : ℕ) → is_new r x ≡ true → is_one_of (flag_slot c) 16 x ≡ false
  new_apart x h = false_from_ne_true (is_one_of (flag_slot c) 16 x) (λ e. true≢false (sym h ∙ not_of (is_new r) (flag_slot c) 16 x free16 e))

  -- a step that writes four new bytes leaves what isn't new
  new_four : (a v : ℕ) → to.mem ≡ put_list w.mem a (bytes_of 4 v) → position_at r.private ≤ a → a + 4 ≤ slot_at r.private n → (x : ℕ) → is_new r x ≡ false → to.mem x ≡ w.mem x
  new_four a v mem low high x e =
      let top = sound.low in
      let size = bytes_of_length 4 v in
      ap (λ (z : Bytes). z x) mem ∙ put_away w.mem a (bytes_of 4 v) x (omega (arith, high, top, size)) (elim (cases_lt x a) [
        | inl q ↦ inl q
        | inr q ↦ elim (cases_lt x (a + 4)) [
          | inl g ↦ absurd (true≢false (sym (ring_new r A S n ringing x (omega (arith, q, low)) (omega (arith, g, high))) ∙ e))
          | inr g ↦ inr (omega (arith, g, size))
        ]
      ])

  -- so it leaves four bytes elsewhere
  four_away : (a v b : ℕ) → to.mem ≡ put_list w.mem a (bytes_of 4 v) → a + 4 < 2 ^ 63 → b + 4 < 2 ^ 63 → (b + 4 ≤ a) ⊎ (a + 4 ≤ b) → number_at to.mem b 4 ≡ number_at w.mem b 4
  four_away a v b mem l m apart = number_on w.mem to.mem b 4 (λ x e.
      let q = one_in r A S b 4 x (omega (arith, m)) e in
      let size = bytes_of_length 4 v in
      ap (λ (z : Bytes). z x) mem ∙ put_away w.mem a (bytes_of 4 v) x (omega (arith, l, size)) (sides x q apart))
    where
      sides : (x : ℕ) → (b ≤ x) × (x < b + 4) → (b + 4 ≤ a) ⊎ (a + 4 ≤ b) → (x < a) ⊎ (a + length (bytes_of 4 v) ≤ x)
      sides x q (inl h) = let y = q.1 in inl (omega (arith, y, h))
      sides x q (inr h) = let y = q.0 in let size = bytes_of_length 4 v in inr (omega (arith, y, h, size))

  -- the thread in front of steps of the event
  abbrev At : List EventStep → Type 0
  At rest = IsInSite (Some (Keeps n)) site.when r.private site.number site.place c rest u

  -- what a step of the event leaves
  record IsDue : Type 0 where
    calm : (x : ℕ) → is_hidden r x ≡ false → stale_next r w one f x ≡ false → to.mem x ≡ w.mem x
    moves : RingMoves r n false one w.mem to

  module _ (s : EventStep) (rest : List EventStep) (h : At (s ∷ rest)) where
    abbrev N : WentOn (Some (Keeps n)) site.when r.private site.number site.place c s rest u to h
    N = went r A S L M w one f to steps R site listed (Some (Keeps n)) keeps s rest h free

    -- it stands so many bytes behind the event's first one, and behind the step so many
    here : (a : ℕ) → a + long (s ∷ rest) ≡ 67 → x0 ≡ site.place + a
    here a e =
        let l : long (thread_ring_list n r.private site.number).steps ≡ 67 = (are_lists (Some (Keeps n)) site.when r.private site.number).len in
        let x : x0 + long (s ∷ rest) ≡ site.place + long (thread_ring_list n r.private site.number).steps = h.rip in
        omega (arith, l, x, e)

    there : (b : ℕ) → b + long (drop (skipped s u.core) rest) ≡ 67 → to.rip ≡ site.place + b
    there b e =
        let l : long (thread_ring_list n r.private site.number).steps ≡ 67 = (are_lists (Some (Keeps n)) site.when r.private site.number).len in
        let y : to.rip + long (drop (skipped s u.core) rest) ≡ site.place + long (thread_ring_list n r.private site.number).steps = N.is.rip in
        omega (arith, l, y, e)

    abbrev way : (a b : ℕ) → a + long (s ∷ rest) ≡ 67 → b + long (drop (skipped s u.core) rest) ≡ 67 → InsideRing r n false x0 to.rip a b
    way a b e g = record { site = site; listed = listed; keeps = keeps; here = here a e; there = there b g; calm = refl }

    -- a step that leaves the ring, neither behind the claim nor before it both
    rests : (a b : ℕ) → x0 ≡ site.place + a → to.rip ≡ site.place + b → (low : a ≤ ring_len) (high : b ≤ ring_len) → (a < 34) ⊎ (48 ≤ a) → (b < 34) ⊎ (48 ≤ b) → eqb 25 a ≡ false → eqb 37 a ≡ false → leb 34 b ≡ leb 34 a
        → ((x : ℕ) → is_new r x ≡ true → to.mem x ≡ w.mem x) → RingMoves r n false one w.mem to
    rests a b at to_here low high q q' noclaim nofill even stays =
        let K = code r A S L M w one f to steps R site listed (Some (Keeps n)) keeps s rest h free in
        inl (record {
          position = position_kept r A S n ringing w.mem to.mem stays;
          slots = slot_kept r A S n ringing w.mem to.mem stays;
          free = filled_at r A S L.long site listed n x0 keeps (omega (arith, at)) (omega (arith, at, low)) (apart q at);
          free' = filled_at r A S L.long site listed n to.rip keeps (omega (arith, to_here)) (omega (arith, to_here, high)) (apart q' to_here);
          quiet = claiming_only r A S L.long site listed x0 K (ap₂ (λ o y. is_keeping o && y) keeps (shifted 25 at noclaim));
          dry = filling_only r A S L.long site listed x0 K ∙ ap₂ (λ o y. is_keeping o && y) keeps (shifted 37 at nofill);
          even = ring_claimed r A S L.long site listed n to.rip b keeps to_here high ∙ ap (λ z. cond z (site.number ∷ []) []) even ∙ sym (ring_claimed r A S L.long site listed n x0 a keeps at low);
        })
      where
        apart : {x m : ℕ} → (m < 34) ⊎ (48 ≤ m) → x ≡ site.place + m → (x < site.place + 34) ⊎ (site.place + 48 ≤ x)
        apart {x} {m} (inl h) e = inl (omega (arith, h, e))
        apart {x} {m} (inr h) e = inr (omega (arith, h, e))

        shifted : (k : ℕ) → x0 ≡ site.place + a → eqb k a ≡ false → eqb (site.place + k) x0 ≡ false
        shifted k e g = ne_eqb (site.place + k) x0 (λ z. true≢false (sym (eq-eqb k a (omega (arith, z, e))) ∙ g))

    -- a step that writes nothing
    quiet : (a b : ℕ) → a + long (s ∷ rest) ≡ 67 → b + long (drop (skipped s u.core) rest) ≡ 67 → to.mem ≡ w.mem → a ≤ ring_len → b ≤ ring_len → (a < 34) ⊎ (48 ≤ a) → (b < 34) ⊎ (48 ≤ b) → eqb 25 a ≡ false → eqb 37 a ≡ false
        → leb 34 b ≡ leb 34 a → IsDue
    quiet a b e g mem l m q q' i j k = record { calm = λ x y z. ap (λ (v : Bytes). v x) mem; moves = rests a b (here a e) (there b g) l m q q' i j k (λ x y. ap (λ (v : Bytes). v x) mem) }

    -- a step that saves
    save : (a b at v : ℕ) → a + long (s ∷ rest) ≡ 67 → b + long (drop (skipped s u.core) rest) ≡ 67 → to.mem ≡ put_list w.mem at (bytes_of 8 v) → ((x : ℕ) → is_one_of at 8 x ≡ true → is_one_of (flag_slot c) 16 x ≡ true)
        → a < 13 → b < 34 → eqb 25 a ≡ false → eqb 37 a ≡ false → leb 34 b ≡ leb 34 a → IsDue
    save a b at v e g mem within l m i j k =
        let away : (x : ℕ) → is_one_of (flag_slot c) 16 x ≡ false → to.mem x ≡ w.mem x = λ x y.
        ap (λ (z : Bytes). z x) mem ∙ put_elsewhere w.mem at 8 (bytes_of 8 v) x (bytes_of_length 8 v) (false_from_ne_true (is_one_of at 8 x) (λ z. true≢false (sym (within x z) ∙ y))) in
        let p : x0 ≡ site.place + a = here a e in
        let end : part_to Save site.event site.when ≡ 13 = ap (λ o. part_to Save o site.when) keeps in
        let saving : saves r x0 ≡ true = saves_here r A S L M w one f to steps R site listed (Some (Keeps n)) keeps s rest h free ∙ part_true Save x0 site (omega (arith, p)) (omega (arith, p, end, l)) in
        record {
          calm = λ x y z. away x (ap (λ o. is_one_of (saved_from o c) (saved_len o) x) (sym ringing) ∙ stale_save r A S L M w one f to steps R site listed (Some (Keeps n)) keeps s rest h free saving x z);
          moves = rests a b (here a e) (there b g) (omega (arith, l)) (omega (arith, m)) (inl (omega (arith, l))) (inl m) i j k (λ x y. away x (new_apart x y));
        }

  abbrev Due : List EventStep → Type 0
  Due [] = Unit {0}
  Due (s ∷ rest) = At (s ∷ rest) → IsDue

  -- LOCK XADD claims a slot
  claims : (rest : List EventStep) → rest ≡ drop 6 (thread_ring_list n r.private site.number).steps → Due (Claim 2 ∷ rest)
  claims rest e h =
      let ds = (thread_ring_list n r.private site.number).uses in
      let l = h.now in
      let a = position_at r.private in
      let x : slice_index l.held 2 ≡ number_at w.mem a 4 = position_held n r.private site.number c w.mem l.held h.beside.hold in
      let one' : reg l.core rax ≡ 1 = one_at_claim n r.private site.number rest c l h.began R.kept.processor.count (came rest e h) in
      let v = (slice_index l.held 2 + reg l.core rax) % 2 ^ 32 in
      let g = N (Claim 2) rest h in
      let mem : to.mem ≡ put_list w.mem a (bytes_of 4 v) = g.mem in
      let low = sound.low in
      let few = (length_few n sound.size).0 in
      let stays = new_four a v mem (omega arith) (omega (arith, few)) in
      let room = (R.ring_room n ringing).position.written in
      let many = reaches_count ds 0 (thread_ring_list n r.private site.number).steps (Claim 2 ∷ rest) (started c h.began) l h.came in
      let count = R.kept.processor.count in
      let core : reg to.core rax ≡ slice_index l.held 2 % 2 ^ 32 = ap (λ (z : Core). reg z rax) (g.is.beside.core ∙ ap (λ z. z.core) g.now) ∙ get_or-set_same l.core.regs 0 (slice_index l.held 2 % 2 ^ 32) 0 (omega (arith, many, count)) in
      record {
        calm = λ y i j. stays y (or_parts (is_listed_byte r.listed y) (is_new r y) i).1;
        moves = inr (inl (record {
          inside = way (Claim 2) rest h 25 34 (ap (λ z. 25 + long (Claim 2 ∷ z)) e ∙ refl) (ap (λ z. 34 + long z) e ∙ refl);
          position = ap (λ (z : Bytes). number_at z a 4) mem ∙ read_back w.mem 2 a 4 v (omega (arith, low)) (omega arith) room ∙ (let z : v % 2 ^ (8 * 4) ≡ (number_at w.mem a 4 + 1) % 2 ^ 32 = omega (arith, x, one') in z);
          slots = λ j k. four_away a v (slot_at r.private j) mem (omega (arith, low)) (omega (arith, low, k)) (inr (omega arith));
          value = core ∙ ap (λ z. z % 2 ^ 32) x;
        }));
      }
    where
      came : (rest : List EventStep) → rest ≡ drop 6 (thread_ring_list n r.private site.number).steps → (h : At (Claim 2 ∷ rest))
          → Reaches (thread_ring_list n r.private site.number).uses 0 (Store 0 ∷ IntoAh ∷ IntoAl ∷ Store 1 ∷ SetLow 1 ∷ Claim 2 ∷ rest) (Claim 2 ∷ rest) (started c h.began) h.now
      came rest e h = subst (λ (z : List EventStep). Reaches (thread_ring_list n r.private site.number).uses 0 (Store 0 ∷ IntoAh ∷ IntoAl ∷ Store 1 ∷ SetLow 1 ∷ Claim 2 ∷ z) (Claim 2 ∷ rest) (started c h.began) h.now) (sym e) h.came

  -- MOVZX leaves the number of a slot in eax
  reduces : (t : Bool) (rest : List EventStep) → n ≡ (if t then 65536 else 256) → 34 + long (Reduce t ∷ rest) ≡ 67 → Due (Reduce t ∷ rest)
  reduces t rest many e h =
      let l = h.now in
      let g = N (Reduce t) rest h in
      let mem : to.mem ≡ w.mem = g.mem in
      let count = R.kept.processor.count in
      let regs = reaches_count (thread_ring_list n r.private site.number).uses 0 (thread_ring_list n r.private site.number).steps (Reduce t ∷ rest) (started c h.began) l h.came in
      record {
        calm = λ y i j. ap (λ (z : Bytes). z y) mem;
        moves = inr (inr (inl (record {
          inside = way (Reduce t) rest h 34 37 e (let z : 34 + (3 + long rest) ≡ 67 = e in omega (arith, z));
          position = ap (λ (z : Bytes). position_in r z) mem;
          slots = λ j k. ap (λ (z : Bytes). slot_in r z j) mem;
          value = ap (λ (z : Core). reg z rax) (g.is.beside.core ∙ ap (λ z. z.core) g.now) ∙ reduces_to t (slice_index l.held 0) n l.core (regs ∙ count) many ∙ ap (λ (z : Core). reg z rax % n) (sym h.beside.core);
        })));
      }

  -- the MOV into the slot
  fills : (rest : List EventStep) → 37 + long (Put 3 (site.number + 1) ∷ rest) ≡ 67 → Due (Put 3 (site.number + 1) ∷ rest)
  fills rest e h =
      let l = h.now in
      let d = one.now.core in
      let j = reg d rax in
      let same : j ≡ reg l.core rax = ap (λ (z : Core). reg z rax) h.beside.core in
      let fits : 4 * reg l.core rax + 4 ≤ 4 * n = site_fits (Some (Keeps n)) site.when r.private site.number site.place c (Put 3 (site.number + 1)) rest u R.kept.processor
      (placed r A S L M w one f to steps R site listed (Some (Keeps n)) keeps) h in
      let below : j < n = omega (arith, same, fits) in
      let a = slot_at r.private j in
      let g = N (Put 3 (site.number + 1)) rest h in
      let mem : to.mem ≡ put_list w.mem a (bytes_of 4 (site.number + 1)) = g.mem ∙ ap (λ z. put_list w.mem (slot_at r.private z) (bytes_of 4 (site.number + 1))) (sym same) in
      let low = sound.low in
      let number = sound.numbers site listed (ap is_some keeps) in
      let stays = new_four a (site.number + 1) mem (omega arith) (omega (arith, below)) in
      let room = ((R.ring_room n ringing).slots j below).written in
      record {
        calm = λ x h k. stays x (or_parts (is_listed_byte r.listed x) (is_new r x) h).1;
        moves = inr (inr (inr (record {
          inside = way (Put 3 (site.number + 1)) rest h 37 48 e (let z : 37 + (11 + long rest) ≡ 67 = e in omega (arith, z));
          position = four_away a (site.number + 1) (position_at r.private) mem (omega (arith, low, below)) (omega (arith, low)) (inl (omega arith));
          slot = ap (λ (z : Bytes). number_at z a 4) mem ∙ read_back w.mem 2 a 4 (site.number + 1) (omega (arith, low, below)) (omega arith) room
              ∙ (let z : (site.number + 1) % 2 ^ (8 * 4) ≡ site.number + 1 = omega (arith, number) in z);
          slots = λ k l g. four_away a (site.number + 1) (slot_at r.private k) mem (omega (arith, low, below)) (omega (arith, low, l)) (elim (cases_lt k j) [
            | inl q ↦ inl (omega (arith, q))
            | inr q ↦ inr (omega (arith, q, g))
          ]);
        })));
      }

  -- each step is due, wherever the thread stands
  all_due : OfEnds Due (thread_ring_list n r.private site.number).steps
  all_due = (
    (λ h. save (Store 0) _ h 0 8 (slot c) _ refl refl (N (Store 0) _ h).mem (λ x e. rax_saved (Some n) c x e) (omega arith) (omega arith) refl refl refl),
    (
      (λ h. quiet IntoAh _ h 8 9 refl refl (N IntoAh _ h).mem (omega arith) (omega arith) (inl (omega arith)) (inl (omega arith)) refl refl refl),
      (
        (λ h. quiet IntoAl _ h 9 12 refl refl (N IntoAl _ h).mem (omega arith) (omega arith) (inl (omega arith)) (inl (omega arith)) refl refl refl),
        (
          (λ h. save (Store 1) _ h 12 20 (flag_slot c) _ refl refl (N (Store 1) _ h).mem (λ x e. flags_saved (Some n) n c x refl e) (omega arith) (omega arith) refl refl refl),
          (
            (λ h. quiet (SetLow 1) _ h 20 25 refl refl (N (SetLow 1) _ h).mem (omega arith) (omega arith) (inl (omega arith)) (inl (omega arith)) refl refl refl),
            (
              claims (drop 6 (thread_ring_list n r.private site.number).steps) refl,
              (
                reduces (not (eqb n 256)) (drop 7 (thread_ring_list n r.private site.number).steps) (slots_many n (length_is n sound.size)) refl,
                (
                  fills (drop 8 (thread_ring_list n r.private site.number).steps) refl,
                  (
                    (λ h. quiet (Load 1) _ h 48 56 refl refl (N (Load 1) _ h).mem (omega arith) (omega arith) (inr (omega arith)) (inr (omega arith)) refl refl refl),
                    (
                      (λ h. quiet FromAl _ h 56 58 refl refl (N FromAl _ h).mem (omega arith) (omega arith) (inr (omega arith)) (inr (omega arith)) refl refl refl),
                      (
                        (λ h. quiet FromAh _ h 58 59 refl refl (N FromAh _ h).mem (omega arith) (omega arith) (inr (omega arith)) (inr (omega arith)) refl refl refl),
                        (
                          (λ h. quiet (Load 0) _ h 59 67 refl refl (N (Load 0) _ h).mem (omega arith) (omega arith) (inr (omega arith)) (inr (omega arith)) refl refl refl),
                          tt,
                        ),
                      ),
                    ),
                  ),
                ),
              ),
            ),
          ),
        ),
      ),
    ),
  )

  pub good_ring : (s : EventStep) (rest : List EventStep) → At (s ∷ rest) → IsGood r A S L M w one f to steps R
  good_ring s rest h =
      let p = in_front (Some (Keeps n)) site.when r.private site.number site.place c (s ∷ rest) u h in
      let q = of_end Due p.passed (thread_ring_list n r.private site.number).steps (s ∷ rest) p.left all_due h in
      record { calm = q.calm; numbers = λ t k b v. absurd (no_mark (sym (S.rings t k (Marks b) v) ∙ ringing)); ring = λ m e. subst (λ z. RingMoves r z false one w.mem to) (some_is n m (sym ringing ∙ e)) q.moves }
    where
      no_mark : None ≡ Some n → ⊥
      no_mark e = absurd cc
