-- Events of a thread that runs alone: the one that counts, and the one with a ring.
use Rattle.std.proofs.Common.{◌≡◌, ℕ, ◌<◌, ◌≤◌, eqb, cond, None, Some, Bool, suc, zero, ◌+◌, ◌*◌, ◌%◌, ◌^◌, true, false, not, List, [], ◌∷◌, length, refl, sym, ap, ◌∙◌, subst, arith, true≢false, ◌⊎◌, inl, inr, set}
use Rattle.std.proofs.lemmas.Bool.{or_from, or_parts, false_from_ne_true}
use Rattle.pun_base.specs.declared.action.Base.TheVariants.{Count}
use Rattle.pun_base.specs.Memory.{Bytes}
use Rattle.cpu_alu.specs.declared.operation.Width.TheVariants.{W64}
use Rattle.cpu_alu.specs.declared.operation.AluOp.TheVariants.{Inc}
use Rattle.cpu_alu.specs.Arithmetic.{arithmetic}
use Rattle.cpu_state.specs.declared.state.Core.{Core}
use Rattle.cpu_state.specs.Processor.{IsProcessorCore}
use Rattle.insn_form.specs.Machine.{Machine}
use Rattle.insn_form.specs.Runs.{last_of}
use Rattle.insn_form.specs.Conditions.{is_met}
use Rattle.insn_form.specs.Meaning.{effect}
use Rattle.cpu_state.specs.Bytes.{advanced, allows, lacking, number_at, put_list, bytes_of}
use Rattle.insn_form.specs.Operands.{reg, rax, with_reg}
use Rattle.trampoline.specs.EventLists.{counter_at, four_at, slots_at}
use Rattle.thread_runs.specs.ThreadCode.{slot_at, flag_slot, slot}
use Rattle.event_steps.specs.DoneSteps.{is_one_of, is_in, AreApart, AreFree, ended, core_done}
use Rattle.event_steps.specs.declared.step.Datum.{Datum}
use Rattle.event_steps.specs.WholeEvents.{FitAll, Leaves}
use Rattle.thread_runs.specs.Threading.{is_saved}
use Rattle.thread_runs.specs.AloneWithRing.{CanKeepAlone, EventKeepsAlone}
use Rattle.event_steps.proofs.ByteRanges.{range_first, range_rest, put_elsewhere}
use Rattle.thread_runs.proofs.SavedBytes.{flags_then_rax, saved_two, rax_apart, length_is, length_few}
use Rattle.thread_runs.specs.Alone.{EventCountsAlone}
use Rattle.thread_runs.proofs.ThreadListCode.{are_thread_lists}
use Rattle.thread_runs.proofs.RestoredRings.{put_fits, few_slots, rings_restore}
use Rattle.cpu_state.specs.Fixed.{IsFixed}
use Rattle.std.specs.Prelude.{if◌then◌else◌}
use Rattle.thread_runs.proofs.RestoredRegisters.{restores_alone}
use Rattle.insn_form.specs.FlagsBack.{kept_in_ax}
use Rattle.std.proofs.lemmas.List.{get_or-set_same, length-set}
use Rattle.std.proofs.lemmas.Nat.{mod_below}
use Rattle.insn_form.specs.Touched.{perms_at}
use Rattle.insn_form.proofs.TouchedMemory.{put_list_perms}
use Rattle.event_steps.proofs.ThreadSteps.{lacking_on}
use Rattle.cpu_state.proofs.Readback.{bytes_of_length, read_back}
use Rattle.event_steps.specs.declared.step.EventStep.TheVariants.{Store, IntoAh, IntoAl, SetLow, Claim, Reduce, Put, Load, FromAl, FromAh}
use Rattle.event_steps.specs.EventSteps.Mode.{Shared}
use Rattle.trampoline.specs.Recording.{coming}
use Rattle.thread_runs.specs.ThreadLists.{thread_ring_list, saving_thread_event}
use Rattle.event_steps.proofs.EventRuns.{events_leave}
use Rattle.trampoline.proofs.PrivateData.{in_range}
use Rattle.event_steps.proofs.InterleavedSteps.{held_now}
use Rattle.event_steps.proofs.FlagsInAx.{cut, all_back}

-- it restores registers and flags
count_restores : (p i : ℕ) (c : Core) (m : Bytes) → IsProcessorCore c → (ended 0 (saving_thread_event Count [] p i).steps (coming (saving_thread_event Count [] p i).uses c m)).core ≡ c
unfolding effect is_met
count_restores p i c m h =
    let x = reg c rax in
    let w : x % 2 ^ 64 % 2 ^ 64 ≡ x = ap (λ z. z % 2 ^ 64) (cut x (h.small 0)) ∙ cut x (h.small 0) in
    all_back c (arithmetic Inc W64 (number_at m (counter_at p i) 8 % 2 ^ 64) 1 c.flags).flags (x % 2 ^ 64 % 2 ^ 64) h refl w

-- the event of a thread that runs alone takes seven steps, adds one to its counter, and leaves all else but the saved bytes
pub counts_alone : EventCountsAlone
counts_alone p i place s h =
    let e = saving_thread_event Count [] p i in
    let c = s.core in
    let here : s.rip ≡ place + 0 = h.rip ∙ omega arith in
    let q = events_leave Shared e.uses c 0 e.steps place (coming e.uses c s.mem) s
    (tt, (omega arith, refl, refl), omega arith, (tt, tt, omega arith, (tt, tt, omega arith, (tt, (omega arith, refl, refl), omega arith, (tt, tt, omega arith, (tt, tt, omega arith, (tt, (omega arith, refl, refl), omega arith, tt)))))))
    (omega (arith, h.low)) here h.stands ((omega arith, omega arith), (omega (arith, h.room), tt))
    ((λ y k. or_from (is_one_of (counter_at p i) 8 y) false (h.apart y k) refl), ((λ y k. refl), tt))
    ((λ t. h.can.slot_read), h.can.slot_written, ((λ t. h.can.mark_read), h.can.mark_written, tt))
    (tt, (tt, (tt, (tt, (tt, (tt, (tt, tt)))))))
    (record { core = refl; stack = refl; hold = held_now e.uses c s.mem }) in
    let end = q.1 in (
      q.0,
      record {
        run = end.run;
        seven = end.many;
        there = end.there;
        core = end.beside.core ∙ count_restores p i c s.mem h.processor;
        world = end.world;
        counter = end.beside.hold.1.0 refl;
        kept = λ y k l. end.kept y (or_from (is_saved c y) _ k (or_from (is_one_of (counter_at p i) 8 y) false l refl));
      },
    )

-- what lies in neither of two parts lies in none of both
join_out : (a k l x : ℕ) → a < 2 ^ 64 → is_one_of a k x ≡ false → is_one_of ((a + k) % 2 ^ 64) l x ≡ false → is_one_of a (k + l) x ≡ false
join_out a zero l x s f g =
    let z : (a + zero) % 2 ^ 64 ≡ a = omega (arith, s) in let y : l ≡ zero + l = omega arith in
    subst (λ k. is_one_of a k x ≡ false) y (subst (λ b. is_one_of b l x ≡ false) z g)
join_out a (suc k) l x s f g =
    let q = or_parts (eqb x a) (is_one_of (advanced a 1) k x) f in
    let z : (a + suc k) % 2 ^ 64 ≡ (advanced a 1 + k) % 2 ^ 64 = omega (arith, s) in
    let y : suc (k + l) ≡ suc k + l = omega arith in
    let r = join_out (advanced a 1) k l x (omega arith) q.1 (subst (λ b. is_one_of b l x ≡ false) z g) in
    subst (λ j. is_one_of a j x ≡ false) y (or_from (eqb x a) (is_one_of (advanced a 1) (k + l) x) q.0 r)

-- two parts that can be written are both
join_free : (p : ℕ) (m : Bytes) (a k l : ℕ) → a < 2 ^ 64 → lacking p m a k ≡ None → lacking p m ((a + k) % 2 ^ 64) l ≡ None → lacking p m a (k + l) ≡ None
join_free p m a zero l s f g =
    let z : (a + zero) % 2 ^ 64 ≡ a = omega (arith, s) in let y : l ≡ zero + l = omega arith in
    subst (λ k. lacking p m a k ≡ None) y (subst (λ b. lacking p m b l ≡ None) z g)
join_free p m a (suc k) l s f g =
    let z : (a + suc k) % 2 ^ 64 ≡ (advanced a 1 + k) % 2 ^ 64 = omega (arith, s) in
    let y : suc (k + l) ≡ suc k + l = omega arith in
    subst (λ j. lacking p m a j ≡ None) y (by_test (allows p (m a)) (λ r. join_free p m (advanced a 1) k l (omega arith) r (subst (λ b. lacking p m b l ≡ None) z g)) f)
  where
    by_test : (b : Bool) → (lacking p m (advanced a 1) k ≡ None → lacking p m (advanced a 1) (k + l) ≡ None) → cond b (lacking p m (advanced a 1) k) (Some a) ≡ None → cond b (lacking p m (advanced a 1) (k + l)) (Some a) ≡ None
    by_test true go e = go e
    by_test false go e = absurd cc

-- bytes of none of the slots are none of the array's
slots_out : (p n x : ℕ) → p + 68 + 4 * n ≤ 0x7FFF0000 → ((j : ℕ) → j < n → is_one_of (slot_at p j) 4 x ≡ false) → is_one_of (p + 68) (4 * n) x ≡ false
slots_out p zero x low h = refl
slots_out p (suc n) x low h =
    let z : 4 * n + 4 ≡ 4 * suc n = omega arith in
    let w : p + 68 + 4 * n ≡ (p + 68 + 4 * n) % 2 ^ 64 = omega (arith, low) in
    subst (λ k. is_one_of (p + 68) k x ≡ false) z
    (join_out (p + 68) (4 * n) 4 x (omega (arith, low)) (slots_out p n x (omega (arith, low)) (λ j l. h j (omega (arith, l)))) (subst (λ a. is_one_of a 4 x ≡ false) w (h n (omega arith))))

-- slots that can be written are an array that can be
pub slots_free : (p n : ℕ) (m : Bytes) → p + 68 + 4 * n ≤ 0x7FFF0000 → ((j : ℕ) → j < n → lacking 2 m (slot_at p j) 4 ≡ None) → lacking 2 m (p + 68) (4 * n) ≡ None
slots_free p zero m low h = refl
slots_free p (suc n) m low h =
    let z : 4 * n + 4 ≡ 4 * suc n = omega arith in
    let w : p + 68 + 4 * n ≡ (p + 68 + 4 * n) % 2 ^ 64 = omega (arith, low) in
    subst (λ k. lacking 2 m (p + 68) k ≡ None) z
    (join_free 2 m (p + 68) (4 * n) 4 (omega (arith, low)) (slots_free p n m (omega (arith, low)) (λ j l. h j (omega (arith, l)))) (subst (λ a. lacking 2 m a 4 ≡ None) w (h n (omega arith))))

ax_long : (c : Core) → IsProcessorCore c → length (kept_in_ax c).regs ≡ 16
unfolding effect is_met
ax_long c h = length-set (set c.regs 0 _) 0 _ ∙ length-set c.regs 0 _ ∙ h.count

-- MOVZX leaves the number of a slot
reduced_to : (t : Bool) (y n x : ℕ) (d : Core) → length d.regs ≡ 16 → reg d rax ≡ x % 2 ^ 32 → n ≡ (if t then 65536 else 256) → reg (core_done (Reduce t) y d) rax ≡ x % n
reduced_to true y n x d l e k = get_or-set_same d.regs 0 (reg d rax % 2 ^ 16) 0 (omega (arith, l)) ∙ ap (λ z. z % 2 ^ 16) e ∙ (let z : x % 2 ^ 32 % 2 ^ 16 ≡ x % 65536 = omega arith in z) ∙ ap (λ z. x % z) (sym k)
reduced_to false y n x d l e k = get_or-set_same d.regs 0 (reg d rax % 2 ^ 8) 0 (omega (arith, l)) ∙ ap (λ z. z % 2 ^ 8) e ∙ (let z : x % 2 ^ 32 % 2 ^ 8 ≡ x % 256 = omega arith in z) ∙ ap (λ z. x % z) (sym k)

pub slots_many : (n : ℕ) → (eqb n 256 ≡ true) × (n ≡ 256) ⊎ (eqb n 256 ≡ false) × (n ≡ 65536) → n ≡ (if not (eqb n 256) then 65536 else 256)
slots_many n (inl q) = q.1 ∙ ap (λ t. if not t then 65536 else 256) (sym q.0)
slots_many n (inr q) = q.1 ∙ ap (λ t. if not t then 65536 else 256) (sym q.0)

module _ (n p i place : ℕ) (s : Machine) (h : CanKeepAlone n p i place s) where
  abbrev c : Core
  c = s.core

  abbrev us : List Datum
  us = (thread_ring_list n p i).uses

  -- the position and the array
  abbrev shared : List Datum
  shared = four_at (p + 64) ∷ slots_at (p + 68) n ∷ []

  room : p + 68 + 4 * n ≤ 0x7FFF0000
  room = h.room

  shared_out : (x : ℕ) → is_one_of (flag_slot c) 16 x ≡ true → is_in shared c x ≡ false
  shared_out x k =
      let q = h.apart x k in
      or_from (is_one_of (p + 64) 4 x) _ q.0 (or_from (is_one_of (p + 68) (4 * n) x) false (slots_out p n x room q.1) refl)

  apart : AreApart us c
  apart = (
    (λ x k. or_from (is_one_of (flag_slot c) 8 x) _ (rax_apart c x k) (shared_out x (range_rest (flag_slot c) 8 8 x (omega arith) (ap (λ z. is_one_of z 8 x) (flags_then_rax c) ∙ k)))),
    (
      (λ x k. shared_out x (range_first (flag_slot c) 8 8 x k)),
      (
        (λ x k. or_from (is_one_of (p + 68) (4 * n) x) false (false_from_ne_true _ (λ e.
            let q = in_range (p + 64) 4 x (let r = room in omega (arith, r)) k in let z = in_range (p + 68) (4 * n) x (let r = room in omega (arith, r)) e in omega (arith, q.1, z.0))) refl),
        ((λ x k. refl), tt),
      ),
    ),
  )

  free : AreFree us c s.mem
  free = (
    (λ t. (saved_two 4 s.mem c h.can.saved_read).1),
    (saved_two 2 s.mem c h.can.saved_written).1,
    (
      (λ t. (saved_two 4 s.mem c h.can.saved_read).0),
      (saved_two 2 s.mem c h.can.saved_written).0,
      ((λ t. h.can.position_read), h.can.position_written, ((λ t. absurd (true≢false (sym t))), slots_free p n s.mem room h.can.slots_written, tt)),
    ),
  )

  -- where the event is ready, it runs
  ran : (ws : List Machine) × Leaves Shared us c 0 (thread_ring_list n p i).steps place (coming us c s.mem) s ws
  ran = events_leave Shared us c 0 (thread_ring_list n p i).steps place (coming us c s.mem) s (
    tt,
    (omega arith, refl, refl),
    omega arith,
    (
      tt,
      tt,
      omega arith,
      (
        tt,
        tt,
        omega arith,
        (
          tt,
          (omega arith, refl, refl),
          omega arith,
          (
            omega arith,
            tt,
            omega arith,
            (
              tt,
              (omega arith, refl, refl),
              omega arith,
              (tt, tt, omega arith, ((tt, h.number), (omega arith, refl), omega arith, (tt, (omega arith, refl, refl), omega arith, (tt, tt, omega arith, (tt, tt, omega arith, (tt, (omega arith, refl, refl), omega arith, tt)))))),
            ),
          ),
        ),
      ),
    ),
  )
      (omega (arith, h.low)) (h.rip ∙ omega arith) (subst (λ (code : List ℕ). IsFixed s.mem place code) (sym ((are_thread_lists p i).ring n)) h.stands)
      ((omega arith, omega arith), ((omega arith, omega arith), (omega (arith, h.room), (omega (arith, h.room), tt)))) apart free (fit (not (eqb n 256)) (few_slots n (eqb n 256) refl h.size))
      (record { core = refl; stack = refl; hold = held_now us c s.mem })
    where
      fit : (t : Bool) → 4 * (if t then 2 ^ 16 else 2 ^ 8) ≤ 4 * n
          → FitAll us 0 (Store 0 ∷ IntoAh ∷ IntoAl ∷ Store 1 ∷ SetLow 1 ∷ Claim 2 ∷ Reduce t ∷ Put 3 (i + 1) ∷ Load 1 ∷ FromAl ∷ FromAh ∷ Load 0 ∷ []) (coming us c s.mem)
      fit t few = (tt, (tt, (tt, (tt, (tt, (tt, (tt, (put_fits n t _ _ few, (tt, (tt, (tt, (tt, tt))))))))))))

  abbrev ws : List Machine
  ws = ran.0

  -- registers and flags are as they were
  back_again : (last_of s ws).core ≡ c
  back_again = ran.1.beside.core ∙ restores_alone (thread_ring_list n p i) (rings_restore n p i h.size).0 c s.mem h.processor

  -- twelve steps were made
  twelve : length ws ≡ 12
  twelve = ran.1.many

  -- the position is one more
  position : number_at (last_of s ws).mem (p + 64) 4 ≡ (number_at s.mem (p + 64) 4 + 1) % 2 ^ 32
  position = ran.1.beside.hold.1.1.0 refl ∙ ap (λ z. (number_at s.mem (p + 64) 4 + z) % 2 ^ 32) (let e = ax_long c h.processor in get_or-set_same (kept_in_ax c).regs 0 1 0 (omega (arith, e)))

  abbrev x : ℕ
  x = number_at s.mem (p + 64) 4

  -- memory once rax and the flags are saved, and before the slot is filled
  abbrev own : List ℕ
  own = bytes_of 8 (reg c rax % 2 ^ 64)

  abbrev word : List ℕ
  word = bytes_of 8 (reg (kept_in_ax c) rax % 2 ^ 64)

  abbrev next : List ℕ
  next = bytes_of 4 ((x + reg (with_reg (kept_in_ax c) rax 1) rax) % 2 ^ 32)

  abbrev m1 : Bytes
  m1 = put_list s.mem (slot c) own

  abbrev m2 : Bytes
  m2 = put_list m1 (flag_slot c) word

  abbrev before : Bytes
  before = put_list m2 (p + 64) next

  -- the slot that is filled
  number : reg (core_done (Reduce (not (eqb n 256))) (reg c rax % 2 ^ 64) (core_done (Claim 2) x (with_reg (kept_in_ax c) rax 1))) rax ≡ x % n
  number =
      let e = ax_long c h.processor in
      let k = kept_in_ax c in
      let d = core_done (Claim 2) x (with_reg k rax 1) in
      let long : length d.regs ≡ 16 = length-set (set k.regs 0 1) 0 (x % 2 ^ 32) ∙ length-set k.regs 0 1 ∙ e in
      reduced_to (not (eqb n 256)) (reg c rax % 2 ^ 64) n x d long (get_or-set_same (set k.regs 0 1) 0 (x % 2 ^ 32) 0 (let z = length-set k.regs 0 1 in omega (arith, z, e))) (slots_many n (length_is n h.size))

  filled : (last_of s ws).mem ≡ put_list before (slot_at p (x % n)) (bytes_of 4 (i + 1))
  filled = ran.1.mem ∙ ap (λ z. put_list before (p + 68 + 4 * z) (bytes_of 4 (i + 1))) number

  -- it holds the number
  holds : number_at (last_of s ws).mem (slot_at p (x % n)) 4 ≡ i + 1
  holds =
      let q = mod_below x n (length_few n h.size).0 in
      let r = room in
      let a = slot_at p (x % n) in
      let perms : (y : ℕ) → perms_at before y ≡ perms_at s.mem y = (λ y. put_list_perms m2 (p + 64) next y ∙ put_list_perms m1 (flag_slot c) word y ∙ put_list_perms s.mem (slot c) own y) in
      let free' : lacking 2 before a 4 ≡ None = lacking_on 2 s.mem before a 4 perms ∙ h.can.slots_written (x % n) q in
      let small : (i + 1) % 2 ^ (8 * 4) ≡ i + 1 = (let l = h.number in omega (arith, l)) in
      ap (λ (m : Bytes). number_at m a 4) filled ∙ read_back before 2 a 4 (i + 1) (omega (arith, q, r)) (omega arith) free' ∙ small

  -- all other bytes stay
  others : (y : ℕ) → is_one_of (flag_slot c) 16 y ≡ false → is_one_of (p + 64) 4 y ≡ false → is_one_of (slot_at p (x % n)) 4 y ≡ false → (last_of s ws).mem y ≡ s.mem y
  others y f g k =
      ap (λ (m : Bytes). m y) filled ∙ put_elsewhere before (slot_at p (x % n)) 4 (bytes_of 4 (i + 1)) y (bytes_of_length 4 (i + 1)) k
      ∙ put_elsewhere m2 (p + 64) 4 next y (bytes_of_length 4 ((x + reg (with_reg (kept_in_ax c) rax 1) rax) % 2 ^ 32)) g
      ∙ put_elsewhere m1 (flag_slot c) 8 word y (bytes_of_length 8 (reg (kept_in_ax c) rax % 2 ^ 64))
      (false_from_ne_true _ (λ e. true≢false (sym (range_first (flag_slot c) 8 8 y e) ∙ f)))
      ∙ put_elsewhere s.mem (slot c) 8 own y (bytes_of_length 8 (reg c rax % 2 ^ 64))
      (false_from_ne_true _ (λ e. true≢false (sym (range_rest (flag_slot c) 8 8 y (omega arith) (ap (λ z. is_one_of z 8 y) (flags_then_rax c) ∙ e)) ∙ f)))

-- the event that keeps a ring, of a thread that runs alone
pub keeps_alone : EventKeepsAlone
keeps_alone n p i place s h = (
  ws n p i place s h,
  record {
    run = (ran n p i place s h).1.run;
    twelve = twelve n p i place s h;
    there = (ran n p i place s h).1.there;
    core = back_again n p i place s h;
    world = (ran n p i place s h).1.world;
    position = position n p i place s h;
    slot = holds n p i place s h;
    kept = others n p i place s h;
  },
)
