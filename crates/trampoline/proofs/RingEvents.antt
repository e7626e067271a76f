-- Events with a ring are recorded by the law of lists.
use Rattle.std.proofs.Common.{◌≡◌, inr, ℕ, ◌+◌, ◌-◌, ◌*◌, ◌%◌, ◌^◌, ◌<◌, ◌≤◌, Bool, true, false, not, eqb, if◌then◌else◌, List, [], ◌∷◌, length, map, Some, set, refl, sym, ap, ◌∙◌, arith, true≢false, eq-eqb}
use Rattle.std.specs.Prelude.{nat_lt, ◌++◌}
use Rattle.std.proofs.lemmas.Bool.{eqb-true, ltb-true, lt-ltb}
use native.Mathlib.Nat.{mod-eq_of_lt}
use Rattle.std.proofs.Math.Nat.{mod_self}
use Rattle.std.proofs.lemmas.Nat.{mod_below}
use Rattle.std.proofs.lemmas.List.{set-set, get_or-set_same, length-set}
use Rattle.pun_base.specs.Memory.{Bytes}
use Rattle.pun_base.specs.Field.{field, with_field}
use Rattle.pun_base.specs.Limits.{most_sites}
use Rattle.cpu_alu.specs.declared.flag_word.Flags.{Flags}
use Rattle.cpu_alu.specs.declared.operation.Width.TheVariants.{W32}
use Rattle.cpu_alu.specs.declared.operation.AluOp.TheVariants.{Sub}
use Rattle.cpu_alu.specs.Arithmetic.{arithmetic}
use Rattle.cpu_alu.proofs.DifferenceFlags.{compared}
use Rattle.cpu_state.specs.declared.state.Core.{Core}
use Rattle.cpu_state.specs.Bytes.{number_at, put_list, bytes_of}
use Rattle.cpu_state.specs.Processor.{IsProcessorCore}
use Rattle.cpu_state.proofs.Readback.{bytes_of_length}
use Rattle.insn_form.specs.Operands.{reg, with_reg, with_flags, rax}
use Rattle.insn_form.specs.Conditions.{is_met}
use Rattle.insn_form.specs.Meaning.{effect}
use Rattle.insn_form.specs.FlagsBack.{kept_in_ax}
use Rattle.relocate_insn.proofs.PrivateRange.{put_away}
use Rattle.trampoline.specs.Events.{bytes_at, ring_mark, event_code, event_length}
use Rattle.trampoline.proofs.DataParts.{field_written, number_part, bytes_keep}
use Rattle.trampoline.proofs.FailedComparisons.{flags_32}
use Rattle.event_steps.proofs.FlagsInAx.{twice}
use Rattle.event_steps.specs.declared.step.Datum.{Datum}
use Rattle.event_steps.specs.declared.step.EventStep.{EventStep}
use Rattle.event_steps.specs.DoneSteps.{Local, done, ended}
use Rattle.event_steps.specs.WholeEvents.{left_in}
use Rattle.event_steps.specs.declared.step.EventStep.TheVariants.{Store, StoreLow, Load, LoadLow, IntoAh, IntoAl, FromAl, FromAh, SetLow, NextLow, CompareLow, Put, SkipIf}
use Rattle.trampoline.specs.Recording.{SaysEnough, coming}
use Rattle.trampoline.specs.EventLists.{ring_list}
use Rattle.trampoline.proofs.PrivateData.{listed_recorded}
use Rattle.trampoline.proofs.ConditionEvents.{low_back, rax_is, no_puts}
use Rattle.pun_base.specs.declared.action.Action.TheVariants as action
use Rattle.insn_form.specs.Machine.{Machine}
use Rattle.relocate_insn.specs.Running.{IsReady}
use Rattle.trampoline.specs.Running.{Recorded}

-- JNE is taken exactly where the numbers differ
pub differs : (x n : ℕ) (f : Flags) → x < 2 ^ 32 → n < 2 ^ 32 → is_met 5 (flags_32 x n f) ≡ not (eqb x n)
unfolding is_met
differs x n f h k =
    let a : x % 2 ^ 32 % 2 ^ 32 ≡ x = omega (arith, h) in
    let b : n % 2 ^ 32 ≡ n = omega (arith, k) in
    ap not ((compared W32 (x % 2 ^ 32) n f).equal ∙ λ j. eqb (a j) (b j))

module _ (len p i : ℕ) where
  abbrev ds : List Datum
  ds = (ring_list len p i).uses

  abbrev rest : List EventStep
  rest = StoreLow 2 ∷ LoadLow 1 ∷ FromAl ∷ FromAh ∷ Load 0 ∷ []

  abbrev turning : List EventStep
  turning = SkipIf 5 1 ∷ SetLow 0 ∷ rest

  abbrev tail : List EventStep
  tail = NextLow ∷ CompareLow len ∷ turning

  module _ (c : Core) (h : IsProcessorCore c) (x2 x3 : ℕ) (u : Bool) where
    abbrev k : Core
    k = kept_in_ax c

    abbrev at : Core → Local
    at d = record { core = d; held = (reg c rax % 2 ^ 64) ∷ (reg k rax % 2 ^ 32) ∷ x2 ∷ x3 ∷ []; marked = u }

    -- with any number in rax and any flags, all comes back
    over_all : (v z : ℕ) (g : Flags) → with_reg (with_flags (with_reg k rax v) g) rax z ≡ with_reg (with_flags c g) rax z
    unfolding effect is_met
    over_all v z g =
        let e = set-set (set (set c.regs 0 _) 0 _) 0 v z ∙ set-set (set c.regs 0 _) 0 _ z ∙ set-set c.regs 0 _ z in
        λ j. record { regs = e j; flags = g; fs = c.fs; gs = c.gs }

    rest_core : (v : ℕ) (g : Flags) → g.rest ≡ c.flags.rest → (ended 0 rest (at (with_flags (with_reg k rax v) g))).core ≡ c
    rest_core v g r =
        ap (λ (z : Core). (ended 0 (FromAl ∷ FromAh ∷ Load 0 ∷ []) (record { core = z; held = (reg c rax % 2 ^ 64) ∷ (reg k rax % 2 ^ 32) ∷ (reg (with_flags (with_reg k rax v) g) rax % 2 ^ 32) ∷ x3 ∷ []; marked = u })).core)
        (over_all v (reg k rax % 2 ^ 32 % 2 ^ 32) g)
        ∙ low_back c g (reg k rax % 2 ^ 32) (reg c rax % 2 ^ 64 % 2 ^ 64) h r refl (rax_is c h)

    turn_core : (v : ℕ) (g : Flags) → g.rest ≡ c.flags.rest → (b : Bool) → (ended (if b then 1 else 0) (SetLow 0 ∷ rest) (at (with_flags (with_reg k rax v) g))).core ≡ c
    turn_core v g r true = rest_core v g r
    turn_core v g r false = ap (λ (z : Core). (ended 0 rest (at (with_flags z g))).core) (twice k v 0) ∙ rest_core 0 g r

    tail_core : (v : ℕ) → (ended 0 tail (at (with_reg k rax v))).core ≡ c
    unfolding effect
    tail_core v =
        let v1 = (reg (with_reg k rax v) rax + 1) % 2 ^ 32 in
        let g = λ (d : Core). (arithmetic Sub W32 (reg d rax % 2 ^ 32) len k.flags).flags in
        ap (λ (z : Core). (ended 0 turning (at (with_flags z (g z)))).core) (twice k v v1)
        ∙ turn_core v1 (g (with_reg k rax v1)) refl (is_met 5 (g (with_reg k rax v1)))

    ax_count : length k.regs ≡ 16
    unfolding effect is_met
    ax_count = length-set (set c.regs 0 _) 0 _ ∙ length-set c.regs 0 _ ∙ h.count

    -- memory: the position moves on
    module _ (pos : ℕ) (inring : pos < len) (few : len ≤ 65536) (w : Bytes) where
      abbrev next : ℕ
      next = (pos + 1) % len

      abbrev Left : ℕ → List EventStep → Core → Type 0
      Left j ss d = left_in ds c j ss (at d) w ≡ put_list w (p + 64) (bytes_of 4 next)

      in_rax : (v : ℕ) → reg (with_reg k rax v) rax ≡ v
      in_rax v = let e = ax_count in get_or-set_same k.regs 0 v 0 (omega (arith, e))

      next_low : next < len
      next_low = mod_below (pos + 1) len (omega (arith, inring))

      low_half : (x : ℕ) → x < 2 ^ 32 → x % 2 ^ 32 ≡ x
      low_half x l = omega (arith, l)

      rest_left : (v : ℕ) (g : Flags) → v ≡ next → Left 0 rest (with_flags (with_reg k rax v) g)
      rest_left v g e = ap (λ z. put_list w (p + 64) (bytes_of 4 z)) (ap (λ z. z % 2 ^ 32) (in_rax v ∙ e) ∙ low_half next (let q = next_low in omega (arith, q, few)))

      wrapped : eqb (pos + 1) len ≡ true → 0 ≡ next
      wrapped e = sym (ap (λ z. z % len) (eqb-true (pos + 1) len e) ∙ mod_self len)

      further : eqb (pos + 1) len ≡ false → pos + 1 ≡ next
      further e = sym (mod-eq_of_lt (let q : pos + 1 ≡ len → ⊥ = λ z. true≢false (sym (eq-eqb (pos + 1) len z) ∙ e) in let o : pos + 1 < len = omega (arith, q, inring) in o))

      turn_left : (g : Flags) (b : Bool) → eqb (pos + 1) len ≡ b → Left (if not b then 1 else 0) (SetLow 0 ∷ rest) (with_flags (with_reg k rax (pos + 1)) g)
      turn_left g true e = ap (λ (z : Core). left_in ds c 0 rest (at (with_flags z g)) w) (twice k (pos + 1) 0) ∙ rest_left 0 g (wrapped e)
      turn_left g false e = rest_left (pos + 1) g (further e)

      tail_left : Left 0 tail (with_reg k rax pos)
      unfolding effect
      tail_left =
          let g = λ (d : Core). (arithmetic Sub W32 (reg d rax % 2 ^ 32) len k.flags).flags in
          let v : (reg (with_reg k rax pos) rax + 1) % 2 ^ 32 ≡ pos + 1 = ap (λ z. (z + 1) % 2 ^ 32) (in_rax pos) ∙ low_half (pos + 1) (omega (arith, inring, few)) in
          let d = with_reg k rax (pos + 1) in
          let met : is_met 5 (g d) ≡ not (eqb (pos + 1) len) = ap (λ z. is_met 5 (flags_32 z len k.flags)) (in_rax (pos + 1)) ∙ differs (pos + 1) len k.flags (omega (arith, inring, few)) (omega (arith, few)) in
          ap (λ (z : Core). left_in ds c 0 turning (at (with_flags z (g z))) w) (twice k pos ((reg (with_reg k rax pos) rax + 1) % 2 ^ 32) ∙ ap (with_reg k rax) v)
          ∙ ap (λ (t : Bool). left_in ds c (if t then 1 else 0) (SetLow 0 ∷ rest) (at (with_flags d (g d))) w) met
          ∙ turn_left (g d) (eqb (pos + 1) len) refl

  -- a number below another, as a test
  abbrev ring_holds : List ℕ → Bool
  ring_holds bytes = nat_lt (field 4 0 bytes) len

-- what follows from the test
held_below : (a b : ℕ) → nat_lt a b ≡ true → a < b
held_below a b h = ltb-true a b h

-- so it says enough
ring_says : (len p i n : ℕ) → 68 + 4 * len ≤ n → len ≤ 65536 → i < most_sites → SaysEnough (ring_list len p i) p n (ring_holds len p i) (λ regs bytes. ring_mark len i bytes)
ring_says len p i n room few number = record {
  steps = (
    tt,
    (omega arith, refl, refl),
    omega arith,
    (
      tt,
      tt,
      omega arith,
      (
        tt,
        tt,
        omega arith,
        (
          tt,
          (omega arith, refl, refl),
          omega arith,
          (
            tt,
            (omega arith, refl, refl),
            omega arith,
            (
              (tt, omega (arith, number)),
              (omega arith, refl),
              omega arith,
              (
                tt,
                tt,
                omega arith,
                (
                  omega (arith, few),
                  tt,
                  omega arith,
                  (
                    (omega arith, omega arith),
                    tt,
                    omega arith,
                    (
                      omega arith,
                      tt,
                      omega arith,
                      (tt, (omega arith, refl, refl), omega arith, (tt, (omega arith, refl, refl), omega arith, (tt, tt, omega arith, (tt, tt, omega arith, (tt, (omega arith, refl, refl), omega arith, tt))))),
                    ),
                  ),
                ),
              ),
            ),
          ),
        ),
      ),
    ),
  );
  laid = ((omega arith, omega (arith, room)), ((omega arith, omega (arith, room)), ((omega arith, omega (arith, room)), ((omega arith, omega (arith, room)), tt))));
  few = omega arith;
  fits = λ c m bytes h low held good. (tt, (tt, (tt, (tt, (tt, (slot_fits c m bytes h low held (held_below (field 4 0 bytes) len good), no_puts (ring_list len p i).uses (tail len p i) (refl, (refl, (refl, (refl, (refl, (refl, (refl, (refl, (refl, tt))))))))) 0 (done (Put 3 (i + 1)) (done (LoadLow 2) (done (StoreLow 1) (done IntoAl (done IntoAh (done (Store 0) (coming (ring_list len p i).uses c m)))))))))))));
  restores = λ c m h. tail_core len p i c h (number_at m (p + 64) 4) (number_at m (p + 68) (4 * len)) true (number_at m (p + 64) 4 % 2 ^ 32);
  marked = λ c m bytes h low held good. marks c m bytes h low held (held_below (field 4 0 bytes) len good);
}
  where
    position : (m : Bytes) (bytes : List ℕ) → p + n ≤ 0x7FFF0000 → bytes_at m (p + 64) (n - 64) ≡ map Some bytes → field 4 0 bytes < len → number_at m (p + 64) 4 % 2 ^ 32 ≡ field 4 0 bytes
    position m bytes low held inring =
        let front : p + 64 ≡ p + 64 + 0 = omega arith in
        let cut : field 4 0 bytes % 2 ^ 32 ≡ field 4 0 bytes = omega (arith, inring, few) in
        ap (λ z. z % 2 ^ 32) (ap (λ z. number_at m z 4) front ∙ number_part m (p + 64) 0 (n - 64) bytes 4 (omega (arith, low, room)) (omega (arith, room)) held) ∙ cut

    slot_fits : (c : Core) (m : Bytes) (bytes : List ℕ) → IsProcessorCore c → p + n ≤ 0x7FFF0000 → bytes_at m (p + 64) (n - 64) ≡ map Some bytes → field 4 0 bytes < len
        → 4 * reg (with_reg (kept_in_ax c) rax (number_at m (p + 64) 4 % 2 ^ 32)) rax + 4 ≤ 4 * len
    slot_fits c m bytes h low held inring =
        let e = in_rax len p i c h 0 0 true (field 4 0 bytes) inring few m (number_at m (p + 64) 4 % 2 ^ 32) ∙ position m bytes low held inring in
        omega (arith, e, inring)

    marks : (c : Core) (m : Bytes) (bytes : List ℕ) → IsProcessorCore c → p + n ≤ 0x7FFF0000 → bytes_at m (p + 64) (n - 64) ≡ map Some bytes → field 4 0 bytes < len
        → bytes_at (left_in (ring_list len p i).uses c 0 (ring_list len p i).steps (coming (ring_list len p i).uses c m) m) (p + 64) (n - 64) ≡ map Some (ring_mark len i bytes)
    marks c m bytes h low held inring =
        let us = (ring_list len p i).uses in
        let k = kept_in_ax c in
        let pos = field 4 0 bytes in
        let x2 = number_at m (p + 64) 4 in
        let x3 = number_at m (p + 68) (4 * len) in
        let own = bytes_of 8 (reg c rax % 2 ^ 64) in
        let word = bytes_of 4 (reg k rax % 2 ^ 32) in
        let w1 = bytes_of_length 8 (reg c rax % 2 ^ 64) in
        let w2 = bytes_of_length 4 (reg k rax % 2 ^ 32) in
        let m1 = put_list (put_list m p own) (p + 8) word in
        let still : bytes_at m1 (p + 64) (n - 64) ≡ map Some bytes = bytes_keep m m1 (p + 64) (n - 64)
        (λ x a b. put_away (put_list m p own) (p + 8) word x (omega (arith, w2, low, room)) (inr (omega (arith, w2))) ∙ put_away m p own x (omega (arith, w1, low, room)) (inr (omega (arith, w1)))) ∙ held in
        let m2 = put_list m1 (p + 68 + 4 * pos) (bytes_of 4 (i + 1)) in
        let e = position m bytes low held inring in
        ap (λ z. bytes_at (left_in us c 0 (tail len p i) (at len p i c h x2 x3 true (with_reg k rax z)) (put_list m1 (p + 68 + 4 * reg (with_reg k rax z) rax) (bytes_of 4 (i + 1)))) (p + 64) (n - 64)) e
        ∙ ap (λ z. bytes_at (left_in us c 0 (tail len p i) (at len p i c h x2 x3 true (with_reg k rax pos)) (put_list m1 (p + 68 + 4 * z) (bytes_of 4 (i + 1)))) (p + 64) (n - 64)) (in_rax len p i c h x2 x3 true pos inring few m pos)
        ∙ ap (λ (z : Bytes). bytes_at z (p + 64) (n - 64)) (tail_left len p i c h x2 x3 true pos inring few m2)
        ∙ field_written m2 (p + 64) (n - 64) (with_field 4 (4 + 4 * pos) (i + 1) bytes) (p + 64) 0 4 ((pos + 1) % len) (omega (arith, low, room)) (omega (arith, room)) (omega arith)
        (field_written m1 (p + 64) (n - 64) bytes (p + 68 + 4 * pos) (4 + 4 * pos) 4 (i + 1) (omega (arith, low, room)) (omega (arith, room, inring)) (omega arith) still)

-- What it says of the events with a ring.
abbrev pub RingEventsAreRecorded : Type 0
RingEventsAreRecorded = (set : ℕ → Bool) (len i private n place : ℕ) (rest bytes : List ℕ) (s t : Machine) → 68 + 4 * len ≤ n → len ≤ 65536 → i < most_sites → field 4 0 bytes < len
    → place + event_length (action.Ring len) < 2 ^ 31 → IsReady set private n place (event_code (action.Ring len) private i ++ rest) s t → bytes_at t.mem (private + 64) (n - 64) ≡ map Some bytes
    → (us : List Machine) × Recorded set (Some (record { action = action.Ring len; number = i })) private n place bytes s t us

-- and is recorded
pub ring_recorded : RingEventsAreRecorded
ring_recorded set' len i private n place rest bytes s t room few number inring low ready held =
    let q = listed_recorded set' (ring_list len private i) private n place (ring_holds len private i) (λ regs xs. ring_mark len i xs) rest bytes s t (ring_says len private i n room few number) low ready held
    (lt-ltb (field 4 0 bytes) len inring) in
    let e = q.1 in
    (q.0, record { run = e.run; few = e.few; there = e.there; inside = e.inside; seen = λ j. record { core = e.core j; rip = 0; mem = e.hidden j; world = e.world j }; marked = e.marked; kept = e.kept })
