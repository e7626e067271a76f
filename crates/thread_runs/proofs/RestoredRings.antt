-- Events of threads with a ring restore registers and flags, and fill a slot that there is.
use Rattle.std.proofs.Common.{◌≡◌, inl, inr, ℕ, ◌+◌, ◌*◌, ◌/◌, ◌%◌, ◌^◌, ◌<◌, ◌≤◌, Bool, true, false, not, eqb, ◌||◌, List, [], ◌∷◌, length, refl, sym, ap, ◌∙◌, subst, arith}
use Rattle.std.specs.Prelude.{if◌then◌else◌, slice_index, slice_set}
use Rattle.std.proofs.lemmas.Bool.{eqb-true}
use Rattle.std.proofs.lemmas.List.{get_or-set_same, get_or-set_other}
use Rattle.cpu_alu.specs.declared.flag_word.Flags.{Flags}
use Rattle.cpu_alu.specs.declared.operation.Width.TheVariants.{W32}
use Rattle.cpu_alu.specs.declared.operation.AluOp.TheVariants.{Add}
use Rattle.cpu_alu.specs.Arithmetic.{arithmetic}
use Rattle.cpu_state.specs.declared.state.Core.{Core}
use Rattle.cpu_state.specs.Processor.{IsProcessorCore}
use Rattle.insn_form.specs.Operands.{reg, with_reg, with_flags, rax}
use Rattle.insn_form.specs.Conditions.{is_met}
use Rattle.insn_form.specs.Meaning.{effect}
use Rattle.insn_form.specs.FlagsBack.{kept_in_ax}
use Rattle.insn_form.specs.FlagMoves.{low_flags}
use Rattle.insn_form.proofs.KeptFlags.{bit, kept}
use Rattle.event_steps.proofs.FlagsInAx.{twice, same_reg, cut}
use Rattle.event_steps.specs.declared.step.Datum.{Datum}
use Rattle.event_steps.specs.declared.step.EventStep.{EventStep}
use Rattle.event_steps.specs.MadeSteps.{skipped}
use Rattle.event_steps.specs.DoneSteps.{Local, started, done, core_done, FitsIn}
use Rattle.event_steps.specs.declared.step.EventStep.TheVariants.{Store, Load, IntoAh, IntoAl, FromAl, FromAh, SetLow, Claim, Reduce, Put}
use Rattle.thread_runs.specs.ThreadLists.{eight_below, thread_ring_list, ThreadRingsRestore}
use Rattle.trampoline.specs.EventLists.{four_at, slots_at}
use Rattle.event_steps.specs.Interleaved.{AreKept, Meanwhile, Reaches}
use Rattle.thread_runs.proofs.RestoredRegisters.{past, saves_in_ax, gives_back}

pub same_head : (s t : EventStep) (ss ts : List EventStep) → s ∷ ss ≡ t ∷ ts → s ≡ t
same_head s t ss ts e = cc

-- places of numbers are different
zero_one : ◌≡◌ {A = ℕ} 0 1 → ⊥
zero_one e = absurd cc

zero_two : ◌≡◌ {A = ℕ} 0 2 → ⊥
zero_two e = absurd cc

one_two : ◌≡◌ {A = ℕ} 1 2 → ⊥
one_two e = absurd cc

-- two numbers below rsp stay
module _ (n p i : ℕ) where
  abbrev us : List Datum
  us = (thread_ring_list n p i).uses

  first : (xs ys : List ℕ) → AreKept us xs ys → slice_index ys 0 ≡ slice_index xs 0
  first [] ys h = absurd h
  first (x ∷ xs) [] h = absurd h
  first (x ∷ xs) (y ∷ ys) h = h.0

  second : (xs ys : List ℕ) → AreKept us xs ys → slice_index ys 1 ≡ slice_index xs 1
  second [] ys h = absurd h
  second (x ∷ xs) [] h = absurd h
  second (x ∷ []) ys h = two ys h
    where
      two : (ys : List ℕ) → AreKept us (x ∷ []) ys → slice_index ys 1 ≡ slice_index (x ∷ []) 1
      two [] h = absurd h
      two (y ∷ ys) h = absurd h.1
  second (x ∷ x' ∷ xs) (y ∷ []) h = absurd h.1
  second (x ∷ x' ∷ xs) (y ∷ y' ∷ ys) h = h.1.0

  long_two : (xs ys : List ℕ) → AreKept us xs ys → 1 < length ys
  long_two [] ys h = absurd h
  long_two (x ∷ xs) [] h = absurd h
  long_two (x ∷ xs) (y ∷ []) h = one xs h.1
    where
      one : (xs : List ℕ) → AreKept (eight_below 144 ∷ four_at (p + 64) ∷ slots_at (p + 68) n ∷ []) xs [] → 1 < length (y ∷ [])
      one [] h = absurd h
      one (z ∷ zs) h = absurd h
  long_two (x ∷ xs) (y ∷ y' ∷ ys) h = omega arith

  -- what both hold
  record Both (a b : ℕ) (xs : List ℕ) : Type 0 where
    rax : slice_index xs 0 ≡ a
    ax : slice_index xs 1 ≡ b

  both_on : (a b : ℕ) (l m : Local) → Meanwhile us l m → Both a b l.held → Both a b m.held
  both_on a b l m w h = record { rax = first l.held m.held w.2 ∙ h.rax; ax = second l.held m.held w.2 ∙ h.ax }

  -- rax over the flags in ax, and back
  over_ax : (c : Core) (f : Flags) (x y : ℕ) → y ≡ reg (kept_in_ax c) rax → with_reg (with_flags (with_reg (kept_in_ax c) rax x) f) rax y ≡ with_flags (kept_in_ax c) f
  over_ax c f x y e = ap (λ (z : Core). with_flags z f) (twice (kept_in_ax c) x y ∙ same_reg (kept_in_ax c) y e)

  ax_small : (c : Core) → IsProcessorCore c → reg (kept_in_ax c) rax < 2 ^ 64
  ax_small c h = subst (λ z. z < 2 ^ 64) (sym (kept c h)) (below (reg c rax) (low_flags c.flags) (bit c.flags.of) (h.small 0))
    where
      below : (x l b : ℕ) → x < 2 ^ 64 → (x / 65536 * 65536 + l % 256 * 256 + x % 256) / 256 * 256 + b % 256 < 2 ^ 64
      below x l b h = omega (arith, h)

  abbrev back : List EventStep
  back = Load 1 ∷ FromAl ∷ FromAh ∷ Load 0 ∷ []

  module _ (c : Core) (l : Local) (h : IsProcessorCore c) where
    abbrev a : ℕ
    a = reg c rax % 2 ^ 64

    abbrev b : ℕ
    b = reg (kept_in_ax c) rax % 2 ^ 64

    -- from any number in rax
    gives : (m : Local) (f : Flags) (v : ℕ) → f.rest ≡ c.flags.rest → m.core ≡ with_reg (with_flags (with_reg (kept_in_ax c) rax 1) f) rax v → Both a b m.held → Reaches us 0 (Put 3 (i + 1) ∷ back) [] m l → l.core ≡ c
    gives m f v rest k q r =
        let p1 = past us (Put 3 (i + 1)) back m l r in
        let p2 = past us (Load 1) (FromAl ∷ FromAh ∷ Load 0 ∷ []) (done (Put 3 (i + 1)) p1.at) l p1.left in
        let q2 = both_on a b (done (Put 3 (i + 1)) p1.at) p2.at p2.same (both_on a b m p1.at p1.same q) in
        let y : slice_index p2.at.held 1 % 2 ^ 64 ≡ reg (kept_in_ax c) rax = ap (λ z. z % 2 ^ 64) (q2.ax ∙ cut (reg (kept_in_ax c) rax) (ax_small c h)) ∙ cut (reg (kept_in_ax c) rax) (ax_small c h) in
        gives_back us first c l h (done (Load 1) p2.at) f rest
        (ap (λ (z : Core). with_reg z rax (slice_index p2.at.held 1 % 2 ^ 64)) (p2.same.0 ∙ p1.same.0 ∙ k)
        ∙ twice (with_flags (with_reg (kept_in_ax c) rax 1) f) v (slice_index p2.at.held 1 % 2 ^ 64) ∙ over_ax c f 1 (slice_index p2.at.held 1 % 2 ^ 64) y)
        q2.rax p2.left

    -- through LOCK XADD and MOVZX
    claims : (wide : Bool) (m : Local) → m.core ≡ with_reg (kept_in_ax c) rax 1 → Both a b m.held → Reaches us 0 (Claim 2 ∷ Reduce wide ∷ Put 3 (i + 1) ∷ back) [] m l → l.core ≡ c
    unfolding effect is_met
    claims wide m k q r =
        let p1 = past us (Claim 2) (Reduce wide ∷ Put 3 (i + 1) ∷ back) m l r in
        let p2 = past us (Reduce wide) (Put 3 (i + 1) ∷ back) (done (Claim 2) p1.at) l p1.left in
        let x = slice_index p1.at.held 2 in
        let f = (arithmetic Add W32 (x % 2 ^ 32) (reg (with_reg (kept_in_ax c) rax 1) rax % 2 ^ 32) c.flags).flags in
        let d = with_flags (with_reg (kept_in_ax c) rax 1) f in
        let q1 = both_on a b m p1.at p1.same q in
        let q2 = both_on a b (done (Claim 2) p1.at) p2.at p2.same (record { rax = get_or-set_other p1.at.held 2 0 _ 0 zero_two ∙ q1.rax; ax = get_or-set_other p1.at.held 2 1 _ 0 one_two ∙ q1.ax }) in
        reduced wide p2.at f x refl (p2.same.0 ∙ ap (core_done (Claim 2) x) (p1.same.0 ∙ k)) q2 p2.left
      where
        reduced : (t : Bool) (m : Local) (f : Flags) (x : ℕ) → f.rest ≡ c.flags.rest → m.core ≡ with_reg (with_flags (with_reg (kept_in_ax c) rax 1) f) rax (x % 2 ^ 32) → Both a b m.held
            → Reaches us (skipped (Reduce t) m.core) (Put 3 (i + 1) ∷ back) [] (done (Reduce t) m) l → l.core ≡ c
        reduced true m f x rest e q r =
            let v = reg m.core rax % 2 ^ 16 in
            gives (done (Reduce true) m) f v rest (ap (λ (z : Core). with_reg z rax v) e ∙ twice (with_flags (with_reg (kept_in_ax c) rax 1) f) (x % 2 ^ 32) v) q r
        reduced false m f x rest e q r =
            let v = reg m.core rax % 2 ^ 8 in
            gives (done (Reduce false) m) f v rest (ap (λ (z : Core). with_reg z rax v) e ∙ twice (with_flags (with_reg (kept_in_ax c) rax 1) f) (x % 2 ^ 32) v) q r

    -- from the save of the flags
    saves : (wide : Bool) (m : Local) → m.core ≡ kept_in_ax c → slice_index m.held 0 ≡ a → Reaches us 0 (Store 1 ∷ SetLow 1 ∷ Claim 2 ∷ Reduce wide ∷ Put 3 (i + 1) ∷ back) [] m l → l.core ≡ c
    saves wide m k q r =
        let p1 = past us (Store 1) (SetLow 1 ∷ Claim 2 ∷ Reduce wide ∷ Put 3 (i + 1) ∷ back) m l r in
        let p2 = past us (SetLow 1) (Claim 2 ∷ Reduce wide ∷ Put 3 (i + 1) ∷ back) (done (Store 1) p1.at) l p1.left in
        let k1 = p1.same.0 ∙ k in
        claims wide (done (SetLow 1) p2.at) (ap (λ (z : Core). with_reg z rax 1) (p2.same.0 ∙ k1)) (both_on a b (done (Store 1) p1.at) p2.at p2.same (record {
          rax = get_or-set_other p1.at.held 1 0 (reg p1.at.core rax % 2 ^ 64) 0 zero_one ∙ first m.held p1.at.held p1.same.2 ∙ q;
          ax = get_or-set_same p1.at.held 1 (reg p1.at.core rax % 2 ^ 64) 0 (long_two m.held p1.at.held p1.same.2) ∙ ap (λ z. reg z rax % 2 ^ 64) k1;
        })) p2.left

    -- the event restores
    restores_by : (wide : Bool) (began : List ℕ) → Reaches us 0 (Store 0 ∷ IntoAh ∷ IntoAl ∷ Store 1 ∷ SetLow 1 ∷ Claim 2 ∷ Reduce wide ∷ Put 3 (i + 1) ∷ back) [] (started c began) l → l.core ≡ c
    restores_by wide began r =
        let q = saves_in_ax us first c l (λ xs ys k. let z = long_two xs ys k in omega (arith, z)) (Store 1 ∷ SetLow 1 ∷ Claim 2 ∷ Reduce wide ∷ Put 3 (i + 1) ∷ back) began r in
        saves wide q.at q.core q.first q.left

  -- what is in rax behind MOVZX is below the number of slots
  at_most : (xs : List ℕ) (v : ℕ) → slice_index (slice_set xs 0 v) 0 ≤ v
  at_most [] v = omega arith
  at_most (x ∷ xs) v = omega arith

  module _ (s : EventStep) (rest : List EventStep) (l : Local) where
    level : (t : EventStep) (ss : List EventStep) (m : Local) → FitsIn us t l → Reaches us 0 (t ∷ ss) (s ∷ rest) m l
        → ((m' : Local) → Meanwhile us m m' → Reaches us (skipped t m'.core) ss (s ∷ rest) (done t m') l → FitsIn us s l) → FitsIn us s l
    level t ss m fit (inl h) go = subst (λ (z : EventStep). FitsIn us z l) (sym (same_head s t rest ss h.0)) fit
    level t ss m fit (inr h) go = go h.0 h.1 h.2

    -- behind the instruction that puts the number nothing more is put
    behind : (m : Local) → Reaches us 0 back (s ∷ rest) m l → FitsIn us s l
    behind m r = level (Load 1) (FromAl ∷ FromAh ∷ Load 0 ∷ []) m tt r (λ m1 w1 r1. level FromAl (FromAh ∷ Load 0 ∷ []) (done (Load 1) m1) tt r1 (λ m2 w2 r2. level FromAh (Load 0 ∷ []) (done FromAl m2) tt r2
        (λ m3 w3 r3. level (Load 0) [] (done FromAh m3) tt r3 (λ m4 w4 r4. absurd (nothing r4.0)))))
      where
        nothing : s ∷ rest ≡ [] → ⊥
        nothing e = absurd cc

    putting : (wide : Bool) (m : Local) → 4 * (if wide then 2 ^ 16 else 2 ^ 8) ≤ 4 * n → Reaches us (skipped (Reduce wide) m.core) (Put 3 (i + 1) ∷ back) (s ∷ rest) (done (Reduce wide) m) l → FitsIn us s l
    putting true m few (inl h) =
        subst (λ (z : EventStep). FitsIn us z l) (sym (same_head s (Put 3 (i + 1)) rest back h.0))
        (let e = ap (λ (z : Core). reg z rax) h.1.0 in let q = at_most m.core.regs (reg m.core rax % 2 ^ 16) in let z : reg m.core rax % 2 ^ 16 < 2 ^ 16 = omega arith in omega (arith, e, q, z, few))
    putting true m few (inr h) = behind (done (Put 3 (i + 1)) h.0) h.2
    putting false m few (inl h) =
        subst (λ (z : EventStep). FitsIn us z l) (sym (same_head s (Put 3 (i + 1)) rest back h.0))
        (let e = ap (λ (z : Core). reg z rax) h.1.0 in let q = at_most m.core.regs (reg m.core rax % 2 ^ 8) in let z : reg m.core rax % 2 ^ 8 < 2 ^ 8 = omega arith in omega (arith, e, q, z, few))
    putting false m few (inr h) = behind (done (Put 3 (i + 1)) h.0) h.2

    fits_by : (wide : Bool) (m : Local) → 4 * (if wide then 2 ^ 16 else 2 ^ 8) ≤ 4 * n
        → Reaches us 0 (Store 0 ∷ IntoAh ∷ IntoAl ∷ Store 1 ∷ SetLow 1 ∷ Claim 2 ∷ Reduce wide ∷ Put 3 (i + 1) ∷ back) (s ∷ rest) m l → FitsIn us s l
    fits_by wide m few r =
        level (Store 0) (IntoAh ∷ IntoAl ∷ Store 1 ∷ SetLow 1 ∷ Claim 2 ∷ Reduce wide ∷ Put 3 (i + 1) ∷ back) m tt r (λ m1 w1 r1.
        level IntoAh (IntoAl ∷ Store 1 ∷ SetLow 1 ∷ Claim 2 ∷ Reduce wide ∷ Put 3 (i + 1) ∷ back) (done (Store 0) m1) tt r1 (λ m2 w2 r2.
        level IntoAl (Store 1 ∷ SetLow 1 ∷ Claim 2 ∷ Reduce wide ∷ Put 3 (i + 1) ∷ back) (done IntoAh m2) tt r2 (λ m3 w3 r3.
        level (Store 1) (SetLow 1 ∷ Claim 2 ∷ Reduce wide ∷ Put 3 (i + 1) ∷ back) (done IntoAl m3) tt r3 (λ m4 w4 r4.
        level (SetLow 1) (Claim 2 ∷ Reduce wide ∷ Put 3 (i + 1) ∷ back) (done (Store 1) m4) tt r4 (λ m5 w5 r5.
        level (Claim 2) (Reduce wide ∷ Put 3 (i + 1) ∷ back) (done (SetLow 1) m5) tt r5 (λ m6 w6 r6.
        level (Reduce wide) (Put 3 (i + 1) ∷ back) (done (Claim 2) m6) (trivial wide) r6 (λ m7 w7 r7. putting wide m7 few r7)))))))
      where
        trivial : (t : Bool) → FitsIn us (Reduce t) l
        trivial true = tt
        trivial false = tt

-- the number of slots that threads can share
pub few_slots : (n : ℕ) (b : Bool) → eqb n 256 ≡ b → (b || eqb n 65536) ≡ true → 4 * (if not b then 2 ^ 16 else 2 ^ 8) ≤ 4 * n
few_slots n true e h = let q = eqb-true n 256 e in omega (arith, q)
few_slots n false e h = let q = eqb-true n 65536 h in omega (arith, q)

pub rings_restore : ThreadRingsRestore
rings_restore n p i size = (
  λ c began l h r. restores_by n p i c l h (not (eqb n 256)) began r,
  λ c began s rest l h r. fits_by n p i s rest l (not (eqb n 256)) (started c began) (few_slots n (eqb n 256) refl size) r,
)

-- what MOVZX leaves fits
pub put_fits : (n : ℕ) (t : Bool) (x : ℕ) (d : Core) → 4 * (if t then 2 ^ 16 else 2 ^ 8) ≤ 4 * n → 4 * reg (core_done (Reduce t) x d) rax + 4 ≤ 4 * n
put_fits n true x d few = let q = at_most n 0 0 d.regs (reg d rax % 2 ^ 16) in let z : reg d rax % 2 ^ 16 < 2 ^ 16 = omega arith in omega (arith, q, z, few)
put_fits n false x d few = let q = at_most n 0 0 d.regs (reg d rax % 2 ^ 8) in let z : reg d rax % 2 ^ 8 < 2 ^ 8 = omega arith in omega (arith, q, z, few)
