-- Running the code of a call through an operand.
use Rattle.std.proofs.Common.{◌≡◌, ◌⊎◌, inl, inr, ℕ, ◌+◌, ◌*◌, ◌%◌, ◌^◌, ◌<◌, ◌≤◌, Bool, true, List, [], ◌∷◌, ◌++◌, length, set, None, refl, sym, ap, ◌∙◌, subst, arith, length-append}
use Rattle.std.proofs.lemmas.Bool.{and_parts}
use Rattle.std.proofs.lemmas.List.{set-set, set-get_or, get_or-set_same}
use Rattle.cpu_alu.specs.declared.operation.Width.TheVariants.{W64}
use Rattle.pun_base.specs.Memory.{Bytes, without}
use Rattle.cpu_state.specs.declared.state.Core.{Core}
use Rattle.cpu_state.specs.Bytes.{lacking, number_at, put_list, bytes_of, avoids, within}
use Rattle.cpu_state.specs.Fixed.{IsFixed}
use Rattle.cpu_state.specs.Processor.{IsProcessorCore}
use Rattle.cpu_state.proofs.MemoryFrames.{lacking_frame, put_list_frame, put_list_keeps, put_list_hidden, number_elsewhere}
use Rattle.cpu_state.proofs.Readback.{bytes_of_length, read_back}
use Rattle.length_decode.specs.Spelling.{Fields, IsInstruction, spelling}
use Rattle.insn_form.specs.declared.form.Target.TheVariants.{Through}
use Rattle.insn_form.specs.declared.form.Insn.{Insn}
use Rattle.insn_form.specs.declared.form.Insn.TheVariants.{Exact}
use Rattle.insn_form.specs.declared.form.Op.TheVariants.{Mov, Call}
use Rattle.insn_form.specs.declared.form.Spot.{Spot}
use Rattle.insn_form.specs.declared.form.Spot.TheVariants.{Reg, High, Mem}
use Rattle.insn_form.specs.declared.form.Value.TheVariants as value
use Rattle.insn_form.specs.Operands.{reg, with_reg, rsp, spot_span, spot_number}
use Rattle.insn_form.specs.Stack.{lowered}
use Rattle.insn_form.specs.Instruction.{insn_of}
use Rattle.insn_form.specs.Resolving.{resolved_insn, resolved_spot}
use Rattle.insn_form.specs.Meaning.{effect}
use Rattle.insn_form.specs.Plan.{lacking_in, number_in}
use Rattle.insn_form.specs.Machine.{Machine, first, view, standing_at, avoids_span, avoids_insn}
use Rattle.insn_form.specs.Step.{Step, next_after}
use Rattle.insn_form.specs.Runs.{nowhere}
use Rattle.insn_form.specs.Laws.{SameView}
use Rattle.insn_form.proofs.FrameRule.{lacking_in_frame, number_in_frame}
use Rattle.relocate_insn.specs.Pieces.{store_rax, load_rax, push_code, jump_through}
use Rattle.relocate_insn.specs.Relocating.{load_of, load_size, through_code}
use Rattle.relocate_insn.specs.Running.{IsPrivate, Works}
use Rattle.relocate_insn.proofs.FixedCode.{SameCode, fixed_front, fixed_back, fixed_on, step_code}
use Rattle.relocate_insn.proofs.PrivateRange.{private_after, private_free, put_away, number_keep}
use Rattle.relocate_insn.proofs.RelocatedLengths.{load_long}
use Rattle.relocate_insn.proofs.PieceSteps.{op_step, stored, store_step, loaded, load_step, pushed, push_step, gone_to, through_step, told}
use Rattle.relocate_insn.proofs.LoadedOperand.{load_works}
use Rattle.relocate_insn.proofs.CopyRuns.{Given}

-- a number that an operand of 64 bits holds
number_small : (c : Core) (n : ℕ) (s : Spot) → spot_number c W64 n s < 2 ^ 64
number_small c n (Reg r) = omega arith
number_small c n (High r) = omega arith
number_small c n (Mem f) = omega arith

-- rax after it was used and given back
rax_again : (c : Core) (x z : ℕ) → z ≡ reg c 0 → with_reg (with_reg c 0 x) 0 z ≡ c
rax_again c x z e =
    let q : set (set c.regs 0 x) 0 z ≡ c.regs = set-set c.regs 0 x z ∙ ap (set c.regs 0) e ∙ set-get_or c.regs 0 0 in
    λ i. record { regs = q i; flags = c.flags; fs = c.fs; gs = c.gs }

-- after the load of an operand
abbrev fetched : Machine → Spot → ℕ → Machine
fetched v s rip =
    let x = spot_number v.core W64 (number_in v.mem (spot_span v.core W64 s)) s in
    record { core = with_reg v.core 0 (x % 2 ^ 64); rip = rip; mem = v.mem; world = v.world }

fetch_step : (v : Machine) (at : ℕ) (g : Fields) (s : Spot) → IsInstruction g → at + length (spelling g) < 2 ^ 31 → v.rip ≡ at
    → resolved_insn (at + length (spelling g)) (insn_of g) ≡ Exact (Mov W64 (Reg 0) (value.Spot s))
    → lacking_in 4 v.mem (spot_span v.core W64 s) ≡ None → IsFixed v.mem at (spelling g)
    → Step nowhere v (fetched v s (at + length (spelling g)))
unfolding effect
fetch_step v at g s i l r e w c =
    op_step v at g (Mov W64 (Reg 0) (value.Spot s)) i (omega arith) r c e (record { read = w; write = refl }) refl

-- the six steps, from the facts of the instruction's one
module _ (set' : ℕ → Bool) (private at next : ℕ) (g : Fields) (spot : Spot) (s s' t : Machine) (processor : IsProcessorCore s.core)
    (e : SameView set' t s) (p : IsPrivate set' private 24 t.mem) (next_low : next < 2 ^ 31)
    (gi : IsInstruction g) (loads : resolved_insn (at + 8 + length (spelling g)) (insn_of g) ≡ Exact (Mov W64 (Reg 0) (value.Spot spot)))
    (l : at + (36 + length (spelling g)) < 2 ^ 31) (r : t.rip ≡ at) (c : IsFixed t.mem at (through_code private (spelling g) next))
    (clear : avoids_span set' (spot_span s.core W64 spot) ≡ true) (quiet : avoids set' (reg (lowered s.core) rsp) 8 ≡ true)
    (read : lacking_in 4 s.mem (spot_span s.core W64 spot) ≡ None) (write : lacking 2 s.mem (reg (lowered s.core) rsp) 8 ≡ None) where
  abbrev n : ℕ
  n = length (spelling g)

  -- the code, from each piece on
  abbrev tail6 : List ℕ
  tail6 = jump_through (private + 16)

  abbrev tail5 : List ℕ
  tail5 = push_code next ++ tail6

  abbrev tail4 : List ℕ
  tail4 = load_rax private ++ tail5

  abbrev tail3 : List ℕ
  tail3 = store_rax (private + 16) ++ tail4

  abbrev tail2 : List ℕ
  tail2 = spelling g ++ tail3

  size : length (through_code private (spelling g) next) ≡ n + 36
  size = omega (arith, length-append (spelling g) tail3)

  core : t.core ≡ s.core
  core = ap (λ (z : Machine). z.core) e

  mem : without set' t.mem ≡ without set' s.mem
  mem = ap (λ (z : Machine). z.mem) e

  at2 : IsFixed t.mem (at + 8) tail2
  at2 = fixed_back t.mem at (store_rax private) tail2 (omega arith) c

  at3 : IsFixed t.mem (at + 8 + n) tail3
  at3 = fixed_back t.mem (at + 8) (spelling g) tail3 (omega arith) at2

  at4 : IsFixed t.mem (at + 8 + n + 8) tail4
  at4 = fixed_back t.mem (at + 8 + n) (store_rax (private + 16)) tail4 (omega arith) at3

  at5 : IsFixed t.mem (at + 8 + n + 8 + 8) tail5
  at5 = fixed_back t.mem (at + 8 + n + 8) (load_rax private) tail5 (omega arith) at4

  at6 : IsFixed t.mem (at + 8 + n + 8 + 8 + 5) tail6
  at6 = fixed_back t.mem (at + 8 + n + 8 + 8) (push_code next) tail6 (omega arith) at5

  -- eight bytes of the private range
  free : (m : Bytes) (a : ℕ) → IsPrivate set' private 24 m → private ≤ a → a + 8 ≤ private + 24
      → (lacking 2 m a 8 ≡ None) × (lacking 4 m a 8 ≡ None) × (within set' a 8 ≡ true)
  free m a q lo hi = private_free set' private 24 m a 8 q lo hi

  low : private + 24 ≤ 0x7FFF0000
  low = p.low

  wide : (w : ℕ) → length (bytes_of 8 w) ≡ 8
  wide w = bytes_of_length 8 w

  -- 1: rax is saved
  abbrev t1 : Machine
  t1 = stored t private (at + 8)

  s1 : Step nowhere t t1
  s1 = store_step t at private (omega arith) (omega (arith, low)) r (free t.mem private p (omega arith) (omega arith)).0
      (fixed_front t.mem at (store_rax private) tail2 c)

  c1 : SameCode t.mem t1.mem
  c1 = step_code nowhere t.mem t t1 s1 (λ x h k. refl)

  p1 : IsPrivate set' private 24 t1.mem
  p1 = private_after set' nowhere private 24 t t1 s1 p

  seen1 : without set' t1.mem ≡ without set' s.mem
  seen1 = put_list_hidden set' t.mem private (bytes_of 8 (reg t.core 0 % 2 ^ 64))
      (ap (within set' private) (wide (reg t.core 0 % 2 ^ 64)) ∙ (free t.mem private p (omega arith) (omega arith)).2) ∙ mem

  -- 2: the operand is read
  abbrev t2 : Machine
  t2 = fetched t1 spot (at + 8 + n)

  abbrev goal_at : ℕ
  goal_at = spot_number t.core W64 (number_in t1.mem (spot_span t.core W64 spot)) spot

  s2 : Step nowhere t1 t2
  s2 = fetch_step t1 (at + 8) g spot gi (omega arith) refl loads
      (ap (λ (z : Core). lacking_in 4 t1.mem (spot_span z W64 spot)) core
      ∙ lacking_in_frame set' t1.mem s.mem seen1 4 (spot_span s.core W64 spot) clear ∙ read)
      (fixed_on t.mem t1.mem (at + 8) (spelling g) c1 (fixed_front t.mem (at + 8) (spelling g) tail3 at2))

  -- where the call goes to
  abbrev goal : ℕ
  goal = spot_number s.core W64 (number_in s.mem (spot_span s.core W64 spot)) spot

  same_goal : goal_at ≡ goal
  same_goal =
      ap (λ (z : Core). spot_number z W64 (number_in t1.mem (spot_span z W64 spot)) spot) core
      ∙ ap (λ z. spot_number s.core W64 z spot) (number_in_frame set' t1.mem s.mem seen1 (spot_span s.core W64 spot) clear)

  -- 3: it is kept
  abbrev t3 : Machine
  t3 = stored t2 (private + 16) (at + 8 + n + 8)

  s3 : Step nowhere t2 t3
  s3 = store_step t2 (at + 8 + n) (private + 16) (omega arith) (omega (arith, low)) refl
      (free t1.mem (private + 16) p1 (omega arith) (omega arith)).0
      (fixed_on t.mem t1.mem (at + 8 + n) (store_rax (private + 16)) c1
      (fixed_front t.mem (at + 8 + n) (store_rax (private + 16)) tail4 at3))

  c3 : SameCode t.mem t3.mem
  c3 = step_code nowhere t.mem t2 t3 s3 c1

  p3 : IsPrivate set' private 24 t3.mem
  p3 = private_after set' nowhere private 24 t2 t3 s3 p1

  seen3 : without set' t3.mem ≡ without set' s.mem
  seen3 =
      put_list_hidden set' t1.mem (private + 16) (bytes_of 8 (reg t2.core 0 % 2 ^ 64))
      (ap (within set' (private + 16)) (wide (reg t2.core 0 % 2 ^ 64)) ∙ (free t1.mem (private + 16) p1 (omega arith) (omega arith)).2)
      ∙ seen1

  -- 4: rax comes back
  abbrev t4 : Machine
  t4 = loaded t3 private (at + 8 + n + 8 + 8)

  s4 : Step nowhere t3 t4
  s4 = load_step t3 (at + 8 + n + 8) private (omega arith) (omega (arith, low)) refl (free t3.mem private p3 (omega arith) (omega arith)).1
      (fixed_on t.mem t3.mem (at + 8 + n + 8) (load_rax private) c3 (fixed_front t.mem (at + 8 + n + 8) (load_rax private) tail5 at4))

  rax_back : number_at t3.mem private 8 % 2 ^ 64 % 2 ^ 64 ≡ reg t.core 0
  rax_back =
      let x = reg t.core 0 in
      let small : x < 2 ^ 64 = subst (λ (z : Core). reg z 0 < 2 ^ 64) (sym core) (processor.small 0) in
      let w = reg t2.core 0 % 2 ^ 64 in
      let kept : number_at t3.mem private 8 ≡ number_at t1.mem private 8 =
      number_keep t1.mem t3.mem private 8 (omega (arith, low))
      (λ y lo hi. put_away t1.mem (private + 16) (bytes_of 8 w) y (omega (arith, low, wide w)) (inl (omega arith))) in
      let back : number_at t1.mem private 8 ≡ x % 2 ^ 64 % 2 ^ (8 * 8) =
      read_back t.mem 2 private 8 (x % 2 ^ 64) (omega (arith, low)) (omega arith)
      (free t.mem private p (omega arith) (omega arith)).0 in
      ap (λ z. z % 2 ^ 64 % 2 ^ 64) (kept ∙ back) ∙ (let f : x % 2 ^ 64 % 2 ^ (8 * 8) % 2 ^ 64 % 2 ^ 64 ≡ x = omega arith in f)

  core4 : t4.core ≡ s.core
  core4 = rax_again t.core (goal_at % 2 ^ 64) (number_at t3.mem private 8 % 2 ^ 64 % 2 ^ 64) rax_back ∙ core

  -- 5: the next address is pushed
  abbrev t5 : Machine
  t5 = pushed t4 next (at + 8 + n + 8 + 8 + 5)

  s5 : Step nowhere t4 t5
  s5 = push_step t4 (at + 8 + n + 8 + 8) next (omega arith) next_low refl
      (ap (λ (z : Core). lacking 2 t3.mem (reg (lowered z) rsp) 8) core4
      ∙ lacking_frame set' t3.mem s.mem 2 (reg (lowered s.core) rsp) 8 seen3 quiet ∙ write)
      (fixed_on t.mem t3.mem (at + 8 + n + 8 + 8) (push_code next) c3 (fixed_front t.mem (at + 8 + n + 8 + 8) (push_code next) tail6 at5))

  top_quiet : avoids set' (reg (lowered t4.core) rsp) 8 ≡ true
  top_quiet = ap (λ (z : Core). avoids set' (reg (lowered z) rsp) 8) core4 ∙ quiet

  c5 : SameCode t.mem t5.mem
  c5 = step_code nowhere t.mem t4 t5 s5 c3

  p5 : IsPrivate set' private 24 t5.mem
  p5 = private_after set' nowhere private 24 t4 t5 s5 p3

  -- 6: the jump goes to what was kept
  abbrev t6 : Machine
  t6 = gone_to t5 (number_at t5.mem (private + 16) 8 % 2 ^ 64)

  s6 : Step nowhere t5 t6
  s6 = through_step t5 (at + 8 + n + 8 + 8 + 5) (private + 16) (omega arith) (omega (arith, low)) refl
      (free t5.mem (private + 16) p5 (omega arith) (omega arith)).1
      (fixed_on t.mem t5.mem (at + 8 + n + 8 + 8 + 5) tail6 c5 at6)

  there : t6.rip ≡ goal
  there =
      let w = reg t2.core 0 % 2 ^ 64 in
      let kept : number_at t5.mem (private + 16) 8 ≡ number_at t3.mem (private + 16) 8 =
      number_elsewhere set' t3.mem (reg (lowered t4.core) rsp) (private + 16) 8 (bytes_of 8 next)
      (ap (avoids set' (reg (lowered t4.core) rsp)) (wide next) ∙ top_quiet)
      (free t3.mem (private + 16) p3 (omega arith) (omega arith)).2 in
      let back : number_at t3.mem (private + 16) 8 ≡ w % 2 ^ (8 * 8) =
      read_back t1.mem 2 (private + 16) 8 w (omega (arith, low)) (omega arith)
      (free t1.mem (private + 16) p1 (omega arith) (omega arith)).0 in
      let some : 0 < length t.core.regs =
      subst (λ (z : Core). 0 < length z.regs) (sym core) (let f : 0 < length s.core.regs = omega (arith, processor.count) in f) in
      let held : reg t2.core 0 ≡ goal_at % 2 ^ 64 = get_or-set_same t.core.regs 0 (goal_at % 2 ^ 64) 0 some in
      let small = number_small t.core (number_in t1.mem (spot_span t.core W64 spot)) spot in
      ap (λ z. z % 2 ^ 64) (kept ∙ back ∙ ap (λ z. z % 2 ^ 64 % 2 ^ (8 * 8)) held) ∙ cut_small goal_at small ∙ same_goal
    where
      cut_small : (x : ℕ) → x < 2 ^ 64 → x % 2 ^ 64 % 2 ^ 64 % 2 ^ (8 * 8) % 2 ^ 64 ≡ x
      cut_small x h = omega arith

  -- where the call leads
  abbrev called : Machine
  called = record { core = lowered s.core; rip = goal; mem = put_list s.mem (reg (lowered s.core) rsp) (bytes_of 8 next); world = s.world }

  module _ (is : s' ≡ called) where
    seen : SameView set' t6 s'
    seen =
        let m = put_list_frame set' t3.mem s.mem (reg (lowered s.core) rsp) (bytes_of 8 next) seen3 in
        let w = ap (λ (z : Machine). z.world) e in
        let top = λ (c : Core). put_list t3.mem (reg (lowered c) rsp) (bytes_of 8 next) in
        (λ j. record { core = lowered (core4 j); rip = 0; mem = without set' (top (core4 j)); world = w j })
        ∙ (λ j. record { core = lowered s.core; rip = 0; mem = m j; world = s.world })
        ∙ sym (ap (λ (z : Machine). standing_at 0 (view set' z)) is)

    -- bytes beside the 24 lie beside both stores
    side : (x : ℕ) → (x < private) ⊎ (private + 24 ≤ x) → (x < private) ⊎ (private + 8 ≤ x)
    side x (inl h) = inl h
    side x (inr h) = inr (omega arith)

    side_back : (x : ℕ) → (x < private) ⊎ (private + 24 ≤ x) → (x < private + 16) ⊎ (private + 16 + 8 ≤ x)
    side_back x (inl h) = inl (omega arith)
    side_back x (inr h) = inr (omega arith)

    kept_bytes : (x : ℕ) → set' x ≡ true → (x < private) ⊎ (private + 24 ≤ x) → t6.mem x ≡ t.mem x
    kept_bytes x k o =
        let a = reg t.core 0 % 2 ^ 64 in let b = reg t2.core 0 % 2 ^ 64 in
        let w1 = wide a in let w3 = wide b in
        put_list_keeps set' t3.mem (reg (lowered t4.core) rsp) (bytes_of 8 next) x
        (ap (avoids set' (reg (lowered t4.core) rsp)) (wide next) ∙ top_quiet) k
        ∙ put_away t1.mem (private + 16) (bytes_of 8 b) x (omega (arith, low, w3))
        (subst (λ (n : ℕ). (x < private + 16) ⊎ (private + 16 + n ≤ x)) (sym w3) (side_back x o))
        ∙ put_away t.mem private (bytes_of 8 a) x (omega (arith, low, w1))
        (subst (λ (n : ℕ). (x < private) ⊎ (private + n ≤ x)) (sym w1) (side x o))

    through_by : (o : Spot) → Works set' (Exact (Call (Through o))) private next at (length (through_code private (spelling g) next)) s' t
    through_by o = record {
      inner = t1 ∷ t2 ∷ t3 ∷ t4 ∷ t5 ∷ [];
      end = t6;
      run = (s1, (s2, (s3, (s4, (s5, (s6, tt))))));
      few = omega arith;
      inside = (
        omega arith,
        omega (arith, size),
        (
          omega arith,
          omega (arith, size),
          (omega arith, omega (arith, size), (omega arith, omega (arith, size), (omega arith, omega (arith, size), tt))),
        ),
      );
      seen = seen;
      arrives = inl (there ∙ sym (ap (λ (z : Machine). z.rip) is));
      kept = kept_bytes;
    }

-- the code at a place
abbrev through_at : ℕ → Fields → ℕ → ℕ → List ℕ
through_at private f next place = through_code private (spelling (load_of f next (place + 8 + load_size f next))) next

-- the code of a call through an operand does its work
pub through_works : (set : ℕ → Bool) (f : Fields) (private place : ℕ) (s s' t : Machine) (o : Spot) → insn_of f ≡ Exact (Call (Through o))
    → Given set f private place (through_at private f (next_after s.rip f) place) s s' t
    → Works set (Exact (Call (Through o))) private (next_after s.rip f) place
    (length (through_at private f (next_after s.rip f) place)) s' t
unfolding effect
through_works set f private place s s' t o i given =
    let next = next_after s.rip f in
    let st = given.step in
    let q = st.at.spelled in
    let pl = given.place_low in
    let r = given.ready in
    let next' = place + 8 + load_size f next in
    let g = load_of f next next' in
    let same : length (spelling g) ≡ load_size f next = load_long f next next' q ∙ sym (load_long f next 0 q) in
    let few = (load_works f next 0 q (omega arith) given.rip).is.short in
    let load = load_works f next next' q (omega (arith, few)) given.rip in
    let here : next' ≡ place + 8 + length (spelling g) = ap (λ z. place + 8 + z) (sym same) in
    let load_op = Mov W64 (Reg 0) (value.Spot (resolved_spot next o)) in
    let loads = subst (λ (z : ℕ). resolved_insn z (insn_of g) ≡ Exact load_op) here (load.loads o i) in
    let spot = resolved_spot next o in
    let res = ap (resolved_insn next) i in
    let x = told set s s' f (Call (Through spot)) res (λ n. refl) st in
    let apart = subst (λ (z : Insn). avoids_insn set z next s.core (first s.world) ≡ true) res st.apart in
    let quiet = and_parts (avoids_span set (spot_span s.core W64 spot)) (avoids set (reg (lowered s.core) rsp) 8) apart in
    let l = load.is.short in
    through_by set private place next g spot s s' t r.processor r.seen r.range given.next_low load.is loads (omega arith) r.there r.stands
    quiet.0 quiet.1 x.0.read x.0.write x.1 o
