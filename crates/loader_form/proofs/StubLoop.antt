-- The stub's loop, from a state that has it loaded, with the registers saved.
use Rattle.std.proofs.Common.{◌≡◌, ◌⊎◌, inl, inr, ℕ, zero, suc, ◌+◌, ◌*◌, ◌-◌, ◌%◌, ◌^◌, ◌<◌, ◌≤◌, Bool, true, false, cond, List, [], ◌∷◌, length, take, drop, Option, Some, None, refl, sym, ap, ◌∙◌, subst, arith, ne_eqb}
use Rattle.std.proofs.lemmas.Bool.{le-leb, leb-true}
use Rattle.std.specs.Prelude.{slice_index, nat_le}
use Rattle.pun_base.specs.Memory.{Bytes}
use Rattle.cpu_alu.specs.declared.operation.Width.TheVariants.{W32, W64}
use Rattle.cpu_alu.specs.Widths.{cut}
use Rattle.cpu_state.specs.declared.state.Core.{Core}
use Rattle.cpu_state.specs.Bytes.{advanced, allows, lacking, number_at, bytes_of}
use Rattle.cpu_state.specs.Adding.{IsFree}
use Rattle.cpu_state.specs.Fixed.{IsFixed}
use Rattle.cpu_state.specs.Processor.{IsProcessorCore}
use Rattle.length_decode.specs.Forms.{system_call}
use Rattle.insn_form.specs.Operands.{reg}
use Rattle.insn_form.specs.Moves.{sign_filled}
use Rattle.insn_form.specs.Branches.{is_empty}
use Rattle.insn_form.specs.Machine.{Machine}
use Rattle.insn_form.specs.Step.{next_after}
use Rattle.relocate_insn.specs.Running.{IsPrivate}
use Rattle.relocate_insn.specs.Pieces.{jump_through}
use Rattle.relocate_insn.proofs.FixedCode.{next_address}
use Rattle.relocate_insn.proofs.PrivateRange.{number_keep}
use Rattle.loader_form.specs.declared.kernel.MapAnswer.{MapAnswer}
use Rattle.loader_form.specs.declared.kernel.MapAnswer.TheVariants as answer
use Rattle.loader_form.specs.Stub.{Used, Rax, Rdx, Rdi, used, loads, Run, Stub, record_of, records_of, path_at, end_of, stub_code, path}
use Rattle.loader_form.specs.Kernel.{Reply, IsAnswer, AreReplies, Call, Map, Close, Asks, answered, memory_after, mapped, replied, IsAtCall, number_after, IsWaiting}
use Rattle.loader_form.specs.Starting.{IsLoaded, IsOutside, IsRunOf, AreRunsOf, AreFree, IsStart}
use Rattle.loader_form.specs.Running.{all_mapped, End, AtExit, AtCall, end_by, end_from, left_by, left_from}
use Rattle.loader_form.proofs.StubSteps.{Own, set_step, spread_step, sign_step, to_rdi_step, place_step, size_step, offset_step, next_step, end_step, taken_step, passed_step, back_step, leave_step, call_here}
use Rattle.loader_form.proofs.StubPaths.{Reach, stay, own, called, then, reach_at, Outcome, before, at_most}
use Rattle.loader_form.proofs.SavedRegisters.{everywhere, Slots, restored, loads_run}
use Rattle.loader_form.proofs.StubLengths.{records_length, loaded_back}
use Rattle.loader_form.proofs.LoadedBytes.{loaded_fixed, loaded_on, loaded_lacking, loaded_number, stays}

-- a list of sixteen numbers is these sixteen, one by one
pub spread : (xs : List ℕ) → length xs ≡ 16 → xs ≡ slice_index xs 0 ∷ slice_index xs 1 ∷ slice_index xs 2 ∷ slice_index xs 3 ∷ slice_index xs 4 ∷ slice_index xs 5 ∷ slice_index xs 6 ∷ slice_index xs 7 ∷ slice_index xs 8 ∷ slice_index xs 9 ∷ slice_index xs 10 ∷ slice_index xs 11 ∷ slice_index xs 12 ∷ slice_index xs 13 ∷ slice_index xs 14 ∷ slice_index xs 15 ∷ []
spread [] h = absurd (omega (arith, h))
spread (a0 ∷ []) h = absurd (omega (arith, h))
spread (a0 ∷ a1 ∷ []) h = absurd (omega (arith, h))
spread (a0 ∷ a1 ∷ a2 ∷ []) h = absurd (omega (arith, h))
spread (a0 ∷ a1 ∷ a2 ∷ a3 ∷ []) h = absurd (omega (arith, h))
spread (a0 ∷ a1 ∷ a2 ∷ a3 ∷ a4 ∷ []) h = absurd (omega (arith, h))
spread (a0 ∷ a1 ∷ a2 ∷ a3 ∷ a4 ∷ a5 ∷ []) h = absurd (omega (arith, h))
spread (a0 ∷ a1 ∷ a2 ∷ a3 ∷ a4 ∷ a5 ∷ a6 ∷ []) h = absurd (omega (arith, h))
spread (a0 ∷ a1 ∷ a2 ∷ a3 ∷ a4 ∷ a5 ∷ a6 ∷ a7 ∷ []) h = absurd (omega (arith, h))
spread (a0 ∷ a1 ∷ a2 ∷ a3 ∷ a4 ∷ a5 ∷ a6 ∷ a7 ∷ a8 ∷ []) h = absurd (omega (arith, h))
spread (a0 ∷ a1 ∷ a2 ∷ a3 ∷ a4 ∷ a5 ∷ a6 ∷ a7 ∷ a8 ∷ a9 ∷ []) h = absurd (omega (arith, h))
spread (a0 ∷ a1 ∷ a2 ∷ a3 ∷ a4 ∷ a5 ∷ a6 ∷ a7 ∷ a8 ∷ a9 ∷ a10 ∷ []) h = absurd (omega (arith, h))
spread (a0 ∷ a1 ∷ a2 ∷ a3 ∷ a4 ∷ a5 ∷ a6 ∷ a7 ∷ a8 ∷ a9 ∷ a10 ∷ a11 ∷ []) h = absurd (omega (arith, h))
spread (a0 ∷ a1 ∷ a2 ∷ a3 ∷ a4 ∷ a5 ∷ a6 ∷ a7 ∷ a8 ∷ a9 ∷ a10 ∷ a11 ∷ a12 ∷ []) h = absurd (omega (arith, h))
spread (a0 ∷ a1 ∷ a2 ∷ a3 ∷ a4 ∷ a5 ∷ a6 ∷ a7 ∷ a8 ∷ a9 ∷ a10 ∷ a11 ∷ a12 ∷ a13 ∷ []) h = absurd (omega (arith, h))
spread (a0 ∷ a1 ∷ a2 ∷ a3 ∷ a4 ∷ a5 ∷ a6 ∷ a7 ∷ a8 ∷ a9 ∷ a10 ∷ a11 ∷ a12 ∷ a13 ∷ a14 ∷ []) h = absurd (omega (arith, h))
spread (a0 ∷ a1 ∷ a2 ∷ a3 ∷ a4 ∷ a5 ∷ a6 ∷ a7 ∷ a8 ∷ a9 ∷ a10 ∷ a11 ∷ a12 ∷ a13 ∷ a14 ∷ a15 ∷ []) h = refl
spread (a0 ∷ a1 ∷ a2 ∷ a3 ∷ a4 ∷ a5 ∷ a6 ∷ a7 ∷ a8 ∷ a9 ∷ a10 ∷ a11 ∷ a12 ∷ a13 ∷ a14 ∷ a15 ∷ x ∷ xs) h = absurd (omega (arith, h))

-- registers of which those are other ones that the stub uses
abbrev pub ten : Core → ℕ → ℕ → ℕ → ℕ → ℕ → ℕ → ℕ → ℕ → ℕ → ℕ → Core
ten c rax rcx rdx rbx rsi rdi r8 r9 r10 r11 = record {
  regs =
      rax ∷ rcx ∷ rdx ∷ rbx ∷ reg c 4 ∷ reg c 5 ∷ rsi ∷ rdi ∷ r8 ∷ r9 ∷ r10 ∷ r11 ∷ reg c 12 ∷ reg c 13 ∷ reg c 14 ∷ reg c 15 ∷ [];
  flags = c.flags;
  fs = c.fs;
  gs = c.gs;
}

-- a processor's registers are those of itself with the stub's ten set to what they hold
pub own_ten : (c : Core) → IsProcessorCore c
    → c ≡ ten c (reg c 0) (reg c 1) (reg c 2) (reg c 3) (reg c 6) (reg c 7) (reg c 8) (reg c 9) (reg c 10) (reg c 11)
own_ten c h = let e = spread c.regs h.count in λ i. record { regs = e i; flags = c.flags; fs = c.fs; gs = c.gs }

-- a part of code that stays
fixed_drop : (m : Bytes) (a : ℕ) (bs : List ℕ) (k : ℕ) → a + length bs < 2 ^ 64 → IsFixed m a bs → k ≤ length bs → IsFixed m (a + k) (drop k bs)
fixed_drop m a bs zero l h b = let e : a ≡ a + 0 = omega arith in subst (λ (z : ℕ). IsFixed m z bs) e h
fixed_drop m a [] (suc k) l h b = absurd (omega (arith, b))
fixed_drop m a (x ∷ bs) (suc k) l h b =
    let n : advanced a 1 ≡ a + 1 = next_address a 1 (omega arith) in
    let e : a + 1 + k ≡ a + suc k = omega arith in
    subst (λ (z : ℕ). IsFixed m z (drop k bs)) e (fixed_drop m (a + 1) bs k (omega arith) (subst (λ (z : ℕ). IsFixed m z bs) n h.3) (omega arith))

-- the first of bytes that are fixed in memory are fixed
fixed_take : (m : Bytes) (a : ℕ) (bs : List ℕ) (n : ℕ) → IsFixed m a bs → IsFixed m a (take n bs)
fixed_take m a bs zero h = tt
fixed_take m a [] (suc n) h = tt
fixed_take m a (x ∷ bs) (suc n) h = (h.0, h.1, h.2, fixed_take m (advanced a 1) bs n h.3)

-- what is left of loaded bytes without the first k is loaded k addresses further
pub loaded_drop : (m : Bytes) (a : ℕ) (bs : List ℕ) (k : ℕ) → IsLoaded m a bs → k ≤ length bs → IsLoaded m (a + k) (drop k bs)
loaded_drop m a bs zero h b = let e : a ≡ a + 0 = omega arith in subst (λ (z : ℕ). IsLoaded m z bs) e h
loaded_drop m a [] (suc k) h b = absurd (omega (arith, b))
loaded_drop m a (x ∷ bs) (suc k) h b =
    let e : a + 1 + k ≡ a + suc k = omega arith in
    subst (λ (z : ℕ). IsLoaded m z (drop k bs)) e (loaded_drop m (a + 1) bs k h.1 (omega arith))

-- the first bytes of loaded bytes are loaded
pub loaded_take : (m : Bytes) (a : ℕ) (bs : List ℕ) (n : ℕ) → IsLoaded m a bs → IsLoaded m a (take n bs)
loaded_take m a bs zero h = tt
loaded_take m a [] (suc n) h = tt
loaded_take m a (x ∷ bs) (suc n) h = (h.0, loaded_take m (a + 1) bs n h.1)

-- a number below 2^63 has a sign of zeros
pub no_sign : (v : ℕ) → v < 2 ^ 63 → cut W64 (sign_filled W64 v) ≡ 0
no_sign v h = ap (λ z. cut W64 (cond z (2 ^ 64 - 1) 0)) (not_le (2 ^ 63) (cut W64 v) (omega arith))
  where
    not_le : (a b : ℕ) → b < a → nat_le a b ≡ false
    not_le a b l = by_test (nat_le a b) refl
      where
        by_test : (t : Bool) → nat_le a b ≡ t → nat_le a b ≡ false
        by_test false e = e
        by_test true e = absurd (omega (arith, l, leb-true a b e))

-- the sign of an error's answer fills 64 bits with ones
pub error_sign : (e : ℕ) → 1 ≤ e → e ≤ 4095 → cut W64 (sign_filled W64 (2 ^ 64 - e)) ≡ 2 ^ 64 - 1
error_sign e l h = ap (λ z. cut W64 (cond z (2 ^ 64 - 1) 0)) (le-leb (2 ^ 63) (cut W64 (2 ^ 64 - e)) (omega arith))

-- a number from 1 on that fits in 64 bits isn't empty in rcx
not_empty : (x : ℕ) → 0 < x → x < 2 ^ 64 → is_empty false x ≡ false
not_empty x l h = ne_eqb (x % 2 ^ 64) 0 (λ e. omega arith)

module _ (file : List ℕ) (b : Stub) (s : Machine) (st : IsStart file b s) where
  abbrev pub c : Core
  c = s.core

  abbrev pub R : ℕ → ℕ
  R = reg c

  abbrev pub lo : ℕ
  lo = b.at

  -- a state of the run
  abbrev pub state : Core → ℕ → Bytes → Machine
  state d rip m = record { core = d; rip = rip; mem = m; world = s.world }

  -- the stub ends below 0x7FFF0000
  low : end_of b ≤ 0x7FFF0000
  low = st.low

  -- the records begin below 0x7FFF0000
  ends : lo + 4112 ≤ 0x7FFF0000
  ends = omega (arith, low)

  -- memory with the stub, and with the registers in their places
  pub record Ready (m : Bytes) : Type 0 where
    pub code : IsLoaded m lo (stub_code b)
    pub path : IsLoaded m (path_at b) path
    pub private : IsPrivate everywhere b.save 4096 m
    pub slots : Slots m b.save R used

  -- an address of the stub isn't outside
  inside_stub : (x : ℕ) → lo ≤ x → x < end_of b → IsOutside b x → ⊥
  inside_stub x i j o = by_side o.0
    where
      by_side : (x < lo) ⊎ (end_of b ≤ x) → ⊥
      by_side (inl k) = omega arith
      by_side (inr k) = omega arith

  -- an address of the save page isn't outside
  inside_save : (x : ℕ) → b.save ≤ x → x < b.save + 4096 → IsOutside b x → ⊥
  inside_save x i j o = by_side o.1
    where
      by_side : (x < b.save) ⊎ (b.save + 4096 ≤ x) → ⊥
      by_side (inl k) = omega arith
      by_side (inr k) = omega arith

  -- saved registers stay where their addresses do
  slots_on : (m w : Bytes) (a : ℕ) (rs : List Used) → a + 8 * length rs < 2 ^ 64 → ((x : ℕ) → a ≤ x → x < a + 8 * length rs → w x ≡ m x)
      → Slots m a R rs → Slots w a R rs
  slots_on m w a [] l e h = tt
  slots_on m w a (r ∷ rs) l e h = (
    number_keep m w a 8 (omega arith) (λ x i j. e x i (omega arith)) ∙ h.0,
    slots_on m w (a + 8) rs (omega arith) (λ x i j. e x (omega arith) (omega arith)) h.1,
  )

  -- memory is ready for the loop when a run is mapped, if it was before
  ready_mapped : (r : Run) (m : Bytes) → IsRunOf file b r → Ready m → Ready (mapped file r.place r.size r.offset m)
  ready_mapped r m h g =
      let w = mapped file r.place r.size r.offset m in
      let ls = st.low_save in
      let same : (x : ℕ) → (IsOutside b x → ⊥) → w x ≡ m x = λ x o. stays file b r m x h o in
      record {
        code = loaded_on m w lo (stub_code b) (λ x i j. same x (inside_stub x i (omega arith))) g.code;
        path = loaded_on m w (path_at b) path (λ x i j. same x (inside_stub x (omega arith) (omega arith))) g.path;
        private = record {
          inside = λ x i j. refl;
          read = λ x i j. (ap (allows 4) (same x (inside_save x i j)) ∙ g.private.read x i j);
          written = λ x i j. (ap (allows 2) (same x (inside_save x i j)) ∙ g.private.written x i j);
          low = g.private.low;
        };
        slots = slots_on m w b.save used (omega (arith, ls)) (λ x i j. same x (inside_save x i (omega arith))) g.slots;
      }

  -- in such a memory n bytes of the stub's code, from its byte k on, stand
  pub part : (m : Bytes) (k n : ℕ) → k ≤ 276 → Ready m → IsFixed m (lo + k) (take n (drop k (stub_code b)))
  part m k n l g = fixed_take m (lo + k) (drop k (stub_code b)) n
      (fixed_drop m lo (stub_code b) k (omega (arith, ends)) (loaded_fixed m lo (stub_code b) (omega (arith, ends)) g.code) l)

  -- a step of the code to the instruction after it is a run of one move
  pub go : {k : Option ℕ} (off n off' : ℕ) (d d' : Core) (m : Bytes) → off < 4096 → off + n ≡ off' → Own (state d (lo + off) m) (state d' (lo + off + n) m)
      → Reach file lo (lo + 4096) k (state d (lo + off) m) 1 [] k (state d' (lo + off') m)
  go {k} off n off' d d' m l e o =
      let q : lo + off + n ≡ lo + off' = omega (arith, e) in
      reach_at (λ i. state d' (q i) m) (own k (state d (lo + off) m) (state d' (lo + off + n) m) o (omega arith) (omega arith))

  -- a step of the code that goes elsewhere in it is a run of one move
  pub jump : {k : Option ℕ} (off off' : ℕ) (d : Core) (m : Bytes) → off < 4096 → Own (state d (lo + off) m) (state d (lo + off') m)
      → Reach file lo (lo + 4096) k (state d (lo + off) m) 1 [] k (state d (lo + off') m)
  jump {k} off off' d m l o = own k (state d (lo + off) m) (state d (lo + off') m) o (omega arith) (omega arith)

  -- a call for which no reply is left ends the run at once
  pub waits : {k : Option ℕ} {final : Machine} (off : ℕ) (d : Core) (m : Bytes) → off < 4096 → IsWaiting file k (state d (lo + off) m)
      → Outcome file lo k (state d (lo + off) m) 0 AtCall final [] []
  waits {k} {final} off d m l w = record {
    n = 0;
    taken = [];
    split = refl;
    number' = k;
    last = state d (lo + off) m;
    reach = stay k (state d (lo + off) m);
    few = omega arith;
    closes = (w, (omega arith), (omega arith));
  }

  -- from the failure's code on, the run ends in two moves at the exit, whatever replies are left
  pub failing : {k : Option ℕ} (final : Machine) (rs : List Reply) (m : Bytes) (g : Ready m) (a0 a1 a2 a3 a6 a7 a8 a9 a10 a11 : ℕ)
      → Outcome file lo k (state (ten c a0 a1 a2 a3 a6 a7 a8 a9 a10 a11) (lo + 103) m) 2 AtExit final rs rs
  failing {k} final rs m g a0 a1 a2 a3 a6 a7 a8 a9 a10 a11 =
      let d1 = ten c a0 a1 a2 a3 a6 a7 a8 a9 a10 a11 in
      let d2 = ten c a0 a1 a2 a3 a6 127 a8 a9 a10 a11 in
      let d3 = ten c 231 a1 a2 a3 a6 127 a8 a9 a10 a11 in
      let v3 = state d3 (lo + 113) m in
      let s1 = go {k = k} 103 5 108 d1 d2 m (omega arith) (omega arith)
      (set_step (state d1 (lo + 103) m) Rdi (lo + 103) 127 (omega (arith, ends)) (omega arith) refl (part m 103 5 (omega arith) g)) in
      let s2 = go {k = k} 108 5 113 d2 d3 m (omega arith) (omega arith)
      (set_step (state d2 (lo + 108) m) Rax (lo + 108) 231 (omega (arith, ends)) (omega arith) refl (part m 108 5 (omega arith) g)) in
      record {
        n = 2;
        taken = [];
        split = refl;
        number' = k;
        last = v3;
        reach = then s1 s2;
        few = omega arith;
        closes = (
          record { here = call_here v3 (lo + 113) refl (part m 113 2 (omega arith) g); call = refl; told = refl },
          (omega arith),
          (omega arith),
        );
      }

  -- where the program goes on
  abbrev pub final : Bytes → Machine
  final m = state c b.entry m

  -- the state after a call of the code
  abbrev behind : Call → Reply → ℕ → Core → Bytes → Machine
  behind call r off d m = replied file call r (advanced (lo + off) 2) (state d (lo + off) m)

  -- a call of the code that has its reply is a run of one move, to the instruction after it
  pub call_step : {k : Option ℕ} (call : Call) (r : Reply) (off : ℕ) (d d' : Core) (m m' : Bytes) → off < 4000
      → (h : IsAtCall (state d (lo + off) m)) → h.fields ≡ system_call → Asks file k d m call
      → behind call r off d m ≡ state d' (advanced (lo + off) 2) m'
      → Reach file lo (lo + 4096) k (state d (lo + off) m) 1 (r ∷ []) (number_after call r.answer k) (state d' (lo + (off + 2)) m')
  call_step {k} call r off d d' m m' l h f a e =
      let v = state d (lo + off) m in
      let q : advanced (lo + off) 2 ≡ lo + (off + 2) = omega (arith, ends) in
      let g : replied file call r (next_after (lo + off) h.fields) v ≡ behind call r off d m =
      ap (λ z. replied file call r (next_after (lo + off) z) v) f in
      let t = replied file call r (next_after (lo + off) h.fields) v in
      reach_at (g ∙ e ∙ (λ i. state d' (q i) m'))
      (called k (number_after call r.answer k) v t r (record { call = call; asks = a; here = h; opened = refl; after = refl }) (omega arith) (omega arith))

  -- close and the way to the entry
  leaves : (num : ℕ) (rs : List Reply) (m : Bytes) (g : Ready m) (a0 a1 a2 a3 a6 a7 a9 a10 a11 : ℕ) → num < 2 ^ 32
      → Outcome file lo (Some num) (state (ten c a0 a1 a2 a3 a6 a7 num a9 a10 a11) (lo + 171) m) 14 (end_from 0 rs) (final m) rs (left_from 0 rs)
  leaves num rs m g a0 a1 a2 a3 a6 a7 a9 a10 a11 n =
      let d1 = ten c a0 a1 a2 a3 a6 a7 num a9 a10 a11 in
      let d2 = ten c 3 a1 a2 a3 a6 a7 num a9 a10 a11 in
      let d3 = ten c 3 a1 a2 a3 a6 num num a9 a10 a11 in
      let v3 = state d3 (lo + 179) m in
      let s1 = go {k = Some num} 171 5 176 d1 d2 m (omega arith) (omega arith)
      (set_step (state d1 (lo + 171) m) Rax (lo + 171) 3 (omega (arith, ends)) (omega arith) refl (part m 171 5 (omega arith) g)) in
      let q : cut W64 (cut W64 num) ≡ num = omega (arith, n) in
      let o2 = subst (λ (z : ℕ). Own (state d2 (lo + 176) m) (state (ten c 3 a1 a2 a3 a6 z num a9 a10 a11) (lo + 176 + 3) m)) q
      (to_rdi_step (state d2 (lo + 176) m) (lo + 176) (omega (arith, ends)) refl (part m 176 3 (omega arith) g)) in
      let s2 = go {k = Some num} 176 3 179 d2 d3 m (omega arith) (omega arith) o2 in
      let here = call_here v3 (lo + 179) refl (part m 179 2 (omega arith) g) in
      before (then s1 s2) (closed rs here refl)
    where
      closed : (qs : List Reply) (h : IsAtCall (state (ten c 3 a1 a2 a3 a6 num num a9 a10 a11) (lo + 179) m)) → h.fields ≡ system_call
          → Outcome file lo (Some num) (state (ten c 3 a1 a2 a3 a6 num num a9 a10 a11) (lo + 179) m) 12 (end_from 0 qs) (final m) qs (left_from 0 qs)
      closed [] h f = at_most (omega arith) (waits 179 (ten c 3 a1 a2 a3 a6 num num a9 a10 a11) m (omega arith) (record { here = h; call = Close; asks = (refl, refl) }))
      closed (r ∷ qs) h f =
          let d3 = ten c 3 a1 a2 a3 a6 num num a9 a10 a11 in
          let k' = number_after Close r.answer (Some num) in
          let x = answered Close r.answer in
          let d4 = ten c x (advanced (lo + 179) 2) a2 a3 a6 num num a9 a10 r.r11 in
          let kept : memory_after file Close r.answer m ≡ m = by_answer r.answer in
          let s3 = call_step {k = Some num} Close r 179 d3 d4 m m (omega arith) h f (refl, refl) (λ i. state d4 (advanced (lo + 179) 2) (kept i)) in
          let l = st.low_save in
          let s4 = loads_run {file = file} {k = k'} lo b.save used b.save (lo + 181) (state d4 (lo + 181) m) R (omega arith) (omega arith)
          (omega (arith, ends)) refl (part m 181 80 (omega arith) g) g.private (omega arith) (omega arith) (λ i. st.processor.small i) g.slots in
          let whole : restored d4 R used ≡ c = sym (own_ten c st.processor) in
          let e5 : lo + 181 + 8 * 10 ≡ lo + 261 = omega arith in
          let s4' = reach_at (λ i. state (whole i) (e5 i) m) s4 in
          let target : IsLoaded m (lo + 268) (bytes_of 8 b.entry) = entry_loaded in
          let eight : lacking 4 m (lo + 268) 8 ≡ None = loaded_lacking m (lo + 268) (bytes_of 8 b.entry) (omega (arith, ends)) target in
          let en = st.entry in
          let read : number_at m (lo + 268) 8 ≡ b.entry = loaded_number m (lo + 268) 8 b.entry (omega (arith, ends)) target
          ∙ (let z : b.entry % 2 ^ (8 * 8) ≡ b.entry = omega (arith, en) in z) in
          let a5 : lo + 261 + 7 ≡ lo + 268 = omega arith in
          let o5 = leave_step (state c (lo + 261) m) (lo + 261) (lo + 268) b.entry (omega (arith, ends)) (omega (arith, ends)) en refl eight read
          (subst (λ (z : ℕ). IsFixed m (lo + 261) (jump_through z)) a5 (part m 261 7 (omega arith) g)) in
          let s5 = own k' (state c (lo + 261) m) (final m) o5 (omega arith) (omega arith) in
          record {
            n = 1 + 10 + 1;
            taken = r ∷ [];
            split = refl;
            number' = k';
            last = final m;
            reach = then (then s3 s4') s5;
            few = omega arith;
            closes = refl;
          }
        where
          by_answer : (a : MapAnswer) → memory_after file Close a m ≡ m
          by_answer (answer.Ok z) = refl
          by_answer (answer.Failed z) = refl

          entry_loaded : IsLoaded m (lo + 268) (bytes_of 8 b.entry)
          entry_loaded = loaded_take m (lo + 268) (drop 268 (stub_code b)) 8 (loaded_drop m lo (stub_code b) 268 g.code (omega arith))

  -- one run
  module _ (num : ℕ) (few : num < 2 ^ 32) (r : Run) (more : List Run) (h : IsRunOf file b r) (a : ℕ) (m : Bytes)
      (free : IsFree m r.place (r.place + r.size)) (g : Ready m) (i : lo + 4112 ≤ a) (e : a + 16 * suc (length more) ≡ end_of b) (loads : IsLoaded m a (records_of (r ∷ more))) (a0 a1 a2 a6 a7 a9 a11 : ℕ) where
    abbrev end : ℕ
    end = end_of b

    abbrev m' : Bytes
    m' = mapped file r.place r.size r.offset m

    abbrev x : ℕ
    x = 2 ^ 32 - 16 * suc (length more)

    abbrev d1 : Core
    d1 = ten c a0 a1 a2 a a6 a7 num a9 18 a11

    abbrev d2 : Core
    d2 = ten c a0 x a2 a a6 a7 num a9 18 a11

    abbrev d3 : Core
    d3 = ten c a0 x a2 a a6 r.place num a9 18 a11

    abbrev d4 : Core
    d4 = ten c a0 x a2 a r.size r.place num a9 18 a11

    abbrev d5 : Core
    d5 = ten c a0 x a2 a r.size r.place num r.offset 18 a11

    abbrev d6 : Core
    d6 = ten c a0 x 5 a r.size r.place num r.offset 18 a11

    abbrev d7 : Core
    d7 = ten c 9 x 5 a r.size r.place num r.offset 18 a11

    -- the record's three numbers
    high : a + 16 ≤ end
    high = omega (arith, e)

    -- the record's place is loaded
    at_place : IsLoaded m a (bytes_of 4 r.place)
    at_place = loaded_take m a (records_of (r ∷ more)) 4 loads

    -- the record's size is loaded
    at_size : IsLoaded m (a + 4) (bytes_of 4 r.size)
    at_size = loaded_take m (a + 4) (drop 4 (records_of (r ∷ more))) 4 (loaded_drop m a (records_of (r ∷ more)) 4 loads (omega arith))

    -- the record's offset is loaded
    at_offset : IsLoaded m (a + 8) (bytes_of 8 r.offset)
    at_offset = loaded_take m (a + 8) (drop 8 (records_of (r ∷ more))) 8 (loaded_drop m a (records_of (r ∷ more)) 8 loads (omega arith))

    -- the registers ask for the mapping of the record's run
    asks : Asks file (Some num) d7 m (Map r.place r.size r.offset)
    asks = (refl, refl, refl, refl, refl, refl, refl, h.inside, (let lw = h.low in omega (arith, lw)), free)

    -- seven steps lead from the loop's body to its call
    to_call : Reach file lo (lo + 4096) (Some num) (state d1 (lo + 130) m) 7 [] (Some num) (state d7 (lo + 157) m)
    to_call =
        let lw = h.low in
        let sm = h.small in
        let s1 = go {k = Some num} 130 6 136 d1 d2 m (omega arith) (omega arith)
        (end_step (state d1 (lo + 130) m) (lo + 130) a end x (omega (arith, ends)) (omega (arith, high)) (omega (arith, high)) (omega (arith, low)) (omega (arith, e, low)) refl refl
        (part m 130 6 (omega arith) g)) in
        let s2 = go {k = Some num} 136 2 138 d2 d2 m (omega arith) (omega arith)
        (passed_step (state d2 (lo + 136) m) (lo + 136) 33 (omega (arith, ends)) refl (not_empty x (omega (arith, e, low)) (omega arith)) (part m 136 2 (omega arith) g)) in
        let n1 : number_at m a 4 ≡ r.place = loaded_number m a 4 r.place (omega (arith, high, low)) at_place
        ∙ (let z : r.place % 2 ^ (8 * 4) ≡ r.place = omega (arith, lw) in z) in
        let s3 = go {k = Some num} 138 2 140 d2 d3 m (omega arith) (omega arith)
        (place_step (state d2 (lo + 138) m) (lo + 138) a r.place (omega (arith, ends)) (omega (arith, high, low)) refl refl
        (loaded_lacking m a (bytes_of 4 r.place) (omega (arith, high, low)) at_place) n1 (omega (arith, lw)) (part m 138 2 (omega arith) g)) in
        let n2 : number_at m (a + 4) 4 ≡ r.size = loaded_number m (a + 4) 4 r.size (omega (arith, high, low)) at_size
        ∙ (let z : r.size % 2 ^ (8 * 4) ≡ r.size = omega (arith, lw) in z) in
        let s4 = go {k = Some num} 140 3 143 d3 d4 m (omega arith) (omega arith)
        (size_step (state d3 (lo + 140) m) (lo + 140) a r.size (omega (arith, ends)) (omega (arith, high, low)) refl refl
        (loaded_lacking m (a + 4) (bytes_of 4 r.size) (omega (arith, high, low)) at_size) n2 (omega (arith, lw)) (part m 140 3 (omega arith) g)) in
        let n3 : number_at m (a + 8) 8 ≡ r.offset = loaded_number m (a + 8) 8 r.offset (omega (arith, high, low)) at_offset
        ∙ (let z : r.offset % 2 ^ (8 * 8) ≡ r.offset = omega (arith, sm) in z) in
        let s5 = go {k = Some num} 143 4 147 d4 d5 m (omega arith) (omega arith)
        (offset_step (state d4 (lo + 143) m) (lo + 143) a r.offset (omega (arith, ends)) (omega (arith, high, low)) refl refl
        (loaded_lacking m (a + 8) (bytes_of 8 r.offset) (omega (arith, high, low)) at_offset) n3 (omega (arith, sm)) (part m 143 4 (omega arith) g)) in
        let s6 = go {k = Some num} 147 5 152 d5 d6 m (omega arith) (omega arith)
        (set_step (state d5 (lo + 147) m) Rdx (lo + 147) 5 (omega (arith, ends)) (omega arith) refl (part m 147 5 (omega arith) g)) in
        let s7 = go {k = Some num} 152 5 157 d6 d7 m (omega arith) (omega arith)
        (set_step (state d6 (lo + 152) m) Rax (lo + 152) 9 (omega (arith, ends)) (omega arith) refl (part m 152 5 (omega arith) g)) in
        then s1 (then s2 (then s3 (then s4 (then s5 (then s6 s7)))))

    -- what is left when the call has its reply
    abbrev Left : List Reply → Type 0
    Left qs = (y : ℕ) → Outcome file lo (Some num) (state (ten c r.place 0 0 (a + 16) r.size r.place num r.offset 18 y) (lo + 130) m') (16 + 12 * length more)
        (end_from (length more) qs) (final (all_mapped file more m')) qs (left_from (length more) qs)

    abbrev Called : End → List Reply → List Reply → Type 0
    Called x rs rest = Outcome file lo (Some num) (state d7 (lo + 157) m) (21 + 12 * length more) x (final (all_mapped file more m')) rs rest

    abbrev here : IsAtCall (state d7 (lo + 157) m)
    here = call_here (state d7 (lo + 157) m) (lo + 157) refl (part m 157 2 (omega arith) g)

    -- rbx goes on; rcx is told by the sign of rax
    to_test : (w : Bytes) (v : ℕ) (z : ℕ) (rcx r11 : ℕ) → cut W64 (sign_filled W64 v) ≡ z → Ready w
        → Reach file lo (lo + 4096) (Some num) (state (ten c v rcx 5 a r.size r.place num r.offset 18 r11) (lo + 159) w) 3 [] (Some num)
        (state (ten c v (cut W32 (cut W32 z)) z (a + 16) r.size r.place num r.offset 18 r11) (lo + 167) w)
    to_test w v z rcx r11 t k =
        let e1 = ten c v rcx 5 a r.size r.place num r.offset 18 r11 in
        let e2 = ten c v rcx 5 (a + 16) r.size r.place num r.offset 18 r11 in
        let e3 = ten c v rcx z (a + 16) r.size r.place num r.offset 18 r11 in
        let e4 = ten c v (cut W32 (cut W32 z)) z (a + 16) r.size r.place num r.offset 18 r11 in
        let s1 = go {k = Some num} 159 4 163 e1 e2 w (omega arith) (omega arith)
        (next_step (state e1 (lo + 159) w) (lo + 159) a (omega (arith, ends)) (omega (arith, high, low)) refl refl (part w 159 4 (omega arith) k)) in
        let o2 = subst (λ (q : ℕ). Own (state e2 (lo + 163) w) (state (ten c v rcx q (a + 16) r.size r.place num r.offset 18 r11) (lo + 163 + 2) w)) t
        (spread_step (state e2 (lo + 163) w) (lo + 163) (omega (arith, ends)) refl (part w 163 2 (omega arith) k)) in
        let s2 = go {k = Some num} 163 2 165 e2 e3 w (omega arith) (omega arith) o2 in
        let s3 = go {k = Some num} 165 2 167 e3 e4 w (omega arith) (omega arith)
        (sign_step (state e3 (lo + 165) w) (lo + 165) (omega (arith, ends)) refl (part w 165 2 (omega arith) k)) in
        then s1 (then s2 s3)

    -- the call is answered
    answered_by : (v : MapAnswer) (y : ℕ) → IsAnswer v → (qs : List Reply) → Left qs → Called (end_by v (end_from (length more) qs)) (record { answer = v; r11 = y } ∷ qs) (left_by v qs (left_from (length more) qs))
    answered_by (answer.Ok n) y ok qs left =
        let lw = h.low in
        let q : Reply = record { answer = answer.Ok n; r11 = y } in
        let d8 = ten c r.place (advanced (lo + 157) 2) 5 a r.size r.place num r.offset 18 y in
        let d9 = ten c r.place 0 0 (a + 16) r.size r.place num r.offset 18 y in
        let k = ready_mapped r m h g in
        let s8 = call_step {k = Some num} (Map r.place r.size r.offset) q 157 d7 d8 m m' (omega arith) here refl asks refl in
        let s9 = to_test m' r.place 0 (advanced (lo + 157) 2) y (no_sign r.place (omega (arith, lw))) k in
        let s10 = jump {k = Some num} 167 130 d9 m' (omega arith)
        (taken_step (state d9 (lo + 167) m') (lo + 167) 0xd9 (lo + 130) (omega (arith, ends)) refl refl
        (let z : advanced (lo + 167 + 2) (2 ^ 64 - 39) ≡ lo + 130 = omega (arith, ends) in z) (part m' 167 2 (omega arith) k)) in
        at_most (omega arith) (before (then s8 (then s9 s10)) (left y))
    answered_by (answer.Failed n) y ok qs left =
        let q : Reply = record { answer = answer.Failed n; r11 = y } in
        let v = 2 ^ 64 - n in
        let d8 = ten c v (advanced (lo + 157) 2) 5 a r.size r.place num r.offset 18 y in
        let d9 = ten c v (2 ^ 32 - 1) (2 ^ 64 - 1) (a + 16) r.size r.place num r.offset 18 y in
        let s8 = call_step {k = Some num} (Map r.place r.size r.offset) q 157 d7 d8 m m (omega arith) here refl asks refl in
        let s9 = to_test m v (2 ^ 64 - 1) (advanced (lo + 157) 2) y (error_sign n ok.0 ok.1) g in
        let s10 = go {k = Some num} 167 2 169 d9 d9 m (omega arith) (omega arith)
        (passed_step (state d9 (lo + 167) m) (lo + 167) 0xd9 (omega (arith, ends)) refl refl (part m 167 2 (omega arith) g)) in
        let s11 = jump {k = Some num} 169 103 d9 m (omega arith)
        (back_step (state d9 (lo + 169) m) (lo + 169) 0xbc (lo + 103) (omega (arith, ends)) refl
        (let z : advanced (lo + 169 + 2) (2 ^ 64 - 68) ≡ lo + 103 = omega (arith, ends) in z) (part m 169 2 (omega arith) g)) in
        at_most (omega arith) (before (then s8 (then s9 (then s10 s11)))
        (failing {k = Some num} (final (all_mapped file more m')) qs m g v (2 ^ 32 - 1) (2 ^ 64 - 1) (a + 16) r.size r.place num r.offset 18 y))

    -- a round of the loop ends as the replies say, where the rounds after it do
    round : (rs : List Reply) → AreReplies rs → ((qs : List Reply) → AreReplies qs → Left qs)
        → Outcome file lo (Some num) (state d1 (lo + 130) m) (28 + 12 * length more) (end_from (suc (length more)) rs) (final (all_mapped file more m')) rs (left_from (suc (length more)) rs)
    round [] ok left =
        at_most (omega arith) (before to_call (waits {k = Some num} 157 d7 m (omega arith) (record { here = here; call = Map r.place r.size r.offset; asks = asks })))
    round (q ∷ qs) ok left = at_most (omega arith) (before to_call (answered_by q.answer q.r11 ok.0 qs (left qs ok.1)))

  -- from the loop's head, with the runs that are left, the run ends as the replies lead, in at most 16 moves and 12 for each run
  pub loop : (num : ℕ) → num < 2 ^ 32 → (rest : List Run) (rs : List Reply) (a : ℕ) (m : Bytes) → Ready m → (a0 a1 a2 a6 a7 a9 a11 : ℕ) → AreReplies rs
      → lo + 4112 ≤ a → a + 16 * length rest ≡ end_of b → IsLoaded m a (records_of rest) → AreRunsOf file b rest → AreFree file m rest
      → Outcome file lo (Some num) (state (ten c a0 a1 a2 a a6 a7 num a9 18 a11) (lo + 130) m) (16 + 12 * length rest) (end_from (length rest) rs)
      (final (all_mapped file rest m)) rs (left_from (length rest) rs)
  loop num few [] rs a m g a0 a1 a2 a6 a7 a9 a11 ok i e loads runs free =
      let d1 = ten c a0 a1 a2 a a6 a7 num a9 18 a11 in
      let d2 = ten c a0 0 a2 a a6 a7 num a9 18 a11 in
      let s1 = go {k = Some num} 130 6 136 d1 d2 m (omega arith) (omega arith)
      (end_step (state d1 (lo + 130) m) (lo + 130) a (end_of b) 0 (omega (arith, ends)) (omega (arith, e)) (omega (arith, e, i)) (omega (arith, low)) (omega (arith, e, low)) refl refl
      (part m 130 6 (omega arith) g)) in
      let s2 = jump {k = Some num} 136 171 d2 m (omega arith)
      (taken_step (state d2 (lo + 136) m) (lo + 136) 33 (lo + 171) (omega (arith, ends)) refl refl
      (let z : advanced (lo + 136 + 2) 33 ≡ lo + 171 = omega (arith, ends) in z) (part m 136 2 (omega arith) g)) in
      at_most (omega arith) (before (then s1 s2) (leaves num rs m g a0 0 a2 a a6 a7 a9 18 a11 few))
  loop num few (r ∷ more) rs a m g a0 a1 a2 a6 a7 a9 a11 ok i e loads runs free =
      let m' = mapped file r.place r.size r.offset m in
      let end : a + 16 + 16 * length more ≡ end_of b = omega (arith, e) in
      let back = loaded_back m a (record_of r) (records_of more) loads in
      let long = records_length more in
      let later : IsLoaded m' (a + 16) (records_of more) = loaded_on m m' (a + 16) (records_of more)
      (λ x p q. stays file b r m x runs.0 (inside_stub x (omega (arith, i, p)) (omega (arith, q, long, end)))) back in
      at_most (omega arith) (round num few r more runs.0 a m free.0 g i e loads a0 a1 a2 a6 a7 a9 a11 rs ok
      (λ qs p y. loop num few more qs (a + 16) m' (ready_mapped r m runs.0 g) r.place 0 0 r.size r.place r.offset y p (omega (arith, i)) end later runs.1 free.1))
