-- The whole run of the stub, whatever the kernel replies.
use Rattle.std.proofs.Common.{◌≡◌, ◌⊎◌, inl, inr, ℕ, ◌+◌, ◌*◌, ◌-◌, ◌^◌, ◌<◌, ◌≤◌, List, [], ◌∷◌, ◌++◌, length, drop, Option, Some, None, refl, sym, ap, ◌∙◌, subst, arith}
use Rattle.pun_base.specs.Memory.{Bytes}
use Rattle.cpu_alu.specs.declared.operation.Width.TheVariants.{W32, W64}
use Rattle.cpu_alu.specs.Widths.{cut}
use Rattle.cpu_state.specs.declared.state.Core.{Core}
use Rattle.cpu_state.specs.Bytes.{advanced}
use Rattle.insn_form.specs.Operands.{reg}
use Rattle.insn_form.specs.Moves.{sign_filled}
use Rattle.insn_form.specs.Machine.{Machine}
use Rattle.insn_form.specs.Touched.{perms_at}
use Rattle.relocate_insn.specs.Running.{IsPrivate}
use Rattle.loader_form.specs.declared.kernel.MapAnswer.{MapAnswer}
use Rattle.loader_form.specs.declared.kernel.MapAnswer.TheVariants as answer
use Rattle.loader_form.specs.Stub.{Rax, Rbx, Rsi, Rdi, Reg10, used, stores, Run, Stub, records_of, path_at, records_at, end_of, stub_code, path}
use Rattle.loader_form.specs.Kernel.{Reply, IsAnswer, AreReplies, Open, Asks, mapped, IsAtCall, last_number}
use Rattle.loader_form.specs.Starting.{IsLoaded, AreFree, IsStart}
use Rattle.loader_form.specs.Running.{all_mapped, End, AtEntry, AtExit, AtCall, end_by, end_from, stub_end, left_by, left_from, stub_left, IsAtEntry, EndsSo, StubRuns}
use Rattle.loader_form.proofs.StubSteps.{Own, set_step, spread_step, sign_step, to_r8_step, taken_step, passed_step, call_here}
use Rattle.loader_form.proofs.StubPaths.{Reach, then, reach_at, Closes, Outcome, before, at_most}
use Rattle.loader_form.proofs.SavedRegisters.{everywhere, saved, saved_away, saved_perms, slots_saved, stores_run}
use Rattle.loader_form.proofs.LoadedBytes.{loaded_fixed, loaded_read, loaded_on, all_same, mapped_perms, still_free}
use Rattle.relocate_insn.proofs.FixedCode.{fixed_front}
use Rattle.relocate_insn.proofs.PrivateRange.{private_on}
use Rattle.loader_form.proofs.StubLengths.{records_length}
use Rattle.loader_form.proofs.StubLoop.{ten, own_ten, no_sign, error_sign, state, final, Ready, part, go, jump, waits, failing, call_step, loop}

-- permissions after the runs
all_perms : (file : List ℕ) (rs : List Run) (m w : Bytes) (x : ℕ) → perms_at w x ≡ perms_at m x → perms_at (all_mapped file rs w) x ≡ perms_at (all_mapped file rs m) x
all_perms file [] m w x e = e
all_perms file (r ∷ rs) m w x e =
    all_perms file rs (mapped file r.place r.size r.offset m) (mapped file r.place r.size r.offset w) x
    (mapped_perms file r.place r.size r.offset m w x e)

module _ (file : List ℕ) (b : Stub) (s : Machine) (st : IsStart file b s) where
  abbrev c : Core
  c = s.core

  abbrev R : ℕ → ℕ
  R = reg c

  abbrev lo : ℕ
  lo = b.at

  -- the stub ends below 0x7FFF0000
  low : end_of b ≤ 0x7FFF0000
  low = st.low

  abbrev at_ : Core → ℕ → Bytes → Machine
  at_ = state file b s st

  abbrev IsReady : Bytes → Type 0
  IsReady = Ready file b s st

  -- memory with the registers saved
  abbrev m1 : Bytes
  m1 = saved s.mem b.save c used

  -- the save page is free to be read and written
  room : IsPrivate everywhere b.save 4096 s.mem
  room = record { inside = λ x i j. refl; read = st.read; written = st.written; low = st.low_save }

  -- saving registers changes no byte outside the save page
  away : (x : ℕ) → (x < b.save) ⊎ (b.save + 4096 ≤ x) → m1 x ≡ s.mem x
  away x o = let l = st.low_save in saved_away s.mem b.save c used x (omega (arith, l)) (nearer o)
    where
      nearer : (x < b.save) ⊎ (b.save + 4096 ≤ x) → (x < b.save) ⊎ (b.save + 8 * length used ≤ x)
      nearer (inl k) = inl k
      nearer (inr k) = inr (omega arith)

  -- saving registers changes no byte of the stub
  in_stub : (x : ℕ) → lo ≤ x → x < end_of b → m1 x ≡ s.mem x
  in_stub x i j = away x (by_side st.apart)
    where
      by_side : (end_of b ≤ b.save) ⊎ (b.save + 4096 ≤ lo) → (x < b.save) ⊎ (b.save + 4096 ≤ x)
      by_side (inl k) = inl (omega arith)
      by_side (inr k) = inr (omega arith)

  -- memory is ready for the loop once registers are saved
  ready : IsReady m1
  ready = record {
    code = loaded_on s.mem m1 lo (stub_code b) (λ x i j. in_stub x i (omega arith)) st.code;
    path = loaded_on s.mem m1 (path_at b) path (λ x i j. in_stub x (omega arith) (omega arith)) st.path;
    private = private_on everywhere b.save 4096 s.mem m1 (saved_perms s.mem b.save c used) room;
    slots = slots_saved b.save 4096 s.mem b.save c used st.processor room (omega arith) (omega arith);
  }

  -- the records are loaded once registers are saved
  records : IsLoaded m1 (records_at b) (records_of b.runs)
  records = let long = records_length b.runs in loaded_on s.mem m1 (records_at b) (records_of b.runs) (λ x i j. in_stub x (omega arith) (omega (arith, long))) st.records

  -- saving registers holds no address more
  all_free : AreFree file m1 b.runs
  all_free = still_free file b.runs s.mem m1 (saved_perms s.mem b.save c used) st.free

  abbrev d0 : Core
  d0 = ten c (R 0) (R 1) (R 2) (R 3) (R 6) (R 7) (R 8) (R 9) (R 10) (R 11)

  abbrev d1 : Core
  d1 = ten c 2 (R 1) (R 2) (R 3) (R 6) (R 7) (R 8) (R 9) (R 10) (R 11)

  abbrev d2 : Core
  d2 = ten c 2 (R 1) (R 2) (R 3) (R 6) (path_at b) (R 8) (R 9) (R 10) (R 11)

  abbrev d3 : Core
  d3 = ten c 2 (R 1) (R 2) (R 3) 0 (path_at b) (R 8) (R 9) (R 10) (R 11)

  -- up to the first call
  to_open : Reach file lo (lo + 4096) None s 13 [] None (at_ d3 (lo + 95) m1)
  to_open =
      let code = loaded_fixed s.mem lo (stub_code b) (omega (arith, low)) st.code in
      let s0 = stores_run {file = file} {k = None} lo b.save used b.save lo s (omega arith) (omega arith) (omega (arith, low)) st.there
      (fixed_front s.mem lo (stores b.save used) (drop 80 (stub_code b)) code) room (omega arith) (omega arith) in
      let e0 : lo + 8 * 10 ≡ lo + 80 = omega arith in
      let full = own_ten c st.processor in
      let s0' = reach_at (λ i. at_ (full i) (e0 i) m1) s0 in
      let s1 = go file b s st {k = None} 80 5 85 d0 d1 m1 (omega arith) (omega arith)
      (set_step (at_ d0 (lo + 80) m1) Rax (lo + 80) 2 (omega (arith, low)) (omega arith) refl (part file b s st m1 80 5 (omega arith) ready)) in
      let s2 = go file b s st {k = None} 85 5 90 d1 d2 m1 (omega arith) (omega arith)
      (set_step (at_ d1 (lo + 85) m1) Rdi (lo + 85) (path_at b) (omega (arith, low)) (omega (arith, low)) refl (part file b s st m1 85 5 (omega arith) ready)) in
      let s3 = go file b s st {k = None} 90 5 95 d2 d3 m1 (omega arith) (omega arith)
      (set_step (at_ d2 (lo + 90) m1) Rsi (lo + 90) 0 (omega (arith, low)) (omega arith) refl (part file b s st m1 90 5 (omega arith) ready)) in
      then s0' (then s1 (then s2 s3))

  abbrev here : IsAtCall (at_ d3 (lo + 95) m1)
  here = call_here (at_ d3 (lo + 95) m1) (lo + 95) refl (part file b s st m1 95 2 (omega arith) ready)

  -- the registers ask for the opening of the file
  asks : Asks file None d3 m1 Open
  asks = (refl, loaded_read m1 (path_at b) path ready.path, refl)

  -- rcx is told by the sign of rax
  to_test : {k : Option ℕ} (v z rcx r11 : ℕ) → cut W64 (sign_filled W64 v) ≡ z
      → Reach file lo (lo + 4096) k (at_ (ten c v rcx (R 2) (R 3) 0 (path_at b) (R 8) (R 9) (R 10) r11) (lo + 97) m1) 2 [] k
      (at_ (ten c v (cut W32 (cut W32 z)) z (R 3) 0 (path_at b) (R 8) (R 9) (R 10) r11) (lo + 101) m1)
  to_test {k} v z rcx r11 t =
      let e1 = ten c v rcx (R 2) (R 3) 0 (path_at b) (R 8) (R 9) (R 10) r11 in
      let e2 = ten c v rcx z (R 3) 0 (path_at b) (R 8) (R 9) (R 10) r11 in
      let e3 = ten c v (cut W32 (cut W32 z)) z (R 3) 0 (path_at b) (R 8) (R 9) (R 10) r11 in
      let o1 = subst (λ (q : ℕ). Own (at_ e1 (lo + 97) m1) (at_ (ten c v rcx q (R 3) 0 (path_at b) (R 8) (R 9) (R 10) r11) (lo + 97 + 2) m1)) t
      (spread_step (at_ e1 (lo + 97) m1) (lo + 97) (omega (arith, low)) refl (part file b s st m1 97 2 (omega arith) ready)) in
      let s1 = go file b s st {k = k} 97 2 99 e1 e2 m1 (omega arith) (omega arith) o1 in
      let s2 = go file b s st {k = k} 99 2 101 e2 e3 m1 (omega arith) (omega arith)
      (sign_step (at_ e2 (lo + 99) m1) (lo + 99) (omega (arith, low)) refl (part file b s st m1 99 2 (omega arith) ready)) in
      then s1 s2

  abbrev target : Machine
  target = final file b s st (all_mapped file b.runs m1)

  abbrev Opened : End → List Reply → List Reply → Type 0
  Opened x rs rest = Outcome file lo None (at_ d3 (lo + 95) m1) (23 + 12 * length b.runs) x target rs rest

  -- the stub ends as the answer to open says
  opened_by : (v : MapAnswer) (y : ℕ) → IsAnswer v → (qs : List Reply) → AreReplies qs
      → Opened (end_by v (end_from (length b.runs) qs)) (record { answer = v; r11 = y } ∷ qs) (left_by v qs (left_from (length b.runs) qs))
  opened_by (answer.Ok n) y ok qs oks =
      let q : Reply = record { answer = answer.Ok n; r11 = y } in
      let k = Some n in
      let e4 = ten c n (advanced (lo + 95) 2) (R 2) (R 3) 0 (path_at b) (R 8) (R 9) (R 10) y in
      let e5 = ten c n 0 0 (R 3) 0 (path_at b) (R 8) (R 9) (R 10) y in
      let e6 = ten c n 0 0 (R 3) 0 (path_at b) n (R 9) (R 10) y in
      let e7 = ten c n 0 0 (records_at b) 0 (path_at b) n (R 9) (R 10) y in
      let e8 = ten c n 0 0 (records_at b) 0 (path_at b) n (R 9) 18 y in
      let s4 = call_step file b s st {k = None} Open q 95 d3 e4 m1 m1 (omega arith) here refl asks refl in
      let s5 = to_test {k = k} n 0 (advanced (lo + 95) 2) y (no_sign n (omega (arith, ok))) in
      let s6 = jump file b s st {k = k} 101 116 e5 m1 (omega arith)
      (taken_step (at_ e5 (lo + 101) m1) (lo + 101) 13 (lo + 116) (omega (arith, low)) refl refl
      (let z : advanced (lo + 101 + 2) 13 ≡ lo + 116 = omega (arith, low) in z) (part file b s st m1 101 2 (omega arith) ready)) in
      let z7 : cut W64 (cut W64 n) ≡ n = omega (arith, ok) in
      let o7 = subst (λ (i : ℕ). Own (at_ e5 (lo + 116) m1) (at_ (ten c n 0 0 (R 3) 0 (path_at b) i (R 9) (R 10) y) (lo + 116 + 3) m1)) z7
      (to_r8_step (at_ e5 (lo + 116) m1) (lo + 116) (omega (arith, low)) refl (part file b s st m1 116 3 (omega arith) ready)) in
      let s7 = go file b s st {k = k} 116 3 119 e5 e6 m1 (omega arith) (omega arith) o7 in
      let s8 = go file b s st {k = k} 119 5 124 e6 e7 m1 (omega arith) (omega arith)
      (set_step (at_ e6 (lo + 119) m1) Rbx (lo + 119) (records_at b) (omega (arith, low)) (omega (arith, low)) refl (part file b s st m1 119 5 (omega arith) ready)) in
      let s9 = go file b s st {k = k} 124 6 130 e7 e8 m1 (omega arith) (omega arith)
      (set_step (at_ e7 (lo + 124) m1) Reg10 (lo + 124) 0x12 (omega (arith, low)) (omega arith) refl (part file b s st m1 124 6 (omega arith) ready)) in
      let l = loop file b s st n ok b.runs qs (records_at b) m1 ready n 0 0 0 (path_at b) (R 9) y oks (omega arith) (omega arith) records st.runs all_free in
      at_most (omega arith) (before (then s4 (then s5 (then s6 (then s7 (then s8 s9))))) l)
  opened_by (answer.Failed n) y ok qs oks =
      let q : Reply = record { answer = answer.Failed n; r11 = y } in
      let v = 2 ^ 64 - n in
      let e4 = ten c v (advanced (lo + 95) 2) (R 2) (R 3) 0 (path_at b) (R 8) (R 9) (R 10) y in
      let e5 = ten c v (2 ^ 32 - 1) (2 ^ 64 - 1) (R 3) 0 (path_at b) (R 8) (R 9) (R 10) y in
      let s4 = call_step file b s st {k = None} Open q 95 d3 e4 m1 m1 (omega arith) here refl asks refl in
      let s5 = to_test {k = None} v (2 ^ 64 - 1) (advanced (lo + 95) 2) y (error_sign n ok.0 ok.1) in
      let s6 = go file b s st {k = None} 101 2 103 e5 e5 m1 (omega arith) (omega arith)
      (passed_step (at_ e5 (lo + 101) m1) (lo + 101) 13 (omega (arith, low)) refl refl (part file b s st m1 101 2 (omega arith) ready)) in
      at_most (omega arith) (before (then s4 (then s5 s6))
      (failing file b s st {k = None} target qs m1 ready v (2 ^ 32 - 1) (2 ^ 64 - 1) (R 3) 0 (path_at b) (R 8) (R 9) (R 10) y))

  -- by any replies the stub runs to its end
  by_replies : (rs : List Reply) → AreReplies rs → Outcome file lo None s (36 + 12 * length b.runs) (stub_end (length b.runs) rs) target rs (stub_left (length b.runs) rs)
  by_replies [] ok =
      at_most (omega arith) (before to_open (waits file b s st {k = None} 95 d3 m1 (omega arith) (record { here = here; call = Open; asks = asks })))
  by_replies (q ∷ qs) ok = at_most (omega arith) (before to_open (opened_by q.answer q.r11 ok.0 qs ok.1))

  -- what is so at the entry
  at_entry : IsAtEntry file b s target
  at_entry = record {
    core = refl;
    world = refl;
    there = refl;
    memory = λ x o. all_same file b.runs s.mem m1 x (away x o);
    save = λ x. all_perms file b.runs s.mem m1 x (saved_perms s.mem b.save c used x);
  }

  -- where a run closes, it ends as its end says
  told : (e : End) (number : Option ℕ) (t : Machine) → Closes file lo e target number t → EndsSo file b s e number t
  told AtEntry number t h = subst (λ (z : Machine). IsAtEntry file b s z) (sym h) at_entry
  told AtExit number t h = h
  told AtCall number t h = h

-- the law of the stub
pub stub_runs : StubRuns
stub_runs file b s rs st ok =
    let o = by_replies file b s st rs ok in
    let e = stub_end (length b.runs) rs in
    let x = told file b s st e o.number' o.last o.closes in
    let x' = subst (λ (z : Option ℕ). EndsSo file b s e z o.last) (sym o.reach.after) x in
    let n = o.reach.count in
    let l = o.few in
    record {
      moves = o.reach.moves;
      run = o.reach.run;
      few = omega (arith, n, l);
      inside = o.reach.inside;
      taken = o.split ∙ ap (λ z. z ++ stub_left (length b.runs) rs) (sym o.reach.replies);
      end = subst (λ (z : Machine). EndsSo file b s e (last_number None o.reach.moves) z) (sym o.reach.state) x';
    }
