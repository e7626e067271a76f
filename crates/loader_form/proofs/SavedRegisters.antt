-- Registers saved in memory, and given back.
use Rattle.std.proofs.Common.{◌≡◌, ◌⊎◌, inl, inr, ℕ, suc, ◌+◌, ◌*◌, ◌%◌, ◌^◌, ◌<◌, ◌≤◌, Bool, true, List, [], ◌∷◌, length, Option, refl, ap, ◌∙◌, arith}
use Rattle.pun_base.specs.Memory.{Bytes}
use Rattle.cpu_state.specs.declared.state.Core.{Core}
use Rattle.cpu_state.specs.Bytes.{number_at, put_list, bytes_of}
use Rattle.cpu_state.specs.Fixed.{IsFixed}
use Rattle.cpu_state.specs.Processor.{IsProcessorCore}
use Rattle.cpu_state.proofs.Readback.{bytes_of_length, read_back}
use Rattle.insn_form.specs.Operands.{reg, with_reg}
use Rattle.insn_form.specs.Machine.{Machine}
use Rattle.insn_form.specs.Runs.{nowhere}
use Rattle.insn_form.specs.Touched.{perms_at}
use Rattle.insn_form.proofs.TouchedMemory.{put_list_perms}
use Rattle.relocate_insn.specs.Running.{IsPrivate}
use Rattle.relocate_insn.proofs.FixedCode.{fixed_front, fixed_back, fixed_after}
use Rattle.relocate_insn.proofs.PrivateRange.{private_on, private_after, private_free, put_away, number_keep}
use Rattle.loader_form.specs.Stub.{Used, code_of, store, load, stores, loads}
use Rattle.loader_form.proofs.StubSteps.{stored, store_step, loaded, load_step}
use Rattle.loader_form.proofs.StubPaths.{Reach, stay, own, then, reach_at, as_many}

-- the set of all addresses
abbrev pub everywhere : ℕ → Bool
everywhere x = true

-- memory after the stores
abbrev pub saved : Bytes → ℕ → Core → List Used → Bytes
saved m a c [] = m
saved m a c (r ∷ rs) = saved (put_list m a (bytes_of 8 (reg c (code_of r) % 2 ^ 64))) (a + 8) c rs

-- the numbers in their places
abbrev pub Slots : Bytes → ℕ → (ℕ → ℕ) → List Used → Type 0
Slots m a g [] = Unit {0}
Slots m a g (r ∷ rs) = (number_at m a 8 ≡ g (code_of r)) × Slots m (a + 8) g rs

-- registers after the loads
abbrev pub restored : Core → (ℕ → ℕ) → List Used → Core
restored c g [] = c
restored c g (r ∷ rs) = restored (with_reg c (code_of r) (g (code_of r))) g rs

-- what lies beside the stores' places stays
pub saved_away : (m : Bytes) (a : ℕ) (c : Core) (rs : List Used) (x : ℕ) → a + 8 * length rs < 2 ^ 64 → (x < a) ⊎ (a + 8 * length rs ≤ x)
    → saved m a c rs x ≡ m x
saved_away m a c [] x l h = refl
saved_away m a c (r ∷ rs) x l h =
    let bs = bytes_of 8 (reg c (code_of r) % 2 ^ 64) in
    let w : length bs ≡ 8 = bytes_of_length 8 (reg c (code_of r) % 2 ^ 64) in
    saved_away (put_list m a bs) (a + 8) c rs x (omega arith) (later h) ∙ put_away m a bs x (omega (arith, w)) (here bs w h)
  where
    later : (x < a) ⊎ (a + 8 * suc (length rs) ≤ x) → (x < a + 8) ⊎ (a + 8 + 8 * length rs ≤ x)
    later (inl k) = inl (omega arith)
    later (inr k) = inr (omega arith)

    here : (bs : List ℕ) → length bs ≡ 8 → (x < a) ⊎ (a + 8 * suc (length rs) ≤ x) → (x < a) ⊎ (a + length bs ≤ x)
    here bs w (inl k) = inl k
    here bs w (inr k) = inr (omega (arith, w))

-- stores change no permission
pub saved_perms : (m : Bytes) (a : ℕ) (c : Core) (rs : List Used) (x : ℕ) → perms_at (saved m a c rs) x ≡ perms_at m x
saved_perms m a c [] x = refl
saved_perms m a c (r ∷ rs) x =
    let bs = bytes_of 8 (reg c (code_of r) % 2 ^ 64) in
    saved_perms (put_list m a bs) (a + 8) c rs x ∙ put_list_perms m a bs x

-- what was saved stands in its place
pub slots_saved : (lo n : ℕ) (m : Bytes) (a : ℕ) (c : Core) (rs : List Used) → IsProcessorCore c → IsPrivate everywhere lo n m → lo ≤ a
    → a + 8 * length rs ≤ lo + n → Slots (saved m a c rs) a (reg c) rs
slots_saved lo n m a c [] p q l h = tt
slots_saved lo n m a c (r ∷ rs) p q l h =
    let x = reg c (code_of r) in
    let bs = bytes_of 8 (x % 2 ^ 64) in
    let m1 = put_list m a bs in
    let b = q.low in
    let small : x < 2 ^ 64 = p.small (code_of r) in
    let q1 = private_on everywhere lo n m m1 (put_list_perms m a bs) q in
    let kept : number_at (saved m1 (a + 8) c rs) a 8 ≡ number_at m1 a 8 =
    number_keep m1 (saved m1 (a + 8) c rs) a 8 (omega arith) (λ y i j. saved_away m1 (a + 8) c rs y (omega arith) (inl (omega arith))) in
    let read : number_at m1 a 8 ≡ x % 2 ^ 64 % 2 ^ (8 * 8) =
    read_back m 2 a 8 (x % 2 ^ 64) (omega arith) (omega arith) (private_free everywhere lo n m a 8 q l (omega arith)).0 in (
      kept ∙ read ∙ (let e : x % 2 ^ 64 % 2 ^ (8 * 8) ≡ x = omega arith in e),
      slots_saved lo n m1 (a + 8) c rs p q1 (omega arith) (omega arith),
    )

-- the stores
pub stores_run : {file : List ℕ} {k : Option ℕ} (lo save : ℕ) (rs : List Used) (a at : ℕ) (v : Machine) → lo ≤ at → at + 8 * length rs ≤ lo + 4096
    → lo + 4096 ≤ 0x7FFF0000 → v.rip ≡ at → IsFixed v.mem at (stores a rs) → IsPrivate everywhere save 4096 v.mem → save ≤ a
    → a + 8 * length rs ≤ save + 4096
    → Reach file lo (lo + 4096) k v (length rs) [] k (record { core = v.core; rip = at + 8 * length rs; mem = saved v.mem a v.core rs; world = v.world })
stores_run {file} {k} lo save [] a at v i j l h c p g b =
    let e : v.rip ≡ at + 0 = h ∙ omega arith in
    reach_at (λ z. record { core = v.core; rip = e z; mem = v.mem; world = v.world }) (stay k v)
stores_run {file} {k} lo save (r ∷ rs) a at v i j l h c p g b =
    let low = p.low in
    let s = store_step v r at a (omega arith) (omega arith) h (private_free everywhere save 4096 v.mem a 8 p g (omega arith)).0
    (fixed_front v.mem at (store r a) (stores (a + 8) rs) c) in
    let v1 = stored v r a (at + 8) in
    let c1 = fixed_after nowhere v v1 (at + 8) (stores (a + 8) rs) (s.0, s.1) (fixed_back v.mem at (store r a) (stores (a + 8) rs) (omega arith) c) in
    let p1 = private_after everywhere nowhere save 4096 v v1 (s.0, s.1) p in
    let more = stores_run {file = file} {k = k} lo save rs (a + 8) (at + 8) v1 (omega arith) (omega arith) l refl c1 p1 (omega arith) (omega arith) in
    let e : at + 8 + 8 * length rs ≡ at + 8 * suc (length rs) = omega arith in
    reach_at (λ z. record { core = v.core; rip = e z; mem = saved v1.mem (a + 8) v.core rs; world = v.world })
    (as_many {n = 1 + length rs} {m = suc (length rs)} (omega arith) (then (own k v v1 s (omega (arith, h)) (omega (arith, h))) more))

-- the loads
pub loads_run : {file : List ℕ} {k : Option ℕ} (lo save : ℕ) (rs : List Used) (a at : ℕ) (v : Machine) (g : ℕ → ℕ) → lo ≤ at
    → at + 8 * length rs ≤ lo + 4096 → lo + 4096 ≤ 0x7FFF0000 → v.rip ≡ at → IsFixed v.mem at (loads a rs) → IsPrivate everywhere save 4096 v.mem
    → save ≤ a → a + 8 * length rs ≤ save + 4096 → ((r : ℕ) → g r < 2 ^ 64) → Slots v.mem a g rs
    → Reach file lo (lo + 4096) k v (length rs) [] k (record { core = restored v.core g rs; rip = at + 8 * length rs; mem = v.mem; world = v.world })
loads_run {file} {k} lo save [] a at v g i j l h c p f b small ss =
    let e : v.rip ≡ at + 0 = h ∙ omega arith in
    reach_at (λ z. record { core = v.core; rip = e z; mem = v.mem; world = v.world }) (stay k v)
loads_run {file} {k} lo save (r ∷ rs) a at v g i j l h c p f b small ss =
    let low = p.low in
    let x = g (code_of r) in
    let s = load_step v r at a (omega arith) (omega arith) h (private_free everywhere save 4096 v.mem a 8 p f (omega arith)).1
    (fixed_front v.mem at (load r a) (loads (a + 8) rs) c) in
    let y : x < 2 ^ 64 = small (code_of r) in
    let q : number_at v.mem a 8 % 2 ^ 64 % 2 ^ 64 ≡ x = ap (λ z. z % 2 ^ 64 % 2 ^ 64) ss.0 ∙ (let d : x % 2 ^ 64 % 2 ^ 64 ≡ x = omega arith in d) in
    let v1 : Machine = record { core = with_reg v.core (code_of r) x; rip = at + 8; mem = v.mem; world = v.world } in
    let c1 = fixed_back v.mem at (load r a) (loads (a + 8) rs) (omega arith) c in
    let more = loads_run {file = file} {k = k} lo save rs (a + 8) (at + 8) v1 g (omega arith) (omega arith) l refl c1 p (omega arith) (omega arith) small ss.1 in
    let first : Reach file lo (lo + 4096) k v 1 [] k v1 = reach_at (λ z. record { core = with_reg v.core (code_of r) (q z); rip = at + 8; mem = v.mem; world = v.world })
    (own k v (loaded v r a (at + 8)) s (omega (arith, h)) (omega (arith, h))) in
    let e : at + 8 + 8 * length rs ≡ at + 8 * suc (length rs) = omega arith in
    reach_at (λ z. record { core = restored v1.core g rs; rip = e z; mem = v.mem; world = v.world })
    (as_many {n = 1 + length rs} {m = suc (length rs)} (omega arith) (then first more))
