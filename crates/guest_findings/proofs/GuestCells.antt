-- Bytes of a guest's memory: what a run keeps of them, and what tells those of the page of data.
use Rattle.std.proofs.Common.{◌≡◌, ℕ, ◌+◌, ◌-◌, ◌*◌, ◌<◌, ◌≤◌, Bool, true, false, ◌&&◌, cond, leb, ltb, List, length, replicate, slice_index, Option, Some, None, Result, Ok, refl, sym, ap, ◌∙◌, arith}
use Rattle.std.specs.Option.{option_map}
use Rattle.std.proofs.lemmas.Bool.{and_parts, leb-true, ltb-true}
use Rattle.std.proofs.lemmas.List.{length-replicate}
use Rattle.pun_base.specs.Memory.{Cell, Bytes, or_else, joined}
use Rattle.cpu_state.specs.declared.memory.NoByte.{NoByte}
use Rattle.cpu_state.specs.Adding.{laid}
use Rattle.cpu_state.specs.Bytes.{allows, byte_of}
use Rattle.cpu_state.specs.Numbers.{unless_lacking, loaded}
use Rattle.insn_form.specs.Machine.{Machine}
use Rattle.insn_form.specs.Runs.{IsRun, last_of}
use Rattle.insn_form.specs.Step.{Step}
use Rattle.insn_form.specs.Touched.{perms_at}
use Rattle.relocate_insn.proofs.FixedCode.{SameCode, run_code}
use Rattle.trampoline.proofs.JoinedRuns.{run_perms}
use Rattle.guest_gen.specs.Instructions.{text_start, data_start}
use Rattle.guest_gen.specs.Starting.{start_memory}
use Rattle.sound_images.proofs.LoadedCode.{same_none}

-- ---- what stands at an address

-- nothing, a byte that can be executed and not written, or a byte of the page of data
pub data CellAt (x : ℕ) (o : Option Cell) : Type 0 where
  Nothing : (none : o ≡ None) → CellAt x o
  Code : (run : allows 1 o ≡ true) → (fixed : allows 2 o ≡ false) → CellAt x o
  Data : (low : data_start ≤ x) → (high : x < data_start + 0x1000) → (perms : option_map (λ (c : Cell). c.perms) o ≡ Some 6) → CellAt x o

-- by the tests of a text and of the page of data
by_tests : (s t : Bool) (x b c : ℕ) → (t ≡ true → (data_start ≤ x) × (x < data_start + 0x1000))
    → CellAt x (or_else (cond s (Some (record { byte = b; perms = 5 })) None) (cond t (Some (record { byte = c; perms = 6 })) None))
by_tests true t x b c h = Code refl refl
by_tests false true x b c h = let p = h refl in Data p.0 p.1 refl
by_tests false false x b c h = Nothing refl

-- an address of the page of data
in_page : (x n : ℕ) → n ≡ 0x1000 → (leb data_start x && ltb (x - data_start) n) ≡ true → (data_start ≤ x) × (x < data_start + 0x1000)
in_page x n e h =
    let p = and_parts (leb data_start x) (ltb (x - data_start) n) h in
    let low : data_start ≤ x = leb-true data_start x p.0 in
    let high : x - data_start < n = ltb-true (x - data_start) n p.1 in
    (low, omega arith)

-- a text and so many bytes of data
both_regions : (text zs : List ℕ) (x : ℕ) → length zs ≡ 0x1000 → CellAt x (joined (laid text_start 5 text) (laid data_start 6 zs) x)
both_regions text zs x e =
    by_tests (leb text_start x && ltb (x - text_start) (length text)) (leb data_start x && ltb (x - data_start) (length zs)) x
    (slice_index text (x - text_start)) (slice_index zs (x - data_start)) (λ h. in_page x (length zs) e h)

-- the memory of a guest at its start
pub start_cell : (text : List ℕ) (x : ℕ) → CellAt x (start_memory text x)
unfolding start_memory
start_cell text x = both_regions text (replicate 0x1000 0) x (length-replicate {A = ℕ} 0x1000 0)

-- ---- loads of single bytes

-- what a load gives of the byte at an address
abbrev load_of : ℕ → Option Cell → Result ℕ NoByte
load_of x o = unless_lacking (cond (allows 4 o) None (Some x)) (byte_of o + 256 * 0)

-- so a load of one byte reads no other
pub loads_alike : (m w : Bytes) (x : ℕ) → m x ≡ w x → loaded m x 1 ≡ loaded w x 1
loads_alike m w x e = ap (load_of x) e

-- equal numbers
same_number : (b c : ℕ) → ◌≡◌ {A = Result ℕ NoByte} (Ok (b + 0)) (Ok (c + 0)) → b ≡ c
same_number b c e = let k : b + 0 ≡ c + 0 = cc in omega arith

-- a load of a byte of data gives it
byte_loaded : (x b c p q : ℕ) → p ≡ 6 → q ≡ 6
    → load_of x (Some (record { byte = b; perms = p })) ≡ load_of x (Some (record { byte = c; perms = q })) → b ≡ c
byte_loaded x b c p q e f h =
    same_number b c (sym (ap (λ (z : ℕ). load_of x (Some (record { byte = b; perms = z }))) e) ∙ h
    ∙ ap (λ (z : ℕ). load_of x (Some (record { byte = c; perms = z }))) f)

-- so equal loads are of equal bytes
data_loaded : (x : ℕ) (o q : Option Cell) → option_map (λ (c : Cell). c.perms) o ≡ Some 6 → option_map (λ (c : Cell). c.perms) q ≡ Some 6
    → load_of x o ≡ load_of x q → o ≡ q
data_loaded x None q e f h = absurd cc
data_loaded x (Some c) None e f h = absurd cc
data_loaded x (Some c) (Some d) e f h =
    let p : c.perms ≡ 6 = cc in
    let r : d.perms ≡ 6 = cc in
    let b = byte_loaded x c.byte d.byte c.perms d.perms p r h in
    λ i. Some (record { byte = b i; perms = (p ∙ sym r) i })

-- ---- what a run keeps of memory

-- permissions, and code
pub record IsKept (m w : Bytes) : Type 0 where
  pub perms : (x : ℕ) → perms_at w x ≡ perms_at m x
  pub code : SameCode m w

-- a run keeps them
pub run_keeps : (s : Machine) (ts : List Machine) → IsRun Step s ts → IsKept s.mem (last_of s ts).mem
run_keeps s ts r = record { perms = run_perms s ts r; code = run_code s.mem s ts r (λ x i j. refl) }

-- at an address at which two memories hold the same, what is kept of them is the same, but for data
pub same_cell : (x : ℕ) (m n w v : Bytes) → CellAt x (m x) → n x ≡ m x → IsKept m w → IsKept n v
    → (data_start ≤ x → x < data_start + 0x1000 → loaded v x 1 ≡ loaded w x 1) → v x ≡ w x
same_cell x m n w v (Nothing none) e h k loads =
    same_none (v x) (n x) (k.perms x) (e ∙ none) ∙ sym (same_none (w x) (m x) (h.perms x) none)
same_cell x m n w v (Code run fixed) e h k loads =
    k.code x (ap (allows 1) e ∙ run) (ap (allows 2) e ∙ fixed) ∙ e ∙ sym (h.code x run fixed)
same_cell x m n w v (Data low high perms) e h k loads =
    data_loaded x (v x) (w x) (k.perms x ∙ ap (option_map (λ (c : Cell). c.perms)) e ∙ perms) (h.perms x ∙ perms) (loads low high)
