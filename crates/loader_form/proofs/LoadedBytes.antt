-- What loaded bytes show, and memory after the runs.
use Rattle.std.proofs.Common.{◌≡◌, ℕ, zero, suc, ◌+◌, ◌*◌, ◌-◌, ◌/◌, ◌%◌, ◌^◌, ◌<◌, ◌≤◌, Bool, true, false, ◌&&◌, cond, List, [], ◌∷◌, length, Option, Some, None, refl, sym, ap, ap₂, ◌∙◌, subst, arith}
use Rattle.std.specs.Prelude.{nat_le, nat_lt, slice_index}
use Rattle.std.specs.Option.{option_map}
use Rattle.std.proofs.lemmas.Bool.{cond-true, cond-false, and_parts, ltb-true, leb-true}
use Rattle.pun_base.specs.Memory.{Cell, Bytes}
use Rattle.cpu_state.specs.Bytes.{advanced, allows, byte_of, lacking, number_at, bytes_of}
use Rattle.cpu_state.specs.Fixed.{IsFixed}
use Rattle.cpu_state.proofs.Readback.{join_bytes}
use Rattle.relocate_insn.proofs.FixedCode.{next_address}
use Rattle.loader_form.specs.Stub.{Run, Stub}
use Rattle.loader_form.specs.Kernel.{CanRead, mapped}
use Rattle.insn_form.specs.Touched.{perms_at}
use Rattle.loader_form.specs.Starting.{IsLoaded, IsOutside, IsRunOf, AreFree}
use Rattle.loader_form.specs.Running.{all_mapped}

-- loaded bytes stand and can't be written
pub loaded_fixed : (m : Bytes) (a : ℕ) (bs : List ℕ) → a + length bs < 2 ^ 64 → IsLoaded m a bs → IsFixed m a bs
loaded_fixed m a [] l h = tt
loaded_fixed m a (b ∷ bs) l h =
    let e = h.0 in
    let n : a + 1 ≡ advanced a 1 = sym (next_address a 1 (omega arith)) in
    (ap (allows 1) e, ap (allows 2) e, ap byte_of e, subst (λ (z : ℕ). IsFixed m z bs) n (loaded_fixed m (a + 1) bs (omega arith) h.1))

-- loaded bytes can be read
pub loaded_read : (m : Bytes) (a : ℕ) (bs : List ℕ) → IsLoaded m a bs → CanRead m a bs
loaded_read m a [] h = tt
loaded_read m a (b ∷ bs) h = (ap (allows 4) h.0, ap byte_of h.0, loaded_read m (a + 1) bs h.1)

-- bytes that are loaded in a memory are loaded in another one that is the same at their addresses
pub loaded_on : (m w : Bytes) (a : ℕ) (bs : List ℕ) → ((x : ℕ) → a ≤ x → x < a + length bs → w x ≡ m x) → IsLoaded m a bs → IsLoaded w a bs
loaded_on m w a [] e h = tt
loaded_on m w a (b ∷ bs) e h =
    (e a (omega arith) (omega arith) ∙ h.0, loaded_on m w (a + 1) bs (λ x i j. e x (omega arith) (omega arith)) h.1)

-- loaded bytes can all be read
pub loaded_lacking : (m : Bytes) (a : ℕ) (bs : List ℕ) → a + length bs < 2 ^ 64 → IsLoaded m a bs → lacking 4 m a (length bs) ≡ None
loaded_lacking m a [] l h = refl
loaded_lacking m a (b ∷ bs) l h =
    let n : advanced a 1 ≡ a + 1 = next_address a 1 (omega arith) in
    cond-true (allows 4 (m a)) _ _ (ap (allows 4) h.0) ∙ ap (λ z. lacking 4 m z (length bs)) n ∙ loaded_lacking m (a + 1) bs (omega arith) h.1

-- the bytes of a number are that number
pub loaded_number : (m : Bytes) (a n v : ℕ) → a + n < 2 ^ 64 → IsLoaded m a (bytes_of n v) → number_at m a n ≡ v % 2 ^ (8 * n)
loaded_number m a zero v l h = omega arith
loaded_number m a (suc n) v l h =
    let e : advanced a 1 ≡ a + 1 = next_address a 1 (omega arith) in
    ap₂ (λ x y. x + 256 * y) (ap byte_of h.0) (ap (λ z. number_at m z n) e ∙ loaded_number m (a + 1) n (v / 256) (omega arith) h.1) ∙ join_bytes v n

-- memory outside a run
pub mapped_outside : (file : List ℕ) (place size offset : ℕ) (m : Bytes) (x : ℕ) → ((place ≤ x) → (x < place + size) → ⊥) → mapped file place size offset m x ≡ m x
mapped_outside file place size offset m x h = cond-false (nat_le place x && nat_lt x (place + size)) _ (m x) (by_test (nat_le place x && nat_lt x (place + size)) refl)
  where
    by_test : (b : Bool) → (nat_le place x && nat_lt x (place + size)) ≡ b → (nat_le place x && nat_lt x (place + size)) ≡ false
    by_test false e = e
    by_test true e = let q = and_parts (nat_le place x) (nat_lt x (place + size)) e in absurd (h (leb-true place x q.0) (ltb-true x (place + size) q.1))

-- mapping one run changes neither stub nor save page
pub stays : (file : List ℕ) (b : Stub) (r : Run) (m : Bytes) (x : ℕ) → IsRunOf file b r → (IsOutside b x → ⊥) → mapped file r.place r.size r.offset m x ≡ m x
stays file b r m x h o = mapped_outside file r.place r.size r.offset m x (λ i j. o (h.apart x i j))

-- runs over maps that are equal at an address
pub mapped_same : (file : List ℕ) (place size offset : ℕ) (m w : Bytes) (x : ℕ) → w x ≡ m x → mapped file place size offset w x ≡ mapped file place size offset m x
mapped_same file place size offset m w x e =
    ap (λ z. cond (nat_le place x && nat_lt x (place + size)) (Some (record { byte = slice_index file (offset + (x - place)); perms = 5 })) z) e

-- memories equal at an address are equal there once the runs are mapped
pub all_same : (file : List ℕ) (rs : List Run) (m w : Bytes) (x : ℕ) → w x ≡ m x → all_mapped file rs w x ≡ all_mapped file rs m x
all_same file [] m w x e = e
all_same file (r ∷ rs) m w x e =
    all_same file rs (mapped file r.place r.size r.offset m) (mapped file r.place r.size r.offset w) x (mapped_same file r.place r.size r.offset m w x e)

-- where each address has the same permissions, the same is held
none_of : (c d : Option Cell) → option_map (λ (z : Cell). z.perms) c ≡ option_map (λ (z : Cell). z.perms) d → d ≡ None → c ≡ None
none_of None d e n = refl
none_of (Some c) d e n = absurd (let w : Some c.perms ≡ None = e ∙ ap (option_map (λ (z : Cell). z.perms)) n in cc)

-- where permissions are the same in two memories, they are so after a run is mapped in both
pub mapped_perms : (file : List ℕ) (place size offset : ℕ) (m w : Bytes) (x : ℕ) → perms_at w x ≡ perms_at m x
    → perms_at (mapped file place size offset w) x ≡ perms_at (mapped file place size offset m) x
mapped_perms file place size offset m w x e = by_test (nat_le place x && nat_lt x (place + size))
  where
    by_test : (t : Bool) → option_map (λ (z : Cell). z.perms) (cond t (Some (record { byte = slice_index file (offset + (x - place)); perms = 5 })) (w x))
        ≡ option_map (λ (z : Cell). z.perms) (cond t (Some (record { byte = slice_index file (offset + (x - place)); perms = 5 })) (m x))
    by_test true = refl
    by_test false = e

-- where permissions are equal, addresses free for the runs are free for them
pub still_free : (file : List ℕ) (rs : List Run) (m w : Bytes) → ((x : ℕ) → perms_at w x ≡ perms_at m x) → AreFree file m rs → AreFree file w rs
still_free file [] m w e h = tt
still_free file (r ∷ rs) m w e h = (
  λ x i j. none_of (w x) (m x) (e x) (h.0 x i j),
  still_free file rs (mapped file r.place r.size r.offset m) (mapped file r.place r.size r.offset w)
      (λ x. mapped_perms file r.place r.size r.offset m w x (e x)) h.1,
)
