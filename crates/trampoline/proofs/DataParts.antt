-- The data part before and after a write.
use Rattle.std.proofs.Common.{◌≡◌, inl, ℕ, zero, suc, ◌+◌, ◌-◌, ◌*◌, ◌/◌, ◌%◌, ◌^◌, ◌<◌, ◌≤◌, true, eqb, List, [], ◌∷◌, ◌++◌, length, map, take, drop, Option, Some, None, refl, sym, ap, ap₂, ◌∙◌, arith}
use native.Mathlib.Nat.{div-div-eq-div-mul}
use Rattle.std.specs.Option.{option_map}
use Rattle.std.specs.Int.{bytes_low_first, byte_at}
use Rattle.std.proofs.lemmas.Bool.{cond-true, cond-false, eq-eqb, ne_eqb}
use Rattle.std.proofs.lemmas.List.{length-map}
use Rattle.byteorder.specs.Endian.{little_from}
use Rattle.pun_base.specs.Memory.{Cell, Bytes}
use Rattle.pun_base.specs.Field.{with_field}
use Rattle.pun_base.proofs.FieldNumbers.{little_from-next}
use Rattle.cpu_state.specs.Bytes.{advanced, allows, byte_of, with_byte, number_at, put, put_list, bytes_of}
use Rattle.cpu_state.proofs.Readback.{bytes_of_length}
use Rattle.trampoline.specs.Events.{bytes_at}
use Rattle.trampoline.specs.Running.{DataIsHeld}
use Rattle.relocate_insn.proofs.FixedCode.{next_address}
use Rattle.relocate_insn.proofs.PrivateRange.{put_away}

-- n bytes are listed
pub part_size : (m : Bytes) (a n : ℕ) → length (bytes_at m a n) ≡ n
part_size m a zero = refl
part_size m a (suc n) = ap suc (part_size m (a + 1) n)

-- n bytes that are held are a list of n numbers
pub bytes_size : (m : Bytes) (a n : ℕ) (xs : List ℕ) → bytes_at m a n ≡ map Some xs → length xs ≡ n
bytes_size m a n xs e = sym (length-map xs Some) ∙ sym (ap length e) ∙ part_size m a n

-- two memories that agree there have the same bytes
pub bytes_keep : (m w : Bytes) (a n : ℕ) → ((x : ℕ) → a ≤ x → x < a + n → w x ≡ m x) → bytes_at w a n ≡ bytes_at m a n
bytes_keep m w a zero h = refl
bytes_keep m w a (suc n) h = ap₂ (λ (x : Option ℕ) xs. x ∷ xs) (ap (option_map (λ (c : Cell). c.byte)) (h a (omega arith) (omega arith)))
    (bytes_keep m w (a + 1) n (λ x l k. h x (omega arith) (omega arith)))

-- what can be read is there
read_byte : (o : Option Cell) → allows 4 o ≡ true → (b : ℕ) × (option_map (λ (c : Cell). c.byte) o ≡ Some b)
read_byte None h = absurd cc
read_byte (Some c) h = (c.byte, refl)

-- bytes that can be read are some
pub read_bytes : (m : Bytes) (a n : ℕ) → ((x : ℕ) → a ≤ x → x < a + n → allows 4 (m x) ≡ true)
    → (xs : List ℕ) × (bytes_at m a n ≡ map Some xs)
read_bytes m a zero h = ([], refl)
read_bytes m a (suc n) h =
    let b = read_byte (m a) (h a (omega arith) (omega arith)) in
    let r = read_bytes m (a + 1) n (λ x l k. h x (omega arith) (omega arith)) in
    (b.0 ∷ r.0, ap₂ (λ (x : Option ℕ) xs. x ∷ xs) b.1 r.1)

-- so the data part of a private range holds some
pub data_held : DataIsHeld
data_held set private n m p = read_bytes m (private + 64) (n - 64) (λ x l k. p.read x (omega arith) (omega arith))

held_put : (o : Option Cell) (b x : ℕ) → option_map (λ (c : Cell). c.byte) o ≡ Some x
    → option_map (λ (c : Cell). c.byte) (with_byte b o) ≡ Some b
held_put None b x e = absurd cc
held_put (Some c) b x e = refl

byte_is : (o : Option Cell) (x : ℕ) → option_map (λ (c : Cell). c.byte) o ≡ Some x → byte_of o ≡ x
byte_is None x e = absurd cc
byte_is (Some c) x e = cc

abbrev cells : List ℕ → List (Option ℕ)
cells xs = map Some xs

-- bytes written from the front on
front_splice : (m : Bytes) (d n : ℕ) (xs bs : List ℕ) → d + n < 2 ^ 64 → length bs ≤ n → bytes_at m d n ≡ cells xs
    → bytes_at (put_list m d bs) d n ≡ cells (bs ++ drop (length bs) xs)
front_splice m d n xs [] l k e = e
front_splice m d zero xs (b ∷ bs) l k e = absurd (omega arith)
front_splice m d (suc n) [] (b ∷ bs) l k e = absurd cc
front_splice m d (suc n) (x ∷ xs) (b ∷ bs) l k e =
    let head : option_map (λ (c : Cell). c.byte) (m d) ≡ Some x = cc in
    let tail : bytes_at m (d + 1) n ≡ cells xs = cc in
    let m1 = put m d b in
    let a : advanced d 1 ≡ d + 1 = next_address d 1 (omega arith) in
    let here : put_list m1 (d + 1) bs d ≡ with_byte b (m d) = put_away m1 (d + 1) bs d (omega arith) (inl (omega arith))
    ∙ cond-true (eqb d d) (with_byte b (m d)) (m d) (eq-eqb d d refl) in
    let kept : bytes_at m1 (d + 1) n ≡ cells xs = bytes_keep m m1 (d + 1) n
    (λ y i j. cond-false (eqb y d) (with_byte b (m y)) (m y) (ne_eqb y d (λ f. omega arith))) ∙ tail in
    ap (λ z. bytes_at (put_list m1 z bs) d (suc n)) a
    ∙ ap₂ (λ (y : Option ℕ) ys. y ∷ ys) (ap (option_map (λ (c : Cell). c.byte)) here ∙ held_put (m d) b x head)
    (front_splice m1 (d + 1) n xs bs (omega arith) (omega arith) kept)

-- bytes written into the data part stand in its list at their place
pub splice : (m : Bytes) (d i n : ℕ) (xs bs : List ℕ) → d + n < 2 ^ 64 → i + length bs ≤ n → bytes_at m d n ≡ cells xs
    → bytes_at (put_list m (d + i) bs) d n ≡ cells (take i xs ++ (bs ++ drop (i + length bs) xs))
splice m d zero n xs bs l k e =
    let a : d + 0 ≡ d = omega arith in let b : length bs ≡ 0 + length bs = omega arith in
    ap (λ z. bytes_at (put_list m z bs) d n) a ∙ front_splice m d n xs bs l (omega arith) e ∙ ap (λ z. cells (bs ++ drop z xs)) b
splice m d (suc i) zero xs bs l k e = absurd (omega arith)
splice m d (suc i) (suc n) [] bs l k e = absurd cc
splice m d (suc i) (suc n) (x ∷ xs) bs l k e =
    let head : option_map (λ (c : Cell). c.byte) (m d) ≡ Some x = cc in
    let tail : bytes_at m (d + 1) n ≡ cells xs = cc in
    let a : d + suc i ≡ d + 1 + i = omega arith in
    let b : suc (i + length bs) ≡ suc i + length bs = omega arith in
    ap (λ z. bytes_at (put_list m z bs) d (suc n)) a
    ∙ ap₂ (λ (y : Option ℕ) ys. y ∷ ys) (ap (option_map (λ (c : Cell). c.byte))
    (put_away m (d + 1 + i) bs d (omega arith) (inl (omega arith))) ∙ head)
    (splice m (d + 1) i n xs bs (omega arith) (omega arith) tail)
    ∙ ap (λ z. cells (x ∷ (take i xs ++ (bs ++ drop z (x ∷ xs))))) b

number_front : (m : Bytes) (d n : ℕ) (xs : List ℕ) (k : ℕ) → d + n < 2 ^ 64 → k ≤ n → bytes_at m d n ≡ cells xs
    → number_at m d k ≡ little_from 0 k xs
number_front m d n xs zero l h e = refl
number_front m d zero xs (suc k) l h e = absurd (omega arith)
number_front m d (suc n) [] (suc k) l h e = absurd cc
number_front m d (suc n) (x ∷ xs) (suc k) l h e =
    let head : option_map (λ (c : Cell). c.byte) (m d) ≡ Some x = cc in
    let tail : bytes_at m (d + 1) n ≡ cells xs = cc in
    let a : advanced d 1 ≡ d + 1 = next_address d 1 (omega arith) in
    ap₂ (λ y z. y + 256 * z) (byte_is (m d) x head) (ap (λ z. number_at m z k) a
    ∙ number_front m (d + 1) n xs k (omega arith) (omega arith) tail ∙ sym (little_from-next 0 k x xs))

-- a number read in the data part is read from its list at that place
pub number_part : (m : Bytes) (d i n : ℕ) (xs : List ℕ) (k : ℕ) → d + n < 2 ^ 64 → i + k ≤ n → bytes_at m d n ≡ cells xs
    → number_at m (d + i) k ≡ little_from 0 k (drop i xs)
number_part m d zero n xs k l h e = let a : d + 0 ≡ d = omega arith in ap (λ z. number_at m z k) a
    ∙ number_front m d n xs k l (omega arith) e
number_part m d (suc i) zero xs k l h e = absurd (omega arith)
number_part m d (suc i) (suc n) [] k l h e = absurd cc
number_part m d (suc i) (suc n) (x ∷ xs) k l h e =
    let tail : bytes_at m (d + 1) n ≡ cells xs = cc in
    let a : d + suc i ≡ d + 1 + i = omega arith in
    ap (λ z. number_at m z k) a ∙ number_part m (d + 1) i n xs k (omega arith) (omega arith) tail

-- the bytes of a number, in both ways
same_byte : (k v : ℕ) → v / 256 ^ k % 256 ≡ byte_at k v
same_byte zero v = omega arith
same_byte (suc k) v = refl

bytes_low : (n k v : ℕ) → bytes_of n (v / 256 ^ k) ≡ bytes_low_first k n v
bytes_low zero k v = refl
bytes_low (suc n) k v =
    let p : 256 ^ k * 256 ≡ 256 ^ suc k = omega arith in
    ap₂ (λ (x : ℕ) xs. x ∷ xs) (same_byte k v) (ap (bytes_of n) (div-div-eq-div-mul v (256 ^ k) 256 ∙ ap (λ z. v / z) p)
    ∙ bytes_low n (suc k) v)

-- the bytes of a number are its bytes from the lowest on
pub bytes_same : (n v : ℕ) → bytes_of n v ≡ bytes_low_first 0 n v
bytes_same n v = let e : v ≡ v / 256 ^ 0 = omega arith in ap (bytes_of n) e ∙ bytes_low n 0 v

-- a number written at a field's address is that field of the data part
pub field_written : (m : Bytes) (d n : ℕ) (xs : List ℕ) (a at k v : ℕ) → d + n < 2 ^ 64 → at + k ≤ n → a ≡ d + at
    → bytes_at m d n ≡ map Some xs → bytes_at (put_list m a (bytes_of k v)) d n ≡ map Some (with_field k at v xs)
field_written m d n xs a at k v l h q e =
    let w = bytes_of_length k v in
    ap (λ z. bytes_at (put_list m z (bytes_of k v)) d n) q
    ∙ splice m d at n xs (bytes_of k v) l (omega (arith, w, h)) e
    ∙ ap (λ z. map Some (take at xs ++ (bytes_of k v ++ drop (at + z) xs))) w
    ∙ ap (λ z. map Some (take at xs ++ (z ++ drop (at + k) xs))) (bytes_same k v)
