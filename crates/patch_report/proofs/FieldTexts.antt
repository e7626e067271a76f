-- A field that is spelled is read, and what is read is spelled.
use Rattle.std.proofs.Common.{◌≡◌, ℕ, zero, suc, ◌+◌, ◌-◌, ◌*◌, ◌/◌, ◌%◌, ◌^◌, ◌<◌, ◌≤◌, Bool, true, false, cond, List, [], ◌∷◌, ◌++◌, length, take, drop, Option, Some, None, refl, ap, sym, subst, ◌∙◌, arith, append_assoc}
use Rattle.std.specs.Prelude.{◌==◌, nat_lt, slice_index}
use Rattle.std.specs.Str.{bytes_eq}
use Rattle.std.specs.Fmt.{decimal}
use Rattle.std.specs.Int.{w32, to_be_bytes, from_be_bytes}
use Rattle.std.proofs.lemmas.Bool.{eq-eqb}
use Rattle.std.proofs.lemmas.Bool.Decides.{nat_tests}
use Rattle.std.proofs.lemmas.Fmt.{decimal_by_steps, decimal_digit, decimal_step}
use Rattle.std.proofs.lemmas.List.{take-append-drop}
use Rattle.std.proofs.lemmas.Nat.{be_bytes_4, from_be_bytes-to_be_bytes_4, mod_below}
use Rattle.std.proofs.lemmas.Option.{cond_some, same_Some}
use Rattle.std.proofs.lemmas.Slice.Eq.{bytes_eq-Decides}
use Rattle.hex.specs.Hex.{IsBytes, encode_lower, encode_with, lower_digits}
use Rattle.patch_report.specs.Grammar.{is_field}
use Rattle.patch_report.specs.Spelling.{hex16, hex8}
use Rattle.patch_report.specs.Answers.{is_digit}
use Rattle.patch_report.specs.Fields.{address_before, behind, behind_mark, byte_at, bytes_at, bytes_before, decimal_before, entry_before, hex_value, in_front, longer, number_before, rest_before, word_at}
use Rattle.list_text.specs.Words.{◌>>=◌}
use Rattle.patch_report.proofs.LineAutomaton.{kept}
use Rattle.patch_report.proofs.ByteLists.{more_bytes}

-- What two steps give comes from a value of the first.
pub then_some : {A B : Type 0} (o : Option A) (f : A → Option B) (b : B) → (o >>= f) ≡ Some b → (a : A) × (o ≡ Some a) × (f a ≡ Some b)
then_some None f b e = absurd cc
then_some (Some a) f b e = (a, refl, e)

-- ---- words and marks

-- What is behind a word stands behind it.
pub word_spelled : (w text rest : List ℕ) → behind w text ≡ Some rest → text ≡ w ++ rest
unfolding behind
word_spelled w text rest e =
    let k = cond_some (bytes_eq (take (length w) text) w) (drop (length w) text) rest e in
    let same : take (length w) text ≡ w = (bytes_eq-Decides (take (length w) text) w).0 k.0 in
    sym (take-append-drop (length w) text) ∙ (λ i. same i ++ k.1 i)

-- A byte is read where it stands.
mark_read : (mark : ℕ) (rest : List ℕ) → behind_mark mark (mark ∷ rest) ≡ Some rest
unfolding behind_mark
mark_read mark rest = rw (eq-eqb mark mark refl) refl

-- A byte that is read stands there.
mark_spelled : (mark : ℕ) (text rest : List ℕ) → behind_mark mark text ≡ Some rest → text ≡ mark ∷ rest
unfolding behind_mark
mark_spelled mark [] rest e = absurd cc
mark_spelled mark (c ∷ cs) rest e =
    let k = cond_some (c == mark) cs rest e in
    let t : (c == mark) ≡ true = k.0 in
    let p : c ≡ mark = grind (arith, nat_tests) in
    λ i. p i ∷ k.1 i

-- ---- bytes

-- The digit of a value is read as that value.
digit_read : (d : ℕ) → d < 16 → hex_value (slice_index lower_digits d) ≡ Some d
unfolding hex_value
digit_read d h = grind (arith, nat_tests)

-- A digit in lower case is that of its value.
digit_spelled : (c d : ℕ) → hex_value c ≡ Some d → (d < 16) × (c ≡ slice_index lower_digits d)
unfolding hex_value
digit_spelled c d e = (grind (arith, nat_tests), grind (arith, nat_tests))

-- The two digits of a byte are read as that byte.
byte_read : (b : ℕ) (rest : List ℕ) → b < 256
    → byte_at (slice_index lower_digits (b / 16) ∷ slice_index lower_digits (b % 16) ∷ rest) ≡ Some (b, rest)
unfolding byte_at
byte_read b rest h =
    let high : b / 16 < 16 = omega arith in
    let low : b % 16 < 16 = omega arith in
    let e : 16 * (b / 16) + b % 16 ≡ b = omega arith in
    rw (digit_read (b / 16) high, digit_read (b % 16) low, e) refl

-- A byte that is read is spelled there.
byte_spelled : (text : List ℕ) (b : ℕ) (rest : List ℕ) → byte_at text ≡ Some (b, rest)
    → (b < 256) × (text ≡ slice_index lower_digits (b / 16) ∷ slice_index lower_digits (b % 16) ∷ rest)
unfolding byte_at
byte_spelled [] b rest e = absurd cc
byte_spelled (h ∷ []) b rest e = absurd cc
byte_spelled (h ∷ l ∷ text) b rest e =
    let p = then_some (hex_value h) (λ high. hex_value l >>= λ low. Some (16 * high + low, text)) (b, rest) e in
    let q = then_some (hex_value l) (λ low. Some (16 * p.0 + low, text)) (b, rest) p.2 in
    let u = digit_spelled h p.0 p.1 in
    let v = digit_spelled l q.0 q.1 in
    let w = same_Some (16 * p.0 + q.0, text) (b, rest) q.2 in
    let s : 16 * p.0 + q.0 ≡ b = ap (λ (x : ℕ × List ℕ). x.0) w in
    let ub : p.0 < 16 = u.0 in
    let vb : q.0 < 16 = v.0 in
    let high : p.0 ≡ b / 16 = omega arith in
    let low : q.0 ≡ b % 16 = omega arith in
    let left = u.1 ∙ ap (slice_index lower_digits) high in
    let right = v.1 ∙ ap (slice_index lower_digits) low in
    (omega arith, λ i. left i ∷ right i ∷ (w i).1)

-- A blank is no digit.
pub blank_is_none : hex_value 32 ≡ None
unfolding hex_value
blank_is_none = refl

-- An LF is no digit.
pub feed_is_none : hex_value 10 ≡ None
unfolding hex_value
feed_is_none = refl

-- No byte begins with what is no digit.
no_byte : (mark : ℕ) (rest : List ℕ) → hex_value mark ≡ None → byte_at (mark ∷ rest) ≡ None
unfolding byte_at
no_byte mark [] h = refl
no_byte mark (c ∷ cs) h = rw h refl

-- The digits of bytes, with none behind them, are read as those bytes.
bytes_read : (bs : List ℕ) (n : ℕ) (tail : List ℕ) → IsBytes bs → length bs ≤ n → byte_at tail ≡ None
    → bytes_at n (encode_lower bs ++ tail) ≡ (bs, tail)
unfolding bytes_at encode_with
bytes_read [] zero tail h l e = refl
bytes_read [] (suc n) tail h l e = rw e refl
bytes_read (b ∷ bs) zero tail h l e = absurd (omega arith)
bytes_read (b ∷ bs) (suc n) tail h l e =
    let k : length bs ≤ n = omega arith in
    let f : b < 256 = h 0 in
    rw (byte_read b (encode_lower bs ++ tail) f, bytes_read bs n tail (λ i. h (suc i)) k e) refl

-- The bytes that were read, at most so many, are spelled there.
record AreSpelled (n : ℕ) (text : List ℕ) (x : List ℕ × List ℕ) : Type 0 where
  bytes : IsBytes x.0
  count : length x.0 ≤ n
  spelled : text ≡ encode_lower x.0 ++ x.1

-- No element is one that is no byte.
no_bytes : IsBytes []
no_bytes i = omega arith

-- The bytes that are read are spelled there.
bytes_spelled : (n : ℕ) (text : List ℕ) → AreSpelled n text (bytes_at n text)
unfolding bytes_at encode_with
bytes_spelled zero text = record { bytes = no_bytes; count = omega arith; spelled = refl }
bytes_spelled (suc n) text = by (byte_at text) refl (λ later. bytes_spelled n later)
  where
    by : (o : Option (ℕ × List ℕ)) → byte_at text ≡ o → ((later : List ℕ) → AreSpelled n later (bytes_at n later))
        → AreSpelled (suc n) text (in_front text o (bytes_at n))
    by None e go = record { bytes = no_bytes; count = omega arith; spelled = refl }
    by (Some x) e go =
        let s = byte_spelled text x.0 x.1 e in
        let r = go x.1 in
        let k : length (bytes_at n x.1).0 ≤ n = r.count in
        record {
          bytes = more_bytes x.0 (bytes_at n x.1).0 s.0 r.bytes;
          count = omega arith;
          spelled = s.1
              ∙ ap (λ (l : List ℕ). slice_index lower_digits (x.0 / 16) ∷ slice_index lower_digits (x.0 % 16) ∷ l) r.spelled;
        }

-- A field has a byte, and at most sixteen.
field_sizes : (n : ℕ) → is_field n ≡ true → ((n == 0) ≡ false) × (n ≤ 16)
field_sizes n h = (grind (arith, nat_tests), grind (arith, nat_tests))

-- A field of bytes before a byte that is no digit is read.
pub field_read : (mark : ℕ) (bs rest : List ℕ) → hex_value mark ≡ None → IsBytes bs → is_field (length bs) ≡ true
    → bytes_before mark (encode_lower bs ++ mark ∷ rest) ≡ Some (bs, rest)
unfolding bytes_before
field_read mark bs rest h k f =
    let s = field_sizes (length bs) f in
    rw (bytes_read bs 16 (mark ∷ rest) k s.1 (no_byte mark rest h), mark_read mark rest, s.0) refl

-- One byte to sixteen are a field.
sized : (n : ℕ) → (n == 0) ≡ false → n ≤ 16 → is_field n ≡ true
sized n h k = grind (arith, nat_tests)

-- A value that is read where a test fails: it fails, and the value is the one that stands there.
unless : {X : Type 0} (b : Bool) (y x : X) → cond b None (Some y) ≡ Some x → (b ≡ false) × (y ≡ x)
unless true y x e = absurd cc
unless false y x e = (refl, cc)

-- A field of bytes that is read is spelled there.
pub field_spelled : (mark : ℕ) (text bs rest : List ℕ) → bytes_before mark text ≡ Some (bs, rest)
    → IsBytes bs × (is_field (length bs) ≡ true) × (text ≡ encode_lower bs ++ mark ∷ rest)
unfolding bytes_before
field_spelled mark text bs rest e =
    let x = bytes_at 16 text in
    let s = bytes_spelled 16 text in
    let p = then_some (behind_mark mark x.1) (λ later. cond (length x.0 == 0) None (Some (x.0, later))) (bs, rest) e in
    let q = unless (length x.0 == 0) (x.0, p.0) (bs, rest) p.2 in
    let f = sized (length x.0) q.0 s.count in
    let t : text ≡ encode_lower x.0 ++ mark ∷ p.0 =
    s.spelled ∙ ap (λ (l : List ℕ). encode_lower x.0 ++ l) (mark_spelled mark x.1 p.0 p.1) in
    subst (λ (y : List ℕ × List ℕ). IsBytes y.0 × (is_field (length y.0) ≡ true) × (text ≡ encode_lower y.0 ++ mark ∷ y.1)) q.1
    (s.bytes, f, t)

-- ---- addresses

-- The digits of 32 bits are read.
word_read : (n : ℕ) (rest : List ℕ) → n < 2 ^ 32 → word_at (hex8 n ++ rest) ≡ Some (n, rest)
unfolding word_at hex8 encode_with
word_read n rest h =
    rw (
      byte_read (n / 16777216 % 256) _ (mod_below (n / 16777216) 256 (omega arith)),
      byte_read (n / 65536 % 256) _ (mod_below (n / 65536) 256 (omega arith)),
      byte_read (n / 256 % 256) _ (mod_below (n / 256) 256 (omega arith)),
      byte_read (n % 256) _ (mod_below n 256 (omega arith)),
    )
    (ap (λ (m : ℕ). Some (m, rest)) (from_be_bytes-to_be_bytes_4 n h))

-- An address is read.
pub address_read : (mark n : ℕ) (rest : List ℕ) → n < 2 ^ 32 → address_before mark (hex8 n ++ mark ∷ rest) ≡ Some (n, rest)
unfolding address_before
address_read mark n rest h = rw (word_read n (mark ∷ rest) h, mark_read mark rest) refl

-- What four bytes spell has 32 bits.
word_of_bytes : (bs : List ℕ) (n : ℕ) → IsBytes bs → from_be_bytes w32 bs ≡ n → n < 2 ^ 32
word_of_bytes bs n h e =
    let a : slice_index bs 0 < 256 = h 0 in
    let b : slice_index bs 1 < 256 = h 1 in
    let c : slice_index bs 2 < 256 = h 2 in
    let d : slice_index bs 3 < 256 = h 3 in
    omega arith

-- Four bytes as a list.
four_bytes : (a b c d : ℕ) → a < 256 → b < 256 → c < 256 → d < 256 → IsBytes (a ∷ b ∷ c ∷ d ∷ [])
four_bytes a b c d p q r s =
    more_bytes a (b ∷ c ∷ d ∷ []) p (more_bytes b (c ∷ d ∷ []) q (more_bytes c (d ∷ []) r (more_bytes d [] s no_bytes)))

-- The digits of 32 bits that are read are spelled there.
word_spelled32 : (text : List ℕ) (n : ℕ) (rest : List ℕ) → word_at text ≡ Some (n, rest) → (n < 2 ^ 32) × (text ≡ hex8 n ++ rest)
unfolding word_at hex8 encode_with
word_spelled32 text n rest e =
    let a = then_some (byte_at text) _ (n, rest) e in
    let b = then_some (byte_at a.0.1) _ (n, rest) a.2 in
    let c = then_some (byte_at b.0.1) _ (n, rest) b.2 in
    let d = then_some (byte_at c.0.1) _ (n, rest) c.2 in
    let p = byte_spelled text a.0.0 a.0.1 a.1 in
    let q = byte_spelled a.0.1 b.0.0 b.0.1 b.1 in
    let r = byte_spelled b.0.1 c.0.0 c.0.1 c.1 in
    let s = byte_spelled c.0.1 d.0.0 d.0.1 d.1 in
    let bs : List ℕ = a.0.0 ∷ b.0.0 ∷ c.0.0 ∷ d.0.0 ∷ [] in
    let w = same_Some (from_be_bytes w32 bs, d.0.1) (n, rest) d.2 in
    let small = four_bytes a.0.0 b.0.0 c.0.0 d.0.0 p.0 q.0 r.0 s.0 in
    let is : from_be_bytes w32 bs ≡ n = ap (λ (x : ℕ × List ℕ). x.0) w in
    let same_bytes : to_be_bytes w32 n ≡ bs = be_bytes_4 bs n refl small (sym is) in
    let pair = λ (x : ℕ) (l : List ℕ). slice_index lower_digits (x / 16) ∷ slice_index lower_digits (x % 16) ∷ l in
    let spelled : text ≡ encode_lower bs ++ d.0.1 =
    p.1 ∙ ap (pair a.0.0) (q.1 ∙ ap (pair b.0.0) (r.1 ∙ ap (pair c.0.0) s.1)) in (
      word_of_bytes bs n small is,
      spelled ∙ (λ i. encode_lower (sym same_bytes i) ++ (w i).1),
    )

-- An address that is read is spelled there.
pub address_spelled : (mark : ℕ) (text : List ℕ) (n : ℕ) (rest : List ℕ) → address_before mark text ≡ Some (n, rest)
    → (n < 2 ^ 32) × (text ≡ hex8 n ++ mark ∷ rest)
unfolding address_before
address_spelled mark text n rest e =
    let a = then_some (word_at text) _ (n, rest) e in
    let m = then_some (behind_mark mark a.0.1) _ (n, rest) a.2 in
    let p = word_spelled32 text a.0.0 a.0.1 a.1 in
    let t = mark_spelled mark a.0.1 m.0 m.1 in
    let w = same_Some (a.0.0, m.0) (n, rest) m.2 in
    let spelled : text ≡ hex8 a.0.0 ++ mark ∷ m.0 = p.1 ∙ ap (λ (l : List ℕ). hex8 a.0.0 ++ l) t in
    (subst (λ (x : ℕ × List ℕ). x.0 < 2 ^ 32) w p.0, spelled ∙ (λ i. hex8 (w i).0 ++ mark ∷ (w i).1))

-- ---- entry points

-- What is added to the last byte in whole bytes changes no byte.
last_byte : (m x : ℕ) → (256 * m + x) % 256 ≡ x % 256
last_byte m x = omega arith

-- The digits of an entry point are those of its higher 32 bits and of its lower ones.
entry_digits : (n high low : ℕ) → n ≡ 4294967296 * high + low → high < 4294967296 → low < 4294967296 → hex16 n ≡ hex8 high ++ hex8 low
unfolding hex16 hex8 encode_with
entry_digits n high low e h l =
    let a : n / 72057594037927936 ≡ high / 16777216 = omega arith in
    let b : n / 281474976710656 ≡ high / 65536 = omega arith in
    let c : n / 1099511627776 ≡ high / 256 = omega arith in
    let d : n / 4294967296 ≡ high = omega arith in
    let f : n / 16777216 ≡ 256 * high + low / 16777216 = omega arith in
    let g : n / 65536 ≡ 256 * (256 * high) + low / 65536 = omega arith in
    let k : n / 256 ≡ 256 * (65536 * high) + low / 256 = omega arith in
    let m : n ≡ 256 * (16777216 * high) + low = omega arith in
    let byte = λ (x : ℕ). x % 256 in
    λ i. encode_lower (
    ap byte a i ∷ ap byte b i ∷ ap byte c i ∷ ap byte d i
    ∷ (ap byte f ∙ last_byte high (low / 16777216)) i
    ∷ (ap byte g ∙ last_byte (256 * high) (low / 65536)) i
    ∷ (ap byte k ∙ last_byte (65536 * high) (low / 256)) i
    ∷ (ap byte m ∙ last_byte (16777216 * high) low) i ∷ []
    )

-- An entry point whose parts these are is read.
parts_read : (mark n high low : ℕ) (rest : List ℕ) → n ≡ 4294967296 * high + low → high < 4294967296 → low < 4294967296
    → entry_before mark (hex16 n ++ mark ∷ rest) ≡ Some (n, rest)
unfolding entry_before
parts_read mark n high low rest e h l =
    let digits : hex16 n ++ mark ∷ rest ≡ hex8 high ++ (hex8 low ++ mark ∷ rest) =
    ap (λ (t : List ℕ). t ++ mark ∷ rest) (entry_digits n high low e h l) ∙ append_assoc (hex8 high) (hex8 low) (mark ∷ rest) in
    rw (digits, word_read high (hex8 low ++ mark ∷ rest) h, word_read low (mark ∷ rest) l, mark_read mark rest)
    (ap (λ (m : ℕ). Some (m, rest)) (sym e))

-- An entry point is read.
pub entry_read : (mark n : ℕ) (rest : List ℕ) → n < 2 ^ 64 → entry_before mark (hex16 n ++ mark ∷ rest) ≡ Some (n, rest)
entry_read mark n rest h = parts_read mark n (n / 4294967296) (n % 4294967296) rest (omega arith) (omega arith) (omega arith)

-- An entry point that is read is spelled there.
pub entry_spelled : (mark : ℕ) (text : List ℕ) (n : ℕ) (rest : List ℕ) → entry_before mark text ≡ Some (n, rest)
    → (n < 2 ^ 64) × (text ≡ hex16 n ++ mark ∷ rest)
unfolding entry_before
entry_spelled mark text n rest e =
    let a = then_some (word_at text) _ (n, rest) e in
    let b = then_some (word_at a.0.1) _ (n, rest) a.2 in
    let m = then_some (behind_mark mark b.0.1) _ (n, rest) b.2 in
    let p = word_spelled32 text a.0.0 a.0.1 a.1 in
    let q = word_spelled32 a.0.1 b.0.0 b.0.1 b.1 in
    let t = mark_spelled mark b.0.1 m.0 m.1 in
    let w = same_Some (2 ^ 32 * a.0.0 + b.0.0, m.0) (n, rest) m.2 in
    let high : a.0.0 < 2 ^ 32 = p.0 in
    let low : b.0.0 < 2 ^ 32 = q.0 in
    let fits : 2 ^ 32 * a.0.0 + b.0.0 < 2 ^ 64 = omega arith in
    let spelled : text ≡ hex16 (2 ^ 32 * a.0.0 + b.0.0) ++ mark ∷ m.0 =
    p.1 ∙ (ap (λ (l : List ℕ). hex8 a.0.0 ++ l) (q.1 ∙ ap (λ (l : List ℕ). hex8 b.0.0 ++ l) t)
    ∙ (sym (append_assoc (hex8 a.0.0) (hex8 b.0.0) (mark ∷ m.0))
    ∙ ap (λ (l : List ℕ). l ++ mark ∷ m.0) (sym (entry_digits (2 ^ 32 * a.0.0 + b.0.0) a.0.0 b.0.0 refl high low)))) in
    (subst (λ (x : ℕ × List ℕ). x.0 < 2 ^ 64) w fits, spelled ∙ (λ i. hex16 (w i).0 ++ mark ∷ (w i).1))

-- ---- decimal numbers

-- A digit in front of others goes to the number.
digit_step : (mark n c : ℕ) (cs : List ℕ) → (c == mark) ≡ false → 0 < n → 48 ≤ c → c ≤ 57 → 10 * n + (c - 48) < 2 ^ 64
    → rest_before mark n (c ∷ cs) ≡ rest_before mark (10 * n + (c - 48)) cs
unfolding rest_before longer
digit_step mark n c cs h p low high fits = rw h (grind (arith, nat_tests))

-- A decimal digit is not the byte behind a number, where that is no digit.
not_mark : (mark c : ℕ) → is_digit mark ≡ false → 48 ≤ c → c ≤ 57 → (c == mark) ≡ false
not_mark mark c h low high = grind (arith, nat_tests)

-- The first digit begins a number.
first_digit : (mark n : ℕ) (tail : List ℕ) → n < 10 → number_before mark ((48 + n) ∷ tail) ≡ rest_before mark n tail
unfolding number_before
first_digit mark n tail h =
    let d : is_digit (48 + n) ≡ true = grind (arith, nat_tests) in
    let e : 48 + n - 48 ≡ n = omega arith in
    rw (d, e) refl

-- A number's digits in front of others are read as that number.
number_on : (mark : ℕ) → is_digit mark ≡ false → (n : ℕ) → n < 2 ^ 64 → n < 2 ^ 64 → (tail : List ℕ)
    → number_before mark (decimal n ++ tail) ≡ rest_before mark n tail
number_on mark h = decimal_by_steps (λ n ds. n < 2 ^ 64 → (tail : List ℕ) → number_before mark (ds ++ tail) ≡ rest_before mark n tail)
    (λ n lt small tail. first_digit mark n tail lt) (λ n ds ge go small tail.
    let c : ℕ = 48 + n % 10 in
    let whole : 10 * (n / 10) + (48 + n % 10 - 48) ≡ n = omega arith in
    ap (number_before mark) (append_assoc ds (c ∷ []) tail) ∙ (go (omega arith) (c ∷ tail)
    ∙ (digit_step mark (n / 10) c tail (not_mark mark c h (omega arith) (omega arith)) (omega arith) (omega arith) (omega arith)
    (omega arith)
    ∙ ap (λ (m : ℕ). rest_before mark m tail) whole)))

-- A number ends at the byte behind it.
number_ends : (mark n : ℕ) (rest : List ℕ) → rest_before mark n (mark ∷ rest) ≡ Some (n, rest)
unfolding rest_before
number_ends mark n rest = rw (eq-eqb mark mark refl) refl

-- A decimal number before a byte that is no digit is read.
pub number_read : (mark n : ℕ) (rest : List ℕ) → is_digit mark ≡ false → n < 2 ^ 64
    → number_before mark (decimal n ++ mark ∷ rest) ≡ Some (n, rest)
number_read mark n rest h k = number_on mark h n (omega arith) k (mark ∷ rest) ∙ number_ends mark n rest

-- A number with one more digit is spelled by its own digits and that one.
longer_spelled : (n c m : ℕ) → longer n c ≡ Some m → (m < 2 ^ 64) × (decimal m ≡ decimal n ++ c ∷ [])
unfolding longer
longer_spelled n c m e =
    let fits : m < 2 ^ 64 = grind (arith, nat_tests) in
    let ge : 10 ≤ m = grind (arith, nat_tests) in
    let front : m / 10 ≡ n = grind (arith, nat_tests) in
    let last : 48 + m % 10 ≡ c = grind (arith, nat_tests) in
    (fits, decimal_step m ge (omega arith) ∙ (λ i. decimal (front i) ++ last i ∷ []))

-- What is read behind the digits of a number is the rest of a number that begins with them.
digits_spelled : (mark n : ℕ) (text : List ℕ) (m : ℕ) (rest : List ℕ) → n < 2 ^ 64 → rest_before mark n text ≡ Some (m, rest)
    → (m < 2 ^ 64) × (decimal n ++ text ≡ decimal m ++ mark ∷ rest)
unfolding rest_before
digits_spelled mark n [] m rest h e = absurd cc
digits_spelled mark n (c ∷ cs) m rest h e = by (c == mark) refl e (λ k small f. digits_spelled mark k cs m rest small f)
  where
    by : (b : Bool) → (c == mark) ≡ b → cond b (Some (n, cs)) (longer n c >>= λ k. rest_before mark k cs) ≡ Some (m, rest)
        → ((k : ℕ) → k < 2 ^ 64 → rest_before mark k cs ≡ Some (m, rest) → (m < 2 ^ 64) × (decimal k ++ cs ≡ decimal m ++ mark ∷ rest))
        → (m < 2 ^ 64) × (decimal n ++ c ∷ cs ≡ decimal m ++ mark ∷ rest)
    by true t f go =
        let w = same_Some (n, cs) (m, rest) f in
        let is : c ≡ mark = grind (arith, nat_tests) in
        (subst (λ (x : ℕ × List ℕ). x.0 < 2 ^ 64) w h, λ i. decimal (w i).0 ++ is i ∷ (w i).1)
    by false t f go =
        let p = then_some (longer n c) (λ k. rest_before mark k cs) (m, rest) f in
        let s = longer_spelled n c p.0 p.1 in
        let r = go p.0 s.0 p.2 in
        (r.0, sym (append_assoc (decimal n) (c ∷ []) cs) ∙ (ap (λ (l : List ℕ). l ++ cs) (sym s.1) ∙ r.1))

-- A digit is the decimal of its value.
digit_is : (c : ℕ) → is_digit c ≡ true → decimal (c - 48) ≡ c ∷ []
digit_is c h =
    let lt : c - 48 < 10 = grind (arith, nat_tests) in
    let e : 48 + (c - 48) ≡ c = grind (arith, nat_tests) in
    decimal_digit (c - 48) lt ∙ ap (λ (d : ℕ). d ∷ []) e

-- A decimal number that is read is spelled there.
pub number_spelled : (mark : ℕ) (text : List ℕ) (n : ℕ) (rest : List ℕ) → number_before mark text ≡ Some (n, rest)
    → (n < 2 ^ 64) × (text ≡ decimal n ++ mark ∷ rest)
unfolding number_before
number_spelled mark [] n rest e = absurd cc
number_spelled mark (c ∷ cs) n rest e =
    let k = kept (is_digit c) (rest_before mark (c - 48) cs) (n, rest) e in
    let d : is_digit c ≡ true = k.0 in
    let small : c - 48 < 2 ^ 64 = grind (arith, nat_tests) in
    let r = digits_spelled mark (c - 48) cs n rest small k.1 in
    (r.0, ap (λ (l : List ℕ). l ++ cs) (sym (digit_is c d)) ∙ r.1)

-- A decimal number below a bound is read.
pub decimal_read : (bound mark n : ℕ) (rest : List ℕ) → is_digit mark ≡ false → n < bound → bound ≤ 2 ^ 64
    → decimal_before bound mark (decimal n ++ mark ∷ rest) ≡ Some (n, rest)
unfolding decimal_before
decimal_read bound mark n rest h k l =
    let t : nat_lt n bound ≡ true = grind (arith, nat_tests) in
    rw (number_read mark n rest h (omega arith), t) refl

-- One that is read is below the bound and spelled there.
pub decimal_spelled : (bound mark : ℕ) (text : List ℕ) (n : ℕ) (rest : List ℕ) → decimal_before bound mark text ≡ Some (n, rest)
    → (n < bound) × (text ≡ decimal n ++ mark ∷ rest)
unfolding decimal_before
decimal_spelled bound mark text n rest e =
    let a = then_some (number_before mark text) _ (n, rest) e in
    let k = cond_some (nat_lt a.0.0 bound) (a.0.0, a.0.1) (n, rest) a.2 in
    let p = number_spelled mark text a.0.0 a.0.1 a.1 in
    let t : nat_lt a.0.0 bound ≡ true = k.0 in
    let fits : a.0.0 < bound = grind (arith, nat_tests) in
    (subst (λ (x : ℕ × List ℕ). x.0 < bound) k.1 fits, p.1 ∙ (λ i. decimal (k.1 i).0 ++ mark ∷ (k.1 i).1))
