-- The flags word, bit by bit.
use Rattle.std.proofs.Common.{◌≡◌, ℕ, ◌+◌, ◌-◌, ◌%◌, ◌^◌, ◌<◌, Bool, true, false, ◌&&◌, ◌==◌, min, max, bit_and, bit_or, refl, ap, sym, ◌∙◌, arith, lit<}
use Rattle.std.proofs.lemmas.Bool.{and_parts, eqb-true, agree_below_at}
use Rattle.std.proofs.lemmas.Nat.{and_comm, and_assoc, and-not, and_or_apart, or_disjoint, and_le_r, and_mod}
use Rattle.std.proofs.lemmas.Nat.Bits.{bit_at_and, bit_at_or, bit_at_not, bit_at-lt}
use Rattle.std.proofs.lemmas.Bool.Decides.{nat_tests}
use Rattle.std.specs.Bool.{beq}
use Rattle.std.specs.Int.{w64, bit_at}
use Rattle.cpu_alu.specs.declared.flag_word.Flags.{Flags}
use Rattle.cpu_alu.specs.FlagWord.{places, others, six, packed, is_set, unpacked}
use Rattle.cpu_alu.specs.Laws.{AllPacked, IsUnpackedBack, IsPackedBack}

-- a test of both truth values
abbrev every : (Bool → Bool) → Bool
every p = p true && p false

every_at : (p : Bool → Bool) → every p ≡ true → (b : Bool) → p b ≡ true
every_at p h true = (and_parts (p true) (p false) h).0
every_at p h false = (and_parts (p true) (p false) h).1

abbrev flags_of : Bool → Bool → Bool → Bool → Bool → Bool → ℕ → Flags
flags_of a b c d e g rest = record { cf = a; pf = b; af = c; zf = d; sf = e; of = g; rest = rest }

-- a test of all flags
abbrev every_flags : (Flags → Bool) → Bool
every_flags t = every (λ a. every (λ b. every (λ c. every (λ d. every (λ e. every (λ g. t (flags_of a b c d e g 0)))))))

every_flags_at : (t : Flags → Bool) → every_flags t ≡ true → (f : Flags) → t (flags_of f.cf f.pf f.af f.zf f.sf f.of 0) ≡ true
every_flags_at t h f =
    every_at (λ g. t (flags_of f.cf f.pf f.af f.zf f.sf g 0))
    (every_at (λ e. every (λ g. t (flags_of f.cf f.pf f.af f.zf e g 0)))
    (every_at (λ d. every (λ e. every (λ g. t (flags_of f.cf f.pf f.af d e g 0))))
    (every_at (λ c. every (λ d. every (λ e. every (λ g. t (flags_of f.cf f.pf c d e g 0)))))
    (every_at (λ b. every (λ c. every (λ d. every (λ e. every (λ g. t (flags_of f.cf b c d e g 0))))))
    (every_at (λ a. every (λ b. every (λ c. every (λ d. every (λ e. every (λ g. t (flags_of a b c d e g 0)))))))
    h f.cf) f.pf) f.af) f.zf) f.sf) f.of

-- the flags' places hold the flags alone
six_within : (f : Flags) → bit_and (six f) places ≡ six f
six_within f = eqb-true (bit_and (six f) places) (six f) (every_flags_at (λ f. bit_and (six f) places == six f) refl f)

-- the complement of the places
abbrev mask : ℕ
mask = 2 ^ 64 - 1 - places

masked_apart : (s : ℕ) → bit_and mask (bit_and s places) ≡ 0
masked_apart s = ap (bit_and mask) (and_comm s places) ∙ sym (and_assoc s mask places)

apart : (r : ℕ) (f : Flags) → bit_and (others r) (six f) ≡ 0
apart r f =
    ap (bit_and (others r)) (sym (six_within f))
    ∙ (and_assoc (bit_and (six f) places) r mask ∙ (ap (bit_and r) (masked_apart (six f)) ∙ and_comm r 0))

packed_or : (f : Flags) → packed f ≡ bit_or (others f.rest) (six f)
unfolding packed
packed_or f = sym (or_disjoint (others f.rest) (six f) (apart f.rest f))

min_with_zero : (a b c : ℕ) → a ≡ min b c → c ≡ 0 → a ≡ 0
min_with_zero a b c h k = omega arith

max_with_zero : (a b c : ℕ) → a ≡ max b c → b ≡ 0 → a ≡ c
max_with_zero a b c h k = omega arith

-- a flag's place has the flag
flag_bit : (f : Flags) (i : ℕ) → bit_at mask i ≡ 0 → is_set (packed f) i ≡ is_set (six f) i
flag_bit f i h =
    let clear = min_with_zero (bit_at (others f.rest) i) (bit_at f.rest i) (bit_at mask i) (bit_at_and f.rest mask i) h in
    let word = ap (λ w. bit_at w i) (packed_or f) ∙ bit_at_or (others f.rest) (six f) i in
    ap (λ b. b == 1) (max_with_zero (bit_at (packed f) i) (bit_at (others f.rest) i) (bit_at (six f) i) word clear)

unset_bit : (b : ℕ) → b < 2 → (b == 1) ≡ false → b ≡ 0
unset_bit b h k = grind (arith, nat_tests)

rest_of_bits : (a b c m s p : ℕ) → a ≡ max b s → b ≡ min c m → m ≡ 1 → c < 2 → s ≡ min s p → p ≡ 0 → a ≡ c
rest_of_bits a b c m s p h k e l n z = omega arith

-- every other place has the rest
rest_bit : (f : Flags) (i : ℕ) → i < 64 → is_set places i ≡ false → is_set (packed f) i ≡ is_set f.rest i
rest_bit f i h k =
    let unset = unset_bit (bit_at places i) (bit_at-lt places i) k in
    let set = bit_at_not w64 places i (lit< tt) h ∙ ap (λ b. 1 - b) unset in
    let word = ap (λ w. bit_at w i) (packed_or f) ∙ bit_at_or (others f.rest) (six f) i in
    let own = sym (ap (λ s. bit_at s i) (six_within f)) ∙ bit_at_and (six f) places i in
    ap (λ b. b == 1) (rest_of_bits (bit_at (packed f) i) (bit_at (others f.rest) i) (bit_at f.rest i) (bit_at mask i) (bit_at (six f) i) (bit_at places i)
    word (bit_at_and f.rest mask i) set (bit_at-lt f.rest i) own unset)

same_from_beq : (a b : Bool) → beq a b ≡ true → a ≡ b
same_from_beq true true h = refl
same_from_beq false false h = refl
same_from_beq true false h = cc
same_from_beq false true h = cc

same_flag : (t u : Flags → Bool) → every_flags (λ f. beq (t f) (u f)) ≡ true → (f : Flags) → t (flags_of f.cf f.pf f.af f.zf f.sf f.of 0) ≡ u (flags_of f.cf f.pf f.af f.zf f.sf f.of 0)
same_flag t u h f = same_from_beq (t (flags_of f.cf f.pf f.af f.zf f.sf f.of 0)) (u (flags_of f.cf f.pf f.af f.zf f.sf f.of 0)) (every_flags_at (λ f. beq (t f) (u f)) h f)

-- a packed word has the six flags from the fields, and every other bit from rest
pub packed_bits : AllPacked
packed_bits f = record {
  cf = flag_bit f 0 refl ∙ same_flag (λ f. is_set (six f) 0) (λ f. f.cf) refl f;
  pf = flag_bit f 2 refl ∙ same_flag (λ f. is_set (six f) 2) (λ f. f.pf) refl f;
  af = flag_bit f 4 refl ∙ same_flag (λ f. is_set (six f) 4) (λ f. f.af) refl f;
  zf = flag_bit f 6 refl ∙ same_flag (λ f. is_set (six f) 6) (λ f. f.zf) refl f;
  sf = flag_bit f 7 refl ∙ same_flag (λ f. is_set (six f) 7) (λ f. f.sf) refl f;
  of = flag_bit f 11 refl ∙ same_flag (λ f. is_set (six f) 11) (λ f. f.of) refl f;
  others = rest_bit f;
}

-- ---- back and forth

others_of_word : (f : Flags) → others (packed f) ≡ others f.rest
others_of_word f =
    let clear = and_comm (six f) mask ∙ (ap (bit_and mask) (sym (six_within f)) ∙ masked_apart (six f)) in
    ap others (packed_or f) ∙ (and_or_apart mask (others f.rest) (six f) clear ∙ and_assoc mask f.rest mask)

others_split : (r : ℕ) → r < 2 ^ 64 → others r + bit_and r places ≡ r
others_split r h = ap (λ n. n + bit_and r places) (and_comm r mask) ∙ (ap (λ n. bit_and mask r + n) (and_comm r places) ∙ and-not 64 places r (lit< tt) h)

others_of_clean : (r : ℕ) → r < 2 ^ 64 → bit_and r places ≡ 0 → others r ≡ r
others_of_clean r h k = omega (arith, others_split r h)

-- what was packed is unpacked, where rest has none of the six bits
pub unpacked_back : IsUnpackedBack
unfolding unpacked
unpacked_back f h k =
    let b = packed_bits f in
    let rest = others_of_word f ∙ others_of_clean f.rest h k in
    λ i. record { cf = b.cf i; pf = b.pf i; af = b.af i; zf = b.zf i; sf = b.sf i; of = b.of i; rest = rest i }

-- the flags of a word are those of its low twelve bits
low_flags : (w : ℕ) → six (unpacked w) ≡ six (unpacked (w % 2 ^ 12))
unfolding unpacked
low_flags w =
    let cf : bit_at w 0 ≡ bit_at (w % 2 ^ 12) 0 = omega arith in
    let pf : bit_at w 2 ≡ bit_at (w % 2 ^ 12) 2 = omega arith in
    let af : bit_at w 4 ≡ bit_at (w % 2 ^ 12) 4 = omega arith in
    let zf : bit_at w 6 ≡ bit_at (w % 2 ^ 12) 6 = omega arith in
    let sf : bit_at w 7 ≡ bit_at (w % 2 ^ 12) 7 = omega arith in
    let of : bit_at w 11 ≡ bit_at (w % 2 ^ 12) 11 = omega arith in
    λ i. six (flags_of (cf i == 1) (pf i == 1) (af i == 1) (zf i == 1) (sf i == 1) (of i == 1) 0)

-- of twelve bits, computed
table : (l : ℕ) → l < 2 ^ 12 → six (unpacked l) ≡ bit_and l places
unfolding unpacked
table l h = eqb-true (six (unpacked l)) (bit_and l places) (agree_below_at (λ n. six (unpacked n) == bit_and n places) (λ n. true) (2 ^ 12) l refl h)

low_places : (w : ℕ) → bit_and (w % 2 ^ 12) places ≡ bit_and w places
low_places w = omega (arith, and_mod w places 12, and_le_r w places)

six_of_word : (w : ℕ) → six (unpacked w) ≡ bit_and w places
six_of_word w = low_flags w ∙ (table (w % 2 ^ 12) (omega arith) ∙ low_places w)

-- what was unpacked is packed
pub packed_back : IsPackedBack
unfolding packed unpacked
packed_back w h = ap (λ n. n + six (unpacked w)) (and_assoc mask w mask) ∙ (ap (λ n. others w + n) (six_of_word w) ∙ others_split w h)
