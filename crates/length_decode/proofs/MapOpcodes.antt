-- What can't be an opcode of a map.
use Rattle.std.proofs.Common.{◌≡◌, ℕ, zero, suc, ◌+◌, ◌≤◌, ◌<◌, Bool, true, false, ◌&&◌, ◌||◌, not, eqb, List, [], ◌∷◌, refl, sym, ap, ◌∙◌, arith, true≢false, eqb-true}
use Rattle.std.proofs.lemmas.Bool.Decides.{nat_tests}
use Rattle.std.proofs.lemmas.Bool.{not-true, and_parts}
use Rattle.insn_tables.specs.Rows.{one_byte, two_byte, within, among}
use Rattle.length_decode.specs.Prefix.{is_rex, is_prefix}

-- where a test fails at x and holds at op, they differ
differs : (P : ℕ → Bool) (x op : ℕ) (t : Bool) → eqb op x ≡ t → P x ≡ false → P op ≡ true → t ≡ false
differs P x op false e p q = refl
differs P x op true e p q = let h : op ≡ x = eqb-true op x e in let r : true ≡ false = sym q ∙ ap P h ∙ p in absurd (true≢false r)

-- a number at which a test holds is none at which it fails
pub not_at : (P : ℕ → Bool) (x op : ℕ) → P x ≡ false → P op ≡ true → eqb op x ≡ false
not_at P x op p q = differs P x op (eqb op x) refl p q

-- the test fails at each of the bytes
abbrev fails : (ℕ → Bool) → List ℕ → Bool
fails P [] = true
fails P (x ∷ xs) = not (P x) && fails P xs

-- the test fails at n numbers from x on
abbrev fails_from : (ℕ → Bool) → ℕ → ℕ → Bool
fails_from P x zero = true
fails_from P x (suc n) = not (P x) && fails_from P (suc x) n

not_among : (P : ℕ → Bool) (xs : List ℕ) (op : ℕ) → fails P xs ≡ true → P op ≡ true → among xs op ≡ false
not_among P [] op f q = refl
not_among P (x ∷ xs) op f q =
    let h = not_at P x op (not-true (P x) (and_parts (not (P x)) (fails P xs) f).0) q in
    let r = not_among P xs op (and_parts (not (P x)) (fails P xs) f).1 q in
    ap (λ t. t || among xs op) h ∙ r

-- a number outside
outside : (low high b : ℕ) → (low ≤ b → b ≤ high → ⊥) → within low high b ≡ false
outside low high b h = grind (arith, nat_tests)

apart : (P : ℕ → Bool) (n x op : ℕ) → fails_from P x n ≡ true → P op ≡ true → x ≤ op → op < x + n → ⊥
apart P zero x op f q lo hi = omega arith
apart P (suc n) x op f q lo hi =
    let e : eqb op x ≡ false = not_at P x op (not-true (P x) (and_parts (not (P x)) (fails_from P (suc x) n) f).0) q in
    let more : suc x ≤ op = grind (arith, nat_tests) in
    apart P n (suc x) op (and_parts (not (P x)) (fails_from P (suc x) n) f).1 q more (omega arith)

-- an opcode of a map that has no prefix byte is no prefix byte
pub not_prefix : (P : ℕ → Bool) (op : ℕ) → fails P (0x66 ∷ 0x67 ∷ 0xf0 ∷ 0xf2 ∷ 0xf3 ∷ 0x26 ∷ 0x2e ∷ 0x36 ∷ 0x3e ∷ 0x64 ∷ 0x65 ∷ []) ≡ true → fails_from P 0x40 16 ≡ true → P op ≡ true → is_prefix op ≡ false
not_prefix P op f g q =
    let h = not_among P (0x66 ∷ 0x67 ∷ 0xf0 ∷ 0xf2 ∷ 0xf3 ∷ 0x26 ∷ 0x2e ∷ 0x36 ∷ 0x3e ∷ 0x64 ∷ 0x65 ∷ []) op f q in
    let r = outside 0x40 0x4f op (λ lo hi. apart P 16 0x40 op g q lo (omega arith)) in
    ap (λ t. t || is_rex op) h ∙ r

-- an opcode of the one-byte map
abbrev pub is_one_byte : ℕ → Bool
is_one_byte op = (one_byte op).known

-- an opcode of the map behind 0F
abbrev pub is_two_byte : ℕ → Bool
is_two_byte op = (two_byte op).known

-- a one-byte opcode is no prefix byte
pub one_byte_prefix : (op : ℕ) → is_one_byte op ≡ true → is_prefix op ≡ false
one_byte_prefix op q = not_prefix is_one_byte op refl refl q

-- a one-byte opcode is none of 0F, C5 and C4
pub one_byte_escape : (op : ℕ) → is_one_byte op ≡ true → (eqb op 0x0f ≡ false) × (eqb op 0xc5 ≡ false) × (eqb op 0xc4 ≡ false)
one_byte_escape op q = (not_at is_one_byte 0x0f op refl q, not_at is_one_byte 0xc5 op refl q, not_at is_one_byte 0xc4 op refl q)

-- an opcode behind 0F is neither 38 nor 3A
pub two_byte_escape : (op : ℕ) → is_two_byte op ≡ true → (eqb op 0x38 ≡ false) × (eqb op 0x3a ≡ false)
two_byte_escape op q = (not_at is_two_byte 0x38 op refl q, not_at is_two_byte 0x3a op refl q)
