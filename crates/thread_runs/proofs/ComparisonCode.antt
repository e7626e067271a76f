-- The code of comparisons: how many bytes it has, and how it is put together.
use Rattle.std.proofs.Common.{◌≡◌, ℕ, zero, suc, ◌+◌, ◌*◌, ◌<◌, ◌≤◌, List, [], ◌∷◌, ◌++◌, length, length-append, refl, ap, ◌∙◌, arith}
use Rattle.std.proofs.lemmas.List.{append_assoc}
use Rattle.pun_base.specs.declared.action.Comparison.{Comparison}
use Rattle.cond_action.specs.Codes.{compare_code, failing}
use Rattle.thread_runs.specs.ThreadCode.{compare_with, compare_len, checking_len, checking_code}

-- CMP has as many bytes as it is said
pub compare_long : (r n : ℕ) → length (compare_with r n) ≡ compare_len r
compare_long zero n = refl
compare_long (suc r) n = refl

-- CMP of a register that isn't rax is that of conditions for one thread
pub compare_other : (r n : ℕ) → 0 < r → compare_with r n ≡ compare_code r n
compare_other zero n h = absurd (omega (arith, h))
compare_other (suc r) n h = refl

-- it has up to twelve bytes
pub compare_few : (r : ℕ) → compare_len r ≤ 12
compare_few zero = omega arith
compare_few (suc r) = omega arith

-- comparisons with their jumps have up to fourteen bytes each
pub checking_few : (es : List Comparison) → checking_len es ≤ 14 * length es
checking_few [] = omega arith
checking_few (e ∷ es) = omega (arith, checking_few es, compare_few e.reg)

-- their code has as many bytes as it is said
pub checking_long : (cs : List Comparison) (m : ℕ) → length (checking_code cs m) ≡ checking_len cs
checking_long [] m = refl
checking_long (c ∷ cs) m =
    omega (arith, length-append (compare_with c.reg c.value) ((0x70 + failing c.op) ∷ (checking_len cs + m) ∷ checking_code cs m), compare_long c.reg c.value, checking_long cs m)

-- a comparison with its jump over so many bytes
abbrev pub check_of : Comparison → ℕ → List ℕ
check_of k over = compare_with k.reg k.value ++ ((0x70 + failing k.op) ∷ over ∷ [])

-- the last comparison with its jump
pub last_check : (k : Comparison) (m : ℕ) → check_of k m ≡ checking_code (k ∷ []) m
last_check k m = let e : m ≡ checking_len [] + m = omega arith in ap (check_of k) e

-- one before others
pub more_checks : (k : Comparison) (es : List Comparison) (m over : ℕ) → over ≡ checking_len es + m → check_of k over ++ checking_code es m ≡ checking_code (k ∷ es) m
more_checks k es m over e = append_assoc (compare_with k.reg k.value) ((0x70 + failing k.op) ∷ over ∷ []) (checking_code es m)
    ∙ ap (λ z. compare_with k.reg k.value ++ ((0x70 + failing k.op) ∷ z ∷ checking_code es m)) e
