-- Where more bytes make an instruction, at least as many as are told missing do.
use Rattle.std.proofs.Common.{◌≡◌, ℕ, suc, ◌+◌, ◌-◌, ◌≤◌, ◌%◌, Bool, true, false, ◌&&◌, ◌||◌, not, cond, eqb, ltb, List, [], ◌∷◌, ◌++◌, length, Some, None, Result, Ok, Err, refl, sym, ap, ◌∙◌, subst, arith, append_assoc, append-nil, length-append, true≢false, ltb-false, eqb-true}
use Rattle.std.specs.List.{list_all}
use Rattle.insn_tables.specs.Rows.{within, row_of}
use Rattle.insn_tables.specs.declared.table_row.Imm.{Imm}
use Rattle.insn_tables.specs.declared.table_row.Imm.TheVariants.{NoImm, I8}
use Rattle.insn_tables.specs.declared.table_row.TableRow.{TableRow}
use Rattle.length_decode.specs.declared.prefix_bytes.Lead.{Lead}
use Rattle.length_decode.specs.declared.escape_bytes.Escape.{Escape}
use Rattle.length_decode.specs.declared.escape_bytes.Escape.TheVariants.{OneByte, TwoByte, Byte38, Byte3A, Vex2, Vex3}
use Rattle.length_decode.specs.declared.field_bytes.Stop.{Stop}
use Rattle.length_decode.specs.declared.field_bytes.Stop.TheVariants.{NoSpelling, Missing}
use Rattle.length_decode.specs.Prefix.{is_prefix, lead_of}
use Rattle.length_decode.specs.Rules.{row_after, bars_vex, allows_opcode, allows_modrm, is_indirect, reg_bits, mod_bits, base_bits, needs_sib, disp_size, imm_size}
use Rattle.length_decode.specs.Spelling.{Fields}
use Rattle.length_decode.specs.Parse.{opening, with_tail, with_base, with_sib, least_reg, with_modrm, with_row, least_after, at_opcode, after_0f, after_c5, after_map, after_c4, after_prefixes, prefix_run, parse}
use Rattle.length_decode.proofs.SpelledFields.{Stops, parse_at}
use Rattle.length_decode.proofs.ReadFields.{ok_then, ok_else, divided}

-- nothing is missing, or not more than n bytes
abbrev pub Within : Result Fields Stop → ℕ → Type 0
Within (Ok f) n = Unit {0}
Within (Err NoSpelling) n = ⊥
Within (Err (Missing k)) n = k ≤ n

-- the same choice, before and after
chosen : (t : Bool) (a b a' b' : Result Fields Stop) (n : ℕ) (g : Fields) → (a' ≡ Ok g → Within a n) → (b' ≡ Ok g → Within b n) → cond t a' b' ≡ Ok g → Within (cond t a b) n
chosen true a b a' b' n g p q e = p e
chosen false a b a' b' n g p q e = q e

-- no instruction
none : (n : ℕ) (g : Fields) → (let r : Result Fields Stop = Err NoSpelling in r) ≡ Ok g → Within (Err NoSpelling) n
none n g e = absurd cc

tail_least : (f : Fields) (d n : ℕ) (bs : List ℕ) (g : Fields) → with_tail f d n bs ≡ Ok g → d + n ≤ length bs
tail_least f d n bs g e = ltb-false (length bs) (d + n) (ok_else (ltb (length bs) (d + n)) _ _ g e).0

missing_within : (t : Bool) (k n : ℕ) (f : Fields) → k ≤ n → Within (cond t (Err (Missing k)) (Ok f)) n
missing_within true k n f h = h
missing_within false k n f h = tt

tail_within : (f : Fields) (d n : ℕ) (bs more : List ℕ) (g : Fields) → with_tail f d n (bs ++ more) ≡ Ok g → Within (with_tail f d n bs) (length more)
tail_within f d n bs more g e =
    let h = tail_least f d n (bs ++ more) g e in
    let k : d + n - length bs ≤ length more = omega (arith, length-append bs more, h) in
    missing_within (ltb (length bs) (d + n)) (d + n - length bs) (length more) _ k

-- no base asks for less displacement than 0
disp_cases : (one two zero' five : Bool) → cond one 1 (cond (two || (zero' && false)) 4 0) ≤ cond one 1 (cond (two || (zero' && five)) 4 0)
disp_cases true two z five = omega arith
disp_cases false true z five = omega arith
disp_cases false false true true = omega arith
disp_cases false false true false = omega arith
disp_cases false false false five = omega arith

disp_least : (m s : ℕ) → disp_size m (Some 0) ≤ disp_size m (Some s)
disp_least m s = disp_cases (eqb (mod_bits m) 1) (eqb (mod_bits m) 2) (eqb (mod_bits m) 0) (eqb (base_bits m (Some s)) 5)

base_least : (f : Fields) (m n : ℕ) (bs : List ℕ) (g : Fields) → with_base f m n bs ≡ Ok g → 1 + disp_size m (Some 0) + n ≤ length bs
base_least f m n [] g e = absurd cc
base_least f m n (s ∷ bs) g e =
    let h = tail_least (record f { sib = Some s }) (disp_size m (Some s)) n bs g e in
    let k = disp_least m s in
    omega (arith, h, k)

base_within : (f : Fields) (m n : ℕ) (bs more : List ℕ) (g : Fields) → with_base f m n (bs ++ more) ≡ Ok g → Within (with_base f m n bs) (length more)
base_within f m n [] more g e = base_least f m n more g e
base_within f m n (s ∷ bs) more g e = tail_within (record f { sib = Some s }) (disp_size m (Some s)) n bs more g e

sib_within : (f : Fields) (m n : ℕ) (bs more : List ℕ) (g : Fields) → with_sib f m n (bs ++ more) ≡ Ok g → Within (with_sib f m n bs) (length more)
sib_within f m n bs more g e =
    chosen (needs_sib m) (with_base f m n bs) (with_tail f (disp_size m None) n bs) (with_base f m n (bs ++ more)) (with_tail f (disp_size m None) n (bs ++ more)) (length more) g
    (base_within f m n bs more g) (tail_within f (disp_size m None) n bs more g) e

sib_least_cases : (t : Bool) (f : Fields) (m n : ℕ) (bs : List ℕ) (g : Fields) → cond t (with_base f m n bs) (with_tail f (disp_size m None) n bs) ≡ Ok g → n ≤ length bs
sib_least_cases true f m n bs g e = let h = base_least f m n bs g e in omega (arith, h)
sib_least_cases false f m n bs g e = let h = tail_least f (disp_size m None) n bs g e in omega (arith, h)

pop_least : (zero' pop indirect : Bool) → ((zero' || not pop) && not indirect) ≡ true → pop ≡ true → zero' ≡ true
pop_least true pop i h p = refl
pop_least false true i h p = absurd (true≢false (sym h))
pop_least false false i h p = absurd (true≢false (sym p))

one_byte_cases : (pop : Bool) (lead : Lead) (k : Imm) (reg : ℕ) → (pop ≡ true → eqb reg 0 ≡ true) → imm_size lead k (cond pop 0 3) ≤ imm_size lead k reg
one_byte_cases true lead k reg h = let e : reg ≡ 0 = eqb-true reg 0 (h refl) in subst (λ (z : ℕ). imm_size lead k 0 ≤ imm_size lead k z) (sym e) (omega arith)
one_byte_cases false lead NoImm reg h = omega arith
one_byte_cases false lead k reg h = omega arith

other_least : (lead : Lead) (k : Imm) (reg : ℕ) → imm_size lead k 3 ≤ imm_size lead k reg
other_least lead k reg = one_byte_cases false lead k reg (λ p. absurd (true≢false (sym p)))

imm_least : (lead : Lead) (e : Escape) (op m : ℕ) (k : Imm) → allows_modrm lead e op m ≡ true → imm_size lead k (least_reg e op) ≤ imm_size lead k (reg_bits m)
imm_least lead OneByte op m k h = one_byte_cases (eqb op 0x8f) lead k (reg_bits m) (pop_least (eqb (reg_bits m) 0) (eqb op 0x8f) (is_indirect op (reg_bits m) && lead.prefixes.opsize) h)
imm_least lead TwoByte op m k h = other_least lead k (reg_bits m)
imm_least lead Byte38 op m k h = other_least lead k (reg_bits m)
imm_least lead Byte3A op m k h = other_least lead k (reg_bits m)
imm_least lead (Vex2 v) op m k h = other_least lead k (reg_bits m)
imm_least lead (Vex3 v w) op m k h = other_least lead k (reg_bits m)

modrm_least : (lead : Lead) (f : Fields) (k : Imm) (bs : List ℕ) (g : Fields) → with_modrm lead f k bs ≡ Ok g → 1 + imm_size lead k (least_reg f.escape f.opcode) ≤ length bs
modrm_least lead f k [] g e = absurd cc
modrm_least lead f k (m ∷ bs) g e =
    let a = ok_then (allows_modrm lead f.escape f.opcode m) _ _ g e in
    let h = sib_least_cases (needs_sib m) (record f { modrm = Some m }) m (imm_size lead k (reg_bits m)) bs g a.1 in
    let l = imm_least lead f.escape f.opcode m k a.0 in
    omega (arith, h, l)

modrm_within : (lead : Lead) (f : Fields) (k : Imm) (bs more : List ℕ) (g : Fields) → with_modrm lead f k (bs ++ more) ≡ Ok g → Within (with_modrm lead f k bs) (length more)
modrm_within lead f k [] more g e = modrm_least lead f k more g e
modrm_within lead f k (m ∷ bs) more g e =
    chosen (allows_modrm lead f.escape f.opcode m) (with_sib (record f { modrm = Some m }) m (imm_size lead k (reg_bits m)) bs) (Err NoSpelling) (with_sib (record f { modrm = Some m }) m (imm_size lead k (reg_bits m)) (bs ++ more)) (Err NoSpelling) (length more) g
    (sib_within (record f { modrm = Some m }) m (imm_size lead k (reg_bits m)) bs more g) (none (length more) g) e

row_within : (lead : Lead) (f : Fields) (row : TableRow) (bs more : List ℕ) (g : Fields) → with_row lead f row (bs ++ more) ≡ Ok g → Within (with_row lead f row bs) (length more)
row_within lead f row bs more g e =
    let n = imm_size lead row.imm 0 in
    chosen row.known (cond row.modrm (with_modrm lead f row.imm bs) (with_tail f 0 n bs)) (Err NoSpelling) (cond row.modrm (with_modrm lead f row.imm (bs ++ more)) (with_tail f 0 n (bs ++ more))) (Err NoSpelling) (length more) g
    (chosen row.modrm (with_modrm lead f row.imm bs) (with_tail f 0 n bs) (with_modrm lead f row.imm (bs ++ more)) (with_tail f 0 n (bs ++ more)) (length more) g (modrm_within lead f row.imm bs more g) (tail_within f 0 n bs more g))
    (none (length more) g) e

vex_three : (one two : Bool) (lead : Lead) (f : Fields) (b : ℕ) (bs : List ℕ) (g : Fields) → with_row lead f (row_of (cond one 4 (cond two 5 6)) b) bs ≡ Ok g → cond one 1 (cond two 2 3) ≤ suc (length bs)
vex_three true two lead f b bs g e = omega arith
vex_three false true lead f b bs g e = let h = modrm_least lead f NoImm bs g e in omega (arith, h)
vex_three false false lead f b bs g e = let h = modrm_least lead f I8 bs g e in omega (arith, h)

opcode_least : (lead : Lead) (ps : List ℕ) (e : Escape) (bs : List ℕ) (g : Fields) → at_opcode lead ps e bs ≡ Ok g → least_after e ≤ length bs
opcode_least lead ps e [] g r = absurd cc
opcode_least lead ps OneByte (b ∷ bs) g r = omega arith
opcode_least lead ps TwoByte (b ∷ bs) g r = omega arith
opcode_least lead ps Byte38 (b ∷ bs) g r = let h = modrm_least lead (opening ps Byte38 b) NoImm bs g r in omega (arith, h)
opcode_least lead ps Byte3A (b ∷ bs) g r = let h = modrm_least lead (opening ps Byte3A b) I8 bs g r in omega (arith, h)
opcode_least lead ps (Vex2 v) (b ∷ bs) g r = omega arith
opcode_least lead ps (Vex3 v w) (b ∷ bs) g r = vex_three (eqb (v % 32) 1) (eqb (v % 32) 2) lead (opening ps (Vex3 v w) b) b bs g r

opcode_within : (lead : Lead) (ps : List ℕ) (e : Escape) (bs more : List ℕ) (g : Fields) → at_opcode lead ps e (bs ++ more) ≡ Ok g → Within (at_opcode lead ps e bs) (length more)
opcode_within lead ps e [] more g r = opcode_least lead ps e more g r
opcode_within lead ps e (b ∷ bs) more g r =
    chosen (allows_opcode lead e b) (with_row lead (opening ps e b) (row_after e b) bs) (Err NoSpelling) (with_row lead (opening ps e b) (row_after e b) (bs ++ more)) (Err NoSpelling) (length more) g
    (row_within lead (opening ps e b) (row_after e b) bs more g) (none (length more) g) r

module _ (lead : Lead) (ps : List ℕ) where
  within_0f : (bs more : List ℕ) (g : Fields) → after_0f lead ps (bs ++ more) ≡ Ok g → Within (after_0f lead ps bs) (length more)
  within_0f [] [] g r = absurd cc
  within_0f [] (x ∷ more) g r = omega arith
  within_0f (b ∷ bs) more g r =
      chosen (eqb b 0x38) (at_opcode lead ps Byte38 bs) (cond (eqb b 0x3a) (at_opcode lead ps Byte3A bs) (at_opcode lead ps TwoByte (b ∷ bs))) (at_opcode lead ps Byte38 (bs ++ more)) (cond (eqb b 0x3a) (at_opcode lead ps Byte3A (bs ++ more)) (at_opcode lead ps TwoByte (b ∷ (bs ++ more)))) (length more) g
      (opcode_within lead ps Byte38 bs more g)
      (chosen (eqb b 0x3a) (at_opcode lead ps Byte3A bs) (at_opcode lead ps TwoByte (b ∷ bs)) (at_opcode lead ps Byte3A (bs ++ more)) (at_opcode lead ps TwoByte (b ∷ (bs ++ more))) (length more) g (opcode_within lead ps Byte3A bs more g) (opcode_within lead ps TwoByte (b ∷ bs) more g))
      r

  within_c5 : (bs more : List ℕ) (g : Fields) → after_c5 lead ps (bs ++ more) ≡ Ok g → Within (after_c5 lead ps bs) (length more)
  within_c5 [] [] g r = absurd cc
  within_c5 [] (v ∷ more) g r = let h = opcode_least lead ps (Vex2 v) more g r in omega (arith, h)
  within_c5 (v ∷ bs) more g r = opcode_within lead ps (Vex2 v) bs more g r

  map_least : (v : ℕ) (bs : List ℕ) (g : Fields) → after_map lead ps v bs ≡ Ok g → 1 + least_after (Vex3 v 0) ≤ length bs
  map_least v [] g r = absurd cc
  map_least v (w ∷ bs) g r = let h = opcode_least lead ps (Vex3 v w) bs g r in omega (arith, h)

  within_map : (v : ℕ) (bs more : List ℕ) (g : Fields) → after_map lead ps v (bs ++ more) ≡ Ok g → Within (after_map lead ps v bs) (length more)
  within_map v [] more g r = map_least v more g r
  within_map v (w ∷ bs) more g r = opcode_within lead ps (Vex3 v w) bs more g r

  least_one : (v : ℕ) → 1 ≤ least_after (Vex3 v 0)
  least_one v = elim (eqb (v % 32) 1) as (λ t. 1 ≤ cond t 1 (cond (eqb (v % 32) 2) 2 3)) [ true ↦ omega arith | false ↦ elim (eqb (v % 32) 2) as (λ t. 1 ≤ cond t 2 3) [ true ↦ omega arith | false ↦ omega arith ] ]

  within_c4 : (bs more : List ℕ) (g : Fields) → after_c4 lead ps (bs ++ more) ≡ Ok g → Within (after_c4 lead ps bs) (length more)
  within_c4 [] [] g r = absurd cc
  within_c4 [] (v ∷ more) g r =
      let a = ok_then (within 1 3 (v % 32)) _ _ g r in
      let h = map_least v more g a.1 in
      let l = least_one v in
      omega (arith, h, l)
  within_c4 (v ∷ bs) more g r = chosen (within 1 3 (v % 32)) (after_map lead ps v bs) (Err NoSpelling) (after_map lead ps v (bs ++ more)) (Err NoSpelling) (length more) g (within_map v bs more g) (none (length more) g) r

  barred : (a a' : Result Fields Stop) (n : ℕ) (g : Fields) → (a' ≡ Ok g → Within a n) → cond (bars_vex lead) (Err NoSpelling) a' ≡ Ok g → Within (cond (bars_vex lead) (Err NoSpelling) a) n
  barred a a' n g p e = chosen (bars_vex lead) (Err NoSpelling) a (Err NoSpelling) a' n g (none n g) p e

  -- where more bytes behind the prefixes make an instruction, no more are told missing than these
  pub body_within : (bs more : List ℕ) (g : Fields) → after_prefixes lead ps (bs ++ more) ≡ Ok g → Within (after_prefixes lead ps bs) (length more)
  body_within [] [] g r = absurd cc
  body_within [] (x ∷ more) g r = omega arith
  body_within (b ∷ bs) more g r =
      let vex2 = cond (bars_vex lead) (Err NoSpelling) (after_c5 lead ps bs) in
      let vex2' = cond (bars_vex lead) (Err NoSpelling) (after_c5 lead ps (bs ++ more)) in
      let vex3 = cond (bars_vex lead) (Err NoSpelling) (after_c4 lead ps bs) in
      let vex3' = cond (bars_vex lead) (Err NoSpelling) (after_c4 lead ps (bs ++ more)) in
      let one = at_opcode lead ps OneByte (b ∷ bs) in
      let one' = at_opcode lead ps OneByte (b ∷ (bs ++ more)) in
      chosen (eqb b 0x0f) (after_0f lead ps bs) (cond (eqb b 0xc5) vex2 (cond (eqb b 0xc4) vex3 one)) (after_0f lead ps (bs ++ more)) (cond (eqb b 0xc5) vex2' (cond (eqb b 0xc4) vex3' one')) (length more) g
      (within_0f bs more g)
      (chosen (eqb b 0xc5) vex2 (cond (eqb b 0xc4) vex3 one) vex2' (cond (eqb b 0xc4) vex3' one') (length more) g
      (barred (after_c5 lead ps bs) (after_c5 lead ps (bs ++ more)) (length more) g (within_c5 bs more g))
      (chosen (eqb b 0xc4) vex3 one vex3' one' (length more) g (barred (after_c4 lead ps bs) (after_c4 lead ps (bs ++ more)) (length more) g (within_c4 bs more g)) (opcode_within lead ps OneByte (b ∷ bs) more g)))
      r

within_at : (ps tail more : List ℕ) (g : Fields) → list_all is_prefix ps ≡ true → Stops tail → parse ((ps ++ tail) ++ more) ≡ Ok g → Within (parse (ps ++ tail)) (length more)
within_at ps [] [] g a s r = let e : after_prefixes (lead_of ps) ps [] ≡ Ok g = sym (parse_at ps [] a tt) ∙ ap parse (sym (append-nil (ps ++ []))) ∙ r in absurd cc
within_at ps [] (x ∷ more) g a s r = let h : 1 ≤ length (x ∷ more) = omega arith in subst (λ (z : Result Fields Stop). Within z (length (x ∷ more))) (sym (parse_at ps [] a tt)) h
within_at ps (b ∷ tail) more g a s r =
    let e : after_prefixes (lead_of ps) ps ((b ∷ tail) ++ more) ≡ Ok g = sym (parse_at ps ((b ∷ tail) ++ more) a s) ∙ ap parse (sym (append_assoc ps (b ∷ tail) more)) ∙ r in
    subst (λ (z : Result Fields Stop). Within z (length more)) (sym (parse_at ps (b ∷ tail) a s)) (body_within (lead_of ps) ps (b ∷ tail) more g e)

-- where more bytes make an instruction that is read, no more are told missing than these
pub parse_within : (bs more : List ℕ) (g : Fields) → parse (bs ++ more) ≡ Ok g → Within (parse bs) (length more)
parse_within bs more g r =
    let d = divided bs in
    let e : parse ((prefix_run bs ++ d.tail) ++ more) ≡ Ok g = ap (λ z. parse (z ++ more)) (sym d.split) ∙ r in
    subst (λ (z : List ℕ). Within (parse z) (length more)) (sym d.split) (within_at (prefix_run bs) d.tail more g d.all d.stops e)
