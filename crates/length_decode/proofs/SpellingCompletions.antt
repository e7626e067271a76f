-- Where bytes are told missing, as many more make an instruction.
use Rattle.std.proofs.Common.{◌≡◌, ℕ, zero, suc, ◌+◌, ◌-◌, ◌≤◌, ◌%◌, Bool, true, false, ◌&&◌, not, cond, eqb, ltb, List, [], ◌∷◌, ◌++◌, length, take, drop, Some, None, Result, Ok, Err, refl, sym, ap, ◌∙◌, subst, arith, append_assoc, length-append, ltb-true, le-ltb}
use Rattle.std.specs.List.{list_all}
use Rattle.insn_tables.specs.Rows.{within, row_of}
use Rattle.insn_tables.specs.declared.table_row.Imm.{Imm}
use Rattle.insn_tables.specs.declared.table_row.TableRow.{TableRow}
use Rattle.length_decode.specs.declared.prefix_bytes.Lead.{Lead}
use Rattle.length_decode.specs.declared.escape_bytes.Escape.{Escape}
use Rattle.length_decode.specs.declared.escape_bytes.Escape.TheVariants.{OneByte, TwoByte, Byte38, Byte3A, Vex2, Vex3}
use Rattle.length_decode.specs.declared.field_bytes.Stop.{Stop}
use Rattle.length_decode.specs.declared.field_bytes.Stop.TheVariants.{NoSpelling, Missing}
use Rattle.length_decode.specs.Prefix.{is_prefix, lead_of}
use Rattle.length_decode.specs.Rules.{row_after, bars_vex, allows_opcode, allows_modrm, reg_bits, needs_sib, disp_size, imm_size}
use Rattle.length_decode.specs.Spelling.{Fields}
use Rattle.length_decode.specs.Parse.{opening, with_tail, with_base, with_sib, least_reg, with_modrm, with_row, least_after, at_opcode, after_0f, after_c5, after_map, after_c4, after_prefixes, prefix_run, parse}
use Rattle.length_decode.proofs.SpelledFields.{Stops, parse_at}
use Rattle.length_decode.proofs.ReadFields.{divided}

-- each number of the list is a byte
abbrev pub are_bytes : List ℕ → Bool
are_bytes = list_all (λ b. ltb b 256)

-- n more bytes, and what is read then
pub record Completed (read : List ℕ → Result Fields Stop) (n : ℕ) : Type 0 where
  pub more : List ℕ
  pub len : length more ≡ n
  pub bytes : are_bytes more ≡ true
  pub fields : Fields
  pub reads : read more ≡ Ok fields

zeros : ℕ → List ℕ
zeros zero = []
zeros (suc n) = 0 ∷ zeros n

length-zeros : (n : ℕ) → length (zeros n) ≡ n
unfolding zeros
length-zeros zero = refl
length-zeros (suc n) = ap suc (length-zeros n)

zeros_bytes : (n : ℕ) → are_bytes (zeros n) ≡ true
unfolding zeros
zeros_bytes zero = refl
zeros_bytes (suc n) = zeros_bytes n

-- a stop that is told
missing_is : (k n : ℕ) → (let r : Result Fields Stop = Err (Missing k) in r) ≡ Err (Missing n) → k ≡ n
missing_is k n e = let h : k ≡ n = cc in h

then_missing : (b : Bool) (x : Result Fields Stop) (n : ℕ) → cond b x (Err NoSpelling) ≡ Err (Missing n) → (b ≡ true) × (x ≡ Err (Missing n))
then_missing true x n e = (refl, e)
then_missing false x n e = absurd cc

else_missing : (b : Bool) (x : Result Fields Stop) (n : ℕ) → cond b (Err NoSpelling) x ≡ Err (Missing n) → (b ≡ false) × (x ≡ Err (Missing n))
else_missing false x n e = (refl, e)
else_missing true x n e = absurd cc

-- the same reading
along : (read read' : List ℕ → Result Fields Stop) (n : ℕ) → ((z : List ℕ) → read z ≡ read' z) → Completed read' n → Completed read n
along read read' n h c = record { more = c.more; len = c.len; bytes = c.bytes; fields = c.fields; reads = h c.more ∙ c.reads }

tail_reads : (f : Fields) (d n : ℕ) (bs : List ℕ) → d + n ≤ length bs → with_tail f d n bs ≡ Ok (record f { disp = take d bs; imm = take n (drop d bs) })
tail_reads f d n bs h = rw (le-ltb _ _ h) refl

tail_cases : (b : Bool) (k : ℕ) (x : Fields) (n : ℕ) → cond b (Err (Missing k)) (Ok x) ≡ Err (Missing n) → (b ≡ true) × (k ≡ n)
tail_cases true k x n e = (refl, missing_is k n e)
tail_cases false k x n e = absurd cc

tail_completed : (f : Fields) (d i : ℕ) (bs : List ℕ) (n : ℕ) → with_tail f d i bs ≡ Err (Missing n) → Completed (λ z. with_tail f d i (bs ++ z)) n
tail_completed f d i bs n e =
    let k = tail_cases (ltb (length bs) (d + i)) (d + i - length bs) _ n e in
    let l = ltb-true (length bs) (d + i) k.0 in
    let z = length-zeros n in
    let h : d + i ≤ length (bs ++ zeros n) = omega (arith, k.1, l, z, length-append bs (zeros n)) in
    record { more = zeros n; len = z; bytes = zeros_bytes n; fields = _; reads = tail_reads f d i (bs ++ zeros n) h }

base_completed : (f : Fields) (m i : ℕ) (bs : List ℕ) (n : ℕ) → with_base f m i bs ≡ Err (Missing n) → Completed (λ z. with_base f m i (bs ++ z)) n
base_completed f m i [] n e =
    let k = missing_is _ n e in
    let d = disp_size m (Some 0) in
    let z = length-zeros (d + i) in
    let h : d + i ≤ length (zeros (d + i)) = omega (arith, z) in
    let l : length (0 ∷ zeros (d + i)) ≡ n = omega (arith, z, k) in
    record { more = 0 ∷ zeros (d + i); len = l; bytes = zeros_bytes (d + i); fields = _; reads = tail_reads (record f { sib = Some 0 }) d i (zeros (d + i)) h }
base_completed f m i (s ∷ bs) n e = tail_completed (record f { sib = Some s }) (disp_size m (Some s)) i bs n e

sib_cases : (b : Bool) (f : Fields) (m i : ℕ) (bs : List ℕ) (n : ℕ) → cond b (with_base f m i bs) (with_tail f (disp_size m None) i bs) ≡ Err (Missing n)
    → Completed (λ z. cond b (with_base f m i (bs ++ z)) (with_tail f (disp_size m None) i (bs ++ z))) n
sib_cases true f m i bs n e = base_completed f m i bs n e
sib_cases false f m i bs n e = tail_completed f (disp_size m None) i bs n e

-- the ModRM byte of a register with the least reg
abbrev least_modrm : Escape → ℕ → ℕ
least_modrm OneByte op = cond (eqb op 0x8f) 0xc0 0xd8
least_modrm TwoByte op = 0xd8
least_modrm Byte38 op = 0xd8
least_modrm Byte3A op = 0xd8
least_modrm (Vex2 v) op = 0xd8
least_modrm (Vex3 v w) op = 0xd8

-- a register with the least reg is an operand without more bytes
record Least (lead : Lead) (f : Fields) (i m : ℕ) (reg : ℕ) : Type 0 where
  byte : ltb m 256 ≡ true
  allowed : allows_modrm lead f.escape f.opcode m ≡ true
  reg_is : reg_bits m ≡ reg
  reads : (bs : List ℕ) → with_sib (record f { modrm = Some m }) m i bs ≡ with_tail (record f { modrm = Some m }) 0 i bs

one_byte_least : (b : Bool) (lead : Lead) (ps : List ℕ) (op i : ℕ) → eqb op 0x8f ≡ b → Least lead (opening ps OneByte op) i (cond b 0xc0 0xd8) (cond b 0 3)
one_byte_least true lead ps op i e = record { byte = refl; allowed = refl; reg_is = refl; reads = λ bs. refl }
one_byte_least false lead ps op i e = record { byte = refl; allowed = ap (λ t. not t && true) e; reg_is = refl; reads = λ bs. refl }

least_of : (lead : Lead) (ps : List ℕ) (e : Escape) (op i : ℕ) → Least lead (opening ps e op) i (least_modrm e op) (least_reg e op)
least_of lead ps OneByte op i = one_byte_least (eqb op 0x8f) lead ps op i refl
least_of lead ps TwoByte op i = record { byte = refl; allowed = refl; reg_is = refl; reads = λ bs. refl }
least_of lead ps Byte38 op i = record { byte = refl; allowed = refl; reg_is = refl; reads = λ bs. refl }
least_of lead ps Byte3A op i = record { byte = refl; allowed = refl; reg_is = refl; reads = λ bs. refl }
least_of lead ps (Vex2 v) op i = record { byte = refl; allowed = refl; reg_is = refl; reads = λ bs. refl }
least_of lead ps (Vex3 v w) op i = record { byte = refl; allowed = refl; reg_is = refl; reads = λ bs. refl }

modrm_completed : (lead : Lead) (ps : List ℕ) (e : Escape) (op : ℕ) (k : Imm) (bs : List ℕ) (n : ℕ) → with_modrm lead (opening ps e op) k bs ≡ Err (Missing n) → Completed (λ z. with_modrm lead (opening ps e op) k (bs ++ z)) n
modrm_completed lead ps e op k [] n r =
    let i = imm_size lead k (least_reg e op) in
    let m = least_modrm e op in
    let l = least_of lead ps e op i in
    let c = missing_is _ n r in
    let z = length-zeros i in
    let h : 0 + i ≤ length (zeros i) = omega (arith, z) in
    let len : length (m ∷ zeros i) ≡ n = omega (arith, z, c) in
    let f : Fields = record (opening ps e op) { modrm = Some m } in
    record {
      more = m ∷ zeros i;
      len = len;
      bytes = ap (λ t. t && are_bytes (zeros i)) l.byte ∙ zeros_bytes i;
      fields = _;
      reads = ap (λ t. cond t (with_sib f m (imm_size lead k (reg_bits m)) (zeros i)) (Err NoSpelling)) l.allowed ∙ ap (λ r. with_sib f m (imm_size lead k r) (zeros i)) l.reg_is ∙ l.reads (zeros i) ∙ tail_reads f 0 i (zeros i) h;
    }
modrm_completed lead ps e op k (m ∷ bs) n r =
    let f : Fields = record (opening ps e op) { modrm = Some m } in
    let i = imm_size lead k (reg_bits m) in
    let a = then_missing (allows_modrm lead e op m) _ n r in
    along (λ z. with_modrm lead (opening ps e op) k (m ∷ (bs ++ z))) (λ z. with_sib f m i (bs ++ z)) n (λ z. ap (λ t. cond t (with_sib f m i (bs ++ z)) (Err NoSpelling)) a.0) (sib_cases (needs_sib m) f m i bs n a.1)

row_cases : (b : Bool) (lead : Lead) (ps : List ℕ) (e : Escape) (op : ℕ) (k : Imm) (bs : List ℕ) (n : ℕ) → cond b (with_modrm lead (opening ps e op) k bs) (with_tail (opening ps e op) 0 (imm_size lead k 0) bs) ≡ Err (Missing n)
    → Completed (λ z. cond b (with_modrm lead (opening ps e op) k (bs ++ z)) (with_tail (opening ps e op) 0 (imm_size lead k 0) (bs ++ z))) n
row_cases true lead ps e op k bs n r = modrm_completed lead ps e op k bs n r
row_cases false lead ps e op k bs n r = tail_completed (opening ps e op) 0 (imm_size lead k 0) bs n r

row_completed : (lead : Lead) (ps : List ℕ) (e : Escape) (op : ℕ) (row : TableRow) (bs : List ℕ) (n : ℕ) → with_row lead (opening ps e op) row bs ≡ Err (Missing n) → Completed (λ z. with_row lead (opening ps e op) row (bs ++ z)) n
row_completed lead ps e op row bs n r =
    let a = then_missing row.known _ n r in
    let inner = λ (z : List ℕ). cond row.modrm (with_modrm lead (opening ps e op) row.imm (bs ++ z)) (with_tail (opening ps e op) 0 (imm_size lead row.imm 0) (bs ++ z)) in
    along (λ z. with_row lead (opening ps e op) row (bs ++ z)) inner n (λ z. ap (λ t. cond t (inner z) (Err NoSpelling)) a.0) (row_cases row.modrm lead ps e op row.imm bs n a.1)

-- an opcode of the least length, in each map
vex_opcode : (one two : Bool) (lead : Lead) (ps : List ℕ) (v w : ℕ) → eqb (v % 32) 1 ≡ one → eqb (v % 32) 2 ≡ two → Completed (at_opcode lead ps (Vex3 v w)) (cond one 1 (cond two 2 3))
vex_opcode true two lead ps v w p q =
    record { more = 0x77 ∷ []; len = refl; bytes = refl; fields = _; reads = ap (λ t. with_row lead (opening ps (Vex3 v w) 0x77) (row_of (cond t 4 (cond (eqb (v % 32) 2) 5 6)) 0x77) []) p }
vex_opcode false true lead ps v w p q =
    record { more = 0 ∷ 0xd8 ∷ []; len = refl; bytes = refl; fields = _; reads = ap (λ t. with_row lead (opening ps (Vex3 v w) 0) (row_of (cond t 4 (cond (eqb (v % 32) 2) 5 6)) 0) (0xd8 ∷ [])) p ∙ ap (λ t. with_row lead (opening ps (Vex3 v w) 0) (row_of (cond t 5 6) 0) (0xd8 ∷ [])) q }
vex_opcode false false lead ps v w p q =
    record { more = 0 ∷ 0xd8 ∷ 0 ∷ []; len = refl; bytes = refl; fields = _; reads = ap (λ t. with_row lead (opening ps (Vex3 v w) 0) (row_of (cond t 4 (cond (eqb (v % 32) 2) 5 6)) 0) (0xd8 ∷ 0 ∷ [])) p ∙ ap (λ t. with_row lead (opening ps (Vex3 v w) 0) (row_of (cond t 5 6) 0) (0xd8 ∷ 0 ∷ [])) q }

some_opcode : (lead : Lead) (ps : List ℕ) (e : Escape) → Completed (at_opcode lead ps e) (least_after e)
some_opcode lead ps OneByte = record { more = 0x90 ∷ []; len = refl; bytes = refl; fields = _; reads = refl }
some_opcode lead ps TwoByte = record { more = 0x05 ∷ []; len = refl; bytes = refl; fields = _; reads = refl }
some_opcode lead ps Byte38 = record { more = 0 ∷ 0xd8 ∷ []; len = refl; bytes = refl; fields = _; reads = refl }
some_opcode lead ps Byte3A = record { more = 0 ∷ 0xd8 ∷ 0 ∷ []; len = refl; bytes = refl; fields = _; reads = refl }
some_opcode lead ps (Vex2 v) = record { more = 0x77 ∷ []; len = refl; bytes = refl; fields = _; reads = refl }
some_opcode lead ps (Vex3 v w) = vex_opcode (eqb (v % 32) 1) (eqb (v % 32) 2) lead ps v w refl refl

-- the same number
counted : (read : List ℕ → Result Fields Stop) (k n : ℕ) → k ≡ n → Completed read k → Completed read n
counted read k n e c = subst (λ (z : ℕ). Completed read z) e c

module _ (lead : Lead) (ps : List ℕ) where
  opcode_completed : (e : Escape) (bs : List ℕ) (n : ℕ) → at_opcode lead ps e bs ≡ Err (Missing n) → Completed (λ z. at_opcode lead ps e (bs ++ z)) n
  opcode_completed e [] n r = counted (at_opcode lead ps e) (least_after e) n (missing_is _ n r) (some_opcode lead ps e)
  opcode_completed e (b ∷ bs) n r =
      let a = then_missing (allows_opcode lead e b) _ n r in
      let inner = λ (z : List ℕ). with_row lead (opening ps e b) (row_after e b) (bs ++ z) in
      along (λ z. at_opcode lead ps e (b ∷ (bs ++ z))) inner n (λ z. ap (λ t. cond t (inner z) (Err NoSpelling)) a.0) (row_completed lead ps e b (row_after e b) bs n a.1)

  second_completed : (s t : Bool) (b : ℕ) (bs : List ℕ) (n : ℕ) → cond s (at_opcode lead ps Byte38 bs) (cond t (at_opcode lead ps Byte3A bs) (at_opcode lead ps TwoByte (b ∷ bs))) ≡ Err (Missing n)
      → Completed (λ z. cond s (at_opcode lead ps Byte38 (bs ++ z)) (cond t (at_opcode lead ps Byte3A (bs ++ z)) (at_opcode lead ps TwoByte (b ∷ (bs ++ z))))) n
  second_completed true t b bs n r = opcode_completed Byte38 bs n r
  second_completed false true b bs n r = opcode_completed Byte3A bs n r
  second_completed false false b bs n r = opcode_completed TwoByte (b ∷ bs) n r

  completed_0f : (bs : List ℕ) (n : ℕ) → after_0f lead ps bs ≡ Err (Missing n) → Completed (λ z. after_0f lead ps (bs ++ z)) n
  completed_0f [] n r = counted (after_0f lead ps) 1 n (missing_is 1 n r) (record { more = 0x05 ∷ []; len = refl; bytes = refl; fields = _; reads = refl })
  completed_0f (b ∷ bs) n r = second_completed (eqb b 0x38) (eqb b 0x3a) b bs n r

  completed_c5 : (bs : List ℕ) (n : ℕ) → after_c5 lead ps bs ≡ Err (Missing n) → Completed (λ z. after_c5 lead ps (bs ++ z)) n
  completed_c5 [] n r = counted (after_c5 lead ps) 2 n (missing_is 2 n r) (record { more = 0 ∷ 0x77 ∷ []; len = refl; bytes = refl; fields = _; reads = refl })
  completed_c5 (v ∷ bs) n r = opcode_completed (Vex2 v) bs n r

  completed_map : (v : ℕ) (bs : List ℕ) (n : ℕ) → after_map lead ps v bs ≡ Err (Missing n) → Completed (λ z. after_map lead ps v (bs ++ z)) n
  completed_map v [] n r =
      let c = some_opcode lead ps (Vex3 v 0) in
      let l : length (0 ∷ c.more) ≡ 1 + least_after (Vex3 v 0) = omega (arith, c.len) in
      counted (after_map lead ps v) (1 + least_after (Vex3 v 0)) n (missing_is _ n r) (record { more = 0 ∷ c.more; len = l; bytes = c.bytes; fields = c.fields; reads = c.reads })
  completed_map v (w ∷ bs) n r = opcode_completed (Vex3 v w) bs n r

  completed_c4 : (bs : List ℕ) (n : ℕ) → after_c4 lead ps bs ≡ Err (Missing n) → Completed (λ z. after_c4 lead ps (bs ++ z)) n
  completed_c4 [] n r = counted (after_c4 lead ps) 3 n (missing_is 3 n r) (record { more = 1 ∷ 0 ∷ 0x77 ∷ []; len = refl; bytes = refl; fields = _; reads = refl })
  completed_c4 (v ∷ bs) n r =
      let a = then_missing (within 1 3 (v % 32)) _ n r in
      along (λ z. after_c4 lead ps (v ∷ (bs ++ z))) (λ z. after_map lead ps v (bs ++ z)) n (λ z. ap (λ t. cond t (after_map lead ps v (bs ++ z)) (Err NoSpelling)) a.0) (completed_map v bs n a.1)

  barred : (x : Result Fields Stop) (read : List ℕ → Result Fields Stop) (n : ℕ) → cond (bars_vex lead) (Err NoSpelling) x ≡ Err (Missing n) → (x ≡ Err (Missing n) → Completed read n) → Completed (λ z. cond (bars_vex lead) (Err NoSpelling) (read z)) n
  barred x read n r h =
      let a = else_missing (bars_vex lead) x n r in
      along (λ z. cond (bars_vex lead) (Err NoSpelling) (read z)) read n (λ z. ap (λ t. cond t (Err NoSpelling) (read z)) a.0) (h a.1)

  first_completed : (s t u : Bool) (b : ℕ) (bs : List ℕ) (n : ℕ)
      → cond s (after_0f lead ps bs) (cond t (cond (bars_vex lead) (Err NoSpelling) (after_c5 lead ps bs)) (cond u (cond (bars_vex lead) (Err NoSpelling) (after_c4 lead ps bs)) (at_opcode lead ps OneByte (b ∷ bs)))) ≡ Err (Missing n)
      → Completed (λ z. cond s (after_0f lead ps (bs ++ z)) (cond t (cond (bars_vex lead) (Err NoSpelling) (after_c5 lead ps (bs ++ z))) (cond u (cond (bars_vex lead) (Err NoSpelling) (after_c4 lead ps (bs ++ z))) (at_opcode lead ps OneByte (b ∷ (bs ++ z)))))) n
  first_completed true t u b bs n r = completed_0f bs n r
  first_completed false true u b bs n r = barred (after_c5 lead ps bs) (λ z. after_c5 lead ps (bs ++ z)) n r (completed_c5 bs n)
  first_completed false false true b bs n r = barred (after_c4 lead ps bs) (λ z. after_c4 lead ps (bs ++ z)) n r (completed_c4 bs n)
  first_completed false false false b bs n r = opcode_completed OneByte (b ∷ bs) n r

-- bytes that end in prefix bytes are completed by a nop
completed_at : (ps tail : List ℕ) (n : ℕ) → list_all is_prefix ps ≡ true → Stops tail → after_prefixes (lead_of ps) ps tail ≡ Err (Missing n) → Completed (λ z. parse ((ps ++ tail) ++ z)) n
completed_at ps [] n a s r =
    counted (λ z. parse ((ps ++ []) ++ z)) 1 n (missing_is 1 n r)
    (record { more = 0x90 ∷ []; len = refl; bytes = refl; fields = _; reads = ap parse (append_assoc ps [] (0x90 ∷ [])) ∙ parse_at ps (0x90 ∷ []) a refl })
completed_at ps (b ∷ tail) n a s r =
    along (λ z. parse ((ps ++ (b ∷ tail)) ++ z)) (λ z. after_prefixes (lead_of ps) ps (b ∷ (tail ++ z))) n (λ z. ap parse (append_assoc ps (b ∷ tail) z) ∙ parse_at ps (b ∷ (tail ++ z)) a s)
    (first_completed (lead_of ps) ps (eqb b 0x0f) (eqb b 0xc5) (eqb b 0xc4) b tail n r)

-- where a reading tells n bytes missing, some n bytes more make an instruction that is read
pub parse_completed : (bs : List ℕ) (n : ℕ) → parse bs ≡ Err (Missing n) → Completed (λ z. parse (bs ++ z)) n
parse_completed bs n r =
    let d = divided bs in
    let e : after_prefixes (lead_of (prefix_run bs)) (prefix_run bs) d.tail ≡ Err (Missing n) = sym (parse_at (prefix_run bs) d.tail d.all d.stops) ∙ ap parse (sym d.split) ∙ r in
    along (λ z. parse (bs ++ z)) (λ z. parse ((prefix_run bs ++ d.tail) ++ z)) n (λ z. ap (λ y. parse (y ++ z)) d.split) (completed_at (prefix_run bs) d.tail n d.all d.stops e)
