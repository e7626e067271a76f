-- What is read is spelled so.
use Rattle.std.proofs.Common.{◌≡◌, ℕ, ◌+◌, ◌%◌, Bool, true, false, ◌&&◌, not, cond, eqb, ltb, List, [], ◌∷◌, ◌++◌, length, take, drop, Option, Some, None, is_some, option_to_list, Result, Ok, Err, refl, sym, ap, ◌∙◌, subst, arith, append_assoc, ltb-false, eqb-true}
use Rattle.std.proofs.lemmas.List.{take-append-drop, length-take, length-drop, drop_at}
use Rattle.std.specs.List.{list_all}
use Rattle.insn_tables.specs.Rows.{within}
use Rattle.insn_tables.specs.declared.table_row.Imm.{Imm}
use Rattle.insn_tables.specs.declared.table_row.TableRow.{TableRow}
use Rattle.length_decode.specs.declared.prefix_bytes.Lead.{Lead}
use Rattle.length_decode.specs.declared.escape_bytes.Escape.{Escape}
use Rattle.length_decode.specs.declared.escape_bytes.Escape.TheVariants.{OneByte, TwoByte, Byte38, Byte3A, Vex2, Vex3}
use Rattle.length_decode.specs.declared.field_bytes.Stop.{Stop}
use Rattle.length_decode.specs.declared.field_bytes.Stop.TheVariants.{NoSpelling}
use Rattle.length_decode.specs.Prefix.{is_prefix, lead_of}
use Rattle.length_decode.specs.Rules.{escape_bytes, row_after, bars_vex, allows_escape, allows_opcode, allows_modrm, reg_bits, needs_sib, disp_size, imm_size}
use Rattle.length_decode.specs.Spelling.{Fields, spelling, HasOperand, allows_operand, reg_of, IsFormed}
use Rattle.length_decode.specs.Parse.{opening, with_tail, with_base, with_modrm, with_row, at_opcode, after_0f, after_c5, after_map, after_c4, after_prefixes, prefix_run, parse}
use Rattle.length_decode.proofs.SpelledFields.{made, operand_bytes, body, Stops}

-- a choice whose other case stops took its first case, if it came to Ok
pub ok_then : (b : Bool) (x : Result Fields Stop) (s : Stop) (g : Fields) → cond b x (Err s) ≡ Ok g → (b ≡ true) × (x ≡ Ok g)
ok_then true x s g e = (refl, e)
ok_then false x s g e = absurd cc

-- a choice whose first case stops took its other case, if it came to Ok
pub ok_else : (b : Bool) (x : Result Fields Stop) (s : Stop) (g : Fields) → cond b (Err s) x ≡ Ok g → (b ≡ false) × (x ≡ Ok g)
ok_else false x s g e = (refl, e)
ok_else true x s g e = absurd cc

ok_is : (f g : Fields) → (let r : Result Fields Stop = Ok f in r) ≡ Ok g → f ≡ g
ok_is f g e = let h : f ≡ g = cc in h

-- the displacement and the immediate that were taken off
record TailTaken (f : Fields) (d n : ℕ) (bs : List ℕ) (g : Fields) : Type 0 where
  disp : List ℕ
  imm : List ℕ
  rest : List ℕ
  is : (record f { disp = disp; imm = imm }) ≡ g
  disp_len : length disp ≡ d
  imm_len : length imm ≡ n
  split : bs ≡ (disp ++ imm) ++ rest

tail_takes : (f : Fields) (d n : ℕ) (bs : List ℕ) (g : Fields) → with_tail f d n bs ≡ Ok g → TailTaken f d n bs g
tail_takes f d n bs g e =
    let k = ok_else (ltb (length bs) (d + n)) _ _ g e in
    let long = ltb-false (length bs) (d + n) k.0 in
    record {
      disp = take d bs;
      imm = take n (drop d bs);
      rest = drop n (drop d bs);
      is = ok_is _ g k.1;
      disp_len = omega (arith, length-take d bs);
      imm_len = omega (arith, length-take n (drop d bs), length-drop d bs);
      split = simp (append_assoc, take-append-drop);
    }

-- what was taken off after the ModRM byte
record OperandTaken (ps : List ℕ) (e : Escape) (op m n : ℕ) (bs : List ℕ) (g : Fields) : Type 0 where
  sib : Option ℕ
  disp : List ℕ
  imm : List ℕ
  rest : List ℕ
  is : made ps e op (Some m) sib disp imm ≡ g
  has : is_some sib ≡ needs_sib m
  disp_len : length disp ≡ disp_size m sib
  imm_len : length imm ≡ n
  split : bs ≡ (option_to_list sib ++ (disp ++ imm)) ++ rest

base_takes : (ps : List ℕ) (e : Escape) (op m n : ℕ) (bs : List ℕ) (g : Fields) → needs_sib m ≡ true → with_base (made ps e op (Some m) None [] []) m n bs ≡ Ok g → OperandTaken ps e op m n bs g
base_takes ps e op m n [] g h k = absurd cc
base_takes ps e op m n (s ∷ bs) g h k =
    let t = tail_takes (made ps e op (Some m) (Some s) [] []) (disp_size m (Some s)) n bs g k in
    record { sib = Some s; disp = t.disp; imm = t.imm; rest = t.rest; is = t.is; has = sym h; disp_len = t.disp_len; imm_len = t.imm_len; split = ap (λ z. s ∷ z) t.split }

sib_cases : (b : Bool) (ps : List ℕ) (e : Escape) (op m n : ℕ) (bs : List ℕ) (g : Fields) → needs_sib m ≡ b
    → cond b (with_base (made ps e op (Some m) None [] []) m n bs) (with_tail (made ps e op (Some m) None [] []) (disp_size m None) n bs) ≡ Ok g → OperandTaken ps e op m n bs g
sib_cases true ps e op m n bs g h k = base_takes ps e op m n bs g h k
sib_cases false ps e op m n bs g h k =
    let t = tail_takes (made ps e op (Some m) None [] []) (disp_size m None) n bs g k in
    record { sib = None; disp = t.disp; imm = t.imm; rest = t.rest; is = t.is; has = sym h; disp_len = t.disp_len; imm_len = t.imm_len; split = t.split }

-- what was taken off after the opcode
record RowTaken (lead : Lead) (ps : List ℕ) (e : Escape) (op : ℕ) (row : TableRow) (bs : List ℕ) (g : Fields) : Type 0 where
  modrm : Option ℕ
  sib : Option ℕ
  disp : List ℕ
  imm : List ℕ
  rest : List ℕ
  is : made ps e op modrm sib disp imm ≡ g
  known : row.known ≡ true
  allowed : allows_operand lead e op modrm ≡ true
  operand : HasOperand row.modrm modrm sib disp
  imm_len : length imm ≡ imm_size lead row.imm (reg_of modrm)
  split : bs ≡ operand_bytes modrm sib disp imm ++ rest

modrm_takes : (lead : Lead) (ps : List ℕ) (e : Escape) (op : ℕ) (known b : Bool) (k : Imm) (bs : List ℕ) (g : Fields) → known ≡ true → b ≡ true → with_modrm lead (opening ps e op) k bs ≡ Ok g
    → RowTaken lead ps e op (record { known = known; modrm = b; imm = k }) bs g
modrm_takes lead ps e op known b k [] g h i r = absurd cc
modrm_takes lead ps e op known false k (m ∷ bs) g h i r = absurd cc
modrm_takes lead ps e op known true k (m ∷ bs) g h i r =
    let a = ok_then (allows_modrm lead e op m) _ _ g r in
    let t = sib_cases (needs_sib m) ps e op m (imm_size lead k (reg_bits m)) bs g refl a.1 in
    record { modrm = Some m; sib = t.sib; disp = t.disp; imm = t.imm; rest = t.rest; is = t.is; known = h; allowed = a.0; operand = (t.has, t.disp_len); imm_len = t.imm_len; split = ap (λ z. m ∷ z) t.split }

row_cases : (lead : Lead) (ps : List ℕ) (e : Escape) (op : ℕ) (b known : Bool) (k : Imm) (bs : List ℕ) (g : Fields) → known ≡ true → cond b (with_modrm lead (opening ps e op) k bs) (with_tail (opening ps e op) 0 (imm_size lead k 0) bs) ≡ Ok g
    → RowTaken lead ps e op (record { known = known; modrm = b; imm = k }) bs g
row_cases lead ps e op true known k bs g h r = modrm_takes lead ps e op known true k bs g h refl r
row_cases lead ps e op false known k bs g h r =
    let t = tail_takes (opening ps e op) 0 (imm_size lead k 0) bs g r in
    record { modrm = None; sib = None; disp = t.disp; imm = t.imm; rest = t.rest; is = t.is; known = h; allowed = refl; operand = t.disp_len; imm_len = t.imm_len; split = t.split }

row_takes : (lead : Lead) (ps : List ℕ) (e : Escape) (op : ℕ) (row : TableRow) (bs : List ℕ) (g : Fields) → with_row lead (opening ps e op) row bs ≡ Ok g → RowTaken lead ps e op row bs g
row_takes lead ps e op row bs g r =
    let a = ok_then row.known _ _ g r in
    row_cases lead ps e op row.modrm row.known row.imm bs g a.0 a.1

-- what was taken off after the prefixes, and after the opcode bytes before the last
pub record BodyTaken (ps : List ℕ) (bs : List ℕ) (g : Fields) : Type 0 where
  pub fine : IsFormed g
  pub prefixes : g.prefixes ≡ ps
  pub rest : List ℕ
  pub split : bs ≡ body g ++ rest

module _ (ps : List ℕ) (all : list_all is_prefix ps ≡ true) where
  opcode_takes : (e : Escape) (bs : List ℕ) (g : Fields) → allows_escape (lead_of ps) e ≡ true → at_opcode (lead_of ps) ps e bs ≡ Ok g → BodyTaken ps (escape_bytes e ++ bs) g
  opcode_takes e [] g h r = absurd cc
  opcode_takes e (op ∷ bs) g h r =
      let a = ok_then (allows_opcode (lead_of ps) e op) _ _ g r in
      let t = row_takes (lead_of ps) ps e op (row_after e op) bs g a.1 in
      let whole : escape_bytes e ++ (op ∷ bs) ≡ body (made ps e op t.modrm t.sib t.disp t.imm) ++ t.rest =
      ap (λ z. escape_bytes e ++ (op ∷ z)) t.split ∙ sym (append_assoc (escape_bytes e) (op ∷ operand_bytes t.modrm t.sib t.disp t.imm) t.rest) in
      subst (λ (z : Fields). BodyTaken ps (escape_bytes e ++ (op ∷ bs)) z) t.is
      (record {
        fine = record { prefixes = all; escape = h; opcode = a.0; known = t.known; modrm = t.allowed; operand = t.operand; imm = t.imm_len };
        prefixes = refl;
        rest = t.rest;
        split = whole;
      })

  second_takes : (s t : Bool) (b : ℕ) (bs : List ℕ) (g : Fields) → eqb b 0x38 ≡ s → eqb b 0x3a ≡ t
      → cond s (at_opcode (lead_of ps) ps Byte38 bs) (cond t (at_opcode (lead_of ps) ps Byte3A bs) (at_opcode (lead_of ps) ps TwoByte (b ∷ bs))) ≡ Ok g → BodyTaken ps (0x0f ∷ (b ∷ bs)) g
  second_takes true t b bs g p q r = subst (λ (z : ℕ). BodyTaken ps (0x0f ∷ (z ∷ bs)) g) (sym (eqb-true b 0x38 p)) (opcode_takes Byte38 bs g refl r)
  second_takes false true b bs g p q r = subst (λ (z : ℕ). BodyTaken ps (0x0f ∷ (z ∷ bs)) g) (sym (eqb-true b 0x3a q)) (opcode_takes Byte3A bs g refl r)
  second_takes false false b bs g p q r = opcode_takes TwoByte (b ∷ bs) g refl r

  takes_0f : (bs : List ℕ) (g : Fields) → after_0f (lead_of ps) ps bs ≡ Ok g → BodyTaken ps (0x0f ∷ bs) g
  takes_0f [] g r = absurd cc
  takes_0f (b ∷ bs) g r = second_takes (eqb b 0x38) (eqb b 0x3a) b bs g refl refl r

  takes_c5 : (bs : List ℕ) (g : Fields) → bars_vex (lead_of ps) ≡ false → after_c5 (lead_of ps) ps bs ≡ Ok g → BodyTaken ps (0xc5 ∷ bs) g
  takes_c5 [] g h r = absurd cc
  takes_c5 (v ∷ bs) g h r = opcode_takes (Vex2 v) bs g (ap not h) r

  takes_map : (v : ℕ) (bs : List ℕ) (g : Fields) → bars_vex (lead_of ps) ≡ false → within 1 3 (v % 32) ≡ true → after_map (lead_of ps) ps v bs ≡ Ok g → BodyTaken ps (0xc4 ∷ (v ∷ bs)) g
  takes_map v [] g h w r = absurd cc
  takes_map v (x ∷ bs) g h w r = opcode_takes (Vex3 v x) bs g (ap (λ t. not t && within 1 3 (v % 32)) h ∙ w) r

  takes_c4 : (bs : List ℕ) (g : Fields) → bars_vex (lead_of ps) ≡ false → after_c4 (lead_of ps) ps bs ≡ Ok g → BodyTaken ps (0xc4 ∷ bs) g
  takes_c4 [] g h r = absurd cc
  takes_c4 (v ∷ bs) g h r = let a = ok_then (within 1 3 (v % 32)) _ _ g r in takes_map v bs g h a.0 a.1

  first_takes : (s t u : Bool) (b : ℕ) (bs : List ℕ) (g : Fields) → eqb b 0x0f ≡ s → eqb b 0xc5 ≡ t → eqb b 0xc4 ≡ u
      → cond s (after_0f (lead_of ps) ps bs) (cond t (cond (bars_vex (lead_of ps)) (Err NoSpelling) (after_c5 (lead_of ps) ps bs)) (cond u (cond (bars_vex (lead_of ps)) (Err NoSpelling) (after_c4 (lead_of ps) ps bs)) (at_opcode (lead_of ps) ps OneByte (b ∷ bs)))) ≡ Ok g
      → BodyTaken ps (b ∷ bs) g
  first_takes true t u b bs g p q w r = subst (λ (z : ℕ). BodyTaken ps (z ∷ bs) g) (sym (eqb-true b 0x0f p)) (takes_0f bs g r)
  first_takes false true u b bs g p q w r =
      let a = ok_else (bars_vex (lead_of ps)) _ _ g r in
      subst (λ (z : ℕ). BodyTaken ps (z ∷ bs) g) (sym (eqb-true b 0xc5 q)) (takes_c5 bs g a.0 a.1)
  first_takes false false true b bs g p q w r =
      let a = ok_else (bars_vex (lead_of ps)) _ _ g r in
      subst (λ (z : ℕ). BodyTaken ps (z ∷ bs) g) (sym (eqb-true b 0xc4 w)) (takes_c4 bs g a.0 a.1)
  first_takes false false false b bs g p q w r = opcode_takes OneByte (b ∷ bs) g refl r

  -- what is read behind the prefixes is formed, has these prefixes, and is spelled at the front of the bytes
  pub body_takes : (bs : List ℕ) (g : Fields) → after_prefixes (lead_of ps) ps bs ≡ Ok g → BodyTaken ps bs g
  body_takes [] g r = absurd cc
  body_takes (b ∷ bs) g r = first_takes (eqb b 0x0f) (eqb b 0xc5) (eqb b 0xc4) b bs g refl refl refl r

-- bytes are prefix bytes and a rest that begins with none
pub record Divided (bs : List ℕ) : Type 0 where
  pub tail : List ℕ
  pub split : bs ≡ prefix_run bs ++ tail
  pub all : list_all is_prefix (prefix_run bs) ≡ true
  pub stops : Stops tail

longer : (b : ℕ) (bs : List ℕ) (t : Bool) → is_prefix b ≡ t → Divided bs → Divided (b ∷ bs)
longer b bs true e d =
    let run : prefix_run (b ∷ bs) ≡ b ∷ prefix_run bs = ap (λ t. cond t (b ∷ prefix_run bs) []) e in
    record {
      tail = d.tail;
      split = ap (λ z. b ∷ z) d.split ∙ ap (λ z. z ++ d.tail) (sym run);
      all = ap (list_all is_prefix) run ∙ ap (λ t. t && list_all is_prefix (prefix_run bs)) e ∙ d.all;
      stops = d.stops;
    }
longer b bs false e d =
    let run : prefix_run (b ∷ bs) ≡ [] = ap (λ t. cond t (b ∷ prefix_run bs) []) e in
    record { tail = b ∷ bs; split = ap (λ z. z ++ (b ∷ bs)) (sym run); all = ap (list_all is_prefix) run; stops = e }

-- each list of bytes divides into the prefix bytes at its front and a rest that begins with none
pub divided : (bs : List ℕ) → Divided bs
divided [] = record { tail = []; split = refl; all = refl; stops = tt }
divided (b ∷ bs) = longer b bs (is_prefix b) refl (divided bs)

-- what was taken off
pub record Taken (bs : List ℕ) (g : Fields) : Type 0 where
  pub fine : IsFormed g
  pub prefixes : g.prefixes ≡ prefix_run bs
  pub rest : List ℕ
  pub split : bs ≡ spelling g ++ rest

-- what is read is formed, and is spelled at the front of the bytes
pub parse_takes : (bs : List ℕ) (g : Fields) → parse bs ≡ Ok g → Taken bs g
parse_takes bs g e =
    let d = divided bs in
    let at : drop (length (prefix_run bs)) bs ≡ d.tail = ap (drop (length (prefix_run bs))) d.split ∙ drop_at (prefix_run bs) d.tail (length (prefix_run bs)) refl in
    let r : after_prefixes (lead_of (prefix_run bs)) (prefix_run bs) d.tail ≡ Ok g = ap (after_prefixes (lead_of (prefix_run bs)) (prefix_run bs)) (sym at) ∙ e in
    let t = body_takes (prefix_run bs) d.all d.tail g r in
    record {
      fine = t.fine;
      prefixes = t.prefixes;
      rest = t.rest;
      split = d.split ∙ ap (λ z. prefix_run bs ++ z) t.split ∙ ap (λ z. z ++ (body g ++ t.rest)) (sym t.prefixes) ∙ sym (append_assoc g.prefixes (body g) t.rest);
    }
