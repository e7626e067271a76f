-- What is spelled is read so.
use Rattle.std.proofs.Common.{◌≡◌, ℕ, ◌+◌, Bool, true, false, ◌&&◌, not, cond, ltb, List, [], ◌∷◌, ◌++◌, length, take, drop, Option, Some, None, is_some, option_to_list, Ok, refl, sym, ap, ◌∙◌, arith, append_assoc, length-append, true≢false, le-ltb}
use Rattle.std.proofs.lemmas.List.{take_at, drop_at}
use Rattle.std.specs.List.{list_all}
use Rattle.std.proofs.lemmas.Bool.{not-true}
use Rattle.insn_tables.specs.declared.table_row.Imm.{Imm}
use Rattle.insn_tables.specs.declared.table_row.TableRow.{TableRow}
use Rattle.length_decode.specs.declared.prefix_bytes.Lead.{Lead}
use Rattle.length_decode.specs.declared.escape_bytes.Escape.{Escape}
use Rattle.length_decode.specs.declared.escape_bytes.Escape.TheVariants.{OneByte, TwoByte, Byte38, Byte3A, Vex2, Vex3}
use Rattle.length_decode.specs.Prefix.{is_prefix, lead_of}
use Rattle.length_decode.specs.Rules.{escape_bytes, row_after, bars_vex, reg_bits, needs_sib, disp_size, imm_size}
use Rattle.length_decode.specs.Spelling.{Fields, spelling, HasOperand, allows_operand, reg_of, IsFormed}
use Rattle.length_decode.specs.Parse.{opening, with_tail, with_sib, with_row, at_opcode, after_prefixes, prefix_run, parse}
use Rattle.length_decode.proofs.MapOpcodes.{one_byte_prefix, one_byte_escape, two_byte_escape}

-- the fields one by one
abbrev pub made : List ℕ → Escape → ℕ → Option ℕ → Option ℕ → List ℕ → List ℕ → Fields
made ps e op modrm sib disp imm = record { prefixes = ps; escape = e; opcode = op; modrm = modrm; sib = sib; disp = disp; imm = imm }

-- the bytes from the ModRM byte on
abbrev pub operand_bytes : Option ℕ → Option ℕ → List ℕ → List ℕ → List ℕ
operand_bytes modrm sib disp imm = option_to_list modrm ++ (option_to_list sib ++ (disp ++ imm))

tail_again : (f : Fields) (disp imm rest : List ℕ) (d n : ℕ) → length disp ≡ d → length imm ≡ n → with_tail f d n ((disp ++ imm) ++ rest) ≡ Ok (record f { disp = disp; imm = imm })
tail_again f disp imm rest d n p q =
    let long : ltb (length ((disp ++ imm) ++ rest)) (d + n) ≡ false = le-ltb _ _ (omega (arith, length-append (disp ++ imm) rest, length-append disp imm)) in
    let t : take d ((disp ++ imm) ++ rest) ≡ disp = rw append_assoc (take_at disp (imm ++ rest) d p) in
    let r : drop d ((disp ++ imm) ++ rest) ≡ imm ++ rest = rw append_assoc (drop_at disp (imm ++ rest) d p) in
    rw (long, t, r, take_at imm rest n q) refl

sib_again : (ps : List ℕ) (e : Escape) (op m n : ℕ) (sib : Option ℕ) (disp imm rest : List ℕ) → is_some sib ≡ needs_sib m → length disp ≡ disp_size m sib → length imm ≡ n
    → with_sib (made ps e op (Some m) None [] []) m n ((option_to_list sib ++ (disp ++ imm)) ++ rest) ≡ Ok (made ps e op (Some m) sib disp imm)
sib_again ps e op m n None disp imm rest s d i = rw (sym s) (tail_again (made ps e op (Some m) None [] []) disp imm rest (disp_size m None) n d i)
sib_again ps e op m n (Some b) disp imm rest s d i = rw (sym s) (tail_again (made ps e op (Some m) (Some b) [] []) disp imm rest (disp_size m (Some b)) n d i)

row_again : (lead : Lead) (ps : List ℕ) (e : Escape) (op : ℕ) (b : Bool) (k : Imm) (modrm sib : Option ℕ) (disp imm rest : List ℕ) → HasOperand b modrm sib disp → allows_operand lead e op modrm ≡ true
    → length imm ≡ imm_size lead k (reg_of modrm) → with_row lead (opening ps e op) (record { known = true; modrm = b; imm = k }) (operand_bytes modrm sib disp imm ++ rest) ≡ Ok (made ps e op modrm sib disp imm)
row_again lead ps e op false k None None [] imm rest h a i = tail_again (opening ps e op) [] imm rest 0 (imm_size lead k 0) refl i
row_again lead ps e op false k None None (x ∷ disp) imm rest h a i = absurd (omega arith)
row_again lead ps e op false k None (Some s) disp imm rest h a i = absurd h
row_again lead ps e op false k (Some m) sib disp imm rest h a i = absurd h
row_again lead ps e op true k None sib disp imm rest h a i = absurd h
row_again lead ps e op true k (Some m) sib disp imm rest h a i = rw a (sib_again ps e op m (imm_size lead k (reg_bits m)) sib disp imm rest h.0 h.1 i)

known_again : (lead : Lead) (ps : List ℕ) (e : Escape) (op : ℕ) (t : TableRow) (modrm sib : Option ℕ) (disp imm rest : List ℕ) → t.known ≡ true → HasOperand t.modrm modrm sib disp → allows_operand lead e op modrm ≡ true
    → length imm ≡ imm_size lead t.imm (reg_of modrm) → with_row lead (opening ps e op) t (operand_bytes modrm sib disp imm ++ rest) ≡ Ok (made ps e op modrm sib disp imm)
known_again lead ps e op t modrm sib disp imm rest k h a i = rw k (row_again lead ps e op t.modrm t.imm modrm sib disp imm rest h a i)

opcode_again : (f : Fields) (rest : List ℕ) → IsFormed f → at_opcode (lead_of f.prefixes) f.prefixes f.escape ((f.opcode ∷ operand_bytes f.modrm f.sib f.disp f.imm) ++ rest) ≡ Ok f
opcode_again f rest h =
    rw (h.opcode) (known_again (lead_of f.prefixes) f.prefixes f.escape f.opcode (row_after f.escape f.opcode) f.modrm f.sib f.disp f.imm rest h.known h.operand h.modrm h.imm)

-- the bytes after the prefixes
abbrev pub body : Fields → List ℕ
body f = escape_bytes f.escape ++ (f.opcode ∷ operand_bytes f.modrm f.sib f.disp f.imm)

both : (a b : Bool) → (not a && b) ≡ true → (a ≡ false) × (b ≡ true)
both true b e = absurd (true≢false (sym e))
both false b e = (refl, e)

escape_again : (e : Escape) (ps : List ℕ) (op : ℕ) (modrm sib : Option ℕ) (disp imm rest : List ℕ) → let f = made ps e op modrm sib disp imm in IsFormed f → after_prefixes (lead_of ps) ps (body f ++ rest) ≡ Ok f
escape_again OneByte ps op modrm sib disp imm rest h =
    let n = one_byte_escape op h.known in
    rw (n.0, n.1, n.2) (opcode_again (made ps OneByte op modrm sib disp imm) rest h)
escape_again TwoByte ps op modrm sib disp imm rest h =
    let n = two_byte_escape op h.known in
    rw (n.0, n.1) (opcode_again (made ps TwoByte op modrm sib disp imm) rest h)
escape_again Byte38 ps op modrm sib disp imm rest h = opcode_again (made ps Byte38 op modrm sib disp imm) rest h
escape_again Byte3A ps op modrm sib disp imm rest h = opcode_again (made ps Byte3A op modrm sib disp imm) rest h
escape_again (Vex2 v) ps op modrm sib disp imm rest h = rw (not-true (bars_vex (lead_of ps)) h.escape) (opcode_again (made ps (Vex2 v) op modrm sib disp imm) rest h)
escape_again (Vex3 v w) ps op modrm sib disp imm rest h =
    let n = both (bars_vex (lead_of ps)) _ h.escape in
    rw (n.0, n.1) (opcode_again (made ps (Vex3 v w) op modrm sib disp imm) rest h)

-- the bytes begin with no prefix byte
abbrev pub Stops : List ℕ → Type 0
Stops [] = Unit {0}
Stops (b ∷ bs) = is_prefix b ≡ false

run_at : (ps tail : List ℕ) → list_all is_prefix ps ≡ true → Stops tail → prefix_run (ps ++ tail) ≡ ps
run_at [] [] a s = refl
run_at [] (b ∷ bs) a s = ap (λ t. cond t (b ∷ prefix_run bs) []) s
run_at (p ∷ ps) tail a s = elim (is_prefix p) as (λ t. (t && list_all is_prefix ps) ≡ true → cond t (p ∷ prefix_run (ps ++ tail)) [] ≡ p ∷ ps) [ true ↦ λ h. ap (λ z. p ∷ z) (run_at ps tail h s) | false ↦ λ h. absurd (true≢false (sym h)) ] a

-- prefix bytes in front of a rest that begins with none are read as the prefixes, and then the rest
pub parse_at : (ps tail : List ℕ) → list_all is_prefix ps ≡ true → Stops tail → parse (ps ++ tail) ≡ after_prefixes (lead_of ps) ps tail
parse_at ps tail a s = rw (run_at ps tail a s, drop_at ps tail (length ps) refl) refl

stops_body : (e : Escape) (ps : List ℕ) (op : ℕ) (modrm sib : Option ℕ) (disp imm rest : List ℕ) → let f = made ps e op modrm sib disp imm in IsFormed f → Stops (body f ++ rest)
stops_body OneByte ps op modrm sib disp imm rest h = one_byte_prefix op h.known
stops_body TwoByte ps op modrm sib disp imm rest h = refl
stops_body Byte38 ps op modrm sib disp imm rest h = refl
stops_body Byte3A ps op modrm sib disp imm rest h = refl
stops_body (Vex2 v) ps op modrm sib disp imm rest h = refl
stops_body (Vex3 v w) ps op modrm sib disp imm rest h = refl

-- a spelling followed by anything is read back
pub parse_again : (f : Fields) (rest : List ℕ) → IsFormed f → parse (spelling f ++ rest) ≡ Ok f
parse_again f rest h =
    let split : spelling f ++ rest ≡ f.prefixes ++ (body f ++ rest) = append_assoc f.prefixes (body f) rest in
    ap parse split ∙ parse_at f.prefixes (body f ++ rest) h.prefixes (stops_body f.escape f.prefixes f.opcode f.modrm f.sib f.disp f.imm rest h)
    ∙ escape_again f.escape f.prefixes f.opcode f.modrm f.sib f.disp f.imm rest h
