-- The load of a call through an operand.
use Rattle.std.proofs.Common.{◌≡◌, ℕ, zero, suc, ◌+◌, ◌*◌, ◌/◌, ◌%◌, ◌^◌, ◌<◌, ◌≤◌, Bool, true, false, not, ◌&&◌, ◌||◌, cond, eqb, List, [], length, Option, Some, None, unwrap_or, refl, sym, ap, ap₂, ◌∙◌, arith}
use Rattle.std.specs.Prelude.{option_to_list}
use Rattle.std.specs.List.{list_all}
use Rattle.std.proofs.lemmas.Bool.{or_parts, or_from, cond-true, cond-false, eq-eqb}
use Rattle.cpu_alu.specs.declared.operation.Width.TheVariants.{W32, W64}
use Rattle.cpu_state.specs.Bytes.{advanced}
use Rattle.length_decode.specs.declared.instruction_parts.Parts.{Parts}
use Rattle.length_decode.specs.Prefix.{is_prefix, prefixes_of, rex_of, lead_of}
use Rattle.length_decode.specs.Rules.{row_after}
use Rattle.length_decode.specs.Spelling.{Fields, IsInstruction, HasOperand, spelling, parts_of, disp_at, opcode_at}
use Rattle.insn_form.specs.declared.form.Seg.TheVariants.{Plain, Fs, Gs}
use Rattle.insn_form.specs.declared.form.Spot.{Spot}
use Rattle.insn_form.specs.declared.form.Spot.TheVariants as spot
use Rattle.insn_form.specs.declared.form.Value.TheVariants as value
use Rattle.insn_form.specs.declared.form.Target.TheVariants.{Through}
use Rattle.insn_form.specs.declared.form.Op.TheVariants as op
use Rattle.insn_form.specs.declared.form.Insn.TheVariants as insn
use Rattle.insn_form.specs.declared.template.Slot.TheVariants.{Rm, Reg}
use Rattle.insn_form.specs.declared.template.Source.TheVariants as source
use Rattle.insn_form.specs.declared.template.Template.{Template}
use Rattle.insn_form.specs.declared.template.Template.TheVariants.{Mov, Ending}
use Rattle.insn_form.specs.Operands.{word_of}
use Rattle.insn_form.specs.Resolving.{resolved_mem, resolved_spot, resolved_insn}
use Rattle.insn_form.specs.Classes.{template, clashes, has_rip, mod_of, modrm_of}
use Rattle.insn_form.specs.Filling.{filled, integer_of, mem_form, rm_spot, rm_code, base_of, index_of, scale_of}
use Rattle.insn_form.specs.Instruction.{insn_of}
use Rattle.insn_form.specs.Moved.{named}
use Rattle.insn_form.proofs.SpellingSlices.{imm_ends, disp_small}
use Rattle.insn_form.proofs.TaskCopies.{mem_again, disp_names, disp_stays}
use Rattle.insn_form.proofs.CallOperands.{sib_few}
use Rattle.relocate_insn.specs.Relocating.{load_prefixes, load_modrm, load_of}
use Rattle.relocate_insn.proofs.RelocatedLengths.{moved_length, call_spot}

-- what the prefix bytes of a load say
record LoadLead (b fs gs addr : Bool) (r : ℕ) : Type 0 where
  all : list_all is_prefix (load_prefixes b fs gs addr r) ≡ true
  told : prefixes_of (load_prefixes b fs gs addr r) ≡ record
      { lock = false; repne = false; rep = false; opsize = false; addrsize = not b && addr; fs = not b && fs; gs = not b && (not fs && gs) }
  rex : rex_of (load_prefixes b fs gs addr r) ≡ 0x48 + r
  few : length (load_prefixes b fs gs addr r) ≤ 3

lead_load : (b fs gs addr : Bool) (r : ℕ) → r < 4 → LoadLead b fs gs addr r
lead_load true fs gs addr zero h = record { all = refl; told = refl; rex = refl; few = omega arith }
lead_load false true gs true zero h = record { all = refl; told = refl; rex = refl; few = omega arith }
lead_load false false true true zero h = record { all = refl; told = refl; rex = refl; few = omega arith }
lead_load false false false true zero h = record { all = refl; told = refl; rex = refl; few = omega arith }
lead_load false true gs false zero h = record { all = refl; told = refl; rex = refl; few = omega arith }
lead_load false false true false zero h = record { all = refl; told = refl; rex = refl; few = omega arith }
lead_load false false false false zero h = record { all = refl; told = refl; rex = refl; few = omega arith }
lead_load true fs gs addr (suc zero) h = record { all = refl; told = refl; rex = refl; few = omega arith }
lead_load false true gs true (suc zero) h = record { all = refl; told = refl; rex = refl; few = omega arith }
lead_load false false true true (suc zero) h = record { all = refl; told = refl; rex = refl; few = omega arith }
lead_load false false false true (suc zero) h = record { all = refl; told = refl; rex = refl; few = omega arith }
lead_load false true gs false (suc zero) h = record { all = refl; told = refl; rex = refl; few = omega arith }
lead_load false false true false (suc zero) h = record { all = refl; told = refl; rex = refl; few = omega arith }
lead_load false false false false (suc zero) h = record { all = refl; told = refl; rex = refl; few = omega arith }
lead_load true fs gs addr (suc (suc zero)) h = record { all = refl; told = refl; rex = refl; few = omega arith }
lead_load false true gs true (suc (suc zero)) h = record { all = refl; told = refl; rex = refl; few = omega arith }
lead_load false false true true (suc (suc zero)) h = record { all = refl; told = refl; rex = refl; few = omega arith }
lead_load false false false true (suc (suc zero)) h = record { all = refl; told = refl; rex = refl; few = omega arith }
lead_load false true gs false (suc (suc zero)) h = record { all = refl; told = refl; rex = refl; few = omega arith }
lead_load false false true false (suc (suc zero)) h = record { all = refl; told = refl; rex = refl; few = omega arith }
lead_load false false false false (suc (suc zero)) h = record { all = refl; told = refl; rex = refl; few = omega arith }
lead_load true fs gs addr (suc (suc (suc zero))) h = record { all = refl; told = refl; rex = refl; few = omega arith }
lead_load false true gs true (suc (suc (suc zero))) h = record { all = refl; told = refl; rex = refl; few = omega arith }
lead_load false false true true (suc (suc (suc zero))) h = record { all = refl; told = refl; rex = refl; few = omega arith }
lead_load false false false true (suc (suc (suc zero))) h = record { all = refl; told = refl; rex = refl; few = omega arith }
lead_load false true gs false (suc (suc (suc zero))) h = record { all = refl; told = refl; rex = refl; few = omega arith }
lead_load false false true false (suc (suc (suc zero))) h = record { all = refl; told = refl; rex = refl; few = omega arith }
lead_load false false false false (suc (suc (suc zero))) h = record { all = refl; told = refl; rex = refl; few = omega arith }
lead_load b fs gs addr (suc (suc (suc (suc n)))) h = absurd (omega arith)

ends_not : (t : Template) (p : Parts) (d imm : List ℕ) (s : Spot) → t ≡ Ending → filled t p d imm ≡ insn.Exact (op.Call (Through s)) → ⊥
unfolding filled
ends_not t p d imm s e h = let k : insn.Ending ≡ insn.Exact (op.Call (Through s)) = sym (ap (λ z. filled z p d imm) e) ∙ h in absurd cc

clash_ends : (p : Parts) → clashes p ≡ true → template p ≡ Ending
unfolding template
clash_ends p e = cond-true (clashes p) Ending _ e

no_clash : (p : Parts) (d imm : List ℕ) (s : Spot) → filled (template p) p d imm ≡ insn.Exact (op.Call (Through s)) → clashes p ≡ false
no_clash p d imm s h = by_clash (clashes p) refl
  where
    by_clash : (b : Bool) → clashes p ≡ b → b ≡ false
    by_clash false e = refl
    by_clash true e = absurd (ends_not (template p) p d imm s (clash_ends p e) h)

-- the parts of a load
abbrev load_parts : ℕ → ℕ → ℕ → ℕ → ℕ → Bool → Bool → Bool → ℕ → ℕ → Option ℕ → Parts
load_parts len opcode_at disp_at disp_len imm_at a b c rex m sib = record {
  len = len;
  prefixes = record { lock = false; repne = false; rep = false; opsize = false; addrsize = a; fs = b; gs = c };
  rex = rex;
  map = 0;
  opcode_at = opcode_at;
  opcode = 0x8b;
  modrm = Some m;
  sib = sib;
  disp_at = disp_at;
  disp_len = disp_len;
  imm_at = imm_at;
  imm_len = 0;
}

module _ (len opcode_at disp_at disp_len imm_at : ℕ) (sib : Option ℕ) where
  load_template : (a b c : Bool) (rex m : ℕ) → (b && c) ≡ false → (a && (eqb (m / 64) 0 && eqb (m % 8) 5)) ≡ false
      → template (load_parts len opcode_at disp_at disp_len imm_at a b c rex m sib) ≡ Mov false Reg (source.Slot Rm)
  unfolding template
  load_template a b c rex m h k = cond-false _ Ending _ (or_from (b && c) (a && (eqb (m / 64) 0 && eqb (m % 8) 5)) h k)

  load_insn : (a b c : Bool) (r m : ℕ) (d : List ℕ) → r < 4 → m / 8 % 8 ≡ 0
      → filled (Mov false Reg (source.Slot Rm)) (load_parts len opcode_at disp_at disp_len imm_at a b c (0x48 + r) m sib) d [] ≡ insn.Exact
      (op.Mov W64 (spot.Reg 0) (value.Spot (rm_spot false (load_parts len opcode_at disp_at disp_len imm_at a b c (0x48 + r) m sib) d)))
  unfolding filled
  load_insn a b c r m d h k =
      let w : cond (eqb ((0x48 + r) / 8 % 2) 1) W64 W32 ≡ W64 =
      cond-true (eqb ((0x48 + r) / 8 % 2) 1) W64 W32 (eq-eqb ((0x48 + r) / 8 % 2) 1 (omega arith)) in
      let z : m / 8 % 8 + 8 * ((0x48 + r) / 4 % 2) ≡ 0 = omega arith in
      λ j. insn.Exact (op.Mov (w j) (spot.Reg (z j))
      (value.Spot (rm_spot false (load_parts len opcode_at disp_at disp_len imm_at a b c (0x48 + r) m sib) d)))

-- the fields of ModRM
modrm_mod : (m : ℕ) → load_modrm m / 64 ≡ m / 64
modrm_mod m = omega arith

modrm_rm : (m : ℕ) → load_modrm m % 8 ≡ m % 8
modrm_rm m = omega arith

modrm_reg : (m : ℕ) → load_modrm m / 8 % 8 ≡ 0
modrm_reg m = omega arith

apart : (b fs gs : Bool) → ((not b && fs) && (not b && (not fs && gs))) ≡ false
apart true fs gs = refl
apart false true gs = refl
apart false false gs = refl

narrow : (b a h : Bool) → (a && h) ≡ false → ((not b && a) && h) ≡ false
narrow true a h e = refl
narrow false a h e = e

same_segment : (fs gs : Bool) → cond fs Fs (cond (not fs && gs) Gs Plain) ≡ cond fs Fs (cond gs Gs Plain)
same_segment true gs = refl
same_segment false gs = refl

module _ (p : Parts) (next next' : ℕ) (d d' : List ℕ)
    (t : has_rip p ≡ true → advanced next' (word_of (integer_of d')) ≡ advanced next (word_of (integer_of d)))
    (n : has_rip p ≡ false → d' ≡ d) (dl : length d' ≡ p.disp_len) (len opcode_at disp_at imm_at : ℕ) where
  abbrev loads : Bool → Parts
  loads b =
      load_parts len opcode_at disp_at (length d') imm_at (not b && p.prefixes.addrsize) (not b && p.prefixes.fs)
      (not b && (not p.prefixes.fs && p.prefixes.gs)) (0x48 + p.rex % 4) (load_modrm (modrm_of p)) p.sib

  same_rm : rm_code (loads true) ≡ rm_code p
  same_rm = omega (arith, modrm_rm (modrm_of p))

  same_rm' : rm_code (loads false) ≡ rm_code p
  same_rm' = omega (arith, modrm_rm (modrm_of p))

  same_rip : has_rip (loads false) ≡ has_rip p
  same_rip = ap₂ (λ x y. eqb x 0 && eqb y 5) (modrm_mod (modrm_of p)) (modrm_rm (modrm_of p))

  same_base : (s : Option ℕ) → base_of (loads false) s ≡ base_of p s
  same_base None = ap₂ (λ (b : Bool) (c : ℕ). cond b None (Some c)) same_rip same_rm'
  same_base (Some s) =
      let b : (0x48 + p.rex % 4) % 2 ≡ p.rex % 2 = omega arith in
      ap₂ (λ (x y : ℕ). cond (eqb x 0 && eqb (s % 8) 5) None (Some (s % 8 + 8 * y))) (modrm_mod (modrm_of p)) b

  same_index : (s : Option ℕ) → index_of (loads false) s ≡ index_of p s
  same_index None = refl
  same_index (Some s) =
      let x : (0x48 + p.rex % 4) / 2 % 2 ≡ p.rex / 2 % 2 = omega arith in
      ap (λ (y : ℕ). let code = s / 8 % 8 + 8 * y in cond (eqb code 4) None (Some code)) x

  same_form : mem_form (loads false) d' ≡ mem_form p d'
  same_form =
      let b = same_base p.sib in let x = same_index p.sib in let r = same_rip in let g = same_segment p.prefixes.fs p.prefixes.gs in
      λ j. record {
        base = b j;
        index = x j;
        scale = scale_of p.sib;
        disp = integer_of d';
        rip = r j;
        seg = g j;
        short =
            p.prefixes.addrsize;
        tail = 1 + length (option_to_list p.sib) + dl j;
      }

  same_spot : (b : Bool) → eqb (mod_of p) 3 ≡ b → resolved_spot next' (rm_spot false (loads b) d') ≡ resolved_spot next (rm_spot false p d)
  same_spot true e =
      ap (resolved_spot next') (cond-true (eqb (mod_of (loads true)) 3) (spot.Reg (rm_code (loads true)))
      (spot.Mem (mem_form (loads true) d')) (ap (λ z. eqb z 3) (modrm_mod (modrm_of p)) ∙ e))
      ∙ ap spot.Reg same_rm
      ∙ sym (ap (resolved_spot next) (cond-true (eqb (mod_of p) 3) (spot.Reg (rm_code p)) (spot.Mem (mem_form p d)) e))
  same_spot false e =
      ap (resolved_spot next') (cond-false (eqb (mod_of (loads false)) 3) (spot.Reg (rm_code (loads false)))
      (spot.Mem (mem_form (loads false) d')) (ap (λ z. eqb z 3) (modrm_mod (modrm_of p)) ∙ e))
      ∙ ap spot.Mem (ap (resolved_mem next') same_form ∙ mem_again p next next' d d' [] t n)
      ∙ sym (ap (resolved_spot next) (cond-false (eqb (mod_of p) 3) (spot.Reg (rm_code p)) (spot.Mem (mem_form p d)) e))

-- it is an instruction
operand_load : (b : Bool) (modrm sib : Option ℕ) (d new : List ℕ) → length new ≡ length d → HasOperand b modrm sib d
    → HasOperand true (Some (load_modrm (unwrap_or modrm 0))) sib new
operand_load false None None d new e h = (refl, e ∙ h)
operand_load false None (Some s) d new e h = absurd h
operand_load false (Some m) sib d new e h = absurd h
operand_load true None sib d new e h = absurd h
operand_load true (Some m) None d new e h = (
  h.0 ∙ sym (ap₂ (λ (x y : ℕ). not (eqb x 3) && eqb y 4) (modrm_mod m) (modrm_rm m)),
  e ∙ h.1 ∙ sym (ap₂ (λ (x y : ℕ). cond (eqb x 1) 1 (cond (eqb x 2 || (eqb x 0 && eqb y 5)) 4 0)) (modrm_mod m) (modrm_rm m)),
)
operand_load true (Some m) (Some s) d new e h = (
  h.0 ∙ sym (ap₂ (λ (x y : ℕ). not (eqb x 3) && eqb y 4) (modrm_mod m) (modrm_rm m)),
  e ∙ h.1 ∙ sym (ap (λ (x : ℕ). cond (eqb x 1) 1 (cond (eqb x 2 || (eqb x 0 && eqb (s % 8) 5)) 4 0)) (modrm_mod m)),
)

load_is : (f : Fields) (next next' : ℕ) → IsInstruction f → next' < 2 ^ 31 → (has_rip (parts_of f) ≡ true → named f next < 2 ^ 31)
    → LoadLead (eqb (mod_of (parts_of f)) 3) (parts_of f).prefixes.fs (parts_of f).prefixes.gs (parts_of f).prefixes.addrsize
    ((parts_of f).rex % 4)
    → length (load_of f next next').disp ≡ length f.disp → (s : Spot) → insn_of f ≡ insn.Exact (op.Call (Through s))
    → resolved_insn next' (insn_of (load_of f next next')) ≡ insn.Exact (op.Mov W64 (spot.Reg 0) (value.Spot (resolved_spot next s)))
load_is f next next' i l k lead dl s e =
    let p = parts_of f in
    let g = load_of f next next' in
    let m = modrm_of p in
    let c = eqb (mod_of p) 3 in
    let names = disp_names f next next' l k in
    let stays = disp_stays f next next' in
    let q : Parts =
    loads p next next' f.disp g.disp names stays dl (length (spelling g)) (opcode_at g) (disp_at g) (disp_at g + length g.disp) c in
    let parts : parts_of g ≡ q = λ j. record {
      len = length (spelling g);
      prefixes = lead.told j;
      rex = lead.rex j;
      map = 0;
      opcode_at = opcode_at g;
      opcode = 0x8b;
      modrm = Some (load_modrm m);
      sib = f.sib;
      disp_at = disp_at g;
      disp_len = length g.disp;
      imm_at = disp_at g + length g.disp;
      imm_len = 0;
    } in
    let clear = no_clash p f.disp f.imm s e in
    let rest =
    (or_parts (p.prefixes.fs && p.prefixes.gs) ((p.prefixes.repne && p.prefixes.rep) || (p.prefixes.addrsize && has_rip p)) clear).1 in
    let none = (or_parts (p.prefixes.repne && p.prefixes.rep) (p.prefixes.addrsize && has_rip p) rest).1 in
    let rip : (eqb (load_modrm m / 64) 0 && eqb (load_modrm m % 8) 5) ≡ has_rip p =
    ap₂ (λ (x y : ℕ). eqb x 0 && eqb y 5) (modrm_mod m) (modrm_rm m) in
    let free : ((not c && p.prefixes.addrsize) && (eqb (load_modrm m / 64) 0 && eqb (load_modrm m % 8) 5)) ≡ false =
    narrow c p.prefixes.addrsize _ (ap (λ h. p.prefixes.addrsize && h) rip ∙ none) in
    let t : template q ≡ Mov false Reg (source.Slot Rm) =
    load_template (length (spelling g)) (opcode_at g) (disp_at g) (length g.disp) (disp_at g + length g.disp) f.sib _ _ _
    (0x48 + p.rex % 4) (load_modrm m) (apart c p.prefixes.fs p.prefixes.gs) free in
    ap (λ (z : Parts). resolved_insn next' (filled (template z) z g.disp [])) parts
    ∙ ap (λ (z : Template). resolved_insn next' (filled z q g.disp [])) t
    ∙ ap (resolved_insn next') (load_insn (length (spelling g)) (opcode_at g) (disp_at g) (length g.disp) (disp_at g + length g.disp) f.sib
    _ _ _ (p.rex % 4) (load_modrm m) g.disp (omega arith) (modrm_reg m))
    ∙ ap (λ (z : Spot). insn.Exact (op.Mov W64 (spot.Reg 0) (value.Spot z)))
    (same_spot p next next' f.disp g.disp names stays dl (length (spelling g)) (opcode_at g) (disp_at g) (disp_at g + length g.disp) c
    refl ∙ ap (resolved_spot next) (call_spot (template p) p f.disp f.imm s e))

-- g takes into rax where a call through an operand goes to
pub record IsLoad (f : Fields) (next : ℕ) (g : Fields) (next' : ℕ) : Type 0 where
  pub is : IsInstruction g
  pub loads : (s : Spot) → insn_of f ≡ insn.Exact (op.Call (Through s))
      → resolved_insn next' (insn_of g) ≡ insn.Exact (op.Mov W64 (spot.Reg 0) (value.Spot (resolved_spot next s)))

-- the load of a call's operand is an instruction that takes into rax where the call goes to
pub load_works : (f : Fields) (next next' : ℕ) → IsInstruction f → next' < 2 ^ 31 → (has_rip (parts_of f) ≡ true → named f next < 2 ^ 31)
    → IsLoad f next (load_of f next next') next'
load_works f next next' i l k =
    let p = parts_of f in
    let g = load_of f next next' in
    let r = p.rex % 4 in
    let m = modrm_of p in
    let lead = lead_load (eqb (mod_of p) 3) p.prefixes.fs p.prefixes.gs p.prefixes.addrsize r (omega arith) in
    let dl = moved_length f next next' i in record {
      is = record {
        formed = record {
          prefixes = lead.all;
          escape = refl;
          opcode = refl;
          known = refl;
          modrm = ap (λ (n : ℕ). (eqb n 0 || true) && not (((eqb n 2 || eqb n 4) && false) && (lead_of g.prefixes).prefixes.opsize))
              (modrm_reg m);
          operand = operand_load (row_after f.escape f.opcode).modrm f.modrm f.sib f.disp g.disp dl i.formed.operand;
          imm = refl;
        };
        short = omega (arith, imm_ends g, lead.few, sib_few f.sib, dl, disp_small f i);
      };
      loads = λ s e. load_is f next next' i l k lead dl s e;
    }
