-- An instruction with code elsewhere and a RIP operand tells its displacement.
use Rattle.std.proofs.Common.{◌≡◌, inl, inr, ℕ, zero, suc, ◌+◌, ◌/◌, ◌%◌, ◌<◌, ◌≤◌, Bool, true, false, not, ◌&&◌, ◌||◌, cond, eqb, leb, ltb, List, Option, Some, None, unwrap_or, ℤ, refl, sym, ap, ap₂, ◌∙◌, arith, true≢false}
use Rattle.std.specs.Option.{option_or}
use Rattle.std.proofs.lemmas.Bool.{and_parts, cond-true, cond-false, eqb-true, leb-true, ltb-true, ne_eqb, cases_eq}
use Rattle.std.proofs.Math.Bool.{and-false}
use Rattle.cpu_alu.specs.declared.operation.AluOp.{AluOp}
use Rattle.cpu_alu.specs.declared.operation.Width.{Width}
use Rattle.cpu_alu.specs.declared.operation.Width.TheVariants.{W64}
use Rattle.insn_tables.specs.Rows.{within, row_of}
use Rattle.length_decode.specs.declared.instruction_parts.Parts.{Parts}
use Rattle.length_decode.specs.Rules.{row_after}
use Rattle.length_decode.specs.Spelling.{Fields, IsInstruction, HasOperand, parts_of}
use Rattle.insn_form.specs.declared.form.Spot.TheVariants as spot
use Rattle.insn_form.specs.declared.template.Slot.{Slot}
use Rattle.insn_form.specs.declared.template.Slot.TheVariants.{Rm, Reg, Low, Accumulator}
use Rattle.insn_form.specs.declared.template.Source.{Source}
use Rattle.insn_form.specs.declared.template.Source.TheVariants as source
use Rattle.insn_form.specs.declared.template.Template.{Template}
use Rattle.insn_form.specs.declared.template.Template.TheVariants.{Mov, Extend, Lea, Xchg, Nop, Push, Pop, Alu, Not, Cmov, Set, JmpThrough, CallThrough, Asked, Ending}
use Rattle.insn_form.specs.Classes.{template, clashes, repeats, is_pause, is_landing, asked_one, asked_two, exact_or_asked, ends_one, ends_two, reg_of, mod_of, rex_w, rex_b, has_rip, shifted_by, mov_row, extend_one, extend_two, lea_row, xchg_row, nop_one, nop_two, unless_opsize, stack_row, two_operands, alu_row, test_row, unary_row, shift_row, condition_row, widen_row, leave_row, flag_row, branch_one, branch_two, exact_one, exact_two, one_byte, two_byte}
use Rattle.insn_form.specs.Filling.{integer_of, register, mem_form, rm_code, rm_spot, slot_spot, source_value, width_of, is_w8, filled}
use Rattle.insn_form.specs.Instruction.{insn_of}
use Rattle.insn_form.specs.Displacing.{spot_rip, value_rip, insn_rip, code_length}
use Rattle.insn_form.proofs.ConditionCodes.{cond_both}

-- a slot, a source, a template that names the operand of ModRM; what asks or ends names it too
is_rm : Slot → Bool
is_rm Rm = true
is_rm Reg = false
is_rm Low = false
is_rm Accumulator = false

source_rm : Source → Bool
source_rm (source.Slot s) = is_rm s
source_rm source.Immediate = false
source_rm (source.Constant n) = false
source_rm source.Cl = false

names_rm : Template → Bool
names_rm (Mov byte dst src) = is_rm dst || source_rm src
names_rm (Extend sign from) = true
names_rm Lea = true
names_rm (Xchg byte x y) = is_rm x
names_rm Nop = true
names_rm (Push src) = source_rm src
names_rm (Pop dst) = is_rm dst
names_rm (Alu o byte dst src keep) = is_rm dst || source_rm src
names_rm (Not byte) = true
names_rm (Cmov c) = true
names_rm (Set c) = true
names_rm JmpThrough = true
names_rm CallThrough = true
names_rm (Asked syscall copied) = true
names_rm Ending = true
names_rm t = false

row_names_rm : Option Template → Bool
row_names_rm None = true
row_names_rm (Some t) = names_rm t

-- the test of a choice is the choice of the tests
f_cond : (b : Bool) (x y : Template) → names_rm (cond b x y) ≡ cond b (names_rm x) (names_rm y)
f_cond true x y = refl
f_cond false x y = refl

o_cond : (b : Bool) (x y : Option Template) → row_names_rm (cond b x y) ≡ cond b (row_names_rm x) (row_names_rm y)
o_cond true x y = refl
o_cond false x y = refl

-- of rows one after the other, of a row or else a template, and of a choice
either : (x y : Option Template) → row_names_rm x ≡ true → row_names_rm y ≡ true → row_names_rm (option_or x y) ≡ true
unfolding row_names_rm
either None y h k = k
either (Some t) y h k = h

unwrapped : (o : Option Template) (x : Template) → row_names_rm o ≡ true → names_rm x ≡ true → names_rm (unwrap_or o x) ≡ true
unfolding row_names_rm
unwrapped None x h k = k
unwrapped (Some t) x h k = h

both : (b : Bool) (x y : Template) → (b ≡ true → names_rm x ≡ true) → names_rm y ≡ true → names_rm (cond b x y) ≡ true
both true x y h k = h refl
both false x y h k = k

o_shift : (c : Source) (b : Bool) (o : Option AluOp) → row_names_rm (shifted_by c b o) ≡ true
unfolding names_rm row_names_rm is_rm
o_shift c b None = refl
o_shift c b (Some o) = refl

-- of a choice of rows
rows_both : (b : Bool) (x y : Option Template) → (b ≡ true → row_names_rm x ≡ true) → row_names_rm y ≡ true
    → row_names_rm (cond b x y) ≡ true
rows_both true x y h k = h refl
rows_both false x y h k = k

-- a test holds of n numbers from one on
all_from : (ℕ → Bool) → ℕ → ℕ → Bool
all_from P lo zero = true
all_from P lo (suc n) = P lo && all_from P (suc lo) n

-- so it does of each of them
each : (P : ℕ → Bool) (x lo n : ℕ) → all_from P lo n ≡ true → lo ≤ x → x < lo + n → P x ≡ true
unfolding all_from
each P x lo zero e l k = absurd (omega arith)
each P x lo (suc n) e l k =
    let q = and_parts (P lo) (all_from P (suc lo) n) e in elim (cases_eq x lo) [
      | inl g ↦ ap P g ∙ q.0
      | inr g ↦ each P x (suc lo) n q.1 (omega arith) (omega arith)
    ]

-- no ModRM byte follows an opcode of a map
is_bare : ℕ → ℕ → Bool
is_bare map x = not (row_of map x).modrm

-- an opcode that a ModRM byte follows is none of those without one
module _ (map op : ℕ) (h : (row_of map op).modrm ≡ true) where
  is_not : (x : ℕ) → (row_of map x).modrm ≡ false → eqb op x ≡ false
  is_not x e = ne_eqb op x (λ g. true≢false (sym h ∙ ap (λ y. (row_of map y).modrm) g ∙ e))

  is_none_of : (lo hi n : ℕ) → hi < lo + n → all_from (is_bare map) lo n ≡ true → within lo hi op ≡ false
  unfolding is_bare
  is_none_of lo hi n l e = by_test (within lo hi op) refl
    where
      by_test : (b : Bool) → within lo hi op ≡ b → b ≡ false
      by_test false k = refl
      by_test true k =
          let q = and_parts (leb lo op) (leb op hi) k in
          let x = leb-true lo op q.0 in let y = leb-true op hi q.1 in
          absurd (true≢false (sym (each (is_bare map) op lo n e x (omega arith)) ∙ ap (λ b. not b) h))

-- of the opcodes below 0x40 one that a ModRM byte follows is no operation on the accumulator with a constant
has_operand : ℕ → Bool
has_operand x = not (row_of 0 x).modrm || (not (ltb (x % 8) 6) || ltb (x % 8) 4)

-- two facts leave the third
implied : (a b c : Bool) → (not a || (not b || c)) ≡ true → a ≡ true → b ≡ true → c ≡ true
implied true true c e h k = e
implied true false c e h k = absurd (true≢false (sym k))
implied false b c e h k = absurd (true≢false (sym h))

-- the rows of a one-byte opcode that a ModRM byte follows
module _ (op : ℕ) (h : (row_of 0 op).modrm ≡ true) where
  mov_names : (reg : ℕ) → row_names_rm (mov_row op reg) ≡ true
  unfolding names_rm row_names_rm is_rm source_rm is_bare all_from
  mov_names reg =
      simp (o_cond, cond_both, is_none_of 0 op h 0xb0 0xb7 8 (omega arith) refl, is_none_of 0 op h 0xb8 0xbf 8 (omega arith) refl) refl

  stack_names : (b : Bool) (reg : ℕ) → row_names_rm (unless_opsize b (stack_row op reg)) ≡ true
  unfolding names_rm row_names_rm is_rm source_rm is_bare all_from
  stack_names b reg =
      simp (
        o_cond,
        cond_both,
        is_none_of 0 op h 0x50 0x57 8 (omega arith) refl,
        is_none_of 0 op h 0x58 0x5f 8 (omega arith) refl,
        is_not 0 op h 0x68 refl,
        is_not 0 op h 0x6a refl,
      ) refl

  two_names : (ltb op 0x40 && ltb (op % 8) 6) ≡ true → names_rm (two_operands (op / 8) op) ≡ true
  unfolding names_rm is_rm source_rm has_operand all_from
  two_names e =
      let q = and_parts (ltb op 0x40) (ltb (op % 8) 6) e in
      let l = ltb-true op 0x40 q.0 in
      let k = implied _ (ltb (op % 8) 6) (ltb (op % 8) 4) (each has_operand op 0 64 refl (omega arith) (omega arith)) h q.1 in
      simp (f_cond, cond_both, k) refl

  alu_names : (reg : ℕ) → row_names_rm (alu_row op reg) ≡ true
  unfolding names_rm row_names_rm is_rm source_rm
  alu_names reg = rows_both (ltb op 0x40 && ltb (op % 8) 6) _ _ two_names (simp (o_cond, cond_both) refl)

  test_names : (reg : ℕ) → row_names_rm (test_row op reg) ≡ true
  unfolding names_rm row_names_rm is_rm source_rm
  test_names reg = simp (o_cond, cond_both, is_not 0 op h 0xa8 refl, is_not 0 op h 0xa9 refl) refl

  unary_names : (reg : ℕ) → row_names_rm (unary_row op reg) ≡ true
  unfolding names_rm row_names_rm is_rm source_rm
  unary_names reg = simp (o_cond, cond_both) refl

  shift_names : (reg : ℕ) → row_names_rm (shift_row op reg) ≡ true
  unfolding names_rm row_names_rm is_rm source_rm
  shift_names reg = simp (o_cond, o_shift, cond_both) refl

  extend_names : (w : ℕ) → row_names_rm (extend_one op w) ≡ true
  unfolding names_rm row_names_rm
  extend_names w = simp (o_cond, cond_both) refl

  lea_names : (mode : ℕ) → row_names_rm (lea_row op mode) ≡ true
  unfolding names_rm row_names_rm
  lea_names mode = simp (o_cond, cond_both) refl

  xchg_names : (mode b : ℕ) → eqb mode 3 ≡ false → row_names_rm (xchg_row op mode b) ≡ true
  unfolding names_rm row_names_rm is_rm source_rm is_bare all_from
  xchg_names mode b e = simp (o_cond, e, and-false, is_none_of 0 op h 0x91 0x97 7 (omega arith) refl, is_not 0 op h 0x90 refl) refl

  nop_names : (b : ℕ) → row_names_rm (nop_one op b) ≡ true
  unfolding names_rm row_names_rm
  nop_names b = simp (o_cond, cond_both) refl

  last_names : (b : Bool) → row_names_rm (option_or (widen_row op) (option_or (unless_opsize b (leave_row op)) (flag_row op))) ≡ true
  unfolding names_rm row_names_rm
  last_names b =
      either (widen_row op) _ (simp (o_cond, is_not 0 op h 0x98 refl, is_not 0 op h 0x99 refl) refl)
      (either (unless_opsize b (leave_row op)) (flag_row op) (simp (o_cond, cond_both, is_not 0 op h 0xc9 refl) refl)
      (simp (
        o_cond,
        is_not 0 op h 0xf5 refl,
        is_not 0 op h 0xf8 refl,
        is_not 0 op h 0xf9 refl,
        is_not 0 op h 0x9e refl,
        is_not 0 op h 0x9f
            refl,
      ) refl))

-- the templates of parts with a ModRM byte
module _ (p : Parts) (rip : eqb (mod_of p) 3 ≡ false) where
  branch_names : (row_of 0 p.opcode).modrm ≡ true → row_names_rm (branch_one p) ≡ true
  unfolding names_rm row_names_rm is_bare all_from
  branch_names h =
      let op = p.opcode in
      simp (
        o_cond,
        f_cond,
        cond_both,
        is_none_of 0 op h 0x70 0x7f 16 (omega arith) refl,
        is_none_of 0 op h 0xe0 0xe2 3 (omega arith) refl,
        is_not 0 op h 0xe3 refl,
        is_not 0 op h 0xe8 refl,
        is_not 0 op h 0xe9 refl,
        is_not 0 op h 0xeb refl,
        is_not 0 op h 0xc2 refl,
        is_not 0 op h 0xc3 refl,
      ) refl

  branch_two_names : (row_of 1 p.opcode).modrm ≡ true → row_names_rm (branch_two p) ≡ true
  unfolding names_rm row_names_rm is_bare all_from
  branch_two_names h = simp (is_none_of 1 p.opcode h 0x80 0x8f 16 (omega arith) refl) refl

  exact_names : (row_of 0 p.opcode).modrm ≡ true → row_names_rm (exact_one p) ≡ true
  exact_names h =
      let op = p.opcode in let reg = reg_of p in let size = p.prefixes.opsize in
      either (mov_row op reg) _ (mov_names op h reg)
      (either (extend_one op (rex_w p)) _ (extend_names op h (rex_w p))
      (either (lea_row op (mod_of p)) _ (lea_names op h (mod_of p))
      (either (xchg_row op (mod_of p) (rex_b p)) _ (xchg_names op h (mod_of p) (rex_b p) rip)
      (either (nop_one op (rex_b p)) _ (nop_names op h (rex_b p))
      (either (unless_opsize size (stack_row op reg)) _ (stack_names op h size reg)
      (either (alu_row op reg) _ (alu_names op h reg)
      (either (test_row op reg) _ (test_names op h reg)
      (either (unary_row op reg) _ (unary_names op h reg)
      (either (shift_row op reg) _ (shift_names op h reg) (last_names op h size))))))))))

  exact_two_names : row_names_rm (exact_two p) ≡ true
  unfolding names_rm row_names_rm
  exact_two_names =
      either (extend_two p.opcode p.prefixes.opsize) _ (simp (o_cond, cond_both) refl)
      (either (nop_two p.opcode) (condition_row p.opcode) (simp (o_cond, cond_both) refl) (simp (o_cond, cond_both) refl))

  chosen : (repeated nop : Bool) (exact : Option Template) (asked : Template) → row_names_rm exact ≡ true → names_rm asked ≡ true
      → names_rm (exact_or_asked repeated nop exact asked) ≡ true
  unfolding names_rm
  chosen true true exact asked h k = refl
  chosen true false exact asked h k = k
  chosen false nop exact asked h k = unwrapped exact asked h k

  one_names : (row_of 0 p.opcode).modrm ≡ true → names_rm (one_byte p) ≡ true
  unfolding names_rm
  one_names h =
      let rest = exact_or_asked (repeats p) (is_pause p) (exact_one p) (asked_one p) in
      both (ends_one p.opcode (reg_of p)) Ending (unwrap_or (branch_one p) rest) (λ e. refl)
      (unwrapped (branch_one p) rest (branch_names h) (chosen (repeats p) (is_pause p) (exact_one p) (asked_one p) (exact_names h) refl))

  two_byte_names : (row_of 1 p.opcode).modrm ≡ true → names_rm (two_byte p) ≡ true
  unfolding names_rm
  two_byte_names h =
      let rest = exact_or_asked (repeats p) (is_landing p) (exact_two p) (asked_two p) in
      both (ends_two p.opcode) Ending (unwrap_or (branch_two p) rest) (λ e. refl)
      (unwrapped (branch_two p) rest (branch_two_names h)
      (chosen (repeats p) (is_landing p) (exact_two p) (asked_two p) exact_two_names refl))

  template_names : (row_of p.map p.opcode).modrm ≡ true → names_rm (template p) ≡ true
  unfolding template names_rm
  template_names h =
      let map_is = λ (n : ℕ) (e : eqb p.map n ≡ true). ap (λ (m : ℕ). (row_of m p.opcode).modrm) (sym (eqb-true p.map n e)) ∙ h in
      both (clashes p) Ending _ (λ e. refl)
      (both (eqb p.map 0) (one_byte p) _ (λ e. one_names (map_is 0 e))
      (both (eqb p.map 1) (two_byte p) (Asked false true) (λ e. two_byte_names (map_is 1 e)) refl))

-- what is filled in for the operand of ModRM tells its displacement
register_rip : (b : Bool) (h c : ℕ) → spot_rip (cond b (spot.High h) (spot.Reg c)) ≡ None
register_rip true h c = refl
register_rip false h c = refl

module _ (p : Parts) (d imm : List ℕ) (rip : eqb (mod_of p) 3 ≡ false) (h : has_rip p ≡ true) where
  rm_rip : (byte : Bool) → spot_rip (rm_spot byte p d) ≡ Some (integer_of d)
  rm_rip byte =
      ap spot_rip (cond-false (eqb (mod_of p) 3) (register byte p (rm_code p)) (spot.Mem (mem_form p d)) rip)
      ∙ cond-true (has_rip p) (Some (integer_of d)) None h

  slot_rip : (byte : Bool) (s : Slot) → is_rm s ≡ true → spot_rip (slot_spot byte p d s) ≡ Some (integer_of d)
  unfolding is_rm
  slot_rip byte Rm e = rm_rip byte
  slot_rip byte Reg e = absurd (true≢false (sym e))
  slot_rip byte Low e = absurd (true≢false (sym e))
  slot_rip byte Accumulator e = absurd (true≢false (sym e))

  source_rip : (w : Width) (byte : Bool) (s : Source) → source_rm s ≡ true → value_rip (source_value w byte p d imm s) ≡ Some (integer_of d)
  unfolding source_rm
  source_rip w byte (source.Slot s) e = slot_rip byte s e
  source_rip w byte source.Immediate e = absurd (true≢false (sym e))
  source_rip w byte (source.Constant n) e = absurd (true≢false (sym e))
  source_rip w byte source.Cl e = absurd (true≢false (sym e))

  two_rip : (w : Width) (byte : Bool) (s : Slot) (v : Source) → (is_rm s || source_rm v) ≡ true
      → option_or (spot_rip (slot_spot byte p d s)) (value_rip (source_value w byte p d imm v)) ≡ Some (integer_of d)
  unfolding is_rm
  two_rip w byte Rm v e = ap (λ o. option_or o (value_rip (source_value w byte p d imm v))) (rm_rip byte)
  two_rip w byte Reg v e = ap₂ (λ (x y : Option ℤ). option_or x y) (register_rip _ _ _) (source_rip w byte v e)
  two_rip w byte Low v e = ap₂ (λ (x y : Option ℤ). option_or x y) (register_rip _ _ _) (source_rip w byte v e)
  two_rip w byte Accumulator v e = source_rip w byte v e

  filled_rip : (t : Template) (len n : ℕ) → names_rm t ≡ true → code_length (filled t p d imm) len ≡ Some n
      → insn_rip (filled t p d imm) ≡ Some (integer_of d)
  unfolding filled names_rm
  filled_rip (Mov byte dst src) len n e k = two_rip (width_of byte p) byte dst src e
  filled_rip (Extend sign from) len n e k = rm_rip (is_w8 from)
  filled_rip Lea len n e k = cond-true (has_rip p) (Some (integer_of d)) None h
  filled_rip (Xchg byte x y) len n e k = ap (λ o. option_or o (spot_rip (slot_spot byte p d y))) (slot_rip byte x e)
  filled_rip Nop len n e k = cond-true (has_rip p) (Some (integer_of d)) None h
  filled_rip (Push src) len n e k = source_rip W64 false src e
  filled_rip (Pop dst) len n e k = slot_rip false dst e
  filled_rip (Alu o byte dst src keep) len n e k = two_rip (width_of byte p) byte dst src e
  filled_rip (Not byte) len n e k = rm_rip byte
  filled_rip (Cmov c) len n e k = rm_rip false
  filled_rip (Set c) len n e k = rm_rip true
  filled_rip JmpThrough len n e k = rm_rip false
  filled_rip CallThrough len n e k = rm_rip false
  filled_rip (Asked syscall copied) len n e k = cond-true (has_rip p) (Some (integer_of d)) None h
  filled_rip Ending len n e k = absurd cc
  filled_rip t len n e k = absurd (true≢false (sym e))

-- a RIP operand stands behind an opcode with a ModRM byte
needs_modrm : (b : Bool) (modrm sib : Option ℕ) (disp : List ℕ) → HasOperand b modrm sib disp
    → (eqb (unwrap_or modrm 0 / 64) 0 && eqb (unwrap_or modrm 0 % 8) 5) ≡ true → b ≡ true
needs_modrm true modrm sib disp h e = refl
needs_modrm false None None disp h e = absurd cc
needs_modrm false None (Some s) disp h e = absurd h
needs_modrm false (Some m) sib disp h e = absurd h

-- the displacement of a RIP operand is told by an instruction that has code elsewhere
pub rip_told : (f : Fields) (len n : ℕ) → IsInstruction f → code_length (insn_of f) len ≡ Some n → has_rip (parts_of f) ≡ true
    → insn_rip (insn_of f) ≡ Some (integer_of f.disp)
rip_told f len n i k h =
    let p = parts_of f in
    let zero : mod_of p ≡ 0 = eqb-true (mod_of p) 0 (and_parts (eqb (mod_of p) 0) _ h).0 in
    let rip : eqb (mod_of p) 3 ≡ false = ne_eqb (mod_of p) 3 (λ e. omega (arith, zero, e)) in
    let m = needs_modrm (row_after f.escape f.opcode).modrm f.modrm f.sib f.disp i.formed.operand h in
    filled_rip p f.disp f.imm rip h (template p) len n (template_names p rip m) k
