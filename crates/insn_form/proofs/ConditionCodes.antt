-- The condition code of each conditional branch is one of sixteen.
use Rattle.std.proofs.Common.{◌≡◌, ℕ, ◌%◌, Bool, true, false, cond, ltb, List, Option, Some, None, unwrap_or, ◌==◌, refl, arith}
use Rattle.std.specs.Option.{option_or}
use Rattle.std.proofs.lemmas.Bool.{lt-ltb}
use Rattle.cpu_alu.specs.declared.operation.AluOp.{AluOp}
use Rattle.length_decode.specs.declared.instruction_parts.Parts.{Parts}
use Rattle.length_decode.specs.Spelling.{parts_of}
use Rattle.insn_form.specs.declared.template.Source.{Source}
use Rattle.insn_form.specs.declared.template.Template.{Template}
use Rattle.insn_form.specs.declared.template.Template.TheVariants.{Mov, Jcc, Asked, Ending}
use Rattle.insn_form.specs.Classes.{template, clashes, repeats, is_pause, is_landing, asked_one, asked_two, exact_or_asked, ends_one, ends_two, reg_of, mod_of, rex_w, rex_b, shifted_by, mov_row, extend_one, extend_two, lea_row, xchg_row, nop_one, nop_two, unless_opsize, stack_row, alu_row, test_row, unary_row, shift_row, condition_row, widen_row, leave_row, flag_row, branch_one, branch_two, exact_one, exact_two, one_byte, two_byte}
use Rattle.insn_form.specs.Filling.{filled}
use Rattle.insn_form.specs.Displacing.{has_condition, HasConditionCode}

-- a template that has such a code, if it has one
fine : Template → Bool
fine (Jcc c) = ltb c 16
fine (Mov byte dst src) = true
fine t = true

fine_or_none : Option Template → Bool
fine_or_none None = true
fine_or_none (Some t) = fine t

f_cond : (b : Bool) (x y : Template) → fine (cond b x y) ≡ cond b (fine x) (fine y)
f_cond true x y = refl
f_cond false x y = refl

o_cond : (b : Bool) (x y : Option Template) → fine_or_none (cond b x y) ≡ cond b (fine_or_none x) (fine_or_none y)
o_cond true x y = refl
o_cond false x y = refl

-- What holds in both cases holds.
pub cond_both : (b : Bool) → cond b true true ≡ true
cond_both true = refl
cond_both false = refl

low : (n : ℕ) → ltb (n % 16) 16 ≡ true
low n = lt-ltb (n % 16) 16 (omega arith)

branch_fine : (p : Parts) → fine_or_none (branch_one p) ≡ true
unfolding fine fine_or_none
branch_fine p = simp (o_cond, f_cond, low, cond_both) refl

branch_two_fine : (p : Parts) → fine_or_none (branch_two p) ≡ true
unfolding fine fine_or_none
branch_two_fine p = simp (o_cond, f_cond, low, cond_both) refl

o_shift : (c : Source) (b : Bool) (o : Option AluOp) → fine_or_none (shifted_by c b o) ≡ true
unfolding fine fine_or_none
o_shift c b None = refl
o_shift c b (Some o) = refl

either : (x y : Option Template) → fine_or_none x ≡ true → fine_or_none y ≡ true → fine_or_none (option_or x y) ≡ true
unfolding fine_or_none
either None y h k = k
either (Some t) y h k = h

unwrapped : (o : Option Template) (x : Template) → fine_or_none o ≡ true → fine x ≡ true → fine (unwrap_or o x) ≡ true
unfolding fine_or_none
unwrapped None x h k = k
unwrapped (Some t) x h k = h

both : (b : Bool) (x y : Template) → fine x ≡ true → fine y ≡ true → fine (cond b x y) ≡ true
both true x y h k = h
both false x y h k = k

module _ (op reg : ℕ) where
  mov_fine : fine_or_none (mov_row op reg) ≡ true
  unfolding fine fine_or_none
  mov_fine = simp (o_cond, cond_both) refl

  stack_fine : (b : Bool) → fine_or_none (unless_opsize b (stack_row op reg)) ≡ true
  unfolding fine fine_or_none
  stack_fine b = simp (o_cond, cond_both) refl

  alu_fine : fine_or_none (alu_row op reg) ≡ true
  unfolding fine fine_or_none
  alu_fine = simp (o_cond, f_cond, cond_both) refl

  test_fine : fine_or_none (test_row op reg) ≡ true
  unfolding fine fine_or_none
  test_fine = simp (o_cond, cond_both) refl

  unary_fine : fine_or_none (unary_row op reg) ≡ true
  unfolding fine fine_or_none
  unary_fine = simp (o_cond, cond_both) refl

  shift_fine : fine_or_none (shift_row op reg) ≡ true
  unfolding fine fine_or_none
  shift_fine = simp (o_cond, o_shift, cond_both) refl

  extend_fine : (w : ℕ) → fine_or_none (extend_one op w) ≡ true
  unfolding fine fine_or_none
  extend_fine w = simp (o_cond, cond_both) refl

  lea_fine : (mode : ℕ) → fine_or_none (lea_row op mode) ≡ true
  unfolding fine fine_or_none
  lea_fine mode = simp (o_cond, cond_both) refl

  xchg_fine : (mode b : ℕ) → fine_or_none (xchg_row op mode b) ≡ true
  unfolding fine fine_or_none
  xchg_fine mode b = simp (o_cond, cond_both) refl

  nop_fine : (b : ℕ) → fine_or_none (nop_one op b) ≡ true
  unfolding fine fine_or_none
  nop_fine b = simp (o_cond, cond_both) refl

  last_fine : (b : Bool) → fine_or_none (option_or (widen_row op) (option_or (unless_opsize b (leave_row op)) (flag_row op))) ≡ true
  unfolding fine fine_or_none
  last_fine b = either (widen_row op) _ (simp (o_cond, cond_both) refl) (either (unless_opsize b (leave_row op)) (flag_row op) (simp (o_cond, cond_both) refl) (simp (o_cond, cond_both) refl))

exact_fine : (p : Parts) → fine_or_none (exact_one p) ≡ true
exact_fine p =
    let op = p.opcode in let reg = reg_of p in let size = p.prefixes.opsize in
    either (mov_row op reg) _ (mov_fine op reg)
    (either (extend_one op (rex_w p)) _ (extend_fine op reg (rex_w p))
    (either (lea_row op (mod_of p)) _ (lea_fine op reg (mod_of p))
    (either (xchg_row op (mod_of p) (rex_b p)) _ (xchg_fine op reg (mod_of p) (rex_b p))
    (either (nop_one op (rex_b p)) _ (nop_fine op reg (rex_b p))
    (either (unless_opsize size (stack_row op reg)) _ (stack_fine op reg size)
    (either (alu_row op reg) _ (alu_fine op reg)
    (either (test_row op reg) _ (test_fine op reg)
    (either (unary_row op reg) _ (unary_fine op reg)
    (either (shift_row op reg) _ (shift_fine op reg) (last_fine op reg size))))))))))

exact_two_fine : (p : Parts) → fine_or_none (exact_two p) ≡ true
unfolding fine fine_or_none
exact_two_fine p =
    either (extend_two p.opcode p.prefixes.opsize) _ (simp (o_cond, cond_both) refl)
    (either (nop_two p.opcode) (condition_row p.opcode) (simp (o_cond, cond_both) refl) (simp (o_cond, cond_both) refl))

chosen : (repeated nop : Bool) (exact : Option Template) (asked : Template) → fine_or_none exact ≡ true → fine asked ≡ true → fine (exact_or_asked repeated nop exact asked) ≡ true
unfolding fine
chosen true true exact asked h k = refl
chosen true false exact asked h k = k
chosen false nop exact asked h k = unwrapped exact asked h k

one_fine : (p : Parts) → fine (one_byte p) ≡ true
unfolding fine
one_fine p =
    let rest = exact_or_asked (repeats p) (is_pause p) (exact_one p) (asked_one p) in
    both (ends_one p.opcode (reg_of p)) Ending (unwrap_or (branch_one p) rest) refl (unwrapped (branch_one p) rest (branch_fine p) (chosen (repeats p) (is_pause p) (exact_one p) (asked_one p) (exact_fine p) refl))

two_fine : (p : Parts) → fine (two_byte p) ≡ true
unfolding fine
two_fine p =
    let rest = exact_or_asked (repeats p) (is_landing p) (exact_two p) (asked_two p) in
    both (ends_two p.opcode) Ending (unwrap_or (branch_two p) rest) refl (unwrapped (branch_two p) rest (branch_two_fine p) (chosen (repeats p) (is_landing p) (exact_two p) (asked_two p) (exact_two_fine p) refl))

template_fine : (p : Parts) → fine (template p) ≡ true
unfolding template fine
template_fine p = both (clashes p) Ending _ refl (both (p.map == 0) (one_byte p) _ (one_fine p) (both (p.map == 1) (two_byte p) (Asked false true) (two_fine p) refl))

filled_code : (t : Template) (p : Parts) (d imm : List ℕ) → fine t ≡ true → has_condition (filled t p d imm) ≡ true
unfolding filled fine
filled_code (Jcc cc') p d imm h = h
filled_code t p d imm h = refl

-- the condition code of each conditional branch is below sixteen
pub condition_code : HasConditionCode
condition_code f = filled_code (template (parts_of f)) (parts_of f) f.disp f.imm (template_fine (parts_of f))
