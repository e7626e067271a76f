-- Which rows of the tables of classes decide, by the kind of a one-byte opcode. Contracts of private functions alone cite it.
use Rattle.std.specs.Prelude.{if◌then◌else◌, Option, None, unwrap_or}
use Rattle.std.specs.Option.{option_or}
use Rattle.length_decode.specs.declared.instruction_parts.Parts.{Parts}
use Rattle.insn_form.specs.declared.kinds.Kind.{Kind}
use Rattle.insn_form.specs.declared.kinds.Kind.TheVariants as kind
use Rattle.insn_form.specs.declared.template.Template.{Template}
use Rattle.insn_form.specs.declared.template.Template.TheVariants.{Ending}
use Rattle.insn_form.specs.Classes.{reg_of, mod_of, rex_w, rex_b, ends_one, branch_one, mov_row, extend_one, lea_row, xchg_row, nop_one, stack_row, unless_opsize, alu_row, test_row, unary_row, shift_row, widen_row, leave_row, flag_row, repeats, is_pause, asked_one, exact_or_asked}

-- the exact instruction of a kind, if it is one
abbrev pub exact_by : Kind → Parts → Option Template
exact_by kind.Move p = mov_row p.opcode (reg_of p)
exact_by kind.MoveConstant p = mov_row p.opcode (reg_of p)
exact_by kind.Extend p = extend_one p.opcode (rex_w p)
exact_by kind.Lea p = lea_row p.opcode (mod_of p)
exact_by kind.Xchg p = xchg_row p.opcode (mod_of p) (rex_b p)
exact_by kind.XchgOrNop p = option_or (xchg_row p.opcode (mod_of p) (rex_b p)) (nop_one p.opcode (rex_b p))
exact_by kind.Stack p = unless_opsize p.prefixes.opsize (stack_row p.opcode (reg_of p))
exact_by kind.Alu p = alu_row p.opcode (reg_of p)
exact_by kind.Test p = test_row p.opcode (reg_of p)
exact_by kind.TestOrUnary p = option_or (test_row p.opcode (reg_of p)) (unary_row p.opcode (reg_of p))
exact_by kind.Unary p = unary_row p.opcode (reg_of p)
exact_by kind.Group p = option_or (unless_opsize p.prefixes.opsize (stack_row p.opcode (reg_of p))) (unary_row p.opcode (reg_of p))
exact_by kind.Shift p = shift_row p.opcode (reg_of p)
exact_by kind.Widen p = widen_row p.opcode
exact_by kind.Leave p = unless_opsize p.prefixes.opsize (leave_row p.opcode)
exact_by kind.Flag p = flag_row p.opcode
exact_by kind.Ending p = None
exact_by kind.Branch p = None
exact_by kind.Asked p = None

-- an exact instruction, or one that F0, F2 or F3 makes asked
abbrev pub exact_else_asked : Parts → Option Template → Template
exact_else_asked p exact = exact_or_asked (repeats p) (is_pause p) exact (asked_one p)

-- what an instruction is by the kind of its opcode
abbrev pub one_byte_by : Kind → Parts → Template
one_byte_by kind.Ending p = Ending
one_byte_by kind.Branch p = unwrap_or (branch_one p) (exact_else_asked p None)
one_byte_by kind.MoveConstant p = if ends_one p.opcode (reg_of p) then Ending else exact_else_asked p (exact_by kind.MoveConstant p)
one_byte_by kind.Unary p = if ends_one p.opcode (reg_of p) then Ending else exact_else_asked p (exact_by kind.Unary p)
one_byte_by kind.Group p =
    if ends_one p.opcode (reg_of p) then Ending else unwrap_or (branch_one p) (exact_else_asked p (exact_by kind.Group p))
one_byte_by k p = exact_else_asked p (exact_by k p)
