-- The table of kinds leads, byte by byte, to what the classes say.
use Rattle.std.proofs.Common.{◌≡◌, ℕ, ◌<◌, Bool, true, false, cond, List, map, get_or, Option, Some, None, unwrap_or, refl, sym, ap, ◌∙◌, arith}
use Rattle.std.specs.List.{range_with_len}
use Rattle.std.specs.Option.{option_or}
use Rattle.std.proofs.lemmas.List.FromFn.{get_or-map-range_with_len}
use Rattle.length_decode.specs.declared.instruction_parts.Parts.{Parts}
use Rattle.insn_form.specs.declared.kinds.Kind.{Kind}
use Rattle.insn_form.specs.declared.kinds.Kind.TheVariants as kind
use Rattle.insn_form.specs.declared.kinds.TheConstants.{ONE_BYTE}
use Rattle.insn_form.specs.declared.template.Template.{Template}
use Rattle.insn_form.specs.declared.template.Template.TheVariants.{Ending}
use Rattle.insn_form.specs.Classes
use Rattle.insn_form.specs.Classes.{reg_of, mod_of, rex_b, ends_one, branch_one, xchg_row, nop_one, stack_row, unless_opsize, test_row, unary_row}
use Rattle.insn_form.specs.Kinds.{exact_by, exact_else_asked, one_byte_by}

-- the same parts with this opcode, with or without operand size
abbrev with_opcode : Bool → ℕ → Parts → Parts
with_opcode s b p = record p { opcode = b; prefixes = record p.prefixes { opsize = s } }

-- the rows of a kind in the order of the classes, each after the ones before it
abbrev rows_by : Kind → Parts → Option Template
rows_by kind.XchgOrNop p = option_or (xchg_row p.opcode (mod_of p) (rex_b p)) (option_or (nop_one p.opcode (rex_b p)) None)
rows_by kind.TestOrUnary p = option_or (test_row p.opcode (reg_of p)) (option_or (unary_row p.opcode (reg_of p)) None)
rows_by kind.Group p = option_or (unless_opsize p.prefixes.opsize (stack_row p.opcode (reg_of p))) (option_or (unary_row p.opcode (reg_of p)) None)
rows_by k p = option_or (exact_by k p) None

or_none : (x : Option Template) → option_or x None ≡ x
or_none None = refl
or_none (Some t) = refl

rows_exact : (k : Kind) (p : Parts) → rows_by k p ≡ exact_by k p
rows_exact kind.XchgOrNop p = ap (option_or (xchg_row p.opcode (mod_of p) (rex_b p))) (or_none _)
rows_exact kind.TestOrUnary p = ap (option_or (test_row p.opcode (reg_of p))) (or_none _)
rows_exact kind.Group p = ap (option_or (unless_opsize p.prefixes.opsize (stack_row p.opcode (reg_of p)))) (or_none _)
rows_exact k p = or_none (exact_by k p)

-- what the classes say at an opcode
abbrev exact_at : Bool → ℕ → Parts → Option Template
exact_at s b p = Classes.exact_one (with_opcode s b p)

-- by the table
abbrev rows_at : Bool → Kind → ℕ → Parts → Option Template
rows_at s d b p = rows_by (get_or ONE_BYTE b d) (with_opcode s b p)

exact_agree : (s : Bool) (d : Kind) → map (exact_at s) (range_with_len 0 256) ≡ map (rows_at s d) (range_with_len 0 256)
exact_agree true d = refl
exact_agree false d = refl

-- the opcodes that end the run, by the table
abbrev ends_by : Kind → ℕ → ℕ → Bool
ends_by kind.Ending op reg = true
ends_by kind.MoveConstant op reg = ends_one op reg
ends_by kind.Unary op reg = ends_one op reg
ends_by kind.Group op reg = ends_one op reg
ends_by k op reg = false

abbrev ends_at : Kind → ℕ → ℕ → Bool
ends_at d b reg = ends_by (get_or ONE_BYTE b d) b reg

ends_agree : (d : Kind) → map ends_one (range_with_len 0 256) ≡ map (ends_at d) (range_with_len 0 256)
ends_agree d = refl

-- the branches, by the table
abbrev branch_by : Kind → Parts → Option Template
branch_by kind.Branch p = branch_one p
branch_by kind.Group p = branch_one p
branch_by k p = None

abbrev branch_at : ℕ → Parts → Option Template
branch_at b p = branch_one (record p { opcode = b })

abbrev kind_branch_at : Kind → ℕ → Parts → Option Template
kind_branch_at d b p = branch_by (get_or ONE_BYTE b d) (record p { opcode = b })

branches_agree : (d : Kind) → map branch_at (range_with_len 0 256) ≡ map (kind_branch_at d) (range_with_len 0 256)
branches_agree d = refl

-- two rules that agree at each byte
same_at : {X : Type 0} (f g : ℕ → X) (b : ℕ) → map f (range_with_len 0 256) ≡ map g (range_with_len 0 256) → b < 256 → f b ≡ g b
same_at f g b e l =
    sym (get_or-map-range_with_len f 0 256 b b (f 0) l (omega arith)) ∙ ap (λ z. get_or z b (f 0)) e ∙ get_or-map-range_with_len g 0 256 b b (f 0) l (omega arith)

-- the three decide
by_kind : (k : Kind) (p : Parts) → cond (ends_by k p.opcode (reg_of p)) Ending (unwrap_or (branch_by k p) (exact_else_asked p (exact_by k p))) ≡ one_byte_by k p
by_kind kind.MoveConstant p = refl
by_kind k p = refl

-- what a one-byte opcode is by the classes, it is by its kind in the table
pub one_byte_is : (p : Parts) (table : List Kind) (i : ℕ) (d : Kind) → table ≡ ONE_BYTE → i ≡ p.opcode → p.opcode < 256 → Classes.one_byte p ≡ one_byte_by (get_or table i d) p
one_byte_is p table i d e q l =
    let k = get_or ONE_BYTE p.opcode d in
    let s = p.prefixes.opsize in
    let ends : ends_one p.opcode ≡ ends_at d p.opcode = same_at ends_one (ends_at d) p.opcode (ends_agree d) l in
    let branch : branch_at p.opcode ≡ kind_branch_at d p.opcode = same_at branch_at (kind_branch_at d) p.opcode (branches_agree d) l in
    let rows : exact_at s p.opcode ≡ rows_at s d p.opcode = same_at (exact_at s) (rows_at s d) p.opcode (exact_agree s d) l in
    let exact : Classes.exact_one p ≡ exact_by k p = ap (λ (f : Parts → Option Template). f p) rows ∙ rows_exact k p in
    (λ j. cond (ends j (reg_of p)) Ending (unwrap_or (branch j p) (exact_else_asked p (exact j)))) ∙ by_kind k p ∙ sym (λ j. one_byte_by (get_or (e j) (q j) d) p)
