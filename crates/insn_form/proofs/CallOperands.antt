-- The operand of a call takes six bytes at most.
use Rattle.std.proofs.Common.{ℕ, ◌≤◌, Bool, true, false, cond, eqb, List, length, Option, Some, None, option_to_list, sym, subst, arith}
use Rattle.length_decode.specs.declared.instruction_parts.Parts.{Parts}
use Rattle.length_decode.specs.Spelling.{parts_of}
use Rattle.insn_form.specs.declared.form.Spot.TheVariants as spot
use Rattle.insn_form.specs.declared.form.Insn.{Insn}
use Rattle.insn_form.specs.declared.template.Template.{Template}
use Rattle.insn_form.specs.declared.template.Template.TheVariants.{CallThrough}
use Rattle.insn_form.specs.Classes.{template, mod_of}
use Rattle.insn_form.specs.Filling.{filled, mem_form, rm_code, tail_of}
use Rattle.insn_form.specs.Displacing.{IsSpelledBy, spot_tail, insn_tail}
use Rattle.insn_form.proofs.SpellingSlices.{disp_small}

spot_few : (b : Bool) (p : Parts) (d : List ℕ) (n : ℕ) → tail_of p ≤ n → spot_tail (cond b (spot.Reg (rm_code p)) (spot.Mem (mem_form p d))) ≤ n
spot_few true p d n h = omega arith
spot_few false p d n h = h

filled_few : (t : Template) (p : Parts) (d imm : List ℕ) (n : ℕ) → tail_of p ≤ n → insn_tail (filled t p d imm) ≤ n
unfolding filled
filled_few CallThrough p d imm n h = spot_few (eqb (mod_of p) 3) p d n h
filled_few t p d imm n h = omega arith

-- There is one SIB at most.
pub sib_few : (o : Option ℕ) → length (option_to_list o) ≤ 1
sib_few None = omega arith
sib_few (Some s) = omega arith

-- ModRM, SIB and displacement of a call's operand are at most six bytes
pub tail_few : (i : Insn) (len : ℕ) → IsSpelledBy i len → insn_tail i ≤ 6
tail_few i len h =
    let f = h.fields in
    let p = parts_of f in
    let few : tail_of p ≤ 6 = omega (arith, sib_few f.sib, disp_small f h.is) in
    subst (λ z. insn_tail z ≤ 6) (sym h.insn) (filled_few (template p) p f.disp f.imm 6 few)
