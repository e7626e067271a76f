-- How many bytes relocated code has.
use Rattle.std.proofs.Common.{◌≡◌, ℕ, ◌+◌, ◌/◌, ◌%◌, Bool, true, false, cond, eqb, List, [], ◌∷◌, ◌++◌, length, Option, Some, None, unwrap_or, option_to_list, length-append, refl, sym, ap, ◌∙◌, arith}
use Rattle.std.proofs.lemmas.Grind.{common_steps}
use Rattle.length_decode.specs.declared.instruction_parts.Parts.{Parts}
use Rattle.length_decode.specs.Rules.{row_after}
use Rattle.length_decode.specs.Spelling.{Fields, IsInstruction, HasOperand, spelling, disp_at, parts_of}
use Rattle.insn_form.specs.declared.form.Seg.TheVariants.{Plain, Fs, Gs}
use Rattle.insn_form.specs.declared.form.Spot.{Spot}
use Rattle.insn_form.specs.declared.form.Spot.TheVariants as spot
use Rattle.insn_form.specs.declared.form.Target.TheVariants.{Rel, Through}
use Rattle.insn_form.specs.declared.form.Op.TheVariants as op
use Rattle.insn_form.specs.declared.form.Insn.{Insn}
use Rattle.insn_form.specs.declared.form.Insn.TheVariants.{Exact, Asked, Ending}
use Rattle.insn_form.specs.declared.template.Template.{Template}
use Rattle.insn_form.specs.declared.template.Template.TheVariants.{CallThrough}
use Rattle.insn_form.specs.Classes.{template, has_rip, mod_of, modrm_of}
use Rattle.insn_form.specs.Filling.{filled, mem_form, rm_code, rm_spot}
use Rattle.insn_form.specs.Instruction.{insn_of}
use Rattle.insn_form.specs.Displacing.{prefix_count, load_length, code_length}
use Rattle.insn_form.proofs.SpellingSlices.{imm_ends}
use Rattle.relocate_insn.specs.Pieces.{ecx_code}
use Rattle.relocate_insn.specs.Relocating.{moved_disp, copy_of, memory_prefixes, load_modrm, load_bytes, load_of, load_size, through_code, asked_code, relocated_by, relocated_code}
use Rattle.insn_form.proofs.SpellingSlices.{rip_disp}
use Rattle.insn_form.specs.Moved.{rel_bytes, named, moved_fields}

-- a displacement keeps its length
pub moved_length : (f : Fields) (next after : ℕ) → IsInstruction f → length (moved_disp f next after) ≡ length f.disp
moved_length f next after i = by_rip (has_rip (parts_of f)) refl
  where
    by_rip : (b : Bool) → has_rip (parts_of f) ≡ b → length (cond b (rel_bytes after (named f next)) f.disp) ≡ length f.disp
    by_rip true e = sym (rip_disp f i e)
    by_rip false e = refl

-- the copy of an instruction has as many bytes as its spelling
pub copy_length : (f : Fields) (next place : ℕ) → IsInstruction f → length (copy_of f next place) ≡ length (spelling f)
copy_length f next place i =
    let g = moved_fields f next (place + length (spelling f)) in
    sym (imm_ends g) ∙ ap (λ n. disp_at f + n + length f.imm) (moved_length f next (place + length (spelling f)) i) ∙ imm_ends f

-- behind ModRM of a register stands neither SIB nor displacement
bare_by : (needed : Bool) (modrm sib : Option ℕ) (disp : List ℕ) → HasOperand needed modrm sib disp → eqb (unwrap_or modrm 0 / 64) 3 ≡ true → length (option_to_list sib) + length disp ≡ 0
bare_by false None None disp h t = absurd cc
bare_by false None (Some s) disp h t = absurd h
bare_by false (Some m) sib disp h t = absurd h
bare_by true None sib disp h t = absurd h
bare_by true (Some m) None disp h t = let e = h.1 in grind arith
bare_by true (Some m) (Some s) disp h t = let e = h.0 in absurd (grind arith)

load_long_by : (b : Bool) (fs gs addr : Bool) (low m : ℕ) (sib disp : List ℕ) (n : ℕ) → length disp ≡ n → (b ≡ true → length sib + n ≡ 0)
    → length (((cond b [] (memory_prefixes fs gs addr)) ++ (low ∷ [])) ++ (0x8b ∷ m ∷ (sib ++ (disp ++ [])))) ≡ cond b 3 (3 + length (memory_prefixes fs gs addr) + length sib + n)
load_long_by true fs gs addr low m sib disp n e h = let k = h refl in grind (arith, common_steps)
load_long_by false fs gs addr low m sib disp n e h = grind (arith, common_steps)

-- the load of a call's operand has the length that the parts tell
pub load_long : (f : Fields) (next after : ℕ) → IsInstruction f → length (spelling (load_of f next after)) ≡ load_bytes (parts_of f)
load_long f next after i =
    let p = parts_of f in
    load_long_by (eqb (mod_of p) 3) p.prefixes.fs p.prefixes.gs p.prefixes.addrsize (0x48 + p.rex % 4) (load_modrm (modrm_of p)) (option_to_list f.sib) (moved_disp f next after) (length f.disp) (moved_length f next after i) (bare_by (row_after f.escape f.opcode).modrm f.modrm f.sib f.disp i.formed.operand)

-- the operand of a call is the one that ModRM names
pub call_spot : (t : Template) (p : Parts) (d imm : List ℕ) (s : Spot) → filled t p d imm ≡ Exact (op.Call (Through s)) → rm_spot false p d ≡ s
unfolding filled
call_spot CallThrough p d imm s h = cc
call_spot t p d imm s h = absurd cc

prefixes_long : (fs gs addr : Bool) → prefix_count (cond fs Fs (cond gs Gs Plain)) addr ≡ length (memory_prefixes fs gs addr)
prefixes_long true gs true = refl
prefixes_long true gs false = refl
prefixes_long false true true = refl
prefixes_long false true false = refl
prefixes_long false false true = refl
prefixes_long false false false = refl

-- and its load has as many bytes as the table says
spot_long : (b : Bool) (p : Parts) (d : List ℕ) → load_length (cond b (spot.Reg (rm_code p)) (spot.Mem (mem_form p d))) ≡ cond b 3 (3 + length (memory_prefixes p.prefixes.fs p.prefixes.gs p.prefixes.addrsize) + length (option_to_list p.sib) + p.disp_len)
spot_long true p d = refl
spot_long false p d = let e = prefixes_long p.prefixes.fs p.prefixes.gs p.prefixes.addrsize in omega arith

through_long : (p : ℕ) (load : List ℕ) (next : ℕ) → length (through_code p load next) ≡ 36 + length load
through_long p load next = grind (arith, common_steps)

asked_long : (copied syscall : Bool) (copy : List ℕ) (next len n : ℕ) → length copy ≡ len → cond copied (Some (cond syscall (len + 5) len)) None ≡ Some n → length (asked_code syscall copy next) ≡ n
asked_long true true copy next len n e h = let k : len + 5 ≡ n = cc in length-append copy (ecx_code next) ∙ ap (λ z. z + 5) e ∙ k
asked_long true false copy next len n e h = let k : len ≡ n = cc in e ∙ k
asked_long false syscall copy next len n e h = absurd cc

-- code has the length that the table of lengths gives
module _ (f : Fields) (p next place n : ℕ) (i : IsInstruction f) where
  of_insn : (x : Insn) → x ≡ insn_of f → code_length x (length (spelling f)) ≡ Some n → length (relocated_by x p f next place) ≡ n
  of_insn (Exact (op.Jcc c rel)) e h = cc
  of_insn (Exact (op.Loop kind rel short)) e h = absurd cc
  of_insn (Exact (op.Jmp (Rel rel))) e h = cc
  of_insn (Exact (op.Jmp (Through s))) e h = let k : length (spelling f) ≡ n = cc in copy_length f next place i ∙ k
  of_insn (Exact (op.Call (Rel rel))) e h = cc
  of_insn (Exact (op.Call (Through s))) e h =
      let k : 36 + load_length s ≡ n = cc in
      let q = parts_of f in
      let l = ap load_length (sym (call_spot (template q) q f.disp f.imm s (sym e))) ∙ spot_long (eqb (mod_of q) 3) q f.disp in
      through_long p (spelling (load_of f next (place + 8 + load_size f next))) next ∙ ap (λ z. 36 + z) (load_long f next (place + 8 + load_size f next) i ∙ sym l) ∙ k
  of_insn (Exact o) e h = let k : length (spelling f) ≡ n = cc in copy_length f next place i ∙ k
  of_insn (Asked form) e h = asked_long form.copied form.syscall (copy_of f next place) next (length (spelling f)) n (copy_length f next place i) h
  of_insn Ending e h = absurd cc

  -- relocated code has as many bytes as the table of lengths says
  pub relocated_long : code_length (insn_of f) (length (spelling f)) ≡ Some n → length (relocated_code p f next place) ≡ n
  relocated_long h = of_insn (insn_of f) refl h
