-- The copy of an instruction is the same task.
use Rattle.std.proofs.Common.{◌≡◌, ◌⊎◌, inl, inr, ℕ, ◌+◌, ◌-◌, ◌/◌, ◌%◌, ◌^◌, ◌<◌, ◌≤◌, Bool, true, false, not, ◌&&◌, cond, eqb, List, [], ◌∷◌, length, Option, Some, None, ℤ, pos, refl, sym, ap, ◌∙◌, arith, true≢false}
use Rattle.std.specs.Prelude.{unwrap_or}
use Rattle.std.proofs.lemmas.Nat.{from_le_bytes-to_le_bytes_4}
use Rattle.std.proofs.lemmas.Bool.{and_parts, and_right, ne_eqb, cond-true, cond-false, eqb-true}
use Rattle.std.proofs.lemmas.Int.{ints}
use Rattle.std.specs.Int.{cast_signed, to_le_bytes, w32}
use Rattle.cpu_state.specs.Bytes.{advanced}
use Rattle.cpu_state.specs.declared.world.Question.{Question}
use Rattle.length_decode.specs.declared.instruction_parts.Parts.{Parts}
use Rattle.length_decode.specs.Rules.{row_after}
use Rattle.length_decode.specs.Spelling.{Fields, IsInstruction, HasOperand, spelling, parts_of, disp_at}
use Rattle.insn_form.specs.declared.form.Seg.{Seg}
use Rattle.insn_form.specs.declared.form.MemForm.{MemForm}
use Rattle.insn_form.specs.declared.form.Spot.{Spot}
use Rattle.insn_form.specs.declared.form.Spot.TheVariants as spot
use Rattle.insn_form.specs.declared.form.Value.TheVariants as value
use Rattle.insn_form.specs.declared.form.Target.TheVariants.{Through}
use Rattle.insn_form.specs.declared.form.Op.TheVariants as op
use Rattle.insn_form.specs.declared.form.Insn.TheVariants as insn
use Rattle.insn_form.specs.declared.template.Slot.{Slot}
use Rattle.insn_form.specs.declared.template.Slot.TheVariants.{Rm, Reg, Low, Accumulator}
use Rattle.insn_form.specs.declared.template.Source.{Source}
use Rattle.insn_form.specs.declared.template.Source.TheVariants as source
use Rattle.insn_form.specs.declared.template.Template.{Template}
use Rattle.insn_form.specs.declared.template.Template.TheVariants.{Mov, Extend, Lea, Xchg, Nop, Push, Pop, Alu, Not, Cmov, Set, Widen, Leave, Cmc, Clc, Stc, Sahf, Lahf, Jcc, Loop, Jmp, JmpThrough, Call, CallThrough, Ret, Asked, Ending}
use Rattle.cpu_alu.specs.declared.operation.Width.{Width}
use Rattle.cpu_alu.specs.declared.operation.Width.TheVariants.{W64}
use Rattle.insn_form.specs.Operands.{word_of}
use Rattle.insn_form.specs.Resolving.{resolved_mem, resolved_spot, resolved_value, resolved_insn}
use Rattle.insn_form.specs.Classes.{template, has_rip, mod_of}
use Rattle.insn_form.specs.Filling.{integer_of, register, rm_code, reg_code, low_code, mem_form, rm_spot, slot_spot, source_value, width_of, operand_width, is_w8, filled, base_of, index_of, scale_of, segment, tail_of}
use Rattle.insn_form.specs.Instruction.{insn_of}
use Rattle.insn_form.specs.Step.{question_of}
use Rattle.insn_form.proofs.SpellingSlices.{imm_ends}
use Rattle.insn_form.specs.Moved.{direct_target, rel_bytes, named, moved_fields, IsSameTask}

-- a number of 32 bits, taken with its sign, is itself as a word below 2^31, and from there on has ones above it
pub low_word : (n : ℕ) → n < 2 ^ 32 → ((n < 2 ^ 31) × (word_of (cast_signed w32 n) ≡ n)) ⊎ ((2 ^ 31 ≤ n) × (word_of (cast_signed w32 n) ≡ n + (2 ^ 64 - 2 ^ 32)))
low_word n l = grind (arith, ints)

leads : (next target n : ℕ) → next < 2 ^ 31 → target < 2 ^ 31 → n ≡ (target + 2 ^ 32 - next) % 2 ^ 32 → ((n < 2 ^ 31) × (word_of (cast_signed w32 n) ≡ n)) ⊎ ((2 ^ 31 ≤ n) × (word_of (cast_signed w32 n) ≡ n + (2 ^ 64 - 2 ^ 32))) → advanced next (word_of (cast_signed w32 n)) ≡ target
leads next target n l k e (inl q) = ap (λ w. advanced next w) q.1 ∙ omega arith
leads next target n l k e (inr q) = ap (λ w. advanced next w) q.1 ∙ omega arith

-- the four bytes of a number below 2^32 are read as that number with its sign
pub four_signed : (n : ℕ) → n < 2 ^ 32 → integer_of (to_le_bytes w32 n) ≡ cast_signed w32 n
four_signed n h = ap (cast_signed w32) (from_le_bytes-to_le_bytes_4 n h)

-- the four bytes made for a target lead to it from the next address, where both lie below 2^31
pub names_it : (next target : ℕ) → next < 2 ^ 31 → target < 2 ^ 31 → advanced next (word_of (integer_of (rel_bytes next target))) ≡ target
names_it next target l k =
    ap (λ z. advanced next (word_of z)) (four_signed ((target + 2 ^ 32 - next) % 2 ^ 32) (omega arith))
    ∙ leads next target _ l k refl (low_word ((target + 2 ^ 32 - next) % 2 ^ 32) (omega arith))

-- operands with other displacements
same_mem : (b : Bool) (base index : Option ℕ) (scale : ℕ) (seg : Seg) (short : Bool) (tail next next' : ℕ) (z z' : ℤ) → (b ≡ true → advanced next' (word_of z') ≡ advanced next (word_of z)) → (b ≡ false → z' ≡ z)
    → resolved_mem next' (record { base = base; index = index; scale = scale; disp = z'; rip = b; seg = seg; short = short; tail = tail }) ≡ resolved_mem next (record { base = base; index = index; scale = scale; disp = z; rip = b; seg = seg; short = short; tail = tail })
same_mem true base index scale seg short tail next next' z z' f g = let e = f refl in λ i. record { base = base; index = index; scale = scale; disp = pos (e i); rip = false; seg = seg; short = short; tail = tail }
same_mem false base index scale seg short tail next next' z z' f g = let e = g refl in λ i. record { base = base; index = index; scale = scale; disp = e i; rip = false; seg = seg; short = short; tail = tail }

register_again : (b : Bool) (h c next : ℕ) → resolved_spot next (cond b (spot.High h) (spot.Reg c)) ≡ cond b (spot.High h) (spot.Reg c)
register_again true h c next = refl
register_again false h c next = refl

module _ (p : Parts) (next next' : ℕ) (d d' imm : List ℕ) (t : has_rip p ≡ true → advanced next' (word_of (integer_of d')) ≡ advanced next (word_of (integer_of d))) (n : has_rip p ≡ false → d' ≡ d) where
  -- where both displacements name one address by RIP, or else are equal, both make one memory operand
  pub mem_again : resolved_mem next' (mem_form p d') ≡ resolved_mem next (mem_form p d)
  mem_again = same_mem (has_rip p) (base_of p p.sib) (index_of p p.sib) (scale_of p.sib) (segment p) p.prefixes.addrsize (tail_of p) next next' (integer_of d) (integer_of d') t (λ e. ap integer_of (n e))

  registers_again : (byte : Bool) (code : ℕ) → resolved_spot next' (register byte p code) ≡ resolved_spot next (register byte p code)
  registers_again byte code = register_again _ (code - 4) code next' ∙ sym (register_again _ (code - 4) code next)

  either_again : (b : Bool) (r : Spot) (m m' : MemForm) → resolved_spot next' r ≡ resolved_spot next r → resolved_mem next' m' ≡ resolved_mem next m → resolved_spot next' (cond b r (spot.Mem m')) ≡ resolved_spot next (cond b r (spot.Mem m))
  either_again true r m m' e f = e
  either_again false r m m' e f = ap spot.Mem f

  spot_again : (byte : Bool) → resolved_spot next' (rm_spot byte p d') ≡ resolved_spot next (rm_spot byte p d)
  spot_again byte = either_again (eqb (mod_of p) 3) (register byte p (rm_code p)) (mem_form p d) (mem_form p d') (registers_again byte (rm_code p)) mem_again

  slot_again : (byte : Bool) (s : Slot) → resolved_spot next' (slot_spot byte p d' s) ≡ resolved_spot next (slot_spot byte p d s)
  slot_again byte Rm = spot_again byte
  slot_again byte Reg = registers_again byte (reg_code p)
  slot_again byte Low = registers_again byte (low_code p)
  slot_again byte Accumulator = refl

  source_again : (w : Width) (byte : Bool) (s : Source) → resolved_value next' (source_value w byte p d' imm s) ≡ resolved_value next (source_value w byte p d imm s)
  source_again w byte (source.Slot s) = ap value.Spot (slot_again byte s)
  source_again w byte source.Immediate = refl
  source_again w byte (source.Constant k) = refl
  source_again w byte source.Cl = refl

  filled_again : (x : Template) → direct_target (filled x p d imm) ≡ None → resolved_insn next' (filled x p d' imm) ≡ resolved_insn next (filled x p d imm)
  unfolding filled
  filled_again (Mov byte dst src) h = let a = slot_again byte dst in let b = source_again (width_of byte p) byte src in λ i. insn.Exact (op.Mov (width_of byte p) (a i) (b i))
  filled_again (Extend sign from) h = let a = spot_again (is_w8 from) in λ i. insn.Exact (op.Extend sign from (operand_width p) (reg_code p) (a i))
  filled_again Lea h = let a = mem_again in λ i. insn.Exact (op.Lea (operand_width p) (reg_code p) (a i))
  filled_again (Xchg byte x y) h = let a = slot_again byte x in let b = slot_again byte y in λ i. insn.Exact (op.Xchg (width_of byte p) (a i) (b i))
  filled_again Nop h = refl
  filled_again (Push src) h = let b = source_again W64 false src in λ i. insn.Exact (op.Push (b i))
  filled_again (Pop dst) h = let a = slot_again false dst in λ i. insn.Exact (op.Pop (a i))
  filled_again (Alu o byte dst src keep) h = let a = slot_again byte dst in let b = source_again (width_of byte p) byte src in λ i. insn.Exact (op.Alu o (width_of byte p) (a i) (b i) keep)
  filled_again (Not byte) h = let a = spot_again byte in λ i. insn.Exact (op.Not (width_of byte p) (a i))
  filled_again (Cmov cc') h = let a = spot_again false in λ i. insn.Exact (op.Cmov cc' (operand_width p) (reg_code p) (a i))
  filled_again (Set cc') h = let a = spot_again true in λ i. insn.Exact (op.Set cc' (a i))
  filled_again (Widen high) h = refl
  filled_again Leave h = refl
  filled_again Cmc h = refl
  filled_again Clc h = refl
  filled_again Stc h = refl
  filled_again Sahf h = refl
  filled_again Lahf h = refl
  filled_again (Jcc cc') h = absurd cc
  filled_again (Loop kind) h = absurd cc
  filled_again Jmp h = absurd cc
  filled_again JmpThrough h = let a = spot_again false in λ i. insn.Exact (op.Jmp (Through (a i)))
  filled_again Call h = absurd cc
  filled_again CallThrough h = let a = spot_again false in λ i. insn.Exact (op.Call (Through (a i)))
  filled_again Ret h = refl
  filled_again (Asked syscall copied) h = refl
  filled_again Ending h = refl

-- a RIP displacement has four bytes
rip_four : (b : Bool) (modrm sib : Option ℕ) (d : List ℕ) → HasOperand b modrm sib d → (eqb (unwrap_or modrm 0 / 64) 0 && eqb (unwrap_or modrm 0 % 8) 5) ≡ true → length d ≡ 4
rip_four false None None d h e = absurd cc
rip_four false None (Some s) d h e = absurd h
rip_four false (Some m) sib d h e = absurd h
rip_four true None sib d h e = absurd h
rip_four true (Some m) None d h e =
    let p = and_parts (eqb (m / 64) 0) (eqb (m % 8) 5) e in
    let a : m / 64 ≡ 0 = eqb-true (m / 64) 0 p.0 in
    let b : m % 8 ≡ 5 = eqb-true (m % 8) 5 p.1 in
    h.1 ∙ (rw (a, b) refl)
rip_four true (Some m) (Some s) d h e =
    let p = and_parts (eqb (m / 64) 0) (eqb (m % 8) 5) e in
    let b : m % 8 ≡ 5 = eqb-true (m % 8) 5 p.1 in
    let four' : eqb (m % 8) 4 ≡ false = ne_eqb (m % 8) 4 (λ f. omega arith) in
    absurd (true≢false (h.0 ∙ and_right (not (eqb (m / 64) 3)) (eqb (m % 8) 4) four'))

operand_again : (b : Bool) (modrm sib : Option ℕ) (d new : List ℕ) → length new ≡ length d → HasOperand b modrm sib d → HasOperand b modrm sib new
operand_again false None None d new e h = e ∙ h
operand_again false None (Some s) d new e h = absurd h
operand_again false (Some m) sib d new e h = absurd h
operand_again true None sib d new e h = absurd h
operand_again true (Some m) sib d new e h = (h.0, e ∙ h.1)

same_length : (f : Fields) (d : List ℕ) → length d ≡ length f.disp → length (spelling (record f { disp = d })) ≡ length (spelling f)
same_length f d e = sym (imm_ends (record f { disp = d })) ∙ ap (λ n. disp_at f + n + length f.imm) e ∙ imm_ends f

-- a RIP displacement rewritten for a low place names the address that it named before
pub disp_names : (f : Fields) (next next' : ℕ) → next' < 2 ^ 31 → (has_rip (parts_of f) ≡ true → named f next < 2 ^ 31) → has_rip (parts_of f) ≡ true → advanced next' (word_of (integer_of (cond (has_rip (parts_of f)) (rel_bytes next' (named f next)) f.disp))) ≡ named f next
disp_names f next next' l k e = ap (λ b. advanced next' (word_of (integer_of (cond b (rel_bytes next' (named f next)) f.disp)))) e ∙ names_it next' (named f next) l (k e)

-- where no operand is relative to RIP, the displacement stays
pub disp_stays : (f : Fields) (next next' : ℕ) → has_rip (parts_of f) ≡ false → cond (has_rip (parts_of f)) (rel_bytes next' (named f next)) f.disp ≡ f.disp
disp_stays f next next' e = cond-false (has_rip (parts_of f)) _ f.disp e

module _ (f : Fields) (next next' : ℕ) (i : IsInstruction f) (l : next' < 2 ^ 31) (k : has_rip (parts_of f) ≡ true → named f next < 2 ^ 31) where
  abbrev pub new : List ℕ
  new = cond (has_rip (parts_of f)) (rel_bytes next' (named f next)) f.disp

  new_length : length new ≡ length f.disp
  new_length = by_rip (has_rip (parts_of f)) refl
    where
      by_rip : (b : Bool) → has_rip (parts_of f) ≡ b → length (cond b (rel_bytes next' (named f next)) f.disp) ≡ length f.disp
      by_rip true e = sym (rip_four (row_after f.escape f.opcode).modrm f.modrm f.sib f.disp i.formed.operand e)
      by_rip false e = refl

  names : has_rip (parts_of f) ≡ true → advanced next' (word_of (integer_of new)) ≡ named f next
  names e = ap (λ b. advanced next' (word_of (integer_of (cond b (rel_bytes next' (named f next)) f.disp)))) e ∙ names_it next' (named f next) l (k e)

  stays : has_rip (parts_of f) ≡ false → new ≡ f.disp
  stays e = cond-false (has_rip (parts_of f)) _ f.disp e

  new_spelling : length (spelling (moved_fields f next next')) ≡ length (spelling f)
  new_spelling = same_length f new new_length

  new_parts : parts_of (moved_fields f next next') ≡ parts_of f
  new_parts =
      let a = new_spelling in let b = new_length in
      λ j. record (parts_of f) { len = a j; disp_len = b j; imm_at = disp_at f + b j }

  new_insn : direct_target (insn_of f) ≡ None → resolved_insn next' (insn_of (moved_fields f next next')) ≡ resolved_insn next (insn_of f)
  new_insn c = ap (λ (q : Parts). resolved_insn next' (filled (template q) q new f.imm)) new_parts ∙ filled_again (parts_of f) next next' f.disp new f.imm names stays (template (parts_of f)) c

  -- with its RIP displacement rewritten an instruction asks the same question
  pub new_question : question_of (moved_fields f next next') next' ≡ question_of f next
  new_question = by_rip (has_rip (parts_of f)) refl
    where
      by_rip : (b : Bool) → has_rip (parts_of f) ≡ b → question_of (moved_fields f next next') next' ≡ question_of f next
      by_rip true e =
          cond-true (has_rip (parts_of f)) _ _ e
          ∙ ap (λ (a : ℕ). let q : Question = record { bytes = spelling (record f { disp = 0 ∷ 0 ∷ 0 ∷ 0 ∷ [] }); addr = Some a } in q) (names e)
          ∙ sym (cond-true (has_rip (parts_of f)) _ _ e)
      by_rip false e =
          cond-false (has_rip (parts_of f)) _ _ e
          ∙ ap (λ (d : List ℕ). let q : Question = record { bytes = spelling (record f { disp = d }); addr = None } in q) (stays e)
          ∙ sym (cond-false (has_rip (parts_of f)) _ _ e)

  -- with its RIP displacement rewritten an instruction is one still
  pub new_is : IsInstruction (moved_fields f next next')
  new_is = record {
    formed = record {
      prefixes = i.formed.prefixes;
      escape = i.formed.escape;
      opcode = i.formed.opcode;
      known = i.formed.known;
      modrm = i.formed.modrm;
      operand = operand_again (row_after f.escape f.opcode).modrm f.modrm f.sib f.disp new new_length i.formed.operand;
      imm = i.formed.imm;
    };
    short = omega (arith, new_spelling, i.short);
  }

-- with its RIP displacement rewritten an instruction has as many bytes, and elsewhere it is the same task
pub same_task : IsSameTask
same_task f next next' i c l k = (
  new_is f next next' i l k,
  new_spelling f next next' i l k,
  (let a = new_insn f next next' i l k c in let q = new_question f next next' i l k in λ j. record { insn = a j; asks = q j }),
)
