-- The steps of the pieces of code.
use Rattle.std.proofs.Common.{◌≡◌, ◌⊎◌, inl, inr, ℕ, ◌+◌, ◌*◌, ◌-◌, ◌%◌, ◌^◌, ◌<◌, ◌≤◌, Bool, false, List, [], ◌∷◌, length, Some, None, Ok, ℤ, pos, refl, sym, ap, ◌∙◌, subst, arith}
use Rattle.std.proofs.lemmas.Int.{ints}
use Rattle.std.specs.Int.{cast_signed, w32}
use Rattle.cpu_alu.specs.declared.operation.Width.TheVariants.{W32, W64}
use Rattle.cpu_state.specs.declared.state.Core.{Core}
use Rattle.cpu_state.specs.Bytes.{advanced, Stands, lacking, number_at, put_list, bytes_of}
use Rattle.cpu_state.specs.Fixed.{IsFixed}
use Rattle.length_decode.specs.declared.escape_bytes.Escape.TheVariants.{OneByte}
use Rattle.length_decode.specs.Spelling.{Fields, IsInstruction, spelling}
use Rattle.insn_form.specs.declared.form.Seg.TheVariants.{Plain}
use Rattle.insn_form.specs.declared.form.MemForm.{MemForm}
use Rattle.insn_form.specs.declared.form.Target.TheVariants.{Rel, Through}
use Rattle.insn_form.specs.declared.form.Spot.TheVariants.{Reg, Mem}
use Rattle.insn_form.specs.declared.form.Value.TheVariants as value
use Rattle.insn_form.specs.declared.form.Op.{Op}
use Rattle.insn_form.specs.declared.form.Op.TheVariants.{Mov, Push, Jmp}
use Rattle.insn_form.specs.declared.form.Insn.{Insn}
use Rattle.insn_form.specs.declared.form.Insn.TheVariants.{Exact}
use Rattle.insn_form.specs.Operands.{word_of, reg, with_reg, rsp, place}
use Rattle.insn_form.specs.Stack.{lowered}
use Rattle.insn_form.specs.Classes.{template}
use Rattle.insn_form.specs.Filling.{filled, integer_of, immediate}
use Rattle.insn_form.specs.Instruction.{insn_of}
use Rattle.insn_form.specs.Resolving.{absolute, resolved_insn}
use Rattle.insn_form.specs.Displacing.{goes_to}
use Rattle.insn_form.specs.Moved.{rel_bytes}
use Rattle.insn_form.specs.Meaning.{effect}
use Rattle.insn_form.specs.Plan.{number_in}
use Rattle.insn_form.specs.Machine.{Machine, act}
use Rattle.insn_form.specs.Step.{IsAt, StepsBy, Step, next_after, task_of, question_of}
use Rattle.insn_form.specs.Runs.{nowhere}
use Rattle.insn_form.specs.Again.{op_task}
use Rattle.insn_form.specs.Exactly.{after_op, HasOperands}
use Rattle.insn_form.proofs.TouchedMemory.{leaves_nowhere}
use Rattle.insn_form.proofs.TaskCopies.{low_word, four_signed, names_it}
use Rattle.insn_form.proofs.ExactSteps.{exact_step, acts_exactly}
use Rattle.relocate_insn.specs.Pieces.{four, jump_code, store_rax, load_rax, jump_through, push_code, ecx_code}
use Rattle.relocate_insn.proofs.FixedCode.{next_address, fixed_stands}

-- code that can't be written, at the instruction pointer, is the next instruction
pub is_at : (v : Machine) (at : ℕ) (f : Fields) → IsInstruction f → v.rip ≡ at → IsFixed v.mem at (spelling f) → IsAt v f
is_at v at f i r c =
    record { spelled = i; here = subst (λ (z : ℕ). Stands v.mem z (spelling f)) (sym r) (fixed_stands v.mem at (spelling f) c) }

-- the address behind it is a sum, where it doesn't wrap
pub next_is : (v : Machine) (at : ℕ) (f : Fields) → at + length (spelling f) < 2 ^ 64 → v.rip ≡ at
    → next_after v.rip f ≡ at + length (spelling f)
next_is v at f l r = ap (λ z. advanced z (length (spelling f))) r ∙ next_address at (length (spelling f)) l

-- a state with another core at another address
abbrev pub moved_on : Machine → Core → ℕ → Machine
moved_on v c rip = record { core = c; rip = rip; mem = v.mem; world = v.world }

-- a step to a state leads to each equal one
pub lands : {s t u : Machine} → t ≡ u → Step nowhere s t → Step nowhere s u
lands {s} e st = subst (λ (z : Machine). Step nowhere s z) e st

-- the step of an operation that asks nothing, where its code stays
pub op_step : (v : Machine) (at : ℕ) (f : Fields) (op : Op) → IsInstruction f → at + length (spelling f) < 2 ^ 64 → v.rip ≡ at
    → IsFixed v.mem at (spelling f)
    → resolved_insn (at + length (spelling f)) (insn_of f) ≡ Exact op → HasOperands v (at + length (spelling f)) op
    → ((effect op (at + length (spelling f)) v.core).out (number_in v.mem (effect op (at + length (spelling f)) v.core).read)).undefined ≡ 0
    → Step nowhere v (after_op v (at + length (spelling f)) op)
op_step v at f op i l r c e h u =
    let n = sym (next_is v at f l r) in
    let next = next_after v.rip f in
    let e' = subst (λ (z : ℕ). resolved_insn z (insn_of f) ≡ Exact op) n e in
    let h' = subst (λ (z : ℕ). HasOperands v z op) n h in
    let u' = subst (λ (z : ℕ). ((effect op z v.core).out (number_in v.mem (effect op z v.core).read)).undefined ≡ 0) n u in
    subst (λ (z : ℕ). Step nowhere v (after_op v z op)) (sym n)
    (exact_step nowhere v f op (is_at v at f i r c) e' h' u' (leaves_nowhere (op_task op (question_of f next)) next v))

-- a number below 2^64 is its own word of 64 bits
pub word_pos : (n : ℕ) → n < 2 ^ 64 → word_of (pos n) ≡ n
word_pos n h = grind (arith, ints)

-- the number of an absolute target is the address that it names
pub absolute_word : (next : ℕ) (z : ℤ) → word_of (absolute next z) ≡ goes_to next z
absolute_word next z = word_pos (advanced next (word_of z)) (omega arith)

-- four bytes of an address below 2^31 are that address
pub four_word : (a : ℕ) → a < 2 ^ 31 → word_of (integer_of (four a)) ≡ a
four_word a h = ap word_of (four_signed a (omega arith)) ∙ low (low_word a (omega arith))
  where
    low : ((a < 2 ^ 31) × (word_of (cast_signed w32 a) ≡ a)) ⊎ ((2 ^ 31 ≤ a) × (word_of (cast_signed w32 a) ≡ a + (2 ^ 64 - 2 ^ 32)))
        → word_of (cast_signed w32 a) ≡ a
    low (inl q) = q.1
    low (inr q) = absurd (omega (arith, q.0))

-- an operand that is an address
abbrev pub at_fixed : List ℕ → MemForm
at_fixed d = record { base = None; index = None; scale = 1; disp = integer_of d; rip = false; seg = Plain; short = false; tail = 6 }

-- such an operand stands at its address
pub fixed_place : (c : Core) (a : ℕ) → a < 2 ^ 31 → place c (at_fixed (four a)) ≡ a
fixed_place c a h =
    ap (λ w. ((0 + 0 * 1 + w) % 2 ^ 64 + 0) % 2 ^ 64) (four_word a h)
    ∙ (let e : ((0 + 0 * 1 + a) % 2 ^ 64 + 0) % 2 ^ 64 ≡ a = omega arith in e)

-- MOV [a], rax
abbrev pub store_fields : ℕ → Fields
store_fields a =
    record { prefixes = 0x48 ∷ []; escape = OneByte; opcode = 0x89; modrm = Some 0x04; sib = Some 0x25; disp = four a; imm = [] }

-- its bytes are an instruction
pub store_is : (a : ℕ) → IsInstruction (store_fields a)
store_is a = record {
  formed = record { prefixes = refl; escape = refl; opcode = refl; known = refl; modrm = refl; operand = (refl, refl); imm = refl };
  short = omega arith;
}

-- it moves rax to the address
pub store_insn : (a : ℕ) → insn_of (store_fields a) ≡ Exact (Mov W64 (Mem (at_fixed (four a))) (value.Spot (Reg 0)))
unfolding template filled
store_insn a = refl

-- the state after it
abbrev pub stored : Machine → ℕ → ℕ → Machine
stored v a rip = record { core = v.core; rip = rip; mem = put_list v.mem a (bytes_of 8 (reg v.core 0 % 2 ^ 64)); world = v.world }

-- where eight bytes at the address can be written, it has a step to that state
pub store_step : (v : Machine) (at a : ℕ) → at + 8 < 2 ^ 31 → a < 2 ^ 31 → v.rip ≡ at → lacking 2 v.mem a 8 ≡ None
    → IsFixed v.mem at (store_rax a) → Step nowhere v (stored v a (at + 8))
unfolding effect
store_step v at a l k r w c =
    let p = fixed_place v.core a k in
    let o = Mov W64 (Mem (at_fixed (four a))) (value.Spot (Reg 0)) in
    let st = op_step v at (store_fields a) o (store_is a) (omega arith) r c (ap (resolved_insn (at + 8)) (store_insn a))
    (record { read = refl; write = ap (λ z. lacking 2 v.mem z 8) p ∙ w }) refl in
    lands (λ j. stored v (p j) (at + 8)) st

-- MOV rax, [a]
abbrev pub load_fields : ℕ → Fields
load_fields a =
    record { prefixes = 0x48 ∷ []; escape = OneByte; opcode = 0x8b; modrm = Some 0x04; sib = Some 0x25; disp = four a; imm = [] }

-- its bytes are an instruction
pub load_is : (a : ℕ) → IsInstruction (load_fields a)
load_is a = record {
  formed = record { prefixes = refl; escape = refl; opcode = refl; known = refl; modrm = refl; operand = (refl, refl); imm = refl };
  short = omega arith;
}

-- it moves what stands at the address to rax
pub load_insn : (a : ℕ) → insn_of (load_fields a) ≡ Exact (Mov W64 (Reg 0) (value.Spot (Mem (at_fixed (four a)))))
unfolding template filled
load_insn a = refl

-- the state after it
abbrev pub loaded : Machine → ℕ → ℕ → Machine
loaded v a rip = record { core = with_reg v.core 0 (number_at v.mem a 8 % 2 ^ 64 % 2 ^ 64); rip = rip; mem = v.mem; world = v.world }

-- where eight bytes at the address can be read, it has a step to that state
pub load_step : (v : Machine) (at a : ℕ) → at + 8 < 2 ^ 31 → a < 2 ^ 31 → v.rip ≡ at → lacking 4 v.mem a 8 ≡ None
    → IsFixed v.mem at (load_rax a) → Step nowhere v (loaded v a (at + 8))
unfolding effect
load_step v at a l k r w c =
    let p = fixed_place v.core a k in
    let o = Mov W64 (Reg 0) (value.Spot (Mem (at_fixed (four a)))) in
    let st = op_step v at (load_fields a) o (load_is a) (omega arith) r c (ap (resolved_insn (at + 8)) (load_insn a))
    (record { read = ap (λ z. lacking 4 v.mem z 8) p ∙ w; write = refl }) refl in
    lands (λ j. loaded v (p j) (at + 8)) st

-- JMP rel32
abbrev pub jump_fields : List ℕ → Fields
jump_fields d = record { prefixes = []; escape = OneByte; opcode = 0xe9; modrm = None; sib = None; disp = []; imm = d }

-- its bytes are an instruction
pub jump_is : (a b c d : ℕ) → IsInstruction (jump_fields (a ∷ b ∷ c ∷ d ∷ []))
jump_is a b c d = record {
  formed = record { prefixes = refl; escape = refl; opcode = refl; known = refl; modrm = refl; operand = refl; imm = refl };
  short = omega arith;
}

-- it jumps by its displacement
pub jump_insn : (d : List ℕ) → insn_of (jump_fields d) ≡ Exact (Jmp (Rel (integer_of d)))
unfolding template filled
jump_insn d = refl

-- the state as if it stood at a target
abbrev pub gone_to : Machine → ℕ → Machine
gone_to u target = record { core = u.core; rip = target; mem = u.mem; world = u.world }

-- it has a step to its target
pub jump_step : (v : Machine) (at target : ℕ) → at + 5 < 2 ^ 31 → target < 2 ^ 31 → v.rip ≡ at → IsFixed v.mem at (jump_code at target)
    → Step nowhere v (gone_to v target)
unfolding effect
jump_step v at target l k r c =
    let d = rel_bytes (at + 5) target in
    let o = Jmp (Rel (absolute (at + 5) (integer_of d))) in
    let st = op_step v at (jump_fields d) o (jump_is _ _ _ _) (omega arith) r c (ap (resolved_insn (at + 5)) (jump_insn d))
    (record { read = refl; write = refl }) refl in
    let w : word_of (absolute (at + 5) (integer_of d)) ≡ target = absolute_word (at + 5) (integer_of d) ∙ names_it (at + 5) target l k in
    lands (λ j. gone_to v (w j)) st

-- PUSH imm32
abbrev pub push_fields : ℕ → Fields
push_fields n = record { prefixes = []; escape = OneByte; opcode = 0x68; modrm = None; sib = None; disp = []; imm = four n }

-- its bytes are an instruction
pub push_is : (n : ℕ) → IsInstruction (push_fields n)
push_is n = record {
  formed = record { prefixes = refl; escape = refl; opcode = refl; known = refl; modrm = refl; operand = refl; imm = refl };
  short = omega arith;
}

-- it pushes its number
pub push_insn : (n : ℕ) → insn_of (push_fields n) ≡ Exact (Push (value.Imm (immediate W64 (four n))))
unfolding template filled
push_insn n = refl

-- the four bytes of a number below 2^31 are that number as the operand of PUSH imm32
pub pushed_word : (n : ℕ) → n < 2 ^ 31 → immediate W64 (four n) % 2 ^ 64 ≡ n
pushed_word n h = ap (λ z. z % 2 ^ 64 % 2 ^ 64) (four_word n h) ∙ (let e : n % 2 ^ 64 % 2 ^ 64 ≡ n = omega arith in e)

-- the state after it
abbrev pub pushed : Machine → ℕ → ℕ → Machine
pushed v n rip =
    record { core = lowered v.core; rip = rip; mem = put_list v.mem (reg (lowered v.core) rsp) (bytes_of 8 n); world = v.world }

-- where the entry below rsp can be written, it has a step to that state
pub push_step : (v : Machine) (at n : ℕ) → at + 5 < 2 ^ 31 → n < 2 ^ 31 → v.rip ≡ at → lacking 2 v.mem (reg (lowered v.core) rsp) 8 ≡ None
    → IsFixed v.mem at (push_code n) → Step nowhere v (pushed v n (at + 5))
unfolding effect
push_step v at n l k r w c =
    let o = Push (value.Imm (immediate W64 (four n))) in
    let st = op_step v at (push_fields n) o (push_is n) (omega arith) r c (ap (resolved_insn (at + 5)) (push_insn n))
    (record { read = refl; write = w }) refl in
    let q = pushed_word n k in
    lands (λ j. pushed v (q j) (at + 5)) st

-- MOV ecx, imm32
abbrev pub ecx_fields : ℕ → Fields
ecx_fields n = record { prefixes = []; escape = OneByte; opcode = 0xb9; modrm = None; sib = None; disp = []; imm = four n }

-- its bytes are an instruction
pub ecx_is : (n : ℕ) → IsInstruction (ecx_fields n)
ecx_is n = record {
  formed = record { prefixes = refl; escape = refl; opcode = refl; known = refl; modrm = refl; operand = refl; imm = refl };
  short = omega arith;
}

-- it moves its number to ecx
pub ecx_insn : (n : ℕ) → insn_of (ecx_fields n) ≡ Exact (Mov W32 (Reg 1) (value.Imm (immediate W32 (four n))))
unfolding template filled
ecx_insn n = refl

-- and as that of MOV r32, imm32
pub ecx_word : (n : ℕ) → n < 2 ^ 31 → immediate W32 (four n) % 2 ^ 32 % 2 ^ 32 ≡ n
ecx_word n h = ap (λ z. z % 2 ^ 32 % 2 ^ 32 % 2 ^ 32) (four_word n h) ∙ (let e : n % 2 ^ 32 % 2 ^ 32 % 2 ^ 32 ≡ n = omega arith in e)

-- the state after it
abbrev pub with_ecx : Machine → ℕ → ℕ → Machine
with_ecx v n rip = record { core = with_reg v.core 1 n; rip = rip; mem = v.mem; world = v.world }

-- it has a step to that state
pub ecx_step : (v : Machine) (at n : ℕ) → at + 5 < 2 ^ 31 → n < 2 ^ 31 → v.rip ≡ at → IsFixed v.mem at (ecx_code n)
    → Step nowhere v (with_ecx v n (at + 5))
unfolding effect
ecx_step v at n l k r c =
    let o = Mov W32 (Reg 1) (value.Imm (immediate W32 (four n))) in
    let st = op_step v at (ecx_fields n) o (ecx_is n) (omega arith) r c (ap (resolved_insn (at + 5)) (ecx_insn n))
    (record { read = refl; write = refl }) refl in
    let q = ecx_word n k in
    lands (λ j. with_ecx v (q j) (at + 5)) st

-- JMP [a]
abbrev pub through_fields : ℕ → Fields
through_fields a = record { prefixes = []; escape = OneByte; opcode = 0xff; modrm = Some 0x24; sib = Some 0x25; disp = four a; imm = [] }

-- its bytes are an instruction
pub through_is : (a : ℕ) → IsInstruction (through_fields a)
through_is a = record {
  formed = record { prefixes = refl; escape = refl; opcode = refl; known = refl; modrm = refl; operand = (refl, refl); imm = refl };
  short = omega arith;
}

-- it jumps through the eight bytes at the address
pub through_insn : (a : ℕ) → insn_of (through_fields a) ≡ Exact (Jmp (Through (Mem (at_fixed (four a)))))
unfolding template filled
through_insn a = refl

-- where they can be read, it has a step to the address that they hold
pub through_step : (v : Machine) (at a : ℕ) → at + 7 < 2 ^ 31 → a < 2 ^ 31 → v.rip ≡ at → lacking 4 v.mem a 8 ≡ None
    → IsFixed v.mem at (jump_through a) → Step nowhere v (gone_to v (number_at v.mem a 8 % 2 ^ 64))
unfolding effect
through_step v at a l k r w c =
    let p = fixed_place v.core a k in
    let o = Jmp (Through (Mem (at_fixed (four a)))) in
    let st = op_step v at (through_fields a) o (through_is a) (omega arith) r c (ap (resolved_insn (at + 7)) (through_insn a))
    (record { read = ap (λ z. lacking 4 v.mem z 8) p ∙ w; write = refl }) refl in
    lands (λ j. gone_to v (number_at v.mem (p j) 8 % 2 ^ 64)) st

-- an instruction that acts where it stands is a step
pub step_of : (s t : Machine) (f : Fields) → IsAt s f → act (task_of f (next_after s.rip f)) (next_after s.rip f) s ≡ Ok t
    → Step nowhere s t
step_of s t f at e = (f, record { at = at; apart = leaves_nowhere (task_of f (next_after s.rip f)) (next_after s.rip f) s; acts = e })

-- what the step of an operation that asks nothing tells
pub told : (set : ℕ → Bool) (s s' : Machine) (f : Fields) (op : Op) → resolved_insn (next_after s.rip f) (insn_of f) ≡ Exact op
    → ((v : ℕ) → ((effect op (next_after s.rip f) s.core).out v).undefined ≡ 0)
    → StepsBy set f s s' → HasOperands s (next_after s.rip f) op × (s' ≡ after_op s (next_after s.rip f) op)
told set s s' f op i u st =
    let next = next_after s.rip f in
    let q = question_of f next in
    (acts_exactly op q next s s' u).0 (subst (λ (z : Insn). act (record { insn = z; asks = q }) next s ≡ Ok s') i st.acts)
