-- Jumps that stand lead to their targets.
use Rattle.std.proofs.Common.{◌≡◌, inl, ℕ, zero, suc, ◌+◌, ◌^◌, ◌<◌, List, [], ◌∷◌, length, refl, ap, ◌∙◌, subst, arith, lit≤}
use Rattle.std.specs.Prelude.{None}
use Rattle.pun_base.specs.Memory.{Bytes}
use Rattle.length_decode.specs.declared.escape_bytes.Escape.TheVariants.{OneByte}
use Rattle.length_decode.specs.Spelling.{Fields, IsInstruction, spelling}
use Rattle.cpu_state.specs.Bytes.{advanced}
use Rattle.cpu_state.specs.Fixed.{IsFixed}
use Rattle.insn_form.specs.declared.form.Target.TheVariants.{Rel}
use Rattle.insn_form.specs.declared.form.Op.TheVariants.{Jmp}
use Rattle.insn_form.specs.declared.form.Insn.TheVariants.{Exact}
use Rattle.insn_form.specs.Classes.{template}
use Rattle.insn_form.specs.Filling.{filled, integer_of}
use Rattle.insn_form.specs.Instruction.{insn_of}
use Rattle.insn_form.specs.Moved.{rel_bytes}
use Rattle.insn_form.specs.Operands.{word_of}
use Rattle.insn_form.specs.Step.{next_after}
use Rattle.insn_form.proofs.TaskCopies.{names_it}
use Rattle.start_entries.specs.Leading.{JumpsTo}
use Rattle.start_list.specs.TurnViews.{memory_now}
use Rattle.start_list.specs.PlanJumps.{after_writes}
use Rattle.start_list.specs.Forms.{B1, B2, T1, T2, T3, jumps_of}
use Rattle.start_list.specs.Led.{StandingJumpsLead, OneJumpLeads}

-- The fields of a jump after pads.
abbrev pub padded : List ℕ → List ℕ → Fields
padded pads ds = record { prefixes = pads; escape = OneByte; opcode = 0xE9; modrm = None; sib = None; disp = []; imm = ds }

-- A jump after these pads is an instruction, a jump by its four bytes.
record IsPaddedJump (pads : List ℕ) : Type 0 where
  is : (next t : ℕ) → IsInstruction (padded pads (rel_bytes next t))
  jump : (next t : ℕ) → insn_of (padded pads (rel_bytes next t)) ≡ Exact (Jmp (Rel (integer_of (rel_bytes next t))))

-- a jump without pads is an instruction, a jump by its four bytes
no_pad : IsPaddedJump []
unfolding template filled
no_pad = record { is = λ n t. record { formed = record { prefixes = refl; escape = refl; opcode = refl; known = refl; modrm = refl; operand = refl; imm = refl }; short = lit≤ tt }; jump = λ n t. refl }

-- a jump after one pad is an instruction, a jump by its four bytes
one_pad : IsPaddedJump (0x40 ∷ [])
unfolding template filled
one_pad = record { is = λ n t. record { formed = record { prefixes = refl; escape = refl; opcode = refl; known = refl; modrm = refl; operand = refl; imm = refl }; short = lit≤ tt }; jump = λ n t. refl }

-- a jump after two pads is an instruction, a jump by its four bytes
two_pads : IsPaddedJump (0x40 ∷ 0x40 ∷ [])
unfolding template filled
two_pads = record { is = λ n t. record { formed = record { prefixes = refl; escape = refl; opcode = refl; known = refl; modrm = refl; operand = refl; imm = refl }; short = lit≤ tt }; jump = λ n t. refl }

-- a jump after three pads is an instruction, a jump by its four bytes
three_pads : IsPaddedJump (0x40 ∷ 0x40 ∷ 0x40 ∷ [])
unfolding template filled
three_pads = record { is = λ n t. record { formed = record { prefixes = refl; escape = refl; opcode = refl; known = refl; modrm = refl; operand = refl; imm = refl }; short = lit≤ tt }; jump = λ n t. refl }

-- a jump after pads that stands in memory, executable and not writable, jumps to its target
jumps_by : (m : Bytes) (at n t : ℕ) (pads : List ℕ) → IsPaddedJump pads → length (spelling (padded pads (rel_bytes (at + n + 5) t))) ≡ n + 5 → at + n + 5 < 2 ^ 31 → t < 2 ^ 31 → IsFixed m at (spelling (padded pads (rel_bytes (at + n + 5) t))) → JumpsTo m at t
jumps_by m at n t pads k long l h s = record {
  fields = padded pads (rel_bytes (at + n + 5) t);
  spelled = k.is (at + n + 5) t;
  stands = s;
  rel = integer_of (rel_bytes (at + n + 5) t);
  jump = k.jump (at + n + 5) t;
  leads = ap (λ x. advanced x (word_of (integer_of (rel_bytes (at + n + 5) t)))) next ∙ names_it (at + n + 5) t l h;
}
  where
    next : next_after at (padded pads (rel_bytes (at + n + 5) t)) ≡ at + n + 5
    next = omega (arith, long)

-- A jump after at most three pads that stands in memory is a jump to its target.
pub standing_jumps_lead : StandingJumpsLead
standing_jumps_lead m at room zero t few l h s = jumps_by m at zero t [] no_pad refl l h s
standing_jumps_lead m at room (suc zero) t few l h s = jumps_by m at (suc zero) t (0x40 ∷ []) one_pad refl l h s
standing_jumps_lead m at room (suc (suc zero)) t few l h s = jumps_by m at (suc (suc zero)) t (0x40 ∷ 0x40 ∷ []) two_pads refl l h s
standing_jumps_lead m at room (suc (suc (suc zero))) t few l h s = jumps_by m at (suc (suc (suc zero))) t (0x40 ∷ 0x40 ∷ 0x40 ∷ []) three_pads refl l h s
standing_jumps_lead m at room (suc (suc (suc (suc p)))) t few l h s = absurd (omega arith)

-- lists of one equal number are equal in it
same_place : (x y : ℕ) → x ∷ [] ≡ y ∷ [] → x ≡ y
same_place x y e = cc

-- a list of two isn't a list of one
not_two : (x y z : ℕ) → x ∷ y ∷ [] ≡ z ∷ [] → ⊥
not_two x y z e = cc

-- After the writes of an admissible plan with one trampoline the bytes at the site lead to it.
pub one_jump_leads : OneJumpLeads
one_jump_leads v site (B1 t) place l h e =
    let low = h.placed.0.2.below in
    let m = after_writes (memory_now v) (jumps_of site (B1 t)) in
    inl (subst (λ (x : ℕ). JumpsTo m site.addr x) (same_place t place e) (standing_jumps_lead m site.addr site.len 0 t (omega arith) (omega arith) (omega (arith, low)) h.allowed.stands.0))
one_jump_leads v site (B2 t) place l h e =
    let low = h.placed.0.2.below in
    let m = after_writes (memory_now v) (jumps_of site (B2 t)) in
    inl (subst (λ (x : ℕ). JumpsTo m site.addr x) (same_place t place e) (standing_jumps_lead m site.addr site.len 0 t (omega arith) (omega arith) (omega (arith, low)) h.allowed.stands.0))
one_jump_leads v site (T1 p t) place l h e =
    let low = h.placed.0.2.below in
    let form = h.allowed.form in
    let m = after_writes (memory_now v) (jumps_of site (T1 p t)) in
    inl (subst (λ (x : ℕ). JumpsTo m site.addr x) (same_place t place e) (standing_jumps_lead m site.addr site.len p t (omega (arith, form.0, form.2)) (omega (arith, form.0, form.2)) (omega (arith, low)) h.allowed.stands.0))
one_jump_leads v site (T2 x p q pad n t u) place l h e = absurd (not_two t u place e)
one_jump_leads v site (T3 x i n t u) place l h e = absurd (not_two t u place e)
