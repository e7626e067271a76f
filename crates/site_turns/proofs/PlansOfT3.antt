-- The plans of T3 lead: a short jump into the victim, from where a jump goes on, and the victim's own jump.
use Rattle.std.proofs.Common.{◌≡◌, inl, inr, ℕ, ◌+◌, ◌-◌, ◌^◌, ◌<◌, ◌≤◌, [], ◌∷◌, None, refl, ap, ◌∙◌, arith, lit≤}
use Rattle.std.proofs.lemmas.Int.{ints}
use Rattle.pun_base.specs.Memory.{Bytes}
use Rattle.length_decode.specs.declared.escape_bytes.Escape.TheVariants.{OneByte}
use Rattle.length_decode.specs.Spelling.{Fields, IsInstruction}
use Rattle.cpu_state.specs.Bytes.{advanced}
use Rattle.cpu_state.specs.Fixed.{IsFixed}
use Rattle.insn_form.specs.declared.form.Target.TheVariants.{Rel}
use Rattle.insn_form.specs.declared.form.Op.TheVariants.{Jmp}
use Rattle.insn_form.specs.declared.form.Insn.TheVariants.{Exact}
use Rattle.insn_form.specs.Classes.{template}
use Rattle.insn_form.specs.Filling.{filled, integer_of}
use Rattle.insn_form.specs.Instruction.{insn_of}
use Rattle.insn_form.specs.Operands.{word_of}
use Rattle.insn_form.specs.Step.{next_after}
use Rattle.start_entries.specs.Leading.{JumpsTo}
use Rattle.start_list.specs.Forms.{B1, B2, T1, T2, T3}
use Rattle.start_list.proofs.StandingJumps.{standing_jumps_lead}
use Rattle.site_turns.specs.Laws.{NearLeads}
use Rattle.site_turns.proofs.PlansWithOneJump.{entry_listed}

-- the fields of a short jump
abbrev short : ℕ → Fields
short b = record { prefixes = []; escape = OneByte; opcode = 0xEB; modrm = None; sib = None; disp = []; imm = b ∷ [] }

-- the two bytes of a short jump are an instruction
short_is : (b : ℕ) → IsInstruction (short b)
unfolding template filled
short_is b = record {
  formed = record { prefixes = refl; escape = refl; opcode = refl; known = refl; modrm = refl; operand = refl; imm = refl };
  short = lit≤ tt;
}

-- the two bytes of a short jump jump by the second, read as a signed number
short_jumps : (b : ℕ) → insn_of (short b) ≡ Exact (Jmp (Rel (integer_of (b ∷ []))))
unfolding template filled
short_jumps b = refl

-- the byte of a short jump is its distance where that is below 128
low_byte : (b : ℕ) → b ≤ 127 → word_of (integer_of (b ∷ [])) ≡ b
low_byte b l = grind (arith, ints)

-- a short jump that stands leads to its target
short_leads : (m : Bytes) (at target : ℕ) → at + 2 ≤ target → target ≤ at + 2 + 127 → at + 2 < 2 ^ 31
    → IsFixed m at (0xEB ∷ (target - (at + 2)) ∷ []) → JumpsTo m at target
short_leads m at target lo hi low s = record {
  fields = short (target - (at + 2));
  spelled = short_is (target - (at + 2));
  stands = s;
  rel = integer_of ((target - (at + 2)) ∷ []);
  jump = short_jumps (target - (at + 2));
  leads = goes;
}
  where
    w : word_of (integer_of ((target - (at + 2)) ∷ [])) ≡ target - (at + 2)
    w = low_byte (target - (at + 2)) (omega arith)

    goes : advanced (next_after at (short (target - (at + 2)))) (word_of (integer_of ((target - (at + 2)) ∷ []))) ≡ target
    goes = ap (λ n. advanced (next_after at (short (target - (at + 2)))) n) w ∙ omega arith

-- in each memory in which the jumps of an admissible plan of T3 stand, its starts lead to its trampolines
pub near_leads : NearLeads
near_leads v site (T3 x i n t u) A E e a =
    let low = (A.each site (entry_listed v.entries site.addr site E)).low in
    let form = a.allowed.form in
    let c = form.victim.listed in
    let vlow = (A.each x c).low in
    let above = form.above in
    let inside = form.inside in
    let near = form.near in
    let room = form.room in
    let place = a.placed.0.2.below in
    let second = a.placed.2.0.2.below in (
      λ m h. inr (
        x.addr + i,
        short_leads m site.addr (x.addr + i) (omega (arith, above, room)) (omega (arith, near)) (omega (arith, low, room)) h.0,
        form.unlisted,
        standing_jumps_lead m (x.addr + i) (x.len - i) 0 t (omega arith) (omega (arith, vlow, inside.1)) (omega (arith, place)) h.1.0,
      ),
      (λ m h. inl (standing_jumps_lead m x.addr x.len 0 u (omega arith) (omega (arith, vlow)) (omega (arith, second)) h.1.1.0), tt),
    )
near_leads v site (B1 t) A E e a = absurd cc
near_leads v site (B2 t) A E e a = absurd cc
near_leads v site (T1 p t) A E e a = absurd cc
near_leads v site (T2 x p q pad n t u) A E e a = absurd cc
