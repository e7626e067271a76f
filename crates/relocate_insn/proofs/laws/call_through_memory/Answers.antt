use Rattle.std.proofs.Common.{◌≡◌, inl, inr, ℕ, zero, suc, ◌<◌, ◌≤◌, ◌^◌, true, ◌∷◌, replicate, refl, sym, ap, arith}
use Rattle.std.specs.Prelude.{nat_le, nat_lt, slice_index}
use Rattle.std.proofs.lemmas.Bool.{and_from, le-leb, lt-ltb, true≢false}
use Rattle.pun_base.specs.Memory.{Cell}
use Rattle.cpu_state.specs.Bytes.{number_at}
use Rattle.length_decode.specs.Spelling.{IsInstruction}
use Rattle.insn_form.specs.Classes.{template}
use Rattle.insn_form.specs.Filling.{filled}
use Rattle.insn_form.specs.Instruction.{insn_of}
use Rattle.insn_form.specs.Displacing.{falls}
use Rattle.insn_form.specs.Meaning.{effect}
use Rattle.insn_form.specs.Machine.{Machine}
use Rattle.insn_form.specs.Step.{StepsBy}
use Rattle.relocate_insn.specs.Running.{IsReady, Works}
use Rattle.relocate_insn.specs.Worked.{call_at_rbx, call_code, call_private, is_between, before_call, after_call, LeadsToCalled}
use Rattle.relocate_insn.proofs.CodeRuns.{relocated_works}
use Rattle.relocate_insn.proofs.WorkedStates.{small_zeros, range_allows}
use Rattle.relocate_insn.proofs.laws.call_through_memory.Goals as goal

-- an address of the private range is in it
private_is : (x : ℕ) → 0x20000 ≤ x → x < 0x20018 → is_between 0x20000 0x20018 x ≡ true
private_is x h k = and_from (nat_le 0x20000 x) (nat_lt x 0x20018) (le-leb 0x20000 x h) (lt-ltb x 0x20018 k)

-- the registers have 64 bits
small : (r : ℕ) → slice_index (7 ∷ 0 ∷ 0 ∷ 0x600ef8 ∷ 0x600f00 ∷ replicate 11 0) r < 2 ^ 64
small zero = omega arith
small (suc zero) = omega arith
small (suc (suc zero)) = omega arith
small (suc (suc (suc zero))) = omega arith
small (suc (suc (suc (suc zero)))) = omega arith
small (suc (suc (suc (suc (suc r))))) = small_zeros 11 r

-- a byte of the private range
abbrev cell : Cell
cell = record { byte = 0; perms = 6 }

-- the call is an instruction
call_is : IsInstruction call_at_rbx
unfolding template filled
call_is = record { formed = assumption (refl, tt); short = omega arith }

-- it makes its step
call_steps : StepsBy call_private call_at_rbx (before_call 0x401000) after_call
unfolding template filled effect
call_steps = record {
  at = record { spelled = call_is; here = assumption (refl, tt) };
  apart = refl;
  acts = refl;
}

-- its code is ready
call_ready : IsReady call_private 0x20000 24 0x21008 call_code (before_call 0x401000) (before_call 0x21008)
unfolding template filled
call_ready = record {
  processor = record { count = refl; small = small };
  seen = refl;
  there = refl;
  stands = assumption (refl, tt);
  range = record {
    inside = private_is;
    read = λ x l k. range_allows 4 cell refl (is_between 0x20000 0x20018 x) (private_is x l k) _;
    written = λ x l k. range_allows 2 cell refl (is_between 0x20000 0x20018 x) (private_is x l k) _;
    low = omega arith;
  };
}

-- what the law says of it
call_works : Works call_private (insn_of call_at_rbx) 0x20000 0x401002 0x21008 39 after_call (before_call 0x21008)
unfolding template filled
call_works = relocated_works call_at_rbx 0x401000 0x21008 0x20000 39 call_is refl (omega arith) (omega arith)
    call_private (before_call 0x401000) after_call (before_call 0x21008) refl call_steps call_ready

-- a call doesn't fall through
no_fall : falls (insn_of call_at_rbx) ≡ true → ⊥
unfolding template filled
no_fall h = true≢false (sym h)

-- so the code ends at the target
call_leads : LeadsToCalled (before_call 0x21008)
unfolding template filled
call_leads = record {
  inner = call_works.inner;
  end = call_works.end;
  run = call_works.run;
  few = call_works.few;
  called = record {
    rip = elim call_works.arrives [ inl e ↦ e | inr q ↦ absurd (no_fall q.0) ];
    regs = ap (λ (z : Machine). z.core.regs) call_works.seen;
    pushed = ap (λ (z : Machine). number_at z.mem 0x600ef8 8) call_works.seen;
  };
}

pub returns : goal.returns
unfolding template filled
returns c = record {
  code = refl;
  target = refl;
  steps = call_steps;
  called = record { rip = refl; regs = refl; pushed = refl };
  ready = call_ready;
  leads = call_leads;
}
