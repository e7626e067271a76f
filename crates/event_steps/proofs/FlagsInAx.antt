-- The flags in ax come back, and so does rax.
use Rattle.std.proofs.Common.{◌≡◌, ℕ, suc, ◌+◌, ◌*◌, ◌/◌, ◌%◌, ◌^◌, ◌<◌, false, set, ap, ◌∙◌, arith}
use Rattle.std.proofs.lemmas.List.{get_or-set_same, get_or-set_other, set-set, set-get_or}
use Rattle.cpu_alu.specs.declared.flag_word.Flags.{Flags}
use Rattle.cpu_alu.specs.declared.operation.Width.TheVariants.{W8}
use Rattle.cpu_alu.specs.Sums.{total, overflows}
use Rattle.cpu_alu.specs.Sums.Way.{Plus}
use Rattle.cpu_state.specs.declared.state.Core.{Core}
use Rattle.cpu_state.specs.Processor.{IsProcessorCore}
use Rattle.insn_form.specs.declared.form.Op.TheVariants.{Lahf, Sahf}
use Rattle.insn_form.specs.Operands.{reg, with_reg, with_flags, rax}
use Rattle.insn_form.specs.FlagMoves.{low_flags, flags_from}
use Rattle.insn_form.specs.Conditions.{is_met}
use Rattle.insn_form.specs.FlagsBack.{core_after, add_al, kept_in_ax}
use Rattle.insn_form.specs.Meaning.{effect}
use Rattle.insn_form.proofs.KeptFlags.{gives_five, low_small, bit, bit_small, over, kept_rax, kept, ah_low, al_bit}
use Rattle.event_steps.specs.SavedInAx.{IsGivingBack}

-- setting rax leaves each other register as it is
pub reg_other : (c : Core) (r v : ℕ) → reg (with_reg c rax v) (suc r) ≡ reg c (suc r)
reg_other c r v = get_or-set_other c.regs 0 (suc r) v 0 (λ e. absurd cc)

-- so do the flags that are kept in ax
pub ax_other : (c : Core) (r : ℕ) → reg (kept_in_ax c) (suc r) ≡ reg c (suc r)
unfolding effect is_met
ax_other c r = reg_other (core_after Lahf 0 c) r _ ∙ reg_other c r _

-- setting rax twice is setting it to the second value
pub twice : (c : Core) (x y : ℕ) → with_reg (with_reg c rax x) rax y ≡ with_reg c rax y
twice c x y = let e = set-set c.regs 0 x y in λ i. record { regs = e i; flags = c.flags; fs = c.fs; gs = c.gs }

-- setting rax to what it is changes nothing
pub same_reg : (c : Core) (x : ℕ) → x ≡ reg c rax → with_reg c rax x ≡ c
same_reg c x e = let q = ap (set c.regs 0) e ∙ set-get_or c.regs 0 0 in λ i. record { regs = q i; flags = c.flags; fs = c.fs; gs = c.gs }

-- ADD al, 7F where ax has all six flags
high_stays : (y t : ℕ) → (y / 256 * 256 + t % 256) / 256 % 256 ≡ y / 256 % 256
high_stays y t = omega arith

-- the low byte of a number has itself as low byte
low_twice : (y : ℕ) → y % 256 % 256 ≡ y % 256
low_twice y = omega arith

-- ADD al, 7F gives OF back, and leaves the flags in AH as they are
pub given : (c : Core) (f : Flags) → IsProcessorCore c → f.rest ≡ c.flags.rest → IsGivingBack c (core_after add_al 0 (with_flags (kept_in_ax c) f))
unfolding effect is_met
given c f h r =
    let d = with_flags (kept_in_ax c) f in
    let y = reg d rax in
    let t = total Plus W8 (y % 256 % 256) 0x7f false in
    let k : y ≡ kept_rax (reg c rax) c.flags = kept c h in
    let l = low_small c.flags in let b = bit_small c.flags.of in
    record {
      value = y / 256 * 256 + t % 256;
      flags = (core_after add_al 0 d).flags;
      high = high_stays y t ∙ ap (λ z. z / 256 % 256) k ∙ ah_low (reg c rax) (low_flags c.flags) (bit c.flags.of) l b;
      over = ap (λ z. overflows Plus W8 z 0x7f false) (low_twice y ∙ ap (λ z. z % 256) k ∙ al_bit (reg c rax) (low_flags c.flags) (bit c.flags.of) l b) ∙ over c.flags.of;
      rest = r;
      core = (let e = set-set (set c.regs 0 _) 0 _ (y / 256 * 256 + t % 256) ∙ set-set c.regs 0 _ (y / 256 * 256 + t % 256) in
          λ i. record { regs = e i; flags = (core_after add_al 0 d).flags; fs = c.fs; gs = c.gs });
    }

-- SAHF
pub back : (c : Core) (v : ℕ) (f : Flags) → IsProcessorCore c → v / 256 % 256 ≡ low_flags c.flags → f.of ≡ c.flags.of → f.rest ≡ c.flags.rest
    → core_after Sahf 0 (with_flags (with_reg c rax v) f) ≡ with_reg c rax v
unfolding effect
back c v f h a o r =
    let g = c.flags in
    let n : reg (with_reg c rax v) rax ≡ v = get_or-set_same c.regs 0 v 0 (omega (arith, h.count)) in
    let e = ap (λ z. flags_from (z / 256 % 256) f) n ∙ ap (λ z. flags_from z f) a ∙ gives_five g f in
    let all : flags_from (reg (with_reg c rax v) rax / 256 % 256) f ≡ g = e ∙ (λ i. record { cf = g.cf; pf = g.pf; af = g.af; zf = g.zf; sf = g.sf; of = o i; rest = r i }) in
    ap (with_flags (with_reg c rax v)) all

-- a number of 64 bits, cut
pub cut : (x : ℕ) → x < 2 ^ 64 → x % 2 ^ 64 ≡ x
cut x l = omega (arith, l)

-- LAHF, SETO al, steps that change flags, ADD al, 7F and SAHF: all is as before but rax
pub flags_back : (c : Core) (f : Flags) → IsProcessorCore c → f.rest ≡ c.flags.rest → (v : ℕ) × (core_after Sahf 0 (core_after add_al 0 (with_flags (kept_in_ax c) f)) ≡ with_reg c rax v)
flags_back c f h r = let g = given c f h r in (g.value, ap (core_after Sahf 0) g.core ∙ back c g.value g.flags h g.high g.over g.rest)

-- and where rax then comes back, all
pub all_back : (c : Core) (f : Flags) (x : ℕ) → IsProcessorCore c → f.rest ≡ c.flags.rest → x ≡ reg c rax → with_reg (core_after Sahf 0 (core_after add_al 0 (with_flags (kept_in_ax c) f))) rax x ≡ c
all_back c f x h r e = let q = flags_back c f h r in ap (λ z. with_reg z rax x) q.1 ∙ twice c q.0 x ∙ same_reg c x e
