-- Registers, flags and bases that are compared.
use Rattle.std.proofs.Common.{◌≡◌, Bool, true, false, eqb, ◌&&◌, refl}
use Rattle.std.proofs.Math.Bool.{beq}
use Rattle.std.specs.Str.{bytes_eq}
use Rattle.std.proofs.lemmas.Bool.{and_parts, eqb-true}
use Rattle.std.proofs.lemmas.Slice.Eq.{bytes_eq-Decides}
use Rattle.cpu_alu.specs.declared.flag_word.Flags.{Flags}
use Rattle.cpu_state.specs.declared.state.Core.{Core}

-- flags of one value
same_flag : (x y : Bool) → beq x y ≡ true → x ≡ y
same_flag true true e = refl
same_flag true false e = cc
same_flag false true e = cc
same_flag false false e = refl

-- how flags are compared
abbrev are_same_flags : Flags → Flags → Bool
are_same_flags a b =
    beq a.cf b.cf && (beq a.pf b.pf && (beq a.af b.af && (beq a.zf b.zf && (beq a.sf b.sf && (beq a.of b.of
    && eqb a.rest b.rest)))))

-- what that tells
same_flags : (a b : Flags) → are_same_flags a b ≡ true → a ≡ b
same_flags a b h =
    let c = and_parts (beq a.cf b.cf) _ h in
    let p = and_parts (beq a.pf b.pf) _ c.1 in
    let f = and_parts (beq a.af b.af) _ p.1 in
    let z = and_parts (beq a.zf b.zf) _ f.1 in
    let s = and_parts (beq a.sf b.sf) _ z.1 in
    let o = and_parts (beq a.of b.of) _ s.1 in
    let cf : a.cf ≡ b.cf = same_flag a.cf b.cf c.0 in
    let pf : a.pf ≡ b.pf = same_flag a.pf b.pf p.0 in
    let af : a.af ≡ b.af = same_flag a.af b.af f.0 in
    let zf : a.zf ≡ b.zf = same_flag a.zf b.zf z.0 in
    let sf : a.sf ≡ b.sf = same_flag a.sf b.sf s.0 in
    let of : a.of ≡ b.of = same_flag a.of b.of o.0 in
    let rest : a.rest ≡ b.rest = eqb-true a.rest b.rest o.1 in
    λ i. record { cf = cf i; pf = pf i; af = af i; zf = zf i; sf = sf i; of = of i; rest = rest i }

-- how cores are compared
abbrev are_same_cores : Core → Core → Bool
are_same_cores a b = bytes_eq a.regs b.regs && (are_same_flags a.flags b.flags && (eqb a.fs b.fs && eqb a.gs b.gs))

-- what that tells
pub same_core : (a b : Core) → are_same_cores a b ≡ true → a ≡ b
same_core a b h =
    let r = and_parts (bytes_eq a.regs b.regs) _ h in
    let f = and_parts (are_same_flags a.flags b.flags) _ r.1 in
    let s = and_parts (eqb a.fs b.fs) _ f.1 in
    let regs : a.regs ≡ b.regs = (bytes_eq-Decides a.regs b.regs).0 r.0 in
    let flags : a.flags ≡ b.flags = same_flags a.flags b.flags f.0 in
    let fs : a.fs ≡ b.fs = eqb-true a.fs b.fs s.0 in
    let gs : a.gs ≡ b.gs = eqb-true a.gs b.gs s.1 in
    λ i. record { regs = regs i; flags = flags i; fs = fs i; gs = gs i }
