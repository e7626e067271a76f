-- How long the code is that does an instruction's work elsewhere, where threads share memory too.
use Rattle.std.proofs.Common.{◌≡◌, ℕ, ◌+◌, Bool, true, false, cond, Option, Some, None, is_some, option_map, refl, ap}
use Rattle.insn_form.specs.declared.form.Insn.{Insn}
use Rattle.insn_form.specs.Displacing.{displaced_len, falls}
use Rattle.trampoline.specs.Atomic.{is_atomic, can_by}
use Rattle.start_entries.specs.declared.entry.StartEntry.{StartEntry}
use Rattle.start_list.specs.Forms.{work_by, work_length, can_where, DisplacedAreAsLong}

-- what is mapped only where a test holds is mapped
tested : (f : ℕ → ℕ) (b : Bool) (o : Option ℕ) (n : ℕ) → option_map f (cond b o None) ≡ Some n → option_map f o ≡ Some n
tested f true o n h = h
tested f false o n h = absurd (cc)

-- an instruction that may be displaced where threads share memory has as many bytes of code there
as_long : (o : Option Insn) (len addr n : ℕ) → can_by o len addr ≡ Some n → work_by o len addr ≡ Some n
as_long None len addr n h = absurd (cc)
as_long (Some i) len addr n h = tested (λ n. n + cond (falls i) 5 0) (is_atomic i) (displaced_len i len addr) n h

-- an instruction that may be displaced has as many bytes of code as where one thread runs
pub displaced_are_as_long : DisplacedAreAsLong
displaced_are_as_long false e n h = h
displaced_are_as_long true e n h = as_long e.form e.len e.addr n h

-- what may be displaced has code that does its work elsewhere
pub displaced_has_work : (threads : Bool) (e : StartEntry) → is_some (can_where threads e) ≡ true → is_some (work_length e) ≡ true
displaced_has_work threads e h = by_can (can_where threads e) refl h
  where
    by_can : (o : Option ℕ) → can_where threads e ≡ o → is_some o ≡ true → is_some (work_length e) ≡ true
    by_can None k l = absurd (cc)
    by_can (Some n) k l = ap is_some (displaced_are_as_long threads e n k)
