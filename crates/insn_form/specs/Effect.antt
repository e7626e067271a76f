-- What an operation does: at most one read and one write, at places that don't depend on what is read. Theorems cite it.
use Rattle.std.specs.Prelude.{ℕ, Option, Some, None}
use Rattle.cpu_state.specs.declared.state.Core.{Core}
use Rattle.insn_form.specs.declared.effect.Span.{Span}
use Rattle.insn_form.specs.declared.effect.Out.{Out}

-- where an operation reads and writes, and what it makes of what was read
pub record Effect : Type 0 where
  pub read : Option Span
  pub write : Option Span
  -- from the number that was read, 0 where nothing is
  pub out : ℕ → Out

-- the run goes on at the next instruction; v is written
abbrev pub to_next : Core → ℕ → Out
to_next c v = record { core = c; target = None; value = v; undefined = 0 }

-- it goes on at an address
abbrev pub to_target : ℕ → Core → ℕ → Out
to_target target c v = record { core = c; target = Some target; value = v; undefined = 0 }

-- registers and flags alone change
abbrev pub in_core : Core → Effect
in_core c = record { read = None; write = None; out = λ v. to_next c 0 }

-- of two spans of which one at most is there
abbrev pub either_span : Option Span → Option Span → Option Span
either_span None s = s
either_span (Some r) s = Some r
