-- A guest as callers see it. Theorems cite it.
use Rattle.std.specs.Prelude.{ℕ, List}
use Rattle.cpu_state.specs.declared.script.Script.{Script}

-- its file, its starts, its sites and its script
pub record GuestParts : Type 0 where
  pub file : List ℕ
  pub starts : List ℕ
  pub sites : List ℕ
  pub script : Script
