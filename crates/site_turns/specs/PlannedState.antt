-- What was planned, as clauses see it. Theorems cite it.
use Rattle.std.specs.Prelude.{◌+◌, ◌^◌, ◌<◌, ◌≤◌, List, length}
use Rattle.pun_base.specs.declared.range.Range.{Range}
use Rattle.elf_emit.specs.declared.built.Built.{Built}
use Rattle.patch_report.specs.declared.row.ReportRow.{ReportRow}

-- The private range, a row for each site in turn order, and the code of each trampoline in the order of the rows.
pub record PlannedState : Type 0 where
  pub private : Range
  pub rows : List ReportRow
  pub built : List Built

-- A trampoline's code has bytes, and ends among addresses of 32 bits.
pub record EndsLow (b : Built) : Type 0 where
  pub some : 1 ≤ length b.code.bytes
  pub low : b.place + length b.code.bytes < 2 ^ 32
