-- The runs of written bytes that a report tells. Theorems cite it.
use Rattle.std.specs.Prelude.{ℕ, ◌+◌, nat_le, nat_lt, Bool, ◌&&◌, List, [], length}
use Rattle.std.specs.List.{flat_map}
use Rattle.patch_report.specs.Values.{BodyValue, OutcomeValue, patched, left, WriteValue}

-- The runs that a plan writes; none where the site is left.
abbrev pub runs_of : OutcomeValue → List WriteValue
runs_of (patched p) = p.writes
runs_of (left why) = []

-- All of them, in turn order.
abbrev pub runs : BodyValue → List WriteValue
runs v = flat_map (λ r. runs_of r.outcome) v.rows

-- An address is in a run.
abbrev pub in_run : ℕ → WriteValue → Bool
in_run x w = nat_le w.addr x && nat_lt x (w.addr + length w.was)
