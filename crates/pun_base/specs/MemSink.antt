-- What a sink in memory shows of itself. Theorems cite it.
use Rattle.std.specs.Prelude.{◌≡◌, ℕ, List, [], Option, Some}
use Rattle.pun_base.specs.Shown.{SinkState}
use Rattle.pun_base.specs.Counting.{one_more}

-- The meanings of a sink in memory.
pub record MemSinkState : Type 0 where
  -- what was written
  pub bytes : List ℕ
  -- how many writes were made, and how many of them have failed
  pub writes : ℕ
  pub faults : ℕ
  -- the number of the write that is to fail
  pub fail_at : Option ℕ

-- Nothing was written yet.
abbrev pub new_sink : Option ℕ → MemSinkState
new_sink fail_at = record { bytes = []; writes = 0; faults = 0; fail_at = fail_at }

-- As every sink is seen: it tells what was written.
abbrev pub seen_sink : MemSinkState → SinkState
seen_sink s = record { written = Some s.bytes; faults = s.faults }

-- The next write is to fail.
abbrev pub IsWriteToFail : MemSinkState → Type 0
IsWriteToFail s = s.fail_at ≡ Some (one_more s.writes)
