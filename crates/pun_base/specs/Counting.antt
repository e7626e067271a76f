-- How counts of calls and of faults go up. Theorems cite it.
use Rattle.std.specs.Prelude.{ℕ, ◌+◌, ◌-◌, ◌^◌, min, Ok, Err}
use Rattle.pun_base.specs.Desk.{PutResult, ReadResult}
use Rattle.pun_base.specs.declared.desk.PutError.TheVariants as put
use Rattle.pun_base.specs.declared.desk.ReadError.TheVariants as read

-- A count goes up by one, and stays at the end of its type.
abbrev pub one_more : ℕ → ℕ
one_more n = min (n + 1) (2 ^ 64 - 1)

-- A count of faults goes up by one at `Failed`, and stays at each other answer.
abbrev pub faults_after : PutResult → ℕ → ℕ
faults_after (Ok u) n = n
faults_after (Err put.Memory) n = n
faults_after (Err put.Failed) n = one_more n

-- The same of a read.
abbrev pub faults_after_read : ReadResult → ℕ → ℕ
faults_after_read (Ok bytes) n = n
faults_after_read (Err read.Memory) n = n
faults_after_read (Err (read.TooLong len)) n = n
faults_after_read (Err read.Failed) n = one_more n
