-- What a write does to what a sink shows. Theorems cite it.
use Rattle.std.specs.Prelude.{◌≡◌, ℕ, ◌++◌, ◌≤◌, List, take, Ok, Err}
use Rattle.pun_base.specs.Shown.{SinkState, Told, Rose}
use Rattle.pun_base.specs.Desk.{PutResult}
use Rattle.pun_base.specs.declared.desk.PutError.TheVariants as put

-- On `Ok` the bytes are appended, after a refusal a prefix of them.
abbrev pub Extended : List ℕ → PutResult → List ℕ → List ℕ → Type 0
Extended bytes (Ok u) old new = new ≡ old ++ bytes
Extended bytes (Err e) old new = (k : ℕ) × (new ≡ old ++ take k bytes)

-- A write answers `Failed` only where the count of faults rose in it.
abbrev pub WriteCause : SinkState → SinkState → PutResult → Type 0
WriteCause old new (Ok u) = Unit {0}
WriteCause old new (Err put.Memory) = Unit {0}
WriteCause old new (Err put.Failed) = Rose old.faults new.faults

-- A write of bytes.
pub record Writes (bytes : List ℕ) (old new : SinkState) (result : PutResult) : Type 0 where
  pub written : Told (Extended bytes result) old.written new.written
  pub later : old.faults ≤ new.faults
  pub cause : WriteCause old new result

-- What a sink keeps through every call: its count never falls, and what was written only grows.
pub record Grows (old new : SinkState) : Type 0 where
  pub faults : old.faults ≤ new.faults
  pub written : Told (λ was is. (text : List ℕ) × (is ≡ was ++ text)) old.written new.written
