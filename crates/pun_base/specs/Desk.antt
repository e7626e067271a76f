-- What the calls of a desk do to what it shows. Theorems cite it.
use Rattle.std.specs.Prelude.{◌≡◌, ℕ, ◌++◌, ◌<◌, ◌≤◌, ◌⊎◌, Bool, true, false, List, [], length, take, Option, Some, None, Result, Ok, Err}
use Rattle.std.specs.Str.{bytes_eq}
use Rattle.pun_base.specs.Shown.{Files, DeskState, with_file, Told, Rose}
use Rattle.pun_base.specs.declared.desk.PutError.{PutError}
use Rattle.pun_base.specs.declared.desk.PutError.TheVariants as put
use Rattle.pun_base.specs.declared.desk.ReadError.{ReadError}
use Rattle.pun_base.specs.declared.desk.ReadError.TheVariants as read

-- What a writing call answers.
abbrev pub PutResult : Type 0
PutResult = Result (Unit {0}) PutError

-- A writing call answers `Failed` only where the count of write faults rose in it, and never on a sure desk.
abbrev pub PutCause : DeskState → DeskState → PutResult → Type 0
PutCause old new (Ok u) = Unit {0}
PutCause old new (Err put.Memory) = Unit {0}
PutCause old new (Err put.Failed) = Rose old.write_faults new.write_faults × (old.sure ≡ true → ⊥)

-- A sure desk stays sure, and its count of write faults stays.
abbrev pub StaysSure : DeskState → DeskState → Type 0
StaysSure old new = old.sure ≡ true → (new.sure ≡ true) × (new.write_faults ≡ old.write_faults)

-- What `begin`, `put` and `end` have in common.
pub record Counts (old new : DeskState) (result : PutResult) : Type 0 where
  pub reads : new.read_faults ≡ old.read_faults
  pub later : old.write_faults ≤ new.write_faults
  pub sure : StaysSure old new
  pub cause : PutCause old new result

-- After `Ok` the name is being written, after a refusal nothing is.
abbrev pub writing_after : List ℕ → PutResult → Option (List ℕ)
writing_after name (Ok u) = Some name
writing_after name (Err e) = None

-- `begin`: on `Ok` the name holds the empty list. After a refusal it holds what it held, or the empty list.
abbrev pub Begun : List ℕ → PutResult → Files → Files → Type 0
Begun name (Ok u) old new = new ≡ with_file old name []
Begun name (Err e) old new = (new ≡ old) ⊎ (new ≡ with_file old name [])

-- `put`: on `Ok` the bytes are appended, after a refusal a prefix of them.
abbrev pub Grown : List ℕ → List ℕ → PutResult → Files → Files → Type 0
Grown name bytes (Ok u) old new = (was : List ℕ) → old name ≡ Some was → new ≡ with_file old name (was ++ bytes)
Grown name bytes (Err e) old new =
    (was : List ℕ) → old name ≡ Some was → (k : ℕ) × (new ≡ with_file old name (was ++ take k bytes))

-- Each other name holds what it held.
abbrev pub KeepsOthers : List ℕ → Files → Files → Type 0
KeepsOthers name old new = (other : List ℕ) → bytes_eq name other ≡ false → new other ≡ old other

-- `begin` of a name.
pub record Begins (name : List ℕ) (old new : DeskState) (result : PutResult) : Type 0 where
  pub held : Told (Begun name result) old.held new.held
  pub writing : new.writing ≡ writing_after name result
  pub counts : Counts old new result

-- `put`, while a name is being written.
pub record Puts (name bytes : List ℕ) (old new : DeskState) (result : PutResult) : Type 0 where
  pub held : Told (Grown name bytes result) old.held new.held
  pub others : Told (KeepsOthers name) old.held new.held
  pub writing : new.writing ≡ writing_after name result
  pub counts : Counts old new result

-- The answer isn't want of memory.
abbrev pub NotMemory : PutResult → Type 0
NotMemory (Ok u) = Unit {0}
NotMemory (Err put.Failed) = Unit {0}
NotMemory (Err put.Memory) = ⊥

-- `end`.
pub record Ends (old new : DeskState) (result : PutResult) : Type 0 where
  pub held : new.held ≡ old.held
  pub writing : new.writing ≡ None
  pub counts : Counts old new result
  pub not_memory : NotMemory result

-- A whole file was written: all of it, or after a refusal a prefix, or what was there before.
abbrev pub Filled : List ℕ → List ℕ → PutResult → Files → Files → Type 0
Filled name bytes (Ok u) old new = new ≡ with_file old name bytes
Filled name bytes (Err e) old new = (new ≡ old) ⊎ (k : ℕ) × (new ≡ with_file old name (take k bytes))

-- The writing of a whole file, by these calls.
pub record Fills (name bytes : List ℕ) (old new : DeskState) (result : PutResult) : Type 0 where
  pub held : Told (Filled name bytes result) old.held new.held
  pub writing : new.writing ≡ None
  pub counts : Counts old new result

-- What `read` answers: bytes as a list.
abbrev pub ReadResult : Type 0
ReadResult = Result (List ℕ) ReadError

-- A result whose value is seen as a list.
abbrev pub as_list : {V E : Type 0} → (V → List ℕ) → Result V E → Result (List ℕ) E
as_list f (Ok v) = Ok (f v)
as_list f (Err e) = Err e

-- `read` where the desk tells what is held.
abbrev pub Shows : List ℕ → ℕ → Files → Bool → ReadResult → Type 0
Shows name most files sure (Ok bytes) = (files name ≡ Some bytes) × (length bytes ≤ most)
Shows name most files sure (Err read.Memory) = Unit {0}
Shows name most files sure (Err (read.TooLong len)) =
    (bytes : List ℕ) × (files name ≡ Some bytes) × (len ≡ length bytes) × (most < len)
Shows name most files sure (Err read.Failed) = sure ≡ true → files name ≡ None

-- The same, whether or not it tells that.
abbrev pub ShowsIfTold : List ℕ → ℕ → DeskState → ReadResult → Type 0
ShowsIfTold name most s r = (files : Files) → s.held ≡ Some files → Shows name most files s.sure r

-- `read`, told or not.
abbrev pub ReadCause : ℕ → ℕ → ℕ → ReadResult → Type 0
ReadCause most old new (Ok bytes) = length bytes ≤ most
ReadCause most old new (Err read.Memory) = Unit {0}
ReadCause most old new (Err (read.TooLong len)) = most < len
ReadCause most old new (Err read.Failed) = Rose old new

-- `read` of a name, of at most so many bytes.
pub record Reads (name : List ℕ) (most : ℕ) (old new : DeskState) (result : ReadResult) : Type 0 where
  pub held : new.held ≡ old.held
  pub writing : new.writing ≡ old.writing
  pub writes : new.write_faults ≡ old.write_faults
  pub later : old.read_faults ≤ new.read_faults
  pub sure : old.sure ≡ true → new.sure ≡ true
  pub shows : ShowsIfTold name most old result
  pub cause : ReadCause most old.read_faults new.read_faults result

-- What a desk keeps through every call: its counts never fall, a sure desk stays sure, and a desk that tells goes on
-- telling.
pub record Stays (old new : DeskState) : Type 0 where
  pub reads : old.read_faults ≤ new.read_faults
  pub writes : old.write_faults ≤ new.write_faults
  pub sure : old.sure ≡ true → new.sure ≡ true
  pub tells : Told (λ was is. Unit {0}) old.held new.held
