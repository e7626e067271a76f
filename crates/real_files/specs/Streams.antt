-- What whole byte lists do to a writer and a reader whose bytes are known. Contracts of private functions alone cite it.
use Rattle.std.specs.Prelude.{◌≡◌, ℕ, ◌+◌, ◌<◌, ◌≤◌, List, length, take, Option, None, Some, Ok, Err}
use Rattle.std.specs.Io.KnownBytes.{Appends, Consumes}
use Rattle.pun_base.specs.Desk.{PutResult, ReadResult}
use Rattle.pun_base.specs.declared.desk.ReadError.TheVariants as read

-- The writer has grown by a front of the bytes.
abbrev pub AppendsFront : Option (List ℕ) → Option (List ℕ) → List ℕ → Type 0
AppendsFront old new bytes = (k : ℕ) × Appends old new (take k bytes)

-- On `Ok` the writer has grown by the bytes, after an error by a front of them.
abbrev pub AppendsWhole : List ℕ → PutResult → Option (List ℕ) → Option (List ℕ) → Type 0
AppendsWhole bytes (Ok u) old new = Appends old new bytes
AppendsWhole bytes (Err e) old new = AppendsFront old new bytes

-- What reading to the end answers, where the bytes that the reader has are known: all of them, or that they are more
-- than `most`, of which one more than that was read.
abbrev pub GivesAll : ℕ → ReadResult → Option (List ℕ) → Type 0
GivesAll most answer None = Unit {0}
GivesAll most (Ok bytes) (Some known) = bytes ≡ known
GivesAll most (Err (read.TooLong len)) (Some known) = (len ≡ most + 1) × (most < length known)
GivesAll most (Err other) (Some known) = Unit {0}

-- At most this many bytes were taken from the reader.
abbrev pub ConsumesUpTo : ℕ → Option (List ℕ) → Option (List ℕ) → Type 0
ConsumesUpTo most old new = (bytes : List ℕ) × (length bytes ≤ most) × Consumes old new bytes
