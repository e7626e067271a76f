-- What commands read: their inputs in order, what reading them comes to, and why it fails. Theorems cite it. In all of it s and t are what
-- the desk shows before and after, k and l what the sink shows.
use Rattle.std.specs.Prelude.{◌≡◌, ℕ, ◌≤◌, ◌⊎◌, true, nat_lt, if◌then◌else◌, List, [], ◌∷◌, length, Option, Some, None, IsSomeAnd}
use Rattle.pun_base.specs.Shown.{Files, DeskState, SinkState, Rose}
use Rattle.command_io.specs.Messages.{Spoilt}
use Rattle.command_io.specs.declared.ends.Input.{Input}

-- The most bytes that an input has.
abbrev pub most : ℕ
most = 268435456

-- Inputs in the order in which they are read, each with its name.
abbrev pub Inputs : Type 0
Inputs = List (Input × List ℕ)

-- ---- what is to be said of the files

-- What reading inputs comes to: the bytes of each, or the first that isn't held, or that has too many bytes.
pub data Gathered : Type 0 where
  Missing : (name : List ℕ) → Gathered
  TooLong : (which : Input) → Gathered
  All : (texts : List (List ℕ)) → Gathered

-- One more input's bytes in front.
abbrev pub with_first : List ℕ → Gathered → Gathered
with_first bytes (All texts) = All (bytes ∷ texts)
with_first bytes other = other

-- The first input, and what reading the later ones comes to.
abbrev pub first_of : Option (List ℕ) → Input × List ℕ → Gathered → Gathered
first_of None x later = Missing x.1
first_of (Some bytes) x later = if nat_lt most (length bytes) then TooLong x.0 else with_first bytes later

-- What reading these inputs of a desk comes to.
abbrev pub gathered : Files → Inputs → Gathered
gathered files [] = All []
gathered files (x ∷ xs) = first_of (files x.1) x (gathered files xs)

-- The name is that of an input.
abbrev pub IsNamed : Inputs → List ℕ → Type 0
IsNamed [] name = ⊥
IsNamed (x ∷ xs) name = (name ≡ x.1) ⊎ IsNamed xs name

-- An input is held and within the limit.
abbrev pub IsWithin : Files → List ℕ → Type 0
IsWithin files name = IsSomeAnd (files name) (λ bytes. length bytes ≤ most)

-- The name is that of an input, and the inputs before it are held and within the limit.
abbrev pub IsReached : Files → Inputs → List ℕ → Type 0
IsReached files [] name = ⊥
IsReached files (x ∷ xs) name = (name ≡ x.1) ⊎ (IsWithin files x.1 × IsReached files xs name)

-- ---- what reading does, and why it fails

-- Where the desk tells what it holds, this is so of it.
abbrev pub WhereTold : DeskState → (Files → Type 0) → Type 0
WhereTold s P = (files : Files) → s.held ≡ Some files → P files

-- Nothing was done but reading.
pub record OnlyReads (s t : DeskState) : Type 0 where
  pub held : t.held ≡ s.held
  pub writing : t.writing ≡ s.writing
  pub writes : t.write_faults ≡ s.write_faults
  pub later : s.read_faults ≤ t.read_faults
  pub sure : s.sure ≡ true → t.sure ≡ true

-- A read failed.
abbrev pub ReadFails : DeskState → DeskState → ℕ → Type 0
ReadFails s t status = (status ≡ 4) × Rose s.read_faults t.read_faults

-- A read failed, or the sink did, or memory ran out.
abbrev pub IsHindered : DeskState → DeskState → SinkState → SinkState → ℕ → Type 0
IsHindered s t k l status = ReadFails s t status ⊎ Spoilt k l status

-- The name of an input that couldn't be read. On a sure desk it isn't held.
pub record IsUnread (xs : Inputs) (s t : DeskState) (name : List ℕ) : Type 0 where
  pub rose : Rose s.read_faults t.read_faults
  pub input : IsNamed xs name
  pub reached : WhereTold s (λ files. IsReached files xs name)
  pub missing : WhereTold s (λ files. s.sure ≡ true
      → (files name ≡ None) × (gathered files xs ≡ Missing name))
