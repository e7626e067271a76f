-- Laws of spellings: each is read back, and none begins another. Theorems cite it.
use Rattle.std.specs.Prelude.{◌≡◌, ℕ, List, [], ◌++◌, Ok}
use Rattle.length_decode.specs.declared.instruction_parts.Parts.{Parts}
use Rattle.length_decode.specs.declared.instruction_parts.Shape.TheVariants.{Known}
use Rattle.length_decode.specs.Spelling.{Fields, IsFormed, IsInstruction, spelling, parts_of, IsSpelling}
use Rattle.length_decode.specs.Parse.{parse, shape_of}

-- no proper prefix of a spelling is a spelling
abbrev pub IsPrefixFree : Type 0
IsPrefixFree = (bytes more : List ℕ) (p q : Parts) → IsSpelling bytes p → IsSpelling (bytes ++ more) q → more ≡ []

-- a spelling has one set of parts
abbrev pub HasOneParts : Type 0
HasOneParts = (bytes : List ℕ) (p q : Parts) → IsSpelling bytes p → IsSpelling bytes q → p ≡ q

-- bytes begin with the fields of one instruction at most
abbrev pub HasOneFields : Type 0
HasOneFields = (f g : Fields) (more rest : List ℕ) → IsFormed f → IsFormed g → spelling f ++ more ≡ spelling g ++ rest → f ≡ g

-- a spelling followed by anything is read back
abbrev pub IsReadBack : Type 0
IsReadBack = (f : Fields) (rest : List ℕ) → IsFormed f → parse (spelling f ++ rest) ≡ Ok f

-- a spelling followed by anything decodes to its parts
abbrev pub IsDecoded : Type 0
IsDecoded = (f : Fields) (rest : List ℕ) → IsInstruction f → shape_of (spelling f ++ rest) ≡ Known (parts_of f)

-- what is read is spelled at the front
abbrev pub IsSpelledBack : Type 0
IsSpelledBack = (bytes : List ℕ) (f : Fields) → parse bytes ≡ Ok f → IsFormed f × ((rest : List ℕ) × (bytes ≡ spelling f ++ rest))
