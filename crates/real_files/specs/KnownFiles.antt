-- Which files are known, and what is said of one that is opened. Contracts of private functions alone cite it.
use Rattle.std.specs.Prelude.{◌≡◌, ℕ, ◌++◌, ◌∷◌, List, [], Contains, Option, Some, None}
use Rattle.real_files.specs.declared.known_files.FileId.{FileId}

-- The regular files that were read or written, the oldest first, and who may run the file that is made next, where that is known.
pub record KnownState : Type 0 where
  pub ids : List FileId
  pub run_bits : Option ℕ

-- No file was read or written.
abbrev pub no_files : KnownState
no_files = record { ids = []; run_bits = None }

-- Each file that was known is known.
abbrev pub StayKnown : KnownState → KnownState → Type 0
StayKnown old new = (id : FileId) → Contains old.ids id → Contains new.ids id

-- A file that is to be written over was claimed: a regular one was not known before, and is known now.
abbrev pub IsClaimed : Option FileId → KnownState → KnownState → Type 0
IsClaimed None old new = new.ids ≡ old.ids
IsClaimed (Some id) old new = (Contains old.ids id → ⊥) × (new.ids ≡ old.ids ++ id ∷ [])
