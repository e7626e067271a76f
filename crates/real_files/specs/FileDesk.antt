-- What a desk over real files and a sink over a writer show of themselves. Contracts of private functions alone cite it.
use Rattle.std.specs.Prelude.{◌≡◌, ℕ, false, List, Option, Some, None, Ok, Err}
use Rattle.std.specs.Option.{option_map}
use Rattle.std.specs.Io.KnownBytes.{Appends}
use Rattle.pun_base.specs.Shown.{DeskState, SinkState}
use Rattle.pun_base.specs.Desk.{PutResult, ReadResult}
use Rattle.real_files.specs.Streams.{GivesAll}

-- The file that is being written: its name, and the bytes that it holds where they are known.
pub record OpenFile : Type 0 where
  pub name : List ℕ
  pub bytes : Option (List ℕ)

-- What a desk over real files shows: the file that is being written, and how often its calls have failed.
pub record FileDeskState : Type 0 where
  pub writing : Option OpenFile
  -- how many reads have failed, and how many begins, puts and ends
  pub read_faults : ℕ
  pub write_faults : ℕ

-- Nothing is being written, and nothing has failed.
abbrev pub new_file_desk : FileDeskState
new_file_desk = record { writing = None; read_faults = 0; write_faults = 0 }

-- As every desk is seen: it doesn't tell what is held, and is never sure.
abbrev pub seen_files : FileDeskState → DeskState
seen_files d = record {
  held = None;
  writing = option_map (λ file. file.name) d.writing;
  read_faults = d.read_faults;
  write_faults = d.write_faults;
  sure = false;
}

-- On `Ok` the file that is being written has grown by the bytes, where its bytes are known.
abbrev pub FileGrows : List ℕ → PutResult → FileDeskState → FileDeskState → Type 0
FileGrows bytes (Ok u) old new =
    (was is : OpenFile) → old.writing ≡ Some was → new.writing ≡ Some is → Appends was.bytes is.bytes bytes
FileGrows bytes (Err e) old new = Unit {0}

-- What was read is the whole of some file, where its bytes are known.
abbrev pub IsSomeFile : {F : Type 0} → (F → Option (List ℕ)) → ℕ → ReadResult → Type 0
IsSomeFile {F = F} remaining most (Ok bytes) = (file : F) × GivesAll most (Ok bytes) (remaining file)
IsSomeFile {F = F} remaining most (Err e) = Unit {0}

-- What a writer that is printed to shows of itself.
pub record OutputState : Type 0 where
  -- the bytes that it holds, where they are known
  pub bytes : Option (List ℕ)
  -- how many writes have failed
  pub faults : ℕ

-- As every sink is seen: it doesn't tell what was written.
abbrev pub seen_output : OutputState → SinkState
seen_output o = record { written = None; faults = o.faults }
