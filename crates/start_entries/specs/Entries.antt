-- Listed starts with their lengths and forms. Theorems cite it.
use Rattle.std.specs.Prelude.{ℕ, ◌+◌, ◌-◌, min, false, List, [], ◌∷◌, length, map, Option, Some, None, Result, Ok, Err, slice_get}
use Rattle.std.specs.List.{find}
use Rattle.elf_read.specs.declared.segment.Segment.{Segment}
use Rattle.elf_read.specs.Entries.{segments}
use Rattle.elf_read.specs.Code.{is_exec_in, window}
use Rattle.length_decode.specs.declared.field_bytes.Stop.{Stop}
use Rattle.length_decode.specs.Parse.{parse}
use Rattle.length_decode.specs.Spelling.{Fields, spelling}
use Rattle.insn_form.specs.Instruction.{insn_of}
use Rattle.start_entries.specs.declared.entry.StartEntry.{StartEntry}
use Rattle.start_entries.specs.SharedBytes.{marked}

-- What is read at an address, from the at most 15 bytes there that can be executed and lie in one
-- segment.
unfoldable pub reading_at : List ℕ → ℕ → Result Fields Stop
reading_at file a = parse (window file a)

-- How many bytes of a segment the file has from an address on.
abbrev pub left_in : ℕ → Option Segment → ℕ
left_in a None = 0
left_in a (Some s) = s.vaddr + s.filesz - a

-- How many bytes the file has from an address on, of the segment from which the byte there is
-- executed.
unfoldable pub backed_bytes : List ℕ → ℕ → ℕ
backed_bytes file a = left_in a (find (is_exec_in a) (segments file))

-- A number of bytes, cut where the next start is reached, if there is one.
abbrev pub before_next : ℕ → Option ℕ → ℕ → ℕ
before_next a None n = n
before_next a (Some next) n = min n (next - a)

-- How far a start of unknown length reaches: to the next start, the last byte of its segment in the file, or 15 bytes.
abbrev pub reach : List ℕ → ℕ → Option ℕ → ℕ
reach file a next = before_next a next (min 15 (backed_bytes file a))

-- The entry of a start, by what is read there: the fields of an instruction, or that none of known
-- length stands there.
abbrev pub entry_by : List ℕ → ℕ → Option ℕ → Result Fields Stop → StartEntry
entry_by file a next (Ok f) = record { addr = a; len = length (spelling f); form = Some (insn_of f); shared = false }
entry_by file a next (Err stop) = record { addr = a; len = reach file a next; form = None; shared = false }

-- The entry of a start, with its length and form; `next` is the start after it in the list.
unfoldable pub start_entry : List ℕ → ℕ → Option ℕ → StartEntry
start_entry file a next = entry_by file a next (reading_at file a)

-- The entries of all starts, in the order of the list, not yet marked by what they share.
abbrev pub unmarked_of : List ℕ → List ℕ → List StartEntry
unmarked_of file [] = []
unmarked_of file (a ∷ after) = start_entry file a (slice_get after 0) ∷ unmarked_of file after

-- The entries of all starts, each marked where it shares bytes.
abbrev pub entries_of : List ℕ → List ℕ → List StartEntry
entries_of file starts = map (marked (unmarked_of file starts)) (unmarked_of file starts)
