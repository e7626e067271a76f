-- Why a patched file isn't restored: the first of three refusals that holds. Theorems cite it.
use Rattle.std.specs.Prelude.{◌≡◌, ℕ, ◌==◌, Bool, false, ◌&&◌, ◌||◌, nat_le, nat_lt, if◌then◌else◌, List, [], ◌∷◌, length, slice_index, Option, Some, None, option_map}
use Rattle.std.specs.List.{flat_map}
use Rattle.elf_read.specs.declared.segment.Segment.{Segment}
use Rattle.elf_read.specs.Code.{is_backed}
use Rattle.elf_read.specs.Find.{segment_holding}
use Rattle.elf_emit.specs.Frames.{up}
use Rattle.patch_report.specs.declared.origin.Origin.{Origin}
use Rattle.patch_report.specs.Runs.{runs}
use Rattle.patch_report.specs.Values.{ReportValue, WriteValue}
use Rattle.unpatch.specs.declared.error.UnpatchError.{UnpatchError}
use Rattle.unpatch.specs.declared.error.UnpatchError.TheVariants.{NoOrigin, OriginOutside, BytesDiffer, Memory}
use Rattle.unpatch.specs.Undone.{addressed, place_in, undone}

-- An original of this length can't have been written as a file of this size: it has no whole header, or, rounded up to 4,096, more bytes.
abbrev pub is_outside : ℕ → ℕ → Bool
is_outside len size = nat_lt len 64 || nat_lt size (up len)

-- The new bytes of runs, the first run first, each run in ascending address.
abbrev pub new_bytes : List WriteValue → List (ℕ × ℕ)
new_bytes ws = flat_map (λ w. addressed w.addr w.now) ws

-- The PT_LOAD that holds an address has this byte there, and has it from the file.
abbrev pub has_byte : List ℕ → ℕ → ℕ → Option Segment → Bool
has_byte file a b None = false
has_byte file a b (Some s) = is_backed s a && (slice_index file (place_in a s) == b)

-- A file has a byte at an address.
abbrev pub is_there : List ℕ → ℕ × ℕ → Bool
is_there file p = has_byte file p.0 p.1 (segment_holding file p.0)

-- The lesser of an address and a known one, if there is one.
abbrev pub lesser : ℕ → Option ℕ → ℕ
lesser a None = a
lesser a (Some b) = if nat_le a b then a else b

-- The least address of bytes that a file hasn't; `best` is the least of those before.
abbrev pub least_from : List ℕ → List (ℕ × ℕ) → Option ℕ → Option ℕ
least_from file [] best = best
least_from file (p ∷ ps) best = least_from file ps (if is_there file p then best else Some (lesser p.0 best))

-- The least address of bytes that a file hasn't, if it hasn't one.
abbrev pub least_missing : List ℕ → List (ℕ × ℕ) → Option ℕ
least_missing file ps = least_from file ps None

-- The first refusal that holds of a file, an origin, if one is told, and runs.
abbrev pub refusal_of : List ℕ → Option Origin → List WriteValue → Option UnpatchError
refusal_of file None ws = Some NoOrigin
refusal_of file (Some o) ws =
    if is_outside o.len (length file) then Some OriginOutside
    else option_map BytesDiffer (least_missing file (new_bytes ws))

-- The first that holds of a patched file and its report.
abbrev pub refusal : List ℕ → ReportValue → Option UnpatchError
refusal file report = refusal_of file report.origin (runs report.body)

-- An error is the first refusal that holds; want of memory may come in place of any answer.
abbrev pub RefusedBy : List ℕ → Option Origin → List WriteValue → UnpatchError → Type 0
RefusedBy file o ws Memory = Unit {0}
RefusedBy file o ws error = refusal_of file o ws ≡ Some error

-- So of a patched file and its report.
abbrev pub Refused : List ℕ → ReportValue → UnpatchError → Type 0
Refused file report error = RefusedBy file report.origin (runs report.body) error

-- Bytes are the file undone.
abbrev pub UndoneBy : List ℕ → Option Origin → List WriteValue → List ℕ → Type 0
UndoneBy file None ws bytes = ⊥
UndoneBy file (Some o) ws bytes = bytes ≡ undone file o ws

-- So of a patched file, undone by its report.
abbrev pub Undoes : List ℕ → ReportValue → List ℕ → Type 0
Undoes file report bytes = UndoneBy file report.origin (runs report.body) bytes
