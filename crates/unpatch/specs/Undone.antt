-- A patched file undone: by the header's fields that its report tells of the original, and by the old bytes of the report's runs, each at
-- the place in the file that the patched file's PT_LOADs tell. Theorems cite it.
use Rattle.std.specs.Prelude.{ℕ, ◌+◌, ◌-◌, nat_lt, if◌then◌else◌, List, [], ◌∷◌, length, take, set, Option, Some, None, option_map}
use Rattle.std.specs.List.{flat_map}
use Rattle.pun_base.specs.Field.{with_field}
use Rattle.elf_read.specs.declared.segment.Segment.{Segment}
use Rattle.elf_read.specs.Find.{segment_holding}
use Rattle.patch_report.specs.declared.origin.Origin.{Origin}
use Rattle.patch_report.specs.Values.{WriteValue}

-- Bytes from an address on, each with its address.
abbrev pub addressed : ℕ → List ℕ → List (ℕ × ℕ)
addressed a [] = []
addressed a (b ∷ bs) = (a, b) ∷ addressed (a + 1) bs

-- The old bytes of runs, the first run first, each run in ascending address.
abbrev pub old_bytes : List WriteValue → List (ℕ × ℕ)
old_bytes ws = flat_map (λ w. addressed w.addr w.was) ws

-- Where a segment has the byte of an address in its file.
abbrev pub place_in : ℕ → Segment → ℕ
place_in a s = s.offset + (a - s.vaddr)

-- Where a file has the byte of an address: the PT_LOAD that holds it tells.
abbrev pub place_of : List ℕ → ℕ → Option ℕ
place_of file a = option_map (place_in a) (segment_holding file a)

-- Bytes with another one at a place, where that is a place of theirs.
abbrev pub put_at : Option ℕ → ℕ → List ℕ → List ℕ
put_at None b bytes = bytes
put_at (Some k) b bytes = if nat_lt k (length bytes) then set bytes k b else bytes

-- Bytes with others put at the places that a file has for their addresses, one after the other: of two with one place the later stays.
abbrev pub put_back : List ℕ → List (ℕ × ℕ) → List ℕ → List ℕ
put_back file [] bytes = bytes
put_back file (p ∷ ps) bytes = put_back file ps (put_at (place_of file p.0) p.1 bytes)

-- The header's fields as an origin tells them (ELF-64: `e_entry` at 24, `e_phoff` at 32, `e_phnum` at 56).
abbrev pub with_origin : Origin → List ℕ → List ℕ
with_origin o bytes = with_field 2 56 o.phnum (with_field 8 32 o.phoff (with_field 8 24 o.entry bytes))

-- The file undone: its first bytes, as many as the original has, with the original's fields in the header, and then with the old bytes.
unfoldable pub undone : List ℕ → Origin → List WriteValue → List ℕ
undone file o ws = put_back file (old_bytes ws) (with_origin o (take o.len file))
