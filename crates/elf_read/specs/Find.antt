-- The segment that holds an address. Theorems cite it.
use Rattle.std.specs.Prelude.{◌≡◌, ℕ, Bool, true, false, nat_le, if◌then◌else◌, List, [], ◌∷◌, Option, Some, None}
use Rattle.std.specs.List.Sorted.{IsPartitionPoint}
use Rattle.pun_base.specs.Ranges.{is_within}
use Rattle.elf_read.specs.declared.segment.Segment.{Segment}
use Rattle.elf_read.specs.Entries.{segments, loads}

-- The address is one of those that a segment loads.
abbrev pub covers : Segment → ℕ → Bool
covers s a = is_within s.vaddr s.memsz a

-- The first segment that covers an address.
abbrev pub segment_of : List Segment → ℕ → Option Segment
segment_of [] a = None
segment_of (s ∷ ss) a = if covers s a then Some s else segment_of ss a

-- The nonempty PT_LOAD of a file that holds an address.
abbrev pub segment_holding : List ℕ → ℕ → Option Segment
segment_holding file a = segment_of (loads (segments file)) a

-- The first i segments begin at or below an address, and the others above it.
abbrev pub Parted : List Segment → ℕ → ℕ → Type 0
Parted ss a i = IsPartitionPoint (λ s. nat_le s.vaddr a ≡ true) (λ s. nat_le s.vaddr a ≡ false) ss i
