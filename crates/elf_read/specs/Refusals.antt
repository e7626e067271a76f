-- The first rule that a file breaks: of the header in order, then each rule of an entry over all entries. Theorems cite it.
-- Sums are whole numbers.
use Rattle.std.specs.Prelude.{◌≡◌, ℕ, ◌+◌, ◌-◌, ◌*◌, ◌/◌, ◌%◌, ◌==◌, Bool, false, not, ◌&&◌, ◌||◌, nat_le, nat_lt, if◌then◌else◌, List, [], ◌∷◌, Option, Some, None, length, slice_index}
use Rattle.std.specs.List.{position}
use Rattle.pun_base.specs.Field.{field}
use Rattle.elf_read.specs.declared.segment.Segment.{Segment}
use Rattle.elf_read.specs.declared.refusal.ElfError.{ElfError}
use Rattle.elf_read.specs.declared.refusal.ElfError.TheVariants.{TooShort, BadMagic, NotClass64, NotLittle, NotExec, NotX86, BadPhentSize, TableOutside, Dynamic, SegmentOutside, SizeOrder, Misaligned, AddressHigh, AddressLow, LoadOrder, Memory}
use Rattle.elf_read.specs.Entries.{table_place, table_count, segments, is_load}

-- `e_ident` begins with 7F and "ELF".
abbrev pub has_magic : List ℕ → Bool
has_magic bytes =
    (slice_index bytes 0 == 0x7f) && (slice_index bytes 1 == 0x45) && (slice_index bytes 2 == 0x4c) && (slice_index bytes 3 == 0x46)

-- Where the header breaks a rule, and how it is then refused, in order.
abbrev pub header_rules : List ℕ → List (Bool × ElfError)
header_rules bytes =
    (nat_lt (length bytes) 64, TooShort)
    ∷ (not (has_magic bytes), BadMagic)
    ∷ (not (slice_index bytes 4 == 2), NotClass64)  -- EI_CLASS: ELFCLASS64
    ∷ (not (slice_index bytes 5 == 1), NotLittle)  -- EI_DATA: ELFDATA2LSB
    ∷ (not (field 2 16 bytes == 2), NotExec)  -- e_type: ET_EXEC
    ∷ (not (field 2 18 bytes == 62), NotX86)  -- e_machine: EM_X86_64
    ∷ (not (field 2 54 bytes == 56), BadPhentSize)  -- e_phentsize
    ∷ (nat_lt (length bytes) (table_place bytes + 56 * table_count bytes), TableOutside)
    ∷ []

-- How the first rule that is broken refuses the file, if one is.
abbrev pub first_broken : List (Bool × ElfError) → Option ElfError
first_broken [] = None
first_broken (rule ∷ rules) = if rule.0 then Some rule.1 else first_broken rules

unfoldable pub header_refusal : List ℕ → Option ElfError
header_refusal bytes = first_broken (header_rules bytes)

-- PT_DYNAMIC or PT_INTERP
abbrev pub is_dynamic : Segment → Bool
is_dynamic s = (s.kind == 2) || (s.kind == 3)

-- A PT_LOAD that reaches past the end of a file of `len` bytes.
abbrev pub is_outside : ℕ → Segment → Bool
is_outside len s = (s.kind == 1) && nat_lt len (s.offset + s.filesz)

-- A PT_LOAD that has more bytes in the file than in memory.
abbrev pub is_oversized : Segment → Bool
is_oversized s = (s.kind == 1) && nat_lt s.memsz s.filesz

-- A nonempty PT_LOAD whose place in its page is another in the file than in memory.
abbrev pub is_misaligned : Segment → Bool
is_misaligned s = is_load s && not (s.offset % 4096 == s.vaddr % 4096)

-- A nonempty PT_LOAD that reaches past the addresses of a program.
abbrev pub is_high : Segment → Bool
is_high s = is_load s && nat_lt 0x7fff0000 (s.vaddr + s.memsz)

-- A nonempty PT_LOAD that begins below the addresses of a program, the first of which is `low`.
abbrev pub is_low : ℕ → Segment → Bool
is_low low s = is_load s && nat_lt s.vaddr low

-- The first page of a segment.
abbrev pub first_page : Segment → ℕ
first_page s = s.vaddr / 4096

-- The last page of a segment that isn't empty.
abbrev pub last_page : Segment → ℕ
last_page s = (s.vaddr + s.memsz - 1) / 4096

-- A segment's first page isn't above the last page of the nonempty PT_LOAD before it.
abbrev pub is_behind : Option Segment → Segment → Bool
is_behind None s = false
is_behind (Some before) s = nat_le (first_page s) (last_page before)

-- The index of the first nonempty PT_LOAD that is behind the one before it; the entries begin at index i.
abbrev pub first_unordered : ℕ → Option Segment → List Segment → Option ℕ
first_unordered i before [] = None
first_unordered i before (s ∷ ss) =
    if is_load s then (if is_behind before s then Some i else first_unordered (i + 1) (Some s) ss)
    else first_unordered (i + 1) before ss

-- The index of the first entry that breaks a rule, and how the file is then refused, in order.
abbrev pub entry_rules : ℕ → ℕ → List Segment → List (Option ℕ × (ℕ → ElfError))
entry_rules low len ss =
    (position is_dynamic ss, λ i. Dynamic i)
    ∷ (position (is_outside len) ss, λ i. SegmentOutside i)
    ∷ (position is_oversized ss, λ i. SizeOrder i)
    ∷ (position is_misaligned ss, λ i. Misaligned i)
    ∷ (position is_high ss, λ i. AddressHigh i)
    ∷ (position (is_low low) ss, λ i. AddressLow i)
    ∷ (first_unordered 0 None ss, λ i. LoadOrder i)
    ∷ []

-- A refusal by the entry that was found to break a rule, or a later one where none was found.
abbrev pub by_entry : Option ℕ → (ℕ → ElfError) → Option ElfError → Option ElfError
by_entry None error later = later
by_entry (Some i) error later = Some (error i)

-- How the first rule that an entry breaks refuses the file, if one does.
abbrev pub first_told : List (Option ℕ × (ℕ → ElfError)) → Option ElfError
first_told [] = None
first_told (rule ∷ rules) = by_entry rule.0 rule.1 (first_told rules)

unfoldable pub entry_refusal : ℕ → ℕ → List Segment → Option ElfError
entry_refusal low len ss = first_told (entry_rules low len ss)

-- The first of two refusals, if there is one, or else the second.
abbrev pub or_later : Option ElfError → Option ElfError → Option ElfError
or_later None later = later
or_later (Some e) later = Some e

-- The first refusal of these bytes, where `low` is the lowest address of a program.
abbrev pub refusal : ℕ → List ℕ → Option ElfError
refusal low bytes = or_later (header_refusal bytes) (entry_refusal low (length bytes) (segments bytes))

-- An answer that isn't want of memory is the first refusal.
abbrev pub Refused : ℕ → List ℕ → ElfError → Type 0
Refused low bytes Memory = Unit {0}
Refused low bytes e = refusal low bytes ≡ Some e

-- The place of a refusal among the rules, from 1 on.
abbrev pub number_of : ElfError → Option ℕ
number_of TooShort = Some 1
number_of BadMagic = Some 2
number_of NotClass64 = Some 3
number_of NotLittle = Some 4
number_of NotExec = Some 5
number_of NotX86 = Some 6
number_of BadPhentSize = Some 7
number_of TableOutside = Some 8
number_of (Dynamic i) = Some 9
number_of (SegmentOutside i) = Some 10
number_of (SizeOrder i) = Some 11
number_of (Misaligned i) = Some 12
number_of (AddressHigh i) = Some 13
number_of (AddressLow i) = Some 14
number_of (LoadOrder i) = Some 15
number_of Memory = None

-- The index of the entry that a refusal tells.
abbrev pub told_entry : ElfError → Option ℕ
told_entry (Dynamic i) = Some i
told_entry (SegmentOutside i) = Some i
told_entry (SizeOrder i) = Some i
told_entry (Misaligned i) = Some i
told_entry (AddressHigh i) = Some i
told_entry (AddressLow i) = Some i
told_entry (LoadOrder i) = Some i
told_entry e = None
