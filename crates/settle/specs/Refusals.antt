-- Why a file isn't settled at a base: the first rule that is broken. And the base that is taken where none is told. Theorems cite it. Sums are
-- whole numbers.
use Rattle.std.specs.Prelude.{◌≡◌, ℕ, ◌+◌, ◌-◌, ◌*◌, ◌/◌, ◌%◌, ◌==◌, Bool, not, nat_le, nat_lt, if◌then◌else◌, List, [], ◌∷◌, length, slice_index, is_none, Option, Some, None, option_map}
use Rattle.std.specs.List.{find, position}
use Rattle.pun_base.specs.Field.{field}
use Rattle.elf_read.specs.declared.segment.Segment.{Segment}
use Rattle.elf_read.specs.declared.refusal.ElfError.TheVariants as elf
use Rattle.elf_read.specs.Entries.{table_place, table_count, entry_of, segments, loads}
use Rattle.elf_read.specs.Code.{is_exec}
use Rattle.elf_read.specs.Refusals.{has_magic, is_outside, entry_refusal}
use Rattle.settle.specs.declared.error.SettleError.{SettleError}
use Rattle.settle.specs.declared.error.SettleError.TheVariants.{File, NotDyn, TooManyEntries, SegmentOutside, BaseUnaligned, Settled, TableNotLoaded, EntryOutside, Memory}
use Rattle.settle.specs.Settled.{has_bytes, settled_table, settled}

-- Where the header breaks a rule of what the file is, and how it is then refused, in order.
abbrev pub kind_rules : List ℕ → List (Bool × SettleError)
kind_rules file =
    (nat_lt (length file) 64, File elf.TooShort)
    ∷ (not (has_magic file), File elf.BadMagic)
    ∷ (not (slice_index file 4 == 2), File elf.NotClass64)  -- EI_CLASS: ELFCLASS64
    ∷ (not (slice_index file 5 == 1), File elf.NotLittle)  -- EI_DATA: ELFDATA2LSB
    ∷ (not (field 2 16 file == 3), NotDyn)  -- e_type: ET_DYN
    ∷ (not (field 2 18 file == 62), File elf.NotX86)  -- e_machine: EM_X86_64
    ∷ (not (field 2 54 file == 56), File elf.BadPhentSize)  -- e_phentsize
    ∷ []

-- The same of its table.
abbrev pub table_rules : List ℕ → List (Bool × SettleError)
table_rules file =
    (nat_lt (length file) (table_place file + 56 * table_count file), File elf.TableOutside)
    ∷ (nat_lt 1023 (table_count file), TooManyEntries (table_count file))
    ∷ []

-- How the first rule that is broken refuses the file, if one is.
abbrev pub first_broken : List (Bool × SettleError) → Option SettleError
first_broken [] = None
first_broken (rule ∷ rules) = if rule.0 then Some rule.1 else first_broken rules

-- The first of two refusals, if there is one, or else the second.
abbrev pub or_later : Option SettleError → Option SettleError → Option SettleError
or_later None later = later
or_later (Some e) later = Some e

unfoldable pub kind_refusal : List ℕ → Option SettleError
kind_refusal file = first_broken (kind_rules file)

unfoldable pub table_refusal : List ℕ → Option SettleError
table_refusal file = first_broken (table_rules file)

-- The first rule that the header breaks.
abbrev pub header_refusal : List ℕ → Option SettleError
header_refusal file = or_later (kind_refusal file) (table_refusal file)

-- The greater of two numbers.
abbrev pub greater : ℕ → ℕ → ℕ
greater a b = if nat_le a b then b else a

-- The largest alignment of entries, 4,096 at least.
abbrev pub largest_align : List Segment → ℕ
largest_align [] = 4096
largest_align (s ∷ ss) = greater s.align (largest_align ss)

-- The end of the highest of entries.
abbrev pub highest_end : List Segment → ℕ
highest_end [] = 0
highest_end (s ∷ ss) = greater (s.vaddr + s.memsz) (highest_end ss)

-- The highest base at which these entries, those that are loaded, end at or below the end of a program's addresses: a multiple of the largest
-- alignment.
abbrev pub base_for : List Segment → ℕ
base_for ss = (0x7fff0000 - highest_end ss) / largest_align ss * largest_align ss

-- The highest base of a file.
abbrev pub highest_base : List ℕ → ℕ
highest_base file = base_for (loads (segments file))

-- A PT_LOAD whose bytes reach past the file's end, and then a base that isn't a multiple of the largest alignment.
abbrev pub entries_refusal : ℕ → ℕ → List Segment → Option SettleError
entries_refusal b len ss =
    or_later (option_map SegmentOutside (position (is_outside len) ss))
    (if b % largest_align (loads ss) == 0 then None else Some (BaseUnaligned (largest_align (loads ss))))

-- The first rule that an entry of the settled file breaks: its index there is one more than in the file, and the front's is 0. PT_INTERP is
-- `Dynamic`.
abbrev pub settled_refusal : ℕ → List ℕ → Option SettleError
settled_refusal b file = option_map Settled (entry_refusal 0x20000 (length (settled b file)) (settled_table b (segments file)))

-- No PT_LOAD has the file's own table, and then an entry point that is no byte that can be executed: so has a shared library.
abbrev pub places_refusal : List ℕ → Option SettleError
places_refusal file =
    if is_none (find (has_bytes (table_place file) (56 * table_count file)) (segments file)) then Some TableNotLoaded
    else (if is_exec file (entry_of file) then None else Some EntryOutside)

-- The first refusal of a file at a base.
abbrev pub settle_refusal : ℕ → List ℕ → Option SettleError
settle_refusal b file =
    or_later (header_refusal file)
    (or_later (entries_refusal b (length file) (segments file)) (or_later (settled_refusal b file) (places_refusal file)))

-- An error is the first refusal; want of memory may come in place of any answer.
abbrev pub Refused : ℕ → List ℕ → SettleError → Type 0
Refused b file Memory = Unit {0}
Refused b file error = settle_refusal b file ≡ Some error

-- The base that is told, or else the highest.
abbrev pub chosen_base : Option ℕ → List ℕ → ℕ
chosen_base None file = highest_base file
chosen_base (Some b) file = b
