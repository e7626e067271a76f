-- What files of known parts hold: a table's entries, what a plain file loads; what the rules leave of a file. Theorems cite it.
use Rattle.std.specs.Prelude.{◌≡◌, ℕ, ◌+◌, ◌%◌, ◌++◌, ◌≤◌, ◌<◌, true, List, length, slice_index, Some, None}
use Rattle.std.specs.List.{AllByRecursion}
use Rattle.elf_read.specs.declared.segment.Segment.{Segment}
use Rattle.elf_read.specs.Entries.{Fits, segments_from, table, entry_of}
use Rattle.elf_read.specs.Image.{image_of}
use Rattle.elf_read.specs.Code.{is_exec, window}
use Rattle.elf_read.specs.Refusals.{refusal}
use Rattle.elf_read.specs.Accepted.{IsAccepted}
use Rattle.elf_read.specs.Plain.{plain_file, IsText, text_image}

-- A table that stands anywhere in a file is read back.
abbrev pub TableReadsBack : Type 0
TableReadsBack = (front rest : List ℕ) (ss : List Segment) → AllByRecursion Fits ss →
    segments_from (front ++ table ss ++ rest) (length front) (length ss) ≡ ss

-- A plain file loads its text, and nothing else.
abbrev pub PlainImage : Type 0
PlainImage = (text : List ℕ) → IsText text → (a : ℕ) → image_of (plain_file text) a ≡ text_image text a

-- A plain file starts at its text.
abbrev pub PlainEntry : Type 0
PlainEntry = (text : List ℕ) → entry_of (plain_file text) ≡ 0x401000

-- A file that breaks no rule.
abbrev pub Accepted : Type 0
Accepted = (low : ℕ) (bytes : List ℕ) → refusal low bytes ≡ None → IsAccepted low bytes

-- A file that is accepted above one address is accepted above a lower one.
abbrev pub AcceptedLower : Type 0
AcceptedLower = (low lower : ℕ) (bytes : List ℕ) → lower ≤ low → refusal low bytes ≡ None → refusal lower bytes ≡ None

-- A byte that stands at an address in the image of a file, and can be executed (1) and not written (2).
abbrev pub IsCodeAt : List ℕ → ℕ → ℕ → Type 0
IsCodeAt file a byte = (perms : ℕ) × (image_of file a ≡ Some (record { byte = byte; perms = perms })) × (perms % 4 ≡ 1)

-- What can be executed of an accepted file is loaded.
abbrev pub ExecIsLoaded : Type 0
ExecIsLoaded = (low : ℕ) (file : List ℕ) (a : ℕ) → refusal low file ≡ None → is_exec file a ≡ true → (byte : ℕ) × IsCodeAt file a byte

-- A window's bytes can be executed, and stand in the image one after the other.
abbrev pub WindowIsLoaded : Type 0
WindowIsLoaded = (low : ℕ) (file : List ℕ) (a k : ℕ) → refusal low file ≡ None → k < length (window file a) →
    (is_exec file (a + k) ≡ true) × IsCodeAt file (a + k) (slice_index (window file a) k)
