-- What settling keeps, and what the refusals leave. Theorems cite it.
use Rattle.std.specs.Prelude.{◌≡◌, ℕ, ◌+◌, ◌%◌, ◌^◌, ◌<◌, ◌≤◌, List, length, slice_index, Some, None}
use Rattle.std.specs.List.{AllByRecursion}
use Rattle.elf_read.specs.declared.segment.Segment.{Segment}
use Rattle.elf_read.specs.Entries.{Fits, entry_of, segments, loads}
use Rattle.elf_read.specs.Image.{image_of}
use Rattle.elf_read.specs.Refusals.{refusal}
use Rattle.settle.specs.Lengths.{front_len}
use Rattle.settle.specs.Settled.{stub_at, own_table, settled, image_at}
use Rattle.settle.specs.Refusals.{largest_align, highest_base, settle_refusal}
use Rattle.settle.specs.Undone.{base_in, unsettled}

-- The bytes of a file that can be read: each is below 256, and there are fewer than 2^63.
pub record IsReadable (file : List ℕ) : Type 0 where
  pub bytes : (k : ℕ) → slice_index file k < 256
  pub len : length file < 2 ^ 63

-- An entry is moved without a wrap.
pub record IsRoomy (p b : ℕ) (s : Segment) : Type 0 where
  pub offset : s.offset + p < 2 ^ 64
  pub vaddr : s.vaddr + b < 2 ^ 64

-- What settling needs of a file and a base. The refusals prove it.
pub record IsSettleable (b : ℕ) (file : List ℕ) : Type 0 where
  pub base : b < 2 ^ 64
  pub below : front_len (length (segments file)) ≤ b
  pub few : length (segments file) + 1 < 2 ^ 16
  pub fits : AllByRecursion Fits (segments file)
  pub roomy : AllByRecursion (IsRoomy (front_len (length (segments file))) b) (loads (segments file))

-- What the stub needs of a file and a base. The refusals prove it.
pub record IsPlaceable (b : ℕ) (file : List ℕ) : Type 0 where
  pub stub : stub_at b (length (segments file)) + 89 < 2 ^ 31
  pub table : own_table b file < 2 ^ 31
  pub entry : b + entry_of file < 2 ^ 31

-- What isn't refused can be settled, and every other command takes what is written.
pub record IsTaken (b : ℕ) (file : List ℕ) : Type 0 where
  pub settleable : IsSettleable b file
  pub placeable : IsPlaceable b file
  pub accepted : refusal 0x20000 (settled b file) ≡ None

abbrev pub UnrefusedIsTaken : Type 0
UnrefusedIsTaken = (b : ℕ) (file : List ℕ) → IsReadable file → settle_refusal b file ≡ None → IsTaken b file

-- What was settled comes back.
abbrev pub SettledIsUndone : Type 0
SettledIsUndone = (b : ℕ) (file : List ℕ) → IsReadable file → settle_refusal b file ≡ None → unsettled (settled b file) ≡ Some file

-- What comes back was settled: at the base that the file tells.
abbrev pub UndoneWasSettled : Type 0
UndoneWasSettled =
    (out file : List ℕ) → unsettled out ≡ Some file → (settle_refusal (base_in out) file ≡ None) × (settled (base_in out) file ≡ out)

-- The image of the settled file is the front's, joined with the file's image, moved by the base.
abbrev pub SettledLoads : Type 0
SettledLoads = (b : ℕ) (file : List ℕ) → IsSettleable b file → (a : ℕ) → image_of (settled b file) a ≡ image_at b file a

-- No base that isn't refused is above the highest.
abbrev pub NoneIsHigher : Type 0
NoneIsHigher = (b : ℕ) (file : List ℕ) → IsReadable file → settle_refusal b file ≡ None → b ≤ highest_base file

-- Where some base isn't refused, the highest isn't either, if the largest alignment is a multiple of 4096: each power of two from there on is.
abbrev pub HighestIsTaken : Type 0
HighestIsTaken =
    (b : ℕ) (file : List ℕ) → IsReadable file → largest_align (loads (segments file)) % 4096 ≡ 0 → settle_refusal b file ≡ None
    → settle_refusal (highest_base file) file ≡ None
