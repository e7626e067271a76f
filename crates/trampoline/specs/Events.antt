-- Events: their code, and what they leave in the data part. Theorems cite it.
-- The data part begins 64 bytes behind the first address p of the private range.
use Rattle.std.specs.Prelude.{◌≡◌, ◌<◌, ◌≤◌, ℕ, zero, suc, ◌+◌, ◌*◌, ◌%◌, ◌^◌, if◌then◌else◌, List, [], ◌∷◌, ◌++◌, length, slice_set, replicate, Option, option_map}
use Rattle.pun_base.specs.Memory.{Cell, Bytes}
use Rattle.pun_base.specs.Field.{field, with_field}
use Rattle.pun_base.specs.declared.action.Action.{Action}
use Rattle.pun_base.specs.declared.action.Action.TheVariants.{Cover, Count, Ring, When}
use Rattle.pun_base.specs.declared.action.Base.{Base}
use Rattle.pun_base.specs.declared.action.Base.TheVariants as base
use Rattle.pun_base.specs.Actions.{listed, IsAction, private_len}
use Rattle.pun_base.specs.Limits.{most_sites, most_private_pages}
use Rattle.relocate_insn.specs.Pieces.{four, store_rax, load_rax}
use Rattle.cond_action.specs.Conditions.{holds}
use Rattle.cond_action.specs.Codes.{keep_flags, give_back, store_eax, load_eax, cond_code}

-- LEA rax, [rax + 1], which changes no flag
abbrev pub add_one : List ℕ
add_one = 0x48 ∷ 0x8d ∷ 0x40 ∷ 0x01 ∷ []

-- MOV dword [4 * rax + a], n
abbrev pub put_slot : ℕ → ℕ → List ℕ
put_slot a n = 0xc7 ∷ 0x04 ∷ 0x85 ∷ (four a ++ four n)

-- LEA eax, [rax + 1]; CMP eax, n; JNE over the next; MOV eax, 0
abbrev pub next_slot : ℕ → List ℕ
next_slot n = 0x8d ∷ 0x40 ∷ 0x01 ∷ 0x3d ∷ (four n
    ++ (0x75 ∷ 0x05 ∷ 0xb8 ∷ 0x00 ∷ 0x00 ∷ 0x00 ∷ 0x00 ∷ []))

-- the code of an event of site i with a ring of n slots: rax and the flags are saved, the slot at the
-- position holds i + 1, the position moves on, and flags and rax come back
abbrev pub ring_code : ℕ → ℕ → ℕ → List ℕ
ring_code p i n = keep_flags p ++ (load_eax (p + 64) ++ (put_slot (p + 68) (i + 1)
    ++ (next_slot n ++ (store_eax (p + 64) ++ give_back p))))

-- the code of an event of site i: MOV of 1 to the site's byte; or rax is saved, the site's counter rises by one, and rax comes back
abbrev pub event_code : Action → ℕ → ℕ → List ℕ
event_code Cover p i = 0xc6 ∷ 0x04 ∷ 0x25 ∷ (four (p + 64 + i) ++ 1 ∷ [])
event_code Count p i = store_rax p ++ (load_rax (p + 64 + 8 * i) ++ (add_one ++ (store_rax (p + 64 + 8 * i) ++ load_rax p)))
event_code (Ring len) p i = ring_code p i len
event_code (When b list) p i = cond_code b (listed list) p i

-- its bytes
abbrev pub event_length : Action → ℕ
event_length Cover = 8
event_length Count = 36
event_length (Ring len) = 77
event_length (When b list) = 53 + 9 * length (listed list)

-- an event: the site's number, and the registers before it
pub record Seen : Type 0 where
  pub number : ℕ
  pub regs : List ℕ

-- the data after one event of site i under a base: its byte is 1, or the number in its eight bytes is one higher, modulo 2^64
abbrev pub base_mark : Base → ℕ → List ℕ → List ℕ
base_mark base.Cover i bytes = slice_set bytes i 1
base_mark base.Count i bytes = with_field 8 (8 * i) ((field 8 (8 * i) bytes + 1) % 2 ^ 64) bytes

-- the data of a ring of n slots, whose first four bytes hold the position, after an event of site i: the
-- slot at the position holds i + 1, and the position is the next one
abbrev pub ring_mark : ℕ → ℕ → List ℕ → List ℕ
ring_mark n i bytes = with_field 4 0 ((field 4 0 bytes + 1) % n)
    (with_field 4 (4 + 4 * field 4 0 bytes) (i + 1) bytes)

-- the data after one event of site i, where the registers are these
abbrev pub mark : Action → ℕ → List ℕ → List ℕ → List ℕ
mark Cover i regs bytes = base_mark base.Cover i bytes
mark Count i regs bytes = base_mark base.Count i bytes
mark (Ring len) i regs bytes = ring_mark len i bytes
mark (When b list) i regs bytes = if holds list regs then base_mark b i bytes else bytes

-- the data after these events
abbrev pub marked : Action → List Seen → List ℕ → List ℕ
marked action [] bytes = bytes
marked action (e ∷ es) bytes = marked action es (mark action e.number e.regs bytes)

-- the record of events: what they leave of n zeros
abbrev pub record_of : Action → ℕ → List Seen → List ℕ
record_of action n events = marked action events (replicate n 0)

-- what may stand in the data part: any bytes, but for a ring, whose position is below its length
abbrev pub IsData : Action → List ℕ → Type 0
IsData Cover bytes = Unit {0}
IsData Count bytes = Unit {0}
IsData (Ring len) bytes = field 4 0 bytes < len
IsData (When b list) bytes = Unit {0}

-- how many bytes of the private range an event of site i needs
abbrev pub base_room : Base → ℕ → ℕ
base_room base.Cover i = 64 + (i + 1)
base_room base.Count i = 64 + (8 * i + 8)

-- the same by the action
abbrev pub event_room : Action → ℕ → ℕ
event_room Cover i = base_room base.Cover i
event_room Count i = base_room base.Count i
event_room (Ring len) i = 68 + 4 * len
event_room (When b list) i = base_room b i

-- the n bytes that memory holds from an address on, and None where none is held
abbrev pub bytes_at : Bytes → ℕ → ℕ → List (Option ℕ)
bytes_at m a zero = []
bytes_at m a (suc n) = option_map (λ (c : Cell). c.byte) (m a) ∷ bytes_at m (a + 1) n

-- the code of an event has the length that is told
abbrev pub HasEventLength : Type 0
HasEventLength = (action : Action) (p i : ℕ) → length (event_code action p i) ≡ event_length action

-- an event has code, of at most 80 bytes: with 46 of relocated code it fits the 128 of a trampoline
abbrev pub HasEventCode : Type 0
HasEventCode = (action : Action) → (0 < event_length action) × (event_length action ≤ 80)

-- a private range for n sites has room for the event of each
abbrev pub IsRoomForEach : Type 0
IsRoomForEach = (action : Action) (i n : ℕ) → i < n → event_room action i ≤ private_len action n

-- for the most sites of a file it fits the most pages of a private range
abbrev pub HasFewPages : Type 0
HasFewPages = (action : Action) (n : ℕ) → IsAction action → n ≤ most_sites
    → private_len action n ≤ most_private_pages * 4096

-- a data part of zeros is data for each action that can be asked for
abbrev pub ZerosAreData : Type 0
ZerosAreData = (action : Action) (n : ℕ) → IsAction action → IsData action (replicate n 0)

-- an event leaves data data, where there is room for it
abbrev pub MarksKeepData : Type 0
MarksKeepData = (action : Action) (number : ℕ) (regs bytes : List ℕ)
    → IsAction action → event_room action number ≤ 64 + length bytes → IsData action bytes
    → IsData action (mark action number regs bytes)

-- and as many bytes
abbrev pub MarksKeepLength : Type 0
MarksKeepLength = (action : Action) (number : ℕ) (regs bytes : List ℕ)
    → event_room action number ≤ 64 + length bytes → IsData action bytes
    → length (mark action number regs bytes) ≡ length bytes
