-- What events keep of the data part.
use Rattle.std.proofs.Common.{◌≡◌, ℕ, zero, suc, ◌+◌, ◌*◌, ◌%◌, ◌^◌, ◌<◌, ◌≤◌, Bool, true, false, if◌then◌else◌, List, ◌++◌, length, take, drop, length-append, replicate, refl, sym, ap, ◌∙◌, subst, arith}
use Rattle.std.specs.Int.{bytes_low_first}
use Rattle.std.proofs.lemmas.List.{length-set, length-take, length-drop}
use Rattle.std.proofs.lemmas.Nat.{mod_below}
use Rattle.byteorder.specs.Numbers.{little_number-reads_back}
use Rattle.pun_base.specs.Field.{field, with_field}
use Rattle.pun_base.specs.declared.action.Action.TheVariants.{Cover, Count, Ring, When}
use Rattle.pun_base.specs.declared.action.Base.{Base}
use Rattle.pun_base.specs.declared.action.Base.TheVariants as base
use Rattle.cond_action.specs.Conditions.{holds}
use Rattle.trampoline.specs.Events.{base_mark, base_room, ZerosAreData, MarksKeepData, MarksKeepLength, IsRoomForEach, HasFewPages}

-- the position in a data part of zeros
zero_position : (n : ℕ) → field 4 0 (replicate n 0) ≡ 0
zero_position zero = refl
zero_position (suc zero) = refl
zero_position (suc (suc zero)) = refl
zero_position (suc (suc (suc zero))) = refl
zero_position (suc (suc (suc (suc n)))) = refl

-- a data part of zeros is data for each action that can be asked for
pub zeros_data : ZerosAreData
zeros_data Cover n a = tt
zeros_data Count n a = tt
zeros_data (Ring len) n a = subst (λ (z : ℕ). z < len) (sym (zero_position n)) (omega (arith, a.0))
zeros_data (When b list) n a = tt

-- an event leaves data data, where there is room for it
pub marks_data : MarksKeepData
marks_data Cover i regs bytes a room d = tt
marks_data Count i regs bytes a room d = tt
marks_data (Ring len) i regs bytes a room d =
    let next = (field 4 0 bytes + 1) % len in
    let low : next < len = mod_below (field 4 0 bytes + 1) len (omega (arith, d)) in
    let rest = drop 4 (with_field 4 (4 + 4 * field 4 0 bytes) (i + 1) bytes) in
    subst (λ (z : ℕ). z < len) (sym (little_number-reads_back 4 next rest (omega (arith, low, a.1)))) low
marks_data (When b list) i regs bytes a room d = tt

low_length : (k n v : ℕ) → length (bytes_low_first k n v) ≡ n
low_length k zero v = refl
low_length k (suc n) v = ap suc (low_length (suc k) n v)

-- a field is written into bytes that have it
field_length : (k at v : ℕ) (bytes : List ℕ) → at + k ≤ length bytes → length (with_field k at v bytes) ≡ length bytes
field_length k at v bytes h =
    let w = bytes_low_first 0 k v in
    omega (
      arith,
      h,
      length-append (take at bytes) (w ++ drop (at + k) bytes),
      length-append w (drop (at + k) bytes),
      length-take at bytes,
      length-drop (at + k) bytes,
      low_length 0 k v,
    )

base_length : (b : Base) (i : ℕ) (bytes : List ℕ) → base_room b i ≤ 64 + length bytes → length (base_mark b i bytes) ≡ length bytes
base_length base.Cover i bytes room = length-set bytes i 1
base_length base.Count i bytes room = field_length 8 (8 * i) ((field 8 (8 * i) bytes + 1) % 2 ^ 64) bytes (omega (arith, room))

-- an event leaves as many bytes of data as there were
pub marks_length : MarksKeepLength
marks_length Cover i regs bytes room d = base_length base.Cover i bytes room
marks_length Count i regs bytes room d = base_length base.Count i bytes room
marks_length (Ring len) i regs bytes room d =
    let pos = field 4 0 bytes in
    let e = field_length 4 (4 + 4 * pos) (i + 1) bytes (omega (arith, room, d)) in
    field_length 4 0 ((pos + 1) % len) (with_field 4 (4 + 4 * pos) (i + 1) bytes) (omega (arith, e, room, d)) ∙ e
marks_length (When b list) i regs bytes room d = by_test (holds list regs)
  where
    by_test : (t : Bool) → length (if t then base_mark b i bytes else bytes) ≡ length bytes
    by_test true = base_length b i bytes room
    by_test false = refl

-- a private range for n sites has room for the event of each
pub room_for_each : IsRoomForEach
room_for_each Cover i n h = omega (arith, h)
room_for_each Count i n h = omega (arith, h)
room_for_each (Ring len) i n h = omega arith
room_for_each (When base.Cover list) i n h = omega (arith, h)
room_for_each (When base.Count list) i n h = omega (arith, h)

-- for the most sites of a file, the private range fits the most pages
pub few_pages : HasFewPages
few_pages Cover n a h = omega (arith, h)
few_pages Count n a h = omega (arith, h)
few_pages (Ring len) n a h = omega (arith, a.1)
few_pages (When base.Cover list) n a h = omega (arith, h)
few_pages (When base.Count list) n a h = omega (arith, h)
