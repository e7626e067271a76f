-- The jumps of a plan: what they write, what they leave, and memory after the writes. Theorems cite it.
use Rattle.std.specs.Prelude.{ℕ, ◌+◌, ◌-◌, min, Bool, not, ◌&&◌, if◌then◌else◌, List, [], ◌∷◌, ◌++◌, length, replicate, slice_index, Option, Some, None, is_some}
use Rattle.std.specs.Option.{option_or}
use Rattle.std.specs.List.{list_any}
use Rattle.pun_base.specs.Memory.{Cell, Bytes}
use Rattle.pun_base.specs.Ranges.{is_within}
use Rattle.cpu_state.specs.Bytes.{with_byte}
use Rattle.insn_form.specs.Moved.{rel_bytes}

-- A jump: the address at which it stands, its bytes, and where it leads. `room` is how many bytes the instruction on
-- which it stands has from that address on.
pub record Jump : Type 0 where
  pub at : ℕ
  pub room : ℕ
  pub bytes : List ℕ
  pub target : ℕ

-- JMP rel32 after pads (E9 cd; Intel SDM, volume 2, JMP). A pad is a REX prefix that changes
-- nothing.
abbrev pub padded_jump : ℕ → ℕ → ℕ → ℕ → ℕ → Jump
padded_jump at room pads pad target = record {
  at = at;
  room = room;
  bytes = replicate pads pad ++ 0xE9 ∷ rel_bytes (at + pads + 5) target;
  target = target;
}

-- JMP rel8 to a target above the jump (EB cb; Intel SDM, volume 2, JMP).
abbrev pub short_jump : ℕ → ℕ → ℕ → Jump
short_jump at room target = record { at = at; room = room; bytes = 0xEB ∷ (target - (at + 2)) ∷ []; target = target }

-- A jump writes those of its bytes that lie in the instruction on which it stands.
abbrev pub written_by : Jump → ℕ → Option ℕ
written_by j a =
    if is_within j.at (min j.room (length j.bytes)) a then Some (slice_index j.bytes (a - j.at)) else None

-- What jumps write at an address. Where two of them write, the first counts.
abbrev pub written : List Jump → ℕ → Option ℕ
written [] a = None
written (j ∷ js) a = option_or (written_by j a) (written js a)

-- Some jump writes at an address.
abbrev pub is_written : List Jump → ℕ → Bool
is_written js a = is_some (written js a)

-- The address is one of a jump's bytes.
abbrev pub is_spanned : List Jump → ℕ → Bool
is_spanned js a = list_any (λ j. is_within j.at (length j.bytes) a) js

-- The punned bytes: those of the jumps that none of them writes.
abbrev pub is_punned : List Jump → ℕ → Bool
is_punned js a = is_spanned js a && not (is_written js a)

-- A cell with the byte that jumps write there, if they write one.
abbrev pub cell_with : Option ℕ → Option Cell → Option Cell
cell_with None c = c
cell_with (Some b) c = with_byte b c

-- Memory after the writes of jumps, with all else as it stands.
abbrev pub after_writes : Bytes → List Jump → Bytes
after_writes m js a = cell_with (written js a) (m a)
