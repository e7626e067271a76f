-- Two jumps that meet: the front one's own bytes end where the back one stands, whose first bytes are the front one's high displacement bytes. The shared value is the number that the displacement bytes spell which the back jump chooses and both jumps have. Theorems cite it.
use Rattle.std.specs.Prelude.{◌≡◌, ℕ, ℤ, zero, suc, pos, ◌+◌, ◌-◌, ◌*◌, ◌/◌, ◌%◌, ◌^◌, ◌<◌, ◌≤◌, ◌+ℤ◌, ◌-ℤ◌, min, List, [], ◌∷◌, ◌++◌, length, replicate, take, drop}
use Rattle.address_space.specs.declared.extent.Extent.{Extent}
use Rattle.address_space.specs.Free.{IsFree, Misses}
use Rattle.insn_form.specs.Moved.{rel_bytes}
use Rattle.jump_form.specs.Jumps.{AreBytes}
use Rattle.jump_form.specs.Windows.{lowest_displacement}
use Rattle.start_entries.specs.declared.entry.StartEntry.{StartEntry}
use Rattle.start_list.specs.Forms.{low_displacement}
use Rattle.start_list.specs.Plans.{bytes_from}
use Rattle.start_list.specs.TurnViews.{TurnView, memory_now}
use Rattle.scheme_search.specs.declared.meeting.Meeting.{Meeting}
use Rattle.scheme_search.specs.declared.meeting.Ways.{Ways}
use Rattle.scheme_search.specs.declared.shared.Way.{Way}
use Rattle.scheme_search.specs.declared.shared.Pick.{Pick}
use Rattle.scheme_search.specs.Shared.{IsWay}

-- The n low bytes of a number, the lowest first.
abbrev pub low_bytes : ℕ → ℕ → List ℕ
low_bytes zero x = []
low_bytes (suc n) x = (x % 256) ∷ low_bytes n (x / 256)

-- How many displacement bytes of the back jump are chosen and are displacement bytes of the front
-- jump.
abbrev pub shared_count : Meeting → ℕ
shared_count m = min (4 - (m.own + m.pads + 1)) m.back_own

-- The bytes of the back jump, by those of its displacement.
abbrev pub back_jump : Meeting → List ℕ → List ℕ
back_jump m displacement = replicate m.pads m.pad ++ 0xE9 ∷ displacement

-- The front jump's high displacement bytes for the shared value x.
abbrev pub high_bytes : Meeting → ℕ → List ℕ
high_bytes m x = take (4 - m.own) (back_jump m (low_bytes (shared_count m) x ++ m.fixed))

-- The parts of a meeting are those of two jumps in range, of which at most two displacement bytes
-- are shared.
pub record IsMeeting (m : Meeting) : Type 0 where
  pub front : (5 ≤ m.front_next) × (m.front_next < 2 ^ 31)
  pub back : (5 ≤ m.back_next) × (m.back_next < 2 ^ 31)
  pub own : m.own ≤ 4
  pub pads : m.pads ≤ 4
  pub pad : m.pad < 256
  pub back_own : m.back_own ≤ 4
  pub fixed : length m.fixed ≡ 4 - m.back_own
  pub small : AreBytes m.fixed
  pub few : shared_count m ≤ 2

-- The back jump's opcode stands k bytes after an instruction's start, and its fixed bytes are those
-- that stand after the instruction.
pub record EndsBehind (v : TurnView) (e : StartEntry) (k : ℕ) (m : Meeting) : Type 0 where
  pub back : m.back_next ≡ e.addr + k + 5
  pub back_own : m.back_own ≡ min (e.len - k - 1) 4
  pub fixed : m.fixed ≡ bytes_from (memory_now v) (e.addr + e.len) (4 - m.back_own)
  pub long : length m.fixed ≡ 4 - m.back_own
  pub small : AreBytes m.fixed

-- A trampoline has from 1 to 256 bytes.
abbrev pub IsSized : ℕ → Type 0
IsSized n = (1 ≤ n) × (n ≤ 256)

-- The front jump to t and the back jump to u both stand, and the bytes that they share spell x.
pub record Meets (m : Meeting) (x t u : ℕ) : Type 0 where
  pub front : drop m.own (rel_bytes m.front_next t) ≡ take (4 - m.own) (back_jump m (rel_bytes m.back_next u))
  pub back : drop m.back_own (rel_bytes m.back_next u) ≡ m.fixed
  pub shared : x ≡ low_displacement (shared_count m) m.back_next u

-- The front jump to t and the back jump to u both stand, and the bytes that they share spell x; the
-- front jump's target comes first.
abbrev pub MeetsFront : Meeting → ℕ → ℕ → ℕ → Type 0
MeetsFront m x t u = Meets m x t u

-- The back jump to t and the front jump to u both stand, and the bytes that they share spell x; the
-- back jump's target comes first.
abbrev pub MeetsBack : Meeting → ℕ → ℕ → ℕ → Type 0
MeetsBack m x t u = Meets m x u t

-- Two places by targets that a shared value allows together: code of n and of m bytes is free there and doesn't meet, and the first
-- place is the least that the value allows and that is free.
pub record IsChosen (taken : List Extent) (Allows : ℕ → ℕ → ℕ → Type 0) (n m : ℕ) (p : Pick) : Type 0 where
  pub allowed : Allows p.x p.first p.second
  pub first : IsFree taken p.first n
  pub second : IsFree taken p.second m
  pub away : Misses p.second m (record { lo = p.first; hi = p.first + n })
  pub least : (t u : ℕ) → Allows p.x t u → IsFree taken t n → p.first ≤ t

-- The front jump's targets: they begin at the lowest one for the value 0, or at `below` less, where
-- displacements are negative.
pub record IsFrontWay (m : Meeting) (size : ℕ) (below : ℤ) (w : Way) : Type 0 where
  pub lo : w.lo ≡ (pos m.front_next +ℤ lowest_displacement [] m.own (high_bytes m 0)) -ℤ below
  pub scale : 1 ≤ shared_count m → w.scale ≡ 256 ^ (m.own + m.pads + 1)
  pub some : (1 ≤ w.scale) × (w.scale ≤ 2 ^ 32)
  pub step : w.step ≡ 1
  pub width : w.width ≡ 256 ^ m.own
  pub sized : w.size ≡ size

-- The back jump's targets: those that its fixed bytes allow, a step apart by the bytes that it
-- shares.
pub record IsBackWay (m : Meeting) (size : ℕ) (w : Way) : Type 0 where
  pub lo : w.lo ≡ pos m.back_next +ℤ lowest_displacement [] m.back_own m.fixed
  pub scale : w.scale ≡ 1
  pub step : w.step ≡ 256 ^ shared_count m
  pub width : w.width ≡ 256 ^ m.back_own
  pub sized : w.size ≡ size

-- The front jump's targets for a value begin at the lowest of its displacements.
abbrev pub StartsAt : Meeting → Way → ℕ → Type 0
StartsAt m w x = (w.lo +ℤ pos (x * w.scale)) ≡ pos m.front_next +ℤ lowest_displacement [] m.own (high_bytes m x)

-- The targets of both jumps for each shared value.
pub record AreWays (m : Meeting) (front back : ℕ) (w : Ways) : Type 0 where
  pub front_way : IsFrontWay m front (pos 0) w.front
  pub turned_way : IsFrontWay m front (pos (2 ^ 32)) w.turned
  pub back_way : IsBackWay m back w.back
  pub most : w.turn ≤ w.count
  pub all : w.count ≡ 256 ^ shared_count m
  pub before : (x : ℕ) → x < w.turn → StartsAt m w.front x
  pub behind : (x : ℕ) → w.turn ≤ x → x < w.count → StartsAt m w.turned x
  pub front_small : IsWay w.front w.turn
  pub turned_small : IsWay w.turned w.count
  pub back_small : IsWay w.back w.turn × IsWay w.back w.count
