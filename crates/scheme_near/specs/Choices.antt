-- The choices of scheme T3, when they are good, and their order. Theorems cite it.
use Rattle.std.specs.Prelude.{◌≡◌, ℕ, ◌+◌, ◌-◌, ◌<◌, ◌≤◌, min, true, List}
use Rattle.byte_locks.specs.declared.lock.Lock.TheVariants.{Free}
use Rattle.start_entries.specs.declared.entry.StartEntry.{StartEntry}
use Rattle.start_list.specs.Turning.{view_of}
use Rattle.start_list.specs.TurnViews.{TurnView, share_segment}
use Rattle.start_list.specs.PlanJumps.{Jump}
use Rattle.start_list.specs.Forms.{Candidate, T3, MayBeVictim, jumps_of}
use Rattle.start_list.specs.Admissible.{IsAdmissible}
use Rattle.scheme_search.specs.declared.meeting.Meeting.{Meeting}
use Rattle.scheme_search.specs.declared.site_turn.SiteTurn.{SiteTurn}
use Rattle.scheme_search.specs.Order.{then_by}
use Rattle.scheme_search.specs.Shared.{by_pick}
use Rattle.scheme_search.specs.Meetings.{EndsBehind}
use Rattle.scheme_near.specs.declared.choice.Choice.{Choice}

-- The candidate of a choice.
abbrev pub candidate : Choice → Candidate
candidate c = T3 c.victim c.offset c.pick.x c.pick.first c.pick.second

-- The jumps of a choice.
abbrev pub jumps : StartEntry → Choice → List Jump
jumps site c = jumps_of site (candidate c)

-- The parts of a choice by which choices are ordered: the victim's address.
abbrev pub victim_of : Choice → ℕ
victim_of c = c.victim.addr

-- The place in the victim to which the site's short jump leads, by its distance from the victim's
-- start.
abbrev pub offset_of : Choice → ℕ
offset_of c = c.offset

-- The order by the place in the victim, then by the shared value, then by the places.
abbrev pub offset_order : Choice → Choice → Type 0
offset_order = then_by offset_of (by_pick (λ c. c.pick))

-- The order of choices: by the victim's address, by the place in the victim, by the shared value,
-- by the places.
abbrev pub whole_order : Choice → Choice → Type 0
whole_order = then_by victim_of offset_order

-- The plan of a choice is admissible.
abbrev pub IsGood : TurnView → StartEntry → Choice → Type 0
IsGood v site c = IsAdmissible v site (candidate c)

-- The plan of a choice is admissible, and the victim is a given one.
abbrev pub IsGoodOf : TurnView → StartEntry → StartEntry → Choice → Type 0
IsGoodOf v site e c = IsGood v site c × (victim_of c ≡ e.addr)

-- The plan of a choice is admissible, and the victim and the place in it are given ones.
abbrev pub IsGoodAt : TurnView → StartEntry → StartEntry → ℕ → Choice → Type 0
IsGoodAt v site e i c = IsGoodOf v site e c × (offset_of c ≡ i)

-- An instruction above the site may be patched too.
pub record IsBeside (here : SiteTurn) (e : StartEntry) : Type 0 where
  pub above : here.site.addr + here.site.len ≤ e.addr
  pub victim : MayBeVictim (view_of here.turn) here.site e

-- The bytes that the victim's own jump and the jump i bytes after its start write in the victim are
-- free.
pub record AreFree (v : TurnView) (e : StartEntry) (i : ℕ) : Type 0 where
  pub outer : (k : ℕ) → k < min e.len 5 → v.lock (e.addr + k) ≡ Free
  pub inner : (k : ℕ) → k < min (e.len - i) 5 → v.lock (e.addr + i + k) ≡ Free

-- The bytes that the two jumps write in the victim are free, and the bytes after the victim that
-- the jump inside needs are code of the site's segment.
pub record IsOpen (v : TurnView) (site e : StartEntry) (i : ℕ) : Type 0 where
  pub free : AreFree v e i
  pub code : (k : ℕ) → k < 4 - min (e.len - i - 1) 4 → share_segment v.segments site.addr (e.addr + e.len + k) ≡ true

-- The meeting of the victim's own jump, in front, and the jump i bytes after its start, without
-- pads.
pub record IsMeetingOf (v : TurnView) (e : StartEntry) (i : ℕ) (m : Meeting) : Type 0 where
  pub front : m.front_next ≡ e.addr + 5
  pub own : m.own ≡ min (i - 1) 4
  pub pads : m.pads ≡ 0
  pub byte : m.pad ≡ 0x40
  pub ends : EndsBehind v e i m
