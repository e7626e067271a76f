-- The choices of scheme T2 for one victim, when they are good, and their order. Theorems cite it.
use Rattle.std.specs.Prelude.{◌≡◌, ℕ, ◌+◌, ◌-◌, ◌<◌, ◌≤◌, min, true, List}
use Rattle.byte_locks.specs.declared.lock.Lock.TheVariants.{Free}
use Rattle.start_entries.specs.declared.entry.StartEntry.{StartEntry}
use Rattle.start_list.specs.Turning.{view_of}
use Rattle.start_list.specs.TurnViews.{TurnView, share_segment}
use Rattle.start_list.specs.PlanJumps.{Jump}
use Rattle.start_list.specs.Forms.{Candidate, T2, MayBeVictim, jumps_of}
use Rattle.start_list.specs.Admissible.{IsAdmissible}
use Rattle.scheme_search.specs.declared.meeting.Meeting.{Meeting}
use Rattle.scheme_search.specs.declared.site_turn.SiteTurn.{SiteTurn}
use Rattle.scheme_search.specs.Order.{then_by}
use Rattle.scheme_search.specs.Shared.{by_pick}
use Rattle.scheme_search.specs.Meetings.{EndsBehind}
use Rattle.scheme_succ.specs.declared.choice.Choice.{Choice}

-- The candidate of a choice with this victim.
abbrev pub candidate : StartEntry → Choice → Candidate
candidate e c = T2 e c.pads c.victim_pads c.pad c.pick.x c.pick.first c.pick.second

-- The jumps of a choice with this victim.
abbrev pub jumps : StartEntry → StartEntry → Choice → List Jump
jumps site e c = jumps_of site (candidate e c)

-- How many bytes the two jumps of a choice write.
abbrev pub written_count : StartEntry → StartEntry → Choice → ℕ
written_count site e c = site.len + min e.len (c.victim_pads + 5)

-- The parts of a choice by which choices are ordered: the site's pads.
abbrev pub pads_of : Choice → ℕ
pads_of c = c.pads

-- How many pads the victim's jump has.
abbrev pub victim_pads_of : Choice → ℕ
victim_pads_of c = c.victim_pads

-- The byte that the victim's pads are.
abbrev pub pad_of : Choice → ℕ
pad_of c = c.pad

-- The order by the byte of the victim's pads, then by the shared value, then by the places.
abbrev pub pad_order : Choice → Choice → Type 0
pad_order = then_by pad_of (by_pick (λ c. c.pick))

-- The order by the victim's pads, then by their byte, then by the shared value, then by the places.
abbrev pub behind_order : Choice → Choice → Type 0
behind_order = then_by victim_pads_of pad_order

-- The order of choices: by the site's pads, by the victim's, by their byte, by the shared value, by
-- the places.
abbrev pub whole_order : Choice → Choice → Type 0
whole_order = then_by pads_of behind_order

-- The plan of a choice is admissible.
abbrev pub IsGood : TurnView → StartEntry → StartEntry → Choice → Type 0
IsGood v site e c = IsAdmissible v site (candidate e c)

-- The plan of a choice is admissible, and the site's jump has p pads.
abbrev pub IsGoodAt : TurnView → StartEntry → StartEntry → ℕ → Choice → Type 0
IsGoodAt v site e p c = IsGood v site e c × (pads_of c ≡ p)

-- The plan of a choice is admissible, the site's jump has p pads, and the victim's has q.
abbrev pub IsGoodBehind : TurnView → StartEntry → StartEntry → ℕ → ℕ → Choice → Type 0
IsGoodBehind v site e p q c = IsGoodAt v site e p c × (victim_pads_of c ≡ q)

-- The plan of a choice is admissible, the site's jump has p pads, and the victim's has q, each of
-- them this byte.
abbrev pub IsGoodWith : TurnView → StartEntry → StartEntry → ℕ → ℕ → ℕ → Choice → Type 0
IsGoodWith v site e p q pad c = IsGoodBehind v site e p q c × (pad_of c ≡ pad)

-- The site is short, and right after it begins an instruction that may be patched too.
pub record IsBeside (here : SiteTurn) (e : StartEntry) : Type 0 where
  pub short : here.site.len ≤ 4
  pub behind : e.addr ≡ here.site.addr + here.site.len
  pub victim : MayBeVictim (view_of here.turn) here.site e

-- The bytes that a jump after q pads writes in the victim are free, and the bytes after the victim
-- that it needs are code of the site's segment.
pub record IsOpen (v : TurnView) (site e : StartEntry) (q : ℕ) : Type 0 where
  pub free : (k : ℕ) → k < min e.len (q + 5) → v.lock (e.addr + k) ≡ Free
  pub code : (k : ℕ) → k < 4 - min (e.len - q - 1) 4 → share_segment v.segments site.addr (e.addr + e.len + k) ≡ true

-- The meeting of the site's jump, in front, with p pads, and the victim's, with q.
pub record IsMeetingOf (v : TurnView) (site e : StartEntry) (p q pad : ℕ) (m : Meeting) : Type 0 where
  pub front : m.front_next ≡ site.addr + p + 5
  pub own : m.own ≡ site.len - p - 1
  pub pads : m.pads ≡ q
  pub byte : m.pad ≡ pad
  pub ends : EndsBehind v e q m
