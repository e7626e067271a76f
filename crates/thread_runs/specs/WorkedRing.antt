-- An event that keeps a ring, worked out: its bytes, and how a ring stands after claims and fills. Worked examples alone cite it.
use Rattle.std.specs.Prelude.{◌≡◌, ℕ, ◌+◌, List, [], ◌∷◌, length, take, Some}
use Rattle.thread_runs.specs.ThreadCode.{Keeps, ring_event, event_len}
use Rattle.event_steps.specs.EventSteps.{long}
use Rattle.thread_runs.specs.ThreadLists.{thread_ring_list}
use Rattle.thread_runs.specs.Threading.Part.{Save, Marked, Unfilled}
use Rattle.thread_runs.specs.Threading.{part_from, part_to}
use Rattle.thread_runs.specs.Watching.{Claim, Fill, last_claim}
use Rattle.thread_runs.specs.Ring.{claimed_by, last_fill, shown_by, NoneOvertaken}

-- three claims: thread 0 at site 4, thread 1 at site 9, and thread 0 at site 5
abbrev pub three_claims : List Claim
three_claims = record { thread = 0; number = 4 } ∷ record { thread = 1; number = 9 } ∷ record { thread = 0; number = 5 } ∷ []

-- thread 1 fills its slot after the second claim, and then thread 0 its first one, before it makes the third claim
abbrev pub two_fills : List Fill
two_fills = record { claim = 1; claimed = 2 } ∷ record { claim = 0; claimed = 2 } ∷ []

-- of a ring of 256 slots the 257th claim fills slot 0, and then the first one, whose thread was overtaken
abbrev pub overtaken : List Fill
overtaken = record { claim = 256; claimed = 257 } ∷ record { claim = 0; claimed = 257 } ∷ []

-- how many bytes stand before a step of the event
abbrev pub bytes_before : ℕ → ℕ
bytes_before k = long (take k (thread_ring_list 256 0x20000 0).steps)

-- Events of a private range at 0x20000.
pub record RingIsWorked : Type 0 where
  -- one of site 3 with a ring of 65,536 slots
  pub keeps : ring_event 65536 0x20000 3
      ≡ 0x48 ∷ 0x89 ∷ 0x84 ∷ 0x24 ∷ 0x78 ∷ 0xff ∷ 0xff ∷ 0xff ∷ 0x9f ∷ 0x0f ∷ 0x90 ∷ 0xc0
      ∷ 0x48 ∷ 0x89 ∷ 0x84 ∷ 0x24 ∷ 0x70 ∷ 0xff ∷ 0xff ∷ 0xff ∷ 0xb8 ∷ 0x01 ∷ 0x00 ∷ 0x00 ∷ 0x00
      ∷ 0xf0 ∷ 0x0f ∷ 0xc1 ∷ 0x04 ∷ 0x25 ∷ 0x40 ∷ 0x00 ∷ 0x02 ∷ 0x00 ∷ 0x0f ∷ 0xb7 ∷ 0xc0
      ∷ 0xc7 ∷ 0x04 ∷ 0x85 ∷ 0x44 ∷ 0x00 ∷ 0x02 ∷ 0x00 ∷ 0x04 ∷ 0x00 ∷ 0x00 ∷ 0x00
      ∷ 0x48 ∷ 0x8b ∷ 0x84 ∷ 0x24 ∷ 0x70 ∷ 0xff ∷ 0xff ∷ 0xff
      ∷ 0x04 ∷ 0x7f ∷ 0x9e ∷ 0x48 ∷ 0x8b ∷ 0x84 ∷ 0x24 ∷ 0x78 ∷ 0xff ∷ 0xff ∷ 0xff ∷ []
  pub long : length (ring_event 65536 0x20000 3) ≡ event_len (Some (Keeps 65536)) []
  -- with 256 slots the low byte alone leads to a slot
  pub short : ring_event 256 0x20000 0
      ≡ 0x48 ∷ 0x89 ∷ 0x84 ∷ 0x24 ∷ 0x78 ∷ 0xff ∷ 0xff ∷ 0xff ∷ 0x9f ∷ 0x0f ∷ 0x90 ∷ 0xc0
      ∷ 0x48 ∷ 0x89 ∷ 0x84 ∷ 0x24 ∷ 0x70 ∷ 0xff ∷ 0xff ∷ 0xff ∷ 0xb8 ∷ 0x01 ∷ 0x00 ∷ 0x00 ∷ 0x00
      ∷ 0xf0 ∷ 0x0f ∷ 0xc1 ∷ 0x04 ∷ 0x25 ∷ 0x40 ∷ 0x00 ∷ 0x02 ∷ 0x00 ∷ 0x0f ∷ 0xb6 ∷ 0xc0
      ∷ 0xc7 ∷ 0x04 ∷ 0x85 ∷ 0x44 ∷ 0x00 ∷ 0x02 ∷ 0x00 ∷ 0x01 ∷ 0x00 ∷ 0x00 ∷ 0x00
      ∷ 0x48 ∷ 0x8b ∷ 0x84 ∷ 0x24 ∷ 0x70 ∷ 0xff ∷ 0xff ∷ 0xff
      ∷ 0x04 ∷ 0x7f ∷ 0x9e ∷ 0x48 ∷ 0x8b ∷ 0x84 ∷ 0x24 ∷ 0x78 ∷ 0xff ∷ 0xff ∷ 0xff ∷ []
  -- LOCK XADD stands 25 bytes after the event's first one, MOVZX, the MOV into the slot and what is behind it at these
  pub claims : bytes_before 5 ≡ 25
  pub reduces : bytes_before 6 ≡ 34
  pub fills : bytes_before 7 ≡ 37
  pub filled : bytes_before 8 ≡ 48
  pub behind : bytes_before 12 ≡ 67
  -- the first save ends with the first byte of the MOV that saves the flags; a claim is unfilled from MOVZX on, up to the end of the MOV that fills
  pub saving : part_to Save (Some (Keeps 256)) [] ≡ bytes_before 3 + 1
  pub claimed : part_from Marked (Some (Keeps 256)) [] ≡ bytes_before 6
  pub until : part_to Marked (Some (Keeps 256)) [] ≡ bytes_before 12 + 1
  pub unfilled : part_from Unfilled (Some (Keeps 256)) [] ≡ bytes_before 6
  pub over : part_to Unfilled (Some (Keeps 256)) [] ≡ bytes_before 8
  -- thread 0 claimed twice, and its last claim is the third
  pub own : claimed_by 0 three_claims ≡ 4 ∷ 5 ∷ []
  pub last : last_claim 0 three_claims ≡ 2
  pub other : last_claim 1 three_claims ≡ 1
  -- slots 0 and 1 show the sites of the first two claims, and slot 2 none, since the third claim isn't filled
  pub first : shown_by three_claims (last_fill 256 0 two_fills) ≡ 5
  pub second : shown_by three_claims (last_fill 256 1 two_fills) ≡ 10
  pub third : shown_by three_claims (last_fill 256 2 two_fills) ≡ 0
  -- an overtaken thread puts its older claim over a newer one
  pub newest : last_fill 256 0 (record { claim = 256; claimed = 257 } ∷ []) ≡ Some 256
  pub oldest : last_fill 256 0 overtaken ≡ Some 0
  pub overtakes : NoneOvertaken 256 256 overtaken → ⊥
