-- Where the jumps of an admissible plan lead. Theorems cite it.
use Rattle.std.specs.Prelude.{◌≡◌, ℕ, ◌+◌, ◌^◌, ◌<◌, ◌≤◌, [], ◌∷◌}
use Rattle.pun_base.specs.Memory.{Bytes}
use Rattle.cpu_state.specs.Fixed.{IsFixed}
use Rattle.start_entries.specs.declared.entry.StartEntry.{StartEntry}
use Rattle.start_entries.specs.Leading.{JumpsTo, Leads}
use Rattle.start_list.specs.TurnViews.{TurnView, memory_now}
use Rattle.start_list.specs.PlanJumps.{padded_jump, after_writes}
use Rattle.start_list.specs.Forms.{Candidate, places_of, jumps_of}
use Rattle.start_list.specs.Admissible.{IsAdmissible}

-- A jump after at most three pads of 40 that stands in memory, executable and not writable, is a
-- jump to its target.
abbrev pub StandingJumpsLead : Type 0
StandingJumpsLead =
    (m : Bytes) (at room pads target : ℕ) → pads ≤ 3 → at + pads + 5 < 2 ^ 31 → target < 2 ^ 31
    → IsFixed m at (padded_jump at room pads 0x40 target).bytes → JumpsTo m at target

-- After the writes of an admissible plan with one trampoline, of schemes B1, B2 and T1, the bytes
-- at the site lead to that trampoline.
abbrev pub OneJumpLeads : Type 0
OneJumpLeads =
    (v : TurnView) (site : StartEntry) (c : Candidate) (place : ℕ) → site.addr + 8 < 2 ^ 31 → IsAdmissible v site c
    → places_of c ≡ place ∷ [] → Leads (after_writes (memory_now v) (jumps_of site c)) v.entries site.addr place
