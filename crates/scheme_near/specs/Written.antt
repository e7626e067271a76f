-- What the plan of a good choice of scheme T3 writes. Contracts of private functions alone cite it.
use Rattle.std.specs.Prelude.{ℕ, ◌+◌, ◌-◌, ◌<◌, ◌≤◌, min, List, [], ◌∷◌, take, map}
use Rattle.std.specs.List.{AllByRecursion}
use Rattle.pun_base.specs.declared.plan.Write.{Write}
use Rattle.insn_form.specs.Moved.{rel_bytes}
use Rattle.start_entries.specs.declared.entry.StartEntry.{StartEntry}
use Rattle.start_list.specs.Turning.{view_of}
use Rattle.start_list.specs.TurnViews.{memory_now}
use Rattle.start_list.specs.PlanJumps.{is_written, after_writes}
use Rattle.start_list.specs.Plans.{AreRuns, TellsWrite, write_run}
use Rattle.scheme_search.specs.declared.site_turn.SiteTurn.{SiteTurn}
use Rattle.scheme_near.specs.declared.choice.Choice.{Choice}
use Rattle.scheme_near.specs.Choices.{IsGood, jumps}

-- The site's short jump.
abbrev pub short_jump_bytes : StartEntry → Choice → List ℕ
short_jump_bytes site c = 0xEB ∷ (c.victim.addr + c.offset - (site.addr + 2)) ∷ []

-- The first bytes of the jump at the victim's start, up to the jump inside the victim.
abbrev pub outer_jump_bytes : Choice → List ℕ
outer_jump_bytes c = take (min c.offset 5) (0xE9 ∷ rel_bytes (c.victim.addr + 5) c.pick.second)

-- The first bytes of the jump inside the victim, up to the victim's end.
abbrev pub inner_jump_bytes : Choice → List ℕ
inner_jump_bytes c = take (min (c.victim.len - c.offset) 5) (0xE9 ∷ rel_bytes (c.victim.addr + c.offset + 5) c.pick.first)

-- A good choice for a site, and where its jumps lie.
pub record IsReady (here : SiteTurn) (c : Choice) : Type 0 where
  pub good : IsGood (view_of here.turn) here.site c
  pub above : here.site.addr + 2 ≤ c.victim.addr
  pub near : c.victim.addr + c.offset ≤ here.site.addr + 129
  pub inside : (2 ≤ c.offset) × (c.offset < c.victim.len)
  pub low : c.victim.addr + c.offset + 5 ≤ 0x7FFF0000
  pub end : c.victim.addr + c.victim.len ≤ 0x7FFF0000
  pub long : c.victim.len ≤ 15
  pub places : (c.pick.first ≤ 0x7FFF0000) × (c.pick.second ≤ 0x7FFF0000)

-- The writes are what the three jumps of a choice write.
pub record IsWritten (here : SiteTurn) (c : Choice) (writes : List Write) : Type 0 where
  pub runs : AreRuns (is_written (jumps here.site c)) (map write_run writes)
  pub tells : AllByRecursion (TellsWrite (memory_now (view_of here.turn))
      (after_writes (memory_now (view_of here.turn)) (jumps here.site c))) writes
