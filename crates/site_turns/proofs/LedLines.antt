-- Each trampoline's start leads to it in memory as it stands.
use Rattle.cpu_state.specs.Fixed.{IsFixed}
use Rattle.elf_emit.proofs.StayingSegments.{all_map}
use Rattle.start_entries.specs.Leading.{Leads}
use Rattle.start_list.specs.PlanJumps.{Jump}
use Rattle.sound_images.specs.Reports.{Line}
use Rattle.site_turns.specs.States.{memory_at}
use Rattle.site_turns.specs.Folded.{done_by, IsHeld, IsLed, memory_in}
use Rattle.site_turns.specs.Laws.{FoldedLeads}

-- each trampoline's start leads to it in memory as it stands
pub folded_leads : FoldedLeads
folded_leads g t f =
    let d = done_by t in
    all_map (IsLed g d) (λ (l : Line). Leads (memory_at g t) g.entries l.tramp.start l.tramp.place) d.lines
    (λ l h. h.leads (memory_in g d) (all_map (IsHeld g d) (λ (j : Jump). IsFixed (memory_in g d) j.at j.bytes) h.jumps (λ j k. k.stands) h.held))
    f.kept.led
