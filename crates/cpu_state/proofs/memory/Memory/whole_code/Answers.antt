use Rattle.std.proofs.Common.{◌≡◌, ℕ, List, length, Option, None, Some, IfSome, subst, ◌∙◌}
use Rattle.pun_base.specs.Memory.{Bytes}
use Rattle.cpu_state.specs.declared.regions.MemoryRegion.{MemoryRegion}
use Rattle.cpu_state.specs.Bytes.{code_at}
use Rattle.cpu_state.specs.Held.{AreHeld}
use Rattle.cpu_state.specs.Regions.{cell_at}
use Rattle.cpu_state.proofs.RegionSpans.{code_held}
use Rattle.cpu_state.proofs.memory.Memory.whole_code.Goals as goal
use denote.Bor.{Bor}

-- Executable bytes that are found are the code there.
code_found : (m : Bytes) (addr : ℕ) (found : Option (Bor (List ℕ))) → IfSome found (λ bytes. length bytes.now ≡ 15)
    → IfSome found (λ bytes. AreHeld 1 m addr bytes.now) → IfSome found (λ bytes. bytes.now ≡ code_at m addr 15)
code_found m addr None count held = count
code_found m addr (Some bytes) count held = code_held m addr 15 bytes.now count held

pub returns : goal.returns
returns c = code_found (cell_at c.args.self.now) c.args.addr c.find_all.result c.find_all.ensures.count
    (subst (λ (rs : List MemoryRegion). IfSome c.find_all.result (λ bytes. AreHeld 1 (cell_at rs) c.args.addr bytes.now))
    (c.deref.ensures.value ∙ c.self.view_is) c.find_all.ensures.held)
