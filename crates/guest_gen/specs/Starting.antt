-- The state from which a text runs. Contracts of private functions alone cite it.
use Rattle.std.specs.Prelude.{◌≡◌, ℕ, List, replicate}
use Rattle.pun_base.specs.Memory.{Bytes, joined}
use Rattle.cpu_alu.specs.FlagWord.{unpacked}
use Rattle.cpu_state.specs.declared.state.State.{State}
use Rattle.cpu_state.specs.Adding.{laid}
use Rattle.cpu_state.specs.Regions.{cell_at}
use Rattle.guest_gen.specs.Instructions.{text_start, blocks_start, data_start}
use Rattle.guest_gen.specs.Worlds.{start_regs}

-- the text, and the page of data
unfoldable pub start_memory : List ℕ → Bytes
start_memory text = joined (laid text_start 5 text) (laid data_start 6 (replicate 0x1000 0))

-- the registers of a guest's script, and the first block's address
pub record IsStartState (text : List ℕ) (s : State) : Type 0 where
  pub regs : s.regs ≡ start_regs
  pub rip : s.rip ≡ blocks_start
  pub flags : s.flags ≡ unpacked 0x202
  pub fs : s.fs ≡ 0
  pub gs : s.gs ≡ 0
  pub mem : cell_at s.mem ≡ start_memory text
