-- How a guest starts, and the world that answers its run. Theorems cite it.
use Rattle.std.specs.Prelude.{◌≡◌, ℕ, List, [], ◌∷◌, length, replicate, None}
use Rattle.std.specs.List.{AllByRecursion}
use Rattle.cpu_alu.specs.FlagWord.{unpacked}
use Rattle.cpu_state.specs.declared.script.Script.{Script}
use Rattle.cpu_state.specs.declared.world.Answer.{Answer}
use Rattle.cpu_state.specs.declared.world.Entry.{Entry}
use Rattle.elf_read.specs.Entries.{entry_of}
use Rattle.elf_read.specs.Image.{image_of}
use Rattle.insn_form.specs.Machine.{Machine}
use Rattle.insn_form.specs.Step.{Step}
use Rattle.insn_form.specs.Runs.{IsRun, last_of}
use Rattle.guest_gen.specs.Instructions.{text_start, data_start, stack_top}

-- the registers, in the order of `State::regs`: rsp, rbp and rsi alone aren't 0
abbrev pub start_regs : List ℕ
start_regs = 0 ∷ 0 ∷ 0 ∷ 0 ∷ stack_top ∷ data_start ∷ text_start ∷ replicate 9 0

-- the script of a guest, but for the entries of its world
pub record IsGuestScript (s : Script) : Type 0 where
  pub regs : s.regs ≡ start_regs
  pub flags : s.flags ≡ 0x202
  pub fs : s.fs ≡ 0
  pub gs : s.gs ≡ 0
  pub regions : s.regions ≡ []
  pub place : s.world.place ≡ 0

-- the state from which a file runs under a script without regions
abbrev pub start_of : List ℕ → Script → Machine
start_of file s = record {
  core = record { regs = s.regs; flags = unpacked s.flags; fs = s.fs; gs = s.gs };
  rip = entry_of file;
  mem = image_of file;
  world = s.world.entries;
}

-- an answer that sets nothing
abbrev pub nothing : Answer
nothing = record { regs = replicate 16 None; flags = None; fs = None; gs = None; writes = [] }

-- an entry with such an answer
abbrev pub SetsNothing : Entry → Type 0
SetsNothing e = e.answer ≡ nothing

-- states lead from the start, and behind the last of them no entry is left
pub record UsesWorld (start : Machine) (n : ℕ) (states : List Machine) : Type 0 where
  pub count : length states ≡ n
  pub run : IsRun Step start states
  pub used : (last_of start states).world ≡ []

-- The world answers a run of n steps, uses up each entry in it, and sets nothing. There is one such world at most: the
-- questions of the first n steps, in their order.
pub record AnswersRun (n : ℕ) (file : List ℕ) (s : Script) : Type 0 where
  pub nothing : AllByRecursion SetsNothing s.world.entries
  pub states : List Machine
  pub uses : UsesWorld (start_of file s) n states
