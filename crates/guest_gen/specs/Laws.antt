-- What each guest keeps, for whoever patches it. Theorems cite it.
use Rattle.std.specs.Prelude.{◌≡◌, ℕ, ◌+◌, ◌≤◌, true, List, [], ◌∷◌, ◌++◌, length, None}
use Rattle.std.specs.List.{Contains}
use Rattle.std.specs.List.Sorted.{IsStrictlyIncreasing}
use Rattle.elf_read.specs.Code.{is_exec, window}
use Rattle.elf_read.specs.Refusals.{refusal}
use Rattle.cpu_state.specs.declared.script.Script.{Script}
use Rattle.length_decode.specs.Spelling.{Fields, IsInstruction, spelling}
use Rattle.guest_gen.specs.declared.instruction.GuestInsn.{GuestInsn}
use Rattle.guest_gen.specs.Files.{guest_file}
use Rattle.guest_gen.specs.Instructions.{text_start, spelled}
use Rattle.guest_gen.specs.Worlds.{AnswersRun, IsGuestScript}
use Rattle.guest_gen.specs.Texts.{guest_insns, guest_starts, guest_sites}

-- its file breaks no rule of an original
abbrev pub GuestsAreAccepted : Type 0
GuestsAreAccepted = (seed n : ℕ) → n ≤ 20000 → refusal 0x20000 (guest_file seed n) ≡ None

-- an instruction stands in the window of an address: it can be executed, and some fields spell it
pub record IsCoded (file : List ℕ) (a : ℕ) (i : GuestInsn) : Type 0 where
  pub exec : is_exec file a ≡ true
  pub fields : Fields
  pub is : IsInstruction fields
  pub bytes : spelling fields ≡ spelled i a
  pub rest : List ℕ
  pub seen : window file a ≡ spelling fields ++ rest

-- so do instructions one after the other, the first at an address
abbrev pub AreCoded : List ℕ → ℕ → List GuestInsn → Type 0
AreCoded file a [] = Unit {0}
AreCoded file a (i ∷ is) = IsCoded file a i × AreCoded file (a + length (spelled i a)) is

-- each instruction of a guest does, at its start
abbrev pub GuestsAreCoded : Type 0
GuestsAreCoded = (seed n : ℕ) → n ≤ 20000 → AreCoded (guest_file seed n) text_start (guest_insns seed n)

-- its starts and its sites ascend, each site is a start, and there are few sites
pub record IsListed (starts sites : List ℕ) : Type 0 where
  pub starts_ascend : IsStrictlyIncreasing starts
  pub sites_ascend : IsStrictlyIncreasing sites
  pub sites_listed : (a : ℕ) → Contains sites a → Contains starts a
  pub few : length sites ≤ 250

-- that is so of each guest
abbrev pub GuestsAreListed : Type 0
GuestsAreListed = (seed n : ℕ) → 1 ≤ n → n ≤ 20000 → IsListed (guest_starts seed n) (guest_sites seed n)

-- two worlds that answer a run of as many steps by setting nothing are one
abbrev pub WorldIsOne : Type 0
WorldIsOne = (n : ℕ) (file : List ℕ) (s t : Script) → IsGuestScript s → IsGuestScript t → AnswersRun n file s →
    AnswersRun n file t → s.world.entries ≡ t.world.entries
