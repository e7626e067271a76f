-- What a settled file does when it is started: the stub's run, and then the file's own. Theorems cite it.
use Rattle.std.specs.Prelude.{◌≡◌, ℕ, ◌+◌, ◌*◌, ◌^◌, ◌<◌, ◌≤◌, ◌⊎◌, false, List, length, None, ◌++◌, map, ◌==◌, true, ◌∷◌, []}
use Rattle.std.specs.List.{list_any}
use Rattle.pun_base.specs.Memory.{Bytes, joined}
use Rattle.length_decode.specs.Spelling.{Fields}
use Rattle.cpu_state.specs.Fixed.{IsFixed}
use Rattle.insn_form.specs.Instruction.{insn_of}
use Rattle.insn_form.specs.Operands.{reg}
use Rattle.insn_form.specs.Machine.{Machine}
use Rattle.insn_form.specs.Step.{StepsBy, Step}
use Rattle.insn_form.specs.Runs.{nowhere, IsPath, IsRun, last_of}
use Rattle.insn_form.specs.Processor.{IsProcessorState}
use Rattle.sound_images.specs.Calls.{is_syscall}
use Rattle.elf_read.specs.Entries.{entry_of, segments}
use Rattle.elf_read.specs.Image.{image_of}
use Rattle.settle.specs.Stub.{stub_code}
use Rattle.settle.specs.Settled.{own_table, settled, moved_image, front_image, image_at}
use Rattle.settle.specs.Laws.{IsSettleable, IsPlaceable}
use Rattle.settled_runs.specs.Vector.{OwnTable, told, pairs_at, IsVector}

-- A step that is no call of the kernel.
abbrev pub OwnStep : Machine → Machine → Type 0
OwnStep s t = (f : Fields) × StepsBy nowhere f s t × (is_syscall (insn_of f) ≡ false)

-- Where the stub's instructions stand in it.
abbrev pub stub_places : List ℕ
stub_places = 0 ∷ 4 ∷ 9 ∷ 12 ∷ 16 ∷ 18 ∷ 20 ∷ 23 ∷ 25 ∷ 29 ∷ 31 ∷ 35 ∷ 37 ∷ 41 ∷ 43 ∷ 47 ∷ 49 ∷ 57 ∷ 59 ∷ 67 ∷ 69 ∷ 77 ∷ 79 ∷ 84 ∷ []

-- A step of the stub that stands at an address: no call, and at one of its instructions.
pub record StubStep (at : ℕ) (s t : Machine) : Type 0 where
  pub own : OwnStep s t
  pub place : ℕ
  pub there : s.rip ≡ at + place
  pub listed : list_any (λ k. k == place) stub_places ≡ true

-- The stub stands at the instruction pointer, and a kernel's vector at rsp.
pub record IsTold (o : OwnTable) (s : Machine) (n : ℕ) (vs ks : List ℕ) : Type 0 where
  pub sized : IsProcessorState s
  pub low : s.rip + 89 < 2 ^ 31
  pub stub : IsFixed s.mem s.rip (stub_code s.rip o.phdr o.phnum o.entry)
  pub phdr : o.phdr < 2 ^ 31
  pub phnum : o.phnum < 2 ^ 31
  pub entry : o.entry < 2 ^ 31
  pub rcx : reg s.core 1 ≡ 0
  pub rdi : reg s.core 7 ≡ 0
  pub vector : IsVector s.mem (reg s.core 4) n vs ks

-- From there the stub makes steps of its own to the state that a kernel starts the file in at that base: the same state at the entry, but for
-- the values of three keys.
abbrev pub StubTells : Type 0
StubTells =
    (o : OwnTable) (s : Machine) (n : ℕ) (vs ks : List ℕ) → IsTold o s n vs ks
    → (ts : List Machine) × IsPath (StubStep s.rip) s ts × (length ts ≤ 9 + 4 * length vs + 12 * length ks)
    × (last_of s ts ≡ record { core = s.core; rip = o.entry; mem = told o (pairs_at (reg s.core 4) n vs) ks s.mem; world = s.world })

-- What the stub tells of a file at a base: what a kernel tells of the file itself there.
abbrev pub own_of : ℕ → List ℕ → OwnTable
own_of b file = record { phdr = own_table b file; phnum = length (segments file); entry = b + entry_of file }

-- A state in which a kernel starts the settled file: at its entry, its image with further memory that doesn't meet it, and there the vector.
pub record IsSettledStart (b : ℕ) (file : List ℕ) (further : Bytes) (s : Machine) (n : ℕ) (vs ks : List ℕ) : Type 0 where
  pub processor : IsProcessorState s
  pub there : s.rip ≡ entry_of (settled b file)
  pub memory : s.mem ≡ joined (image_of (settled b file)) further
  pub apart : (x : ℕ) → (image_of (settled b file) x ≡ None) ⊎ (further x ≡ None)
  pub rcx : reg s.core 1 ≡ 0
  pub rdi : reg s.core 7 ≡ 0
  pub vector : IsVector further (reg s.core 4) n vs ks

-- The state in which a kernel starts the file itself at the base, but for the front's page: the same registers, flags, bases and world, the
-- file's own entry, its image moved by the base, and the vector with what a kernel tells of the file.
abbrev pub start_at : ℕ → List ℕ → Bytes → Machine → ℕ → List ℕ → List ℕ → Machine
start_at b file further s n vs ks = record {
  core = s.core;
  rip = b + entry_of file;
  mem = joined (image_at b file) (told (own_of b file) (pairs_at (reg s.core 4) n vs) ks further);
  world = s.world;
}

-- From there the settled file makes steps of its own to it.
abbrev pub SettledStarts : Type 0
SettledStarts =
    (b : ℕ) (file : List ℕ) (further : Bytes) (s : Machine) (n : ℕ) (vs ks : List ℕ)
    → IsSettleable b file → IsPlaceable b file → IsSettledStart b file further s n vs ks
    → (ts : List Machine) × IsPath (StubStep s.rip) s ts × (length ts ≤ 9 + 4 * length vs + 12 * length ks) × (last_of s ts ≡ start_at b file further s n vs ks)

-- The state with further memory in front of its own.
abbrev pub beside : Bytes → Machine → Machine
beside w s = record { core = s.core; rip = s.rip; mem = joined w s.mem; world = s.world }

-- Memory that a state hasn't changes no run of it: the same run is made beside it.
abbrev pub BesideRuns : Type 0
BesideRuns = (w : Bytes) (s : Machine) (us : List Machine) → ((x : ℕ) → (w x ≡ None) ⊎ (s.mem x ≡ None)) → IsRun Step s us → IsRun Step (beside w s) (map (beside w) us)

-- The state in which a kernel starts the file itself at a base.
abbrev pub file_start : ℕ → List ℕ → Bytes → Machine → ℕ → List ℕ → List ℕ → Machine
file_start b file further s n vs ks = record {
  core = s.core;
  rip = b + entry_of file;
  mem = joined (moved_image b (image_of file)) (told (own_of b file) (pairs_at (reg s.core 4) n vs) ks further);
  world = s.world;
}

-- Whatever run the file itself makes at that base, the settled file makes it too, behind the stub's steps and beside the front.
pub record Follows (b : ℕ) (file : List ℕ) (further : Bytes) (s : Machine) (n : ℕ) (vs ks : List ℕ) : Type 0 where
  pub stub : List Machine
  pub few : length stub ≤ 9 + 4 * length vs + 12 * length ks
  pub own : IsPath (StubStep s.rip) s stub
  pub there : last_of s stub ≡ beside (front_image b file) (file_start b file further s n vs ks)
  pub runs : (us : List Machine) → IsRun Step (file_start b file further s n vs ks) us → IsRun Step s (stub ++ map (beside (front_image b file)) us)

abbrev pub SettledFollows : Type 0
SettledFollows =
    (b : ℕ) (file : List ℕ) (further : Bytes) (s : Machine) (n : ℕ) (vs ks : List ℕ)
    → IsSettleable b file → IsPlaceable b file → IsSettledStart b file further s n vs ks → Follows b file further s n vs ks
