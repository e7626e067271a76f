-- A start state of the stub, and that a start state of the loader form's file is one. Theorems cite it.
use Rattle.std.specs.Prelude.{◌≡◌, ◌⊎◌, ℕ, ◌+◌, ◌^◌, ◌<◌, ◌≤◌, true, List, [], ◌∷◌, length, Some, None}
use Rattle.std.specs.List.{list_any}
use Rattle.pun_base.specs.Memory.{Bytes, joined}
use Rattle.cpu_state.specs.Bytes.{allows}
use Rattle.cpu_state.specs.Adding.{IsFree}
use Rattle.cpu_state.specs.Processor.{IsProcessorCore}
use Rattle.insn_form.specs.Machine.{Machine}
use Rattle.insn_form.specs.Processor.{IsProcessorState}
use Rattle.elf_read.specs.Entries.{entry_of}
use Rattle.elf_read.specs.Image.{image_of}
use Rattle.elf_emit.specs.Job.{Job}
use Rattle.elf_emit.specs.Frames as frames
use Rattle.elf_emit.specs.Laws.{IsJob, is_on}
use Rattle.loader_form.specs.Kernel.{mapped}
use Rattle.loader_form.specs.Stub.{Run, Stub, path, records_of, path_at, records_at, end_of, stub_code}
use Rattle.loader_form.specs.Laid.{Laid, stub_of, loader_frame, file_of, IsLaid}

-- These bytes are held from an address on, to be read and executed.
abbrev pub IsLoaded : Bytes → ℕ → List ℕ → Type 0
IsLoaded m a [] = Unit {0}
IsLoaded m a (b ∷ bs) = (m a ≡ Some (record { byte = b; perms = 5 })) × IsLoaded m (a + 1) bs

-- An address lies neither in the stub nor in the save page.
abbrev pub IsOutside : Stub → ℕ → Type 0
IsOutside b x = ((x < b.at) ⊎ (end_of b ≤ x)) × ((x < b.save) ⊎ (b.save + 4096 ≤ x))

-- A run lies in the file and in the addresses of a program, and doesn't meet stub and save page.
pub record IsRunOf (file : List ℕ) (b : Stub) (r : Run) : Type 0 where
  pub low : r.place + r.size ≤ 0x7FFF0000
  pub inside : r.offset + r.size ≤ length file
  pub small : r.offset < 2 ^ 64
  pub apart : (x : ℕ) → r.place ≤ x → x < r.place + r.size → IsOutside b x

-- Each run lies in the file and in the addresses of a program, and meets neither stub nor save
-- page.
abbrev pub AreRunsOf : List ℕ → Stub → List Run → Type 0
AreRunsOf file b [] = Unit {0}
AreRunsOf file b (r ∷ rs) = IsRunOf file b r × AreRunsOf file b rs

-- Each run's addresses are free when it is mapped, after the runs before it.
abbrev pub AreFree : List ℕ → Bytes → List Run → Type 0
AreFree file m [] = Unit {0}
AreFree file m (r ∷ rs) = IsFree m r.place (r.place + r.size) × AreFree file (mapped file r.place r.size r.offset m) rs

-- A state from which the stub starts.
pub record IsStart (file : List ℕ) (b : Stub) (s : Machine) : Type 0 where
  pub processor : IsProcessorCore s.core
  pub there : s.rip ≡ b.at
  pub code : IsLoaded s.mem b.at (stub_code b)
  pub path : IsLoaded s.mem (path_at b) path
  pub records : IsLoaded s.mem (records_at b) (records_of b.runs)
  pub low : end_of b ≤ 0x7FFF0000
  -- the save page can be read and written
  pub read : (x : ℕ) → b.save ≤ x → x < b.save + 4096 → allows 4 (s.mem x) ≡ true
  pub written : (x : ℕ) → b.save ≤ x → x < b.save + 4096 → allows 2 (s.mem x) ≡ true
  pub low_save : b.save + 4096 ≤ 0x7FFF0000
  pub apart : (end_of b ≤ b.save) ⊎ (b.save + 4096 ≤ b.at)
  pub entry : b.entry < 2 ^ 64
  pub runs : AreRunsOf file b b.runs
  pub free : AreFree file s.mem b.runs

-- A start state of the loader form's file: it has the file's image and further memory that meets
-- neither that image nor a page for code, and stands at the file's entry point.
pub record IsLaidStart (j : Job) (l : Laid) (further : Bytes) (s : Machine) : Type 0 where
  pub processor : IsProcessorState s
  pub there : s.rip ≡ entry_of (file_of j l)
  pub memory : (x : ℕ) → s.mem x ≡ joined (image_of (file_of j l)) further x
  pub apart : (x : ℕ) → (image_of (file_of j l) x ≡ None) ⊎ (further x ≡ None)
  pub pages : (x : ℕ) → list_any (λ p. is_on p x) j.pages ≡ true → further x ≡ None

-- A start state of the loader form's file is one from which the stub starts.
abbrev pub LaidStarts : Type 0
LaidStarts =
    (j : Job) (l : Laid) (further : Bytes) (s : Machine) → IsJob j → IsLaid j l → frames.count (loader_frame j l) ≤ 1024
    → entry_of j.orig < 2 ^ 64 → IsLaidStart j l further s → IsStart (file_of j l) (stub_of j l) s
