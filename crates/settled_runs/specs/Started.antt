-- What a rewriting of a settled file does from where a kernel starts it. Theorems cite it.
use Rattle.std.specs.Prelude.{◌≡◌, ℕ, ◌+◌, ◌==◌, true, List, length, None}
use Rattle.std.specs.List.{list_any}
use Rattle.pun_base.specs.Memory.{Bytes}
use Rattle.start_entries.specs.declared.entry.StartEntry.{StartEntry}
use Rattle.start_entries.specs.Standing.{AreEntries}
use Rattle.insn_form.specs.Machine.{Machine}
use Rattle.insn_form.specs.Operands.{reg}
use Rattle.insn_form.specs.Step.{Step}
use Rattle.image_runs.specs.Listed.{is_known_start}
use Rattle.image_runs.specs.Quiet.{IsStartPair}
use Rattle.elf_read.specs.Entries.{entry_of, segments}
use Rattle.elf_read.specs.Image.{image_of}
use Rattle.sound_images.specs.Rewriting.{Rewriting}
use Rattle.sound_images.specs.Headline.{Headline}
use Rattle.settle.specs.Settled.{stub_at, settled}
use Rattle.settle.specs.Refusals.{settle_refusal}
use Rattle.settle.specs.Laws.{IsReadable}
use Rattle.settled_runs.specs.Vector.{IsVector}
use Rattle.settled_runs.specs.Laws.{stub_places}
use Rattle.settled_runs.specs.Quiet.{FollowsOn}

-- Two states are a start pair in which a kernel starts a program: rcx and rdi are 0, and further memory holds the vector.
pub record IsKernelPair (original patched : Bytes) (entry n : ℕ) (vs ks : List ℕ) (s t : Machine) : Type 0 where
  pub pair : IsStartPair original patched entry s t
  pub rcx : reg s.core 1 ≡ 0
  pub rdi : reg s.core 7 ≡ 0
  pub vector : IsVector pair.further (reg s.core 4) n vs ks

-- Starts that list each instruction of the stub.
abbrev pub ListsPlaces : ℕ → List ℕ → List StartEntry → Type 0
ListsPlaces b file listed = (k : ℕ) → list_any (λ j. j == k) stub_places ≡ true → is_known_start listed (stub_at b (length (segments file)) + k) ≡ true

-- The headline holds of a rewriting of what `settle` writes of a file at a base, and the listed entries are entries of its image, among them those
-- of the stub.
pub record IsSettledRewriting (b : ℕ) (file : List ℕ) (r : Rewriting) : Type 0 where
  pub original : r.original ≡ image_of (settled b file)
  pub entry : r.entry ≡ entry_of (settled b file)
  pub entries : AreEntries r.original r.listed
  pub places : ListsPlaces b file r.listed
  pub headline : Headline Step r

-- From where a kernel starts it, for each quiet run of the file at that base with deliveries there is a run that follows it.
abbrev pub SettledIsStarted : Type 0
SettledIsStarted =
    (b : ℕ) (file : List ℕ) (r : Rewriting) → IsReadable file → settle_refusal b file ≡ None → IsSettledRewriting b file r
    → (s t : Machine) (n : ℕ) (vs ks : List ℕ) → (c : IsKernelPair r.original r.patched r.entry n vs ks s t)
    → FollowsOn b file r c.pair.further n vs ks s t
