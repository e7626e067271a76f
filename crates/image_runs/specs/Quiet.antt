-- Quiet runs, and the states from which two files start. For any step relation (insn_form's Runs). Theorems cite it.
use Rattle.std.specs.Prelude.{◌≡◌, ◌⊎◌, ℕ, true, List, [], ◌∷◌, None}
use Rattle.pun_base.specs.Memory.{Bytes, joined}
use Rattle.start_entries.specs.declared.entry.StartEntry.{StartEntry}
use Rattle.insn_form.specs.Machine.{Machine}
use Rattle.insn_form.specs.Runs.{StepRelation}
use Rattle.insn_form.specs.Processor.{IsProcessorState}
use Rattle.image_runs.specs.Listed.{is_start, is_known_start, is_listed_byte}

-- A quiet step: it is made at a start of known length, and reads and writes as data no byte of a listed instruction, nor does an answer write one.
abbrev pub IsQuietStep : StepRelation → List StartEntry → Machine → Machine → Type 0
IsQuietStep Step listed s t = (is_known_start listed s.rip ≡ true) × Step (is_listed_byte listed) s t

-- A run of the original is quiet: each state stands at a listed start, and each step is quiet.
abbrev pub IsQuiet : StepRelation → List StartEntry → Machine → List Machine → Type 0
IsQuiet Step listed s [] = is_start listed s.rip ≡ true
IsQuiet Step listed s (t ∷ ts) = IsQuietStep Step listed s t × IsQuiet Step listed t ts

-- Two states from which original and patched file start: the original's is the state of a processor, the other has
-- equal registers, flags, bases and world. Both stand at the entry, each with its image and both with one further
-- memory that meets neither image.
pub record IsStartPair (original_image patched_image : Bytes) (entry : ℕ) (a b : Machine) : Type 0 where
  pub sized : IsProcessorState a
  pub core : b.core ≡ a.core
  pub world : b.world ≡ a.world
  pub original_at : a.rip ≡ entry
  pub patched_at : b.rip ≡ entry
  pub further : Bytes
  pub apart : (x : ℕ) → (joined original_image patched_image x ≡ None) ⊎ (further x ≡ None)
  pub original : a.mem ≡ joined original_image further
  pub patched : b.mem ≡ joined patched_image further
