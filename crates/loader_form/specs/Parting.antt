-- The parts of what the loader form's file loads, and the theorem of the loader form for a job. Theorems cite it.
use Rattle.std.specs.Prelude.{◌≡◌, ℕ, ◌+◌, ◌^◌, ◌<◌, ◌≤◌, List, [], ◌∷◌, ◌++◌, length, map, take}
use Rattle.pun_base.specs.Memory.{Bytes, joined}
use Rattle.insn_form.specs.Machine.{Machine}
use Rattle.insn_form.specs.Step.{Step}
use Rattle.elf_read.specs.Entries.{entry_of}
use Rattle.elf_read.specs.Image.{image, image_of}
use Rattle.elf_emit.specs.Layout.{runs_of}
use Rattle.elf_emit.specs.Job.{Job}
use Rattle.elf_emit.specs.Frames as frames
use Rattle.elf_emit.specs.Laws.{IsJob, with_writes, pages_image, bare_image}
use Rattle.elf_emit.specs.FrameLaws.{table_image, private_image, part_chunk}
use Rattle.image_runs.specs.Quiet.{IsStartPair}
use Rattle.sound_images.specs.Rewriting.{Rewriting}
use Rattle.sound_images.specs.Headline.{Headline}
use Rattle.loader_form.specs.declared.kernel.MapAnswer.TheVariants as answer
use Rattle.loader_form.specs.Laid.{Laid, stub_of, loader_frame, file_of, IsLaid}
use Rattle.loader_form.specs.Starting.{IsLaidStart}
use Rattle.loader_form.specs.Kernel.{Reply, IsAnswer, AreReplies}
use Rattle.loader_form.specs.Running.{AreGiven, Ends, Stops}
use Rattle.loader_form.specs.Continuing.{pages_of, HasParts, IsLedOn, IsFollowedBy}

-- What the table loads of the original and of the private range, with what is written.
abbrev pub base_of : Job → Laid → Bytes
base_of j l = joined (private_image (loader_frame j l)) (with_writes j.writes (image_of j.orig))

-- What the table loads besides: the table itself, the stub and the save page.
abbrev pub rest_of : Job → Laid → Bytes
rest_of j l = joined (table_image (loader_frame j l)) (image (map (part_chunk (loader_frame j l).body) (loader_frame j l).parts))

-- The runs of the stub show the pages for code.
abbrev pub RunsShowPages : Type 0
RunsShowPages =
    (j : Job) (l : Laid) → IsJob j → IsLaid j l → frames.count (loader_frame j l) ≤ 1024
    → (x : ℕ) → pages_of (file_of j l) (stub_of j l) x ≡ pages_image j x

-- A start state of the loader form's file falls into the parts of the stub's theorem.
abbrev pub LaidHasParts : Type 0
LaidHasParts =
    (j : Job) (l : Laid) (further : Bytes) (s : Machine) → IsJob j → IsLaid j l → frames.count (loader_frame j l) ≤ 1024
    → IsLaidStart j l further s → HasParts (file_of j l) (stub_of j l) (image_of j.orig) (base_of j l) (rest_of j l) further s

-- What a start state of a job's loader form leads to, where the stub maps this number of runs and the original has this image; P is what then
-- holds of the original's start and the stub's last state.
pub record LeadsOn (j : Job) (l : Laid) (runs : ℕ) (original : Bytes) (P : Machine → Machine → Type 0) (s : Machine) : Type 0 where
  -- whatever the kernel replies, the stub runs to the original's entry, to the exit, or to a call that has no reply
  pub ends : (replies : List Reply) → AreReplies replies → Ends (file_of j l) (stub_of j l) s replies
  -- where open or mmap fails, the stub's next call ends the program, and the run never comes to the
  -- original's entry
  pub stops : (given : List Reply) (e y : ℕ) → AreReplies given → AreGiven given → length given ≤ runs → IsAnswer (answer.Failed e)
      → Stops (file_of j l) (stub_of j l) s (given ++ record { answer = answer.Failed e; r11 = y } ∷ [])
  -- where neither fails, and each call has a reply, the run comes to the original's entry, and there P holds
  pub follows : (replies : List Reply) → AreReplies replies → runs + 2 ≤ length replies → AreGiven (take (runs + 1) replies)
      → IsLedOn (file_of j l) (stub_of j l) original (base_of j l) P s

-- The theorem of the loader form for a job: each start state leads to a start pair of the original and the image of the job without a table.
abbrev pub LoaderFormLeadsOn : Type 0
LoaderFormLeadsOn =
    (j : Job) (l : Laid) (further : Bytes) (s : Machine) → IsJob j → IsLaid j l → frames.count (loader_frame j l) ≤ 1024
    → entry_of j.orig < 2 ^ 64 → IsLaidStart j l further s
    → LeadsOn j l (length (runs_of j.pages)) (image_of j.orig) (IsStartPair (image_of j.orig) (bare_image j) (entry_of j.orig)) s

-- Where no open and no mmap fails, the headline holds from there on, where the image without a table follows the original.
abbrev pub LoaderFormIsFollowed : Type 0
LoaderFormIsFollowed =
    (j : Job) (l : Laid) (further : Bytes) (r : Rewriting) (s : Machine) (replies : List Reply) → IsJob j → IsLaid j l
    → frames.count (loader_frame j l) ≤ 1024 → entry_of j.orig < 2 ^ 64 → IsLaidStart j l further s
    → r.original ≡ image_of j.orig → r.patched ≡ bare_image j → r.entry ≡ entry_of j.orig → Headline Step r
    → AreReplies replies → length (runs_of j.pages) + 2 ≤ length replies → AreGiven (take (length (runs_of j.pages) + 1) replies)
    → IsFollowedBy (file_of j l) (stub_of j l) (base_of j l) r s
