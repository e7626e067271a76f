-- What `patch` writes of a settled file follows the original at its base. Theorems cite it.
use Rattle.std.specs.Prelude.{◌≡◌, ℕ, List, None}
use Rattle.pun_base.specs.Shown.{Files}
use Rattle.insn_form.specs.Machine.{Machine}
use Rattle.insn_form.specs.Operands.{reg}
use Rattle.insn_form.specs.Step.{Step}
use Rattle.image_runs.specs.Quiet.{IsQuiet, IsStartPair}
use Rattle.sound_images.specs.Rewriting.{Rewriting}
use Rattle.sound_images.specs.Soundness.{rewriting_of}
use Rattle.rewrite_core.specs.Followed.{case_for}
use Rattle.command_words.specs.Words.{Names}
use Rattle.patch_commands.specs.Answers.{FilesFollowed}
use Rattle.settle.specs.Settled.{settled}
use Rattle.settle.specs.Refusals.{settle_refusal}
use Rattle.settle.specs.Laws.{IsReadable}
use Rattle.settled_runs.specs.Vector.{IsVector}
use Rattle.settled_runs.specs.Laws.{file_start}
use Rattle.settled_runs.specs.Quiet.{ListsStub, IsPatchedFor, IsKernelStart, FollowsOn}

-- The rewriting that a patch made, of the files that it read and wrote.
abbrev pub rewriting_made : (n : Names) (old new : Files) → FilesFollowed n old new → Rewriting
rewriting_made n old new f = rewriting_of (case_for f.file f.list f.out f.report)

-- Where FILE of a patch was what `settle` writes of a file at a base: from each start pair in which a kernel starts OUT, for each quiet run of
-- the file at that base there is a run of OUT that follows the stub's steps and that run.
abbrev pub SettledIsFollowed : Type 0
SettledIsFollowed =
    (b : ℕ) (file : List ℕ) → IsReadable file → settle_refusal b file ≡ None → (m : Names) (old new : Files) (f : FilesFollowed m old new) → f.file ≡ settled b file
    → (s t : Machine) (n : ℕ) (vs ks : List ℕ)
    → (p : IsStartPair (rewriting_made m old new f).original (rewriting_made m old new f).patched (rewriting_made m old new f).entry s t)
    → reg s.core 1 ≡ 0 → reg s.core 7 ≡ 0 → IsVector p.further (reg s.core 4) n vs ks → ListsStub b file p.further (rewriting_made m old new f).listed
    → (us : List Machine) → IsQuiet Step (rewriting_made m old new f).listed (file_start b file p.further s n vs ks) us
    → IsPatchedFor b file (rewriting_made m old new f) s t us

-- The same with deliveries.
abbrev pub SettledIsFollowedWith : Type 0
SettledIsFollowedWith =
    (b : ℕ) (file : List ℕ) → IsReadable file → settle_refusal b file ≡ None → (m : Names) (old new : Files) (f : FilesFollowed m old new) → f.file ≡ settled b file
    → (s t : Machine) (n : ℕ) (vs ks : List ℕ)
    → (p : IsStartPair (rewriting_made m old new f).original (rewriting_made m old new f).patched (rewriting_made m old new f).entry s t)
    → IsKernelStart b file p.further (rewriting_made m old new f).listed s n vs ks
    → FollowsOn b file (rewriting_made m old new f) p.further n vs ks s t
