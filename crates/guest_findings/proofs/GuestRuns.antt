-- A guest that was patched, and the runs of both files.
use Rattle.std.specs.Prelude.{ℕ, ◌≤◌, List, Ok}
use Rattle.cpu_state.specs.declared.script.Script.{Script}
use Rattle.insn_form.specs.Machine.{Machine}
use Rattle.guest_gen.specs.Files.{guest_file}
use Rattle.guest_gen.specs.Texts.{guest_starts}
use Rattle.guest_gen.specs.Worlds.{AnswersRun, IsGuestScript}
use Rattle.rewrite_core.specs.Followed.{IsFollowed}
use Rattle.rewrite_core.specs.Judging.{Job, Judges}
use Rattle.rewrite_core.specs.Rewrites.{file_of}
use Rattle.guest_findings.specs.Tallies.{Tally}
use Rattle.guest_findings.specs.Findings.{guest_asked, AreRuns, most_guest_steps}
use Rattle.command_words.specs.Words.{most_blocks}

-- The guest of a seed was patched as this job has it, and both files ran under its script: the original to what the tally
-- tells, the patched one through these states.
pub record GuestRan (seed blocks : ℕ) (j : Job) (script : Script) (original : Tally) (states : List Machine) : Type 0 where
  pub some : 1 ≤ blocks
  pub most : blocks ≤ most_blocks
  pub judged : Judges (guest_asked seed blocks) (Ok j)
  pub followed : IsFollowed (guest_file seed blocks) (guest_starts seed blocks) (file_of j) j.report
  pub is_script : IsGuestScript script
  pub answers : AnswersRun most_guest_steps (guest_file seed blocks) script
  pub runs : AreRuns seed blocks (file_of j) script original states
