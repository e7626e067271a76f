-- What is planned for a guest of several threads. Theorems cite it.
use Rattle.std.specs.Prelude.{◌≡◌, ℕ, ◌+◌, ◌<◌, true, List, length, Some, None, is_some}
use Rattle.pun_base.specs.Memory.{Bytes}
use Rattle.pun_base.specs.declared.action.Action.{Action}
use Rattle.pun_base.specs.Actions.{IsAction}
use Rattle.pun_base.specs.Limits.{most_sites}
use Rattle.length_decode.specs.Spelling.{Fields, IsInstruction, spelling}
use Rattle.cpu_state.specs.Bytes.{Stands}
use Rattle.elf_read.specs.Image.{image_of}
use Rattle.elf_read.specs.Refusals.{refusal}
use Rattle.start_entries.specs.declared.entry.StartEntry.{StartEntry}
use Rattle.start_entries.specs.Finding.{entry_at}
use Rattle.start_entries.specs.Laws.{IsBuilt}
use Rattle.sound_images.specs.Reports.{Line}
use Rattle.site_turns.specs.Modes.{thread_rules, IsShared, can_in_threads}
use Rattle.site_turns.specs.PlannedState.{PlannedState}
use Rattle.site_turns.specs.Planning.{Request, Turns, lines_of, AreCodesBy, IsTurned}
use Rattle.guest_threads.specs.declared.planning.ThreadSetting.{ThreadSetting}
use Rattle.guest_threads.specs.FromTurns.{code_of_line}

-- The code of a trampoline for threads, with the event of an action or without, by the instruction that stands at its start in an
-- image; p is the first address of the private range.
pub record HasThreadCode (action : Action) (image : Bytes) (p : ℕ) (l : Line) (code : List ℕ) : Type 0 where
  pub fields : Fields
  pub spelled : IsInstruction fields
  pub stands : Stands image l.tramp.start (spelling fields)
  pub is : code ≡ code_of_line action p l fields (l.tramp.start + length (spelling fields))

-- What was planned is what the turns for threads give: the private range, a row for each site in turn order, and the code of
-- each trampoline in the order of the rows.
pub record IsThreadPlanned (q : Request) (t : Turns) (p : PlannedState) : Type 0 where
  pub turned : IsTurned (thread_rules q.action) q t p.private p.rows
  pub built : AreCodesBy (HasThreadCode q.action (image_of q.file) p.private.lo) (lines_of p.rows) p.built

-- What the code of trampolines for threads is made of: the file is accepted, the starts are its
-- own, the action can be asked for, threads can get its events, and the private range lies among a program's addresses.
pub record IsThreadSetting (s : ThreadSetting) : Type 0 where
  pub accepted : refusal 0x10000 s.elf.now.bytes ≡ None
  pub own : IsBuilt s.elf.now.bytes s.starts.now
  pub asked : IsAction s.action
  pub shared : IsShared s.action
  pub low : s.private.lo < 0x7FFF0000

-- A trampoline's code can be made.
pub record CanBuildThread (s : ThreadSetting) (l : Line) : Type 0 where
  pub set : IsThreadSetting s
  pub number : l.number < most_sites
  pub listed : is_some (entry_at s.starts.now l.tramp.start) ≡ true
  pub can : (e : StartEntry) → entry_at s.starts.now l.tramp.start ≡ Some e → is_some (can_in_threads e) ≡ true
  pub place : l.tramp.place < 0x7FFF0000

-- What the code of a trampoline is, in a setting.
abbrev pub code_in : ThreadSetting → Line → List ℕ → Type 0
code_in s = HasThreadCode s.action (image_of s.elf.now.bytes) s.private.lo
