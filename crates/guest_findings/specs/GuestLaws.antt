-- The laws of guests: what is so of each guest, of its patched file and of what is found. Theorems cite it.
use Rattle.std.specs.Prelude.{◌≡◌, ℕ, ◌≤◌, None, Ok}
use Rattle.elf_read.specs.Refusals.{refusal}
use Rattle.elf_emit.specs.Layout.{count}
use Rattle.rewrite_core.specs.Judging.{Job, HasStarts, Judges}
use Rattle.rewrite_core.specs.Rewrites.{file_of}
use Rattle.guest_findings.specs.Findings.{guest_asked, Findings, AreFindings}
use Rattle.command_words.specs.Words.{most_blocks}

-- Its file is accepted, and none of its starts is refused.
abbrev pub GuestsHaveStarts : Type 0
GuestsHaveStarts =
    (seed blocks : ℕ) → 1 ≤ blocks → blocks ≤ most_blocks → HasStarts (guest_asked seed blocks)

-- Its patched file is accepted, with 0x10000 as the lowest address.
abbrev pub GuestOutsAreAccepted : Type 0
GuestOutsAreAccepted =
    (seed blocks : ℕ) → 1 ≤ blocks → blocks ≤ most_blocks → (job : Job)
    → Judges (guest_asked seed blocks) (Ok job) → refusal 0x10000 (file_of job) ≡ None

-- The table of its patched file has at most 1,004 entries: at most two pages of code for each of at most 500 trampolines,
-- the table, the private range, and the guest's own two.
abbrev pub GuestTablesAreShort : Type 0
GuestTablesAreShort =
    (seed blocks : ℕ) → 1 ≤ blocks → blocks ≤ most_blocks → (job : Job)
    → Judges (guest_asked seed blocks) (Ok job) → count job.emit ≤ 1004

-- One thing is found of a guest, at each run.
abbrev pub FindingsAreOne : Type 0
FindingsAreOne =
    (seed blocks : ℕ) → 1 ≤ blocks → blocks ≤ most_blocks → (f g : Findings)
    → AreFindings seed blocks f → AreFindings seed blocks g → f ≡ g
