-- The first worked row of `threads`: a file of one jump to itself, and what is written for it. Worked examples alone cite it.
use Rattle.std.specs.Prelude.{ℕ, true, false, List, [], ◌∷◌, Some, Ok}
use Rattle.pun_base.specs.declared.action.Action.TheVariants.{Count}
use Rattle.pun_base.specs.declared.scheme.Scheme.TheVariants.{B2}
use Rattle.address_space.specs.declared.extent.Extent.{Extent}
use Rattle.elf_read.specs.Plain.{plain_file}
use Rattle.elf_emit.specs.Layout.{layout}
use Rattle.insn_form.specs.Instruction.{insn_of}
use Rattle.patch_report.specs.Values.{RowValue, patched, written}
use Rattle.trampoline.specs.Worked.{jump_to_itself}
use Rattle.start_entries.specs.declared.entry.StartEntry.{StartEntry}
use Rattle.rewrite_core.specs.Asked.{Asked}
use Rattle.thread_runs.specs.Threading.{Threading}
use Rattle.guest_threads.specs.ThreadRewriting.{ThreadJob, Judges, IsFollowedInThreads, threading_for}

-- EB FE, a jump to itself, and three bytes after it
abbrev pub row_text : List ℕ
row_text = 0xeb ∷ 0xfe ∷ 0x00 ∷ 0x00 ∷ 0x02 ∷ []

-- the file of that text
abbrev pub row_file : List ℕ
row_file = plain_file row_text

-- the starts of the row: the only start is the only site
abbrev pub row_starts : List ℕ
row_starts = 0x401000 ∷ []

-- what is asked: each event counts, and no range is kept free
abbrev pub row_asked : Asked
row_asked = record { file = row_file; starts = row_starts; sites = row_starts; action = Count; reserves = [] }

-- the only listed start, as an entry
abbrev pub row_entry : StartEntry
row_entry = record { addr = 0x401000; len = 2; form = Some (insn_of jump_to_itself); shared = false }

-- the private range of the row
abbrev pub row_private : Extent
row_private = record { lo = 0x20000; hi = 0x21000 }

-- the row of the only site: E9 00 is written, and with the three bytes after it that is JMP
-- 0x2401005
abbrev pub row_value : RowValue
row_value = record {
  site = 0x401000;
  number = 0;
  outcome = patched (record {
    scheme = B2;
    tramps = record { place = 0x2401005; start = 0x401000; event = true } ∷ [];
    writes = record { addr = 0x401000; was = 0xeb ∷ 0xfe ∷ []; now = 0xe9 ∷ 0x00 ∷ [] } ∷ [];
    puns = record { addr = 0x401002; bytes = 0x00 ∷ 0x00 ∷ 0x02 ∷ [] } ∷ [];
  });
}

-- the trampoline at 0x2401005: the event of site 0, and the jump to the site
abbrev pub row_code : List ℕ
row_code =
    0x48 ∷ 0x89 ∷ 0x84 ∷ 0x24 ∷ 0x78 ∷ 0xff ∷ 0xff ∷ 0xff ∷ 0x9f ∷ 0x0f ∷ 0x90 ∷ 0xc0 ∷ 0xf0 ∷ 0x48 ∷ 0xff ∷ 0x04
    ∷ 0x25 ∷ 0x40 ∷ 0x00 ∷ 0x02 ∷ 0x00 ∷ 0x04 ∷ 0x7f ∷ 0x9e ∷ 0x48 ∷ 0x8b ∷ 0x84 ∷ 0x24 ∷ 0x78 ∷ 0xff ∷ 0xff ∷ 0xff
    ∷ 0xe9 ∷ 0xd6 ∷ 0xff ∷ 0xff ∷ 0xfd ∷ []

-- the job of the row's file
abbrev pub row_job : ThreadJob
row_job = record {
  emit = record {
    orig = row_file;
    writes = record { addr = 0x401000; now = 0xe9 ∷ 0x00 ∷ [] } ∷ [];
    private_lo = 0x20000;
    private_hi = 0x21000;
    pieces = record { addr = 0x2401005; now = row_code } ∷ [];
    pages = record { addr = 0x2401000; group = 0 } ∷ [];
    groups = 1;
  };
  private = row_private;
  rows = row_value ∷ [];
  report = written (record {
    action = Count;
    private = (0x20000, 0x21000);
    rows = row_value ∷ [];
    pages = (0x2401000, 0) ∷ [];
  }) (record { len = 4101; phoff = 64; phnum = 1; entry = 0x401000 });
}

-- the file that is written for the row
abbrev pub row_written : List ℕ
row_written = layout row_job.emit

-- what was patched in the row, for threads
abbrev pub row_threading : Threading
row_threading = threading_for Count row_file row_starts row_written row_private (row_value ∷ [])

-- The row's input is judged to be its job, and the theorem holds of the file that is written.
pub record RowIsThreaded : Type 0 where
  pub judged : Judges row_asked (Ok row_job)
  pub followed : IsFollowedInThreads Count row_file row_starts row_written row_private (row_value ∷ [])
