-- What is refused, with its number and its text. Theorems cite it.
use Rattle.std.specs.Prelude.{◌≡◌, ℕ, List, [], ◌++◌, Option, Some, None, codes}
use Rattle.std.specs.Fmt.{decimal}
use Rattle.list_text.specs.Lists as lists
use Rattle.list_text.specs.declared.refusal.ListError.{ListError}
use Rattle.list_text.specs.declared.refusal.ListError.TheVariants as list
use Rattle.start_entries.specs.Refusals as starts
use Rattle.start_entries.specs.declared.refusal.StartError.{StartError}
use Rattle.start_entries.specs.declared.refusal.StartError.TheVariants as start
use Rattle.elf_read.specs.Refusals as files
use Rattle.elf_read.specs.declared.refusal.ElfError.{ElfError}
use Rattle.elf_read.specs.declared.refusal.ElfError.TheVariants as elf
use Rattle.elf_emit.specs.Emits as emits
use Rattle.elf_emit.specs.declared.emit.EmitError.{EmitError}
use Rattle.elf_emit.specs.declared.emit.EmitError.TheVariants as emit
use Rattle.image_step.specs.Answers as scripts
use Rattle.image_step.specs.Running as runners
use Rattle.image_step.specs.Spelling.{hex16}
use Rattle.image_step.specs.declared.error.ScriptError.{ScriptError}
use Rattle.image_step.specs.declared.error.ScriptError.TheVariants as script
use Rattle.image_step.specs.declared.runner_error.RunnerError.{RunnerError}
use Rattle.image_step.specs.declared.runner_error.RunnerError.TheVariants as runner
use Rattle.patch_report.specs.Answers as reports
use Rattle.patch_report.specs.Spelling.{hex8}
use Rattle.patch_report.specs.declared.error.ReportError.{ReportError}
use Rattle.patch_report.specs.declared.error.ReportError.TheVariants as report
use Rattle.site_turns.specs.declared.error.TurnError.{TurnError}
use Rattle.site_turns.specs.declared.error.TurnError.TheVariants as turn
use Rattle.loader_form.specs.Numbers as loads
use Rattle.loader_form.specs.declared.error.LoadError.{LoadError}
use Rattle.loader_form.specs.declared.error.LoadError.TheVariants as load
use Rattle.rewrite_core.specs.declared.rewrite.RewriteError.{RewriteError}
use Rattle.rewrite_core.specs.declared.rewrite.RewriteError.TheVariants as rewrite
use Rattle.unpatch.specs.declared.error.UnpatchError.{UnpatchError}
use Rattle.unpatch.specs.declared.error.UnpatchError.TheVariants as undo
use Rattle.settle.specs.declared.error.SettleError.{SettleError}
use Rattle.settle.specs.declared.error.SettleError.TheVariants as settle
use Rattle.settle.specs.declared.error.UnsettleError.{UnsettleError}
use Rattle.settle.specs.declared.error.UnsettleError.TheVariants as unsettle
use Rattle.command_io.specs.declared.ends.Input.{Input}
use Rattle.command_io.specs.declared.ends.Input.TheVariants as input

-- Why the inputs are refused.
pub data Refusal : Type 0 where
  -- the input has more bytes than are read
  TooLong : (which : Input) → Refusal
  -- a list breaks a rule
  BadList : (which : Input) (error : ListError) → Refusal
  -- WORLD is no script
  BadScript : (error : ScriptError) → Refusal
  -- REPORT is no report
  BadReport : (error : ReportError) → Refusal
  -- a file can't be loaded
  BadFile : (which : Input) (error : ElfError) → Refusal
  -- a start can't be listed
  BadStart : (error : StartError) → Refusal
  -- a region of the script meets the file's image
  Meets : (error : RunnerError) → Refusal
  -- the inputs can't be rewritten
  Rewrite : (error : RewriteError) → Refusal
  -- the patch can't be undone
  Undo : (error : UnpatchError) → Refusal
  -- the stub of the loader form can't be laid
  Load : (error : LoadError) → Refusal
  -- the program can't be settled
  Settle : (error : SettleError) → Refusal
  -- the file isn't a settled one
  Unsettle : (error : UnsettleError) → Refusal

-- The number of a refusal by the turns: a site that is no start, then no room for the private range.
abbrev pub turn_number : TurnError → Option ℕ
turn_number (turn.NotListed site) = Some 1
turn_number (turn.NoPrivate pages) = Some 2
turn_number turn.Memory = None

-- The number of a rewriting's refusal: that of the file, of a start, of the turns, or of the table.
abbrev pub rewrite_number : RewriteError → Option ℕ
rewrite_number (rewrite.Elf error) = files.number_of error
rewrite_number (rewrite.Start error) = starts.number_of error
rewrite_number (rewrite.Turn error) = turn_number error
rewrite_number (rewrite.Emit error) = emits.number_of error
rewrite_number rewrite.Memory = None

-- No origin is told, or one that the file can't have, and then a byte that the file hasn't.
abbrev pub undo_number : UnpatchError → Option ℕ
undo_number undo.NoOrigin = Some 1
undo_number undo.OriginOutside = Some 2
undo_number (undo.BytesDiffer addr) = Some 3
undo_number undo.Memory = None

-- The number of a settling's refusal: that of a rule that any file keeps, or settling's own, of which the header's and the entries' come first.
abbrev pub settle_number : SettleError → Option ℕ
settle_number (settle.File error) = files.number_of error
settle_number settle.NotDyn = Some 1
settle_number (settle.TooManyEntries count) = Some 2
settle_number (settle.SegmentOutside i) = Some 3
settle_number (settle.BaseUnaligned align) = Some 4
settle_number (settle.Settled error) = files.number_of error
settle_number settle.TableNotLoaded = Some 5
settle_number settle.EntryOutside = Some 6
settle_number settle.Memory = None

-- There is one reason why a program doesn't come back.
abbrev pub unsettle_number : UnsettleError → Option ℕ
unsettle_number unsettle.NotSettled = Some 1
unsettle_number unsettle.Memory = None

-- Each refusal has a number. Want of memory is none, and so has no number.
abbrev pub number_of : Refusal → Option ℕ
number_of (TooLong which) = Some 20
number_of (BadList which error) = lists.number_of error
number_of (BadScript error) = scripts.number_of error
number_of (BadReport error) = reports.number_of error
number_of (BadFile which error) = files.number_of error
number_of (BadStart error) = starts.number_of error
number_of (Meets error) = runners.number_of error
number_of (Rewrite error) = rewrite_number error
number_of (Undo error) = undo_number error
number_of (Load error) = loads.number_of error
number_of (Settle error) = settle_number error
number_of (Unsettle error) = unsettle_number error

-- The word of an input, as the usage line has it.
abbrev pub input_word : Input → List ℕ
input_word input.File = codes "FILE"
input_word input.Starts = codes "STARTS"
input_word input.Sites = codes "SITES"
input_word input.Out = codes "OUT"
input_word input.Report = codes "REPORT"
input_word input.World = codes "WORLD"

-- The word of what a rewriting refuses.
abbrev pub rewrite_word : RewriteError → List ℕ
rewrite_word (rewrite.Elf error) = codes "FILE"
rewrite_word (rewrite.Start error) = codes "INSTR"
rewrite_word (rewrite.Turn error) = codes "PLAN"
rewrite_word (rewrite.Emit error) = codes "EMIT"
rewrite_word rewrite.Memory = []

-- The word of what settling refuses: FILE, or the file as it would be settled.
abbrev pub settle_word : SettleError → List ℕ
settle_word (settle.File error) = codes "FILE"
settle_word (settle.Settled error) = codes "SETTLED"
settle_word settle.Memory = []
settle_word other = codes "SETTLE"

-- What is refused, in one word.
abbrev pub word_of : Refusal → List ℕ
word_of (TooLong which) = input_word which
word_of (BadList which error) = input_word which
word_of (BadScript error) = codes "WORLD"
word_of (BadReport error) = codes "REPORT"
word_of (BadFile which error) = input_word which
word_of (BadStart error) = codes "INSTR"
word_of (Meets error) = codes "WORLD"
word_of (Rewrite error) = rewrite_word error
word_of (Undo error) = codes "UNPATCH"
word_of (Load error) = codes "LOADER"
word_of (Settle error) = settle_word error
word_of (Unsettle error) = codes "UNSETTLE"

-- The name of a list's error, by which it is printed.
abbrev pub list_name : ListError → List ℕ
list_name (list.BadLine line) = codes "BadLine"
list_name (list.NotAscending line) = codes "NotAscending"
list_name (list.TooMany limit) = codes "TooMany"
list_name list.Memory = []

-- The name of a file's error.
abbrev pub elf_name : ElfError → List ℕ
elf_name elf.TooShort = codes "TooShort"
elf_name elf.BadMagic = codes "BadMagic"
elf_name elf.NotClass64 = codes "NotClass64"
elf_name elf.NotLittle = codes "NotLittle"
elf_name elf.NotExec = codes "NotExec"
elf_name elf.NotX86 = codes "NotX86"
elf_name elf.BadPhentSize = codes "BadPhentSize"
elf_name elf.TableOutside = codes "TableOutside"
elf_name (elf.Dynamic i) = codes "Dynamic"
elf_name (elf.SegmentOutside i) = codes "SegmentOutside"
elf_name (elf.SizeOrder i) = codes "SizeOrder"
elf_name (elf.Misaligned i) = codes "Misaligned"
elf_name (elf.AddressHigh i) = codes "AddressHigh"
elf_name (elf.AddressLow i) = codes "AddressLow"
elf_name (elf.LoadOrder i) = codes "LoadOrder"
elf_name elf.Memory = []

-- The name of a start's error.
abbrev pub start_name : StartError → List ℕ
start_name (start.NotExecutable addr) = codes "NotExecutable"
start_name start.Memory = []

-- The name of an error of the turns.
abbrev pub turn_name : TurnError → List ℕ
turn_name (turn.NotListed site) = codes "NotListed"
turn_name (turn.NoPrivate pages) = codes "NoPrivate"
turn_name turn.Memory = []

-- The name of an error of the table.
abbrev pub emit_name : EmitError → List ℕ
emit_name (emit.TooManySegments count) = codes "TooManySegments"
emit_name emit.WriteFault = []
emit_name emit.Memory = []

-- The name of an error of the stub's place.
abbrev pub load_name : LoadError → List ℕ
load_name (load.TooManyRuns count) = codes "TooManyRuns"
load_name (load.NoLoader pages) = codes "NoLoader"
load_name load.Memory = []

-- The name of a world script's error.
abbrev pub script_name : ScriptError → List ℕ
script_name (script.BadScript line) = codes "BadScript"
script_name script.Memory = []

-- The name of a report's error.
abbrev pub report_name : ReportError → List ℕ
report_name (report.BadReport line) = codes "BadReport"
report_name (report.BadVersion line) = codes "BadVersion"
report_name report.Memory = []

-- The name of a runner's error.
abbrev pub runner_name : RunnerError → List ℕ
runner_name (runner.RegionMeets lo) = codes "RegionMeets"
runner_name runner.Memory = []

-- The name of a rewriting's error.
abbrev pub rewrite_name : RewriteError → List ℕ
rewrite_name (rewrite.Elf error) = elf_name error
rewrite_name (rewrite.Start error) = start_name error
rewrite_name (rewrite.Turn error) = turn_name error
rewrite_name (rewrite.Emit error) = emit_name error
rewrite_name rewrite.Memory = []

-- The name of an undoing's error.
abbrev pub undo_name : UnpatchError → List ℕ
undo_name undo.NoOrigin = codes "NoOrigin"
undo_name undo.OriginOutside = codes "OriginOutside"
undo_name (undo.BytesDiffer addr) = codes "BytesDiffer"
undo_name undo.Memory = []

-- The name of a settling's error.
abbrev pub settle_name : SettleError → List ℕ
settle_name (settle.File error) = elf_name error
settle_name settle.NotDyn = codes "NotDyn"
settle_name (settle.TooManyEntries count) = codes "TooManyEntries"
settle_name (settle.SegmentOutside i) = codes "SegmentOutside"
settle_name (settle.BaseUnaligned align) = codes "BaseUnaligned"
settle_name (settle.Settled error) = elf_name error
settle_name settle.TableNotLoaded = codes "TableNotLoaded"
settle_name settle.EntryOutside = codes "EntryOutside"
settle_name settle.Memory = []

-- The name of why a program doesn't come back.
abbrev pub unsettle_name : UnsettleError → List ℕ
unsettle_name unsettle.NotSettled = codes "NotSettled"
unsettle_name unsettle.Memory = []

-- The name of a refusal, by which it is printed.
abbrev pub name_of : Refusal → List ℕ
name_of (TooLong which) = codes "TooLong"
name_of (BadList which error) = list_name error
name_of (BadScript error) = script_name error
name_of (BadReport error) = report_name error
name_of (BadFile which error) = elf_name error
name_of (BadStart error) = start_name error
name_of (Meets error) = runner_name error
name_of (Rewrite error) = rewrite_name error
name_of (Undo error) = undo_name error
name_of (Load error) = load_name error
name_of (Settle error) = settle_name error
name_of (Unsettle error) = unsettle_name error

-- The line, or the most lines that a list may have.
abbrev pub list_details : ListError → List ℕ
list_details (list.BadLine line) = codes " " ++ decimal line
list_details (list.NotAscending line) = codes " " ++ decimal line
list_details (list.TooMany limit) = codes " " ++ decimal limit
list_details list.Memory = []

-- The index of the entry that breaks the rule.
abbrev pub entry_details : Option ℕ → List ℕ
entry_details None = []
entry_details (Some entry) = codes " " ++ decimal entry

-- The addresses.
abbrev pub start_details : StartError → List ℕ
start_details (start.NotExecutable addr) = codes " " ++ hex8 addr
start_details start.Memory = []

-- The address of the site, or the number of pages.
abbrev pub turn_details : TurnError → List ℕ
turn_details (turn.NotListed site) = codes " " ++ hex8 site
turn_details (turn.NoPrivate pages) = codes " " ++ decimal pages
turn_details turn.Memory = []

-- The number of entries.
abbrev pub emit_details : EmitError → List ℕ
emit_details (emit.TooManySegments count) = codes " " ++ decimal count
emit_details emit.WriteFault = []
emit_details emit.Memory = []

-- The number of runs, or of pages.
abbrev pub load_details : LoadError → List ℕ
load_details (load.TooManyRuns count) = codes " " ++ decimal count
load_details (load.NoLoader pages) = codes " " ++ decimal pages
load_details load.Memory = []

-- The line.
abbrev pub script_details : ScriptError → List ℕ
script_details (script.BadScript line) = codes " " ++ decimal line
script_details script.Memory = []

-- The line.
abbrev pub report_details : ReportError → List ℕ
report_details (report.BadReport line) = codes " " ++ decimal line
report_details (report.BadVersion line) = codes " " ++ decimal line
report_details report.Memory = []

-- The address at which the region begins.
abbrev pub runner_details : RunnerError → List ℕ
runner_details (runner.RegionMeets lo) = codes " " ++ hex16 lo
runner_details runner.Memory = []

-- The details of the file's, the start's, the turns' or the table's error.
abbrev pub rewrite_details : RewriteError → List ℕ
rewrite_details (rewrite.Elf error) = entry_details (files.told_entry error)
rewrite_details (rewrite.Start error) = start_details error
rewrite_details (rewrite.Turn error) = turn_details error
rewrite_details (rewrite.Emit error) = emit_details error
rewrite_details rewrite.Memory = []

-- The address of the byte.
abbrev pub undo_details : UnpatchError → List ℕ
undo_details (undo.BytesDiffer addr) = codes " " ++ hex8 addr
undo_details undo.NoOrigin = []
undo_details undo.OriginOutside = []
undo_details undo.Memory = []

-- The index of an entry, the number of entries, or an alignment.
abbrev pub settle_details : SettleError → List ℕ
settle_details (settle.File error) = entry_details (files.told_entry error)
settle_details settle.NotDyn = []
settle_details (settle.TooManyEntries count) = codes " " ++ decimal count
settle_details (settle.SegmentOutside i) = codes " " ++ decimal i
settle_details (settle.BaseUnaligned align) = codes " " ++ hex16 align
settle_details (settle.Settled error) = entry_details (files.told_entry error)
settle_details settle.TableNotLoaded = []
settle_details settle.EntryOutside = []
settle_details settle.Memory = []

-- The limit of a file's bytes, or what the error tells, each behind a blank.
abbrev pub details_of : Refusal → List ℕ
details_of (TooLong which) = codes " 268435456"
details_of (BadList which error) = list_details error
details_of (BadScript error) = script_details error
details_of (BadReport error) = report_details error
details_of (BadFile which error) = entry_details (files.told_entry error)
details_of (BadStart error) = start_details error
details_of (Meets error) = runner_details error
details_of (Rewrite error) = rewrite_details error
details_of (Undo error) = undo_details error
details_of (Load error) = load_details error
details_of (Settle error) = settle_details error
details_of (Unsettle error) = []

-- A number in decimal digits, where there is one.
abbrev pub number_text : Option ℕ → List ℕ
number_text None = []
number_text (Some number) = decimal number

-- The line that is printed: what is refused, the refusal's number and name, and the details.
unfoldable pub refusal_text : Refusal → List ℕ
refusal_text r =
    codes "refused " ++ (word_of r ++ (codes " " ++ (number_text (number_of r) ++ (codes " " ++ (name_of r ++ (details_of r ++ codes "\n"))))))

-- The line tells what is refused, and then the refusal's number.
abbrev pub TellsNumber : Refusal → List ℕ → Type 0
TellsNumber r line =
    (n : ℕ) × (number_of r ≡ Some n)
    × ((rest : List ℕ) × (line ≡ codes "refused " ++ (word_of r ++ (codes " " ++ (decimal n ++ (codes " " ++ rest))))))
