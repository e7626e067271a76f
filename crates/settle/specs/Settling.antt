-- What the code of settling does in part. Contracts of private functions alone cite it.
use Rattle.std.specs.Prelude.{◌≡◌, ℕ, ◌+◌, List, ◌++◌, length, Option, Some, None, Result, Ok, Err}
use Rattle.elf_read.specs.declared.refusal.ElfError.{ElfError}
use Rattle.elf_read.specs.declared.refusal.ElfError.TheVariants as elf
use Rattle.elf_read.specs.declared.segment.Segment.{Segment}
use Rattle.elf_read.specs.Entries.{table}
use Rattle.elf_read.specs.Writing.{header_of}
use Rattle.elf_read.specs.Refusals as files
use Rattle.settle.specs.declared.error.SettleError.{SettleError}
use Rattle.settle.specs.declared.error.SettleError.TheVariants.{Settled, Memory}
use Rattle.settle.specs.declared.error.UnsettleError.{UnsettleError}
use Rattle.settle.specs.declared.error.UnsettleError.TheVariants as unsettle
use Rattle.settle.specs.Stub.{stub_code}
use Rattle.settle.specs.Settled.{settled, settled_table, stub_at}
use Rattle.settle.specs.Refusals.{settle_refusal, Refused}

-- What an error of the settled file is told as.
abbrev pub settled_error : ElfError → SettleError
settled_error elf.Memory = Memory
settled_error error = Settled error

-- The settled file breaks no rule, or the first that it breaks is told.
abbrev pub IsJudged : List ℕ → Option SettleError → Type 0
IsJudged out None = files.refusal 0x20000 out ≡ None
IsJudged out (Some e) = (error : ElfError) × (e ≡ settled_error error) × files.Refused 0x20000 out error

-- A file was settled at a base, or refused.
abbrev pub IsSettling : ℕ → List ℕ → Result (List ℕ) SettleError → Type 0
IsSettling b file (Ok out) = (settle_refusal b file ≡ None) × (out ≡ settled b file)
IsSettling b file (Err e) = Refused b file e

-- What refuses a file is told as, where it was to come back.
abbrev pub unsettle_error : SettleError → UnsettleError
unsettle_error Memory = unsettle.Memory
unsettle_error other = unsettle.NotSettled

-- The file, where what is written for it is these bytes.
abbrev pub IsCompared : (again out file : List ℕ) → Result (List ℕ) UnsettleError → Type 0
IsCompared again out file (Ok bytes) = (again ≡ out) × (bytes ≡ file)
IsCompared again out file (Err unsettle.NotSettled) = again ≡ out → ⊥
IsCompared again out file (Err unsettle.Memory) = Unit {0}

-- A front up to the end of its stub, without the section table.
abbrev pub bare_parts : ℕ → List Segment → ℕ → ℕ → List ℕ
bare_parts b ss phdr entry =
    header_of (stub_at b (length ss)) (length ss + 1)
    ++ (table (settled_table b ss) ++ stub_code (stub_at b (length ss)) phdr (length ss) entry)
