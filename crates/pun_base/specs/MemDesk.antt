-- What a desk in memory shows of itself. Theorems cite it.
use Rattle.std.specs.Prelude.{◌≡◌, ℕ, ◌==◌, List, [], ◌∷◌, length, Option, Some, None, Contains, if◌then◌else◌}
use Rattle.std.specs.Str.{bytes_eq}
use Rattle.pun_base.specs.Shown.{Files, DeskState}
use Rattle.pun_base.specs.Counting.{one_more}
use Rattle.pun_base.specs.declared.memory_desk.DeskCall.{DeskCall}
use Rattle.pun_base.specs.declared.memory_desk.DeskCall.TheVariants.{Read, Begin, Put, End}

-- How many calls of each kind were made.
pub record CallCounts : Type 0 where
  pub reads : ℕ
  pub begins : ℕ
  pub puts : ℕ
  pub ends : ℕ

-- The meanings of a desk in memory.
pub record MemDeskState : Type 0 where
  -- the files: each name with its bytes
  pub files : List (List ℕ × List ℕ)
  -- the name that is being written
  pub writing : Option (List ℕ)
  -- how many reads have failed, and how many begins, puts and ends
  pub read_faults : ℕ
  pub write_faults : ℕ
  pub calls : CallCounts
  -- the calls that are to fail: each kind with the number of the call
  pub fails : List (DeskCall × ℕ)

-- How many calls of this kind were made.
abbrev pub count_of : DeskCall → CallCounts → ℕ
count_of Read c = c.reads
count_of Begin c = c.begins
count_of Put c = c.puts
count_of End c = c.ends

-- One call more of this kind, and no other.
abbrev pub counted : DeskCall → CallCounts → CallCounts
counted Read c = record c { reads = one_more c.reads }
counted Begin c = record c { begins = one_more c.begins }
counted Put c = record c { puts = one_more c.puts }
counted End c = record c { ends = one_more c.ends }

-- The next call of this kind is to fail.
abbrev pub IsToFail : DeskCall → MemDeskState → Type 0
IsToFail call d = Contains d.fails (call, one_more (count_of call d.calls))

-- What a name holds: the bytes of the first file of this name.
abbrev pub held_by : List (List ℕ × List ℕ) → Files
held_by [] name = None
held_by (file ∷ files) name = if bytes_eq name file.0 then Some file.1 else held_by files name

-- No files, no calls yet, nothing being written.
abbrev pub new_desk : List (DeskCall × ℕ) → MemDeskState
new_desk fails = record {
  files = [];
  writing = None;
  read_faults = 0;
  write_faults = 0;
  calls = record { reads = 0; begins = 0; puts = 0; ends = 0 };
  fails = fails;
}

-- As every desk is seen: it tells what is held, and is sure exactly where no call is to fail.
abbrev pub seen_desk : MemDeskState → DeskState
seen_desk d = record {
  held = Some (held_by d.files);
  writing = d.writing;
  read_faults = d.read_faults;
  write_faults = d.write_faults;
  sure = length d.fails == 0;
}

-- A call of this kind was counted, and the list of calls that are to fail stays.
pub record Counted (call : DeskCall) (old new : MemDeskState) : Type 0 where
  pub calls : new.calls ≡ counted call old.calls
  pub fails : new.fails ≡ old.fails
