-- The one text of a script. Theorems cite it.
use Rattle.std.specs.Prelude.{ℕ, zero, suc, ◌+◌, List, [], ◌∷◌, ◌++◌, map, codes, Option, Some, None}
use Rattle.std.specs.List.{flat_map}
use Rattle.std.specs.Int.{w64, to_be_bytes}
use Rattle.hex.specs.Hex.{encode_lower}
use Rattle.cpu_state.specs.declared.script_regions.RegionBody.{RegionBody}
use Rattle.cpu_state.specs.declared.script_regions.RegionBody.TheVariants.{Zeros, Bytes}
use Rattle.list_text.specs.Laws.{ended}
use Rattle.image_step.specs.declared.line.Line.{Line}
use Rattle.image_step.specs.declared.line.Line.TheVariants as line
use Rattle.image_step.specs.Values.{EntryValue, ScriptValue}

-- A number of 64 bits: its eight bytes, the highest first, as sixteen lower-case hexadecimal digits.
unfoldable pub hex16 : ℕ → List ℕ
hex16 n = encode_lower (to_be_bytes w64 n)

-- The nineteen names, in their order.
abbrev pub names : List (List ℕ)
names =
    codes "rax" ∷ codes "rcx" ∷ codes "rdx" ∷ codes "rbx" ∷ codes "rsp" ∷ codes "rbp" ∷ codes "rsi" ∷ codes "rdi"
    ∷ codes "r8" ∷ codes "r9" ∷ codes "r10" ∷ codes "r11" ∷ codes "r12" ∷ codes "r13" ∷ codes "r14" ∷ codes "r15"
    ∷ codes "flags" ∷ codes "fs" ∷ codes "gs" ∷ []

-- The word at a place of a list, and the empty one behind its end.
abbrev pub name_at : List (List ℕ) → ℕ → List ℕ
name_at [] k = []
name_at (x ∷ xs) zero = x
name_at (x ∷ xs) (suc k) = name_at xs k

-- The kth of the nineteen names, counted from 0.
unfoldable pub name : ℕ → List ℕ
name k = name_at names k

-- Permissions as `p_flags` of ELF-64: 4 reads, 2 writes, 1 executes.
unfoldable pub permission : ℕ → List ℕ
permission p = name_at (codes "" ∷ codes "" ∷ codes "" ∷ codes "" ∷ codes "r--" ∷ codes "r-x" ∷ codes "rw-" ∷ codes "rwx" ∷ []) p

-- An address, or that there is none.
abbrev pub address_word : Option ℕ → List ℕ
address_word None = codes "-"
address_word (Some a) = hex16 a

-- Zeros are told by their ends.
abbrev pub zeros_text : ℕ → ℕ → ℕ → List ℕ
zeros_text lo perms count = codes "zero " ++ (hex16 lo ++ (32 ∷ (hex16 (lo + count) ++ (32 ∷ permission perms))))

-- Bytes are told by where they begin, and one by one.
abbrev pub bytes_text : ℕ → ℕ → List ℕ → List ℕ
bytes_text lo perms bs = codes "bytes " ++ (hex16 lo ++ (32 ∷ (permission perms ++ (32 ∷ encode_lower bs))))

-- A region, by what it holds.
abbrev pub region_text : ℕ → ℕ → RegionBody → List ℕ
region_text lo perms (Zeros count) = zeros_text lo perms count
region_text lo perms (Bytes bs) = bytes_text lo perms bs

-- A line without the LF at its end.
abbrev pub line_text : Line → List ℕ
line_text line.Version = codes "e9world 1"
line_text (line.Value k v) = name k ++ (32 ∷ hex16 v)
line_text (line.Region r) = region_text r.lo r.perms r.body
line_text (line.Ask q) = codes "ask " ++ (encode_lower q.bytes ++ (32 ∷ address_word q.addr))
line_text (line.Set k v) = codes "set " ++ (name k ++ (32 ∷ hex16 v))
line_text (line.Mem w) = codes "mem " ++ (hex16 w.addr ++ (32 ∷ encode_lower w.bytes))
line_text line.End = codes "end"

-- Lines one after the other, each with an LF (10) behind it.
abbrev pub lines_text : List Line → List ℕ
lines_text xs = ended (map line_text xs)

-- The values of the names from the kth on.
abbrev pub value_lines : ℕ → List ℕ → List Line
value_lines k [] = []
value_lines k (v ∷ vs) = line.Value k v ∷ value_lines (k + 1) vs

-- What is given to the names from the kth on.
abbrev pub set_lines : ℕ → List (Option ℕ) → List Line
set_lines k [] = []
set_lines k (None ∷ os) = set_lines (k + 1) os
set_lines k (Some v ∷ os) = line.Set k v ∷ set_lines (k + 1) os

-- The lines of an entry: what is asked, what is given to each name, the writes.
abbrev pub entry_lines : EntryValue → List Line
entry_lines e = line.Ask e.question ∷ (set_lines 0 e.given ++ map line.Mem e.writes)

-- The lines of a script: the version, the values, the regions, the entries, the end.
abbrev pub script_lines : ScriptValue → List Line
script_lines v =
    line.Version ∷ (value_lines 0 v.values ++ (map line.Region v.regions ++ (flat_map entry_lines v.entries ++ line.End ∷ [])))

-- The text of a script: its lines.
abbrev pub script_text : ScriptValue → List ℕ
script_text v = lines_text (script_lines v)
