-- What has been read of a script, and what may come next. Contracts of private functions alone cite it.
use Rattle.std.specs.Prelude.{ℕ, ◌==◌, Bool, ◌&&◌, if◌then◌else◌, List, [], ◌∷◌, ◌++◌, length, drop, replicate, slice_set, Option, Some, None, is_none}
use Rattle.std.specs.List.{list_all}
use Rattle.cpu_state.specs.declared.script_regions.Region.{Region}
use Rattle.cpu_state.specs.declared.world.Question.{Question}
use Rattle.cpu_state.specs.declared.world.MemWrite.{MemWrite}
use Rattle.cpu_state.specs.Script.{are_regions}
use Rattle.image_step.specs.declared.line.Line.{Line}
use Rattle.image_step.specs.declared.line.Line.TheVariants as line
use Rattle.image_step.specs.Values.{EntryValue, ScriptValue}

-- Nothing; the version and fewer than nineteen values; those and regions; those, entries and the one that goes on; a script.
pub data Draft : Type 0 where
  blank : Draft
  heads : List ℕ → Draft
  body : List ℕ → List Region → Draft
  asked : List ℕ → List Region → List EntryValue → EntryValue → Draft
  done : List ℕ → List Region → List EntryValue → Draft

-- An entry whose answer gives nothing so far.
abbrev pub fresh : Question → EntryValue
fresh q = record { question = q; given = replicate 19 None; writes = [] }

-- Each of these is none.
abbrev pub are_none : List (Option ℕ) → Bool
are_none os = list_all is_none os

-- Nothing is given to the names from the kth on, and nothing is written.
abbrev pub may_set : ℕ → EntryValue → Bool
may_set k e = are_none (drop k e.given) && (length e.writes == 0)

-- An entry whose answer gives this value to the name at a place too.
abbrev pub with_set : ℕ → ℕ → EntryValue → EntryValue
with_set k v e = record { question = e.question; given = slice_set e.given k (Some v); writes = e.writes }

-- An entry with one more write, behind the others.
abbrev pub with_write : MemWrite → EntryValue → EntryValue
with_write w e = record { question = e.question; given = e.given; writes = e.writes ++ w ∷ [] }

-- The draft of these values; with all nineteen of them regions come next.
abbrev pub with_values : List ℕ → Draft
with_values vs = if length vs == 19 then body vs [] else heads vs

-- The first line tells the version.
abbrev pub taken_first : Line → Option Draft
taken_first line.Version = Some (heads [])
taken_first _ = None

-- The values come in the order of their names.
abbrev pub taken_value : List ℕ → Line → Option Draft
taken_value vs (line.Value k v) = if k == length vs then Some (with_values (vs ++ v ∷ [])) else None
taken_value vs _ = None

-- Behind the values come regions that ascend, and then the first question or the end.
abbrev pub taken_region : List ℕ → List Region → Line → Option Draft
taken_region vs rs (line.Region r) = if are_regions (rs ++ r ∷ []) then Some (body vs (rs ++ r ∷ [])) else None
taken_region vs rs (line.Ask q) = Some (asked vs rs [] (fresh q))
taken_region vs rs line.End = Some (done vs rs [])
taken_region vs rs _ = None

-- Behind a question come what is given and the writes, and then the next question or the end.
abbrev pub taken_entry : List ℕ → List Region → List EntryValue → EntryValue → Line → Option Draft
taken_entry vs rs es e (line.Ask q) = Some (asked vs rs (es ++ e ∷ []) (fresh q))
taken_entry vs rs es e (line.Set k v) = if may_set k e then Some (asked vs rs es (with_set k v e)) else None
taken_entry vs rs es e (line.Mem w) = Some (asked vs rs es (with_write w e))
taken_entry vs rs es e line.End = Some (done vs rs (es ++ e ∷ []))
taken_entry vs rs es e _ = None

-- A draft with one more line, where that goes on with it.
abbrev pub taken : Draft → Line → Option Draft
taken blank x = taken_first x
taken (heads vs) x = taken_value vs x
taken (body vs rs) x = taken_region vs rs x
taken (asked vs rs es e) x = taken_entry vs rs es e x
taken (done vs rs es) x = None

-- The script, where the last line is there.
abbrev pub script_in : Draft → Option ScriptValue
script_in (done vs rs es) = Some (record { values = vs; regions = rs; entries = es })
script_in _ = None
