-- What a script says, as plain values. Theorems cite it.
use Rattle.std.specs.Prelude.{ℕ, List, [], ◌∷◌, ◌++◌, map, Option}
use Rattle.cpu_state.specs.declared.script.Script.{Script}
use Rattle.cpu_state.specs.declared.script_regions.Region.{Region}
use Rattle.cpu_state.specs.declared.world.Question.{Question}
use Rattle.cpu_state.specs.declared.world.Answer.{Answer}
use Rattle.cpu_state.specs.declared.world.Entry.{Entry}
use Rattle.cpu_state.specs.declared.world.MemWrite.{MemWrite}

-- What is asked, and the answer: what it gives to each of the nineteen names, in their order, and its writes.
pub record EntryValue : Type 0 where
  pub question : Question
  pub given : List (Option ℕ)
  pub writes : List MemWrite

-- Sixteen registers, the flags word and the bases of fs and gs, by the order of their names; regions; entries.
pub record ScriptValue : Type 0 where
  pub values : List ℕ
  pub regions : List Region
  pub entries : List EntryValue

-- What an answer gives to each of the nineteen names, in their order.
abbrev pub given_by : Answer → List (Option ℕ)
given_by a = a.regs ++ (a.flags ∷ a.fs ∷ a.gs ∷ [])

-- An entry of a world as a plain value.
abbrev pub entry_value : Entry → EntryValue
entry_value e = record { question = e.question; given = given_by e.answer; writes = e.answer.writes }

-- A script as a plain value.
abbrev pub script_value : Script → ScriptValue
script_value s =
    record { values = s.regs ++ (s.flags ∷ s.fs ∷ s.gs ∷ []); regions = s.regions; entries = map entry_value s.world.entries }
