-- What `read_world` answers. Theorems cite it.
use Rattle.std.specs.Prelude.{◌≡◌, ◌≢◌, ℕ, ◌-◌, ◌≤◌, if◌then◌else◌, List, [], ◌∷◌, length, take, Option, Some, None, Result, Ok, Err}
use Rattle.cpu_state.specs.declared.script.Script.{Script}
use Rattle.list_text.specs.Lines.{is_line_feed}
use Rattle.image_step.specs.declared.error.ScriptError.{ScriptError}
use Rattle.image_step.specs.declared.error.ScriptError.TheVariants as errors
use Rattle.image_step.specs.Values.{ScriptValue, script_value}
use Rattle.image_step.specs.Spelling.{script_text}
use Rattle.image_step.specs.Grammar.{IsScript}

-- A text that is no script's has number 1; that memory runs out has none.
abbrev pub number_of : ScriptError → Option ℕ
number_of (errors.BadScript line) = Some 1
number_of errors.Memory = None

-- A byte in front of the first line, where there is one.
abbrev pub onto_line : ℕ → List (List ℕ) → List (List ℕ)
onto_line c [] = []
onto_line c (x ∷ xs) = (c ∷ x) ∷ xs

-- The lines of a text that end with LF, without it. What stands behind the last LF is no line.
abbrev pub whole_lines : List ℕ → List (List ℕ)
whole_lines [] = []
whole_lines (c ∷ cs) = if is_line_feed c then [] ∷ whole_lines cs else onto_line c (whole_lines cs)

-- A text has n lines, and they are the first n lines of another one.
abbrev pub Agrees : ℕ → List ℕ → List ℕ → Type 0
Agrees n text other = (n ≤ length (whole_lines text)) × (take n (whole_lines text) ≡ take n (whole_lines other))

-- Line n is the first with which no script's text agrees.
pub record IsScriptRefused (text : List ℕ) (n : ℕ) : Type 0 where
  pub place : 1 ≤ n
  pub front : (v : ScriptValue) × IsScript v × Agrees (n - 1) text (script_text v)
  pub none : (v : ScriptValue) → IsScript v → Agrees n text (script_text v) → ⊥
  pub other : (v : ScriptValue) → IsScript v → text ≢ script_text v

-- The text is that of this script, and of no other one.
pub record IsTextOf (text : List ℕ) (v : ScriptValue) : Type 0 where
  pub holds : IsScript v
  pub spelled : text ≡ script_text v
  pub one : (w : ScriptValue) → IsScript w → text ≡ script_text w → w ≡ v

-- What was read of a text, seen by view.
abbrev pub ReadsAs : {X : Type 0} → (X → ScriptValue) → List ℕ → Result X ScriptError → Type 0
ReadsAs view text (Ok x) = IsTextOf text (view x)
ReadsAs view text (Err errors.Memory) = Unit {0}
ReadsAs view text (Err (errors.BadScript line)) = IsScriptRefused text line

-- The script that was read is the one of this text, or the line is told at which the text is refused.
abbrev pub ReadsScript : List ℕ → Result Script ScriptError → Type 0
ReadsScript text result = ReadsAs script_value text result
