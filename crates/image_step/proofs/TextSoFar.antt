-- Scripts as values that are read line by line, and what the reader tells.
use Rattle.std.proofs.Common.{◌≡◌, ℕ, ◌+◌, List, ◌++◌, length, Option, Some, None, ap, sym, subst, ◌∙◌, append-nil}
use Rattle.std.specs.List.{AllByRecursion}
use Rattle.image_step.specs.declared.line.Line.{Line}
use Rattle.image_step.specs.Values.{ScriptValue}
use Rattle.image_step.specs.Spelling.{line_text, script_lines}
use Rattle.image_step.specs.Grammar.{IsScript, LineHolds}
use Rattle.image_step.specs.Answers.{IsScriptRefused, IsTextOf}
use Rattle.image_step.specs.Reading.{line_of, read_script_line}
use Rattle.image_step.specs.Taking.{Draft, asked, blank, body, done, heads, script_in, taken}
use Rattle.image_step.proofs.DraftLines.{told}
use Rattle.image_step.proofs.Languages.{Language, Passed, finishes, passed_more, passed_none, refused, some_left, stops}
use Rattle.image_step.proofs.Lines.{line_above}
use Rattle.image_step.proofs.LineSpellings.{line_spelled}
use Rattle.image_step.proofs.ReadBack.{line_read}
use Rattle.image_step.proofs.TakenLines.{completed, completed_lines, completed_script, left, script_taken, told_after}

-- The draft of a whole script.
abbrev pub script_whole : ScriptValue → Draft
script_whole v = done v.values v.regions v.entries

-- A script's draft is its own alone.
pub same_script : (v w : ScriptValue) → script_whole v ≡ script_whole w → v ≡ w
same_script v w e =
    let p : v.values ≡ w.values = cc in
    let q : v.regions ≡ w.regions = cc in
    let r : v.entries ≡ w.entries = cc in
    λ i. record { values = p i; regions = q i; entries = r i }

-- Scripts, read line by line.
unfoldable pub scripts : Language Line Draft ScriptValue
scripts =
    record {
      text = line_text;
      line_of = line_of;
      Holds = LineHolds;
      taken = taken;
      first = blank;
      whole = script_whole;
      lines = script_lines;
      Is = IsScript;
      read = line_read;
      spelled = line_spelled;
      above = line_above;
      hold = λ v h. h.lines;
      reach = script_taken;
      completes = λ xs d h a.
          let t = told_after blank d xs h tt a in
          let held = subst (AllByRecursion LineHolds) (sym t.0) h in
          (completed d, completed_script d t.1 held, (left d, completed_lines d ∙ ap (λ (l : List Line). l ++ left d) t.0));
      ends = λ xs v h a.
          let t = told_after blank (script_whole v) xs h tt a in (
            completed_script (script_whole v) t.1 (subst (AllByRecursion LineHolds) (sym t.0) h),
            completed_lines (script_whole v) ∙ (append-nil (told (script_whole v)) ∙ t.0),
          );
      one = same_script;
    }

-- A text has been read so far, and this is left.
abbrev pub ScriptSoFar : List ℕ → ℕ → Draft → List ℕ → Type 0
ScriptSoFar text place d rest = Passed scripts text place d rest

-- Nothing has been read.
pub script_begins : (text : List ℕ) → ScriptSoFar text 1 blank text
unfolding scripts
script_begins text = passed_none scripts text

-- A line that is taken is passed.
pub script_passed : (text : List ℕ) (place : ℕ) (d e : Draft) (rest later : List ℕ) → ScriptSoFar text place d rest
    → read_script_line d rest ≡ Some (e, later) → ScriptSoFar text (place + 1) e later
unfolding scripts read_script_line
script_passed text place d e rest later p h = passed_more scripts text place d e rest later p h

-- The next line is refused.
pub script_refused : (text : List ℕ) (place : ℕ) (d : Draft) (rest : List ℕ) → ScriptSoFar text place d rest → read_script_line d rest ≡ None
    → (length rest ≡ 0 → ⊥) → IsScriptRefused text place
unfolding scripts read_script_line
script_refused text place d rest p h some =
    let r = refused scripts text place d rest p h (some_left scripts d rest some) in
    record { place = r.place; front = r.front; none = r.none; other = r.other }

none_whole : (d : Draft) → script_in d ≡ None → (v : ScriptValue) → d ≡ script_whole v → ⊥
none_whole d h v e = let both : ◌≡◌ {A = Option ScriptValue} (script_in (script_whole v)) None = ap script_in (sym e) ∙ h in cc

-- A text that ends before its draft is a script is refused at the line that would come next.
pub script_stops : (text : List ℕ) (place : ℕ) (d : Draft) (rest : List ℕ) → ScriptSoFar text place d rest → length rest ≡ 0 → script_in d ≡ None
    → IsScriptRefused text place
unfolding scripts
script_stops text place d rest p h is =
    let r = stops scripts text place d rest p h (none_whole d is) in
    record { place = r.place; front = r.front; none = r.none; other = r.other }

-- A draft that is a script is the draft of that script.
pub done_is : (d : Draft) (v : ScriptValue) → script_in d ≡ Some v → d ≡ script_whole v
done_is blank v h = absurd cc
done_is (heads vs) v h = absurd cc
done_is (body vs rs) v h = absurd cc
done_is (asked vs rs es e) v h = absurd cc
done_is (done vs rs es) v h =
    let same : ◌≡◌ {A = ScriptValue} (record { values = vs; regions = rs; entries = es }) v = cc in
    ap script_whole same

-- The text ends as the text of a script.
pub script_ends : (text : List ℕ) (place : ℕ) (d : Draft) (rest : List ℕ) (v : ScriptValue) → ScriptSoFar text place d rest → length rest ≡ 0
    → script_in d ≡ Some v → IsTextOf text v
unfolding scripts
script_ends text place d rest v p h is =
    let t = finishes scripts text place rest v (subst (λ (z : Draft). ScriptSoFar text place z rest) (done_is d v is) p) h in
    record { holds = t.holds; spelled = t.spelled; one = t.one }
