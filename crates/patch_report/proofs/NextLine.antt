-- The next line of a text is the one that stands at its front.
use Rattle.std.proofs.Common.{◌≡◌, ℕ, true, List, ◌∷◌, ◌++◌, Option, Some, None, option_map, refl, ap, sym, subst, ◌∙◌}
use Rattle.std.proofs.lemmas.Option.{same_Some}
use Rattle.patch_report.specs.declared.line.Line.{Line}
use Rattle.patch_report.specs.Grammar.{line_holds, IsLine}
use Rattle.patch_report.specs.Spelling.{line_text}
use Rattle.patch_report.specs.Front.{line_front}
use Rattle.patch_report.specs.Laws.{LinesAreSpelled}
use Rattle.patch_report.specs.Reading.{At, behind_line, line_at, next_place}
use Rattle.patch_report.proofs.SpelledLines.{front_read}
use Rattle.patch_report.proofs.ReadLines.{front_spelled}

-- The line that was read, what stands there, and where reading goes on.
pub record IsNext (at : At) (x : Line) (next : At) : Type 0 where
  pub line : IsLine x
  pub text : at.text ≡ line_text x ++ 10 ∷ next.text
  pub place : next.place ≡ next_place at.place

-- The next line may stand in a report, its text and an LF stand there, and reading goes on behind them.
pub next_is : (at : At) (x : Line) (next : At) → line_at at ≡ Some (x, next) → IsNext at x next
unfolding line_at
next_is at x next e = by (line_front at.text) refl e
  where
    by : (o : Option (Line × List ℕ)) → line_front at.text ≡ o → option_map (behind_line at) o ≡ Some (x, next) → IsNext at x next
    by None h f = absurd cc
    by (Some p) h f =
        let w : ◌≡◌ {A = Line × At} (behind_line at p) (x, next) = same_Some (behind_line at p) (x, next) f in
        let s = front_spelled at.text p.0 p.1 h in
        record {
          line = subst IsLine (ap (λ (u : Line × At). u.0) w) s.0;
          text = s.1 ∙ (λ i. line_text (w i).0 ++ 10 ∷ (w i).1.text);
          place = ap (λ (u : Line × At). u.1.place) (sym w);
        }

-- A line that stands there is read.
pub next_read : (x : Line) → IsLine x → (place : ℕ) (rest : List ℕ)
    → line_at (record { place = place; text = line_text x ++ 10 ∷ rest }) ≡ Some (x, record { place = next_place place; text = rest })
unfolding line_at
next_read x h place rest =
    let at : At = record { place = place; text = line_text x ++ 10 ∷ rest } in
    ap (option_map (behind_line at)) (front_read x rest h)

-- The line at the front is the next line.
pub front_is_next : (at : At) (x : Line) (rest : List ℕ) → line_front at.text ≡ Some (x, rest)
    → (line_at at ≡ Some (x, record { place = next_place at.place; text = rest })) × (line_holds x ≡ true)
unfolding line_at
front_is_next at x rest e = (ap (option_map (behind_line at)) e, (front_spelled at.text x rest e).0.holds)

-- Where no line stands at the front, there is no next line.
pub none_is_next : (at : At) → line_front at.text ≡ None → line_at at ≡ None
unfolding line_at
none_is_next at e = ap (option_map (behind_line at)) e

-- A line is read at the front exactly where it may stand in a report and its text and an LF stand there.
pub lines_are_spelled : LinesAreSpelled
lines_are_spelled text x rest = (front_spelled text x rest, λ w. ap line_front w.1 ∙ front_read x rest w.0)
