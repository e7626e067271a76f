-- The kinds of lines that a line's first byte rules out.
use Rattle.std.proofs.Common.{◌≡◌, ℕ, false, List, ◌∷◌, ◌++◌, Option, Some, None, refl, subst}
use Rattle.std.specs.Prelude.{option_and_then, slice_get}
use Rattle.patch_report.specs.declared.line.Line.{Line}
use Rattle.patch_report.specs.declared.line.Line.TheVariants as line
use Rattle.patch_report.specs.Spelling.{line_text}
use Rattle.patch_report.specs.Reading.{At, found, is_there, line_at, picked, pun_of, write_of}
use Rattle.patch_report.proofs.NextLine.{next_is}

picks_none : {X : Type 0} (want : Line → Option X) (o : Option (Line × At))
    → ((x : Line) (next : At) → o ≡ Some (x, next) → want x ≡ None) → option_and_then (picked want) o ≡ None
picks_none want None h = refl
picks_none want (Some p) h = rw (h p.0 p.1 refl) refl

-- Where the next line, if any, is not as wanted, none is found.
finds_none : {X : Type 0} (want : Line → Option X) (at : At)
    → ((x : Line) (next : At) → line_at at ≡ Some (x, next) → want x ≡ None) → found want at ≡ None
unfolding found
finds_none want at h = picks_none want (line_at at) h

-- A line of a write begins with w (119).
no_write : (x : Line) (rest text : List ℕ) → text ≡ line_text x ++ 10 ∷ rest → is_there 119 (slice_get text 0) ≡ false → write_of x ≡ None
no_write (line.Write addr was now) rest text e h =
    let k : is_there 119 (slice_get (line_text (line.Write addr was now) ++ 10 ∷ rest) 0) ≡ false = subst (λ (t : List ℕ). is_there 119 (slice_get t 0) ≡ false) e h in
    absurd cc
no_write x rest text e h = refl

-- A line of punned bytes begins with p (112).
no_pun : (x : Line) (rest text : List ℕ) → text ≡ line_text x ++ 10 ∷ rest → is_there 112 (slice_get text 0) ≡ false → pun_of x ≡ None
no_pun (line.Pun p) rest text e h =
    let k : is_there 112 (slice_get (line_text (line.Pun p) ++ 10 ∷ rest) 0) ≡ false = subst (λ (t : List ℕ). is_there 112 (slice_get t 0) ≡ false) e h in
    absurd cc
no_pun x rest text e h = refl

-- Behind another byte than w there is no write's line.
pub no_write_next : (at : At) → is_there 119 (slice_get at.text 0) ≡ false → found write_of at ≡ None
no_write_next at h = finds_none write_of at (λ x next e. no_write x next.text at.text (next_is at x next e).text h)

-- Behind another byte than p there is no line of punned bytes.
pub no_pun_next : (at : At) → is_there 112 (slice_get at.text 0) ≡ false → found pun_of at ≡ None
no_pun_next at h = finds_none pun_of at (λ x next e. no_pun x next.text at.text (next_is at x next e).text h)
