-- Lines judged one after the other.
use Rattle.std.proofs.Common.{◌≡◌, ℕ, ◌+◌, ◌<◌, ◌≤◌, ◌++◌, List, [], ◌∷◌, length, take, drop, Option, Some, Result, Ok, Err, refl, sym, ap, ◌∙◌, arith, append_assoc, add-one, Bool, true, false, cond, not}
use Rattle.std.specs.Prelude.{nat_lt, ◌==◌}
use Rattle.std.specs.List.{onto_first, before_first, after_first, position_or_len}
use Rattle.std.proofs.Math.Numerals.{one-add}
use Rattle.std.proofs.lemmas.Bool.Decides.{nat_tests}
use Rattle.list_text.specs.declared.refusal.ListError.{ListError}
use Rattle.list_text.specs.declared.refusal.ListError.TheVariants.{BadLine, NotAscending, TooMany, Memory}
use Rattle.list_text.specs.Lines.{lines, is_line_feed, line_number}
use Rattle.list_text.specs.Lists.{judged, judged_line, judged_number, with_front, list_of, Refused}

-- Numbers in front of a list, if there is one.
abbrev pub after_front : List ℕ → Result (List ℕ) ListError → Result (List ℕ) ListError
after_front front (Ok ns) = Ok (front ++ ns)
after_front front (Err e) = Err e

step : (b : Bool) (c p : ℕ) (cs : List ℕ) → onto_first c (lines cs) ≡ (c ∷ take p cs) ∷ lines (drop (p + 1) cs)
    → cond b ([] ∷ lines cs) (onto_first c (lines cs)) ≡ take (cond (not b) (1 + p) 0) (c ∷ cs) ∷ lines (drop (cond (not b) (1 + p) 0 + 1) (c ∷ cs))
step true c p cs h = refl
step false c p cs h = rw one-add (rw add-one (rw add-one at h))

-- A text that isn't empty is its first line and what follows.
pub lines_step : (c : ℕ) (cs : List ℕ) → lines (c ∷ cs) ≡ before_first is_line_feed (c ∷ cs) ∷ lines (after_first is_line_feed (c ∷ cs))
lines_step c [] = step (c == 10) c 0 [] refl
lines_step c (d ∷ ds) = step (c == 10) c (position_or_len is_line_feed (d ∷ ds)) (d ∷ ds) (ap (onto_first c) (lines_step d ds))

-- A first line that is accepted puts its number in front of what the later lines tell.
pub judged_step : (limit place : ℕ) (before : Option ℕ) (text line : List ℕ) (n : ℕ) → 0 < length text → Ok n ≡ judged_line limit place before line → line ≡ before_first is_line_feed text
    → judged limit place before (lines text) ≡ with_front n (judged limit (place + 1) (Some n) (lines (after_first is_line_feed text)))
judged_step limit place before [] line n some is first = absurd (omega arith)
judged_step limit place before (c ∷ cs) line n some is first = rw (lines_step c cs) (rw (← first) (rw (← is) refl))

-- A first line that is refused refuses all.
pub judged_stop : (limit place : ℕ) (before : Option ℕ) (text line : List ℕ) (e : ListError) → 0 < length text → Err e ≡ judged_line limit place before line → line ≡ before_first is_line_feed text
    → judged limit place before (lines text) ≡ Err e
judged_stop limit place before [] line e some is first = absurd (omega arith)
judged_stop limit place before (c ∷ cs) line e some is first = rw (lines_step c cs) (rw (← first) (rw (← is) refl))

front_more : (front : List ℕ) (n : ℕ) (r : Result (List ℕ) ListError) → after_front front (with_front n r) ≡ after_front (front ++ n ∷ []) r
front_more front n (Ok ns) = ap Ok (sym (append_assoc front (n ∷ []) ns))
front_more front n (Err e) = refl

within_limit : (limit place n : ℕ) (other : Result ℕ ListError) → Ok n ≡ cond (nat_lt limit place) (Err (TooMany limit)) other → place ≤ limit
within_limit limit place n other is = grind (arith, nat_tests)

-- A line that is accepted stands within the limit.
pub placed : (limit place n : ℕ) (before : Option ℕ) (line : List ℕ) → Ok n ≡ judged_line limit place before line → place ≤ limit
placed limit place n before line is = within_limit limit place n (judged_number place before (line_number line)) is

-- An accepted line's number goes to the end of those before it.
pub loop_more : (limit place n : ℕ) (before : Option ℕ) (text line later numbers pushed : List ℕ) (whole : Result (List ℕ) ListError) → whole ≡ after_front numbers (judged limit place before (lines text))
    → 0 < length text → Ok n ≡ judged_line limit place before line → line ≡ before_first is_line_feed text → later ≡ after_first is_line_feed text → pushed ≡ numbers ++ n ∷ []
    → whole ≡ after_front pushed (judged limit (place + 1) (Some n) (lines later))
loop_more limit place n before text line later numbers pushed whole so some is first el ep =
    rw (el, ep) (so ∙ (ap (after_front numbers) (judged_step limit place before text line n some is first) ∙ front_more numbers n (judged limit (place + 1) (Some n) (lines (after_first is_line_feed text)))))

refused : (limit : ℕ) (text : List ℕ) (e : ListError) → list_of limit text ≡ Err e → Refused limit text e
refused limit text (BadLine line) h = h
refused limit text (NotAscending line) h = h
refused limit text (TooMany most) h = h
refused limit text Memory h = tt

-- A line that is refused refuses the text.
pub loop_stop : (limit place : ℕ) (before : Option ℕ) (whole text line numbers : List ℕ) (e : ListError) → list_of limit whole ≡ after_front numbers (judged limit place before (lines text))
    → 0 < length text → Err e ≡ judged_line limit place before line → line ≡ before_first is_line_feed text → Refused limit whole e
loop_stop limit place before whole text line numbers e so some is first =
    refused limit whole e (so ∙ ap (after_front numbers) (judged_stop limit place before text line e some is first))
