-- What a command reads of the plain words behind its name, by what it takes at each place.
use Rattle.std.proofs.Common.{◌≡◌, ◌⊎◌, inl, inr, ℕ, ◌+◌, Bool, true, false, List, [], ◌∷◌, ◌++◌, Some, codes, refl, sym, ap, ◌∙◌, subst, append-nil, append_assoc}
use Rattle.std.specs.List.{list_all}
use Rattle.clap.specs.Walk.{Row, Text, Held, arg_by_index, to_positional, value}
use Rattle.clap.specs.Simple.{Shape}
use Rattle.clap.specs.Kinds.{Kinds, or_else}
use Rattle.clap.specs.Faults.{step_fault}
use Rattle.clap.specs.declared.error.kind.ErrorKind.{ErrorKind}
use Rattle.clap.specs.declared.error.kind.ErrorKind.TheVariants as kind
use Rattle.command_words.specs.Words.{Command, Usage, is_plain}
use Rattle.command_words.specs.ClapForm.{words_found}
use Rattle.command_words.proofs.CommandLevels.{level, at_place, at_words, next, next_to, next_word, stray, found_word, rows_with, behind, head, tail, refused}

-- a parse passes and finds the command that is meant, or it is refused and none is meant
abbrev pub Tells : Command → Kinds → Command → Type 0
Tells meant k c = ((k ≡ []) × (c ≡ meant)) ⊎ ((k ≡ [] → ⊥) × (meant ≡ Usage))

-- nothing follows kinds
or_nothing : (k : Kinds) → or_else k [] ≡ k
or_nothing [] = refl
or_nothing (x ∷ xs) = refl

-- what a command tells of words, by what a level of words gave and the names under which its rows are read
abbrev pub TellsAt : (List Text → Command) → List Text → List Text → Kinds × List Row → Type 0
TellsAt meant names ws l = Tells (meant ws) (or_else l.0 []) (meant (words_found names l.1))

-- words that are refused
refused_at : (meant : List Text → Command) (names ws : List Text) (l : Kinds × List Row) (x : ErrorKind) → l.0 ≡ x ∷ [] → meant ws ≡ Usage
    → TellsAt meant names ws l
refused_at meant names ws l x e u = inr (refused (or_else l.0 []) x [] (or_nothing l.0 ∙ e), u)

-- words that give rows are those that the rows have
given_at : (meant : List Text → Command) (names ws : List Text) (l : Kinds × List Row) (rows : List Row) → l ≡ ([], rows)
    → words_found names rows ≡ ws → TellsAt meant names ws l
given_at meant names ws l rows g e =
    inl (
      ap (λ (x : Kinds × List Row). or_else x.0 []) g,
      ap (λ (x : Kinds × List Row). meant (words_found names x.1)) g ∙ ap meant e,
    )

-- ---- ranges behind the words that have to be there

-- the ranges that are used
abbrev pub used_ranges : List Text → List Row
used_ranges [] = []
used_ranges (v ∷ vs) = found_word (codes "RESERVE") (v ∷ vs) ∷ []

-- what is held behind more ranges, the last of which is pending
abbrev pub with_ranges : Held → List Text → Text → Held
with_ranges h vs x = record { rows = rows_with h.rows h.pending ++ used_ranges vs; pending = Some (codes "RESERVE", x ∷ []); skip = 0 }

-- the rows of what is held and of ranges
abbrev pub all_rows : Held → List Text → List Row
all_rows h vs = rows_with h.rows h.pending ++ found_word (codes "RESERVE") vs ∷ []

-- with these ranges held, the last of them pending, a command takes no more words, or another range
abbrev pub GoesOn : Shape → Held → ℕ → List Text → Text → Type 0
GoesOn s h n vs x =
    (step_fault s n (with_ranges h vs x) value ≡ []) × (level s (at_words (with_ranges h vs x) n) [] ≡ ([], all_rows h (vs ++ x ∷ [])))
    × ((w : Text) → to_positional s.rules (arg_by_index s.rules n) w (at_words (with_ranges h vs x) n) (with_ranges h vs x)
    ≡ at_words (with_ranges h (vs ++ x ∷ []) w) n)

-- a command takes any ranges at a place, behind words that are held there: none, the first, or one behind one or more
pub record TakesRanges (s : Shape) (names : List Text) (h : Held) (n : ℕ) (ws : List Text) : Type 0 where
  pub none : (level s (at_place h n) [] ≡ ([], rows_with h.rows h.pending)) × (words_found names (rows_with h.rows h.pending) ≡ ws)
  pub first : (step_fault s n h value ≡ [])
      × ((x : Text) → to_positional s.rules (arg_by_index s.rules n) x (at_place h n) h ≡ at_words (with_ranges h [] x) n)
  pub one : (x : Text) → GoesOn s h n [] x
  pub more : (v : Text) (vs : List Text) (x : Text) → GoesOn s h n (v ∷ vs) x
  pub found : (x : Text) (vs : List Text) → words_found names (all_rows h (x ∷ vs)) ≡ ws ++ x ∷ vs

goes_on : (s : Shape) (names : List Text) (h : Held) (n : ℕ) (ws : List Text) → TakesRanges s names h n ws → (vs : List Text) (x : Text)
    → GoesOn s h n vs x
goes_on s names h n ws t [] x = t.one x
goes_on s names h n ws t (v ∷ vs) x = t.more v vs x

-- ranges are known, one after the other
all_ranges : (s : Shape) (names : List Text) (h : Held) (n : ℕ) (ws : List Text) → TakesRanges s names h n ws → (x : Text) (vs rest : List Text)
    → list_all is_plain rest ≡ true → level s (at_words (with_ranges h vs x) n) rest ≡ ([], all_rows h (vs ++ x ∷ rest))
all_ranges s names h n ws t x vs [] p = (goes_on s names h n ws t vs x).1
all_ranges s names h n ws t x vs (w ∷ rest) p =
    let g = goes_on s names h n ws t vs x in
    next_word s (with_ranges h vs x) (with_ranges h (vs ++ x ∷ []) w) n w rest (head w rest p) g.0 (g.2 w)
    ∙ all_ranges s names h n ws t w (vs ++ x ∷ []) rest (tail w rest p)
    ∙ ap (λ (us : List Text). ([], all_rows h us)) (append_assoc vs (x ∷ []) (w ∷ rest))

some_ranges : (s : Shape) (names : List Text) (h : Held) (n : ℕ) (ws : List Text) → TakesRanges s names h n ws → (x : Text) (rest : List Text)
    → list_all is_plain (x ∷ rest) ≡ true → level s (at_place h n) (x ∷ rest) ≡ ([], all_rows h (x ∷ rest))
some_ranges s names h n ws t x rest p =
    next_to s h (at_words (with_ranges h [] x) n) n x rest (head x rest p) t.first.0 (t.first.1 x)
    ∙ all_ranges s names h n ws t x [] rest (tail x rest p)

-- ---- all its words

-- behind the words that have to be there a command takes any ranges, or no more words
abbrev pub Ends : Bool → Shape → (List Text → Command) → List Text → Held → ℕ → List Text → Type 0
Ends true s meant names h n ws = TakesRanges s names h n ws
Ends false s meant names h n ws =
    (step_fault s n h value ≡ kind.UnknownArgument ∷ []) × (level s (at_place h n) [] ≡ ([], rows_with h.rows h.pending))
    × (words_found names (rows_with h.rows h.pending) ≡ ws) × ((w : Text) (rest : List Text) → meant (ws ++ w ∷ rest) ≡ Usage)

-- from a place on, behind these words, a command takes a word under each of the names that are left: fewer are refused, and are of no form
abbrev pub TakesWords : Bool → Shape → (List Text → Command) → List Text → Held → ℕ → List Text → List Text → Type 0
TakesWords reserves s meant names h n ws [] = Ends reserves s meant names h n ws
TakesWords reserves s meant names h n ws (name ∷ left) =
    ((level s (at_place h n) []).0 ≡ kind.MissingRequiredArgument ∷ []) × (step_fault s n h value ≡ []) × (meant ws ≡ Usage)
    × ((w : Text) → (to_positional s.rules (arg_by_index s.rules n) w (at_place h n) h ≡ at_place (behind h name w) (n + 1))
    × TakesWords reserves s meant names (behind h name w) (n + 1) (ws ++ w ∷ []) left)

-- what no word is behind
by_nothing : (s : Shape) (meant : List Text → Command) (names : List Text) (h : Held) (n : ℕ) (ws : List Text)
    → TellsAt meant names ws (level s (at_place h n) []) → TellsAt meant names (ws ++ []) (level s (at_place h n) [])
by_nothing s meant names h n ws t = subst (λ (z : List Text). TellsAt meant names z (level s (at_place h n) [])) (sym (append-nil ws)) t

ended : (reserves : Bool) (s : Shape) (meant : List Text → Command) (names : List Text) (h : Held) (n : ℕ) (ws : List Text)
    → Ends reserves s meant names h n ws → (rest : List Text) → list_all is_plain rest ≡ true
    → TellsAt meant names (ws ++ rest) (level s (at_place h n) rest)
ended true s meant names h n ws t [] p = by_nothing s meant names h n ws (given_at meant names ws _ _ t.none.0 t.none.1)
ended true s meant names h n ws t (x ∷ rest) p =
    given_at meant names (ws ++ x ∷ rest) _ (all_rows h (x ∷ rest)) (some_ranges s names h n ws t x rest p) (t.found x rest)
ended false s meant names h n ws t [] p = by_nothing s meant names h n ws (given_at meant names ws _ _ t.1 t.2)
ended false s meant names h n ws t (w ∷ rest) p =
    refused_at meant names (ws ++ w ∷ rest) _ kind.UnknownArgument (stray s h n w rest (head w rest p) t.0) (t.3 w rest)

-- plain words are read, or refused and of no form
pub words_read : (reserves : Bool) (s : Shape) (meant : List Text → Command) (names : List Text) (h : Held) (n : ℕ) (ws left : List Text)
    → TakesWords reserves s meant names h n ws left → (rest : List Text) → list_all is_plain rest ≡ true
    → TellsAt meant names (ws ++ rest) (level s (at_place h n) rest)
words_read reserves s meant names h n ws [] t rest p = ended reserves s meant names h n ws t rest p
words_read reserves s meant names h n ws (name ∷ left) t [] p =
    by_nothing s meant names h n ws (refused_at meant names ws _ kind.MissingRequiredArgument t.0 t.2)
words_read reserves s meant names h n ws (name ∷ left) t (w ∷ rest) p =
    let later = t.3 w in
    subst (λ (z : List Text). TellsAt meant names z (level s (at_place h n) (w ∷ rest))) (append_assoc ws (w ∷ []) rest)
    (subst (TellsAt meant names ((ws ++ w ∷ []) ++ rest)) (sym (next s h (behind h name w) n (n + 1) w rest (head w rest p) t.1 later.0))
    (words_read reserves s meant names (behind h name w) (n + 1) (ws ++ w ∷ []) left later.1 rest (tail w rest p)))
