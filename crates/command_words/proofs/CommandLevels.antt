-- What `clap` makes of the plain words of one command.
use Rattle.std.proofs.Common.{◌≡◌, ℕ, ◌==◌, Bool, true, false, ◌&&◌, List, [], ◌∷◌, ◌++◌, fold, Option, Some, None, refl, sym, ap, ap₂, ◌∙◌}
use Rattle.std.specs.List.{list_all}
use Rattle.std.specs.Str.{bytes_eq}
use Rattle.std.proofs.lemmas.Bool.{and_parts, not-true}
use Rattle.clap.specs.Lexer.{long_of, long_of_rest, short_of, short_of_rest, strip_byte}
use Rattle.std.specs.Prelude.{option_and_then, if◌then◌else◌}
use Rattle.std.specs.Option.{option_map_or}
use Rattle.clap.specs.Walk.{Held, subcommand_met, subcommand_or_other, long_or_other, short_or_plain, trailing, Names, Row, Rule, Step, Text, Walk, after_step, arg_by_index, finished, idle, settled, to_positional, value, walked, word_met, positional}
use Rattle.clap.specs.Simple.{Shape}
use Rattle.clap.specs.Kinds.{Kinds, or_else}
use Rattle.clap.specs.declared.error.kind.ErrorKind.{ErrorKind}
use Rattle.clap.specs.Faults.{check_fault, defaults_fault, bundle_fault, flag_word_fault, other_fault, settle_fault, step_fault, turn_fault, walk_fault, word_fault}
use Rattle.clap.specs.declared.error.kind.ErrorKind.TheVariants as kind
use Rattle.clap.specs.declared.builder.value_parser.Reading.TheVariants.{AsWritten}
use Rattle.clap.specs.declared.parser.matches.ValueSource.TheVariants.{CommandLine}
use Rattle.command_words.specs.Words.{is_plain}

-- ---- one level of words

-- the kinds of errors behind the words of a command, which used a subcommand or not
abbrev pub level_end : Shape → Held → Bool → Kinds
level_end s h has =
    or_else (settle_fault s.rules s.args_override_self h)
    (or_else (defaults_fault (settled s.rules h).rows s.rules) (check_fault s (finished s.rules h) has))

-- the kinds of errors and the rows of a command without subcommands, by what the walk gave
abbrev pub level_of : Shape → Kinds → Walk → Kinds × List Row
level_of s f w = (or_else f (level_end s w.held false), finished s.rules w.held)

-- the same, from a walk and the words that are left
abbrev pub level : Shape → Walk → List Text → Kinds × List Row
level s w words = level_of s (walk_fault s [] w words) (fold (walked s.rules []) w words)

-- a walk that stands at a place, with nothing waiting for a value
abbrev pub at_place : Held → ℕ → Walk
at_place h n = record { held = h; waiting = idle; position = n; is_trailing = false; stopped = None }

-- a plain word is no flag
no_dashes : (w : Text) → is_plain w ≡ true → bytes_eq w (45 ∷ 45 ∷ []) ≡ false
no_dashes [] p = cc
no_dashes (x ∷ xs) p = ap (λ (b : Bool). b && bytes_eq xs (45 ∷ [])) (not-true (x == 45) p)

no_long : (w : Text) → is_plain w ≡ true → long_of w ≡ None
no_long [] p = cc
no_long (x ∷ xs) p =
    ap (λ (b : Bool). option_and_then long_of_rest (option_and_then (strip_byte 45) (if b then Some xs else None))) (not-true (x == 45) p)

no_short : (w : Text) → is_plain w ≡ true → short_of w ≡ None
no_short [] p = cc
no_short (x ∷ xs) p = ap (λ (b : Bool). option_and_then short_of_rest (if b then Some xs else None)) (not-true (x == 45) p)

-- a plain word that names no subcommand is a value
plain_met : (c : List Rule) (names : Names) (n : ℕ) (w : Text) (h : Held) → is_plain w ≡ true → subcommand_met names idle w ≡ None
    → word_met c names false idle n w h ≡ (h, value)
plain_met c names n w h p e =
    ap (λ (o : Option Text). subcommand_or_other c o idle n w h) e
    ∙ ap₂ (λ (b : Bool) (l : Option (Text × Option Text)). if b then (h, trailing n) else long_or_other c idle w l h) (no_dashes w p)
    (no_long w p)
    ∙ ap (λ (o : Option Text). short_or_plain c idle w o h) (no_short w p)

-- a plain word that names no subcommand fails nowhere as a flag
plain_word_fault : (s : Shape) (names : Names) (w : Text) (h : Held) → is_plain w ≡ true → subcommand_met names idle w ≡ None
    → word_fault s names false idle w h ≡ []
plain_word_fault s names w h p e =
    ap (λ (o : Option Text). other_fault s o w h) e
    ∙ ap₂ (λ (b : Bool) (l : Option (Text × Option Text)). if b then [] else flag_word_fault s.rules s.args_override_self l w h)
    (no_dashes w p) (no_long w p)
    ∙ ap (λ (o : Option Text). option_map_or (λ flags. bundle_fault s.rules s.args_override_self flags h) o []) (no_short w p)

-- a plain word that names no subcommand fails as a value does
pub plain_turn : (s : Shape) (names : Names) (h : Held) (n : ℕ) (w : Text) → is_plain w ≡ true → subcommand_met names idle w ≡ None
    → turn_fault s names (at_place h n) w ≡ step_fault s n h value
plain_turn s names h n w p e =
    ap₂ (λ (k : Kinds) (m : Held × Step). or_else k (step_fault s n m.0 m.1)) (plain_word_fault s names w h p e)
    (plain_met s.rules names n w h p e)

-- a plain word goes to the positional of its place
leaf_walked : (c : List Rule) (h : Held) (n : ℕ) (w : Text) → is_plain w ≡ true
    → walked c [] (at_place h n) w ≡ to_positional c (arg_by_index c n) w (at_place h n) h
unfolding walked
leaf_walked c h n w p = ap (λ (m : Held × Step). after_step c w (at_place h n) m.0 m.1) (plain_met c [] n w h p refl)

-- a plain word that a positional takes leads on to the words behind it
pub next_to : (s : Shape) (h : Held) (u : Walk) (n : ℕ) (w : Text) (rest : List Text) → is_plain w ≡ true → step_fault s n h value ≡ []
    → to_positional s.rules (arg_by_index s.rules n) w (at_place h n) h ≡ u
    → level s (at_place h n) (w ∷ rest) ≡ level s u rest
unfolding walk_fault
next_to s h u n w rest p e k =
    ap₂ (λ (f : Kinds) (v : Walk). level_of s (or_else f (walk_fault s [] v rest)) (fold (walked s.rules []) v rest))
    (plain_turn s [] h n w p refl ∙ e) (leaf_walked s.rules h n w p ∙ k)

-- a plain word that a positional takes, with nothing waiting then, leads on to the words behind it
pub next : (s : Shape) (h i : Held) (n m : ℕ) (w : Text) (rest : List Text) → is_plain w ≡ true → step_fault s n h value ≡ []
    → to_positional s.rules (arg_by_index s.rules n) w (at_place h n) h ≡ at_place i m
    → level s (at_place h n) (w ∷ rest) ≡ level s (at_place i m) rest
next s h i n m w rest p e k = next_to s h (at_place i m) n w rest p e k

-- a plain word that no positional takes is refused
pub stray : (s : Shape) (h : Held) (n : ℕ) (w : Text) (rest : List Text) → is_plain w ≡ true
    → step_fault s n h value ≡ kind.UnknownArgument ∷ []
    → (level s (at_place h n) (w ∷ rest)).0 ≡ kind.UnknownArgument ∷ []
unfolding walk_fault
stray s h n w rest p e =
    ap (λ (f : Kinds). or_else (or_else f (walk_fault s [] (walked s.rules [] (at_place h n) w) rest))
    (level_end s (fold (walked s.rules []) (at_place h n) (w ∷ rest)).held false)) (plain_turn s [] h n w p refl ∙ e)

-- the first of plain words
pub head : (w : Text) (rest : List Text) → list_all is_plain (w ∷ rest) ≡ true → is_plain w ≡ true
head w rest p = (and_parts (is_plain w) (list_all is_plain rest) p).0

-- the plain words behind the first
pub tail : (w : Text) (rest : List Text) → list_all is_plain (w ∷ rest) ≡ true → list_all is_plain rest ≡ true
tail w rest p = (and_parts (is_plain w) (list_all is_plain rest) p).1

-- ---- the words of a command, each under its name

-- what is found of one word
abbrev pub found_word : Text → List Text → Row
found_word name ws = record { id = name; values = ws; count = None; source = Some CommandLine; reading = AsWritten }

-- the rows once what is pending is used
abbrev pub rows_with : List Row → Option (Text × List Text) → List Row
rows_with rows None = rows
rows_with rows (Some p) = rows ++ found_word p.0 p.1 ∷ []

-- what is held behind one more word: the rows of those before it, and the word itself pending
abbrev pub behind : Held → Text → Text → Held
behind h name w = record { rows = rows_with h.rows h.pending; pending = Some (name, w ∷ []); skip = 0 }

-- kinds that begin with one are not none
pub refused : (k : Kinds) (x : ErrorKind) (xs : Kinds) → k ≡ x ∷ xs → k ≡ [] → ⊥
refused k x xs e z = let b : x ∷ xs ≡ [] = sym e ∙ z in cc

-- ---- words of which there may be any number, behind the others

-- a walk at the place of such words, behind the first of them
abbrev pub at_words : Held → ℕ → Walk
at_words h n = record { held = h; waiting = positional; position = n; is_trailing = false; stopped = None }

-- a plain word is one of them
words_met : (c : List Rule) (n : ℕ) (w : Text) (h : Held) → is_plain w ≡ true → word_met c [] false positional n w h ≡ (h, value)
words_met c n w h p =
    ap₂ (λ (b : Bool) (l : Option (Text × Option Text)). if b then (h, trailing n) else long_or_other c positional w l h) (no_dashes w p)
    (no_long w p)
    ∙ ap (λ (o : Option Text). short_or_plain c positional w o h) (no_short w p)

-- it fails nowhere as a flag
words_fault : (s : Shape) (w : Text) (h : Held) → is_plain w ≡ true → word_fault s [] false positional w h ≡ []
words_fault s w h p =
    ap₂ (λ (b : Bool) (l : Option (Text × Option Text)). if b then [] else flag_word_fault s.rules s.args_override_self l w h)
    (no_dashes w p) (no_long w p)
    ∙ ap (λ (o : Option Text). option_map_or (λ flags. bundle_fault s.rules s.args_override_self flags h) o []) (no_short w p)

words_turn : (s : Shape) (h : Held) (n : ℕ) (w : Text) → is_plain w ≡ true → turn_fault s [] (at_words h n) w ≡ step_fault s n h value
words_turn s h n w p =
    ap₂ (λ (k : Kinds) (m : Held × Step). or_else k (step_fault s n m.0 m.1)) (words_fault s w h p) (words_met s.rules n w h p)

words_walked : (c : List Rule) (h : Held) (n : ℕ) (w : Text) → is_plain w ≡ true
    → walked c [] (at_words h n) w ≡ to_positional c (arg_by_index c n) w (at_words h n) h
unfolding walked
words_walked c h n w p = ap (λ (m : Held × Step). after_step c w (at_words h n) m.0 m.1) (words_met c n w h p)

-- it leads on to the words behind it
pub next_word : (s : Shape) (h i : Held) (n : ℕ) (w : Text) (rest : List Text) → is_plain w ≡ true → step_fault s n h value ≡ []
    → to_positional s.rules (arg_by_index s.rules n) w (at_words h n) h ≡ at_words i n
    → level s (at_words h n) (w ∷ rest) ≡ level s (at_words i n) rest
unfolding walk_fault
next_word s h i n w rest p e k =
    ap₂ (λ (f : Kinds) (v : Walk). level_of s (or_else f (walk_fault s [] v rest)) (fold (walked s.rules []) v rest))
    (words_turn s h n w p ∙ e) (words_walked s.rules h n w p ∙ k)
