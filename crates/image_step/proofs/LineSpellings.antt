-- A line that is read is the one whose text it is, within its bounds.
use Rattle.std.proofs.Common.{◌≡◌, Bool, true, false, ◌&&◌, cond, List, ℕ, ◌^◌, ◌<◌, Option, Some, None, IfSome, refl, ap, sym, ◌∙◌, subst}
use Rattle.std.specs.Prelude.{nat_lt, codes, option_map, option_and_then}
use Rattle.std.specs.Str.{bytes_eq}
use Rattle.std.proofs.lemmas.Bool.{and_parts}
use Rattle.std.proofs.lemmas.Slice.Eq.{bytes_eq-Decides}
use Rattle.image_step.specs.declared.line.Line.{Line}
use Rattle.image_step.specs.declared.line.Line.TheVariants as line
use Rattle.image_step.specs.Grammar.{HasNumbers, LineHolds, line_fits}
use Rattle.image_step.specs.Spelling.{line_text}
use Rattle.image_step.specs.Reading.{address_in, ask_in, bytes_in, checked, line_behind, line_of, mem_in, name_in, number_in, region_in, set_in, value_in, zeros_in}
use Rattle.list_text.specs.Blanks.{word, later_words}
use Rattle.image_step.proofs.Numbers.{bytes_small, number_small}

-- What is given under a test is given because it holds.
pub kept : {X : Type 0} (b : Bool) (y x : X) → cond b (Some y) None ≡ Some x → (b ≡ true) × (y ≡ x)
kept true y x e = (refl, cc)
kept false y x e = absurd cc

-- What stays of a line that was read leniently: its bounds hold, and the text is its text.
checked_spelled : (text : List ℕ) (o : Option Line) (x : Line) → checked text o ≡ Some x
    → (o ≡ Some x) × (line_fits x ≡ true) × (text ≡ line_text x)
checked_spelled text None x e = absurd cc
checked_spelled text (Some y) x e =
    let k = kept (line_fits y && bytes_eq (line_text y) text) y x e in
    let parts = and_parts (line_fits y) (bytes_eq (line_text y) text) k.0 in
    let same : line_text y ≡ text = (bytes_eq-Decides (line_text y) text).0 parts.1 in
    (ap (λ (z : Line). Some z) k.1, ap line_fits (sym k.1) ∙ parts.0, sym same ∙ ap line_text k.1)

-- A fact of whatever an option gives.
abbrev Gives : Option Line → Type 0
Gives o = (x : Line) → o ≡ Some x → HasNumbers x

gives_some : (x : Line) → HasNumbers x → Gives (Some x)
gives_some x h y e = let same : x ≡ y = cc in subst HasNumbers same h

gives_none : Gives None
gives_none x e = absurd cc

either : (b : Bool) (o p : Option Line) → Gives o → Gives p → Gives (cond b o p)
either true o p f g = f
either false o p f g = g

thence : {A : Type 0} (o : Option A) (f : A → Option Line) → ((a : A) → o ≡ Some a → Gives (f a)) → Gives (option_and_then f o)
thence None f h = gives_none
thence (Some a) f h = h a refl

mapped : {A : Type 0} (o : Option A) (f : A → Line) → ((a : A) → o ≡ Some a → HasNumbers (f a)) → Gives (option_map f o)
mapped None f h = gives_none
mapped (Some a) f h = gives_some (f a) (h a refl)

zeros_given : (text : List ℕ) → Gives (zeros_in text)
unfolding zeros_in
zeros_given text =
    thence (number_in (word text)) _ (λ lo elo. thence (number_in (word (later_words text))) _ (λ hi ehi.
    either (nat_lt lo hi) _ None (gives_some _ (number_small (word text) lo elo, tt)) gives_none))

region_given : (text : List ℕ) → Gives (region_in text)
unfolding region_in
region_given text =
    thence (number_in (word text)) _ (λ lo elo. mapped (bytes_in 4096 (later_words (later_words text))) _ (λ bs ebs.
    (number_small (word text) lo elo, bytes_small 4096 (later_words (later_words text)) bs ebs)))

named_address : (b : Bool) (text : List ℕ) (a : Option ℕ) → cond b (Some None) (option_map (λ (n : ℕ). Some n) (number_in text)) ≡ Some a → IfSome a (λ n. n < 2 ^ 64)
named_address true text None e = tt
named_address true text (Some n) e = absurd cc
named_address false text a e = plain (number_in text) refl a e
  where
    plain : (o : Option ℕ) → number_in text ≡ o → (a : Option ℕ) → option_map (λ (n : ℕ). Some n) o ≡ Some a → IfSome a (λ n. n < 2 ^ 64)
    plain None h a e = absurd cc
    plain (Some n) h None e = absurd cc
    plain (Some n) h (Some m) e = number_small text m (h ∙ (let same : n ≡ m = cc in ap (λ (k : ℕ). Some k) same))

ask_given : (text : List ℕ) → Gives (ask_in text)
unfolding ask_in address_in
ask_given text =
    thence (bytes_in 15 (word text)) _ (λ bs ebs. mapped (address_in (later_words text)) _ (λ a ea.
    (bytes_small 15 (word text) bs ebs, named_address (bytes_eq (later_words text) (codes "-")) (later_words text) a ea)))

set_given : (text : List ℕ) → Gives (set_in text)
unfolding set_in
set_given text =
    thence (name_in (word text)) _ (λ k ek. mapped (number_in (later_words text)) _ (λ v ev. number_small (later_words text) v ev))

mem_given : (text : List ℕ) → Gives (mem_in text)
unfolding mem_in
mem_given text =
    thence (number_in (word text)) _ (λ a ea. mapped (bytes_in 4096 (later_words text)) _ (λ bs ebs.
    (number_small (word text) a ea, bytes_small 4096 (later_words text) bs ebs)))

value_given : (kind text : List ℕ) → Gives (value_in kind text)
unfolding value_in
value_given kind text =
    thence (name_in kind) _ (λ k ek. mapped (number_in text) _ (λ v ev. number_small text v ev))

behind_given : (kind text : List ℕ) → Gives (line_behind kind text)
unfolding line_behind
behind_given kind text =
    either (bytes_eq kind (codes "e9world")) _ _ (gives_some line.Version tt)
    (either (bytes_eq kind (codes "zero")) _ _ (zeros_given text)
    (either (bytes_eq kind (codes "bytes")) _ _ (region_given text)
    (either (bytes_eq kind (codes "ask")) _ _ (ask_given text)
    (either (bytes_eq kind (codes "set")) _ _ (set_given text)
    (either (bytes_eq kind (codes "mem")) _ _ (mem_given text)
    (either (bytes_eq kind (codes "end")) _ _ (gives_some line.End tt) (value_given kind text)))))))

-- A line that is read is the one whose text it is, within its bounds.
pub line_spelled : (text : List ℕ) (x : Line) → line_of text ≡ Some x → LineHolds x × (text ≡ line_text x)
unfolding line_of
line_spelled text x e =
    let s = checked_spelled text (line_behind (word text) (later_words text)) x e in
    (record { fits = s.1; numbers = behind_given (word text) (later_words text) x s.0 }, s.2)
