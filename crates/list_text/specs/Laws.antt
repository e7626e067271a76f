-- What the definitions promise: the grammar of lists, their first refused line, and the words of actions. Theorems cite it.
use Rattle.std.specs.Prelude.{◌≡◌, ℕ, ◌+◌, ◌≤◌, ◌<◌, ◌^◌, ◌++◌, ◌↔◌, ◌⊎◌, false, All, List, [], ◌∷◌, map, length, Option, Some, None, Ok, Err, codes}
use Rattle.std.specs.List.{AllByRecursion}
use Rattle.std.specs.List.Sorted.{IsStrictlyIncreasing}
use Rattle.pun_base.specs.Actions.{IsAction}
use Rattle.pun_base.specs.declared.action.Action.{Action}
use Rattle.list_text.specs.declared.refusal.ListError.{ListError}
use Rattle.list_text.specs.declared.refusal.ListError.TheVariants.{BadLine, NotAscending, TooMany, Memory}
use Rattle.list_text.specs.Lines.{is_line_feed, lines, line_number}
use Rattle.list_text.specs.Lists.{list_of}
use Rattle.list_text.specs.ActionWords.{action_word}
use Rattle.list_text.specs.Words.{action_of}

-- Lines one after the other, each with an LF (10) behind it.
abbrev pub ended : List (List ℕ) → List ℕ
ended [] = []
ended (line ∷ later) = line ++ 10 ∷ ended later

-- The same with none behind the last.
abbrev pub unended : List (List ℕ) → List ℕ
unended [] = []
unended (line ∷ []) = line
unended (line ∷ next ∷ later) = line ++ 10 ∷ unended (next ∷ later)

-- The last of the lines, the empty one where there is none.
abbrev pub last_line : List (List ℕ) → List ℕ
last_line [] = []
last_line (line ∷ []) = line
last_line (line ∷ next ∷ later) = last_line (next ∷ later)

-- No byte of a line is an LF.
abbrev pub HasNoFeed : List ℕ → Type 0
HasNoFeed line = AllByRecursion (λ c. is_line_feed c ≡ false) line

-- The lines make up the text: each ends with LF, and the last may lack it where it has a byte.
pub record AreLines (text : List ℕ) (texts : List (List ℕ)) : Type 0 where
  pub without : AllByRecursion HasNoFeed texts
  pub joined : (text ≡ ended texts) ⊎ ((text ≡ unended texts) × (1 ≤ length (last_line texts)))

-- A text has one list of lines.
abbrev pub TextsAreLines : Type 0
TextsAreLines = (text : List ℕ) (texts : List (List ℕ)) → (lines text ≡ texts) ↔ AreLines text texts

-- Lines and the list of at most `limit` numbers that they spell: each line a number, in ascending order.
pub record IsList (limit : ℕ) (texts : List (List ℕ)) (numbers : List ℕ) : Type 0 where
  pub spelled : map line_number texts ≡ map Some numbers
  pub ascending : IsStrictlyIncreasing numbers
  pub count : length numbers ≤ limit

-- A text tells a list exactly where its lines are one.
abbrev pub ListsAreGrammar : Type 0
ListsAreGrammar = (limit : ℕ) (text numbers : List ℕ) → (list_of limit text ≡ Ok numbers) ↔ IsList limit (lines text) numbers

-- The last of the numbers, or the one before them where there is none.
abbrev pub last_behind : Option ℕ → List ℕ → Option ℕ
last_behind before [] = before
last_behind before (n ∷ ns) = last_behind (Some n) ns

-- A number that isn't greater than the one before it.
pub record IsLow (before number : Option ℕ) : Type 0 where
  pub low : ℕ
  pub high : ℕ
  pub number_is : number ≡ Some low
  pub before_is : before ≡ Some high
  pub order : low ≤ high

-- How the line at a place is refused, by its number and the number before it.
abbrev pub Breaks : ℕ → ℕ → Option ℕ → Option ℕ → ListError → Type 0
Breaks limit place before number (BadLine line) = (line ≡ place) × (place ≤ limit) × (number ≡ None)
Breaks limit place before number (NotAscending line) = (line ≡ place) × (place ≤ limit) × IsLow before number
Breaks limit place before number (TooMany most) = (most ≡ limit) × (limit < place)
Breaks limit place before number Memory = ⊥

-- The first refused line: the lines in front of it are a list.
pub record IsRefusal (limit : ℕ) (texts : List (List ℕ)) (error : ListError) : Type 0 where
  pub front : List (List ℕ)
  pub line : List ℕ
  pub later : List (List ℕ)
  pub numbers : List ℕ
  pub parts : texts ≡ front ++ line ∷ later
  pub accepted : IsList limit front numbers
  pub breaks : Breaks limit (length numbers + 1) (last_behind None numbers) (line_number line) error

-- A text is refused with an error exactly where its first refused line is refused so.
abbrev pub RefusalsAreFirst : Type 0
RefusalsAreFirst = (limit : ℕ) (text : List ℕ) (error : ListError) → (list_of limit text ≡ Err error) ↔ IsRefusal limit (lines text) error

-- Each number of a list has 32 bits.
abbrev pub NumbersAreSmall : Type 0
NumbersAreSmall = (limit : ℕ) (text numbers : List ℕ) → list_of limit text ≡ Ok numbers → All (λ n. n < 2 ^ 32) numbers

-- A word names an action exactly where that action can be asked for and the word is its word.
abbrev pub ActionsAreSpelled : Type 0
ActionsAreSpelled = (word : List ℕ) (action : Action) → (action_of word ≡ Some action) ↔ (IsAction action × (word ≡ action_word action))

-- Texts whose lists are known.
pub record KnownTexts : Type 0 where
  pub empty : list_of 4194304 [] ≡ Ok []
  pub empty_line : list_of 4194304 (codes "\n") ≡ Err (BadLine 1)
  pub repeated : list_of 4194304 (codes "401000\n0x401005\n401005\n") ≡ Err (NotAscending 3)
  pub unended : list_of 4194304 (codes "401000\n0x401aBc") ≡ Ok (0x401000 ∷ 0x401abc ∷ [])
  pub too_many : list_of 2 (codes "1\n2\nx\n") ≡ Err (TooMany 2)
