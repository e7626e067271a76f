-- What the words for an action, a range and a count name. Theorems cite it.
use Rattle.std.specs.Prelude.{ℕ, ◌+◌, ◌==◌, ◌^◌, Bool, ◌&&◌, nat_le, nat_lt, if◌then◌else◌, List, [], ◌∷◌, length, take, drop, Option, Some, None, codes}
use Rattle.std.specs.List.{before_first, after_first}
use Rattle.std.specs.Str.{bytes_eq}
use Rattle.pun_base.specs.declared.action.Action.{Action}
use Rattle.pun_base.specs.declared.action.Action.TheVariants.{Cover, Count, Ring, When}
use Rattle.pun_base.specs.declared.action.Base.{Base}
use Rattle.pun_base.specs.declared.action.Base.TheVariants as base
use Rattle.pun_base.specs.declared.action.CompareOp.{CompareOp}
use Rattle.pun_base.specs.declared.action.CompareOp.TheVariants.{Eq, Ne, Lt, Le, Gt, Ge}
use Rattle.pun_base.specs.declared.action.Comparison.{Comparison}
use Rattle.pun_base.specs.declared.action.Comparisons.{Comparisons}
use Rattle.pun_base.specs.declared.action.Comparisons.TheVariants.{One, Two, Three}
use Rattle.list_text.specs.Blanks.{word, later_words}
use Rattle.list_text.specs.Digits.{below, number_in, hex_number}
use Rattle.list_text.specs.ActionWords.{action_word, register_names}

-- ---- actions

-- A second step, where the first gave a value.
infixl 10 ◌>>=◌
abbrev pub ◌>>=◌ : {A B : Type 0} → Option A → (A → Option B) → Option B
None >>= f = None
(Some x) >>= f = f x

-- The place of a name among names that are counted from n.
abbrev pub place_of : ℕ → List (List ℕ) → List ℕ → Option ℕ
place_of n [] name = None
place_of n (x ∷ xs) name = if bytes_eq x name then Some n else place_of (n + 1) xs name

unfoldable pub register_of : List ℕ → Option ℕ
register_of name = place_of 0 register_names name

unfoldable pub op_of : List ℕ → Option CompareOp
op_of name =
    if bytes_eq name (codes "==") then Some Eq
    else (if bytes_eq name (codes "!=") then Some Ne
    else (if bytes_eq name (codes "<") then Some Lt
    else (if bytes_eq name (codes "<=") then Some Le
    else (if bytes_eq name (codes ">") then Some Gt
    else (if bytes_eq name (codes ">=") then Some Ge else None)))))

-- The comparison that the first three words tell, and what stands behind them.
unfoldable pub comparison_at : List ℕ → Option (Comparison × List ℕ)
comparison_at text = do
  reg ← register_of (word text)
  op ← op_of (word (later_words text))
  value ← below (2 ^ 31) (number_in 10 (word (later_words (later_words text))))
  Some (record { reg = reg; op = op; value = value }, later_words (later_words (later_words text)))

-- One to three comparisons, with a word between any two.
unfoldable pub comparisons_in : List ℕ → Option Comparisons
comparisons_in text = do
  first ← comparison_at text
  if length first.1 == 0 then Some (One first.0) else do
    second ← comparison_at (later_words first.1)
    if length second.1 == 0 then Some (Two first.0 second.0) else do
      third ← comparison_at (later_words second.1)
      Some (Three first.0 second.0 third.0)

-- What a word names: cover or count.
abbrev pub base_of : List ℕ → Option Base
base_of name =
    if bytes_eq name (codes "cover") then Some base.Cover
    else (if bytes_eq name (codes "count") then Some base.Count else None)

-- The action that does so at each event.
abbrev pub always : Base → Action
always base.Cover = Cover
always base.Count = Count

-- What is always done, or where the comparisons behind the second word hold.
unfoldable pub based_in : List ℕ → Option Action
based_in text = do
  b ← base_of (word text)
  if length (later_words text) == 0 then Some (always b) else do
    list ← comparisons_in (later_words (later_words text))
    Some (When b list)

-- A ring has a slot, and 65,536 of them at most.
unfoldable pub ring_in : List ℕ → Option Action
ring_in digits = do
  len ← below 65537 (number_in 10 digits)
  if len == 0 then None else Some (Ring len)

unfoldable pub action_in : List ℕ → Option Action
action_in text = if bytes_eq (take 5 text) (codes "ring:") then ring_in (drop 5 text) else based_in text

-- An action counts where the text is its word.
abbrev pub spelled : List ℕ → Option Action → Option Action
spelled text None = None
spelled text (Some a) = if bytes_eq (action_word a) text then Some a else None

-- The action that a word names.
abbrev pub action_of : List ℕ → Option Action
action_of text = spelled text (action_in text)

-- ---- ranges and counts

-- The byte is a hyphen.
abbrev pub is_hyphen : ℕ → Bool
is_hyphen c = c == 45

-- Two ends, where they are in order and not too high.
abbrev pub ordered : Option ℕ → Option ℕ → Option (ℕ × ℕ)
ordered None hi = None
ordered (Some lo) None = None
ordered (Some lo) (Some hi) = if nat_lt lo hi && nat_le hi 0x80000000 then Some (lo, hi) else None

-- LO-HI. Where there is no hyphen, nothing stands behind it, which is no number.
abbrev pub range_of : List ℕ → Option (ℕ × ℕ)
range_of word = ordered (hex_number (before_first is_hyphen word)) (hex_number (after_first is_hyphen word))

-- A decimal number of at most `most`, with no zero before its other digits.
abbrev pub count_of : ℕ → List ℕ → Option ℕ
count_of most [] = None
count_of most (c ∷ []) = below (most + 1) (number_in 10 (c ∷ []))
count_of most (c ∷ d ∷ cs) = if c == 48 then None else below (most + 1) (number_in 10 (c ∷ d ∷ cs))
