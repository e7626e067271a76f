-- The word of an action that can be asked for is read as that action, and no other word names it.
use Rattle.std.proofs.Common.{◌≡◌, ℕ, ◌^◌, ◌<◌, ◌≤◌, Bool, true, false, cond, List, [], ◌∷◌, ◌++◌, length, Option, Some, None, refl, ap, sym, subst, ◌∙◌, arith, append_assoc}
use Rattle.std.specs.Prelude.{◌==◌, codes}
use Rattle.std.specs.Str.{bytes_eq}
use Rattle.std.specs.Fmt.{decimal}
use Rattle.std.proofs.lemmas.Bool.Decides.{nat_tests}
use Rattle.std.proofs.lemmas.Option.{cond_some, same_Some}
use Rattle.std.proofs.lemmas.Slice.Eq.{bytes_eq-Decides}
use Rattle.pun_base.specs.Actions.{AreComparisons, IsAction, listed}
use Rattle.pun_base.specs.declared.action.Action.{Action}
use Rattle.pun_base.specs.declared.action.Action.TheVariants.{Cover, Count, Ring, When}
use Rattle.pun_base.specs.declared.action.Base.{Base}
use Rattle.pun_base.specs.declared.action.Base.TheVariants as base
use Rattle.pun_base.specs.declared.action.Comparison.{Comparison}
use Rattle.pun_base.specs.declared.action.Comparisons.{Comparisons}
use Rattle.pun_base.specs.declared.action.Comparisons.TheVariants.{One, Two, Three}
use Rattle.pun_base.proofs.HeldFiles.{bytes_eq-same}
use Rattle.list_text.specs.Blanks.{word, later_words}
use Rattle.list_text.specs.Digits.{below, number_in}
use Rattle.list_text.specs.ActionWords.{action_word, comparison_text, condition_text, op_name, register_name, register_names}
use Rattle.list_text.specs.Words.{◌>>=◌, action_in, action_of, always, base_of, based_in, comparison_at, comparisons_in, op_of, register_of, ring_in, spelled}
use Rattle.list_text.specs.Laws.{ActionsAreSpelled}
use Rattle.list_text.proofs.ActionNames.{op_read, op_word, place_within, register_read, register_word}
use Rattle.list_text.proofs.WordParts.{behind_lone, behind_word, both, decimal_read, decimal_word, first_word, IsOneLine, lone_word, of_word, one_line, parted}

-- A comparison that can be asked for.
abbrev IsComparison : Comparison → Type 0
IsComparison c = (c.reg < 16) × (c.value < 2 ^ 31)

-- ---- what is spelled is read

within : (n bound : ℕ) → n < bound → below bound (Some n) ≡ Some n
within n bound h = grind (arith, nat_tests)

-- A number that a text begins with is read.
number_read : (bound n : ℕ) → n < bound → bound ≤ 2 ^ 31 → below bound (number_in 10 (decimal n)) ≡ Some n
number_read bound n h k = rw (decimal_read n (omega (arith, h, k))) (within n bound h)

-- A comparison is read where its number stands in front.
comparison_front : (c : Comparison) (text later : List ℕ) → IsComparison c → word text ≡ decimal c.value → later_words text ≡ later
    → comparison_at (register_name c.reg ++ 32 ∷ (op_name c.op ++ 32 ∷ text)) ≡ Some (c, later)
unfolding comparison_at
comparison_front c text later h w l =
    let tail : List ℕ = op_name c.op ++ 32 ∷ text in
    rw (
      first_word (register_name c.reg) tail (register_word c.reg h.0),
      behind_word (register_name c.reg) tail (register_word c.reg h.0),
      first_word (op_name c.op) text (op_word c.op),
      behind_word (op_name c.op) text (op_word c.op),
      w,
      l,
      register_read c.reg h.0,
      op_read c.op,
      number_read (2 ^ 31) c.value h.1 (omega arith),
    ) refl

small : (n : ℕ) → n < 2 ^ 31 → n < 2 ^ 32
small n h = omega (arith, h)

-- The last comparison is read.
comparison_last : (c : Comparison) → IsComparison c → comparison_at (comparison_text c) ≡ Some (c, [])
comparison_last c h =
    let w = decimal_word c.value (small c.value h.1) in
    comparison_front c (decimal c.value) [] h (lone_word (decimal c.value) w) (behind_lone (decimal c.value) w)

-- So is one with others behind it.
comparison_more : (c : Comparison) (rest : List ℕ) → IsComparison c → comparison_at (comparison_text c ++ 32 ∷ rest) ≡ Some (c, rest)
comparison_more c rest h =
    let w = decimal_word c.value (small c.value h.1) in
    let op : List ℕ = op_name c.op ++ 32 ∷ decimal c.value in
    let parts : comparison_text c ++ 32 ∷ rest ≡ register_name c.reg ++ 32 ∷ (op_name c.op ++ 32 ∷ (decimal c.value ++ 32 ∷ rest)) =
    append_assoc (register_name c.reg) (32 ∷ op) (32 ∷ rest)
    ∙ ap (λ (l : List ℕ). register_name c.reg ++ 32 ∷ l) (append_assoc (op_name c.op) (32 ∷ decimal c.value) (32 ∷ rest)) in
    ap comparison_at parts
    ∙ comparison_front c (decimal c.value ++ 32 ∷ rest) rest h (first_word (decimal c.value) rest w) (behind_word (decimal c.value) rest w)

some_left : (c : ℕ) (cs : List ℕ) → (length (c ∷ cs) == 0) ≡ false
some_left c cs = grind (arith, nat_tests)

-- The comparisons of a condition are read.
condition_read : (list : Comparisons) → AreComparisons (listed list) → comparisons_in (condition_text (listed list)) ≡ Some list
unfolding comparisons_in
condition_read (One a) h = rw (comparison_last a (h.0, h.1)) refl
condition_read (Two a b) h =
    let t : List ℕ = codes "and " ++ comparison_text b in
    rw (comparison_more a t (h.0, h.1), some_left 97 (codes "nd " ++ comparison_text b), comparison_last b (h.2.0, h.2.1)) refl
condition_read (Three a b c) h =
    let t : List ℕ = codes "and " ++ comparison_text c in
    let s : List ℕ = codes "and " ++ (comparison_text b ++ 32 ∷ t) in
    rw (
      comparison_more a s (h.0, h.1),
      some_left 97 (codes "nd " ++ (comparison_text b ++ 32 ∷ t)),
      comparison_more b t (h.2.0, h.2.1),
      some_left 97 (codes "nd " ++ comparison_text c),
      comparison_last c (h.2.2.0, h.2.2.1),
    ) refl

-- So is that of a ring's slots.
ring_read : (len : ℕ) → IsAction (Ring len) → ring_in (decimal len) ≡ Some (Ring len)
unfolding ring_in
ring_read len h =
    let some : 1 ≤ len = h.0 in
    let few : len ≤ 65536 = h.1 in
    let t : (len == 0) ≡ false = grind (arith, nat_tests) in
    rw (number_read 65537 len (omega (arith, few)) (omega arith), t) refl

-- The parts of an action's word tell that action.
parts_read : (a : Action) → IsAction a → action_in (action_word a) ≡ Some a
unfolding action_in based_in
parts_read Cover h = refl
parts_read Count h = refl
parts_read (Ring len) h = ring_read len h
parts_read (When base.Cover list) h = rw (some_left 119 (codes "hen " ++ condition_text (listed list)), condition_read list h) refl
parts_read (When base.Count list) h = rw (some_left 119 (codes "hen " ++ condition_text (listed list)), condition_read list h) refl

-- The word of an action is read as that action.
pub action_read : (a : Action) → IsAction a → action_of (action_word a) ≡ Some a
action_read a h = rw (parts_read a h, bytes_eq-same (action_word a)) refl

-- ---- what is read can be asked for

-- What is given is so.
abbrev Gives : {X : Type 0} → (X → Type 0) → Option X → Type 0
Gives {X} P o = (x : X) → o ≡ Some x → P x

gives_none : {X : Type 0} (P : X → Type 0) → Gives P None
gives_none P x e = absurd cc

gives_some : {X : Type 0} (P : X → Type 0) (y : X) → P y → Gives P (Some y)
gives_some P y h x e = subst P (same_Some y x e) h

gives_cond : {X : Type 0} (P : X → Type 0) (b : Bool) (o p : Option X) → Gives P o → Gives P p → Gives P (cond b o p)
gives_cond P true o p h k = h
gives_cond P false o p h k = k

gives_then : {X Y : Type 0} (P : Y → Type 0) (o : Option X) (f : X → Option Y) → ((x : X) → o ≡ Some x → Gives P (f x)) → Gives P (o >>= f)
gives_then P None f h y e = absurd cc
gives_then P (Some x) f h y e = h x refl y e

below_bound : (bound n : ℕ) (o : Option ℕ) → below bound o ≡ Some n → n < bound
below_bound bound n None e = absurd cc
below_bound bound n (Some m) e = grind (arith, nat_tests)

comparison_fits : (text : List ℕ) → Gives (λ (x : Comparison × List ℕ). IsComparison x.0) (comparison_at text)
unfolding comparison_at register_of
comparison_fits text =
    let P : Comparison × List ℕ → Type 0 = λ x. IsComparison x.0 in
    gives_then P (register_of (word text)) _ (λ reg h. gives_then P (op_of (word (later_words text))) _ (λ op k.
    gives_then P (below (2 ^ 31) (number_in 10 (word (later_words (later_words text))))) _ (λ value l.
    gives_some P (record { reg = reg; op = op; value = value }, later_words (later_words (later_words text)))
    (place_within 0 register_names (word text) reg h, below_bound (2 ^ 31) value (number_in 10 (word (later_words (later_words text)))) l))))

comparisons_fit : (text : List ℕ) → Gives (λ list. AreComparisons (listed list)) (comparisons_in text)
unfolding comparisons_in
comparisons_fit text =
    let P : Comparisons → Type 0 = λ list. AreComparisons (listed list) in
    gives_then P (comparison_at text) _ (λ a h. let p = comparison_fits text a h in
    gives_cond P (length a.1 == 0) _ _ (gives_some P (One a.0) (p.0, p.1, tt))
    (gives_then P (comparison_at (later_words a.1)) _ (λ b k. let q = comparison_fits (later_words a.1) b k in
    gives_cond P (length b.1 == 0) _ _ (gives_some P (Two a.0 b.0) (p.0, p.1, (q.0, q.1, tt)))
    (gives_then P (comparison_at (later_words b.1)) _ (λ c l. let r = comparison_fits (later_words b.1) c l in
    gives_some P (Three a.0 b.0 c.0) (p.0, p.1, (q.0, q.1, (r.0, r.1, tt))))))))

always_fits : (b : Base) → IsAction (always b)
always_fits base.Cover = tt
always_fits base.Count = tt

based_fits : (text : List ℕ) → Gives IsAction (based_in text)
unfolding based_in
based_fits text =
    gives_then IsAction (base_of (word text)) _ (λ b h.
    gives_cond IsAction (length (later_words text) == 0) _ _ (gives_some IsAction (always b) (always_fits b))
    (gives_then IsAction (comparisons_in (later_words (later_words text))) _ (λ list k.
    gives_some IsAction (When b list) (comparisons_fit (later_words (later_words text)) list k))))

ring_fits : (digits : List ℕ) → Gives IsAction (ring_in digits)
unfolding ring_in
ring_fits digits =
    gives_then IsAction (below 65537 (number_in 10 digits)) _ (λ len h. by len (below_bound 65537 len (number_in 10 digits) h) (len == 0) refl)
  where
    by : (len : ℕ) → len < 65537 → (b : Bool) → (len == 0) ≡ b → Gives IsAction (cond b None (Some (Ring len)))
    by len h true e = gives_none IsAction
    by len h false e = gives_some IsAction (Ring len) (grind (arith, nat_tests), omega (arith, h))

parts_fit : (text : List ℕ) → Gives IsAction (action_in text)
unfolding action_in
parts_fit text = gives_cond IsAction _ _ _ (ring_fits _) (based_fits text)

-- What counts is what the parts tell, and its word is the text.
spelled_is : (text : List ℕ) (o : Option Action) (a : Action) → spelled text o ≡ Some a → (o ≡ Some a) × (text ≡ action_word a)
spelled_is text None a e = absurd cc
spelled_is text (Some b) a e =
    let k = cond_some (bytes_eq (action_word b) text) b a e in
    let same : action_word b ≡ text = (bytes_eq-Decides (action_word b) text).0 k.0 in
    (ap Some k.1, sym same ∙ ap action_word k.1)

-- An action that a word names can be asked for, and the word is its own.
pub action_spelled : (text : List ℕ) (a : Action) → action_of text ≡ Some a → IsAction a × (text ≡ action_word a)
action_spelled text a e =
    let k = spelled_is text (action_in text) a e in
    (parts_fit text a k.0, k.1)

-- A word names an action exactly where that action can be asked for and the word is its word.
pub actions_are_spelled : ActionsAreSpelled
actions_are_spelled text a = (action_spelled text a, λ w. ap action_of w.1 ∙ action_read a w.0)

-- ---- a word stands on one line

comparison_line : (c : Comparison) → IsComparison c → IsOneLine (comparison_text c)
comparison_line c h =
    parted (register_name c.reg) (op_name c.op ++ (codes " " ++ decimal c.value)) (of_word (register_name c.reg) (register_word c.reg h.0))
    (parted (op_name c.op) (decimal c.value) (of_word (op_name c.op) (op_word c.op))
    (of_word (decimal c.value) (decimal_word c.value (small c.value h.1))))

joined : (xs ys : List ℕ) → IsOneLine xs → IsOneLine ys → IsOneLine (xs ++ (codes " and " ++ ys))
joined xs ys h k = both xs (codes " and " ++ ys) h (both (codes " and ") ys (one_line (codes " and ") refl) k)

condition_line : (cs : List Comparison) → AreComparisons cs → IsOneLine (condition_text cs)
condition_line [] h = tt
condition_line (c ∷ []) h = comparison_line c (h.0, h.1)
condition_line (c ∷ d ∷ cs) h =
    joined (comparison_text c) (condition_text (d ∷ cs)) (comparison_line c (h.0, h.1)) (condition_line (d ∷ cs) h.2)

-- No byte of an action's word is an LF.
pub action_line : (a : Action) → IsAction a → IsOneLine (action_word a)
action_line Cover h = one_line (codes "cover") refl
action_line Count h = one_line (codes "count") refl
action_line (Ring len) h =
    let few : len ≤ 65536 = h.1 in
    both (codes "ring:") (decimal len) (one_line (codes "ring:") refl) (of_word (decimal len) (decimal_word len (omega (arith, few))))
action_line (When base.Cover list) h =
    both (codes "cover when ") (condition_text (listed list)) (one_line (codes "cover when ") refl) (condition_line (listed list) h)
action_line (When base.Count list) h =
    both (codes "count when ") (condition_text (listed list)) (one_line (codes "count when ") refl) (condition_line (listed list) h)
