-- A text tells a list exactly where its lines are one.
use Rattle.std.proofs.Common.{◌≡◌, ℕ, suc, ◌+◌, ◌<◌, ◌≤◌, List, [], ◌∷◌, map, length, Option, Some, None, Result, Ok, Err, Bool, true, false, cond, refl, ap, arith, inl, inr}
use Rattle.std.specs.Prelude.{nat_lt, nat_le, ◌&&◌}
use Rattle.std.specs.List.{AllByRecursion}
use Rattle.std.proofs.lemmas.Bool.{cases_Bool, and_parts, leb-true, le-ltb}
use Rattle.std.proofs.lemmas.Bool.Decides.{nat_tests}
use Rattle.std.proofs.lemmas.List.Elements.{All-from_recursion}
use Rattle.list_text.specs.declared.refusal.ListError.{ListError}
use Rattle.list_text.specs.declared.refusal.ListError.TheVariants.{NotAscending, TooMany}
use Rattle.list_text.specs.Digits.{hex_number}
use Rattle.list_text.specs.Lines.{lines, line_number, digits_of}
use Rattle.list_text.specs.Lists.{judged, judged_line, judged_number, is_above, with_front, and_later}
use Rattle.list_text.specs.Laws.{IsList, ListsAreGrammar, NumbersAreSmall}
use Rattle.list_text.proofs.DigitSpellings.{short}
use Rattle.list_text.proofs.AscendingNumbers.{Ascends, increasing, ascends}

-- A line that is accepted: its number, within the limit and above the one before.
pub record IsNext (limit place : ℕ) (before number : Option ℕ) (n : ℕ) : Type 0 where
  pub within : place ≤ limit
  pub number_is : number ≡ Some n
  pub above : is_above before n ≡ true

-- Lines that are accepted one after the other, the first at a place and behind a number.
pub record IsRun (limit place : ℕ) (before : Option ℕ) (texts : List (List ℕ)) (numbers : List ℕ) : Type 0 where
  pub spelled : map line_number texts ≡ map Some numbers
  pub ascending : Ascends before numbers
  pub count : place + length numbers ≤ limit + 1

ok_is : (m n : ℕ) → ◌≡◌ {A = Result ℕ ListError} (Ok m) (Ok n) → m ≡ n
ok_is m n h = cc

above_is : (place n m : ℕ) (b : Bool) → ◌≡◌ {A = Result ℕ ListError} (cond b (Ok n) (Err (NotAscending place))) (Ok m) → (b ≡ true) × (n ≡ m)
above_is place n m true h = (refl, ok_is n m h)
above_is place n m false h = absurd cc

numbered : (place m : ℕ) (before number : Option ℕ) → judged_number place before number ≡ Ok m → (number ≡ Some m) × (is_above before m ≡ true)
numbered place m before None h = absurd cc
numbered place m before (Some n) h =
    let p = above_is place n m (is_above before n) h in (ap Some p.1, rw (← p.1) p.0)

-- A refusal is no number.
pub no_ok : (e : ListError) (n : ℕ) → ◌≡◌ {A = Result ℕ ListError} (Err e) (Ok n) → ⊥
no_ok e n h = cc

limited : (limit place n : ℕ) (other : Result ℕ ListError) → cond (nat_lt limit place) (Err (TooMany limit)) other ≡ Ok n → (place ≤ limit) × (other ≡ Ok n)
limited limit place n other h = elim (cases_Bool (nat_lt limit place)) [
  | inl over ↦ absurd (no_ok (TooMany limit) n (rw over at h))
  | inr under ↦ (grind (arith, nat_tests), rw under at h)
]

-- A line that is judged to be a number is accepted with that number.
pub next : (limit place n : ℕ) (before : Option ℕ) (line : List ℕ) → judged_line limit place before line ≡ Ok n → IsNext limit place before (line_number line) n
next limit place n before line h =
    let p = limited limit place n (judged_number place before (line_number line)) h in
    let q = numbered place n before (line_number line) p.1 in
    record { within = p.0; number_is = q.0; above = q.1 }

-- A line that is accepted is judged to be its number.
pub from_next : (limit place n : ℕ) (before : Option ℕ) (line : List ℕ) → IsNext limit place before (line_number line) n → judged_line limit place before line ≡ Ok n
from_next limit place n before line h = rw (le-ltb limit place h.within) (rw h.number_is (rw h.above refl))

cons_parts : {A : Type 0} (x y : A) (xs ys : List A) → x ∷ xs ≡ y ∷ ys → (x ≡ y) × (xs ≡ ys)
cons_parts x y xs ys h = (cc, cc)

-- A line that is accepted and a run behind it are a run.
pub run_more : (limit place n : ℕ) (before : Option ℕ) (text : List ℕ) (texts : List (List ℕ)) (ns : List ℕ) → IsNext limit place before (line_number text) n → IsRun limit (place + 1) (Some n) texts ns
    → IsRun limit place before (text ∷ texts) (n ∷ ns)
run_more limit place n before text texts ns first rest = record {
  spelled = let p = first.number_is in let q = rest.spelled in λ i. p i ∷ q i;
  ascending = (first.above, rest.ascending);
  count = let h : place + 1 + length ns ≤ limit + 1 = rest.count in omega arith;
}

-- The first line of a run is accepted.
pub run_first : (limit place n : ℕ) (before : Option ℕ) (text : List ℕ) (texts : List (List ℕ)) (ns : List ℕ) → IsRun limit place before (text ∷ texts) (n ∷ ns) → IsNext limit place before (line_number text) n
run_first limit place n before text texts ns run = record {
  within = let h : place + suc (length ns) ≤ limit + 1 = run.count in omega arith;
  number_is = (cons_parts (line_number text) (Some n) (map line_number texts) (map Some ns) run.spelled).0;
  above = run.ascending.0;
}

-- The lines behind it are a run.
pub run_rest : (limit place n : ℕ) (before : Option ℕ) (text : List ℕ) (texts : List (List ℕ)) (ns : List ℕ) → IsRun limit place before (text ∷ texts) (n ∷ ns) → IsRun limit (place + 1) (Some n) texts ns
run_rest limit place n before text texts ns run = record {
  spelled = (cons_parts (line_number text) (Some n) (map line_number texts) (map Some ns) run.spelled).1;
  ascending = run.ascending.1;
  count = let h : place + suc (length ns) ≤ limit + 1 = run.count in omega arith;
}

-- A list that begins with a number.
pub record Begins (first : Result ℕ ListError) (later : ℕ → Result (List ℕ) ListError) (numbers : List ℕ) : Type 0 where
  pub n : ℕ
  pub ns : List ℕ
  pub first_is : first ≡ Ok n
  pub later_is : later n ≡ Ok ns
  pub numbers_are : n ∷ ns ≡ numbers

list_is : (ns ms : List ℕ) → ◌≡◌ {A = Result (List ℕ) ListError} (Ok ns) (Ok ms) → ns ≡ ms
list_is ns ms h = cc

fronted : (n : ℕ) (r : Result (List ℕ) ListError) (numbers : List ℕ) → with_front n r ≡ Ok numbers → (ns : List ℕ) × (r ≡ Ok ns) × (n ∷ ns ≡ numbers)
fronted n (Ok ns) numbers h = (ns, refl, list_is (n ∷ ns) numbers h)
fronted n (Err e) numbers h = absurd cc

begins : (first : Result ℕ ListError) (later : ℕ → Result (List ℕ) ListError) (numbers : List ℕ) → and_later first later ≡ Ok numbers → Begins first later numbers
begins (Ok n) later numbers h =
    let p = fronted n (later n) numbers h in
    record { n = n; ns = p.0; first_is = refl; later_is = p.1; numbers_are = p.2 }
begins (Err e) later numbers h = absurd cc

-- Lines that are judged to be numbers are a run with these numbers.
pub run : (limit place : ℕ) (before : Option ℕ) (texts : List (List ℕ)) (numbers : List ℕ) → place ≤ limit + 1 → judged limit place before texts ≡ Ok numbers → IsRun limit place before texts numbers
run limit place before [] numbers room h =
    rw (← (list_is [] numbers h)) (record { spelled = refl; ascending = tt; count = omega arith })
run limit place before (text ∷ texts) numbers room h =
    let b = begins (judged_line limit place before text) (λ n. judged limit (place + 1) (Some n) texts) numbers h in
    let first = next limit place b.n before text b.first_is in
    rw (← b.numbers_are) (run_more limit place b.n before text texts b.ns first (run limit (place + 1) (Some b.n) texts b.ns (let w : place ≤ limit = first.within in omega arith) b.later_is))

-- The lines of a run are judged to be its numbers.
pub from_run : (limit place : ℕ) (before : Option ℕ) (texts : List (List ℕ)) (numbers : List ℕ) → IsRun limit place before texts numbers → judged limit place before texts ≡ Ok numbers
from_run limit place before [] [] h = refl
from_run limit place before [] (n ∷ ns) h = absurd (let e : [] ≡ Some n ∷ map Some ns = h.spelled in cc)
from_run limit place before (text ∷ texts) [] h = absurd (let e : line_number text ∷ map line_number texts ≡ [] = h.spelled in cc)
from_run limit place before (text ∷ texts) (n ∷ ns) h =
    rw (from_next limit place n before text (run_first limit place n before text texts ns h)) (
    rw (from_run limit (place + 1) (Some n) texts ns (run_rest limit place n before text texts ns h)) refl)

-- A run from the first place on, behind no number, is a list.
pub list_from_run : (limit : ℕ) (texts : List (List ℕ)) (numbers : List ℕ) → IsRun limit 1 None texts numbers → IsList limit texts numbers
list_from_run limit texts numbers h =
    record { spelled = h.spelled; ascending = increasing numbers h.ascending; count = let k : 1 + length numbers ≤ limit + 1 = h.count in omega arith }

-- A list is a run from the first place on, behind no number.
pub run_from_list : (limit : ℕ) (texts : List (List ℕ)) (numbers : List ℕ) → IsList limit texts numbers → IsRun limit 1 None texts numbers
run_from_list limit texts numbers h =
    record { spelled = h.spelled; ascending = ascends numbers h.ascending; count = let k : length numbers ≤ limit = h.count in omega arith }

-- A text tells a list exactly where its lines are one.
pub lists_are_grammar : ListsAreGrammar
lists_are_grammar limit text numbers = (
  λ h. list_from_run limit (lines text) numbers (run limit 1 None (lines text) numbers (omega arith) h),
  λ h. from_run limit 1 None (lines text) numbers (run_from_list limit (lines text) numbers h),
)

hex_small : (digits : List ℕ) (n : ℕ) → hex_number digits ≡ Some n → n < 4294967296
hex_small digits n h = elim (cases_Bool (nat_le 1 (length digits) && nat_le (length digits) 8)) [
  | inl fits ↦ short digits n (leb-true (length digits) 8 (and_parts (nat_le 1 (length digits)) (nat_le (length digits) 8) fits).1) (rw fits at h)
  | inr other ↦ absurd (let e : None ≡ Some n = rw other at h in cc)
]

all_small : (texts : List (List ℕ)) (numbers : List ℕ) → map line_number texts ≡ map Some numbers → AllByRecursion (λ n. n < 4294967296) numbers
all_small texts [] h = tt
all_small [] (n ∷ ns) h = absurd cc
all_small (text ∷ texts) (n ∷ ns) h =
    let p = cons_parts (line_number text) (Some n) (map line_number texts) (map Some ns) h in
    (hex_small (digits_of text) n p.0, all_small texts ns p.1)

-- Each number of a list has 32 bits.
pub numbers_are_small : NumbersAreSmall
numbers_are_small limit text numbers h =
    All-from_recursion (λ n. n < 4294967296) numbers (all_small (lines text) numbers (run limit 1 None (lines text) numbers (omega arith) h).spelled)
