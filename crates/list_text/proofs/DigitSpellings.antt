-- What digits spell, step by step.
use Rattle.std.proofs.Common.{◌≡◌, ℕ, suc, ◌+◌, ◌*◌, ◌^◌, ◌<◌, ◌≤◌, List, [], ◌∷◌, length, get_or, drop, Option, Some, None, refl, sym, ap, subst, ◌∙◌, arith, add-one, lit<, drop-cons, option_map, Bool, true, false, cond}
use Rattle.std.specs.Prelude.{nat_le, ◌&&◌, option_and_then}
use Rattle.std.specs.Char.{digit_value}
use Rattle.std.specs.Option.{SomeIff}
use Rattle.std.proofs.Math.Nat.{pow-zero, pow-le-pow_right, mul-le-mul_right}
use Rattle.std.proofs.lemmas.Bool.Decides.{nat_tests}
use Rattle.std.proofs.lemmas.Grind.{pow_more}
use Rattle.std.proofs.lemmas.Option.{option_and_then_some}
use Rattle.list_text.specs.Digits.{below, digit_in, number_behind, number_in, hex_number}
use Rattle.list_text.specs.PlainLines.{hex_value}

-- A digit's value is std's.
pub digit_is : (base c code : ℕ) (found : Option ℕ) → code ≡ c → base ≤ 16 → SomeIff found (digit_value code < base) (digit_value code) → found ≡ digit_in base c
digit_is base c code None is h f = rw (← is) (grind (arith, nat_tests))
digit_is base c code (Some d) is h f = rw (← is) (grind (arith, nat_tests))

-- A digit's value is below the base.
pub digit_small : (base c d : ℕ) → digit_in base c ≡ Some d → d < base
digit_small base c d h = grind (arith, nat_tests)

-- A number that is found where it is below the bound is the number below the bound.
pub below_is : (bound n : ℕ) (found : Option ℕ) → SomeIff found (n < bound) n → found ≡ below bound (Some n)
below_is bound n None f = grind (arith, nat_tests)
below_is bound n (Some m) f = grind (arith, nat_tests)

-- A number that isn't below the bound is none.
pub below_none : (bound n : ℕ) → bound ≤ n → below bound (Some n) ≡ None
below_none bound n h = grind (arith, nat_tests)

-- One digit more: the number so far times the base, and the digit's value, if that is below the bound.
pub added : (base n b value v product bound : ℕ) (o found : Option ℕ) → Some value ≡ o → b ≡ base → v ≡ value → product ≡ n * b → SomeIff found (product + v < bound) (product + v)
    → found ≡ below bound (option_map (λ x. base * n + x) o)
added base n b value v product bound o found digit eb ev ep f =
    let sum : product + v ≡ base * n + value = rw (ep, eb, ev) (omega arith) in
    rw (← digit) (rw (← sum) (below_is bound (product + v) found f))

grown : (base n value : ℕ) → 1 ≤ base → n ≤ base * n + value
grown base n value one = let e : 1 * n ≤ base * n = mul-le-mul_right n one in omega arith

-- A number that is too great stays so.
pub too_great : (base most n : ℕ) (cs : List ℕ) → 1 ≤ base → most < n → below (most + 1) (number_behind base n cs) ≡ None
too_great base most n [] one above = below_none (most + 1) n (omega arith)
too_great base most n (c ∷ cs) one above =
    elim (digit_in base c) as (λ o. below (most + 1) (option_and_then (λ value. number_behind base (base * n + value) cs) o) ≡ None) [
      | None ↦ refl
      | Some value ↦ too_great base most (base * n + value) cs one (let e : n ≤ base * n + value = grown base n value one in omega arith)
    ]

at_least : (bound n : ℕ) → below bound (Some n) ≡ None → bound ≤ n
at_least bound n h = grind (arith, nat_tests)

stopped_at : (base most bound n : ℕ) (cs : List ℕ) (o : Option ℕ) → 1 ≤ base → most < bound → below bound (option_map (λ value. base * n + value) o) ≡ None
    → below (most + 1) (option_and_then (λ value. number_behind base (base * n + value) cs) o) ≡ None
stopped_at base most bound n cs None one less h = refl
stopped_at base most bound n cs (Some value) one less h =
    too_great base most (base * n + value) cs one (let e : bound ≤ base * n + value = at_least bound (base * n + value) h in omega arith)

-- Where the next number is none, so is the whole.
pub stopped : (digits : List ℕ) (base most bound n i : ℕ) → i < length digits → 1 ≤ base → most < bound → number_in base digits ≡ number_behind base n (drop i digits)
    → below bound (option_map (λ value. base * n + value) (digit_in base (get_or digits i 0))) ≡ None → below (most + 1) (number_in base digits) ≡ None
stopped digits base most bound n i within one less so h =
    rw so (rw (drop-cons digits i 0) (stopped_at base most bound n (drop (suc i) digits) (digit_in base (get_or digits i 0)) one less h))

-- Numbers that are equal as options are equal.
pub some_is : (m n : ℕ) → Some m ≡ Some n → m ≡ n
some_is m n h = cc

room : (base n value m p : ℕ) → value < base → m < (base * n + value + 1) * p → m < (n + 1) * (p * base)
room base n value m p small h =
    let e : (base * n + value + 1) * p ≤ (base * n + base) * p = mul-le-mul_right p (omega arith) in
    omega arith

pow_next : (base k : ℕ) → base ^ k * base ≡ base ^ suc k
pow_next base k = sym (pow_more base k) ∙ ap (λ x. base ^ x) (add-one k)

-- A number that n and so many digits behind it spell is below n + 1 times that power of the base.
pub fits : (base n m : ℕ) (cs : List ℕ) → number_behind base n cs ≡ Some m → m < (n + 1) * base ^ length cs
fits base n m [] h = rw pow-zero (let e : n ≡ m = some_is n m h in omega arith)
fits base n m (c ∷ cs) h =
    subst (λ (p : ℕ). m < (n + 1) * p) (pow_next base (length cs)) (
    option_and_then_some (λ value. number_behind base (base * n + value) cs) (digit_in base c) m h
    (λ value digit rest. room base n value m (base ^ length cs) (digit_small base c value digit) (fits base (base * n + value) m cs rest))
    )

-- At most eight hexadecimal digits spell a number of 32 bits.
pub short : (digits : List ℕ) (m : ℕ) → length digits ≤ 8 → number_in 16 digits ≡ Some m → m < 4294967296
short digits m few h =
    let f : m < (0 + 1) * 16 ^ length digits = fits 16 0 m digits h in
    let p : 16 ^ length digits ≤ 16 ^ 8 = pow-le-pow_right (lit< tt) {j = 8} few in
    omega arith

none_below : (bound : ℕ) (o : Option ℕ) → ((m : ℕ) → o ≡ Some m → m < bound) → None ≡ below bound o → o ≡ None
none_below bound None f h = refl
none_below bound (Some n) f h = absurd (let l : n < bound = f n refl in let e : bound ≤ n = at_least bound n (sym h) in omega arith)

same_cond : (b : Bool) (o : Option ℕ) → o ≡ None → cond b o None ≡ None
same_cond true o h = h
same_cond false o h = refl

-- Where at most eight digits spell no number of 32 bits, they are no hexadecimal number.
pub hex_none : (digits : List ℕ) → length digits ≤ 8 → None ≡ below 4294967296 (number_in 16 digits) → hex_number digits ≡ None
hex_none digits few h =
    same_cond (nat_le 1 (length digits) && nat_le (length digits) 8) (number_in 16 digits) (none_below 4294967296 (number_in 16 digits) (λ m is. short digits m few is) h)

-- A number with one more digit after its own that is past 32 bits isn't below their bound.
pub past_hex : (n c m : ℕ) → m ≡ 16 * n + hex_value c → 4294967295 < m → below 4294967296 (option_map (λ value. 16 * n + value) (digit_in 16 c)) ≡ None
past_hex n c m e h = grind (arith, nat_tests)
