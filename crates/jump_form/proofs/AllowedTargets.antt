-- The targets that fixed bytes allow.
use Rattle.std.proofs.Common.{◌≡◌, ℕ, ℤ, pos, negsuc, nat_abs, ◌-ℤ◌, ◌≤ℤ◌, ◌<ℤ◌, ◌↔◌, ◌+◌, ◌*◌, ◌^◌, ◌<◌, ◌+ℤ◌, zero, suc, List, [], ◌∷◌, ◌++◌, length, replicate, refl, sym, subst, ap, ◌∙◌, arith, length-append}
use Rattle.std.proofs.lemmas.Int.{ints}
use Rattle.std.proofs.lemmas.Nat.{pow-add}
use Rattle.pun_base.specs.Field.{field}
use Rattle.jump_form.specs.Jumps.{AreBytes, signed, IsDisplacement}
use Rattle.jump_form.specs.Windows.{IsAllowed, AllowedJumps, AllowedTargets, filler, lowest_displacement}
use Rattle.jump_form.proofs.ByteNumbers.{number, field-number, number-parts, number_below, digits, length-digits, digits_are_bytes, number-digits, bytes-append, bytes_front, bytes_back}
use Rattle.jump_form.proofs.TargetPlaces.{place, place_below, place_twice, length-filler, whole, signed_place}

all_bytes : (l f h : ℕ) → l + f + h ≡ 4 → 256 ^ l * 256 ^ f * 256 ^ h ≡ 2 ^ 32
all_bytes l f h e = ap (λ x. x * 256 ^ h) (sym (pow-add 256 l f)) ∙ sym (pow-add 256 (l + f) h) ∙ ap (λ x. 256 ^ x) e

parts_are_four : (low mid high : List ℕ) (free : ℕ) → length mid ≡ free → length low + free + length high ≡ 4 → length (low ++ (mid ++ high)) ≡ 4
parts_are_four low mid high free e four = omega (arith, length-append low (mid ++ high), length-append mid high)

field-parts : (low mid high : List ℕ) (free : ℕ) → length mid ≡ free → length low + free + length high ≡ 4
    → field 4 0 (low ++ (mid ++ high)) ≡ whole (number low) (256 ^ length low) (256 ^ free) (number high) (number mid)
field-parts low mid high free e four = field-number (low ++ (mid ++ high)) (parts_are_four low mid high free e four) ∙ number-parts low mid high free e

-- The allowed targets begin with the lowest, equally far apart, and are as many as the free bytes have values.
pub allowed_targets : AllowedTargets
allowed_targets next free low high target four low_small high_small = (there, back)
  where
    signed_at : (k : ℕ) (mid : List ℕ) → k < 256 ^ free → length mid ≡ free → number mid ≡ place free high k → signed (field 4 0 (low ++ (mid ++ high))) ≡ lowest_displacement low free high +ℤ pos (k * 256 ^ length low)
    signed_at k mid few e n =
        ap (λ x. signed x) (field-parts low mid high free e four ∙ ap (whole (number low) (256 ^ length low) (256 ^ free) (number high)) n)
        ∙ signed_place free high (number low) (256 ^ length low) k (number_below low low_small) (all_bytes (length low) free (length high) four) few
        ∙ ap (λ x. signed x +ℤ pos (k * 256 ^ length low)) (sym (field-parts low (filler free high) high free (length-filler free high) four))

    there : IsAllowed next low free high target → (k : ℕ) × (k < 256 ^ free) × (target ≡ (pos next +ℤ lowest_displacement low free high) +ℤ pos (k * 256 ^ length low))
    there (mid, e, leads) =
        let inside = number_below mid (bytes_front mid high (bytes_back low (mid ++ high) leads.small)) in
        let below : number mid < 256 ^ free = rw e at inside in
        let k = place free high (number mid) in
        let few = place_below free high (number mid) below in
        (k, few, omega (arith, ints, leads.leads, signed_at k mid few e (sym (place_twice free high (number mid) below))))

    back : ((k : ℕ) × (k < 256 ^ free) × (target ≡ (pos next +ℤ lowest_displacement low free high) +ℤ pos (k * 256 ^ length low))) → IsAllowed next low free high target
    back (k, few, e) =
        let mid = digits free (place free high k) in
        let long = length-digits free (place free high k) in (
          mid,
          long,
          record {
            four = parts_are_four low mid high free long four;
            small = bytes-append low (mid ++ high) low_small (bytes-append mid high (digits_are_bytes free (place free high k)) high_small);
            leads = omega (arith, ints, e, signed_at k mid few long (number-digits free (place free high k) (place_below free high k few)));
          },
        )

-- A number that isn't negative is its own magnitude.
pub pos-nat_abs : (z : ℤ) → pos 0 ≤ℤ z → pos (nat_abs z) ≡ z
pos-nat_abs (pos n) h = refl
pos-nat_abs (negsuc n) h = absurd (omega (arith, ints, h))

-- With no fixed low byte the targets are all from the lowest on.
pub window_of : (next own : ℕ) (fixed : List ℕ) (lo hi target : ℤ) → own + length fixed ≡ 4 → AreBytes fixed
    → lo ≡ pos next +ℤ lowest_displacement [] own fixed → hi ≡ lo +ℤ pos (256 ^ own)
    → IsAllowed next [] own fixed target ↔ ((lo ≤ℤ target) × (target <ℤ hi))
window_of next own fixed lo hi target four small low high =
    let spaced = allowed_targets next own [] fixed target (omega arith) tt small in (
      λ a. let p = spaced.0 a in between p.0 p.1 p.2,
      λ w. spaced.1 (nat_abs (target -ℤ lo), few w.0 w.1, omega (arith, ints, low, distance w.0)),
    )
  where
    between : (k : ℕ) → k < 256 ^ own → target ≡ (pos next +ℤ lowest_displacement [] own fixed) +ℤ pos (k * 1) → (lo ≤ℤ target) × (target <ℤ hi)
    between k few e =
        let at : target ≡ lo +ℤ pos (k * 1) = e ∙ ap (λ z. z +ℤ pos (k * 1)) (sym low) in
        (omega (arith, ints, at), omega (arith, ints, at, high))

    distance : lo ≤ℤ target → pos (nat_abs (target -ℤ lo)) ≡ target -ℤ lo
    distance h = pos-nat_abs (target -ℤ lo) (omega (arith, ints, h))

    few : lo ≤ℤ target → target <ℤ hi → nat_abs (target -ℤ lo) < 256 ^ own
    few h l = omega (arith, ints, distance h, l, high)

-- What comes after the pads and the opcode is one list.
same_rest : (n pad : ℕ) (xs ys : List ℕ) → replicate n pad ++ 0xE9 ∷ xs ≡ replicate n pad ++ 0xE9 ∷ ys → xs ≡ ys
same_rest zero pad xs ys e = cc
same_rest (suc n) pad xs ys e = same_rest n pad xs ys (cc)

-- A target is allowed exactly where some bytes in place of the free ones spell a jump to it.
pub allowed_jumps : AllowedJumps
allowed_jumps at pads pad free low high target few rex = (
  λ a. (a.0, a.1, record { few = few; rex = rex; displacement = low ++ (a.0 ++ high); spelled = refl; leads = a.2 }),
  λ j.
      let same : j.2.displacement ≡ low ++ (j.0 ++ high) = same_rest pads pad j.2.displacement (low ++ (j.0 ++ high)) (sym j.2.spelled) in
      (j.0, j.1, subst (λ (ds : List ℕ). IsDisplacement (at + pads + 5) target ds) same j.2.leads),
)
