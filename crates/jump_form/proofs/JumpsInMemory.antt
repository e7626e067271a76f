-- Spelled jumps against what stands in memory.
use Rattle.std.proofs.Common.{◌≡◌, ℕ, ℤ, zero, suc, pos, ◌+◌, ◌/◌, ◌%◌, ◌^◌, ◌<◌, ◌≤◌, ◌+ℤ◌, ◌↔◌, List, ◌∷◌, ◌++◌, length, replicate, Option, Some, sym, ap, ◌∙◌, subst, arith, inl, inr, ◌⊎◌}
use Rattle.std.proofs.lemmas.Bool.{cases_lt}
use Rattle.std.proofs.lemmas.Int.{ints}
use Rattle.jump_form.specs.Jumps.{AreBytes, signed, IsDisplacement}
use Rattle.jump_form.specs.Standing.{Stands, JumpsStand, OneSpelling}
use Rattle.jump_form.proofs.ByteNumbers.{number, field-number, number_below, digits, digits_are_bytes, number-digits, same_bytes}
use Rattle.jump_form.proofs.TargetPlaces.{signed_low, signed_high}

same_signed : (n m : ℕ) → n < 2 ^ 32 → m < 2 ^ 32 → signed n ≡ signed m → n ≡ m
same_signed n m p q e = by_case (cases_lt n (2 ^ 31)) (cases_lt m (2 ^ 31))
  where
    by_case : (n < 2 ^ 31) ⊎ (2 ^ 31 ≤ n) → (m < 2 ^ 31) ⊎ (2 ^ 31 ≤ m) → n ≡ m
    by_case (inl a) (inl b) = omega (arith, ints, e, signed_low n a, signed_low m b)
    by_case (inl a) (inr b) = omega (arith, ints, e, signed_low n a, signed_high m b)
    by_case (inr a) (inl b) = omega (arith, ints, e, signed_high n a, signed_low m b)
    by_case (inr a) (inr b) = omega (arith, ints, e, signed_high n a, signed_high m b)

below_all : (bytes : List ℕ) → length bytes ≡ 4 → AreBytes bytes → number bytes < 2 ^ 32
below_all bytes four small = let P : ℕ → Type 0 = λ n. number bytes < 256 ^ n in subst P four (number_below bytes small)

-- The number whose bytes are a displacement.
number_of : (next : ℕ) (target : ℤ) (bytes : List ℕ) → IsDisplacement next target bytes → target ≡ pos next +ℤ signed (number bytes)
number_of next target bytes d = d.leads ∙ ap (λ n. pos next +ℤ signed n) (field-number bytes d.four)

-- One list of bytes is the displacement to a target, and one number.
same_number : (next : ℕ) (target : ℤ) (bytes : List ℕ) (n : ℕ) → IsDisplacement next target bytes → n < 2 ^ 32 → target ≡ pos next +ℤ signed n → number bytes ≡ n
same_number next target bytes n d fits e =
    same_signed (number bytes) n (below_all bytes d.four d.small) fits (omega (arith, ints, number_of next target bytes d, e))

same_displacement : (next : ℕ) (target : ℤ) (xs ys : List ℕ) → IsDisplacement next target xs → IsDisplacement next target ys → xs ≡ ys
same_displacement next target xs ys p q =
    same_bytes xs ys (p.four ∙ sym q.four) p.small q.small
    (same_number next target xs (number ys) p (below_all ys q.four q.small) (number_of next target ys q))

-- One list of bytes spells a jump.
pub one_spelling : OneSpelling
one_spelling at pads pad target xs ys p q =
    p.spelled ∙ ap (λ (ds : List ℕ). replicate pads pad ++ 0xE9 ∷ ds) (same_displacement (at + pads + 5) target p.displacement q.displacement p.leads q.leads) ∙ sym q.spelled

moved : (m : ℕ → Option ℕ) (a b : ℕ) (x : Option ℕ) → a ≡ b → m a ≡ x → m b ≡ x
moved m a b x e h = let P : ℕ → Type 0 = λ k. m k ≡ x in subst P e h

-- Pads, and then what comes after them.
padded : (m : ℕ → Option ℕ) (a n pad : ℕ) (rest : List ℕ) → Stands m a (replicate n pad ++ rest) ↔ (((k : ℕ) → k < n → m (a + k) ≡ Some pad) × Stands m (a + n) rest)
padded m a zero pad rest =
    let e : a ≡ a + zero = omega arith in
    let P : ℕ → Type 0 = λ k. Stands m k rest in
    (λ s. (λ k l. absurd (omega arith), subst P e s), λ p. subst P (sym e) p.1)
padded m a (suc n) pad rest =
    let step = padded m (a + 1) n pad rest in
    let e : a + 1 + n ≡ a + suc n = omega arith in
    let P : ℕ → Type 0 = λ k. Stands m k rest in (
      λ s. let p = step.0 s.1 in (later s.0 p.0, subst P e p.1),
      λ p. (moved m (a + zero) a (Some pad) (omega arith) (p.0 zero (omega arith)), step.1 (λ k l. moved m (a + suc k) (a + 1 + k) (Some pad) (omega arith) (p.0 (suc k) (omega arith)), subst P (sym e) p.1)),
    )
  where
    later : m a ≡ Some pad → ((k : ℕ) → k < n → m (a + 1 + k) ≡ Some pad) → (k : ℕ) → k < suc n → m (a + k) ≡ Some pad
    later h f zero l = moved m a (a + zero) (Some pad) (omega arith) h
    later h f (suc k) l = moved m (a + 1 + k) (a + suc k) (Some pad) (omega arith) (f k (omega arith))

moved_byte : (m : ℕ → Option ℕ) (a b x y : ℕ) → a ≡ b → x ≡ y → m a ≡ Some x → m b ≡ Some y
moved_byte m a b x y e f h = moved m a b (Some y) e (h ∙ ap (λ z. Some z) f)

-- The bytes of a number, by their places.
byte_at : (m : ℕ → Option ℕ) (a n : ℕ) → Stands m a (digits 4 n) → (k : ℕ) → k < 4 → m (a + k) ≡ Some (n / 256 ^ k % 256)
byte_at m a n s zero l = moved_byte m a (a + 0) (n % 256) (n / 1 % 256) (omega arith) (omega arith) s.0
byte_at m a n s (suc zero) l = s.1.0
byte_at m a n s (suc (suc zero)) l = moved_byte m (a + 1 + 1) (a + 2) (n / 256 / 256 % 256) (n / 65536 % 256) (omega arith) (omega arith) s.1.1.0
byte_at m a n s (suc (suc (suc zero))) l = moved_byte m (a + 1 + 1 + 1) (a + 3) (n / 256 / 256 / 256 % 256) (n / 16777216 % 256) (omega arith) (omega arith) s.1.1.1.0
byte_at m a n s (suc (suc (suc (suc k)))) l = absurd (omega arith)

at_bytes : (m : ℕ → Option ℕ) (a n : ℕ) → ((k : ℕ) → k < 4 → m (a + k) ≡ Some (n / 256 ^ k % 256)) → Stands m a (digits 4 n)
at_bytes m a n f =
    let third = moved_byte m (a + 2) (a + 1 + 1) (n / 65536 % 256) (n / 256 / 256 % 256) (omega arith) (omega arith) (f 2 (omega arith)) in
    let fourth = moved_byte m (a + 3) (a + 1 + 1 + 1) (n / 16777216 % 256) (n / 256 / 256 / 256 % 256) (omega arith) (omega arith) (f 3 (omega arith)) in
    (moved_byte m (a + 0) a (n / 1 % 256) (n % 256) (omega arith) (omega arith) (f 0 (omega arith)), (f 1 (omega arith), (third, (fourth, tt))))

-- A spelled jump stands at its address exactly where its bytes stand.
pub jumps_stand : JumpsStand
jumps_stand memory at pads pad target bytes jump = (
  λ s.
      let here : Stands memory at (replicate pads pad ++ 0xE9 ∷ ds) = subst (λ (bs : List ℕ). Stands memory at bs) jump.spelled s in
      let p = (padded memory at pads pad (0xE9 ∷ ds)).0 here in
      record {
        padded = p.0;
        opcode = p.1.0;
        displacement = number ds;
        fits = below;
        bytes = byte_at memory (at + pads + 1) (number ds) (subst (λ (bs : List ℕ). Stands memory (at + pads + 1) bs) (sym read) p.1.1);
        leads = number_of (at + pads + 5) target ds jump.leads;
      },
  λ j.
      let same : number ds ≡ j.displacement = same_number (at + pads + 5) target ds j.displacement jump.leads j.fits j.leads in
      let written : digits 4 j.displacement ≡ ds = ap (digits 4) (sym same) ∙ read in
      let after = subst (λ (bs : List ℕ). Stands memory (at + pads + 1) bs) written (at_bytes memory (at + pads + 1) j.displacement j.bytes) in
      subst (λ (bs : List ℕ). Stands memory at bs) (sym jump.spelled) ((padded memory at pads pad (0xE9 ∷ ds)).1 (j.padded, (j.opcode, after))),
)
  where
    ds : List ℕ
    ds = jump.displacement

    below : number jump.displacement < 2 ^ 32
    below = below_all jump.displacement jump.leads.four jump.leads.small

    read : digits 4 (number jump.displacement) ≡ jump.displacement
    read = same_bytes (digits 4 (number jump.displacement)) jump.displacement (sym jump.leads.four) (digits_are_bytes 4 (number jump.displacement)) jump.leads.small (number-digits 4 (number jump.displacement) below)
