-- The targets of two jumps that meet, by shared value.
use Rattle.std.proofs.Common.{◌≡◌, ◌⊎◌, ◌↔◌, inl, inr, ℕ, ℤ, zero, suc, pos, nat_abs, ◌+◌, ◌-◌, ◌*◌, ◌/◌, ◌%◌, ◌^◌, ◌<◌, ◌≤◌, ◌+ℤ◌, ◌-ℤ◌, ◌<ℤ◌, ◌≤ℤ◌, List, [], ◌∷◌, ◌++◌, length, drop, refl, sym, ap, ◌∙◌, subst, arith}
use Rattle.std.proofs.Math.Nat.{mul_assoc, mul_comm, mul-add}
use Rattle.std.proofs.lemmas.Bool.{cases_lt}
use Rattle.std.proofs.lemmas.Int.{ints}
use Rattle.std.proofs.lemmas.Nat.{pow-add}
use Rattle.pun_base.specs.Field.{field}
use Rattle.insn_form.specs.Moved.{rel_bytes}
use Rattle.jump_form.specs.Jumps.{signed}
use Rattle.jump_form.specs.Windows.{IsAllowed, filler, lowest_displacement}
use Rattle.jump_form.proofs.ByteNumbers.{number}
use Rattle.jump_form.proofs.TargetPlaces.{signed_low, signed_high}
use Rattle.jump_form.proofs.AllowedTargets.{window_of, pos-nat_abs}
use Rattle.address_space.specs.Fit.{Steps}
use Rattle.start_list.specs.Forms.{low_displacement}
use Rattle.scheme_search.specs.declared.meeting.Meeting.{Meeting}
use Rattle.scheme_search.specs.declared.shared.Way.{Way}
use Rattle.scheme_search.specs.Shared.{InWay}
use Rattle.scheme_search.specs.Meetings.{shared_count, high_bytes, IsMeeting, IsFrontWay, IsBackWay}
use Rattle.scheme_search.proofs.Displacements.{allowed_to, allowed_from}
use Rattle.scheme_search.proofs.MeetingBytes.{high_are_bytes, length-high_bytes, number-next, lowest_number, lowest_top}

-- A place that isn't below an address lies some way above it.
pub above_by : (z : ℤ) (t : ℕ) → z ≤ℤ pos t → (k : ℕ) × (pos t ≡ z +ℤ pos k)
above_by z t h = (nat_abs (pos t -ℤ z), omega (arith, ints, pos-nat_abs (pos t -ℤ z) (omega (arith, ints, h))))

-- A place some way above an address isn't below it.
pub above_at : (z : ℤ) (t k : ℕ) → pos t ≡ z +ℤ pos k → z ≤ℤ pos t
above_at z t k e = omega (arith, ints)

-- The lowest displacement's number.
abbrev whole : ℕ → List ℕ → ℕ
whole own high = field 4 0 ([] ++ (filler own high ++ high))

-- More is added to a displacement: it keeps its sign, or turns negative.
keeps_sign : (n k : ℕ) → (signed n <ℤ pos 0) ⊎ ((signed n +ℤ pos k) <ℤ pos (2 ^ 31)) → n < 2 ^ 32 → signed (n + k) ≡ signed n +ℤ pos k
keeps_sign n k (inl h) b = elim (cases_lt n (2 ^ 31)) [
  | inl l ↦ absurd (let e = signed_low n l in omega (arith, ints, h, e))
  | inr l ↦ (let e = signed_high n l in omega (arith, ints, e, signed_high (n + k) (omega arith)))
]
keeps_sign n k (inr h) b = elim (cases_lt n (2 ^ 31)) [
  | inl l ↦ (let e = signed_low n l in omega (arith, ints, e, signed_low (n + k) (omega (arith, ints, h, e))))
  | inr l ↦ (let e = signed_high n l in omega (arith, ints, e, signed_high (n + k) (omega arith)))
]

-- A displacement that grows past half a turn has become negative.
turns_sign : (n k : ℕ) → pos 0 ≤ℤ signed n → pos (2 ^ 31) ≤ℤ (signed n +ℤ pos k) → n < 2 ^ 32
    → signed (n + k) ≡ (signed n +ℤ pos k) -ℤ pos (2 ^ 32)
turns_sign n k p q b = elim (cases_lt n (2 ^ 31)) [
  | inl l ↦ (let e = signed_low n l in omega (arith, ints, e, signed_high (n + k) (omega (arith, ints, q, e))))
  | inr l ↦ absurd (let e = signed_high n l in omega (arith, ints, e, p))
]

module _ (m : Meeting) (g : IsMeeting m) (size : ℕ) (below : ℤ) (w : Way) (front : IsFrontWay m size below w) where
  -- The front jump's lowest displacement for a value.
  abbrev lowest : ℕ → ℤ
  lowest x = lowest_displacement [] m.own (high_bytes m x)

  -- The number of the lowest displacement of a value, by that of 0.
  next_number : (x : ℕ) → x < 256 ^ shared_count m → whole m.own (high_bytes m x) ≡ whole m.own (high_bytes m 0) + x * w.scale
  next_number x b = by_shared (cases_lt 0 (shared_count m))
    where
      none : x ≡ 0 → whole m.own (high_bytes m x) ≡ whole m.own (high_bytes m 0) + x * w.scale
      none e =
          let P : ℕ → Type 0 = λ y. whole m.own (high_bytes m y) ≡ whole m.own (high_bytes m 0) + y * w.scale in
          subst P (sym e) (omega arith)

      by_shared : (0 < shared_count m) ⊎ (shared_count m ≤ 0) → whole m.own (high_bytes m x) ≡ whole m.own (high_bytes m 0) + x * w.scale
      by_shared (inr l) =
          let z : shared_count m ≡ 0 = omega arith in
          let b' : x < 1 = subst (λ (k : ℕ). x < 256 ^ k) z b in
          none (omega arith)
      by_shared (inl l) =
          let own : m.own < 4 = omega arith in
          let n = lowest_number m.own (high_bytes m x) own (length-high_bytes m g x) in
          let z = lowest_number m.own (high_bytes m 0) own (length-high_bytes m g 0) in
          let p = ap (λ k. 256 ^ m.own * k) (number-next m g l x b) in
          let q = mul-add (256 ^ m.own) (number (high_bytes m 0)) (256 ^ (m.pads + 1) * x) in
          let r = mul_assoc (256 ^ m.own) (256 ^ (m.pads + 1)) x in
          let s : 256 ^ m.own * 256 ^ (m.pads + 1) ≡ 256 ^ (m.own + m.pads + 1) = sym (pow-add 256 m.own (m.pads + 1))
          ∙ (let a : m.own + (m.pads + 1) ≡ m.own + m.pads + 1 = omega arith in ap (λ k. 256 ^ k) a) in
          let t = ap (λ k. k * x) (s ∙ sym (front.scale l)) in
          omega (arith, n, z, p, q, r, t, mul_comm x w.scale)

  -- Where a way begins for a value.
  abbrev start : ℕ → ℤ
  start x = w.lo +ℤ pos (x * w.scale)

  -- A way begins for each value at the lowest target of its displacements, where these keep their sign.
  pub starts_kept : (x : ℕ) → x < 256 ^ shared_count m → below ≡ pos 0
      → (lowest 0 <ℤ pos 0) ⊎ ((lowest 0 +ℤ pos (x * w.scale)) <ℤ pos (2 ^ 31)) → whole m.own (high_bytes m 0) < 2 ^ 32
      → start x ≡ pos m.front_next +ℤ lowest x
  starts_kept x b z h small =
      let e = ap signed (next_number x b) ∙ keeps_sign (whole m.own (high_bytes m 0)) (x * w.scale) h small in
      omega (arith, ints, e, front.lo, z)

  -- Where the displacement has turned negative too, a way begins for each value at the lowest target of its displacements.
  pub starts_turned : (x : ℕ) → x < 256 ^ shared_count m → below ≡ pos (2 ^ 32) → pos 0 ≤ℤ lowest 0
      → pos (2 ^ 31) ≤ℤ (lowest 0 +ℤ pos (x * w.scale)) → whole m.own (high_bytes m 0) < 2 ^ 32
      → start x ≡ pos m.front_next +ℤ lowest x
  starts_turned x b z p q small =
      let e = ap signed (next_number x b) ∙ turns_sign (whole m.own (high_bytes m 0)) (x * w.scale) p q small in
      omega (arith, ints, e, front.lo, z)

  module _ (x : ℕ) (at : start x ≡ pos m.front_next +ℤ lowest x) (t : ℕ) (low : t < 2 ^ 31) where
    -- The high bytes for the value.
    abbrev high : List ℕ
    high = high_bytes m x

    -- The targets that they allow are one window.
    window : IsAllowed m.front_next [] m.own high (pos t) ↔ ((start x ≤ℤ pos t) × (pos t <ℤ (start x +ℤ pos (256 ^ m.own))))
    window = window_of m.front_next m.own high (start x) (start x +ℤ pos (256 ^ m.own)) (pos t) (length-high_bytes m g x)
        (high_are_bytes m g x) at refl

    -- The window of the targets for a value ends where the way's part does.
    end : (start x +ℤ pos (256 ^ m.own)) ≡ w.lo +ℤ pos (x * w.scale + w.width)
    end = let e = front.width in omega (arith, ints, e)

    -- The front jump's targets are those of the way.
    pub front_to : drop m.own (rel_bytes m.front_next t) ≡ high → InWay w x t
    front_to e =
        let q = window.0 (allowed_from m.front_next t m.own high g.own g.front.1 low e) in
        let k = above_by (start x) t q.0 in
        let one : k.0 ≡ k.0 * 1 = omega arith in (
          subst (λ (s : ℕ). Steps (start x) s t) (sym front.step) (k.0, k.1 ∙ ap (λ j. start x +ℤ pos j) one),
          subst (λ (z : ℤ). pos t <ℤ z) end q.1,
        )

    -- A target of the way has the high bytes.
    pub front_from : InWay w x t → drop m.own (rel_bytes m.front_next t) ≡ high
    front_from i =
        let q = window.1 (above_at (start x) t (i.0.0 * w.step) i.0.1, subst (λ (z : ℤ). pos t <ℤ z) (sym end) i.1) in
        allowed_to m.front_next t m.own high g.front.0 g.front.1 low q

-- The lowest displacement of the back jump is a multiple of what the shared bytes count.
lowest_multiple : (own s : ℕ) (fixed : List ℕ) → s ≤ own → own ≤ 4 → s ≤ 2 → own + length fixed ≡ 4
    → (c : ℕ) × (whole own fixed ≡ c * 256 ^ s)
lowest_multiple own s fixed l top few e = by_own (cases_lt own 4)
  where
    top_multiple : (j : ℕ) → j ≤ 2 → (c : ℕ) × (2 ^ 31 ≡ c * 256 ^ j)
    top_multiple zero h = (2 ^ 31, omega arith)
    top_multiple (suc zero) h = (2 ^ 23, omega arith)
    top_multiple (suc (suc zero)) h = (2 ^ 15, omega arith)
    top_multiple (suc (suc (suc j))) h = absurd (omega arith)

    empty : (xs : List ℕ) → length xs ≡ 0 → xs ≡ []
    empty [] h = refl
    empty (x ∷ xs) h = absurd (omega arith)

    by_own : (own < 4) ⊎ (4 ≤ own) → (c : ℕ) × (whole own fixed ≡ c * 256 ^ s)
    by_own (inl lt) =
        let h = 256 ^ (own - s) * number fixed in
        let a : own ≡ s + (own - s) = omega arith in
        let p = ap (λ k. 256 ^ k) a ∙ pow-add 256 s (own - s) in (
          h,
          lowest_number own fixed lt e ∙ ap (λ k. k * number fixed) p ∙ mul_assoc (256 ^ s) (256 ^ (own - s)) (number fixed)
              ∙ mul_comm (256 ^ s) h,
        )
    by_own (inr ge) =
        let four : own ≡ 4 = omega arith in
        let none : fixed ≡ [] = empty fixed (omega arith) in
        let top : whole own fixed ≡ 2 ^ 31 = ap (λ k. whole k fixed) four ∙ ap (λ (xs : List ℕ). whole 4 xs) none ∙ lowest_top in
        let c = top_multiple s few in
        (c.0, top ∙ c.1)

-- The low bytes of a displacement, by how far the target lies above the lowest one.
low_of : (s next t n c r : ℕ) → s ≤ 2 → next < 2 ^ 31 → n < 2 ^ 32 → n ≡ c * 256 ^ s → pos t ≡ (pos next +ℤ signed n) +ℤ pos r
    → low_displacement s next t ≡ r % 256 ^ s
low_of s next t n c r few small below e h = by_count s few e
  where
    turn : (t + 2 ^ 32 - next ≡ n + r + 2 ^ 32) ⊎ (t + 2 ^ 32 - next ≡ n + r)
    turn = elim (cases_lt n (2 ^ 31)) [
      | inl l ↦ inl (omega (arith, ints, h, signed_low n l))
      | inr l ↦ inr (omega (arith, ints, h, signed_high n l))
    ]

    by_count : (j : ℕ) → j ≤ 2 → n ≡ c * 256 ^ j → low_displacement j next t ≡ r % 256 ^ j
    by_count zero f q = omega arith
    by_count (suc zero) f q = elim turn [
      | inl k ↦ ap (λ y. y % 256) k ∙ omega arith
      | inr k ↦ ap (λ y. y % 256) k ∙ omega arith
    ]
    by_count (suc (suc zero)) f q = elim turn [
      | inl k ↦ ap (λ y. y % 65536) k ∙ omega arith
      | inr k ↦ ap (λ y. y % 65536) k ∙ omega arith
    ]
    by_count (suc (suc (suc j))) f q = absurd (omega arith)

-- Numbers with given low bytes lie a step apart.
comb_to : (s r x : ℕ) → s ≤ 2 → x ≡ r % 256 ^ s → (k : ℕ) × (r ≡ x + k * 256 ^ s)
comb_to zero r x few e = (r, omega arith)
comb_to (suc zero) r x few e = (r / 256, omega arith)
comb_to (suc (suc zero)) r x few e = (r / 65536, omega arith)
comb_to (suc (suc (suc s))) r x few e = absurd (omega arith)

-- Numbers some steps above a small one have it as their low bytes.
comb_from : (s r x k c : ℕ) → s ≤ 2 → x < 256 ^ s → r ≡ x + k * 256 ^ s → r < x + c * 256 ^ s → (x ≡ r % 256 ^ s) × (r < c * 256 ^ s)
comb_from zero r x k c few b e l = (omega arith, omega arith)
comb_from (suc zero) r x k c few b e l = (omega arith, omega arith)
comb_from (suc (suc zero)) r x k c few b e l = (omega arith, omega arith)
comb_from (suc (suc (suc s))) r x k c few b e l = absurd (omega arith)

module _ (m : Meeting) (g : IsMeeting m) (size : ℕ) (w : Way) (back : IsBackWay m size w) (small : whole m.back_own m.fixed < 2 ^ 32) where
  -- How many displacement bytes are shared.
  abbrev count : ℕ
  count = shared_count m

  -- The back jump's lowest target.
  abbrev lo : ℤ
  lo = pos m.back_next +ℤ lowest_displacement [] m.back_own m.fixed

  -- The number of its displacement has no shared bytes.
  multiple : (c : ℕ) × (whole m.back_own m.fixed ≡ c * 256 ^ count)
  multiple = lowest_multiple m.back_own count m.fixed (omega arith) g.back_own g.few (let e = g.fixed in let b = g.back_own in omega arith)

  -- The window is as many steps wide as other bytes have values.
  width_multiple : (c : ℕ) × (256 ^ m.back_own ≡ c * 256 ^ count)
  width_multiple =
      let a : m.back_own ≡ (m.back_own - count) + count = omega arith in
      (256 ^ (m.back_own - count), ap (λ k. 256 ^ k) a ∙ pow-add 256 (m.back_own - count) count)

  module _ (x t : ℕ) (low : t < 2 ^ 31) where
    -- The targets of the back jump are one window.
    window' : IsAllowed m.back_next [] m.back_own m.fixed (pos t) ↔ ((lo ≤ℤ pos t) × (pos t <ℤ (lo +ℤ pos (256 ^ m.back_own))))
    window' = window_of m.back_next m.back_own m.fixed lo (lo +ℤ pos (256 ^ m.back_own)) (pos t) (let e = g.fixed in let b = g.back_own in
        omega arith) g.small refl refl

    -- The values lie one apart.
    one : x * w.scale ≡ x
    one = ap (λ k. x * k) back.scale ∙ omega arith

    -- A part begins the value above the lowest target.
    begin : (w.lo +ℤ pos (x * w.scale)) ≡ lo +ℤ pos x
    begin = let e = back.lo in omega (arith, ints, e, one)

    -- A part ends the window's width above its begin.
    end' : (w.lo +ℤ pos (x * w.scale + w.width)) ≡ lo +ℤ pos (x + 256 ^ m.back_own)
    end' = let e = back.lo in let f = back.width in omega (arith, ints, e, f, one)

    -- The back jump's targets with the shared value x are those of the way.
    pub back_to : drop m.back_own (rel_bytes m.back_next t) ≡ m.fixed → x ≡ low_displacement count m.back_next t → InWay w x t
    back_to e shared =
        let q = window'.0 (allowed_from m.back_next t m.back_own m.fixed g.back_own g.back.1 low e) in
        let r = above_by lo t q.0 in
        let is = low_of count m.back_next t (whole m.back_own m.fixed) multiple.0 r.0 g.few g.back.1 small multiple.1 r.1 in
        let k = comb_to count r.0 x g.few (shared ∙ is) in
        let at : pos t ≡ (lo +ℤ pos x) +ℤ pos (k.0 * 256 ^ count) = omega (arith, ints, r.1, k.1) in
        let top : pos t <ℤ (lo +ℤ pos (x + 256 ^ m.back_own)) = omega (arith, ints, q.1) in (
          subst (λ (z : ℤ). Steps z w.step t) (sym begin) (subst (λ (s : ℕ). Steps (lo +ℤ pos x) s t) (sym back.step) (k.0, at)),
          subst (λ (z : ℤ). pos t <ℤ z) (sym end') top,
        )

    -- A target of the way has the fixed bytes and the shared value.
    pub back_from : x < 256 ^ count → InWay w x t → (drop m.back_own (rel_bytes m.back_next t) ≡ m.fixed)
        × (x ≡ low_displacement count m.back_next t)
    back_from b i =
        let steps = subst (λ (s : ℕ). Steps (lo +ℤ pos x) s t) back.step (subst (λ (z : ℤ). Steps z w.step t) begin i.0) in
        let top = subst (λ (z : ℤ). pos t <ℤ z) end' i.1 in
        let r = x + steps.0 * 256 ^ count in
        let at : pos t ≡ lo +ℤ pos r = omega (arith, ints, steps.1) in
        let wide : r < x + width_multiple.0 * 256 ^ count = omega (arith, ints, top, at, width_multiple.1) in
        let c = comb_from count r x steps.0 width_multiple.0 g.few b refl wide in
        let q = window'.1 (above_at lo t r at, omega (arith, ints, at, c.1, width_multiple.1)) in
        let is = low_of count m.back_next t (whole m.back_own m.fixed) multiple.0 r g.few g.back.1 small multiple.1 at in
        (allowed_to m.back_next t m.back_own m.fixed g.back.0 g.back.1 low q, c.0 ∙ sym is)
