-- The bytes that two jumps that meet have in common.
use Rattle.std.proofs.Common.{◌≡◌, ◌⊎◌, inl, inr, ℕ, zero, suc, ◌+◌, ◌-◌, ◌*◌, ◌/◌, ◌%◌, ◌^◌, ◌<◌, ◌≤◌, List, [], ◌∷◌, ◌++◌, length, take, drop, get_or, replicate, refl, sym, ap, ◌∙◌, arith, length-take, length-append}
use Rattle.std.proofs.Math.Nat.{pow-suc, mul_assoc, mul_comm, mul-add}
use Rattle.std.proofs.lemmas.Bool.{cases_lt}
use Rattle.std.proofs.lemmas.List.{length-replicate}
use Rattle.pun_base.specs.Field.{field}
use Rattle.insn_form.specs.Moved.{rel_bytes}
use Rattle.jump_form.specs.Jumps.{AreBytes}
use Rattle.jump_form.specs.Windows.{filler}
use Rattle.jump_form.proofs.ByteNumbers.{number, field-number, number-append, number-zeros, bytes-append}
use Rattle.start_list.specs.Forms.{low_displacement}
use Rattle.start_entries.specs.declared.entry.StartEntry.{StartEntry}
use Rattle.start_list.specs.TurnViews.{TurnView}
use Rattle.scheme_search.specs.declared.meeting.Meeting.{Meeting}
use Rattle.scheme_search.specs.Meetings.{low_bytes, shared_count, back_jump, high_bytes, IsMeeting, EndsBehind}

-- There are n low bytes.
pub length-low_bytes : (n x : ℕ) → length (low_bytes n x) ≡ n
length-low_bytes zero x = refl
length-low_bytes (suc n) x = omega (arith, length-low_bytes n (x / 256))

-- The low bytes of a number are bytes.
low_are_bytes : (n x : ℕ) → AreBytes (low_bytes n x)
low_are_bytes zero x = tt
low_are_bytes (suc n) x = (omega arith, low_are_bytes n (x / 256))

-- Equal bytes are bytes.
replicate_bytes : (n b : ℕ) → b < 256 → AreBytes (replicate n b)
replicate_bytes zero b h = tt
replicate_bytes (suc n) b h = (h, replicate_bytes n b h)

-- The first of bytes are bytes.
take_bytes : (n : ℕ) (xs : List ℕ) → AreBytes xs → AreBytes (take n xs)
take_bytes zero xs h = tt
take_bytes (suc n) [] h = tt
take_bytes (suc n) (x ∷ xs) h = (h.0, take_bytes n xs h.1)

-- The first low bytes of a list that begins with them.
take_low : (n x : ℕ) (xs : List ℕ) → take n (low_bytes n x ++ xs) ≡ low_bytes n x
take_low zero x xs = refl
take_low (suc n) x xs = ap (λ (ys : List ℕ). (x % 256) ∷ ys) (take_low n (x / 256) xs)

-- A front that ends in the pads and the opcode knows nothing of the rest.
short_take : (q pad n : ℕ) (xs ys : List ℕ) → n ≤ q + 1 → take n (replicate q pad ++ 0xE9 ∷ xs) ≡ take n (replicate q pad ++ 0xE9 ∷ ys)
short_take q pad zero xs ys l = refl
short_take zero pad (suc zero) xs ys l = refl
short_take zero pad (suc (suc n)) xs ys l = absurd (omega arith)
short_take (suc q) pad (suc n) xs ys l = ap (λ (zs : List ℕ). pad ∷ zs) (short_take q pad n xs ys (omega arith))

-- A longer front goes on after the opcode.
long_take : (q pad n : ℕ) (xs : List ℕ) → q + 1 ≤ n → take n (replicate q pad ++ 0xE9 ∷ xs) ≡ (replicate q pad ++ 0xE9 ∷ []) ++ take
    (n - (q + 1)) xs
long_take q pad zero xs l = absurd (omega arith)
long_take zero pad (suc n) xs l = let e : n ≡ suc n - (0 + 1) = omega arith in ap (λ k. 0xE9 ∷ take k xs) e
long_take (suc q) pad (suc n) xs l =
    let e : n - (q + 1) ≡ suc n - (suc q + 1) = omega arith in
    ap (λ (zs : List ℕ). pad ∷ zs) (long_take q pad n xs (omega arith)) ∙ ap (λ k. (replicate (suc q) pad ++ 0xE9 ∷ []) ++ take k xs) e

-- A displacement begins with its low bytes.
pub low_split : (s next u : ℕ) → s ≤ 2 → rel_bytes next u ≡ low_bytes s (low_displacement s next u) ++ drop s (rel_bytes next u)
low_split zero next u l = refl
low_split (suc zero) next u l =
    let e : get_or (rel_bytes next u) 0 0 ≡ low_displacement 1 next u % 256 = omega arith in
    ap (λ b. b ∷ drop 1 (rel_bytes next u)) e
low_split (suc (suc zero)) next u l =
    let e : get_or (rel_bytes next u) 0 0 ≡ low_displacement 2 next u % 256 = omega arith in
    let f : get_or (rel_bytes next u) 1 0 ≡ low_displacement 2 next u / 256 % 256 = omega arith in
    λ i. e i ∷ f i ∷ drop 2 (rel_bytes next u)
low_split (suc (suc (suc s))) next u l = absurd (omega arith)

module _ (m : Meeting) (g : IsMeeting m) where
  -- How many bytes after the opcode the front jump needs.
  abbrev rest : ℕ
  rest = 4 - m.own - (m.pads + 1)

  -- How many displacement bytes are shared.
  abbrev n : ℕ
  n = shared_count m

  module _ (x u : ℕ) (behind : drop m.back_own (rel_bytes m.back_next u) ≡ m.fixed)
      (e : x ≡ low_displacement (shared_count m) m.back_next u) where
    -- The back jump's displacement bytes.
    abbrev rel : List ℕ
    rel = rel_bytes m.back_next u

    -- The back jump's displacement bytes are the shared value's and others.
    split : rel ≡ low_bytes n x ++ drop n rel
    split = low_split n m.back_next u g.few ∙ ap (λ y. low_bytes n y ++ drop n rel) (sym e)

    -- As far as the front jump needs them, they are the shared value's and what stands after.
    by_shared : (m.back_own < rest) ⊎ (rest ≤ m.back_own) → take rest rel ≡ take rest (low_bytes n x ++ m.fixed)
    by_shared (inl l) =
        let q : n ≡ m.back_own = omega arith in
        ap (λ (xs : List ℕ). take rest xs) (split ∙ ap (λ (xs : List ℕ). low_bytes n x ++ xs) (ap (λ k. drop k rel) q ∙ behind))
    by_shared (inr l) =
        let q : rest ≡ n = omega arith in
        ap (λ (xs : List ℕ). take rest xs) split ∙ ap (λ k. take k (low_bytes n x ++ drop n rel)) q ∙ take_low n x (drop n rel)
        ∙ sym (ap (λ k. take k (low_bytes n x ++ m.fixed)) q ∙ take_low n x m.fixed)

    -- The back jump's first bytes are the front jump's high ones for the shared value.
    by_length : (4 - m.own < m.pads + 1) ⊎ (m.pads + 1 ≤ 4 - m.own) → take (4 - m.own) (back_jump m rel) ≡ high_bytes m x
    by_length (inl l) = short_take m.pads m.pad (4 - m.own) rel (low_bytes n x ++ m.fixed) (omega arith)
    by_length (inr l) =
        long_take m.pads m.pad (4 - m.own) rel l
        ∙ ap (λ (xs : List ℕ). (replicate m.pads m.pad ++ 0xE9 ∷ []) ++ xs) (by_shared (cases_lt m.back_own rest))
        ∙ sym (long_take m.pads m.pad (4 - m.own) (low_bytes n x ++ m.fixed) l)

    -- The front jump's high bytes are the back jump's first.
    pub same_high : take (4 - m.own) (back_jump m (rel_bytes m.back_next u)) ≡ high_bytes m x
    same_high = by_length (cases_lt (4 - m.own) (m.pads + 1))

  -- The back jump has bytes.
  whole_bytes : (x : ℕ) → AreBytes (back_jump m (low_bytes (shared_count m) x ++ m.fixed))
  whole_bytes x =
      bytes-append (replicate m.pads m.pad) (0xE9 ∷ (low_bytes (shared_count m) x ++ m.fixed)) (replicate_bytes m.pads m.pad g.pad)
      (omega arith, bytes-append (low_bytes (shared_count m) x) m.fixed (low_are_bytes (shared_count m) x) g.small)

  -- The front jump's high bytes are bytes.
  pub high_are_bytes : (x : ℕ) → AreBytes (high_bytes m x)
  high_are_bytes x = take_bytes (4 - m.own) (back_jump m (low_bytes (shared_count m) x ++ m.fixed)) (whole_bytes x)

  -- With its own bytes they are four.
  pub length-high_bytes : (x : ℕ) → m.own + length (high_bytes m x) ≡ 4
  length-high_bytes x =
      let low = low_bytes (shared_count m) x in
      omega (
        arith,
        g.own,
        g.fixed,
        length-take (4 - m.own) (back_jump m (low ++ m.fixed)),
        length-append (replicate m.pads m.pad)
            (0xE9 ∷ (low ++ m.fixed)),
        length-replicate {A = ℕ} m.pads m.pad,
        length-append low m.fixed,
        length-low_bytes (shared_count m) x,
      )

-- The number of a front that begins with low bytes.
number-low : (s h x : ℕ) (xs : List ℕ) → s ≤ h → x < 256 ^ s → number (take h (low_bytes s x ++ xs)) ≡ x + 256 ^ s * number
    (take (h - s) xs)
number-low zero h x xs l b =
    let e : h ≡ h - 0 = omega arith in
    ap (λ k. number (take k xs)) e ∙ (let q : number (take (h - 0) xs) ≡ x + 1 * number (take (h - 0) xs) = omega arith in q)
number-low (suc s) zero x xs l b = absurd (omega arith)
number-low (suc s) (suc h) x xs l b =
    let e = pow-suc 256 s in
    let b' = rw e at b in
    let n = number-low s h (x / 256) xs (omega arith) (omega arith) in
    let p = ap (λ k. k * number (take (h - s) xs)) (e ∙ mul_comm (256 ^ s) 256) ∙ mul_assoc 256 (256 ^ s) (number (take (h - s) xs)) in
    let w : suc h - suc s ≡ h - s = omega arith in
    let q = ap (λ k. 256 ^ suc s * number (take k xs)) w in
    omega (arith, n, p, q)

module _ (m : Meeting) (g : IsMeeting m) (some : 1 ≤ shared_count m) where
  -- The pads and the opcode.
  abbrev front : List ℕ
  front = replicate m.pads m.pad ++ 0xE9 ∷ []

  -- The number of what stands after the shared bytes.
  abbrev more : ℕ
  more = number (take (4 - m.own - (m.pads + 1) - shared_count m) m.fixed)

  -- The number of the front jump's high bytes, by the shared value.
  number-high : (x : ℕ) → x < 256 ^ shared_count m → number (high_bytes m x) ≡ number front + 256 ^ (m.pads + 1) *
      (x + 256 ^ shared_count m * more)
  number-high x b =
      let h = 4 - m.own - (m.pads + 1) in
      let low = low_bytes (shared_count m) x ++ m.fixed in
      let long : length front ≡ m.pads + 1 = omega (
        arith,
        length-append (replicate m.pads m.pad) (0xE9 ∷ []),
        length-replicate {A =
            ℕ} m.pads m.pad,
      ) in
      ap number (long_take m.pads m.pad (4 - m.own) low (omega arith)) ∙ number-append front (take h low)
      ∙ ap (λ k. number front + 256 ^ k * number (take h low)) long
      ∙ ap (λ k. number front + 256 ^ (m.pads + 1) * k) (number-low (shared_count m) h x m.fixed (omega arith) b)

  -- A power of 256 isn't zero.
  power_some : (k : ℕ) → 0 < 256 ^ k
  power_some zero = omega arith
  power_some (suc k) = omega (arith, power_some k, pow-suc 256 k)

  -- The number of the high bytes grows evenly with the shared value.
  pub number-next : (x : ℕ) → x < 256 ^ shared_count m → number (high_bytes m x) ≡ number (high_bytes m 0) + 256 ^ (m.pads + 1) * x
  number-next x b =
      let p = 256 ^ (m.pads + 1) in
      let r = 256 ^ shared_count m * more in
      omega (arith, number-high x b, number-high 0 (power_some (shared_count m)), mul-add p x r, mul-add p 0 r)

-- The lowest displacement's number is that of its high bytes, with zeros below them.
pub lowest_number : (own : ℕ) (high : List ℕ) → own < 4 → own + length high ≡ 4
    → field 4 0 ([] ++ (filler own high ++ high)) ≡ 256 ^ own * number high
lowest_number own [] l e = absurd (omega arith)
lowest_number zero (b ∷ bs) l e = field-number (b ∷ bs) (omega arith) ∙ (let q : number (b ∷ bs) ≡ 1 * number (b ∷ bs) = omega arith in q)
lowest_number (suc n) (b ∷ bs) l e =
    let zeros = replicate (suc n) 0 in
    let long : length zeros ≡ suc n = length-replicate {A = ℕ} (suc n) 0 in
    let all : length (zeros ++ b ∷ bs) ≡ 4 = omega (arith, length-append zeros (b ∷ bs), long) in
    let p = ap (λ k. 256 ^ k * number (b ∷ bs)) long in
    field-number (zeros ++ b ∷ bs) all ∙ omega (arith, number-append zeros (b ∷ bs), number-zeros (suc n), p)

-- Four free bytes begin with the lowest number of all.
pub lowest_top : field 4 0 ([] ++ (filler 4 [] ++ [])) ≡ 2 ^ 31
lowest_top = refl

-- Two jumps meet where the back one ends after an instruction that ends below 0x7fff0000, and the front one's numbers are in bounds.
pub meeting_ends : (v : TurnView) (e : StartEntry) (k : ℕ) (m : Meeting) → EndsBehind v e k m → k < e.len → e.addr + e.len ≤ 0x7fff0000
    → (5 ≤ m.front_next) × (m.front_next < 2 ^ 31) → m.own ≤ 4 → m.pads ≤ 4 → m.pad < 256 → shared_count m ≤ 2 → IsMeeting m
meeting_ends v e k m is inside low front own pads pad few =
    let b = is.back in
    let o = is.back_own in
    record {
      front = front;
      back = (omega arith, omega arith);
      own = own;
      pads = pads;
      pad = pad;
      back_own = omega arith;
      fixed = is.long;
      small = is.small;
      few = few;
    }
