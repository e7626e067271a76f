-- The places of two jumps that meet, by the ways of their targets.
use Rattle.std.proofs.Common.{◌≡◌, ◌⊎◌, ◌↔◌, inl, inr, ℕ, ℤ, zero, suc, pos, ◌+◌, ◌*◌, ◌^◌, ◌<◌, ◌≤◌, ◌+ℤ◌, ◌-ℤ◌, ◌<ℤ◌, ◌≤ℤ◌, List, [], ◌++◌, length, Option, Some, None, refl, sym, ap, ◌∙◌, subst, arith, length-append}
use Rattle.std.proofs.Math.Nat.{pow-suc, mul-le-mul_right}
use Rattle.std.proofs.lemmas.Bool.{cases_lt}
use Rattle.std.proofs.lemmas.Int.{ints}
use Rattle.std.proofs.lemmas.Nat.{pow-add}
use Rattle.pun_base.specs.Field.{field}
use Rattle.jump_form.specs.Jumps.{AreBytes, signed}
use Rattle.jump_form.specs.Windows.{IsAllowed, filler, lowest_displacement}
use Rattle.jump_form.proofs.ByteNumbers.{number, field-number, number_below, bytes-append}
use Rattle.jump_form.proofs.TargetPlaces.{signed_low, signed_high, filler_bytes, length-filler}
use Rattle.jump_form.proofs.AllowedTargets.{window_of}
use Rattle.address_space.specs.declared.extent.Extent.{Extent}
use Rattle.address_space.specs.Free.{IsFree}
use Rattle.start_list.specs.Forms.{low_displacement}
use Rattle.scheme_search.specs.declared.meeting.Meeting.{Meeting}
use Rattle.scheme_search.specs.declared.meeting.Ways.{Ways}
use Rattle.scheme_search.specs.declared.shared.Way.{Way}
use Rattle.scheme_search.specs.declared.shared.Pick.{Pick}
use Rattle.scheme_search.specs.Order.{IsFirstBy, FirstBy}
use Rattle.scheme_search.specs.Shared.{FitsWay, IsPick, IsPickIn, IsWay, pick_order}
use Rattle.scheme_search.specs.Meetings.{shared_count, high_bytes, IsMeeting, IsSized, IsFrontWay, IsBackWay, Meets, MeetsFront, MeetsBack, IsChosen, AreWays}
use Rattle.scheme_search.proofs.MeetingBytes.{same_high, high_are_bytes, length-high_bytes}
use Rattle.scheme_search.proofs.MeetingWays.{front_to, front_from, back_to, back_from}

-- The number of a lowest displacement has 32 bits.
pub whole_small : (own : ℕ) (high : List ℕ) → own + length high ≡ 4 → AreBytes high → field 4 0 ([] ++ (filler own high ++ high)) < 2 ^ 32
whole_small own high e small =
    let all = filler own high ++ high in
    let four : length all ≡ 4 = omega (arith, length-append (filler own high) high, length-filler own high) in
    let n = number_below all (bytes-append (filler own high) high (filler_bytes own high) small) in
    let b : number all < 256 ^ 4 = subst (λ (k : ℕ). number all < 256 ^ k) four n in
    omega (arith, field-number all four, b)

-- A number of 32 bits, with its sign, lies from -2^31 up to and without 2^31.
pub signed_bounds : (n : ℕ) → n < 2 ^ 32 → ((pos 0 -ℤ pos (2 ^ 31)) ≤ℤ signed n) × (signed n <ℤ pos (2 ^ 31))
signed_bounds n b = elim (cases_lt n (2 ^ 31)) [
  | inl l ↦ (let e = signed_low n l in (omega (arith, ints, e), omega (arith, ints, e)))
  | inr l ↦ (let e = signed_high n l in (omega (arith, ints, e), omega (arith, ints, e)))
]

-- A window begins at the lowest target that it allows.
pub window_low : (next own : ℕ) (fixed : List ℕ) (lo hi : ℤ) → own + length fixed ≡ 4 → AreBytes fixed
    → ((target : ℤ) → IsAllowed next [] own fixed target ↔ ((lo ≤ℤ target) × (target <ℤ hi)))
    → lo ≡ pos next +ℤ lowest_displacement [] own fixed
window_low next own fixed lo hi four small win =
    let low = pos next +ℤ lowest_displacement [] own fixed in
    let mine : (target : ℤ) → IsAllowed next [] own fixed target ↔ ((low ≤ℤ target) × (target <ℤ (low +ℤ pos (256 ^ own)))) =
    λ target. window_of next own fixed low (low +ℤ pos (256 ^ own)) target four small refl refl in
    let some = power_some own in
    let first = (win low).0 ((mine low).1 (omega (arith, ints), omega (arith, ints, some))) in
    let other = (mine lo).0 ((win lo).1 (omega (arith, ints), omega (arith, ints, first.0, first.1))) in
    omega (arith, ints, first.0, other.0)
  where
    power_some : (k : ℕ) → 0 < 256 ^ k
    power_some zero = omega arith
    power_some (suc k) = omega (arith, power_some k, pow-suc 256 k)

-- A free place is low.
free_low : (taken : List Extent) (t n : ℕ) → IsFree taken t n → t < 2 ^ 31
free_low taken t n f = let b = f.below in omega arith

module _ (taken : List Extent) (m : Meeting) (g : IsMeeting m) (fsize bsize : ℕ) (below : ℤ) (a b : Way)
    (front : IsFrontWay m fsize below a) (back : IsBackWay m bsize b) where
  -- The way begins for the value where the front jump's targets do.
  abbrev Starts : ℕ → Type 0
  Starts x = (a.lo +ℤ pos (x * a.scale)) ≡ pos m.front_next +ℤ lowest_displacement [] m.own (high_bytes m x)

  -- The back jump has four displacement bytes.
  fixed_four : m.back_own + length m.fixed ≡ 4
  fixed_four = let e = g.fixed in let f = g.back_own in omega arith

  -- The lowest displacement of the back jump has 32 bits.
  small : field 4 0 ([] ++ (filler m.back_own m.fixed ++ m.fixed)) < 2 ^ 32
  small = whole_small m.back_own m.fixed fixed_four g.small

  module _ (x : ℕ) (at : Starts x) (few : x < 256 ^ shared_count m) where
    -- Where two jumps meet, the front one's free place is in its way.
    meets_front : (t u : ℕ) → Meets m x t u → IsFree taken t a.size → FitsWay taken a x t
    meets_front t u h f = record {
      target = front_to m g fsize below a front x at t (free_low taken t a.size f) (h.front ∙ same_high m g x u h.back h.shared);
      free = f;
    }

    -- Where two jumps meet, the back one's free place is in its way.
    meets_back : (t u : ℕ) → Meets m x t u → IsFree taken u b.size → FitsWay taken b x u
    meets_back t u h f = record { target = back_to m g bsize b back small x u (free_low taken u b.size f) h.back h.shared; free = f }

    -- Free places of both ways are those of two jumps that meet.
    both_meet : (t u : ℕ) → FitsWay taken a x t → FitsWay taken b x u → Meets m x t u
    both_meet t u f h =
        let c = back_from m g bsize b back small x u (free_low taken u b.size h.free) few h.target in
        record {
          front = front_from m g fsize below a front x at t (free_low taken t a.size f.free) f.target ∙ sym (same_high m g x u c.0 c.1);
          back = c.0;
          shared = c.1;
        }

  -- What is chosen with the front jump's place first.
  abbrev ChosenFront : Pick → Type 0
  ChosenFront = IsChosen taken (MeetsFront m) a.size b.size

  -- What is chosen with the back jump's place first.
  abbrev ChosenBack : Pick → Type 0
  ChosenBack = IsChosen taken (MeetsBack m) b.size a.size

  -- A pick of the ways with the front jump's place first is chosen.
  pub front_chosen : (p : Pick) → Starts p.x → p.x < 256 ^ shared_count m → IsPick taken a b p → ChosenFront p
  front_chosen p at few h = record {
    allowed = both_meet p.x at few p.first p.second h.first h.second;
    first = h.first.free;
    second = h.second.free;
    away = h.away;
    least = λ t u k f. h.least t (meets_front p.x at few t u k f);
  }

  -- What is chosen with the front jump's place first is a pick of the ways.
  pub chosen_front : (p : Pick) → Starts p.x → p.x < 256 ^ shared_count m → ChosenFront p → IsPick taken a b p
  chosen_front p at few h =
      let second = meets_back p.x at few p.first p.second h.allowed h.second in
      record {
        first = meets_front p.x at few p.first p.second h.allowed h.first;
        least = λ t f. h.least t p.second (both_meet p.x at few t p.second f second) f.free;
        second = second;
        away = h.away;
      }

  -- A pick of the ways with the back jump's place first is chosen.
  pub back_chosen : (p : Pick) → Starts p.x → p.x < 256 ^ shared_count m → IsPick taken b a p → ChosenBack p
  back_chosen p at few h = record {
    allowed = both_meet p.x at few p.second p.first h.second h.first;
    first = h.first.free;
    second = h.second.free;
    away = h.away;
    least = λ t u k f. h.least t (meets_back p.x at few u t k f);
  }

  -- What is chosen with the back jump's place first is a pick of the ways.
  pub chosen_back : (p : Pick) → Starts p.x → p.x < 256 ^ shared_count m → ChosenBack p → IsPick taken b a p
  chosen_back p at few h =
      let second = meets_front p.x at few p.second p.first h.allowed h.second in
      record {
        first = meets_back p.x at few p.second p.first h.allowed h.first;
        least = λ t f. h.least t p.second (both_meet p.x at few p.second t second f) f.free;
        second = second;
        away = h.away;
      }

-- A power of 256 with an exponent of at most four lies between 1 and 2^32.
pub power_bounds : (s : ℕ) → s ≤ 4 → (1 ≤ 256 ^ s) × (256 ^ s ≤ 2 ^ 32)
power_bounds zero h = (omega arith, omega arith)
power_bounds (suc zero) h = (omega arith, omega arith)
power_bounds (suc (suc zero)) h = (omega arith, omega arith)
power_bounds (suc (suc (suc zero))) h = (omega arith, omega arith)
power_bounds (suc (suc (suc (suc zero)))) h = (omega arith, omega arith)
power_bounds (suc (suc (suc (suc (suc s))))) h = absurd (omega arith)

-- The number of a displacement's low bytes is below 256 to the power of how many they are.
pub shared_small : (s next u x : ℕ) → s ≤ 2 → x ≡ low_displacement s next u → x < 256 ^ s
shared_small zero next u x few e = omega arith
shared_small (suc zero) next u x few e = omega arith
shared_small (suc (suc zero)) next u x few e = omega arith
shared_small (suc (suc (suc s))) next u x few e = absurd (omega arith)

-- The first of those below a value and, where there is none, the first of the others.
module _ (Chosen A : Pick → Type 0) (turn : ℕ) (to : (q : Pick) → Chosen q → q.x < turn → A q) where
  -- The first of the first part is the first of all.
  pub first_part : (p : Pick) → (A p → Chosen p) → p.x < turn → IsFirstBy pick_order A p → IsFirstBy pick_order Chosen p
  first_part p from low h = record {
    good = from h.good;
    first = λ q good. elim (cases_lt q.x turn) [
      | inl l ↦ h.first q (to q good l)
      | inr l ↦ inl (omega arith)
    ];
  }

module _ (Chosen A B : Pick → Type 0) (turn : ℕ) (to : (q : Pick) → Chosen q → q.x < turn → A q) where
  -- Where the first part has none, the first of the other is.
  pub last_part : ((q : Pick) → A q → ⊥) → ((q : Pick) → Chosen q → turn ≤ q.x → B q) → ((q : Pick) → B q → Chosen q) → (o : Option Pick)
      → FirstBy pick_order B o → FirstBy pick_order Chosen o
  last_part none up down None h = λ q good. elim (cases_lt q.x turn) [
    | inl l ↦ none q (to q good l)
    | inr l ↦ h q (up q good l)
  ]
  last_part none up down (Some p) h = record {
    good = down p h.good;
    first = λ q good. elim (cases_lt q.x turn) [
      | inl l ↦ absurd (none q (to q good l))
      | inr l ↦ h.first q (up q good l)
    ];
  }

-- A front jump's way has small numbers.
pub front_is_way : (m : Meeting) (g : IsMeeting m) (size : ℕ) (below : ℤ) (w : Way) → IsFrontWay m size below w → IsSized size
    → pos 0 ≤ℤ below → below ≤ℤ pos (2 ^ 32) → (to : ℕ) → to ≤ 256 ^ shared_count m → IsWay w to
front_is_way m g size below w front sized p q to most =
    let b = signed_bounds _ (whole_small m.own (high_bytes m 0) (length-high_bytes m g 0) (high_are_bytes m g 0)) in
    let width = power_bounds m.own g.own in
    let e = front.sized in
    let lo = front.lo in
    let next = g.front.1 in
    record {
      step = (let s = front.step in omega arith);
      size = omega (arith, e, sized.0);
      small = omega (arith, e, sized.1);
      scale = (let s = front.some.0 in omega arith);
      width = (let f = front.width in (omega (arith, f, width.0), omega (arith, f, width.1)));
      low = omega (arith, ints, lo, b.0, q);
      high = omega (arith, ints, lo, b.1, p, next);
      parts = parts (cases_lt 0 (shared_count m));
    }
  where
    parts : (0 < shared_count m) ⊎ (shared_count m ≤ 0) → to * w.scale ≤ 2 ^ 32
    parts (inr l) =
        let z : shared_count m ≡ 0 = omega arith in
        let one : to ≤ 1 = subst (λ (k : ℕ). to ≤ 256 ^ k) z most in
        let h = mul-le-mul_right w.scale one in
        let s = front.some.1 in
        omega (arith, h, s)
    parts (inl l) =
        let n = shared_count m in
        let k = m.own + m.pads + 1 in
        let h = mul-le-mul_right w.scale most in
        let e = front.scale l in
        let a : 256 ^ n * 256 ^ k ≡ 256 ^ (n + k) = sym (pow-add 256 n k) in
        let b = power_bounds (n + k) (omega arith) in
        let f = ap (λ j. 256 ^ n * j) e in
        omega (arith, h, f, a, b.1)

-- The numbers of a back jump's way stay small.
pub back_is_way : (m : Meeting) (g : IsMeeting m) (size : ℕ) (w : Way) → IsBackWay m size w → IsSized size → (to : ℕ)
    → to ≤ 256 ^ shared_count m → IsWay w to
back_is_way m g size w back sized to most =
    let four : m.back_own + length m.fixed ≡ 4 = (let x = g.fixed in let y = g.back_own in omega arith) in
    let b = signed_bounds _ (whole_small m.back_own m.fixed four g.small) in
    let width = power_bounds m.back_own g.back_own in
    let few = g.few in
    let count = power_bounds (shared_count m) (omega arith) in
    let e = back.sized in
    let lo = back.lo in
    let next = g.back.1 in
    let one = back.scale in
    let product : to * w.scale ≡ to = ap (λ k. to * k) one ∙ omega arith in
    record {
      step = (let s = back.step in omega (arith, s, count.0));
      size = omega (arith, e, sized.0);
      small = omega (arith, e, sized.1);
      scale = omega arith;
      width = (let f = back.width in (omega (arith, f, width.0), omega (arith, f, width.1)));
      low = omega (arith, ints, lo, b.0);
      high = omega (arith, ints, lo, b.1, next);
      parts = omega (arith, product, most, count.1);
    }

-- The answers of two searches, one after the other, are the first of what is chosen.
pub record AreFound (A B Chosen : Pick → Type 0) : Type 0 where
  pub here : (p : Pick) → IsFirstBy pick_order A p → IsFirstBy pick_order Chosen p
  pub beyond : ((p : Pick) → A p → ⊥) → (o : Option Pick) → FirstBy pick_order B o → FirstBy pick_order Chosen o

module _ (taken : List Extent) (m : Meeting) (g : IsMeeting m) (fsize bsize : ℕ) (w : Ways) (h : AreWays m fsize bsize w) where
  -- A value below the count is one of the shared bytes.
  in_count : (p : Pick) → p.x < w.count → p.x < 256 ^ shared_count m
  in_count p l = subst (λ (j : ℕ). p.x < j) h.all l

  -- What is chosen with the front jump's place first, by the sizes that are given.
  abbrev FrontChosen : Pick → Type 0
  FrontChosen = IsChosen taken (MeetsFront m) fsize bsize

  -- The value of what is chosen with the front jump's place first is below the count.
  front_small : (p : Pick) → FrontChosen p → p.x < w.count
  front_small p q = subst (λ (j : ℕ). p.x < j) (sym h.all) (shared_small (shared_count m) m.back_next p.second p.x g.few q.allowed.shared)

  -- The ways have these sizes.
  front_sizes : (a b : ℕ) (p : Pick) → a ≡ fsize → b ≡ bsize → IsChosen taken (MeetsFront m) a b p → FrontChosen p
  front_sizes a b p d e q =
      subst (λ (j : ℕ). IsChosen taken (MeetsFront m) fsize j p) e (subst (λ (j : ℕ). IsChosen taken (MeetsFront m) j b p) d q)

  -- A pick of the first part is chosen.
  front_down : (p : Pick) → IsPickIn taken w.front w.back 0 w.turn p → FrontChosen p
  front_down p q =
      front_sizes w.front.size w.back.size p h.front_way.sized h.back_way.sized
      (front_chosen taken m g fsize bsize (pos 0) w.front w.back h.front_way h.back_way p (h.before p.x q.below) (in_count p (let t =
      h.most in let u = q.below in omega arith)) q.pick)

  -- With the front jump first, a pick of the part that has turned negative is chosen.
  front_turned_down : (p : Pick) → IsPickIn taken w.turned w.back w.turn w.count p → FrontChosen p
  front_turned_down p q =
      front_sizes w.turned.size w.back.size p h.turned_way.sized h.back_way.sized
      (front_chosen taken m g fsize bsize (pos (2 ^ 32)) w.turned w.back h.turned_way h.back_way p (h.behind p.x q.above q.below)
      (in_count p q.below) q.pick)

  -- What is chosen with the front jump first is so by the sizes of the ways.
  front_wide : (a b : ℕ) (p : Pick) → a ≡ fsize → b ≡ bsize → FrontChosen p → IsChosen taken (MeetsFront m) a b p
  front_wide a b p d e q = subst (λ (j : ℕ). IsChosen taken (MeetsFront m) a j p) (sym e)
      (subst (λ (j : ℕ). IsChosen taken (MeetsFront m) j bsize p) (sym d) q)

  -- What is chosen with a value of the first part is a pick of it.
  front_up : (p : Pick) → FrontChosen p → p.x < w.turn → IsPickIn taken w.front w.back 0 w.turn p
  front_up p q l = record {
    pick = chosen_front taken m g fsize bsize (pos 0) w.front w.back h.front_way h.back_way p (h.before p.x l)
        (in_count p (front_small p q)) (front_wide w.front.size w.back.size p h.front_way.sized h.back_way.sized q);
    above = omega arith;
    below = l;
  }

  -- With the front jump first, what is chosen with a value of the part that has turned negative is a pick of it.
  front_turned_up : (p : Pick) → FrontChosen p → w.turn ≤ p.x → IsPickIn taken w.turned w.back w.turn w.count p
  front_turned_up p q l = record {
    pick = chosen_front taken m g fsize bsize (pos (2 ^ 32)) w.turned w.back h.turned_way h.back_way p (h.behind p.x l (front_small p q))
        (in_count p (front_small p q)) (front_wide w.turned.size w.back.size p h.turned_way.sized h.back_way.sized q);
    above = l;
    below = front_small p q;
  }

  -- What the search finds by the front jump's place first is what is chosen.
  pub front_found : AreFound (IsPickIn taken w.front w.back 0 w.turn) (IsPickIn taken w.turned w.back w.turn w.count) FrontChosen
  front_found = record {
    here = λ p q. let low = q.good.below in first_part FrontChosen (IsPickIn taken w.front w.back 0 w.turn) w.turn front_up p
        (front_down p) low q;
    beyond = λ none o q. last_part FrontChosen (IsPickIn taken w.front w.back 0 w.turn)
        (IsPickIn taken w.turned w.back w.turn w.count) w.turn front_up none front_turned_up front_turned_down o q;
  }

  -- What is chosen with the back jump's place first, by the sizes that are given.
  abbrev BackChosen : Pick → Type 0
  BackChosen = IsChosen taken (MeetsBack m) bsize fsize

  -- The value of what is chosen with the back jump's place first is below the count.
  back_small : (p : Pick) → BackChosen p → p.x < w.count
  back_small p q = subst (λ (j : ℕ). p.x < j) (sym h.all) (shared_small (shared_count m) m.back_next p.first p.x g.few q.allowed.shared)

  -- The ways have these sizes.
  back_sizes : (a b : ℕ) (p : Pick) → a ≡ bsize → b ≡ fsize → IsChosen taken (MeetsBack m) a b p → BackChosen p
  back_sizes a b p d e q =
      subst (λ (j : ℕ). IsChosen taken (MeetsBack m) bsize j p) e (subst (λ (j : ℕ). IsChosen taken (MeetsBack m) j b p) d q)

  -- A pick of the first part is chosen.
  back_down : (p : Pick) → IsPickIn taken w.back w.front 0 w.turn p → BackChosen p
  back_down p q =
      back_sizes w.back.size w.front.size p h.back_way.sized h.front_way.sized
      (back_chosen taken m g fsize bsize (pos 0) w.front w.back h.front_way h.back_way p (h.before p.x q.below) (in_count p (let t =
      h.most in let u = q.below in omega arith)) q.pick)

  -- With the back jump first, a pick of the part that has turned negative is chosen.
  back_turned_down : (p : Pick) → IsPickIn taken w.back w.turned w.turn w.count p → BackChosen p
  back_turned_down p q =
      back_sizes w.back.size w.turned.size p h.back_way.sized h.turned_way.sized
      (back_chosen taken m g fsize bsize (pos (2 ^ 32)) w.turned w.back h.turned_way h.back_way p (h.behind p.x q.above q.below)
      (in_count p q.below) q.pick)

  -- What is chosen with the back jump first is so by the sizes of the ways.
  back_wide : (a b : ℕ) (p : Pick) → a ≡ bsize → b ≡ fsize → BackChosen p → IsChosen taken (MeetsBack m) a b p
  back_wide a b p d e q =
      subst (λ (j : ℕ). IsChosen taken (MeetsBack m) a j p) (sym e) (subst (λ (j : ℕ). IsChosen taken (MeetsBack m) j fsize p) (sym d) q)

  -- What is chosen with a value of the first part is a pick of it.
  back_up : (p : Pick) → BackChosen p → p.x < w.turn → IsPickIn taken w.back w.front 0 w.turn p
  back_up p q l = record {
    pick = chosen_back taken m g fsize bsize (pos 0) w.front w.back h.front_way h.back_way p (h.before p.x l)
        (in_count p (back_small p q)) (back_wide w.back.size w.front.size p h.back_way.sized h.front_way.sized q);
    above = omega arith;
    below = l;
  }

  -- With the back jump first, what is chosen with a value of the part that has turned negative is a pick of it.
  back_turned_up : (p : Pick) → BackChosen p → w.turn ≤ p.x → IsPickIn taken w.back w.turned w.turn w.count p
  back_turned_up p q l = record {
    pick = chosen_back taken m g fsize bsize (pos (2 ^ 32)) w.turned w.back h.turned_way h.back_way p (h.behind p.x l (back_small p q))
        (in_count p (back_small p q)) (back_wide w.back.size w.turned.size p h.back_way.sized h.turned_way.sized q);
    above = l;
    below = back_small p q;
  }

  -- What the search finds by the back jump's place first is what is chosen.
  pub back_found : AreFound (IsPickIn taken w.back w.front 0 w.turn) (IsPickIn taken w.back w.turned w.turn w.count) BackChosen
  back_found = record {
    here = λ p q. let low = q.good.below in first_part BackChosen (IsPickIn taken w.back w.front 0 w.turn) w.turn back_up p
        (back_down p) low q;
    beyond = λ none o q. last_part BackChosen (IsPickIn taken w.back w.front 0 w.turn)
        (IsPickIn taken w.back w.turned w.turn w.count) w.turn back_up none back_turned_up back_turned_down o q;
  }
