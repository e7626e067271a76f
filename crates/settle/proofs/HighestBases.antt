-- No base that isn't refused is above the highest, which isn't refused where some base isn't.
use Rattle.std.proofs.Common.{◌≡◌, ℕ, ◌+◌, ◌-◌, ◌*◌, ◌/◌, ◌%◌, ◌^◌, ◌<◌, ◌≤◌, ◌==◌, Bool, true, false, cond, not, ◌&&◌, nat_le, nat_lt, List, [], ◌∷◌, length, map, Option, Some, None, option_map, refl, sym, ap, ◌∙◌, subst, arith}
use Rattle.std.specs.List.{AllByRecursion, position}
use Rattle.std.proofs.lemmas.Bool.{and_parts, cond-true, leb-false, ltb-true, ltb-false, lt-ltb, le-ltb}
use Rattle.std.proofs.lemmas.Bool.Decides.{nat_tests}
use Rattle.std.proofs.lemmas.Nat.{div-add-mod', le-div, mul-mod_second}
use Rattle.std.proofs.Math.Nat.{mul-le-mul_right, mul-mod_left}
use Rattle.elf_read.specs.declared.segment.Segment.{Segment}
use Rattle.elf_read.specs.Entries.{entry_of, is_load, segments, loads}
use Rattle.elf_read.specs.Refusals.{is_dynamic, is_outside, is_oversized, is_misaligned, is_high, is_low, is_behind, first_page, last_page, first_unordered, entry_rules, entry_refusal}
use Rattle.elf_read.proofs.AcceptedFiles.{NoneBreaks, none_breaks, position-none}
use Rattle.settle.specs.declared.error.SettleError.{SettleError}
use Rattle.settle.specs.declared.error.SettleError.TheVariants.{SegmentOutside, BaseUnaligned, Settled}
use Rattle.settle.specs.Lengths.{used_len, front_len}
use Rattle.settle.specs.Settled.{front_entry, moved, own_table, settled_table, settled}
use Rattle.settle.specs.Refusals.{largest_align, highest_end, highest_base, header_refusal, or_later, entries_refusal, settled_refusal, places_refusal}
use Rattle.settle.specs.Laws.{NoneIsHigher, HighestIsTaken}
use Rattle.settle.proofs.FrontParts.{used_fits}
use Rattle.settle.proofs.MovedImages.{used_some, kind_kept}
use Rattle.settle.proofs.TakenFiles.{IsGood, none_later, map_none, each_kept, one_by_one, length_with, known}

-- where entries end that are moved so
ends_low : (p b : ℕ) (ss : List Segment) → b ≤ 0x7fff0000 → AllByRecursion (IsGood p b) ss → b + highest_end ss ≤ 0x7fff0000
ends_low p b [] l h = omega (arith, l)
ends_low p b (s ∷ ss) l h = step (nat_le (s.vaddr + s.memsz) (highest_end ss)) h.0.high (ends_low p b ss l h.1)
  where
    step : (t : Bool) → b + s.vaddr + s.memsz ≤ 0x7fff0000 → b + highest_end ss ≤ 0x7fff0000 → b + cond t (highest_end ss) (s.vaddr + s.memsz) ≤ 0x7fff0000
    step true e r = r
    step false e r = omega (arith, e)

-- the largest alignment is some
some_align : (ss : List Segment) → 4096 ≤ largest_align ss
some_align [] = omega arith
some_align (s ∷ ss) = step (nat_le s.align (largest_align ss)) refl (some_align ss)
  where
    step : (t : Bool) → nat_le s.align (largest_align ss) ≡ t → 4096 ≤ largest_align ss → 4096 ≤ cond t (largest_align ss) s.align
    step true e r = r
    step false e r = let f = leb-false s.align (largest_align ss) e in omega (arith, f, r)

-- a multiple that is at most a number is at most its greatest multiple
multiple_below : (b k n : ℕ) → 0 < k → b % k ≡ 0 → b ≤ n → b ≤ n / k * k
multiple_below b k n l e h =
    let d = div-add-mod' b k in
    let q : b / k * k ≤ n = omega (arith, d, e, h) in
    let m = mul-le-mul_right k (le-div (b / k) n k l q) in
    omega (arith, d, e, m)

pub none_is_higher : NoneIsHigher
none_is_higher b file readable h =
    let k = known b file readable h in let ss = loads (segments file) in
    let e = ends_low (front_len (length (segments file))) b ss k.low k.good in let a = some_align ss in
    multiple_below b (largest_align ss) (0x7fff0000 - highest_end ss) (omega (arith, a)) k.multiple (omega (arith, e))

-- ---- the highest isn't refused

-- entries that are moved so at one base are at a higher one, up to where they end at the addresses' end
good_higher : (p b c : ℕ) (ss : List Segment) → c + highest_end ss ≤ 0x7fff0000 → AllByRecursion (IsGood p b) ss → AllByRecursion (IsGood p c) ss
good_higher p b c [] l h = tt
good_higher p b c (s ∷ ss) l h =
    let q = step (nat_le (s.vaddr + s.memsz) (highest_end ss)) refl l in let q0 = q.0 in let q1 = q.1 in (
      record { roomy = record { offset = h.0.roomy.offset; vaddr = omega (arith, q0) }; high = omega (arith, q0); sizes = h.0.sizes },
      good_higher p b c ss q1 h.1,
    )
  where
    step : (t : Bool) → nat_le (s.vaddr + s.memsz) (highest_end ss) ≡ t → c + cond t (highest_end ss) (s.vaddr + s.memsz) ≤ 0x7fff0000
        → (c + (s.vaddr + s.memsz) ≤ 0x7fff0000) × (c + highest_end ss ≤ 0x7fff0000)
    step true e k = (grind (arith, nat_tests, e, k), k)
    step false e k = let f = leb-false (s.vaddr + s.memsz) (highest_end ss) e in (k, omega (arith, f, k))

-- the rules of entries, which none breaks
record KeepAll (len : ℕ) (ts : List Segment) : Type 0 where
  pub dynamic : NoneBreaks is_dynamic ts
  pub outside : NoneBreaks (is_outside len) ts
  pub oversized : NoneBreaks is_oversized ts
  pub misaligned : NoneBreaks is_misaligned ts
  pub high : NoneBreaks is_high ts
  pub low : NoneBreaks (is_low 0x20000) ts
  pub unordered : first_unordered 0 None ts ≡ None

all_kept : (len : ℕ) (ts : List Segment) → entry_refusal 0x20000 len ts ≡ None → KeepAll len ts
unfolding entry_refusal
all_kept len ts h =
    let k = each_kept (entry_rules 0x20000 len ts) h in
    record {
      dynamic = none_breaks is_dynamic ts k.0;
      outside = none_breaks (is_outside len) ts k.1.0;
      oversized = none_breaks is_oversized ts k.1.1.0;
      misaligned = none_breaks is_misaligned ts k.1.1.1.0;
      high = none_breaks is_high ts k.1.1.1.1.0;
      low = none_breaks (is_low 0x20000) ts k.1.1.1.1.1.0;
      unordered = k.1.1.1.1.1.1.0;
    }

none_refused : (len : ℕ) (ts : List Segment) → KeepAll len ts → entry_refusal 0x20000 len ts ≡ None
unfolding entry_refusal
none_refused len ts k =
    let a = position-none is_dynamic ts k.dynamic in let b = position-none (is_outside len) ts k.outside in
    let c = position-none is_oversized ts k.oversized in let d = position-none is_misaligned ts k.misaligned in
    let e = position-none is_high ts k.high in let f = position-none (is_low 0x20000) ts k.low in
    rw (a, b, c, d, e, f, k.unordered) refl

by_load : (t x y : Bool) → (t ≡ true → x ≡ false → y ≡ false) → (t && x) ≡ false → (t && y) ≡ false
by_load true x y f h = f refl h
by_load false x y f h = refl

above : (a b : ℕ) → b < a → nat_le a b ≡ false
above a b l = grind (arith, nat_tests)

-- an entry that, if it is loaded, is moved so at both bases
abbrev IsGoodAtBoth : ℕ → ℕ → ℕ → Segment → Type 0
IsGoodAtBoth p b c s = (is_load s ≡ true → IsGood p b s) × (is_load s ≡ true → IsGood p c s)

both : (p b c : ℕ) (ss : List Segment) → AllByRecursion (λ s. is_load s ≡ true → IsGood p b s) ss → AllByRecursion (λ s. is_load s ≡ true → IsGood p c s) ss
    → AllByRecursion (IsGoodAtBoth p b c) ss
both p b c [] h k = tt
both p b c (s ∷ ss) h k = ((h.0, k.0), both p b c ss h.1 k.1)

module _ (p b c : ℕ) (le : b ≤ c) (bm : b % 4096 ≡ 0) (cm : c % 4096 ≡ 0) where
  abbrev Both : Segment → Type 0
  Both = IsGoodAtBoth p b c

  loaded : (s : Segment) → is_load (moved p b s) ≡ true → is_load s ≡ true
  loaded s e = sym (ap (λ t. t && nat_lt 0 s.memsz) (kind_kept s.kind)) ∙ e

  -- what an entry keeps at the lower base it keeps at the higher
  carried : (P Q : Segment → Bool) → ((s : Segment) → Both s → P (moved p b s) ≡ false → Q (moved p c s) ≡ false) → (ss : List Segment) → AllByRecursion Both ss
      → NoneBreaks P (map (moved p b) ss) → NoneBreaks Q (map (moved p c) ss)
  carried P Q f [] k h = tt
  carried P Q f (s ∷ ss) k h = (f s k.0 h.0, carried P Q f ss k.1 h.1)

  aligned : (s : Segment) → Both s → is_misaligned (moved p b s) ≡ false → is_misaligned (moved p c s) ≡ false
  aligned s k h =
      let o = (s.offset + p) % 2 ^ 64 in let v = (s.vaddr + b) % 2 ^ 64 in let w = (s.vaddr + c) % 2 ^ 64 in
      by_load (is_load (moved p b s)) (not (o % 4096 == v % 4096)) (not (o % 4096 == w % 4096)) (λ l x.
      let g0 = (k.0 (loaded s l)).roomy.vaddr in let g1 = (k.1 (loaded s l)).roomy.vaddr in
      let e : v % 4096 ≡ w % 4096 = omega (arith, g0, g1, bm, cm) in
      sym (ap (λ z. not (o % 4096 == z)) e) ∙ x) h

  low_enough : (s : Segment) → Both s → is_high (moved p b s) ≡ false → is_high (moved p c s) ≡ false
  low_enough s k h =
      let v = (s.vaddr + b) % 2 ^ 64 in let w = (s.vaddr + c) % 2 ^ 64 in
      by_load (is_load (moved p b s)) (nat_lt 0x7fff0000 (v + s.memsz)) (nat_lt 0x7fff0000 (w + s.memsz)) (λ l x.
      let g1 = (k.1 (loaded s l)).high in
      le-ltb 0x7fff0000 (w + s.memsz) (omega (arith, g1))) h

  high_enough : (s : Segment) → Both s → is_low 0x20000 (moved p b s) ≡ false → is_low 0x20000 (moved p c s) ≡ false
  high_enough s k h =
      let v = (s.vaddr + b) % 2 ^ 64 in let w = (s.vaddr + c) % 2 ^ 64 in
      by_load (is_load (moved p b s)) (nat_lt v 0x20000) (nat_lt w 0x20000) (λ l x.
      let g0 = (k.0 (loaded s l)).roomy.vaddr in let g1 = (k.1 (loaded s l)).roomy.vaddr in
      let y = ltb-false v 0x20000 x in
      le-ltb w 0x20000 (omega (arith, g0, g1, y, le))) h

  -- so many pages higher
  abbrev more : ℕ
  more = (c - b) / 4096

  first_moves : (s : Segment) → IsGood p b s → IsGood p c s → first_page (moved p c s) ≡ first_page (moved p b s) + more
  first_moves s g h = let g0 = g.roomy.vaddr in let h0 = h.roomy.vaddr in omega (arith, g0, h0, bm, cm, le)

  last_moves : (s : Segment) → IsGood p b s → IsGood p c s → 0 < s.memsz → last_page (moved p c s) ≡ last_page (moved p b s) + more
  last_moves s g h m = let g0 = g.roomy.vaddr in let h0 = h.roomy.vaddr in omega (arith, g0, h0, bm, cm, le, m)

  behind : (u v x y : Segment) → last_page v ≡ last_page u + more → first_page y ≡ first_page x + more → is_behind (Some u) x ≡ false → is_behind (Some v) y ≡ false
  behind u v x y e f h = let l = leb-false (first_page x) (last_page u) h in above (first_page y) (last_page v) (omega (arith, e, f, l))

  -- entries stay in order
  ordered : (ss : List Segment) (i : ℕ) (u v : Segment) → last_page v ≡ last_page u + more → AllByRecursion Both ss
      → first_unordered i (Some u) (map (moved p b) ss) ≡ None → first_unordered i (Some v) (map (moved p c) ss) ≡ None
  ordered [] i u v e k h = refl
  ordered (s ∷ ss) i u v e k h =
      step (is_load (moved p b s)) refl
      (λ l. behind u v (moved p b s) (moved p c s) e (first_moves s (k.0.0 (loaded s l)) (k.0.1 (loaded s l))))
      (λ l z. ordered ss (i + 1) (moved p b s) (moved p c s) (last_moves s (k.0.0 (loaded s l)) (k.0.1 (loaded s l)) (ltb-true 0 s.memsz (and_parts _ _ (loaded s l)).1)) k.1 z)
      (λ z. ordered ss (i + 1) u v e k.1 z) h
    where
      step : (t : Bool) → is_load (moved p b s) ≡ t
          → (is_load (moved p b s) ≡ true → is_behind (Some u) (moved p b s) ≡ false → is_behind (Some v) (moved p c s) ≡ false)
          → (is_load (moved p b s) ≡ true → first_unordered (i + 1) (Some (moved p b s)) (map (moved p b) ss) ≡ None → first_unordered (i + 1) (Some (moved p c s)) (map (moved p c) ss) ≡ None)
          → (first_unordered (i + 1) (Some u) (map (moved p b) ss) ≡ None → first_unordered (i + 1) (Some v) (map (moved p c) ss) ≡ None)
          → cond t (cond (is_behind (Some u) (moved p b s)) (Some i) (first_unordered (i + 1) (Some (moved p b s)) (map (moved p b) ss))) (first_unordered (i + 1) (Some u) (map (moved p b) ss)) ≡ None
          → cond t (cond (is_behind (Some v) (moved p c s)) (Some i) (first_unordered (i + 1) (Some (moved p c s)) (map (moved p c) ss))) (first_unordered (i + 1) (Some v) (map (moved p c) ss)) ≡ None
      step false q f g r x = r x
      step true q f g r x = inner (is_behind (Some u) (moved p b s)) refl x
        where
          inner : (t : Bool) → is_behind (Some u) (moved p b s) ≡ t → cond t (Some i) (first_unordered (i + 1) (Some (moved p b s)) (map (moved p b) ss)) ≡ None
              → cond (is_behind (Some v) (moved p c s)) (Some i) (first_unordered (i + 1) (Some (moved p c s)) (map (moved p c) ss)) ≡ None
          inner true w y = absurd cc
          inner false w y = ap (λ (z : Bool). cond z (Some i) (first_unordered (i + 1) (Some (moved p c s)) (map (moved p c) ss))) (f q w) ∙ g q y

-- the front's entry keeps the rules at a higher base, too
front_first : (b n : ℕ) (ts : List Segment) → first_unordered 0 None (front_entry b n ∷ ts) ≡ first_unordered 1 (Some (front_entry b n)) ts
front_first b n ts = cond-true (is_load (front_entry b n)) _ _ (lt-ltb 0 (used_len n) (used_some n))

front_aligned : (n c : ℕ) → front_len n ≤ c → c % 4096 ≡ 0 → (c - front_len n) % 4096 ≡ 0
unfolding front_len
front_aligned n c l e = omega (arith, l, e)

front_last : (n b c : ℕ) → front_len n ≤ b → b ≤ c → b % 4096 ≡ 0 → c % 4096 ≡ 0 → last_page (front_entry c n) ≡ last_page (front_entry b n) + (c - b) / 4096
front_last n b c l m e f = let u = used_some n in omega (arith, l, m, e, f, u)

-- so no entry of the settled file breaks a rule
table_kept : (b c len : ℕ) (ss : List Segment) → length ss + 1 < 2 ^ 16 → b ≤ c → c ≤ 0x7fff0000 → front_len (length ss) ≤ b → b % 4096 ≡ 0 → c % 4096 ≡ 0 → AllByRecursion (IsGoodAtBoth (front_len (length ss)) b c) ss
    → KeepAll len (settled_table b ss) → KeepAll len (settled_table c ss)
table_kept b c len ss few le high below bm cm info k =
    let n = length ss in let p = front_len n in
    let low = ltb-false (b - p) 0x20000 (by_true (is_load (front_entry b n)) _ (lt-ltb 0 (used_len n) (used_some n)) k.low.0) in
    let u = used_fits n in let al = front_aligned n c (omega (arith, below, le)) cm in
    record {
      dynamic = (refl, carried p b c le bm cm is_dynamic is_dynamic (λ s i h. h) ss info k.dynamic.1);
      outside = (k.outside.0, carried p b c le bm cm (is_outside len) (is_outside len) (λ s i h. h) ss info k.outside.1);
      oversized = (k.oversized.0, carried p b c le bm cm is_oversized is_oversized (λ s i h. h) ss info k.oversized.1);
      misaligned = (
        by_load (is_load (front_entry c n)) false (not (0 % 4096 == (c - p) % 4096)) (λ l x. ap (λ (z : ℕ). not (0 == z)) al) (and_no (is_load (front_entry c n))),
        carried p b c le bm cm is_misaligned is_misaligned (aligned p b c le bm cm) ss info k.misaligned.1,
      );
      high = (
        by_load (is_load (front_entry c n)) false (nat_lt 0x7fff0000 (c - p + used_len n)) (λ l x. le-ltb 0x7fff0000 (c - p + used_len n) (omega (arith, u, high, below, le))) (and_no (is_load (front_entry c n))),
        carried p b c le bm cm is_high is_high (low_enough p b c le bm cm) ss info k.high.1,
      );
      low = (
        by_load (is_load (front_entry c n)) false (nat_lt (c - p) 0x20000) (λ l x. le-ltb (c - p) 0x20000 (omega (arith, low, le))) (and_no (is_load (front_entry c n))),
        carried p b c le bm cm (is_low 0x20000) (is_low 0x20000) (high_enough p b c le bm cm) ss info k.low.1,
      );
      unordered =
          front_first c n (map (moved p c) ss)
          ∙ ordered p b c le bm cm ss 1 (front_entry b n) (front_entry c n) (front_last n b c below le bm cm) info (sym (front_first b n (map (moved p b) ss)) ∙ k.unordered);
    }
  where
    by_true : (t x : Bool) → t ≡ true → (t && x) ≡ false → x ≡ false
    by_true true x e h = h
    by_true false x e h = absurd cc

    and_no : (t : Bool) → (t && false) ≡ false
    and_no true = refl
    and_no false = refl

-- a multiple of a multiple of a page's length is one
times : (q k : ℕ) → k % 4096 ≡ 0 → q * k % 4096 ≡ 0
times q k z = sym (mul-mod_second q k 4096) ∙ ap (λ (x : ℕ). (q * x) % 4096) z ∙ nothing q
  where
    nothing : (q : ℕ) → (q * 0) % 4096 ≡ 0
    nothing q = omega arith

or_none : (o later : Option SettleError) → o ≡ None → later ≡ None → or_later o later ≡ None
or_none o later e f = ap (λ z. or_later z later) e ∙ f

pub highest_is_taken : HighestIsTaken
highest_is_taken b file readable multiple h =
    let k = known b file readable h in let t = k.taken.settleable in
    let ss = segments file in let p = front_len (length ss) in let ls = loads ss in
    let align = largest_align ls in let room = 0x7fff0000 - highest_end ls in let c = highest_base file in
    let e = ends_low p b ls k.low k.good in
    let le : b ≤ c = none_is_higher b file readable h in
    let d : room / align * align + room % align ≡ room = div-add-mod' room align in
    let end : c + highest_end ls ≤ 0x7fff0000 = omega (arith, d, e) in
    let own : b / align * align + b % align ≡ b = div-add-mod' b align in let whole = k.multiple in
    let same : b / align * align ≡ b = omega (arith, own, whole) in
    let bm : b % 4096 ≡ 0 = subst (λ (x : ℕ). x % 4096 ≡ 0) same (times (b / align) align multiple) in
    let cm : c % 4096 ≡ 0 = times (room / align) align multiple in
    let info = both p b c ss (one_by_one p b ss k.good) (one_by_one p c ss (good_higher p b c ls end k.good)) in
    let r0 = none_later (header_refusal file) _ h in
    let r1 = none_later (entries_refusal b (length file) ss) _ r0.1 in
    let r2 = none_later (settled_refusal b file) (places_refusal file) r1.1 in
    let outside = none_later (option_map SegmentOutside (position (is_outside (length file)) ss)) _ r1.0 in
    let kept = all_kept (length (settled b file)) (settled_table b ss) (map_none _ _ r2.0) in
    let even : length (settled b file) ≡ length (settled c file) =
    length_with b file ss (own_table b file) (b + entry_of file) ∙ sym (length_with c file ss (own_table c file) (c + entry_of file)) in
    let last = none_refused (length (settled b file)) (settled_table c ss) (table_kept b c (length (settled b file)) ss t.few le (omega (arith, end)) t.below bm cm info kept) in
    let again : entry_refusal 0x20000 (length (settled c file)) (settled_table c ss) ≡ None =
    subst (λ (x : ℕ). entry_refusal 0x20000 x (settled_table c ss) ≡ None) even last in
    or_none (header_refusal file) _ r0.0
    (or_none (entries_refusal c (length file) ss) _
    (or_none (option_map SegmentOutside (position (is_outside (length file)) ss)) _ outside.0 (cond-true (c % align == 0) None (Some (BaseUnaligned align)) (ap (λ (x : ℕ). x == 0) (mul-mod_left (room / align) align))))
    (or_none (settled_refusal c file) (places_refusal file) (ap (option_map Settled) again) r2.1))
