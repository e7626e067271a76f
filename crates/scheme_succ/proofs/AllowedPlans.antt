-- Which plans of scheme T2 are allowed: those of an open victim whose jumps meet.
use Rattle.std.proofs.Common.{◌≡◌, ◌⊎◌, inl, inr, ℕ, ◌+◌, ◌-◌, ◌^◌, ◌<◌, ◌≤◌, min, true, List, [], ◌∷◌, length, take, drop, get_or, Option, Some, None, refl, sym, ap, ◌∙◌, subst, arith}
use Rattle.std.specs.Option.{option_or}
use Rattle.std.specs.List.{AllByRecursion}
use Rattle.std.proofs.lemmas.Bool.{cases_lt}
use Rattle.std.specs.Cmp.{both_ways}
use Rattle.pun_base.specs.Memory.{Cell, Bytes}
use Rattle.pun_base.specs.Ranges.{is_within}
use Rattle.elf_read.specs.declared.segment.Segment.{Segment}
use Rattle.elf_read.specs.Code.{is_exec_in}
use Rattle.cpu_state.specs.Fixed.{IsFixed}
use Rattle.byte_locks.specs.declared.lock.Lock.TheVariants.{Free}
use Rattle.insn_form.specs.Moved.{rel_bytes}
use Rattle.start_entries.specs.declared.entry.StartEntry.{StartEntry}
use Rattle.start_list.specs.TurnViews.{TurnView, memory_now, is_code_of, share_segment}
use Rattle.start_list.specs.PlanJumps.{Jump, padded_jump, written, is_written, is_punned, cell_with, after_writes}
use Rattle.start_list.specs.Forms.{T2, IsBehind}
use Rattle.start_list.specs.Admissible.{IsAllowed}
use Rattle.start_list.specs.Plans.{bytes_from}
use Rattle.scheme_search.proofs.CodeCells.{IsCodeCell, IsFixedByte, locked_cell}
use Rattle.scheme_search.proofs.OneJumpBytes.{jump_length, within_true, within_parts}
use Rattle.scheme_search.proofs.SiteJumpTargets.{OnSite}
use Rattle.scheme_search.proofs.JumpBytes.{Writes, Spans, AnyJump, written_in, written_out, written_any, any_written, punned_any, any_punned}
use Rattle.scheme_search.proofs.MeetingJumps as pairs
use Rattle.scheme_search.proofs.MeetingJumps.{code_of}
use Rattle.scheme_search.proofs.NeighbourEntries.{IsEntry, fixed_written}
use Rattle.scheme_succ.specs.Choices.{IsOpen}

module _ (v : TurnView) (site e : StartEntry) (s : Segment) (g : OnSite v site s) (w : IsEntry v e)
    (behind : e.addr ≡ site.addr + site.len) (short : site.len ≤ 4) (p q pad : ℕ) (inside : p < site.len)
    (few : (q ≤ 4) × (q < e.len)) where
  -- How many displacement bytes of the site's jump lie in the site.
  abbrev own : ℕ
  own = site.len - p - 1

  -- How many of the victim's lie in the victim.
  abbrev victim_own : ℕ
  victim_own = min (e.len - q - 1) 4

  -- Which bytes are of the site's segment.
  shares : (x : ℕ) → share_segment v.segments site.addr x ≡ is_exec_in x s
  shares x = ap (λ (o : Option Segment). is_code_of o x) g.segment

  module _ (t u : ℕ) where
    -- The site's jump.
    abbrev front : Jump
    front = padded_jump site.addr site.len p 0x40 t

    -- The victim's jump.
    abbrev back : Jump
    back = padded_jump e.addr e.len q pad u

    -- The two jumps.
    abbrev pub both : List Jump
    both = front ∷ back ∷ []

    -- Memory after the writes.
    abbrev pub after : Bytes
    after = after_writes (memory_now v) both

    -- How many bytes the site's jump has.
    front_long : length front.bytes ≡ p + 5
    front_long = jump_length p 0x40 (site.addr + p + 5) t

    -- How many the victim's has.
    back_long : length back.bytes ≡ q + 5
    back_long = jump_length q pad (e.addr + q + 5) u

    -- The site's jump writes the whole site.
    pub written_site : (k : ℕ) → k < site.len → written both (site.addr + k) ≡ Some (get_or front.bytes k 0)
    written_site k l = ap (λ (o : Option ℕ). option_or o (written (back ∷ []) (site.addr + k)))
        (written_in front k (omega (arith, front_long)))

    -- The victim's jump writes the victim's first bytes.
    pub written_victim : (k : ℕ) → k < min e.len (q + 5) → written both (e.addr + k) ≡ Some (get_or back.bytes k 0)
    written_victim k l =
        ap (λ (o : Option ℕ). option_or o (written (back ∷ []) (e.addr + k))) (written_out front (e.addr + k)
        (inr (omega (arith, front_long, behind))))
        ∙ ap (λ (o : Option ℕ). option_or o None) (written_in back k (omega (arith, back_long)))

    -- Behind the victim nothing is written.
    left : (x : ℕ) → e.addr + min e.len (q + 5) ≤ x → written both x ≡ None
    left x l =
        ap (λ (o : Option ℕ). option_or o (written (back ∷ []) x)) (written_out front x (inr (omega (arith, front_long, behind))))
        ∙ ap (λ (o : Option ℕ). option_or o None) (written_out back x (inr (omega (arith, back_long))))

    -- The site's bytes stand after the writes.
    site_byte : (k : ℕ) → k < min site.len (p + 5) → IsFixedByte (after (site.addr + k)) (get_or front.bytes k 0)
    site_byte k l =
        let held = locked_cell (v.lock (site.addr + k)) (v.image (site.addr + k)) (g.site_code k (omega arith)) in
        let m = ap (λ (o : Option ℕ). cell_with o (memory_now v (site.addr + k))) (written_site k (omega arith)) in
        subst (λ (c : Option Cell). IsFixedByte c (get_or front.bytes k 0)) (sym m) (fixed_written (get_or front.bytes k 0)
        (memory_now v (site.addr + k)) held)

    -- The victim's bytes stand after the writes.
    victim_byte : (k : ℕ) → k < min e.len (q + 5) → IsFixedByte (after (e.addr + k)) (get_or back.bytes k 0)
    victim_byte k l =
        let held = locked_cell (v.lock (e.addr + k)) (v.image (e.addr + k)) (w.code k (omega arith)) in
        let m = ap (λ (o : Option ℕ). cell_with o (memory_now v (e.addr + k))) (written_victim k l) in
        subst (λ (c : Option Cell). IsFixedByte c (get_or back.bytes k 0)) (sym m) (fixed_written (get_or back.bytes k 0)
        (memory_now v (e.addr + k)) held)

    -- Behind the victim stands what stood.
    left_byte : (k : ℕ) → k < 4 - victim_own → after (e.addr + e.len + k) ≡ memory_now v (e.addr + e.len + k)
    left_byte k l = ap (λ (o : Option ℕ). cell_with o (memory_now v (e.addr + e.len + k))) (left (e.addr + e.len + k) (omega arith))

    -- What is written is free where the victim is open.
    pub all_free : IsOpen v site e q → (x : ℕ) → is_written both x ≡ true → v.lock x ≡ Free
    all_free o x h = by_jump (written_any both x h)
      where
        by_jump : AnyJump (Writes x) both → v.lock x ≡ Free
        by_jump (inl f) =
            let a : site.addr + (x - site.addr) ≡ x = omega (arith, f.0) in
            subst (λ (y : ℕ). v.lock y ≡ Free) a (g.free (x - site.addr) (omega (arith, f.0, f.1)))
        by_jump (inr (inl f)) =
            let a : e.addr + (x - e.addr) ≡ x = omega (arith, f.0) in
            subst (λ (y : ℕ). v.lock y ≡ Free) a (o.free (x - e.addr) (omega (arith, f.0, f.1, back_long)))
        by_jump (inr (inr f)) = absurd f

    -- What is punned lies after the victim.
    past : (x : ℕ) → AnyJump (Spans x) both → (AnyJump (Writes x) both → ⊥) → (e.addr + e.len ≤ x) × (x < e.addr + q + 5)
    past x sp off = (low_end (cases_lt x (e.addr + e.len)) sp, top sp)
      where
        top : AnyJump (Spans x) both → x < e.addr + q + 5
        top (inl f) = omega (arith, f.1, front_long, behind, inside)
        top (inr (inl f)) = omega (arith, f.1, back_long)
        top (inr (inr f)) = absurd f

        by_site : x < e.addr + e.len → site.addr ≤ x → (x < site.addr + site.len) ⊎ (site.addr + site.len ≤ x) → ⊥
        by_site l a (inl h) = off (inl (a, omega (arith, h, front_long)))
        by_site l a (inr h) = off (inr (inl (omega (arith, behind), omega (arith, l, top sp, back_long))))

        low_end : (x < e.addr + e.len) ⊎ (e.addr + e.len ≤ x) → AnyJump (Spans x) both → e.addr + e.len ≤ x
        low_end (inr l) f = l
        low_end (inl l) (inl f) = absurd (by_site l f.0 (cases_lt x (site.addr + site.len)))
        low_end (inl l) (inr (inl f)) = absurd (by_site l (omega (arith, f.0, behind)) (cases_lt x (site.addr + site.len)))
        low_end (inl l) (inr (inr f)) = absurd f

    -- What is written is one run: the site and the victim's first bytes.
    pub written_run : (x : ℕ) → is_within site.addr (site.len + min e.len (q + 5)) x ≡ is_written both x
    written_run x =
        both_ways _ _ (λ h. any_written both x (inside_run (within_parts site.addr (site.len + min e.len (q + 5)) x h)
        (cases_lt x (site.addr + site.len)))) (λ h. run_of (written_any both x h))
      where
        inside_run : (site.addr ≤ x) × (x < site.addr + (site.len + min e.len (q + 5)))
            → (x < site.addr + site.len) ⊎ (site.addr + site.len ≤ x) → AnyJump (Writes x) both
        inside_run i (inl l) = inl (i.0, omega (arith, l, front_long))
        inside_run i (inr l) = inr (inl (omega (arith, l, behind), omega (arith, i.1, behind, back_long)))

        run_of : AnyJump (Writes x) both → is_within site.addr (site.len + min e.len (q + 5)) x ≡ true
        run_of (inl f) = within_true site.addr (site.len + min e.len (q + 5)) x f.0 (omega (arith, f.1, front_long))
        run_of (inr (inl f)) = within_true site.addr (site.len + min e.len (q + 5)) x (omega (arith, f.0, behind))
            (omega (arith, f.1, behind, back_long))
        run_of (inr (inr f)) = absurd f

    -- What is punned is one run after the victim.
    pub punned_run : (x : ℕ) → is_within (e.addr + e.len) (q + 5 - e.len) x ≡ is_punned both x
    punned_run x = both_ways _ _ (λ h. let i = within_parts (e.addr + e.len) (q + 5 - e.len) x h in
        any_punned both x (inr (inl (omega (arith, i.0), omega (arith, i.0, i.1, back_long)))) (unwritten i.0))
        (λ h. let k = punned_any both x h in let b = past x k.0 k.1 in
        within_true (e.addr + e.len) (q + 5 - e.len) x b.0 (omega (arith, b.0, b.1)))
      where
        unwritten : e.addr + e.len ≤ x → AnyJump (Writes x) both → ⊥
        unwritten l (inl f) = omega (arith, f.1, behind, l)
        unwritten l (inr (inl f)) = omega (arith, f.1, l)
        unwritten l (inr (inr f)) = f

    -- What is punned is code of the site's segment.
    pub all_code : IsOpen v site e q → (x : ℕ) → is_punned both x ≡ true → share_segment v.segments site.addr x ≡ true
    all_code o x h =
        let k = punned_any both x h in
        let b = past x k.0 k.1 in
        let a : e.addr + e.len + (x - (e.addr + e.len)) ≡ x = omega (arith, b.0) in
        subst (λ (y : ℕ). share_segment v.segments site.addr y ≡ true) a (o.code (x - (e.addr + e.len)) (omega (arith, b.0, b.1)))

    -- Where that holds of what is written and punned, the victim is open.
    pub is_open : ((x : ℕ) → is_written both x ≡ true → v.lock x ≡ Free) → ((x : ℕ) → is_punned both x ≡ true
        → share_segment v.segments site.addr x ≡ true) → IsOpen v site e q
    is_open free code = record {
      free = λ k l. free (e.addr + k) (any_written both (e.addr + k) (inr (inl (omega arith, omega (arith, back_long)))));
      code = λ k l.
          let x = e.addr + e.len + k in
          code x (any_punned both x (inr (inl (omega arith, omega (arith, back_long)))) (λ f. none x (omega arith) f));
    }
      where
        none : (x : ℕ) → e.addr + e.len ≤ x → AnyJump (Writes x) both → ⊥
        none x l (inl f) = omega (arith, f.1, behind)
        none x l (inr (inl f)) = omega (arith, f.1)
        none x l (inr (inr f)) = f

    module _ (o : IsOpen v site e q) where
      -- The bytes after an open victim are code.
      code : (k : ℕ) → k < 4 - victim_own → IsCodeCell (memory_now v (e.addr + e.len + k))
      code k l =
          let x = e.addr + e.len + k in
          locked_cell (v.lock x) (v.image x) (g.code x (sym (shares x) ∙ o.code k l))

      -- The jumps end below the space's end.
      pub back_low : e.addr + q + 5 ≤ 0x7fff0000
      back_low = elim (cases_lt victim_own 4) [
        | inl l ↦ (
            let x = e.addr + e.len + (3 - victim_own) in
            let last = g.below x (sym (shares x) ∙ o.code (3 - victim_own) (omega arith)) in
            let f = few.1 in omega (arith, last, f))
        | inr h ↦ (let low = w.low in omega (arith, low))
      ]

      -- The victim's jump ends in the address space.
      low_enough : e.addr + q + 5 < 2 ^ 64
      low_enough = omega (arith, back_low)

      -- The site's jump ends below the space's end.
      pub front_end : site.addr + p + 5 ≤ 0x7fff0000
      front_end = let i = inside in omega (arith, back_low, behind, i)

      -- The front jump ends in the address space.
      low_front : site.addr + p + 5 < 2 ^ 64
      low_front = omega (arith, front_end)

      -- The front jump's high displacement bytes are the back one's first.
      abbrev Fronts : Type 0
      Fronts = drop own (rel_bytes (site.addr + p + 5) t) ≡ take (4 - own) (code_of e.addr q pad u)

      -- The back jump's are those that stand after the victim.
      abbrev Backs : Type 0
      Backs = drop victim_own (rel_bytes (e.addr + q + 5) u) ≡ bytes_from (memory_now v) (e.addr + e.len) (4 - victim_own)

      -- The back jump's bytes stand.
      other : Backs → (k : ℕ) → k < 4 - own → IsFixedByte (after (site.addr + site.len + k)) (get_or (code_of e.addr q pad u) k 0)
      other b k l =
          let a : e.addr + k ≡ site.addr + site.len + k = omega (arith, behind) in
          subst (λ (x : ℕ). IsFixedByte (after x) (get_or (code_of e.addr q pad u) k 0)) a
          (pairs.back_byte (memory_now v) after e.addr e.len q pad u victim_own few.1 refl low_enough victim_byte left_byte code b k
          (omega arith))

      -- The back jump has four bytes at least.
      four : 4 ≤ length (code_of e.addr q pad u)
      four = omega (arith, back_long)

      -- How many displacement bytes the front jump has before the back one.
      is_own : own ≡ min (site.len - p - 1) 4
      is_own = omega arith

      -- Where the jumps stand, they meet.
      pub meet : AllByRecursion (λ j. IsFixed after j.at j.bytes) both → Fronts × Backs
      meet h =
          let b = pairs.back_to
          (memory_now v) after e.addr e.len q pad u victim_own few.1 refl low_enough victim_byte left_byte code h.1.0 in (
            pairs.front_to after site.addr site.len p 0x40 t own inside is_own low_front (code_of e.addr q pad u) four site_byte
                (other b) h.0,
            b,
          )

      -- Where they meet, they stand.
      pub stand : Fronts → Backs → AllByRecursion (λ j. IsFixed after j.at j.bytes) both
      stand f b = (
        pairs.front_from after site.addr site.len p 0x40 t own inside is_own low_front (code_of e.addr q pad u) four site_byte (other b) f,
        (pairs.back_from (memory_now v) after e.addr e.len q pad u victim_own few.1 refl low_enough victim_byte left_byte code b, tt),
      )

      -- Where both jumps stand, the plan is allowed.
      pub allowed : (x : ℕ) → IsBehind v site e p q pad x u → Fronts → Backs → IsAllowed v site (T2 e p q pad x t u)
      allowed x form f b = record { form = form; free = all_free o; punned = all_code o; stands = stand f b }
