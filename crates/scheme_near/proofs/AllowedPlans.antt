-- Which plans of scheme T3 are allowed: those of an open victim whose jumps meet.
use Rattle.std.proofs.Common.{◌≡◌, ◌⊎◌, inl, inr, ℕ, ◌+◌, ◌-◌, ◌^◌, ◌<◌, ◌≤◌, min, true, ◌||◌, List, [], ◌∷◌, length, take, drop, get_or, Option, Some, None, sym, ap, ◌∙◌, subst, arith}
use Rattle.std.specs.Option.{option_or}
use Rattle.std.specs.List.{AllByRecursion}
use Rattle.std.proofs.lemmas.Bool.{cases_lt, or_left, or_right, or_cases}
use Rattle.std.proofs.Math.Bool.{or-false}
use Rattle.std.specs.Cmp.{both_ways}
use Rattle.pun_base.specs.Memory.{Cell, Bytes}
use Rattle.pun_base.specs.Ranges.{is_within}
use Rattle.elf_read.specs.declared.segment.Segment.{Segment}
use Rattle.elf_read.specs.Code.{is_exec_in}
use Rattle.cpu_state.specs.Fixed.{IsFixed}
use Rattle.byte_locks.specs.declared.lock.Lock.TheVariants.{Free}
use Rattle.insn_form.specs.Moved.{rel_bytes}
use Rattle.start_entries.specs.declared.entry.StartEntry.{StartEntry}
use Rattle.start_list.specs.TurnViews.{TurnView, memory_now, is_code_of, share_segment}
use Rattle.start_list.specs.PlanJumps.{Jump, padded_jump, short_jump, written, is_written, is_punned, cell_with, after_writes}
use Rattle.start_list.specs.Forms.{T3, IsNear}
use Rattle.start_list.specs.Admissible.{IsAllowed}
use Rattle.start_list.specs.Plans.{AreRuns, bytes_from}
use Rattle.scheme_search.proofs.CodeCells.{IsCodeCell, IsFixedByte, locked_cell, to_fixed}
use Rattle.scheme_search.proofs.OneJumpBytes.{jump_length, within_true, within_parts}
use Rattle.scheme_search.proofs.SiteJumpTargets.{OnSite}
use Rattle.scheme_search.proofs.JumpBytes.{Writes, Spans, AnyJump, written_in, written_out, written_any, any_written, punned_any, any_punned}
use Rattle.scheme_search.proofs.MeetingJumps as pairs
use Rattle.scheme_search.proofs.MeetingJumps.{code_of}
use Rattle.scheme_search.proofs.NeighbourEntries.{IsEntry, fixed_written}
use Rattle.scheme_near.specs.Choices.{IsOpen}

module _ (v : TurnView) (site e : StartEntry) (s : Segment) (g : OnSite v site s) (w : IsEntry v e) (room : 2 ≤ site.len)
    (above : site.addr + site.len ≤ e.addr) (i : ℕ) (inside : (2 ≤ i) × (i < e.len)) where
  -- How many displacement bytes of the victim's own jump lie before the jump inside.
  abbrev pub own : ℕ
  own = min (i - 1) 4

  -- How many of the jump inside lie in the victim.
  abbrev pub inner_own : ℕ
  inner_own = min (e.len - i - 1) 4

  -- Which bytes are of the site's segment.
  shares : (x : ℕ) → share_segment v.segments site.addr x ≡ is_exec_in x s
  shares x = ap (λ (o : Option Segment). is_code_of o x) g.segment

  module _ (t u : ℕ) where
    -- The site's short jump.
    abbrev short : Jump
    short = short_jump site.addr site.len (e.addr + i)

    -- The jump inside the victim.
    abbrev inner : Jump
    inner = padded_jump (e.addr + i) (e.len - i) 0 0x40 t

    -- The victim's own jump.
    abbrev outer : Jump
    outer = padded_jump e.addr e.len 0 0x40 u

    -- The three jumps.
    abbrev pub three : List Jump
    three = short ∷ inner ∷ outer ∷ []

    -- Memory after the writes.
    abbrev pub after : Bytes
    after = after_writes (memory_now v) three

    -- The short jump writes the site's first two bytes.
    pub written_site : (k : ℕ) → k < 2 → written three (site.addr + k) ≡ Some (get_or short.bytes k 0)
    written_site k l = ap (λ (o : Option ℕ). option_or o (written (inner ∷ outer ∷ []) (site.addr + k))) (written_in short k (omega arith))

    -- The jump inside writes its first bytes.
    pub written_inner : (k : ℕ) → k < min (e.len - i) 5 → written three (e.addr + i + k) ≡ Some (get_or inner.bytes k 0)
    written_inner k l =
        let x = e.addr + i + k in
        ap (λ (o : Option ℕ). option_or o (written (inner ∷ outer ∷ []) x)) (written_out short x (inr (omega arith)))
        ∙ ap (λ (o : Option ℕ). option_or o (written (outer ∷ []) x)) (written_in inner k (omega arith))

    -- The victim's own jump writes what lies before it.
    pub written_outer : (k : ℕ) → k < min i 5 → written three (e.addr + k) ≡ Some (get_or outer.bytes k 0)
    written_outer k l =
        let x = e.addr + k in
        let j = inside.1 in
        ap (λ (o : Option ℕ). option_or o (written (inner ∷ outer ∷ []) x)) (written_out short x (inr (omega arith)))
        ∙ ap (λ (o : Option ℕ). option_or o (written (outer ∷ []) x)) (written_out inner x (inl (omega arith)))
        ∙ ap (λ (o : Option ℕ). option_or o None) (written_in outer k (omega arith))

    -- Behind the victim nothing is written.
    left : (x : ℕ) → e.addr + e.len ≤ x → written three x ≡ None
    left x l =
        let j = inside.1 in
        ap (λ (o : Option ℕ). option_or o (written (inner ∷ outer ∷ []) x)) (written_out short x (inr (omega arith)))
        ∙ ap (λ (o : Option ℕ). option_or o (written (outer ∷ []) x)) (written_out inner x (inr (omega arith)))
        ∙ ap (λ (o : Option ℕ). option_or o None) (written_out outer x (inr (omega arith)))

    -- A byte that is written on code stands.
    byte_written : (x b : ℕ) → IsCodeCell (v.image x) → written three x ≡ Some b → IsFixedByte (after x) b
    byte_written x b c h =
        let held = locked_cell (v.lock x) (v.image x) c in
        let m = ap (λ (o : Option ℕ). cell_with o (memory_now v x)) h in
        subst (λ (d : Option Cell). IsFixedByte d b) (sym m) (fixed_written b (memory_now v x) held)

    -- The site's bytes stand after the writes.
    site_byte : (k : ℕ) → k < 2 → IsFixedByte (after (site.addr + k)) (get_or short.bytes k 0)
    site_byte k l = byte_written (site.addr + k) (get_or short.bytes k 0) (g.site_code k (omega arith)) (written_site k l)

    -- The bytes of the jump inside the victim stand after the writes.
    inner_byte : (k : ℕ) → k < min (e.len - i) 5 → IsFixedByte (after (e.addr + i + k)) (get_or inner.bytes k 0)
    inner_byte k l =
        let j = inside.1 in
        let a : e.addr + (i + k) ≡ e.addr + i + k = omega arith in
        byte_written (e.addr + i + k) (get_or inner.bytes k 0) (subst (λ (x : ℕ). IsCodeCell (v.image x)) a
        (w.code (i + k) (omega arith))) (written_inner k l)

    -- The bytes of the victim's own jump before the jump inside stand after the writes.
    outer_byte : (k : ℕ) → k < min i 5 → IsFixedByte (after (e.addr + k)) (get_or outer.bytes k 0)
    outer_byte k l = let j = inside.1 in byte_written (e.addr + k) (get_or outer.bytes k 0) (w.code k (omega arith)) (written_outer k l)

    -- Behind the victim stands what stood.
    left_byte : (k : ℕ) → k < 4 - inner_own → after (e.addr + i + (e.len - i) + k) ≡ memory_now v (e.addr + i + (e.len - i) + k)
    left_byte k l =
        let x = e.addr + i + (e.len - i) + k in
        let j = inside.1 in
        ap (λ (o : Option ℕ). cell_with o (memory_now v x)) (left x (omega arith))

    -- What is written is free where the victim is open.
    pub all_free : IsOpen v site e i → (x : ℕ) → is_written three x ≡ true → v.lock x ≡ Free
    all_free o x h = by_jump (written_any three x h)
      where
        by_jump : AnyJump (Writes x) three → v.lock x ≡ Free
        by_jump (inl f) =
            let a : site.addr + (x - site.addr) ≡ x = omega (arith, f.0) in
            subst (λ (y : ℕ). v.lock y ≡ Free) a (g.free (x - site.addr) (omega (arith, f.0, f.1, room)))
        by_jump (inr (inl f)) =
            let a : e.addr + i + (x - (e.addr + i)) ≡ x = omega (arith, f.0) in
            subst (λ (y : ℕ). v.lock y ≡ Free) a (o.free.inner (x - (e.addr + i)) (omega (arith, f.0, f.1)))
        by_jump (inr (inr (inl f))) =
            let a : e.addr + (x - e.addr) ≡ x = omega (arith, f.0) in
            subst (λ (y : ℕ). v.lock y ≡ Free) a (o.free.outer (x - e.addr) (omega (arith, f.0, f.1)))
        by_jump (inr (inr (inr f))) = absurd f

    -- What is punned lies after the victim.
    past : (x : ℕ) → AnyJump (Spans x) three → (AnyJump (Writes x) three → ⊥) → (e.addr + e.len ≤ x) × (x < e.addr + i + 5)
    past x (inl f) off = absurd (off (inl (f.0, omega (arith, f.1, room))))
    past x (inr (inl f)) off = elim (cases_lt x (e.addr + i + min (e.len - i) 5)) [
      | inl l ↦ absurd (off (inr (inl (f.0, l))))
      | inr l ↦ (let j = inside.1 in (omega (arith, l, f.1), omega (arith, f.1)))
    ]
    past x (inr (inr (inl f))) off = elim (cases_lt x (e.addr + min e.len 5)) [
      | inl l ↦ absurd (off (inr (inr (inl (f.0, l)))))
      | inr l ↦ (omega (arith, l, f.1), omega (arith, f.1, inside.0))
    ]
    past x (inr (inr (inr f))) off = absurd f

    -- Behind the victim none of the jumps writes.
    unwritten : (x : ℕ) → e.addr + e.len ≤ x → AnyJump (Writes x) three → ⊥
    unwritten x l (inl f) = omega (arith, f.1, room, above, l)
    unwritten x l (inr (inl f)) = let j = inside.1 in omega (arith, f.1, l)
    unwritten x l (inr (inr (inl f))) = omega (arith, f.1, l)
    unwritten x l (inr (inr (inr f))) = f

    -- What is written: the short jump, what the victim's jump has before the jump inside, and what that one has in the victim.
    abbrev pub Spot : ℕ → Type 0
    Spot x = ((site.addr ≤ x) × (x < site.addr + 2)) ⊎ (((e.addr ≤ x) × (x < e.addr + min i 5)) ⊎ ((e.addr + i ≤ x)
        × (x < e.addr + i + min (e.len - i) 5)))

    -- What is written is one of these spots.
    pub spot_of : (x : ℕ) → is_written three x ≡ true → Spot x
    spot_of x h = by_jump (written_any three x h)
      where
        by_jump : AnyJump (Writes x) three → Spot x
        by_jump (inl f) = inl (f.0, omega (arith, f.1, room))
        by_jump (inr (inl f)) = inr (inr f)
        by_jump (inr (inr (inl f))) = elim (cases_lt x (e.addr + min i 5)) [
          | inl l ↦ inr (inl (f.0, l))
          | inr l ↦ inr (inr (omega (arith, l, f.1), omega (arith, l, f.1)))
        ]
        by_jump (inr (inr (inr f))) = absurd f

    -- Each of these spots is written.
    pub of_spot : (x : ℕ) → Spot x → is_written three x ≡ true
    of_spot x (inl f) = any_written three x (inl (f.0, omega (arith, f.1, room)))
    of_spot x (inr (inl f)) = let j = inside.1 in any_written three x (inr (inr (inl (f.0, omega (arith, f.1, j)))))
    of_spot x (inr (inr f)) = any_written three x (inr (inl f))

    -- How many bytes the victim's own jump has before the jump inside.
    abbrev pub outer_count : ℕ
    outer_count = min i 5

    -- How many bytes the jump inside has in the victim.
    abbrev pub inner_count : ℕ
    inner_count = min (e.len - i) 5

    -- There are some of each.
    counts : (1 ≤ outer_count) × (1 ≤ inner_count)
    counts = let j = inside.0 in let k = inside.1 in (omega arith, omega arith)

    -- Where the victim begins after the short jump and its jumps touch, one run is written.
    pub one_run : site.addr + 2 ≡ e.addr → i ≤ 5 → AreRuns (is_written three) (record {
      addr = site.addr;
      size =
          2 + (outer_count + inner_count);
    } ∷ [])
    one_run touch few = record {
      ascend = (omega arith, tt, tt);
      told = λ x. or-false (is_within site.addr (2 + (outer_count + inner_count)) x)
          ∙ both_ways _ _ (λ h. of_spot x (to x (within_parts site.addr (2 + (outer_count + inner_count)) x h)))
          (λ h. from x (spot_of x h));
    }
      where
        to : (x : ℕ) → (site.addr ≤ x) × (x < site.addr + (2 + (outer_count + inner_count))) → Spot x
        to x f = elim (cases_lt x (site.addr + 2)) [
          | inl l ↦ inl (f.0, l)
          | inr l ↦ elim (cases_lt x (e.addr + outer_count)) [
            | inl k ↦ inr (inl (omega (arith, l, touch), k))
            | inr k ↦ inr (inr (omega (arith, k, few), omega (arith, f.1, touch, few)))
          ]
        ]

        from : (x : ℕ) → Spot x → is_within site.addr (2 + (outer_count + inner_count)) x ≡ true
        from x (inl f) = within_true site.addr (2 + (outer_count + inner_count)) x f.0 (omega (arith, f.1))
        from x (inr (inl f)) = within_true site.addr (2 + (outer_count + inner_count)) x (omega (arith, f.0, touch))
            (omega (arith, f.1, touch))
        from x (inr (inr f)) = within_true site.addr (2 + (outer_count + inner_count)) x (omega (arith, f.0, touch))
            (omega (arith, f.1, touch, few))

    -- Where the victim begins after the short jump and its jumps don't touch, two runs are written.
    pub front_run : site.addr + 2 ≡ e.addr → 5 < i → AreRuns (is_written three) (record {
      addr = site.addr;
      size =
          2 + outer_count;
    } ∷ record { addr = e.addr + i; size = inner_count } ∷ [])
    front_run touch many = record {
      ascend = (omega arith, (omega (arith, touch, many), tt), (counts.1, tt, tt));
      told = λ x. ap (λ b. is_within site.addr (2 + outer_count) x || b) (or-false (is_within (e.addr + i) inner_count x))
          ∙ both_ways _ _ (λ h. of_spot x (to x (or_cases _ _ h))) (λ h. from x (spot_of x h));
    }
      where
        to : (x : ℕ) → (is_within site.addr (2 + outer_count) x ≡ true) ⊎ (is_within (e.addr + i) inner_count x ≡ true) → Spot x
        to x (inr h) = inr (inr (within_parts (e.addr + i) inner_count x h))
        to x (inl h) = let f = within_parts site.addr (2 + outer_count) x h in elim (cases_lt x (site.addr + 2)) [
          | inl l ↦ inl (f.0, l)
          | inr l ↦ inr (inl (omega (arith, l, touch), omega (arith, f.1, touch)))
        ]

        from : (x : ℕ) → Spot x → (is_within site.addr (2 + outer_count) x || is_within (e.addr + i) inner_count x) ≡ true
        from x (inl f) = or_left _ _ (within_true site.addr (2 + outer_count) x f.0 (omega (arith, f.1)))
        from x (inr (inl f)) =
            or_left _ _ (within_true site.addr (2 + outer_count) x (omega (arith, f.0, touch)) (omega (arith, f.1, touch)))
        from x (inr (inr f)) = or_right _ _ (within_true (e.addr + i) inner_count x f.0 f.1)

    -- Where the victim begins above the short jump and its jumps touch, two runs are written.
    pub back_run : site.addr + 2 < e.addr → i ≤ 5 → AreRuns (is_written three) (record { addr = site.addr; size = 2 } ∷ record {
      addr =
          e.addr;
      size = outer_count + inner_count;
    } ∷ [])
    back_run apart few = record {
      ascend = (omega arith, (apart, tt), (omega (arith, counts.0), tt, tt));
      told = λ x. ap (λ b. is_within site.addr 2 x || b) (or-false (is_within e.addr (outer_count + inner_count) x))
          ∙ both_ways _ _ (λ h. of_spot x (to x (or_cases _ _ h))) (λ h. from x (spot_of x h));
    }
      where
        to : (x : ℕ) → (is_within site.addr 2 x ≡ true) ⊎ (is_within e.addr (outer_count + inner_count) x ≡ true) → Spot x
        to x (inl h) = inl (within_parts site.addr 2 x h)
        to x (inr h) = let f = within_parts e.addr (outer_count + inner_count) x h in elim (cases_lt x (e.addr + outer_count)) [
          | inl l ↦ inr (inl (f.0, l))
          | inr l ↦ inr (inr (omega (arith, l, few), omega (arith, f.1, few)))
        ]

        from : (x : ℕ) → Spot x → (is_within site.addr 2 x || is_within e.addr (outer_count + inner_count) x) ≡ true
        from x (inl f) = or_left _ _ (within_true site.addr 2 x f.0 f.1)
        from x (inr (inl f)) = or_right _ _ (within_true e.addr (outer_count + inner_count) x f.0 (omega (arith, f.1)))
        from x (inr (inr f)) =
            or_right _ _ (within_true e.addr (outer_count + inner_count) x (omega (arith, f.0)) (omega (arith, f.1, few)))

    -- Where no two of the jumps touch, three runs are written.
    pub three_runs : site.addr + 2 < e.addr → 5 < i → AreRuns (is_written three) (record { addr = site.addr; size = 2 } ∷ record {
      addr =
          e.addr;
      size = outer_count;
    } ∷ record { addr = e.addr + i; size = inner_count } ∷ [])
    three_runs apart many = record {
      ascend = (omega arith, (apart, (omega (arith, apart), tt)), (counts.0, (omega (arith, many), tt), (counts.1, tt, tt)));
      told = λ x. ap (λ b. is_within site.addr 2 x || (is_within e.addr outer_count x || b))
          (or-false (is_within (e.addr + i) inner_count x))
          ∙ both_ways _ _ (λ h. of_spot x (to x (or_cases _ _ h))) (λ h. from x (spot_of x h));
    }
      where
        later : (x : ℕ) → (is_within e.addr outer_count x ≡ true) ⊎ (is_within (e.addr + i) inner_count x ≡ true) → Spot x
        later x (inl h) = inr (inl (within_parts e.addr outer_count x h))
        later x (inr h) = inr (inr (within_parts (e.addr + i) inner_count x h))

        to : (x : ℕ)
            → (is_within site.addr 2 x ≡ true) ⊎ ((is_within e.addr outer_count x || is_within (e.addr + i) inner_count x) ≡ true) → Spot x
        to x (inl h) = inl (within_parts site.addr 2 x h)
        to x (inr h) = later x (or_cases _ _ h)

        from : (x : ℕ) → Spot x
            → (is_within site.addr 2 x || (is_within e.addr outer_count x || is_within (e.addr + i) inner_count x)) ≡ true
        from x (inl f) = or_left _ _ (within_true site.addr 2 x f.0 f.1)
        from x (inr (inl f)) = or_right _ _ (or_left _ _ (within_true e.addr outer_count x f.0 f.1))
        from x (inr (inr f)) = or_right _ _ (or_right _ _ (within_true (e.addr + i) inner_count x f.0 f.1))

    -- What is punned is one run after the victim.
    pub punned_run : (x : ℕ) → is_within (e.addr + e.len) (i + 5 - e.len) x ≡ is_punned three x
    punned_run x = both_ways _ _
        (λ h. let f = within_parts (e.addr + e.len) (i + 5 - e.len) x h in let j = inside.1 in
        any_punned three x (inr (inl (omega (arith, f.0, j), omega (arith, f.0, f.1)))) (unwritten x f.0))
        (λ h. let k = punned_any three x h in let b = past x k.0 k.1 in
        within_true (e.addr + e.len) (i + 5 - e.len) x b.0 (omega (arith, b.0, b.1)))

    -- What is punned is code of the site's segment.
    pub all_code : IsOpen v site e i → (x : ℕ) → is_punned three x ≡ true → share_segment v.segments site.addr x ≡ true
    all_code o x h =
        let k = punned_any three x h in
        let b = past x k.0 k.1 in
        let j = inside.1 in
        let a : e.addr + e.len + (x - (e.addr + e.len)) ≡ x = omega (arith, b.0) in
        subst (λ (y : ℕ). share_segment v.segments site.addr y ≡ true) a (o.code (x - (e.addr + e.len)) (omega (arith, b.0, b.1)))

    -- Where that holds of what is written and punned, the victim is open.
    pub is_open : ((x : ℕ) → is_written three x ≡ true → v.lock x ≡ Free) → ((x : ℕ) → is_punned three x ≡ true
        → share_segment v.segments site.addr x ≡ true) → IsOpen v site e i
    is_open free code = record {
      free = record {
        outer = λ k l. free (e.addr + k) (any_written three (e.addr + k) (inr (inr (inl (omega arith, omega arith)))));
        inner = λ k l. free (e.addr + i + k) (any_written three (e.addr + i + k) (inr (inl (omega arith, omega arith))));
      };
      code = λ k l.
          let x = e.addr + e.len + k in
          let j = inside.1 in
          code x (any_punned three x (inr (inl (omega arith, omega arith))) (unwritten x (omega arith)));
    }

    module _ (o : IsOpen v site e i) where
      -- The bytes after an open victim are code.
      code : (k : ℕ) → k < 4 - inner_own → IsCodeCell (memory_now v (e.addr + i + (e.len - i) + k))
      code k l =
          let x = e.addr + i + (e.len - i) + k in
          let j = inside.1 in
          let a : e.addr + e.len + k ≡ x = omega arith in
          let held = subst (λ (y : ℕ). share_segment v.segments site.addr y ≡ true) a (o.code k l) in
          locked_cell (v.lock x) (v.image x) (g.code x (sym (shares x) ∙ held))

      -- The jumps end below the space's end.
      pub inner_low : e.addr + i + 5 ≤ 0x7fff0000
      inner_low = elim (cases_lt inner_own 4) [
        | inl l ↦ (
            let x = e.addr + e.len + (3 - inner_own) in
            let last = g.below x (sym (shares x) ∙ o.code (3 - inner_own) (omega arith)) in
            let j = inside.1 in omega (arith, last, j))
        | inr h ↦ (let low = w.low in omega (arith, low))
      ]

      -- The jump inside ends in the address space.
      low_inner : e.addr + i + 0 + 5 < 2 ^ 64
      low_inner = omega (arith, inner_low)

      -- The victim's own jump ends in the address space.
      low_outer : e.addr + 0 + 5 < 2 ^ 64
      low_outer = omega (arith, inner_low)

      -- The front jump's high displacement bytes are the back one's first.
      abbrev Fronts : Type 0
      Fronts = drop own (rel_bytes (e.addr + 0 + 5) u) ≡ take (4 - own) (code_of (e.addr + i) 0 0x40 t)

      -- The back jump's are those that stand after the victim.
      abbrev Backs : Type 0
      Backs = drop inner_own (rel_bytes (e.addr + i + 0 + 5) t) ≡ bytes_from (memory_now v) (e.addr + i + (e.len - i)) (4 - inner_own)

      -- The jump inside has a byte in the victim.
      some : 0 < e.len - i
      some = let j = inside.1 in omega arith

      -- How many of its displacement bytes those are.
      is_inner : inner_own ≡ min (e.len - i - 0 - 1) 4
      is_inner = omega arith

      -- How many displacement bytes the front jump has before the back one.
      is_own : own ≡ min (i - 0 - 1) 4
      is_own = omega arith

      -- The victim's own jump has a byte before it.
      first : 0 < i
      first = let j = inside.0 in omega arith

      -- The back jump's bytes stand.
      other : Backs → (k : ℕ) → k < 4 - own → IsFixedByte (after (e.addr + i + k)) (get_or (code_of (e.addr + i) 0 0x40 t) k 0)
      other b k l =
          pairs.back_byte (memory_now v) after (e.addr + i)
          (e.len - i) 0 0x40 t inner_own some is_inner low_inner inner_byte left_byte code b k (omega arith)

      -- The back jump has four bytes at least.
      four : 4 ≤ length (code_of (e.addr + i) 0 0x40 t)
      four = omega (arith, jump_length 0 0x40 (e.addr + i + 0 + 5) t)

      -- Where the jumps stand, they meet.
      pub meet : AllByRecursion (λ j. IsFixed after j.at j.bytes) three → Fronts × Backs
      meet h =
          let b = pairs.back_to (memory_now v) after (e.addr + i)
          (e.len - i) 0 0x40 t inner_own some is_inner low_inner inner_byte left_byte code h.1.0 in (
            pairs.front_to after e.addr i 0 0x40 u own first is_own low_outer (code_of (e.addr + i) 0 0x40 t) four outer_byte
                (other b) h.1.1.0,
            b,
          )

      -- The short jump stands.
      site_stands : IsFixed after site.addr short.bytes
      site_stands = to_fixed after site.addr short.bytes (let low = g.low in omega (arith, low, room)) (λ k l. site_byte k l)

      -- Where they meet, they stand.
      pub stand : Fronts → Backs → AllByRecursion (λ j. IsFixed after j.at j.bytes) three
      stand f b = (
        site_stands,
        (
          pairs.back_from (memory_now v) after (e.addr + i)
              (e.len - i) 0 0x40 t inner_own some is_inner low_inner inner_byte left_byte code b,
          (
            pairs.front_from after e.addr i 0 0x40 u own first is_own low_outer (code_of (e.addr + i) 0 0x40 t) four outer_byte
                (other b) f,
            tt,
          ),
        ),
      )

      -- Where both jumps stand, the plan is allowed.
      pub allowed : (x : ℕ) → IsNear v site e i x t → Fronts → Backs → IsAllowed v site (T3 e i x t u)
      allowed x form f b = record { form = form; free = all_free o; punned = all_code o; stands = stand f b }
