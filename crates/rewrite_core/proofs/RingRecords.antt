-- Under a ring the record holds the last events, each in its slot.
use Rattle.std.proofs.Common.{◌≡◌, ◌⊎◌, inl, inr, ℕ, suc, ◌+◌, ◌-◌, ◌*◌, ◌%◌, ◌^◌, ◌≤◌, ◌<◌, List, [], ◌∷◌, ◌++◌, length, replicate, refl, sym, ap, ◌∙◌, subst, arith}
use Rattle.std.proofs.Math.Nat.{add-mod, add-mod_left, mod-eq_of_lt}
use Rattle.std.proofs.lemmas.Bool.{cases_lt}
use Rattle.std.proofs.lemmas.List.{length-replicate}
use Rattle.pun_base.specs.Field.{field, with_field}
use Rattle.pun_base.specs.declared.action.Action.{Action}
use Rattle.pun_base.specs.declared.action.Action.TheVariants.{Ring}
use Rattle.trampoline.specs.Events.{Seen, marked, ring_mark}
use Rattle.sound_images.proofs.RelatedStates.{marked_more}
use Rattle.rewrite_core.specs.Glosses.{slot, RingRecord}
use Rattle.rewrite_core.proofs.ChangedFields.{length-with_field, field_same, field_other, zero_field}

module _ (n : ℕ) (some : 1 ≤ n) (most : n ≤ 65536) where
  -- ---- places

  -- a remainder by the ring's size is below it
  mod_below : (x : ℕ) → x % n < n
  mod_below x = omega (arith, some)

  -- one place on, and then k more
  shift : (p k : ℕ) → ((p + 1) % n + k) % n ≡ (p + suc k) % n
  shift p k =
      add-mod ((p + 1) % n) k n
      ∙ ap (λ (z : ℕ). (z + k % n) % n) (mod-eq_of_lt (mod_below (p + 1)))
      ∙ sym (add-mod (p + 1) k n)
      ∙ ap (λ (z : ℕ). z % n) (let e : p + 1 + k ≡ p + suc k = omega arith in e)

  -- fewer than n steps don't lead back
  away : (q d : ℕ) → q < n → 0 < d → d < n → (q + d) % n ≡ q → ⊥
  away q d l s m h = elim (cases_lt (q + d) n) [
    | inl a ↦ (let e : (q + d) % n ≡ q + d = mod-eq_of_lt a in omega (arith, e, h, s))
    | inr a ↦ (let low : q + d - n < n = omega arith in
        let e : q + d ≡ n + (q + d - n) = omega arith in
        let f : (q + d) % n ≡ q + d - n = ap (λ (z : ℕ). z % n) e ∙ add-mod_left n (q + d - n) ∙ mod-eq_of_lt low in
        omega (arith, f, h, m, a))
  ]

  -- ---- one event of site i, at position p

  abbrev turned : ℕ → ℕ → List ℕ → List ℕ
  turned p i bytes = with_field 4 0 ((p + 1) % n) (with_field 4 (4 + 4 * p) (i + 1) bytes)

  -- no byte is lost
  longer : (p i : ℕ) (bytes : List ℕ) → length bytes ≤ length (turned p i bytes)
  longer p i bytes = omega (
    arith,
    length-with_field 4 (4 + 4 * p) (i + 1) bytes,
    length-with_field 4 0 ((p + 1) % n) (with_field 4 (4 + 4 * p) (i + 1) bytes),
  )

  -- the position is the next
  next : (p i : ℕ) (bytes : List ℕ) → field 4 0 (turned p i bytes) ≡ (p + 1) % n
  next p i bytes =
      field_same 4 0 ((p + 1) % n) (with_field 4 (4 + 4 * p) (i + 1) bytes) (omega arith)
      (let b = mod_below (p + 1) in omega (arith, b, most))

  -- the slot of an event has its number
  written : (p i : ℕ) (bytes : List ℕ) → p < n → 4 + 4 * n ≤ length bytes → i + 1 < 2 ^ 32 → slot p (turned p i bytes) ≡ i + 1
  written p i bytes l room small =
      field_other 4 4 0 (4 + 4 * p) ((p + 1) % n) (with_field 4 (4 + 4 * p) (i + 1) bytes)
      (omega (arith, length-with_field 4 (4 + 4 * p) (i + 1) bytes, l, room)) (inr (omega arith))
      ∙ field_same 4 (4 + 4 * p) (i + 1) bytes (omega (arith, l, room)) small

  -- the slots of other positions lie apart
  apart : (p j : ℕ) → (j ≡ p → ⊥) → (4 + 4 * j + 4 ≤ 4 + 4 * p) ⊎ (4 + 4 * p + 4 ≤ 4 + 4 * j)
  apart p j h = elim (cases_lt j p) [
    | inl a ↦ inl (omega (arith, a))
    | inr a ↦ elim (cases_lt p j) [ inl b ↦ inr (omega (arith, b)) | inr b ↦ absurd (h (omega (arith, a, b))) ]
  ]

  -- an event leaves the slots other than its own as they are
  other : (p i j : ℕ) (bytes : List ℕ) → j < n → 4 + 4 * n ≤ length bytes → (j ≡ p → ⊥) → slot j (turned p i bytes) ≡ slot j bytes
  other p i j bytes l room h =
      field_other 4 4 0 (4 + 4 * j) ((p + 1) % n) (with_field 4 (4 + 4 * p) (i + 1) bytes)
      (omega (arith, length-with_field 4 (4 + 4 * p) (i + 1) bytes, l, room)) (inr (omega arith))
      ∙ field_other 4 4 (4 + 4 * p) (4 + 4 * j) (i + 1) bytes (omega (arith, l, room)) (apart p j h)

  -- ---- events

  -- no byte is lost
  grows : (es : List Seen) (bytes : List ℕ) → length bytes ≤ length (marked (Ring n) es bytes)
  grows [] bytes = omega arith
  grows (e ∷ es) bytes =
      let more = grows es (ring_mark n e.number bytes) in
      let one = longer (field 4 0 bytes) e.number bytes in
      both (length bytes) (length (ring_mark n e.number bytes)) (length (marked (Ring n) es (ring_mark n e.number bytes))) one more
    where
      both : (a b c : ℕ) → a ≤ b → b ≤ c → a ≤ c
      both a b c h k = omega (arith, h, k)

  -- each moves the position on
  position : (p : ℕ) (es : List Seen) (bytes : List ℕ) → p < n → field 4 0 bytes ≡ p
      → field 4 0 (marked (Ring n) es bytes) ≡ (p + length es) % n
  position p [] bytes l e = e ∙ sym (mod-eq_of_lt l) ∙ ap (λ (z : ℕ). z % n) (let f : p ≡ p + 0 = omega arith in f)
  position p (e ∷ es) bytes l at =
      position ((p + 1) % n) es (ring_mark n e.number bytes) (mod_below (p + 1))
      (next (field 4 0 bytes) e.number bytes ∙ ap (λ (z : ℕ). (z + 1) % n) at)
      ∙ shift p (length es)

  -- a slot at which none of them stands stays
  stays : (p j : ℕ) (es : List Seen) (bytes : List ℕ) → p < n → field 4 0 bytes ≡ p → j < n → 4 + 4 * n ≤ length bytes
      → ((k : ℕ) → k < length es → (p + k) % n ≡ j → ⊥) → slot j (marked (Ring n) es bytes) ≡ slot j bytes
  stays p j [] bytes l at b room h = refl
  stays p j (e ∷ es) bytes l at b room h =
      stays ((p + 1) % n) j es (ring_mark n e.number bytes) (mod_below (p + 1))
      (next (field 4 0 bytes) e.number bytes ∙ ap (λ (z : ℕ). (z + 1) % n) at) b
      (let m = longer (field 4 0 bytes) e.number bytes in enough (length bytes) (length (ring_mark n e.number bytes)) room m)
      (λ k m f. h (suc k) (omega (arith, m)) (sym (shift p k) ∙ f))
      ∙ other (field 4 0 bytes) e.number j bytes b room
      (λ f. h 0 (omega arith) (ap (λ (z : ℕ). z % n) (let g : p + 0 ≡ p = omega arith in g) ∙ mod-eq_of_lt l ∙ sym (f ∙ at)))
    where
      enough : (a c : ℕ) → 4 + 4 * n ≤ a → a ≤ c → 4 + 4 * n ≤ c
      enough a c h k = omega (arith, h, k)

  -- the slot of an event has its number until n more come
  lasts : (before : List Seen) (e : Seen) (after : List Seen) (bytes : List ℕ) → field 4 0 bytes ≡ 0 → 4 + 4 * n ≤ length bytes
      → length after < n → e.number + 1 < 2 ^ 32 → slot (length before % n) (marked (Ring n) (before ++ e ∷ after) bytes) ≡ e.number + 1
  lasts before e after bytes none room few small =
      let q = length before % n in
      let old = marked (Ring n) before bytes in
      let low : q < n = mod_below (length before) in
      let at : field 4 0 old ≡ q = position 0 before bytes (omega (arith, some)) none
      ∙ ap (λ (z : ℕ). z % n) (let z : 0 + length before ≡ length before = omega arith in z) in
      let wide : 4 + 4 * n ≤ length old = (let g = grows before bytes in omega (arith, g, room)) in
      let here : slot q (ring_mark n e.number old) ≡ e.number + 1 =
      subst (λ (z : ℕ). slot z (ring_mark n e.number old) ≡ e.number + 1) at
      (written (field 4 0 old) e.number old (subst (λ (z : ℕ). z < n) (sym at) low) wide small) in
      ap (slot q) (marked_more (Ring n) before (e ∷ after) bytes)
      ∙ stays ((q + 1) % n) q after (ring_mark n e.number old) (mod_below (q + 1))
      (next (field 4 0 old) e.number old ∙ ap (λ (z : ℕ). (z + 1) % n) at) low
      (let g = longer (field 4 0 old) e.number old in omega (arith, g, wide))
      (λ k m f. away q (suc k) low (omega arith) (omega (arith, m, few)) (sym (shift q k) ∙ f))
      ∙ here

-- under a ring that can be asked for, the record is the ring of the last events
pub ring_tells : RingRecord
ring_tells r events n is asked room =
    let zeros : List ℕ = replicate r.data_len 0 in
    let some = asked.0 in
    let most = asked.1 in
    let none : field 4 0 zeros ≡ 0 = zero_field 4 0 r.data_len in
    let wide : 4 + 4 * n ≤ length zeros = omega (arith, length-replicate {A = ℕ} r.data_len 0, room) in
    record {
      position = ap (λ (a : Action). field 4 0 (marked a events zeros)) is
          ∙ position n some most 0 events zeros (omega (arith, some)) none
          ∙ ap (λ (z : ℕ). z % n) (let z : 0 + length events ≡ length events = omega arith in z);
      last = λ before e after whole few small.
          ap (λ (a : Action). slot (length before % n) (marked a events zeros)) is
          ∙ ap (λ (es : List Seen). slot (length before % n) (marked (Ring n) es zeros)) whole
          ∙ lasts n some most before e after zeros none wide few small;
      unreached = λ j l b.
          ap (λ (a : Action). slot j (marked a events zeros)) is
          ∙ stays n some most 0 j events zeros (omega (arith, some)) none b wide
          (λ k m f. let g : (0 + k) % n ≡ 0 + k = mod-eq_of_lt (omega (arith, m, l, b)) in omega (arith, f, g, m, l))
          ∙ zero_field 4 (4 + 4 * j) r.data_len;
    }
