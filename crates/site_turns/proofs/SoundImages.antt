-- Where a file loads what the turns have done, no rule of a sound image fails.
use Rattle.std.proofs.Common.{◌≡◌, inl, inr, ℕ, ◌+◌, ◌-◌, ◌<◌, ◌≤◌, Bool, true, false, cond, not, ◌&&◌, ◌||◌, eqb, leb, ltb, List, length, slice_index, Option, Some, None, refl, sym, ap, ◌∙◌, subst, arith}
use Rattle.std.specs.Prelude.{unwrap_or}
use Rattle.std.specs.Option.{is_some}
use Rattle.std.specs.List.{list_any}
use Rattle.std.proofs.lemmas.Bool.{and_parts, and_from, or_cases, or_left, or_right, eq-eqb, le-leb, lt-ltb, leb-true, ltb-true, false≢true, true≢false}
use Rattle.pun_base.specs.Memory.{Cell, Bytes}
use Rattle.pun_base.specs.Ranges.{is_within}
use Rattle.cpu_state.specs.Fixed.{IsFixed}
use Rattle.relocate_insn.proofs.FixedCode.{SameCode, fixed_on}
use Rattle.elf_emit.proofs.StayingSegments.{all_map}
use Rattle.patch_report.proofs.ListPlaces.{place_of, contains_at, all_in, any_at, some_is}
use Rattle.start_entries.specs.declared.entry.StartEntry.{StartEntry}
use Rattle.start_entries.specs.SharedBytes.{has_byte}
use Rattle.start_entries.specs.Finding.{entry_at}
use Rattle.start_entries.specs.Leading.{Leads}
use Rattle.start_entries.specs.Standing.{AreEntries}
use Rattle.sound_images.specs.Reports.{Line, lines, runs, in_run, starts_line, is_written, on_page, in_private, tramps_of}
use Rattle.sound_images.specs.Rules.{Case, times_owned, belongs, holds_byte, mistells, is_unexpected, is_expected, displaced_at, is_own, LiesIn, HasCode, is_below, row_before, ByteFails, WriteFails, EntryFails, CodeFails, RangeFails, RowFails, SiteFails, IsSound}
use Rattle.sound_images.proofs.StartPairs.{sound_followed}
use Rattle.site_turns.specs.States.{Scene, HasEvents, State, first_state, memory_at, report_of}
use Rattle.site_turns.specs.Choices.{state_after}
use Rattle.site_turns.specs.Folded.{Done, done_by, in_code, IsHeld, IsLed, Tells, IsRowOf, IsKept, IsFolded}
use Rattle.site_turns.specs.Loaded.{case_of, zeros, AreShown, IsLoaded}
use Rattle.site_turns.specs.Laws.{FoldedIsSound, TurnsAreFollowed}
use Rattle.site_turns.proofs.JoinedLists.{any_all}
use Rattle.site_turns.proofs.KeptLocks.{within}
use Rattle.site_turns.proofs.CodeSizes.{code_fills}
use Rattle.site_turns.proofs.TurnFold.{turns_keep}
use Rattle.site_turns.proofs.CountedEntries.{count_once}
use Rattle.site_turns.proofs.CellsAndRows.{not_both, byte_kept, held_by, none_by, holds_some, held_parts, two_pass, is_lower}

module _ (g : Scene) (t : State) (pages : List (ℕ × ℕ)) (patched : Bytes) (entry : ℕ) (A : AreEntries g.image g.entries) (f : IsFolded g t)
    (E : HasEvents g) (w : IsLoaded g t pages patched) where
  abbrev c : Case
  c = case_of g t pages patched entry

  abbrev d : Done
  d = done_by t

  -- the invariant keeps what was done
  k : IsKept g d
  k = f.kept

  -- rule 1: original bytes stay
  rule_1 : (x : ℕ) → ByteFails c x → ⊥
  rule_1 x h = byte_kept (g.image x) (patched x) (t.lock x) (is_written c.report x) (w.originals x) (k.others x) h

  -- rule 2: runs tell old and new bytes
  not_told : (x : ℕ) → (list_any (mistells c x) (runs c.report) ≡ true) → ⊥
  not_told x h =
      let q = any_all (λ r. (x : ℕ) → in_run x r ≡ true → Tells g d r x) (mistells c x) (runs c.report) h k.tells in
      let a = and_parts (in_run x q.0) (not (holds_byte (g.image x) (slice_index q.0.was (x - q.0.addr)))
      || not (holds_byte (patched x) (slice_index q.0.now (x - q.0.addr)))) q.1 in
      let s = q.2 x a.0 in
      let o = w.originals x (holds_some (g.image x) (slice_index q.0.was (x - q.0.addr)) s.was) in
      elim (or_cases (not (holds_byte (g.image x) (slice_index q.0.was (x - q.0.addr))))
      (not (holds_byte (patched x) (slice_index q.0.now (x - q.0.addr)))) a.1) [
        | inl n ↦ not_both (holds_byte (g.image x) (slice_index q.0.was (x - q.0.addr))) s.was n
        | inr n ↦ not_both (holds_byte (patched x) (slice_index q.0.now (x - q.0.addr)))
            (ap (λ z. holds_byte z (slice_index q.0.now (x - q.0.addr))) o ∙ s.now) n
      ]

  -- a written byte is one of exactly one listed instruction, which has a trampoline
  has_it : (x : ℕ) (e : StartEntry) → e.addr ≤ x → x < e.addr + e.len → has_byte x e ≡ true
  has_it x e lo hi = and_from (leb e.addr x) (ltb x (e.addr + e.len)) (le-leb e.addr x lo) (lt-ltb x (e.addr + e.len) hi)

  -- each written byte belongs to the start of a trampoline
  belonging : (x : ℕ) → is_written c.report x ≡ true → belongs c x ≡ true
  belonging x h =
      let o = k.owned x h in
      let p = place_of g.entries o.entry o.listed in
      let here : has_byte x o.entry ≡ true = has_it x o.entry o.low o.high in
      and_from (eqb (times_owned c x) 1) (list_any (λ (e : StartEntry). has_byte x e && starts_line c.report e.addr) g.entries)
      (eq-eqb (times_owned c x) 1 (count_once g.entries (has_byte x) A.ascending p.0 o.entry p.1 here (λ i e q t.
      let r = and_parts (leb e.addr x) (ltb x (e.addr + e.len)) t in
      ap (λ (z : StartEntry). z.addr) (o.alone e (contains_at g.entries i e q) (leb-true e.addr x r.0) (ltb-true x (e.addr + e.len) r.1)))))
      (any_at (λ (e : StartEntry). has_byte x e && starts_line c.report e.addr) g.entries p.0 o.entry p.1
      (and_from (has_byte x o.entry) (starts_line c.report o.entry.addr) here o.starts))

  -- rule 2 fails nowhere
  rule_2 : (x : ℕ) → WriteFails c x → ⊥
  rule_2 x h = elim h.1 [
    | inl n ↦ not_told x n
    | inr (inl n) ↦ omega (arith, n, k.apart x)
    | inr (inr n) ↦ true≢false (sym (belonging x h.0) ∙ n)
  ]

  -- rule 3: what can be executed and not written stands in the patched image as after the turns
  same_code : SameCode (memory_at g t) patched
  same_code x h n = w.originals x (held_by 1 (t.lock x) (g.image x) h)

  -- in the loaded image each line's start leads to its place
  leads_in : (l : Line) → IsLed g d l → Leads patched g.entries l.tramp.start l.tramp.place
  leads_in l h = h.leads patched (all_map (IsHeld g d) (λ j. IsFixed patched j.at j.bytes) h.jumps
      (λ j q. fixed_on (memory_at g t) patched j.at j.bytes same_code q.stands) h.held)

  -- rule 3 fails nowhere
  rule_3 : (x : ℕ) → EntryFails c x → ⊥
  rule_3 x (l, i, e, n) =
      let led = all_in (IsLed g d) d.lines l k.led (place_of d.lines l i) in
      elim n [
        | inl o ↦ true≢false (sym led.displaced ∙ ap (λ z. is_some (displaced_at g.entries z)) e ∙ ap is_some o)
        | inr (inl o) ↦ omega (arith, o, k.once x)
        | inr (inr o) ↦ o (subst (λ (z : ℕ). Leads patched g.entries z l.tramp.place) e (leads_in l led))
      ]

  -- rule 4: code
  lies : (i x : ℕ) → (a : LiesIn c i x) → in_code g x a.line ≡ true
  lies i x a =
      let s = code_fills c g a.line a.code A refl refl E a.has in
      ap (λ o. is_within a.line.tramp.place (unwrap_or o 0) x) s ∙ within a.line.tramp.place (length a.code) x a.low a.high

  -- rule 4 fails nowhere
  rule_4 : (x : ℕ) → CodeFails c x → ⊥
  rule_4 x (i, a, n) = elim n [
    | inl o ↦ (let q = all_in (λ l. (entry : ℕ) (code : List ℕ) → HasCode (case_of g t pages patched entry) l code
        → AreShown patched l.tramp.place code) (lines c.report) a.line w.code (i, a.listed) entry a.code a.has in
        let low = a.low in
        let high = a.high in
        let at : a.line.tramp.place + (x - a.line.tramp.place) ≡ x = omega (arith, low) in
        o (ap patched (sym at) ∙ q (x - a.line.tramp.place) (omega (arith, low, high))))
    | inr (inl (j, o, b)) ↦ two_pass (in_code g x) d.lines i j a.line b.line (k.alone x) o a.listed b.listed (lies i x a) (lies j x b)
    | inr (inr o) ↦ (let q = all_in (λ l. (entry : ℕ) (code : List ℕ) → HasCode (case_of g t pages patched entry) l code
        → (x : ℕ) → l.tramp.place ≤ x → x < l.tramp.place + length code → on_page (report_of g t pages) x ≡ true) (lines c.report) a.line
        w.covered (i, a.listed) entry a.code a.has x a.low a.high in true≢false (sym q ∙ o))
  ]

  -- a byte of the private range is a zero, RW
  zero_at : (b : Bool) (e : Cell) → cond b (Some (record { byte = 0; perms = 6 })) None ≡ Some e → (b ≡ true) × (e ≡ record { byte = 0; perms = 6 })
  zero_at true e h = (refl, some_is e (record { byte = 0; perms = 6 }) (sym h))
  zero_at false e h = absurd cc

  -- each byte that is loaded where the original has none is expected
  expected : (x : ℕ) (e : Cell) → g.image x ≡ None → patched x ≡ Some e → is_expected c.report x e ≡ true
  expected x e n h = elim (held_parts (w.table x) (zeros g x) (w.shown x) (memory_at g t x) e (none_by (t.lock x) (g.image x) n) (sym (w.image x) ∙ h)) [
    | inl o ↦ (let q = w.header x e o in or_left _ _
        (and_from (leb 0x10000 x) (ltb x 0x1E000 && eqb e.perms 4) (le-leb 0x10000 x q.0)
        (and_from (ltb x 0x1E000) (eqb e.perms 4) (lt-ltb x 0x1E000 q.1) (eq-eqb e.perms 4 q.2))))
    | inr (inl o) ↦ (let q = zero_at (in_private c.report x) e o in or_right _ _ (or_left _ _
        (and_from (in_private c.report x) (eqb e.byte 0 && eqb e.perms 6) q.0
        (and_from (eqb e.byte 0) (eqb e.perms 6) (eq-eqb e.byte 0 (ap (λ (z : Cell). z.byte) q.1)) (eq-eqb e.perms 6 (ap (λ (z : Cell). z.perms) q.1))))))
    | inr (inr o) ↦ (let q = w.page x e o in or_right _ _ (or_right _ _
        (and_from (on_page c.report x) (eqb e.perms 5) q.0 (eq-eqb e.perms 5 q.1))))
  ]

  -- no byte that is loaded is unexpected
  nothing_else : (x : ℕ) (o q : Option Cell) → g.image x ≡ o → patched x ≡ q → is_unexpected c.report x o q ≡ true → ⊥
  nothing_else x (Some e) q n h u = false≢true u
  nothing_else x None None n h u = false≢true u
  nothing_else x None (Some e) n h u = not_both (is_expected c.report x e) (expected x e n h) u

  -- rule 5 fails nowhere
  rule_5 : (x : ℕ) → RangeFails c x → ⊥
  rule_5 x (inl u) = nothing_else x (g.image x) (patched x) refl refl u
  rule_5 x (inr (h, n)) =
      let q = w.claimed x h in
      let low = q.low in
      elim n [
        | inl o ↦ true≢false (sym q.loaded ∙ ap is_some o)
        | inr (inl o) ↦ q.new o
        | inr (inr (inl o)) ↦ true≢false (sym o ∙ q.one)
        | inr (inr (inr o)) ↦ omega (arith, low, o)
      ]

  -- rule 6: rows
  row_fails : (x : ℕ) → RowFails c x → ⊥
  row_fails x (i, r, e, s, n) =
      let row = all_in (IsRowOf g.entries) t.rows r f.rows (i, e) in
      elim n [
        | inl o ↦ true≢false (sym row.listed ∙ ap (λ z. is_some (entry_at g.entries z)) s ∙ o)
        | inr (inl o) ↦ true≢false (sym (is_lower t.rows i r f.descend e) ∙ ap (λ z. is_below z (row_before t.rows i)) s ∙ o)
        | inr (inr o) ↦ true≢false (sym row.own ∙ ap (λ z. is_own z (tramps_of r.outcome)) s ∙ o)
      ]

  -- rule 6 fails nowhere
  rule_6 : (x : ℕ) → SiteFails c x → ⊥
  rule_6 x (inl h) = row_fails x h
  rule_6 x (inr (inl h)) = h.1 h.0
  rule_6 x (inr (inr h)) = let room = w.room in let at = h.0 in let n = h.1 in omega (arith, room, at, n)

  -- the image breaks no rule of a sound image
  pub sound : IsSound c
  sound rule x (inl h) = rule_1 x h.1
  sound rule x (inr (inl h)) = rule_2 x h.1
  sound rule x (inr (inr (inl h))) = rule_3 x h.1
  sound rule x (inr (inr (inr (inl h)))) = rule_4 x h.1
  sound rule x (inr (inr (inr (inr (inl h))))) = rule_5 x h.1
  sound rule x (inr (inr (inr (inr (inr h))))) = rule_6 x h.1

-- an image that loads what the turns have done breaks no rule of a sound image
pub folded_is_sound : FoldedIsSound
folded_is_sound g t pages patched entry A f E w = sound g t pages patched entry A f E w

-- a program whose image loads what the turns have done runs as the original does
pub turns_are_followed : TurnsAreFollowed
turns_are_followed g ss sites choices pages patched entry S A E s h w r =
    let t = state_after g (first_state g) sites choices in
    (sound_followed (case_of g t pages patched entry) A r (sound g t pages patched entry A (turns_keep g ss sites choices S A s h) E w)).1
