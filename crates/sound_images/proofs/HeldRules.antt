-- What rules 1, 2, 4 and 5 say where they fail nowhere, whatever code the trampolines have.
use Rattle.std.proofs.Common.{◌≡◌, inl, inr, ℕ, ◌+◌, ◌<◌, ◌≤◌, Bool, true, false, not, ◌&&◌, ◌||◌, eqb, leb, ltb, List, Option, Some, None, refl, sym, ap, ◌∙◌, arith}
use Rattle.std.specs.Prelude.{Contains, slice_get}
use Rattle.std.specs.Option.{is_some}
use Rattle.std.specs.List.{list_any, count_by}
use Rattle.std.proofs.lemmas.Bool.{cases_Bool, cases_eq, cases_lt, and_parts, and_from, or_parts, or_cases, or_left, eqb-true, eq-eqb, leb-true, ltb-true, le-leb, lt-ltb, not-false, true_from_ne_false, false_from_ne_true, false≢true, true≢false}
use Rattle.pun_base.specs.Memory.{Cell}
use Rattle.start_entries.specs.declared.entry.StartEntry.{StartEntry}
use Rattle.start_entries.specs.SharedBytes.{has_byte}
use Rattle.start_entries.specs.Standing.{IsOnlyIn}
use Rattle.patch_report.specs.Bounds.{IsBounded}
use Rattle.patch_report.proofs.ListPlaces.{In, some_is, found, contains_at, place_of, counted_twice}
use Rattle.sound_images.specs.Reports.{Line, lines, is_written, starts_line, in_private, on_page}
use Rattle.sound_images.specs.Rules.{Case, times_owned, belongs, differs, is_unexpected, is_expected, WriteFails, RangeFails}
use Rattle.sound_images.proofs.ReportLines.{place_low}

-- a byte of an entry at which a line starts, and of no other entry
pub record Owned (c : Case) (x : ℕ) : Type 0 where
  pub line : Line
  pub entry : StartEntry
  pub in_lines : In (lines c.report) line
  pub in_list : Contains c.listed entry
  pub start : line.tramp.start ≡ entry.addr
  pub above : entry.addr ≤ x
  pub below : x < entry.addr + entry.len
  pub alone : IsOnlyIn c.listed entry x

-- an option that can't be nothing is something
pub some_unless : {X : Type 0} (o : Option X) → (o ≡ None → ⊥) → (x : X) × (o ≡ Some x)
some_unless None n = absurd (n refl)
some_unless (Some x) n = (x, refl)

-- an option that can't be something is nothing
pub none_unless : {X : Type 0} (o : Option X) → (is_some o ≡ true → ⊥) → o ≡ None
none_unless None n = refl
none_unless (Some d) n = absurd (n refl)

-- two facts of which both can't hold
pub both_is : (x y : Bool) → ((x && y) ≡ true → ⊥) → x ≡ true → y ≡ false
both_is x true n e = absurd (n (and_from x true e refl))
both_is x false n e = refl

-- a cell that is known by its tests
pub cell_is : (d : Cell) (b p : ℕ) → eqb d.byte b ≡ true → eqb d.perms p ≡ true → d ≡ record { byte = b; perms = p }
cell_is d b p e f = λ i. record { byte = eqb-true d.byte b e i; perms = eqb-true d.perms p f i }

-- whether a cell is held is decided
pub held_or_not : (o : Option Cell) (b p : ℕ) → ((o ≡ Some (record { byte = b; perms = p }) → ⊥) → ⊥)
    → o ≡ Some (record { byte = b; perms = p })
held_or_not None b p n = absurd (n (λ e. cc))
held_or_not (Some d) b p n = elim (cases_Bool (eqb d.byte b && eqb d.perms p)) [
  | inl e ↦ (let q = and_parts (eqb d.byte b) (eqb d.perms p) e in ap Some (cell_is d b p q.0 q.1))
  | inr e ↦ absurd (n (λ k. let f : d ≡ record { byte = b; perms = p } = some_is d (record { byte = b; perms = p }) k in
      true≢false (sym (and_from (eqb d.byte b) (eqb d.perms p) (eq-eqb d.byte b (ap (λ (z : Cell). z.byte) f))
      (eq-eqb d.perms p (ap (λ (z : Cell). z.perms) f))) ∙ e)))
]

-- rule 1: what is loaded and not written stays
pub same_unless : (o q : Option Cell) → is_some o ≡ true → (differs o q false ≡ true → ⊥) → q ≡ o
same_unless None q h n = absurd (false≢true h)
same_unless (Some d) None h n = absurd (n refl)
same_unless (Some d) (Some g) h n =
    let k = or_parts (not (eqb d.perms g.perms)) (not (eqb d.byte g.byte)) (false_from_ne_true _ n) in
    ap Some (λ i. record {
      byte = sym (eqb-true d.byte g.byte (not-false (eqb d.byte g.byte) k.1)) i;
      perms = sym
          (eqb-true d.perms g.perms (not-false (eqb d.perms g.perms) k.0)) i;
    })

-- of what is counted once there is one place
pub only_one : {X : Type 0} (p : X → Bool) (xs : List X) (i j : ℕ) (x y : X) → count_by p xs ≡ 1 → slice_get xs i ≡ Some x
    → p x ≡ true → slice_get xs j ≡ Some y → p y ≡ true → x ≡ y
only_one p xs i j x y n e h f k = elim (cases_eq i j) [
  | inl q ↦ some_is x y (sym e ∙ ap (λ (z : ℕ). slice_get xs z) q ∙ f)
  | inr q ↦ elim (cases_lt i j) [
    | inl l ↦ absurd (omega (arith, n, counted_twice p xs i j x y l e h f k))
    | inr l ↦ absurd (omega (arith, n, counted_twice p xs j i y x (omega (arith, q, l)) f k e h))
  ]
]

module _ (c : Case) (rule_2 : (x : ℕ) → WriteFails c x → ⊥) where
  -- a written byte is a line's
  pub owned_at : (x : ℕ) → is_written c.report x ≡ true → Owned c x
  owned_at x w =
      let b = and_parts (eqb (times_owned c x) 1) (list_any (λ (e : StartEntry). has_byte x e && starts_line c.report e.addr) c.listed)
      (true_from_ne_false (belongs c x) (λ n. rule_2 x (w, inr (inr n)))) in
      let q = found (λ (e : StartEntry). has_byte x e && starts_line c.report e.addr) c.listed b.1 in
      let k = and_parts (has_byte x q.is) (starts_line c.report q.is.addr) q.passes in
      let j = and_parts (leb q.is.addr x) (ltb x (q.is.addr + q.is.len)) k.0 in
      let l = found (λ (l : Line). eqb l.tramp.start q.is.addr) (lines c.report) k.1 in
      record {
        line = l.is;
        entry = q.is;
        in_lines = (l.place, l.at);
        in_list = contains_at c.listed q.place q.is q.at;
        start = eqb-true l.is.tramp.start q.is.addr l.passes;
        above = leb-true q.is.addr x j.0;
        below = ltb-true x (q.is.addr + q.is.len) j.1;
        alone = λ e d lo hi. let r = place_of c.listed e d in
            only_one (has_byte x) c.listed r.0 q.place e q.is (eqb-true (times_owned c x) 1 b.0) r.1
            (and_from (leb e.addr x) (ltb x (e.addr + e.len)) (le-leb e.addr x lo) (lt-ltb x (e.addr + e.len) hi)) q.at k.0;
      }

module _ (c : Case) (B : IsBounded c.report) where
  -- pages of the report end early
  pub page_low : (x : ℕ) → on_page c.report x ≡ true → x < 0x7FFF1000
  page_low x h =
      let q = found (λ (p : ℕ × ℕ). leb p.0 x && ltb x (p.0 + 4096)) c.report.pages h in
      let k = and_parts (leb q.is.0 x) (ltb x (q.is.0 + 4096)) q.passes in
      let u : x < q.is.0 + 4096 = ltb-true x (q.is.0 + 4096) k.1 in
      let b : q.is.0 < 0x7FFF0000 = B.pages q.is (contains_at c.report.pages q.place q.is q.at) in
      omega arith

  -- code on pages of the report ends where the last page does, at the latest
  pub code_low : (l : Line) (n : ℕ) → In (lines c.report) l → ((x : ℕ) → l.tramp.place ≤ x → x < l.tramp.place + n → on_page c.report x ≡ true)
      → l.tramp.place + n ≤ 0x7FFF1000
  code_low l n h paged = elim (cases_lt 0x7FFF1000 (l.tramp.place + n)) [
    | inl k ↦ (let p : l.tramp.place < 0x7FFF0000 = place_low c.report l B h in
        let b : 0x7FFF1000 < 0x7FFF1000 = page_low 0x7FFF1000 (paged 0x7FFF1000 (omega arith) k) in absurd
        (omega (arith, b)))
    | inr k ↦ k
  ]

module _ (c : Case) (rule_5 : (x : ℕ) → RangeFails c x → ⊥) where
  -- the original has no byte on the report's pages and in the private range
  pub new_none : (x : ℕ) → (in_private c.report x || on_page c.report x) ≡ true → c.original x ≡ None
  new_none x h = none_unless (c.original x) (λ e. rule_5 x (inr (h, inr (inl (x, refl, e)))))

  -- the private range is zeros
  pub zero_at : (x : ℕ) → c.report.private.0 ≤ x → x < c.report.private.1 → (c.patched x ≡ Some (record { byte = 0; perms = 6 }))
      × (c.original x ≡ None)
  zero_at x lo hi =
      let p : in_private c.report x ≡ true = and_from (leb c.report.private.0 x) (ltb x c.report.private.1) (le-leb c.report.private.0 x lo)
      (lt-ltb x c.report.private.1 hi) in
      let e = or_left (in_private c.report x) (on_page c.report x) p in
      let n = new_none x e in
      let d = some_unless (c.patched x) (λ f. rule_5 x (inr (e, inl f))) in
      let away : on_page c.report x ≡ false = both_is (in_private c.report x) (on_page c.report x)
      (λ f. rule_5 x (inr (e, inr (inr (inl f))))) p in
      let high : x < 0x20000 → ⊥ = λ f. rule_5 x (inr (e, inr (inr (inr f)))) in
      (d.1 ∙ ap Some (by_kind d.0 away high (expected d.0 d.1 n)), n)
    where
      expected : (d : Cell) → c.patched x ≡ Some d → c.original x ≡ None → is_expected c.report x d ≡ true
      expected d e n = not-true' (is_expected c.report x d) (λ f. rule_5 x (inl ((λ i. is_unexpected c.report x (n i) (e i)) ∙ f)))
        where
          not-true' : (b : Bool) → (not b ≡ true → ⊥) → b ≡ true
          not-true' true k = refl
          not-true' false k = absurd (k refl)

      by_kind : (d : Cell) → on_page c.report x ≡ false → (x < 0x20000 → ⊥) → is_expected c.report x d ≡ true
          → d ≡ record { byte = 0; perms = 6 }
      by_kind d away high h = elim (or_cases (leb 0x10000 x && (ltb x 0x1E000 && eqb d.perms 4))
          ((in_private c.report x && (eqb d.byte 0 && eqb d.perms 6)) || (on_page c.report x && eqb d.perms 5)) h) [
            | inl k ↦ (let q = and_parts (ltb x 0x1E000) (eqb d.perms 4) (and_parts (leb 0x10000 x) (ltb x 0x1E000 && eqb d.perms 4) k).1 in
                let u : x < 0x1E000 = ltb-true x 0x1E000 q.0 in absurd (high (omega arith)))
            | inr k ↦ elim (or_cases (in_private c.report x && (eqb d.byte 0 && eqb d.perms 6)) (on_page c.report x && eqb d.perms 5) k) [
              | inl j ↦ (let q = and_parts (eqb d.byte 0) (eqb d.perms 6) (and_parts (in_private c.report x)
                  (eqb d.byte 0 && eqb d.perms 6) j).1 in cell_is d 0 6 q.0 q.1)
              | inr j ↦ absurd (true≢false (sym (and_parts (on_page c.report x) (eqb d.perms 5) j).0 ∙ away))
            ]
          ]
