-- The numbers of events at an address: of the trampolines that begin there, and of the sites.
use Rattle.std.proofs.Common.{◌≡◌, ◌≢◌, ℕ, zero, suc, Bool, true, false, not, ◌&&◌, cond, eqb, List, [], ◌∷◌, ◌++◌, map, Some, refl, sym, ap, ap₂, ◌∙◌, arith}
use Rattle.std.specs.Prelude.{slice_get}
use Rattle.std.specs.List.{list_any, flat_map, AllByRecursion}
use Rattle.std.proofs.lemmas.Bool.{cond-false, eqb-true, ne_eqb, and_parts, not-true, or_parts, true≢false}
use Rattle.std.proofs.lemmas.List.{append-nil}
use Rattle.std.proofs.lemmas.List.Concat.{flat_map-append}
use Rattle.pun_base.specs.declared.action.Action.{Action}
use Rattle.pun_base.specs.declared.tramp.Tramp.{Tramp}
use Rattle.patch_report.specs.Values.{RowValue}
use Rattle.sound_images.specs.Reports.{Line, tramps_of, row_lines}
use Rattle.sound_images.specs.Rules.{is_own}
use Rattle.sound_images.specs.Rewriting.{Site, EventTramp}
use Rattle.sound_images.specs.Events.{numbers_at}
use Rattle.sound_images.specs.Soundness.{first_site}
use Rattle.patch_report.proofs.ListPlaces.{some_is}

-- the number of an event, if there is one
abbrev pub event_number : Bool → ℕ → List ℕ
event_number true n = n ∷ []
event_number false n = []

-- a line with an event, at one of its addresses
abbrev pub marks : (Line → ℕ) → Line → List EventTramp
marks addr l = cond l.tramp.event (record { number = l.number; place = addr l } ∷ []) []

-- the numbers of lines with an event, of which one of their addresses is this
abbrev pub marked_at : (Line → ℕ) → List Line → ℕ → List ℕ
marked_at addr ls a = numbers_at (λ (x : EventTramp). x.number) (λ (x : EventTramp). x.place) (flat_map (marks addr) ls) a

-- the numbers of two lists in a row are those of the first and then those of the second
pub numbers_append : {X : Type 0} (number addr : X → ℕ) (xs ys : List X) (a : ℕ)
    → numbers_at number addr (xs ++ ys) a ≡ numbers_at number addr xs a ++ numbers_at number addr ys a
numbers_append number addr [] ys a = refl
numbers_append number addr (x ∷ xs) ys a = by_test (eqb (addr x) a) (numbers_append number addr xs ys a)
  where
    by_test : (b : Bool) → numbers_at number addr (xs ++ ys) a ≡ numbers_at number addr xs a ++ numbers_at number addr ys a
        → cond b (number x ∷ numbers_at number addr (xs ++ ys) a) (numbers_at number addr (xs ++ ys) a) ≡ cond b
        (number x ∷ numbers_at number addr xs a) (numbers_at number addr xs a) ++ numbers_at number addr ys a
    by_test true e = ap (λ z. number x ∷ z) e
    by_test false e = e

module _ (addr : Line → ℕ) (a : ℕ) where
  -- the number of one line
  abbrev one : Line → List ℕ
  one l = numbers_at (λ (x : EventTramp). x.number) (λ (x : EventTramp). x.place) (marks addr l) a

  -- the numbers of a line and others are the line's own and then those of the others
  pub marked_cons : (l : Line) (ls : List Line) → marked_at addr (l ∷ ls) a ≡ one l ++ marked_at addr ls a
  marked_cons l ls = numbers_append (λ (x : EventTramp). x.number) (λ (x : EventTramp). x.place) (marks addr l) (flat_map (marks addr) ls) a

  -- by its event
  one_by : (b : Bool) (n p : ℕ) → numbers_at (λ (x : EventTramp). x.number) (λ (x : EventTramp). x.place)
      (cond b (record { number = n; place = p } ∷ []) []) a ≡ cond (eqb p a) (event_number b n) []
  one_by true n p = refl
  one_by false n p = by_test (eqb p a)
    where
      by_test : (c : Bool) → ◌≡◌ {A = List ℕ} [] (cond c [] [])
      by_test true = refl
      by_test false = refl

  -- a line with another address
  one_away : (l : Line) → (l.tramp.event ≡ true → addr l ≢ a) → one l ≡ []
  one_away l h = by_event l.tramp.event h
    where
      by_event : (b : Bool) → (b ≡ true → addr l ≢ a) → numbers_at (λ (x : EventTramp). x.number) (λ (x : EventTramp). x.place)
          (cond b (record { number = l.number; place = addr l } ∷ []) []) a ≡ []
      by_event true k = cond-false (eqb (addr l) a) _ _ (ne_eqb (addr l) a (k refl))
      by_event false k = refl

  -- where no line with an event has the address, no number is found
  pub none_marked : (ls : List Line) → ((i : ℕ) (l : Line) → slice_get ls i ≡ Some l → l.tramp.event ≡ true → addr l ≢ a)
      → marked_at addr ls a ≡ []
  none_marked [] h = refl
  none_marked (l ∷ ls) h = marked_cons l ls ∙ ap₂ (λ (x y : List ℕ). x ++ y) (one_away l (h zero l refl))
      (none_marked ls (λ i m e. h (suc i) m e))

  -- where only one line with an event may have the address, its number alone is found, if it has
  pub one_marked : (ls : List Line) (i : ℕ) (l : Line) → slice_get ls i ≡ Some l
      → ((j : ℕ) (m : Line) → j ≢ i → slice_get ls j ≡ Some m → m.tramp.event ≡ true → addr m ≢ a)
      → marked_at addr ls a ≡ cond (eqb (addr l) a) (event_number l.tramp.event l.number) []
  one_marked [] i l e h = absurd cc
  one_marked (m ∷ ms) zero l e h =
      marked_cons m ms ∙ ap₂ (λ (x y : List ℕ). x ++ y) (ap one (some_is m l e) ∙ one_by l.tramp.event l.number (addr l))
      (none_marked ms (λ j k f. h (suc j) k (λ z. absurd cc) f))
      ∙ append-nil _
  one_marked (m ∷ ms) (suc i) l e h =
      marked_cons m ms ∙ ap₂ (λ (x y : List ℕ). x ++ y) (one_away m (h zero m (λ z. absurd cc) refl))
      (one_marked ms i l e (λ j k n f. h (suc j) k (λ z. n (omega arith)) f))

-- the sites at an address are the lines with an event that start there
module _ (action : Action) (a : ℕ) where
  -- the sites of rows at an address
  abbrev sites_in : List RowValue → List ℕ
  sites_in rows = numbers_at (λ (x : Site). x.number) (λ (x : Site). x.addr)
      (flat_map (λ (r : RowValue). first_site action r (tramps_of r.outcome)) rows) a

  -- the lines with an event that start there
  abbrev starts_in : List Line → ℕ → List ℕ
  starts_in ls = marked_at (λ (l : Line). l.tramp.start) ls

  -- the lines of a row
  abbrev lines_of : ℕ → List Tramp → List Line
  lines_of n ts = map (λ (t : Tramp). record { number = n; tramp = t }) ts

  -- lines without an event
  none_later : (n : ℕ) (ts : List Tramp) → list_any (λ (t : Tramp). t.event) ts ≡ false → starts_in (lines_of n ts) a ≡ []
  none_later n [] h = refl
  none_later n (t ∷ ts) h =
      let q = or_parts t.event (list_any (λ (u : Tramp). u.event) ts) h in
      marked_cons (λ (l : Line). l.tramp.start) a (record { number = n; tramp = t }) (lines_of n ts)
      ∙ ap₂ (λ (x y : List ℕ). x ++ y) (one_away (λ (l : Line). l.tramp.start) a (record { number = n; tramp = t })
      (λ e. absurd (true≢false (sym e ∙ q.0)))) (none_later n ts q.1)

  -- of one row
  row_sites : (r : RowValue) (ts : List Tramp) → is_own r.site ts ≡ true
      → numbers_at (λ (x : Site). x.number) (λ (x : Site). x.addr) (first_site action r ts) a ≡ starts_in (lines_of r.number ts) a
  row_sites r [] h = refl
  row_sites r (t ∷ ts) h =
      let own = and_parts (eqb t.start r.site && t.event) (not (list_any (λ (u : Tramp). u.event) ts)) h in
      let own2 = and_parts (eqb t.start r.site) t.event own.0 in
      sym (marked_cons (λ (l : Line). l.tramp.start) a (record { number = r.number; tramp = t }) (lines_of r.number ts)
      ∙ ap₂ (λ (x y : List ℕ). x ++ y) (one_by (λ (l : Line). l.tramp.start) a t.event r.number t.start
      ∙ (λ i. cond (eqb (eqb-true t.start r.site own2.0 i) a) (event_number (own2.1 i) r.number) []))
      (none_later r.number ts (not-true (list_any (λ (u : Tramp). u.event) ts) own.1)) ∙ append-nil _)

  -- of all rows the numbers by their sites are those by the starts of their lines
  pub sites_start : (rows : List RowValue) → AllByRecursion (λ (r : RowValue). is_own r.site (tramps_of r.outcome) ≡ true) rows
      → sites_in rows ≡ starts_in (flat_map row_lines rows) a
  sites_start [] h = refl
  sites_start (r ∷ rows) h =
      numbers_append (λ (x : Site). x.number) (λ (x : Site). x.addr) (first_site action r (tramps_of r.outcome))
      (flat_map (λ (r : RowValue). first_site action r (tramps_of r.outcome)) rows) a
      ∙ ap₂ (λ (x y : List ℕ). x ++ y) (row_sites r (tramps_of r.outcome) h.0) (sites_start rows h.1)
      ∙ sym (more (row_lines r) (flat_map row_lines rows))
    where
      more : (ls ms : List Line) → starts_in (ls ++ ms) a ≡ starts_in ls a ++ starts_in ms a
      more ls ms =
          ap (λ (z : List EventTramp). numbers_at (λ (x : EventTramp). x.number) (λ (x : EventTramp). x.place) z a)
          (flat_map-append (marks (λ (l : Line). l.tramp.start)) ls ms)
          ∙ numbers_append (λ (x : EventTramp). x.number) (λ (x : EventTramp). x.place) (flat_map (marks (λ (l : Line). l.tramp.start)) ls)
          (flat_map (marks (λ (l : Line). l.tramp.start)) ms) a
