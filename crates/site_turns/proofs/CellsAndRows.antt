-- What locks keep of cells, tests that one element passes at most, and rows that descend: what the six rules ask of them.
use Rattle.std.proofs.Common.{◌≡◌, ◌≢◌, ◌⊎◌, inl, inr, ℕ, zero, suc, ◌<◌, ◌≤◌, Bool, true, false, not, ◌||◌, eqb, List, [], ◌∷◌, Option, Some, None, refl, sym, ap, ◌∙◌, subst, arith}
use Rattle.std.specs.Prelude.{slice_get}
use Rattle.std.specs.Option.{is_some}
use Rattle.std.specs.List.{count_by}
use Rattle.std.proofs.lemmas.Bool.{cases_lt, eq-eqb, lt-ltb, not_from_true, false≢true}
use Rattle.pun_base.specs.Memory.{Cell, or_else}
use Rattle.cpu_state.specs.Bytes.{allows}
use Rattle.byte_locks.specs.declared.lock.Lock.{Lock}
use Rattle.byte_locks.specs.declared.lock.Lock.TheVariants.{Free, Punned, Changed}
use Rattle.patch_report.specs.Values.{RowValue}
use Rattle.patch_report.proofs.ListPlaces.{all_in, counted_twice, some_is}
use Rattle.start_list.specs.TurnViews.{cell_by}
use Rattle.sound_images.specs.Rules.{differs, holds_byte, is_below, row_before}
use Rattle.site_turns.specs.Folded.{Descend}

-- a test and its contrary don't both hold
pub not_both : (b : Bool) → b ≡ true → not b ≡ true → ⊥
not_both true e h = false≢true h
not_both false e h = false≢true e

-- an implication fails whose premise holds and whose conclusion doesn't
either_fails : (b x : Bool) → b ≡ true → x ≡ false → (not b || x) ≡ true → ⊥
either_fails true x e f h = false≢true (sym f ∙ h)
either_fails false x e f h = false≢true e

-- where permissions are equal, and the value is where the byte isn't written, nothing differs
alike : (d c : Cell) (w : Bool) → eqb d.perms c.perms ≡ true → (w ≡ false → eqb d.byte c.byte ≡ true) → differs (Some d) (Some c) w ≡ true → ⊥
alike d c true p b h = either_fails (eqb d.perms c.perms) false p refl h
alike d c false p b h = either_fails (eqb d.perms c.perms) (not (eqb d.byte c.byte)) p (not_from_true (eqb d.byte c.byte) (b refl)) h

-- a byte as it stands, against the original's
kept_by : (d : Cell) (k : Lock) (w : Bool) → (w ≡ false → cell_by k (Some d) ≡ Some d) → differs (Some d) (cell_by k (Some d)) w ≡ true → ⊥
kept_by d Free w b h = alike d d w (eq-eqb d.perms d.perms refl) (λ e. eq-eqb d.byte d.byte refl) h
kept_by d Punned w b h = alike d d w (eq-eqb d.perms d.perms refl) (λ e. eq-eqb d.byte d.byte refl) h
kept_by d (Changed v) w b h = alike d (record { byte = v; perms = d.perms }) w (eq-eqb d.perms d.perms refl)
    (λ e. eq-eqb d.byte v (sym (ap (λ (z : Cell). z.byte) (some_is (record { byte = v; perms = d.perms }) d (b e))))) h

-- where the original's byte is loaded as it stands, and stands as it was where it isn't written, it doesn't differ
pub byte_kept : (o q : Option Cell) (k : Lock) (w : Bool) → (is_some o ≡ true → q ≡ cell_by k o) → (w ≡ false → cell_by k o ≡ o)
    → differs o q w ≡ true → ⊥
byte_kept None q k w a b h = false≢true h
byte_kept (Some d) q k w a b h = kept_by d k w b (ap (λ z. differs (Some d) z w) (sym (a refl)) ∙ h)

-- a byte that has a permission as it stands is one that the original holds
pub held_by : (p : ℕ) (k : Lock) (c : Option Cell) → allows p (cell_by k c) ≡ true → is_some c ≡ true
held_by p Free None h = h
held_by p Punned None h = h
held_by p (Changed v) None h = h
held_by p k (Some c) h = refl

-- where the original holds nothing, nothing stands, whatever the lock
pub none_by : (k : Lock) (c : Option Cell) → c ≡ None → cell_by k c ≡ None
none_by Free c e = e
none_by Punned c e = e
none_by (Changed v) None e = refl
none_by (Changed v) (Some c) e = absurd cc

-- a cell that holds a byte is there
pub holds_some : (c : Option Cell) (b : ℕ) → holds_byte c b ≡ true → is_some c ≡ true
holds_some None b h = h
holds_some (Some c) b h = refl

-- where something is held, it is held by one of four
pub held_parts : (table zeros shown rest : Option Cell) (c : Cell) → rest ≡ None
    → or_else table (or_else zeros (or_else shown rest)) ≡ Some c → (table ≡ Some c) ⊎ (zeros ≡ Some c) ⊎ (shown ≡ Some c)
held_parts (Some t) zeros shown rest c n e = inl e
held_parts None (Some z) shown rest c n e = inr (inl e)
held_parts None None (Some s) rest c n e = inr (inr e)
held_parts None None None rest c n e = absurd cc

-- two places that pass, where one at most does
pub two_pass : {X : Type 0} (p : X → Bool) (xs : List X) (i j : ℕ) (x y : X) → count_by p xs ≤ 1 → i ≢ j → slice_get xs i ≡ Some x
    → slice_get xs j ≡ Some y → p x ≡ true → p y ≡ true → ⊥
two_pass p xs i j x y c n e f h k = elim (cases_lt i j) [
  | inl l ↦ omega (arith, c, counted_twice p xs i j x y l e h f k)
  | inr l ↦ omega (arith, c, counted_twice p xs j i y x (omega (arith, l, n)) f k e h)
]

-- rows that descend are each below the one before
next_below : (rows : List RowValue) (i : ℕ) (r q : RowValue) → Descend rows → slice_get rows i ≡ Some q → slice_get rows (suc i) ≡ Some r → r.site < q.site
next_below [] i r q h e f = absurd cc
next_below (a ∷ rows) zero r q h e f =
    subst (λ (z : RowValue). r.site < z.site) (some_is a q e) (all_in (λ (s : RowValue). s.site < a.site) rows r h.0 (zero, f))
next_below (a ∷ rows) (suc i) r q h e f = next_below rows i r q h.1 e f

-- a row's site lies below that of the row before it, if there is one
below_by : (rows : List RowValue) (i : ℕ) (r : RowValue) (o : Option RowValue) → Descend rows → slice_get rows i ≡ o
    → slice_get rows (suc i) ≡ Some r → is_below r.site o ≡ true
below_by rows i r None h e f = refl
below_by rows i r (Some q) h e f = lt-ltb r.site q.site (next_below rows i r q h e f)

-- of rows that descend each is below the row before it
pub is_lower : (rows : List RowValue) (i : ℕ) (r : RowValue) → Descend rows → slice_get rows i ≡ Some r → is_below r.site (row_before rows i) ≡ true
is_lower rows zero r h e = refl
is_lower rows (suc i) r h e = below_by rows i r (slice_get rows i) h refl e
