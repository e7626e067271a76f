-- Lists of runs, of lines and of rows that are put together.
use Rattle.std.proofs.Common.{◌≡◌, ℕ, ◌+◌, ◌<◌, ◌≤◌, Bool, true, false, cond, inl, inr, List, [], ◌∷◌, ◌++◌, length, get_or, drop, sym, ap, ◌∙◌, append_assoc, append-nil, arith}
use Rattle.std.specs.List.{AllByRecursion, flat_map, count_by, list_any}
use Rattle.std.proofs.lemmas.List.{drop_more}
use Rattle.std.proofs.lemmas.List.Sums.{sum_by-append}
use Rattle.std.proofs.lemmas.Bool.{cases_Bool, ltb-false, false_from_ne_true}
use Rattle.elf_emit.proofs.WrittenTable.{all_append}
use Rattle.patch_report.specs.Values.{RowValue}
use Rattle.patch_report.proofs.ListPlaces.{found, all_in}
use Rattle.sound_images.proofs.CountedElements.{by_count}
use Rattle.site_turns.specs.Folded.{Descend}

-- what is left of a list at the place of an element begins with it
pub left_at : {X : Type 0} (xs : List X) (i : ℕ) (x : X) → i < length xs → x ≡ get_or xs i x → drop i xs ≡ x ∷ drop (i + 1) xs
left_at xs i x l e = drop_more xs i x l ∙ ap (λ y. y ∷ drop (i + 1) xs) (sym e)

-- what is gathered of a list with one more at its end
pub gathered : {X Y : Type 0} (f : X → List Y) (xs : List X) (x : X) → flat_map f (xs ++ x ∷ []) ≡ flat_map f xs ++ f x
gathered f [] x = append-nil (f x)
gathered f (y ∷ ys) x = ap (λ z. f y ++ z) (gathered f ys x) ∙ sym (append_assoc (f y) (flat_map f ys) (f x))

-- in two lists put together as many pass as in both
pub counted_both : {X : Type 0} (p : X → Bool) (xs ys : List X) → count_by p (xs ++ ys) ≡ count_by p xs + count_by p ys
counted_both p xs ys = sum_by-append (λ x. cond (p x) 1 0) xs ys

-- where no element passes a test, none is counted
pub none_counted : {X : Type 0} (p : X → Bool) (xs : List X) → list_any p xs ≡ false → count_by p xs ≡ 0
none_counted p xs h = let e = ltb-false 0 (count_by p xs) (sym (by_count p xs) ∙ h) in omega (arith, e)

-- where not both of two lists have an element that passes, at most one passes in the two joined
pub one_of_both : {X : Type 0} (p : X → Bool) (xs ys : List X) → count_by p xs ≤ 1 → count_by p ys ≤ 1
    → (list_any p xs ≡ true → list_any p ys ≡ true → ⊥) → count_by p (xs ++ ys) ≤ 1
one_of_both p xs ys a b n = elim (cases_Bool (list_any p xs)) [
  | inl e ↦ omega (arith, counted_both p xs ys, none_counted p ys (false_from_ne_true (list_any p ys) (n e)), a)
  | inr e ↦ omega (arith, counted_both p xs ys, none_counted p xs e, b)
]

-- what passes in a list has what each has
pub any_all : {X : Type 0} (P : X → Type 0) (p : X → Bool) (xs : List X) → list_any p xs ≡ true → AllByRecursion P xs
    → (x : X) × (p x ≡ true) × P x
any_all P p xs h a = let q = found p xs h in (q.is, q.passes, all_in P xs q.is a (q.place, q.at))

-- rows that descend, with a lower one at their end
pub descended : (rows : List RowValue) (r : RowValue) → Descend rows → AllByRecursion (λ s. r.site < s.site) rows → Descend (rows ++ r ∷ [])
descended [] r h b = (tt, tt)
descended (s ∷ rows) r h b = (all_append (λ z. z.site < s.site) rows (r ∷ []) h.0 (b.0, tt), descended rows r h.1 b.1)
