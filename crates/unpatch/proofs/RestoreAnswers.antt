-- What the answers of `restore` tell: the original, how long it was, and the least address that is missing.
use Rattle.std.proofs.Common.{◌≡◌, ℕ, ◌≤◌, ◌==◌, ◌⊎◌, inl, inr, Bool, true, false, not, nat_le, ◌&&◌, ◌||◌, nat_lt, if◌then◌else◌, List, [], ◌∷◌, length, take, Option, Some, None, option_map, refl, sym, ap, ◌∙◌, subst, arith, eqb-true, length-take-le}
use Rattle.std.specs.List.{list_any}
use Rattle.std.proofs.lemmas.Bool.{and_parts, cases_Bool, cond-true, cond-false, true≢false, or_cases, or_left, or_right, leb-true, leb-false, eq-eqb}
use Rattle.std.proofs.lemmas.Bool.Decides.{nat_tests}
use Rattle.elf_emit.specs.Frames.{up}
use Rattle.patch_report.specs.declared.origin.Origin.{Origin}
use Rattle.patch_report.specs.Runs.{runs}
use Rattle.patch_report.specs.Values.{ReportValue, WriteValue}
use Rattle.unpatch.specs.declared.error.UnpatchError.{UnpatchError}
use Rattle.unpatch.specs.declared.error.UnpatchError.TheVariants.{NoOrigin, OriginOutside, BytesDiffer, Memory}
use Rattle.unpatch.specs.Undone.{old_bytes, with_origin, undone}
use Rattle.unpatch.specs.Refusals.{is_outside, refusal, refusal_of, Refused, UndoneBy, is_there, lesser, least_from, least_missing, new_bytes}
use Rattle.unpatch.specs.Laws.{UndoneIsGivenBack, LengthIsTold, IsMissing, IsLeastOf, LeastIsTold}
use Rattle.unpatch.proofs.HeaderFields.{length_origin}
use Rattle.unpatch.proofs.RestoredBytes.{length_back}

none_some : (o : Option UnpatchError) (e : UnpatchError) → o ≡ None → o ≡ Some e → ⊥
none_some None e n s = cc
none_some (Some d) e n s = cc

only_memory : (file : List ℕ) (report : ReportValue) → refusal file report ≡ None → (e : UnpatchError) → Refused file report e → e ≡ Memory
only_memory file report n Memory h = refl
only_memory file report n NoOrigin h = absurd (none_some (refusal file report) NoOrigin n h)
only_memory file report n OriginOutside h = absurd (none_some (refusal file report) OriginOutside n h)
only_memory file report n (BytesDiffer a) h = absurd (none_some (refusal file report) (BytesDiffer a) n h)

same_bytes : (file : List ℕ) (o : Option Origin) (ws : List WriteValue) (xs ys : List ℕ) → UndoneBy file o ws xs → UndoneBy file o ws ys → ys ≡ xs
same_bytes file None ws xs ys u v = absurd u
same_bytes file (Some o) ws xs ys u v = v ∙ sym u

-- of a file that its report undoes to an original, each answer is the original, or there was no memory
pub given_back : UndoneIsGivenBack
given_back orig file report u = (only_memory file report u.accepted, λ bytes h. same_bytes file report.origin (runs report.body) orig bytes u.undone h)

-- a length that the file can have
not_outside : (n size : ℕ) → is_outside n size ≡ false → (64 ≤ n) × (n ≤ size)
not_outside n size e =
    let p = sides (nat_lt n 64) (nat_lt size (up n)) e in
    (let a = p.0 in grind (arith, nat_tests), let b = p.1 in grind (arith, nat_tests))
  where
    sides : (a b : Bool) → (a || b) ≡ false → (a ≡ false) × (b ≡ false)
    sides true b h = absurd cc
    sides false b h = (refl, h)

-- so what is undone has it
length_undone : (file : List ℕ) (o : Origin) (ws : List WriteValue) → is_outside o.len (length file) ≡ false → length (undone file o ws) ≡ o.len
unfolding undone
length_undone file o ws e =
    let p = not_outside o.len (length file) e in
    let t = length-take-le o.len file p.1 in
    length_back file (old_bytes ws) (with_origin o (take o.len file)) ∙ length_origin o (take o.len file) (omega (arith, t, p.0)) ∙ t

told_length : (file : List ℕ) (o : Option Origin) (ws : List WriteValue) (bytes : List ℕ) → refusal_of file o ws ≡ None → UndoneBy file o ws bytes
    → option_map (λ (x : Origin). x.len) o ≡ Some (length bytes)
told_length file None ws bytes h u = absurd u
told_length file (Some o) ws bytes h u =
    ap (λ (n : ℕ). Some n) (sym (ap length u ∙ length_undone file o ws (inside (is_outside o.len (length file)) h)))
  where
    inside : (b : Bool) → (if b then Some OriginOutside else option_map BytesDiffer (least_missing file (new_bytes ws))) ≡ None → b ≡ false
    inside true g = absurd cc
    inside false g = refl

-- what is given back is as long as the report tells
pub length_is_told : LengthIsTold
length_is_told file report bytes h u = told_length file report.origin (runs report.body) bytes h u

-- the least of some numbers is that of others where each of these is no less than one of those
least_by : (P Q : ℕ → Type 0) (o : Option ℕ) → ((x : ℕ) → P x → Q x) → ((x : ℕ) → Q x → (y : ℕ) × P y × (y ≤ x)) → IsLeastOf P o → IsLeastOf Q o
least_by P Q None f k h = λ x q. h (k x q).0 (k x q).1
least_by P Q (Some a) f k h = (f a h.0, λ y q. (let z = k y q in let l = z.2 in let m = h.1 z.0 z.1 in omega arith))

-- a number is the one that is known
abbrev pub Known : Option ℕ → ℕ → Type 0
Known None x = ⊥
Known (Some b) x = b ≡ x

abbrev Either : List ℕ → List (ℕ × ℕ) → Option ℕ → ℕ → Type 0
Either file ps best x = Known best x ⊎ (IsMissing file ps x)

here : (file : List ℕ) (p : ℕ × ℕ) (x : ℕ) → is_there file p ≡ false → p.0 ≡ x → ((p.0 == x) && not (is_there file p)) ≡ true
here file p x t e = (λ i. (p.0 == x) && not (t i)) ∙ step (p.0 == x) (eq-eqb p.0 x e)
  where
    step : (b : Bool) → b ≡ true → (b && true) ≡ true
    step true h = refl
    step false h = h

lesser_known : (a : ℕ) (best : Option ℕ) → Known best (lesser a best) ⊎ (a ≡ lesser a best)
lesser_known a None = inr refl
lesser_known a (Some b) = elim (cases_Bool (nat_le a b)) [
  | inl t ↦ inr (sym (cond-true (nat_le a b) a b t))
  | inr t ↦ inl (sym (cond-false (nat_le a b) a b t))
]

-- the lesser of an address and a known one, if any, is no more than the address
pub lesser_first : (a : ℕ) (best : Option ℕ) → lesser a best ≤ a
lesser_first a None = omega arith
lesser_first a (Some b) = elim (cases_Bool (nat_le a b)) [
  | inl t ↦ let e = cond-true (nat_le a b) a b t in omega arith
  | inr t ↦ let e = cond-false (nat_le a b) a b t in let l = leb-false a b t in omega arith
]

-- nor is it more than the known one
pub lesser_best : (a x : ℕ) (best : Option ℕ) → Known best x → lesser a best ≤ x
lesser_best a x None k = absurd k
lesser_best a x (Some b) k = elim (cases_Bool (nat_le a b)) [
  | inl t ↦ let e = cond-true (nat_le a b) a b t in let l = leb-true a b t in omega arith
  | inr t ↦ let e = cond-false (nat_le a b) a b t in omega arith
]

least_all : (file : List ℕ) (ps : List (ℕ × ℕ)) (best : Option ℕ) → IsLeastOf (Either file ps best) (least_from file ps best)
least_all file [] None = λ x h. none x h
  where
    none : (x : ℕ) → Either file [] None x → ⊥
    none x (inl k) = k
    none x (inr m) = true≢false (sym m)
least_all file [] (Some b) = (inl refl, λ y h. at y h)
  where
    at : (y : ℕ) → Either file [] (Some b) y → b ≤ y
    at y (inl k) = omega arith
    at y (inr m) = absurd (true≢false (sym m))
least_all file (p ∷ ps) best = elim (cases_Bool (is_there file p)) [
  | inl t ↦
      subst (λ (o : Option ℕ). IsLeastOf (Either file (p ∷ ps) best) (least_from file ps o)) (sym (cond-true (is_there file p) best (Some (lesser p.0 best)) t))
      (least_by (Either file ps best) (Either file (p ∷ ps) best) (least_from file ps best) (λ x h. more x h) (λ x h. (x, fewer t x h, omega arith)) (least_all file ps best))
  | inr t ↦
      subst (λ (o : Option ℕ). IsLeastOf (Either file (p ∷ ps) best) (least_from file ps o)) (sym (cond-false (is_there file p) best (Some (lesser p.0 best)) t))
      (least_by (Either file ps (Some (lesser p.0 best))) (Either file (p ∷ ps) best) (least_from file ps (Some (lesser p.0 best))) (λ x h. into t x h) (λ x h. below x h)
      (least_all file ps (Some (lesser p.0 best))))
]
  where
    rest : ℕ → Bool
    rest x = list_any (λ s. (s.0 == x) && not (is_there file s)) ps

    more : (x : ℕ) → Either file ps best x → Either file (p ∷ ps) best x
    more x (inl k) = inl k
    more x (inr m) = inr (or_right ((p.0 == x) && not (is_there file p)) (list_any (λ s. (s.0 == x) && not (is_there file s)) ps) m)

    fewer : is_there file p ≡ true → (x : ℕ) → Either file (p ∷ ps) best x → Either file ps best x
    fewer t x (inl k) = inl k
    fewer t x (inr m) = elim (or_cases ((p.0 == x) && not (is_there file p)) (list_any (λ s. (s.0 == x) && not (is_there file s)) ps) m) [
      | inl u ↦ absurd (true≢false (sym (and_parts (p.0 == x) (not (is_there file p)) u).1 ∙ ap not t))
      | inr u ↦ inr u
    ]

    into : is_there file p ≡ false → (x : ℕ) → Either file ps (Some (lesser p.0 best)) x → Either file (p ∷ ps) best x
    into t x (inr m) = inr (or_right ((p.0 == x) && not (is_there file p)) (list_any (λ s. (s.0 == x) && not (is_there file s)) ps) m)
    into t x (inl k) = elim (lesser_known p.0 best) [
      | inl u ↦ inl (subst (Known best) k u)
      | inr u ↦ inr (or_left ((p.0 == x) && not (is_there file p)) (list_any (λ s. (s.0 == x) && not (is_there file s)) ps) (here file p x t (u ∙ k)))
    ]

    below : (x : ℕ) → Either file (p ∷ ps) best x → (y : ℕ) × Either file ps (Some (lesser p.0 best)) y × (y ≤ x)
    below x (inl k) = (lesser p.0 best, inl refl, lesser_best p.0 x best k)
    below x (inr m) = elim (or_cases ((p.0 == x) && not (is_there file p)) (list_any (λ s. (s.0 == x) && not (is_there file s)) ps) m) [
      | inl u ↦ (let e = eqb-true p.0 x (and_parts (p.0 == x) (not (is_there file p)) u).0 in let l = lesser_first p.0 best in (lesser p.0 best, inl refl, omega arith))
      | inr u ↦ (x, inr u, omega arith)
    ]

-- the address that is told as missing is the least of those at which the file hasn't the byte
pub least_is_told : LeastIsTold
least_is_told file ps =
    least_by (Either file ps None) (IsMissing file ps) (least_missing file ps) (λ x h. some x h) (λ x h. (x, inr h, omega arith)) (least_all file ps None)
  where
    some : (x : ℕ) → Either file ps None x → IsMissing file ps x
    some x (inl k) = absurd k
    some x (inr m) = m
