-- Puts one after the other are one put, and a begin, a put and an end make a whole file.
use Rattle.std.proofs.Common.{◌≡◌, ℕ, zero, suc, ◌+◌, ◌-◌, ◌≤◌, List, [], ◌∷◌, ◌++◌, length, take, drop, min, Option, Some, None, IsSome, Ok, Err, refl, sym, ap, ◌∙◌, subst, inr, arith, append_assoc}
use Rattle.std.proofs.Math.Seq.{take-append-add, take-add}
use Rattle.std.proofs.lemmas.List.{take_all, append-nil}
use Rattle.pun_base.specs.Shown.{Files, DeskState, with_file, Told}
use Rattle.pun_base.specs.Desk.{PutResult, PutCause, StaysSure, Counts, Begun, Grown, KeepsOthers, Begins, Puts, Ends, Filled, Fills}
use Rattle.pun_base.specs.declared.desk.PutError.{PutError}
use Rattle.pun_base.specs.declared.desk.PutError.TheVariants as put
use Rattle.pun_base.proofs.HeldFiles.{with_file-twice, with_file-kept, held_after, others_then, others_kept}
use Rattle.pun_base.proofs.ToldChanges.{told_then, told_map, rose_later}

-- what the name held grows twice
grown_at : (m m1 : Files) (n x a b : List ℕ) → m1 ≡ with_file m n (x ++ a)
    → with_file m1 n ((x ++ a) ++ b) ≡ with_file m n (x ++ (a ++ b))
grown_at m m1 n x a b e =
    ap (λ (f : Files). with_file f n ((x ++ a) ++ b)) e ∙ with_file-twice m n (x ++ a) ((x ++ a) ++ b)
    ∙ ap (λ y. with_file m n y) (append_assoc x a b)

grown_then : (n a b : List ℕ) (r : PutResult) (m m1 m2 : Files)
    → Grown n a (Ok tt) m m1 → Grown n b r m1 m2 → Grown n (a ++ b) r m m2
grown_then n a b (Ok u) m m1 m2 g h =
    λ x e. let p = g x e in h (x ++ a) (held_after m m1 n (x ++ a) p) ∙ grown_at m m1 n x a b p
grown_then n a b (Err f) m m1 m2 g h =
    λ x e. let p = g x e in
    let q = h (x ++ a) (held_after m m1 n (x ++ a) p) in
    (length a + q.0, q.1 ∙ grown_at m m1 n x a (take q.0 b) p ∙ ap (λ y. with_file m n (x ++ y)) (sym (take-append-add a b q.0)))

cause_then : (s t u : DeskState) (r : PutResult)
    → s.write_faults ≤ t.write_faults → StaysSure s t → PutCause t u r → PutCause s u r
cause_then s t u (Ok v) l k c = tt
cause_then s t u (Err put.Memory) l k c = tt
cause_then s t u (Err put.Failed) l k c =
    (rose_later s.write_faults t.write_faults u.write_faults l c.0, λ e. c.1 (k e).0)

-- of two calls, one after the other, the second's answer has its cause in both
pub counts_then : (s t u : DeskState) (q r : PutResult) → Counts s t q → Counts t u r → Counts s u r
counts_then s t u q r c d = record {
  reads = d.reads ∙ c.reads;
  later = let a = c.later in let b = d.later in omega arith;
  sure = λ e. let k = c.sure e in let l = d.sure k.0 in (l.0, l.1 ∙ k.1);
  cause = cause_then s t u r c.later c.sure d.cause;
}

-- a put of one list and then of another is a put of both, with the second's answer
pub puts_then : (n a b : List ℕ) (s t u : DeskState) (r : PutResult)
    → Puts n a s t (Ok tt) → Puts n b t u r → Puts n (a ++ b) s u r
puts_then n a b s t u r p q = record {
  held = told_then (Grown n a (Ok tt)) (Grown n b r) (Grown n (a ++ b) r) s.held t.held u.held (grown_then n a b r) p.held q.held;
  others = told_then (KeepsOthers n) (KeepsOthers n) (KeepsOthers n) s.held t.held u.held (others_then n) p.others q.others;
  writing = q.writing;
  counts = counts_then s t u (Ok tt) r p.counts q.counts;
}

nothing_grown : (n : List ℕ) (s : Option Files) → Told (Grown n [] (Ok tt)) s s
nothing_grown n None = tt
nothing_grown n (Some m) = λ x e. sym (with_file-kept m n (x ++ []) (e ∙ ap Some (sym (append-nil x))))

no_other : (n : List ℕ) (s : Option Files) → Told (KeepsOthers n) s s
no_other n None = tt
no_other n (Some m) = others_kept n m m refl

-- a refusal that changes nothing has appended a prefix of the bytes
pub grown_by_none : (n bs : List ℕ) (f : PutError) (m m1 : Files) → m1 ≡ m → Grown n bs (Err f) m m1
grown_by_none n bs f m m1 e =
    λ x h. (0, e ∙ sym (with_file-kept m n (x ++ []) (h ∙ ap Some (sym (append-nil x)))))

-- no call at all is a put of no bytes
pub puts_nothing : (n : List ℕ) (s : DeskState) → s.writing ≡ Some n → Puts n [] s s (Ok tt)
puts_nothing n s w = record {
  held = nothing_grown n s.held;
  others = no_other n s.held;
  writing = w;
  counts = record { reads = refl; later = omega arith; sure = λ e. (e, refl); cause = tt };
}

-- a name that is being written is some name
pub is_written : (n : List ℕ) (w : Option (List ℕ)) → w ≡ Some n → IsSome w
is_written n w e = subst IsSome (sym e) refl

-- while bytes are put, a name is being written
pub writing_on : (bs : List ℕ) (s t : DeskState) (w : Option (List ℕ)) → s.writing ≡ w → IsSome w
    → ((n : List ℕ) → s.writing ≡ Some n → Puts n bs s t (Ok tt)) → IsSome t.writing
writing_on bs s t None e i p = absurd cc
writing_on bs s t (Some n) e i p = is_written n t.writing (p n e).writing

puts_more : (n bs : List ℕ) (at k : ℕ) (s t u : DeskState) (r : PutResult)
    → Puts n (take at bs) s t (Ok tt) → Puts n (take k (drop at bs)) t u r → Puts n (take (at + k) bs) s u r
puts_more n bs at k s t u r p q =
    subst (λ y. Puts n y s u r) (sym (take-add at k bs)) (puts_then n (take at bs) (take k (drop at bs)) s t u r p q)

-- the front that was put, and then one more piece
pub piece : (n bs : List ℕ) (at k : ℕ) (s t u : DeskState) (q r : PutResult) → q ≡ r
    → Puts n (take at bs) s t (Ok tt) → Puts n (take (at + k - at) (drop at bs)) t u q → Puts n (take (at + k) bs) s u r
piece n bs at k s t u q r e p g =
    let l : at + k - at ≡ k = omega arith in
    puts_more n bs at k s t u r p
    (subst (λ x. Puts n (take k (drop at bs)) t u x) e (subst (λ (j : ℕ). Puts n (take j (drop at bs)) t u q) l g))

-- a put of a front that is the whole list is a put of the list
pub whole : (n bs : List ℕ) (at : ℕ) (s t : DeskState) → length bs ≤ at → Puts n (take at bs) s t (Ok tt) → Puts n bs s t (Ok tt)
whole n bs at s t l p = subst (λ y. Puts n y s t (Ok tt)) (take_all at bs l) p

take-min : (i e : ℕ) (bs : List ℕ) → take i (take e bs) ≡ take (min i e) bs
take-min zero e bs = let q : min 0 e ≡ 0 = omega arith in rw q refl
take-min (suc i) zero bs = let q : min (suc i) 0 ≡ 0 = omega arith in rw q refl
take-min (suc i) (suc e) [] = let q : min (suc i) (suc e) ≡ suc (min i e) = omega arith in rw q refl
take-min (suc i) (suc e) (b ∷ bs) =
    let q : min (suc i) (suc e) ≡ suc (min i e) = omega arith in rw q (ap (λ y. b ∷ y) (take-min i e bs))

front_grown : (n bs : List ℕ) (e : ℕ) (f : PutError) (m m1 : Files) → Grown n (take e bs) (Err f) m m1 → Grown n bs (Err f) m m1
front_grown n bs e f m m1 g =
    λ x h. let q = g x h in (min q.0 e, q.1 ∙ ap (λ y. with_file m n (x ++ y)) (take-min q.0 e bs))

-- a refusal at a front is a refusal of all
pub puts_front : (n bs : List ℕ) (e : ℕ) (s t : DeskState) (f : PutError) → Puts n (take e bs) s t (Err f) → Puts n bs s t (Err f)
puts_front n bs e s t f p = record {
  held = told_map (Grown n (take e bs) (Err f)) (Grown n bs (Err f)) s.held t.held (front_grown n bs e f) p.held;
  others = p.others;
  writing = p.writing;
  counts = p.counts;
}

broken_filled : (n bs : List ℕ) (f : PutError) (m m1 m2 : Files)
    → Begun n (Ok tt) m m1 → Grown n bs (Err f) m1 m2 → Filled n bs (Err f) m m2
broken_filled n bs f m m1 m2 b g =
    let q = g [] (held_after m m1 n [] b) in
    inr (q.0, q.1 ∙ ap (λ (h : Files). with_file h n (take q.0 bs)) b ∙ with_file-twice m n [] (take q.0 bs))

-- a begin and a put that were answered are those that the writing of a whole file makes before its end
pub begun_and_put : (n bs : List ℕ) (s t u : DeskState) (b p r : PutResult) → b ≡ Ok tt → p ≡ r → Begins n s t b
    → ((name : List ℕ) → t.writing ≡ Some name → Puts name bs t u p) → Begins n s t (Ok tt) × Puts n bs t u r
begun_and_put n bs s t u b p r e f h k =
    let begins = subst (λ (x : PutResult). Begins n s t x) e h in
    (begins, subst (λ (x : PutResult). Puts n bs t u x) f (k n begins.writing))

-- a whole file whose put was refused holds a prefix
pub fills_broken : (n bs : List ℕ) (s t u : DeskState) (f : PutError)
    → Begins n s t (Ok tt) → Puts n bs t u (Err f) → Fills n bs s u (Err f)
fills_broken n bs s t u f b p = record {
  held = told_then (Begun n (Ok tt)) (Grown n bs (Err f)) (Filled n bs (Err f)) s.held t.held u.held (broken_filled n bs f) b.held p.held;
  writing = p.writing;
  counts = counts_then s t u (Ok tt) (Err f) b.counts p.counts;
}

ended_filled : (n bs : List ℕ) (r : PutResult) (m m1 m2 : Files)
    → Begun n (Ok tt) m m1 → Grown n bs (Ok tt) m1 m2 → Filled n bs r m m2
ended_filled n bs (Ok v) m m1 m2 b g =
    g [] (held_after m m1 n [] b) ∙ ap (λ (h : Files). with_file h n bs) b ∙ with_file-twice m n [] bs
ended_filled n bs (Err f) m m1 m2 b g =
    inr (
      length bs,
      g [] (held_after m m1 n [] b) ∙ ap (λ (h : Files). with_file h n bs) b ∙ with_file-twice m n [] bs
          ∙ ap (λ y. with_file m n y) (sym (take_all (length bs) bs (omega arith))),
    )

-- a whole file that was begun and put is written, however its end was answered
pub fills_ended : (n bs : List ℕ) (s t u v : DeskState) (r : PutResult)
    → Begins n s t (Ok tt) → Puts n bs t u (Ok tt) → Ends u v r → Fills n bs s v r
fills_ended n bs s t u v r b p e = record {
  held = subst (λ (h : Option Files). Told (Filled n bs r) s.held h) (sym e.held)
      (told_then (Begun n (Ok tt)) (Grown n bs (Ok tt)) (Filled n bs r) s.held t.held u.held (ended_filled n bs r) b.held p.held);
  writing = e.writing;
  counts = counts_then s u v (Ok tt) r (counts_then s t u (Ok tt) (Ok tt) b.counts p.counts) e.counts;
}
