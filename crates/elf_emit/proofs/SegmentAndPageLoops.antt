-- Loops over segments and over a group's pages: one more of them, and the end.
use Rattle.std.proofs.Common.{◌≡◌, ℕ, ◌+◌, ◌%◌, ◌<◌, ◌≤◌, Bool, true, false, cond, List, [], ◌∷◌, ◌++◌, length, drop, map, get_or, refl, sym, ap, ◌∙◌, arith, append_assoc}
use Rattle.std.proofs.lemmas.List.{drop_more, drop_all}
use Rattle.elf_read.specs.declared.segment.Segment.{Segment}
use Rattle.elf_emit.specs.declared.runs.Page.{Page}
use Rattle.elf_emit.specs.Job.{BytesAt}
use Rattle.elf_emit.specs.Layout.{up, is_moved, renewed, layered}
use Rattle.elf_emit.specs.PageByPage.{moved_len}

-- the first segment and the others
moved_cons : (all : List Segment) (s : Segment) (ss : List Segment) → moved_len all (s ∷ ss) ≡ moved_len all (s ∷ []) + moved_len all ss
moved_cons all s ss = step (is_moved all s)
  where
    step : (b : Bool) → cond b (up (s.vaddr % 4096 + s.filesz) + moved_len all ss) (moved_len all ss) ≡ cond b (up (s.vaddr % 4096 + s.filesz) + 0) 0 + moved_len all ss
    step true = omega arith
    step false = omega arith

renewed_cons : (all : List Segment) (at : ℕ) (s : Segment) (ss : List Segment) → renewed all at (s ∷ ss) ≡ renewed all at (s ∷ []) ++ renewed all (at + moved_len all (s ∷ [])) ss
renewed_cons all at s ss = step (is_moved all s)
  where
    step : (b : Bool) → cond b (record s { offset = at + s.vaddr % 4096 } ∷ renewed all (at + up (s.vaddr % 4096 + s.filesz)) ss) (s ∷ renewed all at ss)
        ≡ cond b (record s { offset = at + s.vaddr % 4096 } ∷ []) (s ∷ []) ++ renewed all (at + cond b (up (s.vaddr % 4096 + s.filesz) + 0) 0) ss
    step true =
        let e : at + up (s.vaddr % 4096 + s.filesz) ≡ at + (up (s.vaddr % 4096 + s.filesz) + 0) = omega arith in
        ap (λ (k : ℕ). record s { offset = at + s.vaddr % 4096 } ∷ renewed all k ss) e
    step false = let e : at ≡ at + 0 = omega arith in ap (λ (k : ℕ). s ∷ renewed all k ss) e

-- the moved segments' bytes from one segment on are its own and those of the segments behind it
pub len_first : (all ss : List Segment) (i : ℕ) (d : Segment) → i < length ss → moved_len all (drop i ss) ≡ moved_len all (get_or ss i d ∷ []) + moved_len all (drop (i + 1) ss)
len_first all ss i d l = ap (moved_len all) (drop_more ss i d l) ∙ moved_cons all (get_or ss i d) (drop (i + 1) ss)

-- once the next segment has its new place, one segment less is to come
pub renewed_more : (all ss : List Segment) (i at next : ℕ) (d : Segment) (was new out : List Segment) → i < length ss → next ≡ at + moved_len all (get_or ss i d ∷ [])
    → new ≡ was ++ renewed all at (get_or ss i d ∷ []) → was ++ renewed all at (drop i ss) ≡ out → new ++ renewed all next (drop (i + 1) ss) ≡ out
renewed_more all ss i at next d was new out l n e h =
    (λ k. e k ++ renewed all (n k) (drop (i + 1) ss))
    ∙ append_assoc was (renewed all at (get_or ss i d ∷ [])) (renewed all (at + moved_len all (get_or ss i d ∷ [])) (drop (i + 1) ss))
    ∙ ap (λ (z : List Segment). was ++ z) (sym (renewed_cons all at (get_or ss i d) (drop (i + 1) ss)))
    ∙ ap (λ (z : List Segment). was ++ renewed all at z) (sym (drop_more ss i d l)) ∙ h

-- one page more
layered_cons : (pieces : List BytesAt) (p : Page) (ps : List Page) (group : ℕ) (b : List ℕ) → layered pieces (p ∷ ps) group b ≡ layered pieces ps group (layered pieces (p ∷ []) group b)
layered_cons pieces p ps group b = refl

-- one page less to come, once its pieces are written over the group page
pub layered_more : (pieces : List BytesAt) (f : ℕ → Page) (ks : List ℕ) (i group k : ℕ) (b c out : List ℕ) → i < length ks → k ≡ get_or ks i k → c ≡ layered pieces (f k ∷ []) group b
    → layered pieces (map f (drop i ks)) group b ≡ out → layered pieces (map f (drop (i + 1) ks)) group c ≡ out
layered_more pieces f ks i group k b c out l q e h =
    ap (layered pieces (map f (drop (i + 1) ks)) group) (e ∙ ap (λ (x : ℕ). layered pieces (f x ∷ []) group b) q)
    ∙ sym (layered_cons pieces (f (get_or ks i k)) (map f (drop (i + 1) ks)) group b)
    ∙ ap (λ (z : List ℕ). layered pieces (map f z) group b) (sym (drop_more ks i k l)) ∙ h

-- past the last page, the group page is done
pub layered_all : (pieces : List BytesAt) (f : ℕ → Page) (ks : List ℕ) (i group : ℕ) (b out : List ℕ) → length ks ≤ i → layered pieces (map f (drop i ks)) group b ≡ out → b ≡ out
layered_all pieces f ks i group b out l h = ap (λ (z : List ℕ). layered pieces (map f z) group b) (sym (drop_all i ks l)) ∙ h
