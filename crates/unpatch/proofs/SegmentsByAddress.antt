-- The PT_LOAD of a written file that holds an address.
use Rattle.std.proofs.Common.{◌≡◌, ℕ, inl, inr, Bool, true, false, cond, nat_le, List, [], ◌∷◌, Option, Some, refl, sym, ap, ◌∙◌}
use Rattle.std.specs.List.{AllByRecursion}
use Rattle.std.proofs.lemmas.Bool.{cases_Bool, cond-true, cond-false, true≢false}
use Rattle.elf_read.specs.declared.segment.Segment.{Segment}
use Rattle.elf_read.specs.Find.{covers, segment_of, segment_holding}
use Rattle.elf_emit.specs.Job.{Frame}
use Rattle.elf_emit.specs.Frames.{insert_load, in_order, new_loads, layout}
use Rattle.elf_emit.specs.FrameLaws.{IsFrame}
use Rattle.elf_emit.specs.Laws.{PairsByRecursion}
use Rattle.elf_emit.proofs.StayingSegments.{all_map, all_both}
use Rattle.elf_emit.proofs.OriginalFacts.{Facts}
use Rattle.elf_emit.proofs.WrittenTable.{all_order}
use Rattle.elf_emit.proofs.DisjointLoads.{SegmentsApart, apart_covers, loads_apart}
use Rattle.elf_emit.proofs.LoadedImage.{loads_back}

-- each segment is found at its addresses
abbrev pub IsFound : List Segment → Segment → Type 0
IsFound ss s = (a : ℕ) → covers s a ≡ true → segment_of ss a ≡ Some s

found_later : (s t : Segment) (ss : List Segment) → SegmentsApart s t → IsFound ss t → IsFound (s ∷ ss) t
found_later s t ss h f a c = elim (cases_Bool (covers s a)) [
  | inl b ↦ absurd (true≢false (sym c ∙ apart_covers s t a h b))
  | inr b ↦ cond-false (covers s a) (Some s) (segment_of ss a) b ∙ f a c
]

-- of segments with no page in common each is the one that is found at its addresses
pub all_found : (ss : List Segment) → PairsByRecursion SegmentsApart ss → AllByRecursion (IsFound ss) ss
all_found [] h = tt
all_found (s ∷ ss) h = (
  λ a c. cond-true (covers s a) (Some s) (segment_of ss a) c,
  all_map (λ t. SegmentsApart s t × IsFound ss t) (IsFound (s ∷ ss)) ss (λ t k. found_later s t ss k.0 k.1)
      (all_both (SegmentsApart s) (IsFound ss) ss h.0 (all_found ss h.1)),
)

-- the order of segments that are apart doesn't matter
swap : (s t : Bool) (x y z : Option Segment) → (s ≡ true → t ≡ false) → cond t y (cond s x z) ≡ cond s x (cond t y z)
swap true true x y z f = absurd (true≢false (f refl))
swap true false x y z f = refl
swap false true x y z f = refl
swap false false x y z f = refl

segment_cond : (a : ℕ) (b : Bool) (xs ys : List Segment) (o : Option Segment) → segment_of xs a ≡ o → segment_of ys a ≡ o → segment_of (cond b xs ys) a ≡ o
segment_cond a true xs ys o e f = e
segment_cond a false xs ys o e f = f

insert_segment : (a : ℕ) (s : Segment) (ss : List Segment) → AllByRecursion (SegmentsApart s) ss → segment_of (insert_load s ss) a ≡ segment_of (s ∷ ss) a
insert_segment a s [] h = refl
insert_segment a s (t ∷ ts) h =
    segment_cond a (nat_le s.vaddr t.vaddr) (s ∷ t ∷ ts) (t ∷ insert_load s ts) _ refl
    (ap (λ (o : Option Segment). cond (covers t a) (Some t) o) (insert_segment a s ts h.1)
    ∙ swap (covers s a) (covers t a) (Some s) (Some t) (segment_of ts a) (apart_covers s t a h.0))

order_segment : (a : ℕ) (ss : List Segment) → PairsByRecursion SegmentsApart ss → segment_of (in_order ss) a ≡ segment_of ss a
order_segment a [] h = refl
order_segment a (s ∷ ss) h =
    insert_segment a s (in_order ss) (all_order (SegmentsApart s) ss h.0)
    ∙ ap (λ (o : Option Segment). cond (covers s a) (Some s) o) (order_segment a ss h.1)

-- so is each new PT_LOAD of a written file
abbrev pub Loads : Frame → Segment → Type 0
Loads f t = (a : ℕ) → covers t a ≡ true → segment_holding (layout f) a ≡ Some t

-- each new PT_LOAD of a written file is the one that is found at its addresses
pub news_found : (f : Frame) → IsFrame f → Facts f → AllByRecursion (Loads f) (new_loads f)
news_found f h q =
    let apart = loads_apart f h q in
    all_map (IsFound (new_loads f)) (Loads f) (new_loads f)
    (λ t k a c. ap (λ (ss : List Segment). segment_of ss a) (loads_back f q h) ∙ order_segment a (new_loads f) apart ∙ k a c)
    (all_found (new_loads f) apart)
