-- What the group pages show: the same by runs as page by page, each piece at its places, and zeros elsewhere.
use Rattle.std.proofs.Common.{◌≡◌, ℕ, zero, suc, ◌+◌, ◌-◌, ◌*◌, ◌<◌, ◌≤◌, ◌==◌, inl, inr, Bool, true, false, cond, ◌&&◌, nat_lt, nat_le, List, [], ◌∷◌, ◌++◌, length, drop, map, replicate, slice_index, Option, Some, refl, sym, ap, ◌∙◌, subst, arith, eqb-true}
use Rattle.std.specs.List.{AllByRecursion, list_any}
use Rattle.std.proofs.lemmas.Bool.{and_parts, cases_Bool, cases_lt, cond-true, cond-false, ltb-true, leb-true, ltb-false, true≢false, or_cases, or_right, or_left}
use Rattle.std.proofs.lemmas.Bool.Decides.{nat_tests}
use Rattle.std.proofs.lemmas.List.{length-append, length-replicate, get_or-take, get_or-drop, get_or-replicate}
use Rattle.pun_base.specs.Memory.{Cell}
use Rattle.pun_base.specs.Ranges.{is_within}
use Rattle.elf_read.specs.Image.{Chunk, cell_in, image}
use Rattle.elf_read.proofs.FileSlices.{slice_past, slice_middle}
use Rattle.elf_emit.specs.declared.runs.Page.{Page}
use Rattle.elf_emit.specs.Job.{BytesAt, Job}
use Rattle.elf_emit.specs.declared.runs.Run.{Run}
use Rattle.elf_emit.specs.Layout.{slice, in_patch, written_by, written_at, rewritten, join_page, runs_of, layered, group_page, group_pages}
use Rattle.elf_emit.specs.Laws.{PairsByRecursion, IsJob, IsPage, PagesApart, PiecesApart, is_on, is_occupied, page_chunk, pages_image, IsPlacedIn, IsZeroElsewhere}
use Rattle.elf_emit.proofs.PlacedSlices.{length_rewritten}
use Rattle.elf_emit.proofs.StayingSegments.{all_map, all_both, none_any}
use Rattle.elf_emit.proofs.OriginalChunks.{new_byte, written_none}

-- a byte of a part of a list is the byte of the list so much further on
pub slice_at : (n k i : ℕ) (xs : List ℕ) → i < n → slice_index (slice n k xs) i ≡ slice_index xs (k + i)
slice_at n k i xs l = get_or-take n (drop k xs) i 0 l ∙ get_or-drop k xs i 0

-- what a run shows of the group pages
abbrev pub run_chunk : List ℕ → Run → Chunk
run_chunk g r = record { lo = r.addr; size = 4096 * r.count; perms = 5; bytes = slice (4096 * r.count) (4096 * r.first) g }

-- what a page shows of the group pages
abbrev pub shown : List ℕ → Page → Chunk
shown g p = record { lo = p.addr; size = 4096; perms = 5; bytes = slice 4096 (4096 * p.group) g }

first_held : (lo c a : ℕ) → is_within lo 4096 a ≡ true → is_within lo (4096 * suc c) a ≡ true
first_held lo c a h =
    let k = and_parts (nat_le lo a) (nat_lt (a - lo) 4096) h in
    let q = ltb-true (a - lo) 4096 k.1 in
    let p = leb-true lo a k.0 in both lo (4096 * suc c) a p (omega arith)
  where
    both : (v n b : ℕ) → v ≤ b → b - v < n → is_within v n b ≡ true
    both v n b x y = grind (arith, nat_tests)

later_held : (lo to c a : ℕ) → lo + 4096 ≡ to → is_within to (4096 * c) a ≡ true → is_within lo (4096 * suc c) a ≡ true
later_held lo to c a e h =
    let k = and_parts (nat_le to a) (nat_lt (a - to) (4096 * c)) h in
    let q = ltb-true (a - to) (4096 * c) k.1 in
    let p = leb-true to a k.0 in both lo (4096 * suc c) a (omega arith) (omega arith)
  where
    both : (v n b : ℕ) → v ≤ b → b - v < n → is_within v n b ≡ true
    both v n b x y = grind (arith, nat_tests)

none_held : (lo to c a : ℕ) → lo + 4096 ≡ to → is_within lo 4096 a ≡ false → is_within to (4096 * c) a ≡ false → is_within lo (4096 * suc c) a ≡ false
none_held lo to c a e f g = elim (cases_Bool (is_within lo (4096 * suc c) a)) [
  | inr h ↦ h
  | inl h ↦
      let k = and_parts (nat_le lo a) (nat_lt (a - lo) (4096 * suc c)) h in
      let q = ltb-true (a - lo) (4096 * suc c) k.1 in
      let p = leb-true lo a k.0 in
      elim (cases_lt (a - lo) 4096) [
        | inl x ↦ absurd (true≢false (sym (both lo 4096 a p x) ∙ f))
        | inr x ↦ absurd (true≢false (sym (both to (4096 * c) a (omega arith) (omega arith)) ∙ g))
      ]
]
  where
    both : (v n b : ℕ) → v ≤ b → b - v < n → is_within v n b ≡ true
    both v n b x y = grind (arith, nat_tests)

same_first : (g : List ℕ) (lo c file a : ℕ) → is_within lo 4096 a ≡ true → slice_index (slice (4096 * suc c) (4096 * file) g) (a - lo) ≡ slice_index (slice 4096 (4096 * file) g) (a - lo)
same_first g lo c file a h =
    let q = ltb-true (a - lo) 4096 (and_parts (nat_le lo a) (nat_lt (a - lo) 4096) h).1 in
    slice_at (4096 * suc c) (4096 * file) (a - lo) g (omega arith) ∙ sym (slice_at 4096 (4096 * file) (a - lo) g q)

same_later : (g : List ℕ) (lo to c file first a : ℕ) → lo + 4096 ≡ to → file + 1 ≡ first → is_within to (4096 * c) a ≡ true → slice_index (slice (4096 * suc c) (4096 * file) g) (a - lo) ≡ slice_index (slice (4096 * c) (4096 * first) g) (a - to)
same_later g lo to c file first a e d h =
    let k = and_parts (nat_le to a) (nat_lt (a - to) (4096 * c)) h in
    let q = ltb-true (a - to) (4096 * c) k.1 in
    let p = leb-true to a k.0 in
    let m : 4096 * file + (a - lo) ≡ 4096 * first + (a - to) = omega arith in
    slice_at (4096 * suc c) (4096 * file) (a - lo) g (omega arith) ∙ ap (λ (x : ℕ). slice_index g x) m ∙ sym (slice_at (4096 * c) (4096 * first) (a - to) g q)

join_image : (g : List ℕ) (p : Page) (rs : List Run) (a : ℕ) → image (map (run_chunk g) (join_page p rs)) a ≡ image (shown g p ∷ map (run_chunk g) rs) a
join_image g p [] a = refl
join_image g p (r ∷ rs) a = step ((p.addr + 4096 == r.addr) && (p.group + 1 == r.first)) refl
  where
    joined : p.addr + 4096 ≡ r.addr → p.group + 1 ≡ r.first → image (map (run_chunk g) (record { addr = p.addr; first = p.group; count = suc r.count } ∷ rs)) a ≡ image (shown g p ∷ map (run_chunk g) (r ∷ rs)) a
    joined e d = elim (cases_Bool (is_within p.addr 4096 a)) [
      | inl t ↦
          cond-true (is_within p.addr (4096 * suc r.count) a) _ _ (first_held p.addr r.count a t)
          ∙ (λ i. Some (record { byte = same_first g p.addr r.count p.group a t i; perms = 5 }))
          ∙ sym (cond-true (is_within p.addr 4096 a) (Some (cell_in (shown g p) a)) _ t)
      | inr f ↦ elim (cases_Bool (is_within r.addr (4096 * r.count) a)) [
        | inl t ↦
            cond-true (is_within p.addr (4096 * suc r.count) a) _ _ (later_held p.addr r.addr r.count a e t)
            ∙ (λ i. Some (record { byte = same_later g p.addr r.addr r.count p.group r.first a e d t i; perms = 5 }))
            ∙ sym (cond-true (is_within r.addr (4096 * r.count) a) (Some (cell_in (run_chunk g r) a)) _ t)
            ∙ sym (cond-false (is_within p.addr 4096 a) (Some (cell_in (shown g p) a)) _ f)
        | inr f2 ↦
            cond-false (is_within p.addr (4096 * suc r.count) a) _ _ (none_held p.addr r.addr r.count a e f f2)
            ∙ sym (cond-false (is_within r.addr (4096 * r.count) a) (Some (cell_in (run_chunk g r) a)) _ f2)
            ∙ sym (cond-false (is_within p.addr 4096 a) (Some (cell_in (shown g p) a)) _ f)
      ]
    ]

    step : (b : Bool) → ((p.addr + 4096 == r.addr) && (p.group + 1 == r.first)) ≡ b → image (map (run_chunk g) (cond b (record { addr = p.addr; first = p.group; count = suc r.count } ∷ rs) (record { addr = p.addr; first = p.group; count = 1 } ∷ r ∷ rs))) a ≡ image (shown g p ∷ map (run_chunk g) (r ∷ rs)) a
    step true e = let k = and_parts (p.addr + 4096 == r.addr) (p.group + 1 == r.first) e in joined (eqb-true _ _ k.0) (eqb-true _ _ k.1)
    step false e = refl

-- runs show what their pages show, one by one
pub runs_image : (g : List ℕ) (ps : List Page) (a : ℕ) → image (map (run_chunk g) (runs_of ps)) a ≡ image (map (shown g) ps) a
runs_image g [] a = refl
runs_image g (p ∷ ps) a =
    join_image g p (runs_of ps) a ∙ ap (λ (o : Option Cell). cond (is_within p.addr 4096 a) (Some (cell_in (shown g p) a)) o) (runs_image g ps a)

-- each group page stands in its place
length_layered : (pieces : List BytesAt) (ps : List Page) (file : ℕ) (bs : List ℕ) → length (layered pieces ps file bs) ≡ length bs
length_layered pieces [] file bs = refl
length_layered pieces (p ∷ ps) file bs =
    length_layered pieces ps file (cond (p.group == file) (rewritten pieces p.addr bs) bs) ∙ step (p.group == file)
  where
    step : (b : Bool) → length (cond b (rewritten pieces p.addr bs) bs) ≡ length bs
    step true = length_rewritten pieces p.addr bs
    step false = refl

-- a group page has 4,096 bytes
pub length_group_page : (j : Job) (file : ℕ) → length (group_page j.pieces j.pages file) ≡ 4096
unfolding group_page
length_group_page j file = length_layered j.pieces j.pages file (replicate 4096 0) ∙ length-replicate {A = ℕ} 4096 0

-- n group pages have 4,096 bytes each
pub length_group_pages : (j : Job) (k n : ℕ) → length (group_pages j.pieces j.pages k n) ≡ 4096 * n
length_group_pages j k zero = refl
length_group_pages j k (suc n) =
    let a = length_group_page j k in let b = length_group_pages j (k + 1) n in omega (arith, length-append (group_page j.pieces j.pages k) (group_pages j.pieces j.pages (k + 1) n))

-- among the group pages each stands at 4,096 times its number
pub group_found : (j : Job) (g n k : ℕ) → g < n → slice 4096 (4096 * g) (group_pages j.pieces j.pages k n) ≡ group_page j.pieces j.pages (k + g)
group_found j g zero k l = absurd (omega arith)
group_found j zero (suc n) k l =
    let e : k ≡ k + 0 = omega arith in
    slice_middle 4096 0 [] (group_page j.pieces j.pages k) (group_pages j.pieces j.pages (k + 1) n) refl (length_group_page j k) ∙ ap (group_page j.pieces j.pages) e
group_found j (suc g) (suc n) k l =
    let e : k + 1 + g ≡ k + suc g = omega arith in
    let m : 4096 * suc g ≡ 4096 + 4096 * g = omega arith in
    ap (λ (x : ℕ). slice 4096 x (group_page j.pieces j.pages k ++ group_pages j.pieces j.pages (k + 1) n)) m
    ∙ slice_past 4096 4096 (4096 * g) (group_page j.pieces j.pages k) (group_pages j.pieces j.pages (k + 1) n) (length_group_page j k)
    ∙ group_found j g n (k + 1) (omega arith) ∙ ap (group_page j.pieces j.pages) e

shown_pages : (j : Job) (ps : List Page) → AllByRecursion (λ p. p.group < j.groups) ps → map (shown (group_pages j.pieces j.pages 0 j.groups)) ps ≡ map (page_chunk j) ps
shown_pages j [] h = refl
shown_pages j (p ∷ ps) h =
    let e : 0 + p.group ≡ p.group = omega arith in
    let first = group_found j p.group j.groups 0 h.0 ∙ ap (group_page j.pieces j.pages) e in
    let later = shown_pages j ps h.1 in
    λ i. record { lo = p.addr; size = 4096; perms = 5; bytes = first i } ∷ later i

-- the runs over the group pages show a job's pages for code
pub pages_shown : (j : Job) → IsJob j → (a : ℕ) → image (map (run_chunk (group_pages j.pieces j.pages 0 j.groups)) (runs_of j.pages)) a ≡ pages_image j a
pages_shown j h a =
    runs_image (group_pages j.pieces j.pages 0 j.groups) j.pages a
    ∙ ap (λ (cs : List Chunk). image cs a) (shown_pages j j.pages (all_map (IsPage j.private_lo j.private_hi j.groups) (λ p. p.group < j.groups) j.pages (λ p k. k.shown) h.pages))

-- the byte at a place of a group page
abbrev layered_byte : List BytesAt → List Page → ℕ → ℕ → ℕ → ℕ
layered_byte pieces [] file k b = b
layered_byte pieces (p ∷ ps) file k b = layered_byte pieces ps file k (cond (p.group == file) (written_at pieces (p.addr + k) b) b)

one_byte : (pieces : List BytesAt) (lo k : ℕ) (bs : List ℕ) → k < length bs → slice_index (rewritten pieces lo bs) k ≡ written_at pieces (lo + k) (slice_index bs k)
one_byte pieces lo k bs l =
    let e : lo + k - lo ≡ k = omega arith in
    subst (λ (x : ℕ). slice_index (rewritten pieces lo bs) x ≡ written_at pieces (lo + k) (slice_index bs x)) e
    (new_byte pieces lo (lo + k) bs (omega arith) (λ f. absurd (true≢false (sym (inside f) ∙ f))))
  where
    inside : nat_lt (lo + k - lo) (length bs) ≡ false → nat_lt (lo + k - lo) (length bs) ≡ true
    inside f = let q = ltb-false (lo + k - lo) (length bs) f in absurd (omega arith)

layered_at : (pieces : List BytesAt) (ps : List Page) (file k : ℕ) (bs : List ℕ) → k < length bs → slice_index (layered pieces ps file bs) k ≡ layered_byte pieces ps file k (slice_index bs k)
layered_at pieces [] file k bs l = refl
layered_at pieces (p ∷ ps) file k bs l = step (p.group == file) (layered_at pieces ps file k (rewritten pieces p.addr bs)) (layered_at pieces ps file k bs l)
  where
    step : (c : Bool) → (k < length (rewritten pieces p.addr bs) → slice_index (layered pieces ps file (rewritten pieces p.addr bs)) k ≡ layered_byte pieces ps file k (slice_index (rewritten pieces p.addr bs) k))
        → slice_index (layered pieces ps file bs) k ≡ layered_byte pieces ps file k (slice_index bs k)
        → slice_index (layered pieces ps file (cond c (rewritten pieces p.addr bs) bs)) k ≡ layered_byte pieces ps file k (cond c (written_at pieces (p.addr + k) (slice_index bs k)) (slice_index bs k))
    step true f g = let n = length_rewritten pieces p.addr bs in f (omega arith) ∙ ap (layered_byte pieces ps file k) (one_byte pieces p.addr k bs l)
    step false f g = g

unoccupied : (pieces : List BytesAt) (a v : ℕ) → is_occupied pieces a ≡ false → written_at pieces a v ≡ v
unoccupied pieces a v h = written_none pieces a v (none_any (λ w. in_patch w a) pieces h)

layered_none : (pieces : List BytesAt) (ps : List Page) (file k b : ℕ) → AllByRecursion (λ q. q.group ≡ file → is_occupied pieces (q.addr + k) ≡ false) ps → layered_byte pieces ps file k b ≡ b
layered_none pieces [] file k b h = refl
layered_none pieces (p ∷ ps) file k b h =
    ap (layered_byte pieces ps file k) (step (p.group == file) refl) ∙ layered_none pieces ps file k b h.1
  where
    step : (c : Bool) → (p.group == file) ≡ c → cond c (written_at pieces (p.addr + k) b) b ≡ b
    step true e = unoccupied pieces (p.addr + k) b (h.0 (eqb-true p.group file e))
    step false e = refl

same_file : (n : ℕ) → (n == n) ≡ true
same_file n = grind (arith, nat_tests)

layered_only : (pieces : List BytesAt) (ps : List Page) (k : ℕ) → k < 4096 → PairsByRecursion (PagesApart pieces) ps → AllByRecursion (λ q. is_occupied pieces (q.addr + k) ≡ true → (b : ℕ) → layered_byte pieces ps q.group k b ≡ written_at pieces (q.addr + k) b) ps
layered_only pieces [] k l h = tt
layered_only pieces (p ∷ ps) k l h = (
  λ o b.
      layered_none pieces ps p.group k (cond (p.group == p.group) (written_at pieces (p.addr + k) b) b)
      (all_map (PagesApart pieces p) (λ q. q.group ≡ p.group → is_occupied pieces (q.addr + k) ≡ false) ps (λ q r e. r.free (sym e) k l o) h.0)
      ∙ cond-true (p.group == p.group) (written_at pieces (p.addr + k) b) b (same_file p.group),
  all_map (λ q. PagesApart pieces p q × (is_occupied pieces (q.addr + k) ≡ true → (b : ℕ) → layered_byte pieces ps q.group k b ≡ written_at pieces (q.addr + k) b))
      (λ q. is_occupied pieces (q.addr + k) ≡ true → (b : ℕ) → layered_byte pieces (p ∷ ps) q.group k b ≡ written_at pieces (q.addr + k) b) ps
      (λ q r o b. ap (layered_byte pieces ps q.group k) (kept q r.0 o b (p.group == q.group) refl) ∙ r.1 o b)
      (all_both (PagesApart pieces p) (λ q. is_occupied pieces (q.addr + k) ≡ true → (b : ℕ) → layered_byte pieces ps q.group k b ≡ written_at pieces (q.addr + k) b) ps h.0 (layered_only pieces ps k l h.1)),
)
  where
    kept : (q : Page) → PagesApart pieces p q → is_occupied pieces (q.addr + k) ≡ true → (b : ℕ) (c : Bool) → (p.group == q.group) ≡ c → cond c (written_at pieces (p.addr + k) b) b ≡ b
    kept q r o b false e = refl
    kept q r o b true e = elim (cases_Bool (is_occupied pieces (p.addr + k))) [
      | inr f ↦ unoccupied pieces (p.addr + k) b f
      | inl t ↦ absurd (true≢false (sym o ∙ r.free (eqb-true p.group q.group e) k l t))
    ]

-- a page shows its own group page
on_own : (lo k : ℕ) → k < 4096 → is_within lo 4096 (lo + k) ≡ true
on_own lo k l = grind (arith, nat_tests)

not_before : (lo a : ℕ) → lo + 4096 ≤ a → is_within lo 4096 a ≡ false
not_before lo a l = grind (arith, nat_tests)

abbrev Own : Job → List Page → Page → Type 0
Own j ps p = (k : ℕ) → k < 4096 → image (map (page_chunk j) ps) (p.addr + k) ≡ Some (record { byte = slice_index (group_page j.pieces j.pages p.group) k; perms = 5 })

pages_own : (j : Job) (pieces : List BytesAt) (ps : List Page) → PairsByRecursion (PagesApart pieces) ps → AllByRecursion (Own j ps) ps
pages_own j pieces [] h = tt
pages_own j pieces (p ∷ ps) h = (
  λ k l.
      cond-true (is_within p.addr 4096 (p.addr + k)) (Some (cell_in (page_chunk j p) (p.addr + k))) _ (on_own p.addr k l)
      ∙ (let e : p.addr + k - p.addr ≡ k = omega arith in λ i. Some (record { byte = slice_index (group_page j.pieces j.pages p.group) (e i); perms = 5 })),
  all_map (λ q. PagesApart pieces p q × Own j ps q) (Own j (p ∷ ps)) ps
      (λ q r k l. cond-false (is_within p.addr 4096 (q.addr + k)) (Some (cell_in (page_chunk j p) (q.addr + k))) _ (not_before p.addr (q.addr + k) (let a = r.0.ascend in omega arith)) ∙ r.1 k l)
      (all_both (PagesApart pieces p) (Own j ps) ps h.0 (pages_own j pieces ps h.1)),
)

-- what each element of some that passes a test gives
pub any_elim : {X : Type 0} {Q : Type 0} (p : X → Bool) (xs : List X) → list_any p xs ≡ true → AllByRecursion (λ x. p x ≡ true → Q) xs → Q
any_elim p [] h k = absurd (true≢false (sym h))
any_elim p (x ∷ xs) h k = elim (or_cases (p x) (list_any p xs) h) [ inl t ↦ k.0 t | inr t ↦ any_elim p xs t k.1 ]

in_own : (w : BytesAt) (k : ℕ) → k < length w.now → in_patch w (w.addr + k) ≡ true
in_own w k l = own w.addr k (length w.now) l
  where
    own : (lo i n : ℕ) → i < n → (nat_le lo (lo + i) && nat_lt (lo + i - lo) n) ≡ true
    own lo i n m = grind (arith, nat_tests)

abbrev WrittenOwn : List BytesAt → BytesAt → Type 0
WrittenOwn ws w = (k b : ℕ) → k < length w.now → written_at ws (w.addr + k) b ≡ slice_index w.now k

written_own : (ws : List BytesAt) → PairsByRecursion PiecesApart ws → AllByRecursion (WrittenOwn ws) ws
written_own [] h = tt
written_own (w ∷ ws) h = (
  λ k b l.
      written_none ws (w.addr + k) (written_by w (w.addr + k) b) (all_map (PiecesApart w) (λ v. in_patch v (w.addr + k) ≡ false) ws (λ v q. q (w.addr + k) (in_own w k l)) h.0)
      ∙ cond-true (in_patch w (w.addr + k)) (slice_index w.now (w.addr + k - w.addr)) b (in_own w k l)
      ∙ (let e : w.addr + k - w.addr ≡ k = omega arith in ap (slice_index w.now) e),
  all_map (WrittenOwn ws) (WrittenOwn (w ∷ ws)) ws (λ v q k b l. q k (written_by w (v.addr + k) b) l) (written_own ws h.1),
)

occupied_own : (ws : List BytesAt) → AllByRecursion (λ w. (k : ℕ) → k < length w.now → is_occupied ws (w.addr + k) ≡ true) ws
occupied_own [] = tt
occupied_own (w ∷ ws) = (
  λ k l. or_left (in_patch w (w.addr + k)) (is_occupied ws (w.addr + k)) (in_own w k l),
  all_map (λ v. (k : ℕ) → k < length v.now → is_occupied ws (v.addr + k) ≡ true) (λ v. (k : ℕ) → k < length v.now → is_occupied (w ∷ ws) (v.addr + k) ≡ true) ws
      (λ v q k l. or_right (in_patch w (v.addr + k)) (is_occupied ws (v.addr + k)) (q k l)) (occupied_own ws),
)

group_byte : (j : Job) (file k : ℕ) → k < 4096 → slice_index (group_page j.pieces j.pages file) k ≡ layered_byte j.pieces j.pages file k 0
unfolding group_page
group_byte j file k l =
    let n = length-replicate {A = ℕ} 4096 0 in
    layered_at j.pieces j.pages file k (replicate 4096 0) (omega arith) ∙ ap (layered_byte j.pieces j.pages file k) (get_or-replicate 4096 k 0 0 l)

on_at : (p : Page) (a : ℕ) → is_on p a ≡ true → (p.addr ≤ a) × (a - p.addr < 4096)
on_at p a h = let k = and_parts (nat_le p.addr a) (nat_lt (a - p.addr) 4096) h in (leb-true p.addr a k.0, ltb-true (a - p.addr) 4096 k.1)

abbrev Shows : Job → ℕ → ℕ → Type 0
Shows j a v = pages_image j a ≡ Some (record { byte = v; perms = 5 })

page_shows : (j : Job) (p : Page) (a v : ℕ) → Own j j.pages p → ((k : ℕ) → k < 4096 → is_occupied j.pieces (p.addr + k) ≡ true → (b : ℕ) → layered_byte j.pieces j.pages p.group k b ≡ written_at j.pieces (p.addr + k) b)
    → is_on p a ≡ true → is_occupied j.pieces a ≡ true → ((b : ℕ) → written_at j.pieces a b ≡ v) → Shows j a v
page_shows j p a v own only h o w =
    let k = on_at p a h in let k0 = k.0 in
    let e : p.addr + (a - p.addr) ≡ a = omega arith in
    let byte =
    group_byte j p.group (a - p.addr) k.1
    ∙ only (a - p.addr) k.1 (subst (λ (x : ℕ). is_occupied j.pieces x ≡ true) (sym e) o) 0
    ∙ ap (λ (x : ℕ). written_at j.pieces x 0) e ∙ w 0 in
    subst (λ (x : ℕ). Shows j x v) e (own (a - p.addr) k.1 ∙ (λ i. Some (record { byte = byte i; perms = 5 })))

-- for each place, from one place
each_place : (pieces : List BytesAt) (ps qs : List Page) → ((k : ℕ) → k < 4096 → AllByRecursion (λ q. is_occupied pieces (q.addr + k) ≡ true → (b : ℕ) → layered_byte pieces ps q.group k b ≡ written_at pieces (q.addr + k) b) qs)
    → AllByRecursion (λ q. (k : ℕ) → k < 4096 → is_occupied pieces (q.addr + k) ≡ true → (b : ℕ) → layered_byte pieces ps q.group k b ≡ written_at pieces (q.addr + k) b) qs
each_place pieces ps [] h = tt
each_place pieces ps (q ∷ qs) h = (λ k l. (h k l).0, each_place pieces ps qs (λ k l. (h k l).1))

-- each piece's bytes are at their places on the pages for code
pub pieces_placed : (j : Job) → IsJob j → AllByRecursion (IsPlacedIn (pages_image j)) j.pieces
pieces_placed j h =
    let only = λ (k : ℕ) (l : k < 4096). layered_only j.pieces j.pages k l h.pages_apart in
    let places = all_both (Own j j.pages) (λ q. (k : ℕ) → k < 4096 → is_occupied j.pieces (q.addr + k) ≡ true → (b : ℕ) → layered_byte j.pieces j.pages q.group k b ≡ written_at j.pieces (q.addr + k) b) j.pages
    (pages_own j j.pieces j.pages h.pages_apart) (each_place j.pieces j.pages j.pages only) in
    all_map (λ w. WrittenOwn j.pieces w × ((k : ℕ) → k < length w.now → is_occupied j.pieces (w.addr + k) ≡ true)) (IsPlacedIn (pages_image j)) j.pieces
    (λ w r k l.
    let o = r.1 k l in
    any_elim {Q = Shows j (w.addr + k) (slice_index w.now k)} (λ p. is_on p (w.addr + k)) j.pages (h.on_pages (w.addr + k) o)
    (all_map (λ q. Own j j.pages q × ((i : ℕ) → i < 4096 → is_occupied j.pieces (q.addr + i) ≡ true → (b : ℕ) → layered_byte j.pieces j.pages q.group i b ≡ written_at j.pieces (q.addr + i) b))
    (λ q. is_on q (w.addr + k) ≡ true → Shows j (w.addr + k) (slice_index w.now k)) j.pages
    (λ q m t. page_shows j q (w.addr + k) (slice_index w.now k) m.0 m.1 t o (λ b. r.0 k b l)) places))
    (all_both (WrittenOwn j.pieces) (λ w. (k : ℕ) → k < length w.now → is_occupied j.pieces (w.addr + k) ≡ true) j.pieces (written_own j.pieces h.pieces_apart) (occupied_own j.pieces))

-- a byte of a page for code is 0 where no piece stands on any page of its group
pub zero_elsewhere : (j : Job) → IsJob j → AllByRecursion (IsZeroElsewhere j (pages_image j)) j.pages
zero_elsewhere j h =
    all_map (Own j j.pages) (IsZeroElsewhere j (pages_image j)) j.pages
    (λ p own k l n. own k l ∙ (let e = group_byte j p.group k l ∙ layered_none j.pieces j.pages p.group k 0 n in λ i. Some (record { byte = e i; perms = 5 })))
    (pages_own j j.pieces j.pages h.pages_apart)
