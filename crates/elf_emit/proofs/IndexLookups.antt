-- The writes and pages that an index finds change what all of them change.
use Rattle.std.proofs.Common.{◌≡◌, ℕ, zero, suc, ◌+◌, ◌-◌, ◌*◌, ◌/◌, ◌%◌, ◌<◌, ◌≤◌, ◌==◌, inl, inr, Bool, true, false, cond, ◌&&◌, nat_le, nat_lt, List, [], ◌∷◌, length, map, get_or, refl, sym, ap, ◌∙◌, subst, arith}
use Rattle.std.specs.List.{AllByRecursion, Contains, slice_index_or}
use Rattle.std.specs.List.Sorted.{IsStrictlyIncreasing}
use Rattle.std.proofs.lemmas.Bool.{and_parts, cases_lt, cond-false, ltb-true, leb-true, true≢false, false_from_ne_true}
use Rattle.std.proofs.lemmas.Bool.Decides.{nat_tests}
use Rattle.std.proofs.lemmas.List.{get_or_past, length-map}
use Rattle.elf_emit.proofs.OverwrittenBytes.{rewritten-nil}
use Rattle.elf_emit.specs.declared.runs.Page.{Page}
use Rattle.elf_emit.specs.Job.{BytesAt}
use Rattle.elf_emit.specs.Layout.{in_patch, written_by, written_at, rewritten, layered}
use Rattle.elf_emit.specs.Index.{meets_page, shows, Finds, ArePairsOf}
use Rattle.elf_emit.proofs.StayingSegments.{all_map}
use Rattle.elf_emit.proofs.JobConditions.{rising_tail, rising_all}

-- a function for each of a list, one after the other
abbrev pub fold : {X B : Type 0} → (X → B → B) → List X → B → B
fold f [] b = b
fold f (x ∷ xs) b = fold f xs (f x b)

tail_has : (k : ℕ) (ks : List ℕ) (y i : ℕ) → i < length (k ∷ ks) → slice_index_or (k ∷ ks) i y ≡ y → (k ≡ y → ⊥) → Contains ks y
tail_has k ks y zero l e n = absurd (n e)
tail_has k ks y (suc i) l e n = (i, omega arith, e)

-- what is in a list is no less than what all in it are no less than
least_has : (m : ℕ) (ks : List ℕ) (y i : ℕ) → AllByRecursion (λ k. m ≤ k) ks → i < length ks → slice_index_or ks i y ≡ y → m ≤ y
least_has m [] y i h l e = absurd (omega arith)
least_has m (k ∷ ks) y zero h l e = let a = h.0 in omega arith
least_has m (k ∷ ks) y (suc i) h l e = least_has m ks y i h.1 (omega arith) e

-- places in a list and in its rest
moved_places : {X : Type 0} (w : X) (ws : List X) (d : X) (base : ℕ) (ks : List ℕ) → AllByRecursion (λ k. base + 1 ≤ k) ks
    → map (λ k. get_or (w ∷ ws) (k - base) d) ks ≡ map (λ k. get_or ws (k - (base + 1)) d) ks
moved_places w ws d base [] h = refl
moved_places w ws d base (k ∷ ks) h =
    let e : k - base ≡ suc (k - (base + 1)) = (let a = h.0 in omega arith) in
    let r = moved_places w ws d base ks h.1 in
    λ i. get_or (w ∷ ws) (e i) d ∷ r i

none_picked : {X B : Type 0} (f : X → B → B) (d : X) (base : ℕ) (ks : List ℕ) → ((b : B) → f d b ≡ b) → (b : B) → fold f (map (λ k. get_or [] (k - base) d) ks) b ≡ b
none_picked f d base [] z b = refl
none_picked f d base (k ∷ ks) z b =
    ap (λ x. fold f (map (λ n. get_or [] (n - base) d) ks) (f x b)) (get_or_past [] (k - base) d (omega arith))
    ∙ ap (λ x. fold f (map (λ n. get_or [] (n - base) d) ks) x) (z b) ∙ none_picked f d base ks z b

-- ascending places, among which are those of all that isn't passed over
pub same_fold : {X B : Type 0} (f : X → B → B) (d : X) (has : X → Bool) (items : List X) (base : ℕ) (ks : List ℕ)
    → ((b : B) → f d b ≡ b) → ((x : X) (b : B) → has x ≡ false → f x b ≡ b) → IsStrictlyIncreasing ks → AllByRecursion (λ k. base ≤ k) ks
    → ((place : ℕ) (x : X) → place < length items → has (get_or items place x) ≡ true → Contains ks (base + place)) → (b : B)
    → fold f (map (λ k. get_or items (k - base) d) ks) b ≡ fold f items b
same_fold f d has [] base ks z s r h e b = none_picked f d base ks z b
same_fold f d has (w ∷ ws) base [] z s r h e b =
    let n : has w ≡ false = false_from_ne_true (has w) (λ t. let c = e 0 w (omega arith) t in let q = c.1 in omega arith) in
    same_fold f d has ws (base + 1) [] z s r tt (λ place x l t. subst (λ (m : ℕ). Contains [] m) (omega arith) (e (suc place) x (omega arith) t)) b
    ∙ ap (fold f ws) (sym (s w b n))
same_fold f d has (w ∷ ws) base (k ∷ ks) z s r h e b = elim (cases_lt base k) [
  | inl above ↦
      let hs : AllByRecursion (λ y. base + 1 ≤ y) (k ∷ ks) = (omega arith, all_map (λ y. k < y) (λ y. base + 1 ≤ y) ks (λ y m. omega arith) (rising_all k ks r)) in
      let n : has w ≡ false = false_from_ne_true (has w) (λ t. let c = e 0 w (omega arith) t in let q = least_has (base + 1) (k ∷ ks) (base + 0) c.0 hs c.1 c.2 in omega arith) in
      ap (λ y. fold f y b) (moved_places w ws d base (k ∷ ks) hs)
      ∙ same_fold f d has ws (base + 1) (k ∷ ks) z s r hs (λ place x l t. subst (λ (m : ℕ). Contains (k ∷ ks) m) (omega arith) (e (suc place) x (omega arith) t)) b
      ∙ ap (fold f ws) (sym (s w b n))
  | inr same ↦
      let q : k ≡ base = (let a = h.0 in omega arith) in
      let zero_place : k - base ≡ 0 = omega arith in
      let hs : AllByRecursion (λ y. base + 1 ≤ y) ks = all_map (λ y. k < y) (λ y. base + 1 ≤ y) ks (λ y m. omega arith) (rising_all k ks r) in
      ap (λ (n : ℕ). fold f (map (λ y. get_or (w ∷ ws) (y - base) d) ks) (f (get_or (w ∷ ws) n d) b)) zero_place
      ∙ ap (λ y. fold f y (f w b)) (moved_places w ws d base ks hs)
      ∙ same_fold f d has ws (base + 1) ks z s (rising_tail k ks r) hs
      (λ place x l t. let c = e (suc place) x (omega arith) t in
      subst (λ (m : ℕ). Contains ks m) (omega arith) (tail_has k ks (base + suc place) c.0 c.1 c.2 (λ p. omega arith))) (f w b)
]

written_fold : (ws : List BytesAt) (a b : ℕ) → written_at ws a b ≡ fold (λ w c. written_by w a c) ws b
written_fold [] a b = refl
written_fold (w ∷ ws) a b = written_fold ws a (written_by w a b)

layered_fold : (pieces : List BytesAt) (ps : List Page) (group : ℕ) (bs : List ℕ) → layered pieces ps group bs ≡ fold (λ (p : Page) (cs : List ℕ). cond (p.group == group) (rewritten pieces p.addr cs) cs) ps bs
layered_fold pieces [] group bs = refl
layered_fold pieces (p ∷ ps) group bs = layered_fold pieces ps group (cond (p.group == group) (rewritten pieces p.addr bs) bs)

-- writes that do the same at each byte
same_rewritten : (ws vs : List BytesAt) (lo : ℕ) (bs : List ℕ) → ((a b : ℕ) → lo ≤ a → a < lo + length bs → written_at ws a b ≡ written_at vs a b) → rewritten ws lo bs ≡ rewritten vs lo bs
same_rewritten ws vs lo [] h = refl
same_rewritten ws vs lo (b ∷ bs) h =
    let first = h lo b (omega arith) (omega arith) in
    let later = same_rewritten ws vs (lo + 1) bs (λ a c l m. h a c (omega arith) (omega arith)) in
    λ i. first i ∷ later i

-- no bytes, wherever
abbrev pub nothing : BytesAt
nothing = record { addr = 0; now = [] }

nothing_written : (a b : ℕ) → written_by nothing a b ≡ b
nothing_written a b = cond-false _ _ _ (none a)
  where
    none : (x : ℕ) → (nat_le 0 x && nat_lt (x - 0) 0) ≡ false
    none x = grind (arith, nat_tests)

-- bytes that don't meet a page don't change its bytes
page_missed : (w : BytesAt) (key a b : ℕ) → a / 4096 ≡ key → meets_page w key ≡ false → written_by w a b ≡ b
page_missed w key a b e n = cond-false _ _ _ (false_from_ne_true (in_patch w a) (λ t. true≢false (sym (met t) ∙ n)))
  where
    both : (x y z : ℕ) → x ≤ y → y ≤ z → (nat_le x y && nat_le y z) ≡ true
    both x y z l m = grind (arith, nat_tests)

    met : in_patch w a ≡ true → meets_page w key ≡ true
    met t =
        let k = and_parts (nat_le w.addr a) (nat_lt (a - w.addr) (length w.now)) t in
        let p = leb-true w.addr a k.0 in
        let q = ltb-true (a - w.addr) (length w.now) k.1 in
        both (w.addr / 4096) key ((w.addr + length w.now) / 4096) (omega arith) (omega arith)

-- the writes that an index finds for a page change its bytes as all writes do
pub picked_written : (items : List BytesAt) (pairs part : List ℕ) (key lo : ℕ) (bs : List ℕ) → Finds meets_page items pairs → ArePairsOf key pairs part
    → lo / 4096 ≡ key → lo % 4096 + length bs ≤ 4096
    → rewritten (map (λ k. get_or items (k - key * 0x100000000) nothing) part) lo bs ≡ rewritten items lo bs
picked_written items pairs part key lo bs f p e l =
    same_rewritten (map (λ k. get_or items (k - key * 0x100000000) nothing) part) items lo bs (λ a b m n.
    written_fold (map (λ k. get_or items (k - key * 0x100000000) nothing) part) a b
    ∙ same_fold (λ w c. written_by w a c) nothing (λ w. meets_page w key) items (key * 0x100000000) part (nothing_written a) (λ w c q. page_missed w key a c (omega arith) q)
    p.ascending p.above (λ place x o t. let few = f.few in p.each place (omega arith) (f.each key place x o t)) b
    ∙ sym (written_fold items a b))

-- the pages that an index finds for a group make its group page as all pages do
pub picked_shown : (pieces : List BytesAt) (pages : List Page) (pairs part : List ℕ) (group : ℕ) (bs : List ℕ) → Finds shows pages pairs → ArePairsOf group pairs part
    → layered pieces (map (λ k. get_or pages (k - group * 0x100000000) (record { addr = 0; group = group + 1 })) part) group bs ≡ layered pieces pages group bs
picked_shown pieces pages pairs part group bs f p =
    layered_fold pieces (map (λ k. get_or pages (k - group * 0x100000000) (record { addr = 0; group = group + 1 })) part) group bs
    ∙ same_fold (λ (q : Page) (cs : List ℕ). cond (q.group == group) (rewritten pieces q.addr cs) cs) (record { addr = 0; group = group + 1 }) (λ q. shows q group) pages (group * 0x100000000) part
    (λ cs. cond-false _ _ _ (other group)) (λ q cs n. cond-false _ _ _ n) p.ascending p.above
    (λ place x o t. let few = f.few in p.each place (omega arith) (f.each group place x o t)) bs
    ∙ sym (layered_fold pieces pages group bs)
  where
    other : (n : ℕ) → (n + 1 == n) ≡ false
    other n = grind (arith, nat_tests)

-- no write at a place past the end
pub past_written : {X : Type 0} (f : X → BytesAt) (xs : List X) (place lo : ℕ) (b : List ℕ) → length xs ≤ place → b ≡ rewritten (get_or (map f xs) place nothing ∷ []) lo b
past_written f xs place lo b l =
    let e : get_or (map f xs) place nothing ≡ nothing = get_or_past (map f xs) place nothing (omega (arith, length-map xs f)) in
    sym (ap (λ (w : BytesAt). rewritten (w ∷ []) lo b) e ∙ same_rewritten (nothing ∷ []) [] lo b (λ a c l2 m. nothing_written a c) ∙ rewritten-nil lo b)
