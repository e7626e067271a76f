-- Loops over a run's bytes and over runs: what is put back so far, and the least address that is missing so far.
use Rattle.std.proofs.Common.{◌≡◌, ℕ, ◌+◌, ◌<◌, ◌≤◌, cond, List, [], ◌∷◌, ◌++◌, length, take, drop, map, flat_map, get_or, Option, Some, refl, sym, ap, ◌∙◌, arith}
use Rattle.std.proofs.lemmas.List.{drop_more, drop_all, take_all, append-nil}
use Rattle.pun_base.specs.declared.plan.Write.{Write}
use Rattle.patch_report.specs.Values.{WriteValue, write_value}
use Rattle.patch_report.specs.declared.origin.Origin.{Origin}
use Rattle.unpatch.specs.Undone.{addressed, old_bytes, place_of, put_at, put_back, with_origin, undone}
use Rattle.unpatch.specs.Refusals.{is_there, least_from, lesser, new_bytes, UndoneBy}

no_byte : (a i : ℕ) (bs : List ℕ) → length bs ≤ i → addressed (a + i) (drop i bs) ≡ []
no_byte a i bs l = ap (addressed (a + i)) (drop_all i bs l)

-- runs one after the other
put_both : (file : List ℕ) (ps qs : List (ℕ × ℕ)) (xs : List ℕ) → put_back file (ps ++ qs) xs ≡ put_back file qs (put_back file ps xs)
put_both file [] qs xs = refl
put_both file (p ∷ ps) qs xs = put_both file ps qs (put_at (place_of file p.0) p.1 xs)

least_both : (file : List ℕ) (ps qs : List (ℕ × ℕ)) (best : Option ℕ) → least_from file (ps ++ qs) best ≡ least_from file qs (least_from file ps best)
least_both file [] qs best = refl
least_both file (p ∷ ps) qs best = least_both file ps qs (cond (is_there file p) best (Some (lesser p.0 best)))

next_runs : (g : WriteValue → List (ℕ × ℕ)) (i : ℕ) (d : Write) (ws : List Write) → i < length ws
    → flat_map g (map write_value (drop i ws)) ≡ g (write_value (get_or ws i d)) ++ flat_map g (map write_value (drop (i + 1) ws))
next_runs g i d ws l = ap (λ (vs : List Write). flat_map g (map write_value vs)) (drop_more ws i d l)

-- once the next run is put back, one run less is to come
pub run_put : (file xs ys zs : List ℕ) (i : ℕ) (d w : Write) (ws : List Write) → i < length ws → w ≡ get_or ws i d
    → ys ≡ put_back file (addressed w.addr w.was) xs → put_back file (old_bytes (map write_value (drop i ws))) xs ≡ zs
    → put_back file (old_bytes (map write_value (drop (i + 1) ws))) ys ≡ zs
run_put file xs ys zs i d w ws l e p h =
    ap (put_back file (old_bytes (map write_value (drop (i + 1) ws)))) (p ∙ ap (λ (v : Write). put_back file (addressed v.addr v.was) xs) e)
    ∙ sym (put_both file (addressed (get_or ws i d).addr (get_or ws i d).was) (old_bytes (map write_value (drop (i + 1) ws))) xs)
    ∙ sym (ap (λ (ps : List (ℕ × ℕ)). put_back file ps xs) (next_runs (λ v. addressed v.addr v.was) i d ws l)) ∙ h

-- past a run's last byte, the least address so far is that of the run
pub least_done : (file bs : List ℕ) (a i : ℕ) (best out : Option ℕ) → length bs ≤ i → least_from file (addressed (a + i) (drop i bs)) best ≡ out → best ≡ out
least_done file bs a i best out l h = sym (ap (λ (ps : List (ℕ × ℕ)). least_from file ps best) (no_byte a i bs l)) ∙ h

-- once the next run is looked for, the least address that is missing is left to the runs behind it
pub run_missed : (file : List ℕ) (i : ℕ) (d w : Write) (ws : List Write) (best next out : Option ℕ) → i < length ws → w ≡ get_or ws i d
    → next ≡ least_from file (addressed w.addr w.now) best → least_from file (new_bytes (map write_value (drop i ws))) best ≡ out
    → least_from file (new_bytes (map write_value (drop (i + 1) ws))) next ≡ out
run_missed file i d w ws best next out l e p h =
    ap (least_from file (new_bytes (map write_value (drop (i + 1) ws)))) (p ∙ ap (λ (v : Write). least_from file (addressed v.addr v.now) best) e)
    ∙ sym (least_both file (addressed (get_or ws i d).addr (get_or ws i d).now) (new_bytes (map write_value (drop (i + 1) ws))) best)
    ∙ sym (ap (λ (ps : List (ℕ × ℕ)). least_from file ps best) (next_runs (λ v. addressed v.addr v.now) i d ws l)) ∙ h

-- a file's first bytes, changed in place to the original's fields and the old bytes, are the file undone
pub is_undone : (file now items new part : List ℕ) (o : Origin) (ws : List WriteValue) (len : ℕ) → part ≡ file
    → items ≡ take o.len part → now ≡ items → length new ≡ length now → length now ≡ len
    → new ≡ put_back file (old_bytes ws) (with_origin o now) → UndoneBy file (Some o) ws (take len (new ++ drop (length new) items))
unfolding undone
is_undone file now items new part o ws len f i v l n h =
    let none : drop (length new) items ≡ [] = drop_all (length new) items (let z = ap length v in omega arith) in
    let all : take len (new ++ drop (length new) items) ≡ new = ap (λ (z : List ℕ). take len (new ++ z)) none ∙ ap (take len) (append-nil new) ∙ take_all len new (omega arith) in
    let first : now ≡ take o.len file = v ∙ i ∙ ap (take o.len) f in
    all ∙ h ∙ ap (λ (z : List ℕ). put_back file (old_bytes ws) (with_origin o z)) first
