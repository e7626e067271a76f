-- The first run of pages, counted page by page.
use Rattle.std.proofs.Common.{◌≡◌, ℕ, suc, ◌+◌, ◌-◌, ◌<◌, ◌≤◌, ◌==◌, ◌⊎◌, inl, inr, Bool, true, false, cond, ◌&&◌, List, [], ◌∷◌, length, drop, get_or, refl, sym, ap, ◌∙◌, subst, arith}
use Rattle.std.proofs.Math.Seq.{drop-cons, drop-length}
use Rattle.std.proofs.lemmas.List.{get_or-drop}
use Rattle.std.proofs.lemmas.Bool.{cond-true, cond-false}
use Rattle.elf_emit.specs.declared.runs.Page.{Page}
use Rattle.elf_emit.specs.declared.runs.Run.{Run}
use Rattle.elf_emit.specs.Layout.{join_page, runs_of}
use Rattle.elf_emit.specs.Views.{headed, follows}

-- the first run begins at a page
abbrev pub Begins : Page → List Run → Type 0
Begins p [] = ⊥
Begins p (r ∷ rs) = (r.addr ≡ p.addr) × (r.first ≡ p.group)

join_begins : (p : Page) (rs : List Run) → Begins p (join_page p rs)
join_begins p [] = (refl, refl)
join_begins p (r ∷ rs) = step ((p.addr + 4096 == r.addr) && (p.group + 1 == r.first))
  where
    step : (b : Bool) → Begins p (cond b (record { addr = p.addr; first = p.group; count = suc r.count } ∷ rs) (record { addr = p.addr; first = p.group; count = 1 } ∷ r ∷ rs))
    step true = (refl, refl)
    step false = (refl, refl)

-- where the next page follows, it belongs to the run; where it doesn't, or there is none, the run ends
join_followed : (p q : Page) (r : Run) (rs : List Run) → (r.addr ≡ q.addr) × (r.first ≡ q.group) → follows p q ≡ true → join_page p (r ∷ rs) ≡ record { addr = p.addr; first = p.group; count = suc r.count } ∷ rs
join_followed p q r rs b f = cond-true _ _ _ ((λ i. (p.addr + 4096 == b.0 i) && (p.group + 1 == b.1 i)) ∙ f)

join_ended : (p q : Page) (r : Run) (rs : List Run) → (r.addr ≡ q.addr) × (r.first ≡ q.group) → follows p q ≡ false → join_page p (r ∷ rs) ≡ record { addr = p.addr; first = p.group; count = 1 } ∷ r ∷ rs
join_ended p q r rs b f = cond-false _ _ _ ((λ i. (p.addr + 4096 == b.0 i) && (p.group + 1 == b.1 i)) ∙ f)

-- the pages from the n-th on decide the first run of all
abbrev pub Counted : List Page → ℕ → Type 0
Counted ps n = (r : Run) (rs : List Run) → runs_of (drop (n - 1) ps) ≡ r ∷ rs → runs_of ps ≡ headed ps (r.count + (n - 1)) rs

head_run : (p : Page) (ps : List Page) (r : Run) (rs : List Run) → runs_of (p ∷ ps) ≡ r ∷ rs → ((r.addr ≡ p.addr) × (r.first ≡ p.group))
head_run p ps r rs e = subst (λ (z : List Run). Begins p z) e (join_begins p (runs_of ps))

two_drops : (ps : List Page) (n : ℕ) (d : Page) → 0 < n → n < length ps → drop (n - 1) ps ≡ get_or ps (n - 1) d ∷ drop n ps
two_drops ps n d z l = let e : suc (n - 1) ≡ n = omega arith in drop-cons ps (n - 1) d (omega arith) ∙ ap (λ (m : ℕ). get_or ps (n - 1) d ∷ drop m ps) e

next_run : (ps : List Page) (n : ℕ) (d : Page) (r : Run) (rs : List Run) → 0 < n → n < length ps → follows (get_or ps (n - 1) d) (get_or ps n d) ≡ true → runs_of (drop n ps) ≡ r ∷ rs
    → runs_of (drop (n - 1) ps) ≡ record { addr = (get_or ps (n - 1) d).addr; first = (get_or ps (n - 1) d).group; count = suc r.count } ∷ rs
next_run ps n d r rs z l f e =
    let b = head_run (get_or ps n d) (drop (suc n) ps) r rs (ap (λ (x : List Page). runs_of x) (sym (drop-cons ps n d l)) ∙ e) in
    ap (λ (x : List Page). runs_of x) (two_drops ps n d z l) ∙ ap (λ (x : List Run). join_page (get_or ps (n - 1) d) x) e ∙ join_followed (get_or ps (n - 1) d) (get_or ps n d) r rs b f

-- a page that follows the last one joins its run
pub counted_more : (ps : List Page) (n : ℕ) (d : Page) → 0 < n → n < length ps → follows (get_or ps (n - 1) d) (get_or ps n d) ≡ true → Counted ps n → Counted ps (n + 1)
counted_more ps n d z l f h r rs e =
    let m : n + 1 - 1 ≡ n = omega arith in
    let e2 : runs_of (drop n ps) ≡ r ∷ rs = ap (λ (x : ℕ). runs_of (drop x ps)) (sym m) ∙ e in
    let q : suc r.count + (n - 1) ≡ r.count + (n + 1 - 1) = omega arith in
    h _ rs (next_run ps n d r rs z l f e2) ∙ ap (λ (x : ℕ). headed ps x rs) q

-- at the end of the run
end_run : (p : Page) (q : List Page) (d : Page) → (q ≡ []) ⊎ (follows p (get_or q 0 d) ≡ false) → join_page p (runs_of q) ≡ record { addr = p.addr; first = p.group; count = 1 } ∷ runs_of q
end_run p [] d h = refl
end_run p (q ∷ qs) d (inl e) = absurd (let k : suc (length qs) ≡ 0 = ap length e in omega arith)
end_run p (q ∷ qs) d (inr f) = ended (runs_of (q ∷ qs)) (join_begins q (runs_of qs))
  where
    ended : (rs : List Run) → Begins q rs → join_page p rs ≡ record { addr = p.addr; first = p.group; count = 1 } ∷ rs
    ended [] b = absurd b
    ended (r ∷ rs) b = join_ended p q r rs b f

drop_end : (xs : List Page) (m : ℕ) → m ≡ length xs → drop m xs ≡ []
drop_end xs m e = ap (λ (k : ℕ). drop k xs) e ∙ drop-length xs

-- where no page follows, the pages counted are the first run, and the runs of the rest come behind it
pub counted_ended : (ps : List Page) (n : ℕ) (d : Page) → 0 < n → n ≤ length ps → (n ≡ length ps) ⊎ (follows (get_or ps (n - 1) d) (get_or ps n d) ≡ false) → Counted ps n → runs_of ps ≡ headed ps n (runs_of (drop n ps))
counted_ended ps n d z l o h =
    let e : suc (n - 1) ≡ n = omega arith in
    let q : 1 + (n - 1) ≡ n = omega arith in
    let dr = drop-cons ps (n - 1) d (omega arith) ∙ ap (λ (m : ℕ). get_or ps (n - 1) d ∷ drop m ps) e in
    h _ (runs_of (drop n ps)) (ap (λ (x : List Page). runs_of x) dr ∙ end_run (get_or ps (n - 1) d) (drop n ps) d (last o))
    ∙ ap (λ (x : ℕ). headed ps x (runs_of (drop n ps))) q
  where
    last : (n ≡ length ps) ⊎ (follows (get_or ps (n - 1) d) (get_or ps n d) ≡ false) → (drop n ps ≡ []) ⊎ (follows (get_or ps (n - 1) d) (get_or (drop n ps) 0 d) ≡ false)
    last (inl e) = inl (drop_end ps n e)
    last (inr f) = inr (let e : n + 0 ≡ n = omega arith in ap (λ (x : Page). follows (get_or ps (n - 1) d) x) (get_or-drop n ps 0 d ∙ ap (λ (m : ℕ). get_or ps m d) e) ∙ f)
