-- Where pages fit, seen by whole pages or by the code's own addresses.
use Rattle.std.proofs.Common.{◌≡◌, inl, inr, ◌↔◌, ℕ, ◌+◌, ◌*◌, ◌-◌, ◌/◌, ◌≤◌, List, [], ◌∷◌, ◌++◌, map, Option, Some, None, Result, Ok, Err, refl, sym, ap, ◌∙◌, subst, arith}
use Rattle.std.specs.Int.{div_ceil}
use Rattle.std.specs.List.{AllByRecursion}
use Rattle.std.proofs.lemmas.List.Elements.{All-from_recursion, recursion_from_All, All-head, All-tail, All-cons}
use Rattle.pun_base.specs.declared.range.Range.{Range}
use Rattle.address_space.specs.declared.extent.Extent.{Extent}
use Rattle.std.specs.Prelude.{IfOk}
use Rattle.address_space.specs.Free.{SpaceState, Misses, IsFree, extent_of, whole_pages}
use Rattle.pun_base.specs.Least.{Least}
use Rattle.address_space.specs.Fit.{FitsPages}
use Rattle.scheme_search.proofs.LeastNumbers.{least_same}
use Rattle.elf_read.specs.Entries.{segments}
use Rattle.pun_base.proofs.JoinedLists.{all_appended, all_behind, all_front}
use Rattle.site_turns.specs.PrivateRange.{taken_first}
use Rattle.site_turns.specs.PlannedState.{PlannedState}
use Rattle.site_turns.specs.Turned.{HasSameFree}
use Rattle.loader_form.specs.declared.error.LoadError.{LoadError}
use Rattle.loader_form.specs.declared.error.LoadError.TheVariants as load
use Rattle.loader_form.specs.LoaderState.{LoaderState}
use Rattle.loader_form.specs.Lay.{code_extent, taken_after, stub_count, FitSame, IsLoader, HasNoPlace, Lays}

-- an extent widened to whole pages
abbrev widened : Extent → Extent
widened e = record { lo = e.lo / 4096 * 4096; hi = div_ceil e.hi 4096 * 4096 }

-- whole pages miss an extent where they miss the pages that it meets
narrow : (e : Extent) (k n : ℕ) → Misses (k * 4096) (n * 4096) (widened e) → Misses (k * 4096) (n * 4096) e
narrow e k n (inl a) = inl (omega (arith, a))
narrow e k n (inr a) = inr (omega (arith, a))

-- whole pages that miss a range miss the range widened to whole pages
widen : (e : Extent) (k n : ℕ) → Misses (k * 4096) (n * 4096) e → Misses (k * 4096) (n * 4096) (widened e)
widen e k n (inl a) = inl (omega (arith, a))
widen e k n (inr a) = inr (omega (arith, a))

-- whole pages that miss widened ranges miss the ranges themselves
all_narrow : (es : List Extent) (k n : ℕ) → AllByRecursion (Misses (k * 4096) (n * 4096)) (map widened es) → AllByRecursion (Misses (k * 4096) (n * 4096)) es
all_narrow [] k n h = tt
all_narrow (e ∷ es) k n h = (narrow e k n h.0, all_narrow es k n h.1)

-- whole pages that miss ranges miss the widened ranges
all_widen : (es : List Extent) (k n : ℕ) → AllByRecursion (Misses (k * 4096) (n * 4096)) es → AllByRecursion (Misses (k * 4096) (n * 4096)) (map widened es)
all_widen [] k n h = tt
all_widen (e ∷ es) k n h = (widen e k n h.0, all_widen es k n h.1)

-- ranges as extents
ranges_widened : (rs : List Range) → map whole_pages rs ≡ map widened (map extent_of rs)
ranges_widened [] = refl
ranges_widened (r ∷ rs) = ap (λ (es : List Extent). whole_pages r ∷ es) (ranges_widened rs)

-- the extents of two joined lists are their extents joined
extents_joined : (rs qs : List Range) → map extent_of (rs ++ qs) ≡ map extent_of rs ++ map extent_of qs
extents_joined [] qs = refl
extents_joined (r ∷ rs) qs = ap (λ (es : List Extent). extent_of r ∷ es) (extents_joined rs qs)

-- what is taken before the private range, that range and code, by whole pages or as it is
fits_listed : (firsts codes : List Extent) (private : Extent) (n t : ℕ)
    → FitsPages (map widened ((firsts ++ private ∷ []) ++ codes)) n t ↔ FitsPages (private ∷ (codes ++ map widened firsts)) n t
fits_listed firsts codes private n t = (to, from)
  where
    to : FitsPages (map widened ((firsts ++ private ∷ []) ++ codes)) n t → FitsPages (private ∷ (codes ++ map widened firsts)) n t
    to f =
        let k = f.page.0 in
        let e : t ≡ k * 4096 = f.page.1 in
        let all = recursion_from_All (Misses t (n * 4096)) (map widened ((firsts ++ private ∷ []) ++ codes)) f.free.misses in
        let narrowed = subst (λ (x : ℕ). AllByRecursion (Misses x (n * 4096)) ((firsts ++ private ∷ []) ++ codes)) (sym e)
        (all_narrow ((firsts ++ private ∷ []) ++ codes) k n (subst (λ (x : ℕ). AllByRecursion (Misses x (n * 4096)) (map widened ((firsts ++ private ∷ []) ++ codes))) e all)) in
        let front = all_front (Misses t (n * 4096)) (firsts ++ private ∷ []) codes narrowed in
        let first = all_front (Misses t (n * 4096)) firsts (private ∷ []) front in
        let wide = subst (λ (x : ℕ). AllByRecursion (Misses x (n * 4096)) (map widened firsts)) (sym e)
        (all_widen firsts k n (subst (λ (x : ℕ). AllByRecursion (Misses x (n * 4096)) firsts) e first)) in
        let own = all_behind (Misses t (n * 4096)) firsts (private ∷ []) front in
        record {
          page = f.page;
          free = record {
            above = f.free.above;
            below = f.free.below;
            misses = All-from_recursion (Misses t (n * 4096)) (private ∷ (codes ++ map widened firsts))
                (own.0, all_appended (Misses t (n * 4096)) codes (map widened firsts) (all_behind (Misses t (n * 4096)) (firsts ++ private ∷ []) codes narrowed) wide);
          };
        }

    from : FitsPages (private ∷ (codes ++ map widened firsts)) n t → FitsPages (map widened ((firsts ++ private ∷ []) ++ codes)) n t
    from f =
        let k = f.page.0 in
        let e : t ≡ k * 4096 = f.page.1 in
        let all = recursion_from_All (Misses t (n * 4096)) (private ∷ (codes ++ map widened firsts)) f.free.misses in
        let first = subst (λ (x : ℕ). AllByRecursion (Misses x (n * 4096)) firsts) (sym e)
        (all_narrow firsts k n (subst (λ (x : ℕ). AllByRecursion (Misses x (n * 4096)) (map widened firsts)) e (all_behind (Misses t (n * 4096)) codes (map widened firsts) all.1))) in
        let front : AllByRecursion (Misses t (n * 4096)) (firsts ++ private ∷ []) = all_appended (Misses t (n * 4096)) firsts (private ∷ []) first (all.0, tt) in
        let whole = all_appended (Misses t (n * 4096)) (firsts ++ private ∷ []) codes front (all_front (Misses t (n * 4096)) codes (map widened firsts) all.1) in
        record {
          page = f.page;
          free = record {
            above = f.free.above;
            below = f.free.below;
            misses = All-from_recursion (Misses t (n * 4096)) (map widened ((firsts ++ private ∷ []) ++ codes))
                (subst (λ (x : ℕ). AllByRecursion (Misses x (n * 4096)) (map widened ((firsts ++ private ∷ []) ++ codes))) (sym e)
                (all_widen ((firsts ++ private ∷ []) ++ codes) k n (subst (λ (x : ℕ). AllByRecursion (Misses x (n * 4096)) ((firsts ++ private ∷ []) ++ codes)) e whole)));
          };
        }

-- a space over these ranges is what is left after the turns
pub fit_after : (file : List ℕ) (reserves firsts some all : List Range) (p : PlannedState) (taken : List Extent) → map whole_pages firsts ≡ taken_first (segments file) reserves
    → some ≡ firsts ++ p.private ∷ [] → map extent_of all ≡ map extent_of some ++ map code_extent p.built
    → HasSameFree taken (map whole_pages all) → FitSame taken (taken_after file reserves p)
fit_after file reserves firsts some all p taken a b c h n t l =
    let codes = map code_extent p.built in
    let listed : map whole_pages all ≡ map widened ((map extent_of firsts ++ extent_of p.private ∷ []) ++ codes) =
    ranges_widened all ∙ ap (map widened) (c ∙ ap (λ (es : List Extent). es ++ codes) (ap (map extent_of) b ∙ extents_joined firsts (p.private ∷ []))) in
    let after : extent_of p.private ∷ (codes ++ map widened (map extent_of firsts)) ≡ taken_after file reserves p =
    ap (λ (es : List Extent). extent_of p.private ∷ (codes ++ es)) (sym (ranges_widened firsts) ∙ a) in
    let both = fits_listed (map extent_of firsts) codes (extent_of p.private) n t in
    let same = h t (n * 4096) (omega (arith, l)) in (
      λ f. subst (λ (es : List Extent). FitsPages es n t) after (both.0 (subst (λ (es : List Extent). FitsPages es n t) listed
          (record { page = f.page; free = same.0 f.free }))),
      λ f. let g = subst (λ (es : List Extent). FitsPages es n t) (sym listed) (both.1 (subst (λ (es : List Extent). FitsPages es n t) (sym after) f)) in
          record { page = g.page; free = same.1 g.free },
    )

-- in a space over these ranges pages fit at the places at which they fit after the turns
pub space_fits : {E : Type 0} (file : List ℕ) (reserves firsts some all : List Range) (p : PlannedState) (r : Result SpaceState E) → map whole_pages firsts ≡ taken_first (segments file) reserves
    → some ≡ firsts ++ p.private ∷ [] → map extent_of all ≡ map extent_of some ++ map code_extent p.built
    → IfOk r (λ space. HasSameFree space.taken (map whole_pages all)) → IfOk r (λ space. FitSame space.taken (taken_after file reserves p))
space_fits file reserves firsts some all p (Ok s) a b c h = fit_after file reserves firsts some all p s.taken a b c h
space_fits file reserves firsts some all p (Err e) a b c h = tt

-- beside two lists with one extent more pages fit at the same places if they do without it
fit_more : (taken others : List Extent) (e : Extent) → FitSame taken others → FitSame (e ∷ taken) (e ∷ others)
fit_more taken others e h n t l = (step taken others (λ f. (h n t l).0 f), step others taken (λ f. (h n t l).1 f))
  where
    step : (xs ys : List Extent) → (FitsPages xs n t → FitsPages ys n t) → FitsPages (e ∷ xs) n t → FitsPages (e ∷ ys) n t
    step xs ys k f =
        let M : Extent → Type 0 = Misses t (n * 4096) in
        let g = k (record { page = f.page; free = record { above = f.free.above; below = f.free.below; misses = All-tail M e xs f.free.misses } }) in
        record { page = g.page; free = record { above = g.free.above; below = g.free.below; misses = All-cons M e ys (All-head M e xs f.free.misses) g.free.misses } }

-- a least place for pages is the least beside any taken ranges beside which pages fit at the same places
least_there : (taken others : List Extent) (n : ℕ) (o : Option ℕ) → 1 ≤ n → FitSame taken others → Least (FitsPages taken n) o → Least (FitsPages others n) o
least_there taken others n o l h = least_same (FitsPages taken n) (FitsPages others n) o (λ t f. (h n t l).0 f) (λ t f. (h n t l).1 f)

-- a stub has at least one page
some_pages : (runs : ℕ) → 1 ≤ stub_count runs
some_pages runs = omega arith

-- what is laid by one list is laid by another
pub lays_same : (taken others : List Extent) (runs : ℕ) (r : Result LoaderState LoadError) → FitSame taken others → Lays taken runs r → Lays others runs r
lays_same taken others runs (Ok l) h w = record {
  runs = w.runs;
  few = w.few;
  stub = least_there taken others (stub_count runs) (Some l.stub.lo) (some_pages runs) h w.stub;
  stub_size = w.stub_size;
  save = least_there (extent_of l.stub ∷ taken) (extent_of l.stub ∷ others) 1 (Some l.save.lo) (omega arith) (fit_more taken others (extent_of l.stub) h) w.save;
  save_size = w.save_size;
}
lays_same taken others runs (Err (load.TooManyRuns n)) h w = w
lays_same taken others runs (Err (load.NoLoader pages)) h w = (w.0, w.1, places (subst (λ (n : ℕ). 1 ≤ n) (sym w.1) (some_pages runs)) w.2)
  where
    places : 1 ≤ pages → HasNoPlace taken pages → HasNoPlace others pages
    places l (inl a) = inl (least_there taken others pages None l h a)
    places l (inr a) = inr (
      a.0,
      least_there taken others pages (Some a.0) l h a.1,
      least_there (record { lo = a.0; hi = a.0 + 4096 * pages } ∷ taken) (record { lo = a.0; hi = a.0 + 4096 * pages } ∷ others) 1 None (omega arith)
          (fit_more taken others (record { lo = a.0; hi = a.0 + 4096 * pages }) h) a.2,
    )
lays_same taken others runs (Err load.Memory) h w = tt

-- where a range was taken, pages fit as with it in front
pub fit_taken : (taken new : List Extent) (e : Extent) → ((t n : ℕ) → 1 ≤ n → IsFree new t n ↔ (IsFree taken t n × Misses t n e)) → FitSame new (e ∷ taken)
fit_taken taken new e h n t l =
    let s = h t (n * 4096) (omega (arith, l)) in
    let M : Extent → Type 0 = Misses t (n * 4096) in (
      λ f. let g = s.0 f.free in
          record { page = f.page; free = record { above = g.0.above; below = g.0.below; misses = All-cons M e taken g.1 g.0.misses } },
      λ f. record {
        page = f.page;
        free = s.1 (record { above = f.free.above; below = f.free.below; misses = All-tail M e taken f.free.misses }, All-head M e taken f.free.misses);
      },
    )

-- a least place in what is left is one with the range in front
pub least_taken : (taken new : List Extent) (e : Extent) (n : ℕ) (o : Option ℕ) → 1 ≤ n
    → ((t k : ℕ) → 1 ≤ k → IsFree new t k ↔ (IsFree taken t k × Misses t k e)) → Least (FitsPages new n) o → Least (FitsPages (e ∷ taken) n) o
least_taken taken new e n o l h w = least_there new (e ∷ taken) n o l (fit_taken taken new e h) w

-- the least free pages for the stub are free, and end where addresses of a program end at the latest
pub record StubFits (taken : List Extent) (n lo : ℕ) : Type 0 where
  pub low : lo + n * 4096 ≤ 0x7FFF0000
  pub free : IsFree taken lo (lo + n * 4096 - lo)

-- the least place at which the stub's pages fit is such a place
pub stub_fits : (taken : List Extent) (n lo : ℕ) → Least (FitsPages taken n) (Some lo) → StubFits taken n lo
stub_fits taken n lo h =
    let g = h.good in
    let e : n * 4096 ≡ lo + n * 4096 - lo = omega arith in
    record { low = g.free.below; free = subst (λ (k : ℕ). IsFree taken lo k) e g.free }

-- what becomes of the space by taking the stub's pages
abbrev pub Takes : List Extent → List Extent → ℕ → ℕ → Type 0
Takes taken new lo n = (t k : ℕ) → 1 ≤ k → IsFree new t k ↔ (IsFree taken t k × Misses t k (record { lo = lo; hi = lo + n * 4096 }))

-- the stub and the save page at the least free pages are a loader
pub laid_there : (taken new : List Extent) (runs n lo save : ℕ) (l : LoaderState) → runs ≤ 65535 → n ≡ stub_count runs → Least (FitsPages taken n) (Some lo) → Takes taken new lo n
    → Least (FitsPages new 1) (Some save) → l.stub.lo ≡ lo → l.stub.hi ≡ lo + n * 4096 → l.save.lo ≡ save → l.save.hi ≡ save + 4096 → l.runs ≡ runs → IsLoader taken runs l
laid_there taken new runs n lo save l few e h t k sl sh vl vh rs =
    let there : Least (FitsPages (record { lo = lo; hi = lo + n * 4096 } ∷ taken) 1) (Some save) =
    least_taken taken new (record { lo = lo; hi = lo + n * 4096 }) 1 (Some save) (omega arith) t k in
    record {
      runs = rs;
      few = few;
      stub = subst (λ (a : ℕ). Least (FitsPages taken (stub_count runs)) (Some a)) (sym sl) (subst (λ (m : ℕ). Least (FitsPages taken m) (Some lo)) e h);
      stub_size = omega (arith, e, sl, sh);
      save = subst (λ (a : ℕ). Least (FitsPages (extent_of l.stub ∷ taken) 1) (Some a)) (sym vl)
          (subst (λ (x : Extent). Least (FitsPages (x ∷ taken) 1) (Some save)) (λ i. record { lo = sym sl i; hi = sym sh i }) there);
      save_size = omega (arith, vl, vh);
    }

-- where no page is free once the stub's pages are taken, the save page has no place
pub no_save : (taken new : List Extent) (runs n lo : ℕ) → runs ≤ 65535 → n ≡ stub_count runs → Least (FitsPages taken n) (Some lo) → Takes taken new lo n
    → Least (FitsPages new 1) None → (runs ≤ 65535) × (n ≡ stub_count runs) × HasNoPlace taken n
no_save taken new runs n lo few e h t k =
    let m : lo + n * 4096 ≡ lo + 4096 * n = omega arith in (
      few,
      e,
      inr (
        lo,
        h,
        subst (λ (x : ℕ). Least (FitsPages (record { lo = lo; hi = x } ∷ taken) 1) None) m
            (least_taken taken new (record { lo = lo; hi = lo + n * 4096 }) 1 None (omega arith) t k),
      ),
    )
