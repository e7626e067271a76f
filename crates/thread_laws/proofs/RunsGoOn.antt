-- Proper runs that go on by proper ones.
use Rattle.std.proofs.Common.{◌≡◌, ℕ, List, [], ◌∷◌, ◌++◌, map, refl, ap}
use Rattle.thread_runs.specs.Threading.{Threading}
use Rattle.thread_runs.specs.Watching.{Watch, Watches}
use Rattle.thread_runs.specs.Premises.{IsProperRun}
use Rattle.thread_runs.specs.GuestDeliveries.{GuestItem, Goes}
use Rattle.thread_runs.specs.WatchedDeliveries.{WatchWith, made_after, IsProperRunWith, last_with}
use Rattle.thread_laws.specs.Beginning.{BirthItem, Does, GrowingWatch, IsProperGrowing, last_growing}
use Rattle.thread_laws.specs.GoingOn.{ProperRunsGoOn}

-- a proper run over a schedule is one of its steps as items, whatever was made before
by_items : (r : Threading) (ks : List ℕ) (w : Watch) (made : List GuestItem) (ws : List Watch) → IsProperRun r ks w ws
    → (ys : List WatchWith) × IsProperRunWith r (map Goes ks) (record { watch = w; made = made }) ys × (map (λ y. y.watch) ys ≡ ws)
by_items r [] w made [] P = ([], P, refl)
by_items r [] w made (v ∷ vs) P = absurd P
by_items r (k ∷ ks) w made [] P = absurd P
by_items r (k ∷ ks) w made (v ∷ vs) P =
    let m : Watches r k w v = P.1.0 in
    let after = made_after r k m.one made in
    let q = by_items r ks v after vs P.2 in
    (record { watch = v; made = after } ∷ q.0, (P.0, record { step = m; proper = P.1.1; made = refl }, q.1), ap (λ (l : List Watch). v ∷ l) q.2)

-- the same of a guest whose threads begin
by_births : (r : Threading) (ks : List ℕ) (w : Watch) (made : List BirthItem) (ws : List Watch) → IsProperRun r ks w ws
    → (ys : List GrowingWatch) × IsProperGrowing r (map (λ k. Does (Goes k)) ks) (record { watch = w; made = made }) ys × (map (λ y. y.watch) ys ≡ ws)
by_births r [] w made [] P = ([], P, refl)
by_births r [] w made (v ∷ vs) P = absurd P
by_births r (k ∷ ks) w made [] P = absurd P
by_births r (k ∷ ks) w made (v ∷ vs) P =
    let m : Watches r k w v = P.1.0 in
    let own = made_after r k m.one [] in
    let after = made ++ map Does own in
    let q = by_births r ks v after vs P.2 in (
      record { watch = v; made = after } ∷ q.0,
      (P.0, record { own = own; item = record { step = m; proper = P.1.1; made = refl }; made = refl }, q.1),
      ap (λ (l : List Watch). v ∷ l) q.2,
    )

-- a run of items, and from where it ends another one, are one
joined : (r : Threading) (is js : List GuestItem) (x : WatchWith) (xs ys : List WatchWith) → IsProperRunWith r is x xs → IsProperRunWith r js (last_with x xs) ys → IsProperRunWith r (is ++ js) x (xs ++ ys)
joined r [] js x [] ys P Q = Q
joined r [] js x (z ∷ zs) ys P Q = absurd P
joined r (i ∷ is) js x [] ys P Q = absurd P
joined r (i ∷ is) js x (z ∷ zs) ys P Q = (P.0, P.1, joined r is js z zs ys P.2 Q)

joined_births : (r : Threading) (is js : List BirthItem) (x : GrowingWatch) (xs ys : List GrowingWatch) → IsProperGrowing r is x xs → IsProperGrowing r js (last_growing x xs) ys → IsProperGrowing r (is ++ js) x (xs ++ ys)
joined_births r [] js x [] ys P Q = Q
joined_births r [] js x (z ∷ zs) ys P Q = absurd P
joined_births r (i ∷ is) js x [] ys P Q = absurd P
joined_births r (i ∷ is) js x (z ∷ zs) ys P Q = (P.0, P.1, joined_births r is js z zs ys P.2 Q)

-- whatever was patched
pub runs_go_on : ProperRunsGoOn
runs_go_on r = (
  λ is x xs ks ws P Q. let q = by_items r ks (last_with x xs).watch (last_with x xs).made ws Q in (q.0, joined r is (map Goes ks) x xs q.0 P q.1, q.2),
  λ is x xs ks ws P Q. let q = by_births r ks (last_growing x xs).watch (last_growing x xs).made ws Q in (q.0, joined_births r is (map (λ k. Does (Goes k)) ks) x xs q.0 P q.1, q.2),
)
