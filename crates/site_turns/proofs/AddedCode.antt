-- The trampolines of a plan, whose ranges are taken one after the other.
use Rattle.std.proofs.Common.{◌≡◌, ◌⊎◌, inl, inr, ℕ, ◌+◌, ◌≤◌, List, [], ◌∷◌, ◌++◌, map, length, Some, sym, ◌∙◌, subst, arith}
use Rattle.std.specs.Prelude.{◌↔◌, unwrap_or}
use Rattle.std.specs.List.{AllByRecursion}
use Rattle.pun_base.specs.declared.tramp.Tramp.{Tramp}
use Rattle.address_space.specs.declared.extent.Extent.{Extent}
use Rattle.address_space.specs.Free.{SpaceState, Misses, IsFree}
use Rattle.site_turns.specs.declared.setting.Setting.{Setting}
use Rattle.site_turns.specs.Turned.{HasSameFree, size_at, AreApartOf, AreRoomy, extent_at, HasAdded}
use Rattle.site_turns.proofs.FreeRanges.{same_behind, same_moved, same_trans, same_sym, taken_same}

-- some trampolines are added, and there is room for the others
pub record IsAdding (s : Setting) (all : List Tramp) (taken : List Extent) (left : List Tramp) (space : SpaceState) : Type 0 where
  pub roomy : AreRoomy s space.taken left
  pub enough : length left ≤ space.spare
  pub free : HasSameFree (map (extent_at s) all ++ taken) (map (extent_at s) left ++ space.taken)

-- where a range is taken that is away from the others, there is still room for these
still_roomy : (s : Setting) (old new : List Extent) (t : Tramp) (n : ℕ) (e : Extent) (ts : List Tramp)
    → size_at s t ≡ Some n → e ≡ record { lo = t.place; hi = t.place + n }
    → ((p m : ℕ) → 1 ≤ m → IsFree new p m ↔ (IsFree old p m × Misses p m e))
    → AllByRecursion (AreApartOf s t) ts → AreRoomy s old ts → AreRoomy s new ts
still_roomy s old new t n e [] q w h a r = tt
still_roomy s old new t n e (u ∷ ts) q w h a r =
    let k = r.0 in
    let apart : Misses u.place k.0 (record { lo = t.place; hi = t.place + n }) = away (a.0 n k.0 q k.1) in (
      (k.0, k.1, k.2, (h u.place k.0 k.2).1 (k.3, subst (λ (x : Extent). Misses u.place k.0 x) (sym w) apart)),
      r.1,
      still_roomy s old new t n e ts q w h a.1 r.2,
    )
  where
    away : {A B : Type 0} → A ⊎ B → B ⊎ A
    away (inl x) = inr x
    away (inr y) = inl y

-- there is room for the trampolines that are left after the next one has taken its range, which uses up one spare range at most
pub adding_next : (s : Setting) (all : List Tramp) (taken : List Extent) (left after : List Tramp) (space space' : SpaceState) (t : Tramp) (e : Extent) (n : ℕ)
    → left ≡ t ∷ after → size_at s t ≡ Some n → e.lo ≡ t.place → e.hi ≡ t.place + n
    → ((p m : ℕ) → 1 ≤ m → IsFree space'.taken p m ↔ (IsFree space.taken p m × Misses p m e))
    → space.spare ≤ space'.spare + 1 → IsAdding s all taken left space → IsAdding s all taken after space'
adding_next s all taken left after space space' t e n w size lo hi free paid h =
    let k : IsAdding s all taken (t ∷ after) space = subst (λ (xs : List Tramp). IsAdding s all taken xs space) w h in
    let range_is : e ≡ record { lo = t.place; hi = t.place + n } = λ i. record { lo = lo i; hi = hi i } in
    let extent_is : e ≡ extent_at s t =
    range_is ∙ (λ i. record { lo = t.place; hi = t.place + unwrap_or (sym size i) 0 }) in
    let enough = k.enough in
    let here : HasSameFree (extent_at s t ∷ space.taken) space'.taken =
    subst (λ (x : Extent). HasSameFree (x ∷ space.taken) space'.taken) extent_is (taken_same e space.taken space'.taken free) in
    record {
      roomy = still_roomy s space.taken space'.taken t n e after size range_is free k.roomy.1 k.roomy.2;
      enough = omega (arith, enough, paid);
      free = same_trans _ _ _ k.free
          (same_trans _ (map (extent_at s) after ++ extent_at s t ∷ space.taken) _
          (same_sym _ _ (same_moved (map (extent_at s) after) space.taken (extent_at s t)))
          (same_behind (map (extent_at s) after) _ _ here));
    }

-- where none is left, all are added
pub all_added : (s : Setting) (all left : List Tramp) (old space : SpaceState) → left ≡ [] → IsAdding s all old.taken left space
    → HasAdded s all old space
all_added s all left old space l h = (subst (λ (xs : List Tramp). IsAdding s all old.taken xs space) l h).free

-- there is room for the first of what is left
pub room_first : (s : Setting) (all : List Tramp) (taken : List Extent) (left after : List Tramp) (space : SpaceState) (t : Tramp)
    → left ≡ t ∷ after → IsAdding s all taken left space → (n : ℕ) × (size_at s t ≡ Some n) × (1 ≤ n) × IsFree space.taken t.place n
room_first s all taken left after space t w h = (subst (λ (xs : List Tramp). IsAdding s all taken xs space) w h).roomy.0
