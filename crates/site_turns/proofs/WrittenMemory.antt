-- Memory after the turns is the original's image with the runs written.
use Rattle.std.proofs.Common.{◌≡◌, ◌⊎◌, inl, inr, ℕ, ◌-◌, true, false, ◌&&◌, ◌||◌, leb, ltb, List, [], ◌∷◌, map, length, slice_index, Option, Some, None, refl, sym, ap, ◌∙◌}
use Rattle.std.specs.Option.{option_map}
use Rattle.std.specs.List.{AllByRecursion, list_any}
use Rattle.std.proofs.lemmas.Bool.{cases_Bool, cond-true, cond-false, or_parts, eqb-true, false≢true}
use Rattle.pun_base.specs.Memory.{Cell}
use Rattle.byte_locks.specs.declared.lock.Lock.{Lock}
use Rattle.byte_locks.specs.declared.lock.Lock.TheVariants.{Free, Punned, Changed}
use Rattle.elf_emit.specs.Layout.{in_patch, written_by, written_at}
use Rattle.elf_emit.specs.Laws.{with_writes}
use Rattle.patch_report.specs.Values.{WriteValue}
use Rattle.start_list.specs.TurnViews.{cell_by}
use Rattle.sound_images.specs.Reports.{in_run}
use Rattle.sound_images.specs.Rules.{holds_byte}
use Rattle.site_turns.specs.States.{Scene}
use Rattle.site_turns.specs.Folded.{Done, memory_in, in_runs, Tells, IsKept}
use Rattle.site_turns.specs.Jobs.{patch_of}
use Rattle.site_turns.proofs.PlanRuns.{same_test}

-- a run and its patch have the same addresses
in_same : (w : WriteValue) (x : ℕ) → length w.now ≡ length w.was → in_patch (patch_of w) x ≡ in_run x w
in_same w x e = ap (λ n. leb w.addr x && ltb (x - w.addr) n) e ∙ sym (same_test w.addr (length w.was) x)

-- a byte of no run stays
written_none : (ws : List WriteValue) (x b : ℕ) → AllByRecursion (λ (w : WriteValue). length w.now ≡ length w.was) ws
    → list_any (in_run x) ws ≡ false → written_at (map patch_of ws) x b ≡ b
written_none [] x b e h = refl
written_none (w ∷ ws) x b e h =
    let q = or_parts (in_run x w) (list_any (in_run x) ws) h in
    ap (λ z. written_at (map patch_of ws) x z)
    (cond-false (in_patch (patch_of w) x) (slice_index w.now (x - w.addr)) b (in_same w x e.0 ∙ q.0))
    ∙ written_none ws x b e.1 q.1

-- where all runs that have an address tell one byte, it is written, or was there before
written_one : (ws : List WriteValue) (x b v : ℕ) → AllByRecursion (λ (w : WriteValue). length w.now ≡ length w.was) ws
    → AllByRecursion (λ (w : WriteValue). in_run x w ≡ true → slice_index w.now (x - w.addr) ≡ v) ws
    → (b ≡ v) ⊎ (list_any (in_run x) ws ≡ true) → written_at (map patch_of ws) x b ≡ v
written_one [] x b v e h (inl k) = k
written_one [] x b v e h (inr k) = absurd (false≢true k)
written_one (w ∷ ws) x b v e h k = elim (cases_Bool (in_run x w)) [
  | inl i ↦ (let is : written_by (patch_of w) x b ≡ v =
      cond-true (in_patch (patch_of w) x) (slice_index w.now (x - w.addr)) b (in_same w x e.0 ∙ i) ∙ h.0 i in
      written_one ws x (written_by (patch_of w) x b) v e.1 h.1 (inl is))
  | inr i ↦ (let is : written_by (patch_of w) x b ≡ b =
      cond-false (in_patch (patch_of w) x) (slice_index w.now (x - w.addr)) b (in_same w x e.0 ∙ i) in
      written_one ws x (written_by (patch_of w) x b) v e.1 h.1 (elim k [
        | inl l ↦ inl (is ∙ l)
        | inr l ↦ inr (sym (ap (λ z. z || list_any (in_run x) ws) i) ∙ l)
      ]))
]

-- a byte that is held
holds_is : (c : Cell) (b : ℕ) → holds_byte (Some c) b ≡ true → b ≡ c.byte
holds_is c b h = sym (eqb-true c.byte b h)

-- a cell as it stands, by its byte
cell_is : (k : Lock) (c : Cell) → (d : Cell) × (cell_by k (Some c) ≡ Some d) × (d.perms ≡ c.perms)
cell_is Free c = (c, refl, refl)
cell_is Punned c = (c, refl, refl)
cell_is (Changed v) c = (record { byte = v; perms = c.perms }, refl, refl)

-- where there is no cell, no lock makes one
none_is : (k : Lock) → cell_by k None ≡ None
none_is Free = refl
none_is Punned = refl
none_is (Changed v) = refl

-- equal options hold equal cells
same_some : (c d : Cell) → Some c ≡ Some d → c ≡ d
same_some c d e = cc

module _ (g : Scene) (d : Done) (k : IsKept g d) (x : ℕ) where
  -- what is written at an address is the byte that stands there
  byte_is : (c e : Cell) → g.image x ≡ Some c → memory_in g d x ≡ Some e → written_at (map patch_of d.runs) x c.byte ≡ e.byte
  byte_is c e h m = elim (cases_Bool (in_runs d x)) [
    | inl i ↦ written_one d.runs x c.byte e.byte k.even
        (tell d.runs k.tells) (inr i)
    | inr i ↦ written_none d.runs x c.byte k.even i
        ∙ ap (λ (z : Cell). z.byte) (same_some c e (sym h ∙ sym (k.others x i) ∙ m))
  ]
    where
      tell : (ws : List WriteValue) → AllByRecursion (λ (w : WriteValue). (x : ℕ) → in_run x w ≡ true → Tells g d w x) ws
          → AllByRecursion (λ (w : WriteValue). in_run x w ≡ true → slice_index w.now (x - w.addr) ≡ e.byte) ws
      tell [] t = tt
      tell (w ∷ ws) t = (
        λ i. holds_is e (slice_index w.now (x - w.addr)) (sym (ap (λ z. holds_byte z (slice_index w.now (x - w.addr))) m) ∙ (t.0 x i).now),
        tell ws t.1,
      )

  -- the original with the runs written is memory as it stands, whatever the original has there
  by_cell : (o : Option Cell) → g.image x ≡ o → with_writes (map patch_of d.runs) g.image x ≡ memory_in g d x
  by_cell None h =
      ap (option_map (λ (c : Cell). record { byte = written_at (map patch_of d.runs) x c.byte; perms = c.perms })) h
      ∙ sym (none_is (d.lock x)) ∙ sym (ap (cell_by (d.lock x)) h)
  by_cell (Some c) h =
      let q = cell_is (d.lock x) c in
      let m : memory_in g d x ≡ Some q.0 = ap (cell_by (d.lock x)) h ∙ q.1 in
      let b = byte_is c q.0 h m in
      ap (option_map (λ (c : Cell). record { byte = written_at (map patch_of d.runs) x c.byte; perms = c.perms })) h
      ∙ ap Some (λ i. record { byte = b i; perms = sym q.2 i }) ∙ sym m

  -- the image with all runs written is, at each address, memory as it stands
  pub written_is : with_writes (map patch_of d.runs) g.image x ≡ memory_in g d x
  written_is = by_cell (g.image x) refl
