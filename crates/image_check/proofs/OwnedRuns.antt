-- Runs that keep rule 2: told rightly, alone with their bytes, and of starts of trampolines that share none.
use Rattle.std.proofs.Common.{◌≡◌, inl, inr, ℕ, ◌+◌, ◌-◌, ◌<◌, ◌≤◌, Bool, true, false, List, map, length, get_or, slice_index, Some, sym, ap, ◌∙◌, arith}
use Rattle.std.specs.Prelude.{◌&&◌, ◌||◌, ◌==◌, not, nat_le, nat_lt, slice_get, Contains}
use Rattle.std.specs.List.{list_any, count_by}
use Rattle.std.specs.List.Sorted.{IsPermutation, IsStrictlyIncreasing}
use Rattle.std.proofs.lemmas.Bool.{cases_lt, and_parts, and_from, eq-eqb, leb-true, ltb-true, false_from_ne_true}
use Rattle.std.proofs.lemmas.Bool.Decides.{nat_tests}
use Rattle.std.proofs.lemmas.Option.{slice_get_within, get_or_from_slice_get}
use Rattle.pun_base.specs.declared.plan.Write.{Write}
use Rattle.patch_report.proofs.ListPlaces.{found, some_is, any_at, contains_at, place_of}
use Rattle.patch_report.specs.Values.{write_value}
use Rattle.start_entries.specs.declared.entry.StartEntry.{StartEntry}
use Rattle.start_entries.specs.Finding.{addresses}
use Rattle.start_entries.specs.SharedBytes.{has_byte}
use Rattle.start_entries.proofs.AscendingEntries.{entries_rise}
use Rattle.sound_images.specs.Reports.{in_run, runs, is_written, starts_line, times_written}
use Rattle.sound_images.specs.Rules.{Case, holds_byte, mistells, times_owned, belongs}
use Rattle.image_check.specs.Stretches.{RunBroken, AreAlone, IsAloneAt, IsOwnedBy, IsToldRun, run_end}
use Rattle.sound_images.proofs.CountedElements.{by_count}
use Rattle.image_check.proofs.NearCounts.{any_moved, count_map, count_moved}
use Rattle.image_check.proofs.SharedPages.{any_map}
use Rattle.image_check.proofs.SkippedSpans.{counted_once}

-- what stands at two places of entries that ascend isn't the same
one_place : (es : List StartEntry) (i k : ℕ) (e z : StartEntry) → IsStrictlyIncreasing (addresses es) → slice_get es i ≡ Some e
    → slice_get es k ≡ Some z → z ≡ e → k ≡ i
one_place es i k e z up at on same =
    let a : (get_or es i e).addr ≡ e.addr = ap (λ (y : StartEntry). y.addr) (get_or_from_slice_get es i e e at) in
    let b : (get_or es k e).addr ≡ z.addr = ap (λ (y : StartEntry). y.addr) (get_or_from_slice_get es k z e on) in
    let s : z.addr ≡ e.addr = ap (λ (y : StartEntry). y.addr) same in
    elim (cases_lt k i) [
      | inl l ↦ (let r = entries_rise es up k i e l (slice_get_within es i e at) in absurd (omega (arith, a, b, s, r)))
      | inr l ↦ elim (cases_lt i k) [
        | inl m ↦ (let r = entries_rise es up i k e m (slice_get_within es k z on) in absurd (omega (arith, a, b, s, r)))
        | inr m ↦ omega (arith, l, m)
      ]
    ]

-- a byte of an entry lies between its first and its last
byte_parts : (x : ℕ) (e : StartEntry) → has_byte x e ≡ true → (e.addr ≤ x) × (x < e.addr + e.len)
byte_parts x e h =
    let q = and_parts (nat_le e.addr x) (nat_lt x (e.addr + e.len)) h in
    (leb-true e.addr x q.0, ltb-true x (e.addr + e.len) q.1)

-- a byte of an entry that shares none, and is the start of a trampoline, belongs to it
pub owned : (c : Case) (e : StartEntry) (x : ℕ) → AreAlone c.listed → Contains c.listed e → IsOwnedBy c.report x e → belongs c x ≡ true
owned c e x a h o =
    let p = place_of c.listed e h in
    let q = byte_parts x e o.0 in
    let only : (k : ℕ) (z : StartEntry) → slice_get c.listed k ≡ Some z → has_byte x z ≡ true → k ≡ p.0 = λ k z at f.
    let w = byte_parts x z f in
    one_place c.listed p.0 k e z a.ascending p.1 at (a.alone e h o.1 x q.0 q.1 z (contains_at c.listed k z at) w.0 w.1) in
    let few = counted_once (has_byte x) c.listed p.0 only in
    let some = ltb-true 0 (count_by (has_byte x) c.listed) (sym (by_count (has_byte x) c.listed) ∙ any_at (has_byte x) c.listed p.0 e p.1 o.0) in
    and_from (times_owned c x == 1) (list_any (λ (y : StartEntry). has_byte x y && starts_line c.report y.addr) c.listed)
    (eq-eqb (times_owned c x) 1 (omega (arith, few, some)))
    (any_at (λ (y : StartEntry). has_byte x y && starts_line c.report y.addr) c.listed p.0 e p.1
    (and_from (has_byte x e) (starts_line c.report e.addr) o.0 o.2))

-- a run whose old and new byte hold tells nothing wrong
told_well : (i a b : Bool) → a ≡ true → b ≡ true → (i && (not a || not b)) ≡ true → ⊥
told_well i false b e f h = absurd cc
told_well i true false e f h = absurd cc
told_well true true true e f h = absurd cc
told_well false true true e f h = absurd cc

-- a byte that is told rightly, in fewer than two runs, and belongs to a trampoline's start keeps rule 2
written_well : (w t o : Bool) (n : ℕ) → t ≡ false → n < 2 → o ≡ true → (w && (t || (nat_le 2 n || not o))) ≡ true → ⊥
written_well true true o n e l f h = absurd cc
written_well true false false n e l f h = absurd cc
written_well true false true n e l f h = grind (arith, nat_tests)
written_well false t o n e l f h = absurd cc

-- an address in a run lies from its first address on and before its end
run_parts : (x : ℕ) (w : Write) → in_run x (write_value w) ≡ true → (w.addr ≤ x) × (x < run_end w)
run_parts x w h =
    let q = and_parts (nat_le w.addr x) (nat_lt x (w.addr + length w.was)) h in
    (leb-true w.addr x q.0, ltb-true x (w.addr + length w.was) q.1)

-- a run that is told rightly, alone and owned breaks rule 2 nowhere
pub run_keeps : (c : Case) (ws : List Write) (i : ℕ) (w : Write) → IsPermutation (runs c.report) (map write_value ws) → slice_get ws i ≡ Some w
    → IsAloneAt ws i w → IsToldRun c.original c.patched w → ((x : ℕ) → w.addr ≤ x → x < run_end w → belongs c x ≡ true) → (x : ℕ)
    → RunBroken c x w → ⊥
run_keeps c ws i w moved at alone told own x f =
    let only = alone x f.0 in
    let q = run_parts x w f.0 in
    let t = told x f.0 in
    let once = counted_once (λ (z : Write). in_run x (write_value z)) ws i only in
    let times = sym (count_moved (in_run x) (runs c.report) (map write_value ws) moved) ∙ count_map (in_run x) write_value ws in
    let right : list_any (mistells c x) (runs c.report) ≡ false = false_from_ne_true _ (λ e.
    let g = found (λ (z : Write). mistells c x (write_value z)) ws
    (sym (any_map (mistells c x) write_value ws) ∙ any_moved (mistells c x) (runs c.report) (map write_value ws) moved ∙ e) in
    let r = and_parts (in_run x (write_value g.is)) _ g.passes in
    let same : g.is ≡ w = some_is g.is w (sym g.at ∙ ap (λ (k : ℕ). slice_get ws k) (only g.place g.is g.at r.0) ∙ at) in
    told_well (in_run x (write_value w)) (holds_byte (c.original x) (slice_index w.was (x - w.addr)))
    (holds_byte (c.patched x) (slice_index w.now (x - w.addr))) t.0 t.1
    (sym (ap (λ (z : Write). mistells c x (write_value z)) same) ∙ g.passes)) in
    written_well (is_written c.report x) (list_any (mistells c x) (runs c.report)) (belongs c x) (times_written c.report x) right
    (omega (arith, once, times)) (own x q.0 q.1) f.1
