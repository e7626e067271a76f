-- The runs of a plan, as a report tells them.
use Rattle.std.proofs.Common.{◌≡◌, inl, inr, ℕ, zero, suc, ◌+◌, ◌-◌, ◌<◌, ◌≤◌, Bool, true, false, ◌&&◌, ◌||◌, leb, ltb, List, [], ◌∷◌, map, length, slice_index, Option, Some, None, refl, sym, ap, ap₂, ◌∙◌, arith}
use Rattle.std.specs.List.{AllByRecursion, list_any, count_by}
use Rattle.std.proofs.lemmas.Bool.{and_parts, leb-true, ltb-true, cases_Bool, eq-eqb, false≢true}
use Rattle.std.proofs.lemmas.Bool.Decides.{nat_tests}
use Rattle.std.proofs.lemmas.List.Sums.{count_by-le-length}
use Rattle.pun_base.specs.Ranges.{is_within}
use Rattle.pun_base.specs.Memory.{Cell, Bytes}
use Rattle.pun_base.specs.declared.plan.Write.{Write}
use Rattle.cpu_state.specs.Bytes.{allows, byte_of}
use Rattle.patch_report.specs.Values.{WriteValue, write_value}
use Rattle.patch_report.proofs.ListPlaces.{In, in_map, any_at}
use Rattle.start_list.specs.Plans.{Run, write_run, Ascend, bytes_from}
use Rattle.sound_images.specs.Reports.{in_run}
use Rattle.sound_images.specs.Rules.{holds_byte}
use Rattle.scheme_search.proofs.ConsecutiveBytes.{get_or-bytes_from}
use Rattle.site_turns.proofs.JoinedLists.{one_of_both}

-- an address is below a range's end exactly where its distance from the start is below the length
pub same_test : (lo n x : ℕ) → (leb lo x && ltb x (lo + n)) ≡ (leb lo x && ltb (x - lo) n)
same_test lo n x = grind (arith, nat_tests)

-- an address is in a run as a report tells it exactly where it is in one of the plan's
pub same_runs : (ws : List Write) (x : ℕ)
    → list_any (in_run x) (map write_value ws) ≡ list_any (λ (r : Run). is_within r.addr r.size x) (map write_run ws)
same_runs [] x = refl
same_runs (w ∷ ws) x = ap₂ (λ b c. b || c) (same_test w.addr (length w.was) x) (same_runs ws x)

-- an address is in no run that begins above it
none_above : (ws : List Write) (bound x : ℕ) → AllByRecursion (λ (s : Run). bound < s.addr) (map write_run ws) → x < bound
    → list_any (in_run x) (map write_value ws) ≡ true → ⊥
none_above [] bound x h l e = false≢true e
none_above (w ∷ ws) bound x h l e = elim (cases_Bool (in_run x (write_value w))) [
  | inl i ↦ (let q = leb-true w.addr x (and_parts (leb w.addr x) (ltb x (w.addr + length w.was)) i).0 in
      let b : bound < w.addr = h.0 in omega (arith, q, b))
  | inr i ↦ none_above ws bound x h.1 l (sym (ap (λ b. b || list_any (in_run x) (map write_value ws)) i) ∙ e)
]

-- a test of one element alone is that element's
pub any_one : (b : Bool) → (b || false) ≡ true → b ≡ true
any_one true e = refl
any_one false e = e

-- runs that ascend are at most one at an address
pub runs_apart : (ws : List Write) (x : ℕ) → Ascend (map write_run ws) → count_by (in_run x) (map write_value ws) ≤ 1
runs_apart [] x h = omega arith
runs_apart (w ∷ ws) x h = one_of_both (in_run x) (write_value w ∷ []) (map write_value ws)
    (count_by-le-length (in_run x) (write_value w ∷ [])) (runs_apart ws x h.2) (λ i e.
    let k = and_parts (leb w.addr x) (ltb x (w.addr + length w.was)) (any_one (in_run x (write_value w)) i) in
    none_above ws (w.addr + length w.was) x h.1 (ltb-true x (w.addr + length w.was) k.1) e)

-- a byte that can be executed is held, and is its own
pub holds_own : (c : Option Cell) → allows 1 c ≡ true → holds_byte c (byte_of c) ≡ true
holds_own None h = absurd (false≢true h)
holds_own (Some d) h = eq-eqb d.byte d.byte refl

-- a run tells an address that is in it
pub run_in : (ws : List Write) (w : Write) (x : ℕ) → In ws w → in_run x (write_value w) ≡ true
    → list_any (in_run x) (map write_value ws) ≡ true
run_in ws w x c h = let q = in_map write_value ws w c in any_at (in_run x) (map write_value ws) q.0 (write_value w) q.1 h

-- what a run tells at an address of it
pub tells_at : (m : Bytes) (bs : List ℕ) (a n x : ℕ) → bs ≡ bytes_from m a n → a ≤ x → x < a + n
    → slice_index bs (x - a) ≡ byte_of (m x)
tells_at m bs a n x e l h =
    let at : a + (x - a) ≡ x = omega arith in
    ap (λ z. slice_index z (x - a)) e ∙ get_or-bytes_from m a n (x - a) (omega arith) ∙ ap (λ z. byte_of (m z)) at

-- each run of a plan tells, as a report has it
pub all_told : (P : WriteValue → Type 0) (ws : List Write) → ((w : Write) → In ws w → P (write_value w))
    → AllByRecursion P (map write_value ws)
all_told P [] h = tt
all_told P (w ∷ ws) h = (h w (zero, refl), all_told P ws (λ v c. h v (suc c.0, c.1)))
