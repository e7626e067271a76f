-- Runs with one more item, a step or a delivery; steps as items.
use Rattle.std.proofs.Common.{◌≡◌, ◌↔◌, inl, inr, ℕ, suc, ◌+◌, Bool, true, cond, List, [], ◌∷◌, ◌++◌, length, map, refl, ap, sym, ◌∙◌, arith}
use Rattle.std.specs.Prelude.{count_by, is_some}
use Rattle.std.proofs.lemmas.Bool.{and_parts, or_left, or_right, or_cases}
use Rattle.std.proofs.lemmas.List.Sums.{sum_by-append}
use Rattle.start_entries.specs.declared.entry.StartEntry.{StartEntry}
use Rattle.insn_form.specs.Machine.{Machine}
use Rattle.insn_form.specs.Runs.{IsRun, last_of}
use Rattle.insn_form.specs.Step.{Step}
use Rattle.image_runs.specs.Listed.{is_known_start, is_listed_byte, is_start}
use Rattle.image_runs.specs.Quiet.{IsQuiet, IsQuietStep}
use Rattle.image_runs.specs.Deliveries.{Delivery, delivered, Item, Stepped, Taken, after, end_of, AreItems, IsItem, Fits, IsRunWith, IsQuietWith, stepped_at}

pub end_more : (s : Machine) (is : List Item) (i : Item) → end_of s (is ++ i ∷ []) ≡ after (end_of s is) i
end_more s [] i = refl
end_more s (j ∷ is) i = end_more (after s j) is i

pub items_more : (Leads : Machine → Machine → Type 0) (ls : List StartEntry) (s : Machine) (is : List Item) (i : Item) → AreItems Leads ls s is
    → IsItem Leads ls (end_of s is) i → AreItems Leads ls s (is ++ i ∷ [])
items_more Leads ls s [] i a h = (h, tt)
items_more Leads ls s (j ∷ is) i a h = (a.0, items_more Leads ls (after s j) is i a.1 h)

pub items_less : (Leads : Machine → Machine → Type 0) (ls : List StartEntry) (s : Machine) (is : List Item) (i : Item)
    → AreItems Leads ls s (is ++ i ∷ []) → AreItems Leads ls s is × IsItem Leads ls (end_of s is) i
items_less Leads ls s [] i a = (tt, a.0)
items_less Leads ls s (j ∷ is) i a = let h = items_less Leads ls (after s j) is i a.1 in ((a.0, h.0), h.1)

-- A step adds the state at which it was made, and a delivery none.
pub stepped_step : (s : Machine) (is : List Item) (t : Machine) → stepped_at s (is ++ Stepped t ∷ []) ≡ stepped_at s is ++ end_of s is ∷ []
stepped_step s [] t = refl
stepped_step s (Stepped u ∷ is) t = ap (λ (z : List Machine). s ∷ z) (stepped_step u is t)
stepped_step s (Taken d ∷ is) t = stepped_step (delivered d s) is t

pub stepped_taken : (s : Machine) (is : List Item) (d : Delivery) → stepped_at s (is ++ Taken d ∷ []) ≡ stepped_at s is
stepped_taken s [] d = refl
stepped_taken s (Stepped u ∷ is) d = ap (λ (z : List Machine). s ∷ z) (stepped_taken u is d)
stepped_taken s (Taken e ∷ is) d = stepped_taken (delivered e s) is d

count_more : (p : Machine → Bool) (ts : List Machine) (t : Machine) → count_by p (ts ++ t ∷ []) ≡ count_by p ts + cond (p t) 1 0
count_more p ts t = sum_by-append (λ x. cond (p x) 1 0) ts (t ∷ []) ∙ ap (λ (n : ℕ). count_by p ts + n) (one (cond (p t) 1 0))
  where
    one : (n : ℕ) → 0 + n ≡ n
    one n = omega arith

-- How many of the states at which a step was made, and of the last one, a test counts.
abbrev pub counted : (Machine → Bool) → Machine → List Item → ℕ
counted p s is = count_by p (stepped_at s is ++ end_of s is ∷ [])

pub counted_step : (p : Machine → Bool) (s : Machine) (is : List Item) (t : Machine) → counted p s (is ++ Stepped t ∷ []) ≡ counted p s is + cond (p t) 1 0
counted_step p s is t =
    ap (λ (z : Machine). count_by p (stepped_at s (is ++ Stepped t ∷ []) ++ z ∷ [])) (end_more s is (Stepped t))
    ∙ (ap (λ (z : List Machine). count_by p (z ++ t ∷ [])) (stepped_step s is t) ∙ count_more p (stepped_at s is ++ end_of s is ∷ []) t)

pub counted_taken : (p : Machine → Bool) (s : Machine) (is : List Item) (d : Delivery) → p (end_of s is) ≡ true → p (delivered d (end_of s is)) ≡ true
    → counted p s (is ++ Taken d ∷ []) ≡ counted p s is
counted_taken p s is d here there =
    let u = delivered d (end_of s is) in
    ap (λ (z : Machine). count_by p (stepped_at s (is ++ Taken d ∷ []) ++ z ∷ [])) (end_more s is (Taken d))
    ∙ (ap (λ (z : List Machine). count_by p (z ++ u ∷ [])) (stepped_taken s is d)
    ∙ (count_more p (stepped_at s is) u ∙ (ap (λ (b : Bool). count_by p (stepped_at s is) + cond b 1 0) (there ∙ sym here)
    ∙ sym (count_more p (stepped_at s is) (end_of s is)))))

-- A listed start of known length is a listed start.
pub known_start : (ls : List StartEntry) (a : ℕ) → is_known_start ls a ≡ true → is_start ls a ≡ true
known_start [] a h = h
known_start (l ∷ ls) a h = elim (or_cases _ (is_known_start ls a) h) [
  | inl k ↦ or_left _ (is_start ls a) (and_parts _ (is_some l.form) k).0
  | inr k ↦ or_right _ (is_start ls a) (known_start ls a k)
]

-- What one more step has to be where the run stays quiet.
abbrev pub QuietMore : List StartEntry → Machine → Machine → Type 0
QuietMore ls m t = (is_known_start ls m.rip ≡ true) × Step (is_listed_byte ls) m t × (is_start ls t.rip ≡ true)

pub quiet_step : (ls : List StartEntry) (s : Machine) (is : List Item) (t : Machine) → IsQuietWith Step ls s is → QuietMore ls (end_of s is) t
    → IsQuietWith Step ls s (is ++ Stepped t ∷ [])
quiet_step ls s is t q m =
    (items_more (IsQuietStep Step ls) ls s is (Stepped t) q.0 (m.0, m.1), ap (λ (z : Machine). is_start ls z.rip) (end_more s is (Stepped t)) ∙ m.2)

pub unquiet_step : (ls : List StartEntry) (s : Machine) (is : List Item) (t : Machine) → IsQuietWith Step ls s (is ++ Stepped t ∷ [])
    → IsQuietWith Step ls s is × QuietMore ls (end_of s is) t
unquiet_step ls s is t q =
    let h = items_less (IsQuietStep Step ls) ls s is (Stepped t) q.0 in
    let k : IsQuietStep Step ls (end_of s is) t = h.1 in (
      (h.0, known_start ls (end_of s is).rip k.0),
      (k.0, k.1, ap (λ (z : Machine). is_start ls z.rip) (sym (end_more s is (Stepped t))) ∙ q.1),
    )

-- A delivery that fits keeps a run quiet, and makes none so.
pub quiet_taken : (ls : List StartEntry) (s : Machine) (is : List Item) (d : Delivery) → Fits ls (end_of s is) d
    → IsQuietWith Step ls s is ↔ IsQuietWith Step ls s (is ++ Taken d ∷ [])
quiet_taken ls s is d f = (
  λ q. (items_more (IsQuietStep Step ls) ls s is (Taken d) q.0 f, ap (λ (z : Machine). is_start ls z.rip) (end_more s is (Taken d)) ∙ f.there),
  λ q. ((items_less (IsQuietStep Step ls) ls s is (Taken d) q.0).0, f.here),
)

-- ---- runs without deliveries

pub plain_run : (ls : List StartEntry) (s : Machine) (ts : List Machine) → IsRunWith Step ls s (map Stepped ts) ↔ IsRun Step s ts
plain_run ls s [] = (λ _. tt, λ _. tt)
plain_run ls s (t ∷ ts) = let r = plain_run ls t ts in (λ h. (h.0, r.0 h.1), λ h. (h.0, r.1 h.1))

pub plain_end : (s : Machine) (ts : List Machine) → end_of s (map Stepped ts) ≡ last_of s ts
plain_end s [] = refl
plain_end s (t ∷ ts) = plain_end t ts

pub plain_states : (s : Machine) (ts : List Machine) → stepped_at s (map Stepped ts) ++ end_of s (map Stepped ts) ∷ [] ≡ s ∷ ts
plain_states s [] = refl
plain_states s (t ∷ ts) = ap (λ (z : List Machine). s ∷ z) (plain_states t ts)

pub plain_length : (s : Machine) (ts : List Machine) → length (stepped_at s (map Stepped ts)) ≡ length ts
plain_length s [] = refl
plain_length s (t ∷ ts) = ap suc (plain_length t ts)

pub plain_quiet : (ls : List StartEntry) (s : Machine) (ts : List Machine) → IsQuietWith Step ls s (map Stepped ts) ↔ IsQuiet Step ls s ts
plain_quiet ls s [] = (λ q. q.1, λ q. (tt, q))
plain_quiet ls s (t ∷ ts) =
    let r = plain_quiet ls t ts in (λ q. (q.0.0, r.0 (q.0.1, q.1)), λ q. let w = r.1 q.1 in ((q.0, w.0), w.1))
