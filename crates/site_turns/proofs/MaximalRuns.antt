-- A set has one list of maximal runs, and so a candidate has one plan.
use Rattle.std.proofs.Common.{◌≡◌, inl, inr, ℕ, ◌+◌, ◌<◌, ◌≤◌, Bool, true, ◌||◌, List, [], ◌∷◌, map, refl, sym, ap, ◌∙◌, subst, arith}
use Rattle.std.specs.List.{AllByRecursion, list_any}
use Rattle.std.proofs.lemmas.Bool.{or_cases, or_left, cases_Bool, cases_lt, false_from_ne_true, false≢true}
use Rattle.pun_base.specs.Memory.{Bytes}
use Rattle.pun_base.specs.Ranges.{is_within}
use Rattle.pun_base.specs.declared.outcome.Plan.{Plan}
use Rattle.pun_base.specs.declared.plan.Write.{Write}
use Rattle.pun_base.specs.declared.pun.Pun.{Pun}
use Rattle.pun_base.proofs.EqualWrites.{same_write}
use Rattle.patch_report.proofs.ListPlaces.{found, all_in}
use Rattle.start_entries.specs.declared.entry.StartEntry.{StartEntry}
use Rattle.start_list.specs.TurnViews.{TurnView, memory_now}
use Rattle.start_list.specs.PlanJumps.{is_written, is_punned, after_writes}
use Rattle.start_list.specs.Forms.{Candidate, jumps_of}
use Rattle.start_list.specs.Plans.{Run, Ascend, AreRuns, IsPlanOf, TellsWrite, TellsPun, bytes_from, write_run, pun_run}
use Rattle.scheme_search.proofs.OneJumpBytes.{within_parts, within_true}

-- a run of a list has an address
abbrev covers : List Run → ℕ → Bool
covers rs x = list_any (λ (r : Run). is_within r.addr r.size x) rs

-- what runs above a bound have is above it
above : (bound : ℕ) (rs : List Run) (x : ℕ) → AllByRecursion (λ (s : Run). bound < s.addr) rs → covers rs x ≡ true → bound < x
above bound rs x h c =
    let f = found (λ (r : Run). is_within r.addr r.size x) rs c in
    let l = all_in (λ (s : Run). bound < s.addr) rs f.is h (f.place, f.at) in
    let w = within_parts f.is.addr f.is.size x f.passes in
    omega (arith, l, w.0)

-- what runs have begins with the first one
from_first : (r : Run) (rs : List Run) (x : ℕ) → Ascend (r ∷ rs) → covers (r ∷ rs) x ≡ true → r.addr ≤ x
from_first r rs x h c = elim (or_cases (is_within r.addr r.size x) (covers rs x) c) [
  | inl i ↦ (within_parts r.addr r.size x i).0
  | inr i ↦ (let l = above (r.addr + r.size) rs x h.1 i in omega (arith, l))
]

-- the address after the first one is none of theirs
not_behind : (r : Run) (rs : List Run) → Ascend (r ∷ rs) → covers (r ∷ rs) (r.addr + r.size) ≡ true → ⊥
not_behind r rs h c = elim (or_cases (is_within r.addr r.size (r.addr + r.size)) (covers rs (r.addr + r.size)) c) [
  | inl i ↦ (let w = within_parts r.addr r.size (r.addr + r.size) i in omega (arith, w.1))
  | inr i ↦ (let l = above (r.addr + r.size) rs (r.addr + r.size) h.1 i in omega (arith, l))
]

-- each address of the first of some runs is in one of them
in_first : (r : Run) (rs : List Run) (x : ℕ) → r.addr ≤ x → x < r.addr + r.size → covers (r ∷ rs) x ≡ true
in_first r rs x l u = or_left (is_within r.addr r.size x) (covers rs x) (within_true r.addr r.size x l u)

-- where the first of two lists of runs are the same, and so are all addresses, the addresses of the other runs are the same
others_same : (r : Run) (rs ss : List Run) (x : ℕ) → Ascend (r ∷ rs) → Ascend (r ∷ ss) → covers (r ∷ rs) x ≡ covers (r ∷ ss) x
    → covers rs x ≡ covers ss x
others_same r rs ss x h k e = elim (cases_Bool (is_within r.addr r.size x)) [
  | inl i ↦ (let w = within_parts r.addr r.size x i in
      false_from_ne_true (covers rs x) (λ c. let l = above (r.addr + r.size) rs x h.1 c in omega (arith, l, w.1))
      ∙ sym (false_from_ne_true (covers ss x) (λ c. let l = above (r.addr + r.size) ss x k.1 c in omega (arith, l, w.1))))
  | inr i ↦ sym (ap (λ b. b || covers rs x) i) ∙ e ∙ ap (λ b. b || covers ss x) i
]

-- the first runs of one set are the same
first_same : (r s : Run) (rs ss : List Run) → Ascend (r ∷ rs) → Ascend (s ∷ ss) → ((x : ℕ) → covers (r ∷ rs) x ≡ covers (s ∷ ss) x) → r ≡ s
first_same r s rs ss h k e =
    let some = h.0 in
    let other = k.0 in
    let a = from_first s ss r.addr k (sym (e r.addr) ∙ in_first r rs r.addr (omega arith) (omega (arith, some))) in
    let b = from_first r rs s.addr h (e s.addr ∙ in_first s ss s.addr (omega arith) (omega (arith, other))) in
    let addr : r.addr ≡ s.addr = omega (arith, a, b) in
    let size : r.size ≡ s.size = elim (cases_lt r.size s.size) [
      | inl l ↦ absurd (not_behind r rs h (e (r.addr + r.size) ∙ in_first s ss (r.addr + r.size) (omega (arith, addr))
          (omega (arith, addr, l))))
      | inr l ↦ elim (cases_lt s.size r.size) [
        | inl m ↦ absurd (not_behind s ss k (sym (e (s.addr + s.size)) ∙ in_first r rs (s.addr + s.size) (omega (arith, addr))
            (omega (arith, addr, m))))
        | inr m ↦ omega (arith, l, m)
      ]
    ] in
    λ i. record { addr = addr i; size = size i }

-- maximal runs of one set are the same
runs_same : (rs ss : List Run) → Ascend rs → Ascend ss → ((x : ℕ) → covers rs x ≡ covers ss x) → rs ≡ ss
runs_same [] [] h k e = refl
runs_same [] (s ∷ ss) h k e = let some = k.0 in absurd (false≢true (e s.addr ∙ in_first s ss s.addr (omega arith) (omega (arith, some))))
runs_same (r ∷ rs) [] h k e = let some = h.0 in absurd (false≢true
    (sym (e r.addr) ∙ in_first r rs r.addr (omega arith) (omega (arith, some))))
runs_same (r ∷ rs) (s ∷ ss) h k e =
    let first = first_same r s rs ss h k e in
    let other : Ascend (r ∷ ss) = subst (λ (z : Run). Ascend (z ∷ ss)) (sym first) k in
    let rest = runs_same rs ss h.2 k.2 (λ x. others_same r rs ss x h other (e x ∙ ap (λ (z : Run). covers (z ∷ ss) x) (sym first))) in
    λ i. first i ∷ rest i

-- a set has one list of runs
are_runs_same : (set : ℕ → Bool) (rs ss : List Run) → AreRuns set rs → AreRuns set ss → rs ≡ ss
are_runs_same set rs ss h k = runs_same rs ss h.ascend k.ascend (λ x. h.told x ∙ sym (k.told x))

-- writes with the same address and bytes are the same
write_same : (w u : Write) → w.addr ≡ u.addr → w.was ≡ u.was → w.now ≡ u.now → w ≡ u
write_same w u a b c =
    sym (same_write w u.was u.now b c u.equal u.some u.fits)
    ∙ (λ i. record { addr = a i; was = u.was; now = u.now; equal = u.equal; some = u.some; fits = u.fits })

-- equal lists have the same firsts
pub head_same : {X : Type 0} (x y : X) (xs ys : List X) → x ∷ xs ≡ y ∷ ys → x ≡ y
head_same x y xs ys e = cc

-- equal lists have the same rests
pub tail_same : {X : Type 0} (x y : X) (xs ys : List X) → x ∷ xs ≡ y ∷ ys → xs ≡ ys
tail_same x y xs ys e = cc

-- lists of writes with the same runs that tell the same memory are the same
writes_same : (before after : Bytes) (ws us : List Write) → map write_run ws ≡ map write_run us
    → AllByRecursion (TellsWrite before after) ws
    → AllByRecursion (TellsWrite before after) us → ws ≡ us
writes_same before after [] [] e h k = refl
writes_same before after [] (u ∷ us) e h k = absurd cc
writes_same before after (w ∷ ws) [] e h k = absurd cc
writes_same before after (w ∷ ws) (u ∷ us) e h k =
    let r = head_same (write_run w) (write_run u) (map write_run ws) (map write_run us) e in
    let was = h.0.0 ∙ ap (λ (z : Run). bytes_from before z.addr z.size) r ∙ sym k.0.0 in
    let now = h.0.1 ∙ ap (λ (z : Run). bytes_from after z.addr z.size) r ∙ sym k.0.1 in
    let first = write_same w u (ap (λ (z : Run). z.addr) r) was now in
    let rest = writes_same before after ws us (tail_same (write_run w) (write_run u) (map write_run ws) (map write_run us) e) h.1 k.1 in
    λ i. first i ∷ rest i

-- lists of puns with the same runs that tell the same memory are the same
puns_same : (before : Bytes) (ps us : List Pun) → map pun_run ps ≡ map pun_run us → AllByRecursion (TellsPun before) ps
    → AllByRecursion (TellsPun before) us → ps ≡ us
puns_same before [] [] e h k = refl
puns_same before [] (u ∷ us) e h k = absurd cc
puns_same before (p ∷ ps) [] e h k = absurd cc
puns_same before (p ∷ ps) (u ∷ us) e h k =
    let r = head_same (pun_run p) (pun_run u) (map pun_run ps) (map pun_run us) e in
    let addr = ap (λ (z : Run). z.addr) r in
    let bytes = h.0 ∙ ap (λ (z : Run). bytes_from before z.addr z.size) r ∙ sym k.0 in
    let rest = puns_same before ps us (tail_same (pun_run p) (pun_run u) (map pun_run ps) (map pun_run us) e) h.1 k.1 in
    λ i. record { addr = addr i; bytes = bytes i } ∷ rest i

-- a candidate has one plan
pub plan_same : (v : TurnView) (site : StartEntry) (c : Candidate) (p q : Plan) → IsPlanOf v site c p → IsPlanOf v site c q → p ≡ q
plan_same v site c p q h k =
    let js = jumps_of site c in
    let before = memory_now v in
    let scheme = h.scheme ∙ sym k.scheme in
    let tramps = h.tramps ∙ sym k.tramps in
    let writes = writes_same before (after_writes before js) p.writes q.writes
    (are_runs_same (is_written js) (map write_run p.writes) (map write_run q.writes) h.written k.written) h.writes k.writes in
    let puns = puns_same before p.puns q.puns (are_runs_same (is_punned js) (map pun_run p.puns) (map pun_run q.puns) h.punned k.punned)
    h.puns k.puns in
    λ i. record { scheme = scheme i; tramps = tramps i; writes = writes i; puns = puns i }
