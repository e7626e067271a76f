-- Data that lie in a private range: they are apart and free, and events that are lists are recorded.
use Rattle.std.proofs.Common.{◌≡◌, ◌⊎◌, inl, inr, ℕ, zero, suc, ◌+◌, ◌-◌, ◌^◌, ◌<◌, ◌≤◌, Bool, true, false, ◌||◌, cond, eqb, List, [], ◌∷◌, map, Some, None, refl, sym, ap, ◌∙◌, subst, arith, true≢false}
use Rattle.std.proofs.lemmas.Bool.{or_from, false_from_ne_true, false≢true, eqb-true, cond-true}
use Rattle.pun_base.specs.Memory.{Bytes, without}
use Rattle.cpu_state.specs.declared.state.Core.{Core}
use Rattle.cpu_state.specs.Bytes.{advanced}
use Rattle.cpu_state.specs.Processor.{IsProcessorCore}
use Rattle.insn_form.specs.Machine.{Machine}
use Rattle.insn_form.specs.Runs.{last_of}
use Rattle.relocate_insn.specs.Running.{IsPrivate}
use Rattle.relocate_insn.proofs.FixedCode.{fixed_front}
use Rattle.relocate_insn.proofs.PrivateRange.{private_free}
use Rattle.trampoline.specs.Events.{bytes_at}
use Rattle.event_steps.specs.DoneSteps.{is_one_of, address, IsLow, AreLow, is_in, AreApart, AreFree}
use Rattle.event_steps.specs.declared.step.Place.{Place}
use Rattle.event_steps.specs.declared.step.Datum.{Datum}
use Rattle.event_steps.specs.EventSteps.{code}
use Rattle.event_steps.specs.EventSteps.Mode.{Alone}
use Rattle.event_steps.specs.declared.step.Place.TheVariants.{At, Below}
use Rattle.trampoline.specs.Recording.{AgreeBut, IsLaid, behind, AreLaid, coming, ListedEventsAreRecorded}
use Rattle.event_steps.proofs.EventRuns.{events_leave}
use Rattle.event_steps.proofs.InterleavedSteps.{held_now}

-- a byte of a range that doesn't wrap lies in it
pub in_range : (a n x : ℕ) → a + n < 2 ^ 64 → is_one_of a n x ≡ true → (a ≤ x) × (x < a + n)
in_range a zero x l h = absurd (false≢true h)
in_range a (suc n) x l h = by_test (eqb x a) refl h (λ k. in_range (a + 1) n x (omega arith) (subst (λ z. is_one_of z n x ≡ true) (let n1 : advanced a 1 ≡ a + 1 = omega arith in n1) k))
  where
    by_test : (b : Bool) → eqb x a ≡ b → (b || is_one_of (advanced a 1) n x) ≡ true → (is_one_of (advanced a 1) n x ≡ true → (a + 1 ≤ x) × (x < a + 1 + n)) → (a ≤ x) × (x < a + suc n)
    by_test true e k go = let q = eqb-true x a e in (omega (arith, q), omega (arith, q))
    by_test false e k go = let q = go k in (omega (arith, q.0), omega (arith, q.1))

-- what lies behind an address has no byte before it
pub none_before : (lo hi : ℕ) (ds : List Datum) (c : Core) (x : ℕ) → hi < 2 ^ 64 → AreLaid lo hi ds → x < lo → is_in ds c x ≡ false
none_before lo hi [] c x l h k = refl
none_before lo hi (d ∷ ds) c x l h k = one d.place refl h.0 (λ lo' r j. none_before lo' hi ds c x l r j)
  where
    one : (p : Place) → d.place ≡ p → IsLaid lo hi p d.size → ((lo' : ℕ) → AreLaid lo' hi ds → x < lo' → is_in ds c x ≡ false) → is_in (d ∷ ds) c x ≡ false
    one (At a) e i go =
        let here : is_one_of (address d.place c) d.size x ≡ false = false_from_ne_true _ (λ z.
        let q = in_range a d.size x (omega (arith, l, i.1)) (subst (λ (p : Place). is_one_of (address p c) d.size x ≡ true) e z) in omega (arith, q.0, i.0, k)) in
        let rest = subst (λ (p : Place). AreLaid (behind p d.size) hi ds) e h.1 in
        or_from (is_one_of (address d.place c) d.size x) (is_in ds c x) here (go (a + d.size) rest (omega (arith, i.0, k)))
    one (Below b) e i go = absurd i

-- nor behind the range
pub none_behind : (lo hi : ℕ) (ds : List Datum) (c : Core) (x : ℕ) → hi < 2 ^ 64 → AreLaid lo hi ds → hi ≤ x → is_in ds c x ≡ false
none_behind lo hi [] c x l h k = refl
none_behind lo hi (d ∷ ds) c x l h k = one d.place refl h.0 (λ lo' r. none_behind lo' hi ds c x l r k)
  where
    one : (p : Place) → d.place ≡ p → IsLaid lo hi p d.size → ((lo' : ℕ) → AreLaid lo' hi ds → is_in ds c x ≡ false) → is_in (d ∷ ds) c x ≡ false
    one (At a) e i go =
        let here : is_one_of (address d.place c) d.size x ≡ false = false_from_ne_true _ (λ z.
        let q = in_range a d.size x (omega (arith, l, i.1)) (subst (λ (p : Place). is_one_of (address p c) d.size x ≡ true) e z) in omega (arith, q.1, i.1, k)) in
        let rest = subst (λ (p : Place). AreLaid (behind p d.size) hi ds) e h.1 in
        or_from (is_one_of (address d.place c) d.size x) (is_in ds c x) here (go (a + d.size) rest)
    one (Below b) e i go = absurd i

-- data that are laid so are apart,
pub laid_apart : (lo hi : ℕ) (ds : List Datum) (c : Core) → hi < 2 ^ 64 → AreLaid lo hi ds → AreApart ds c
laid_apart lo hi [] c l h = tt
laid_apart lo hi (d ∷ ds) c l h = (λ x e. one d.place refl h.0 x e, laid_apart (behind d.place d.size) hi ds c l h.1)
  where
    one : (p : Place) → d.place ≡ p → IsLaid lo hi p d.size → (x : ℕ) → is_one_of (address d.place c) d.size x ≡ true → is_in ds c x ≡ false
    one (At a) e i x k =
        let q = in_range a d.size x (omega (arith, l, i.1)) (subst (λ (p : Place). is_one_of (address p c) d.size x ≡ true) e k) in
        none_before (a + d.size) hi ds c x l (subst (λ (p : Place). AreLaid (behind p d.size) hi ds) e h.1) q.1
    one (Below b) e i x k = absurd i

-- lie low,
pub laid_low : (lo hi : ℕ) (ds : List Datum) → hi ≤ 0x7FFF0000 → AreLaid lo hi ds → AreLow ds
laid_low lo hi [] l h = tt
laid_low lo hi (d ∷ ds) l h = (one d.place h.0, laid_low (behind d.place d.size) hi ds l h.1)
  where
    one : (p : Place) → IsLaid lo hi p d.size → IsLow p d.size
    one (At a) i = omega (arith, i.1, l)
    one (Below b) i = absurd i

-- and are free in a private range
pub laid_free : (set' : ℕ → Bool) (private n lo : ℕ) (ds : List Datum) (c : Core) (m : Bytes) → IsPrivate set' private n m → private ≤ lo → AreLaid lo (private + n) ds → AreFree ds c m
laid_free set' private n lo [] c m r l h = tt
laid_free set' private n lo (d ∷ ds) c m r l h = one d.place refl h.0 (λ lo' g j. laid_free set' private n lo' ds c m r g j)
  where
    one : (p : Place) → d.place ≡ p → IsLaid lo (private + n) p d.size → ((lo' : ℕ) → private ≤ lo' → AreLaid lo' (private + n) ds → AreFree ds c m) → AreFree (d ∷ ds) c m
    one (At a) e i go =
        let q = private_free set' private n m a d.size r (omega (arith, l, i.0)) i.1 in
        subst (λ (p : Place). AreFree (record { place = p; size = d.size; number = d.number } ∷ ds) c m) (sym e)
        ((λ t. q.1), q.0, go (a + d.size) (omega (arith, l, i.0)) (subst (λ (p : Place). AreLaid (behind p d.size) (private + n) ds) e h.1))
    one (Below b) e i go = absurd i

-- memory without a set, where each byte outside the set stays
pub same_without : (set' : ℕ → Bool) (m w : Bytes) → ((x : ℕ) → set' x ≡ false → w x ≡ m x) → without set' w ≡ without set' m
same_without set' m w h = λ i x. each x (set' x) refl i
  where
    each : (x : ℕ) (b : Bool) → set' x ≡ b → cond (set' x) None (w x) ≡ cond (set' x) None (m x)
    each x true e = cond-true (set' x) None (w x) e ∙ sym (cond-true (set' x) None (m x) e)
    each x false e = ap (cond (set' x) None) (h x e)

-- a byte beside the range is none of theirs
beside : (private n : ℕ) (ds : List Datum) (c : Core) → private + n ≤ 0x7FFF0000 → AreLaid private (private + n) ds → (x : ℕ) → (x < private) ⊎ (private + n ≤ x) → is_in ds c x ≡ false
beside private n ds c l h x (inl o) = none_before private (private + n) ds c x (omega (arith, l)) h o
beside private n ds c l h x (inr o) = none_behind private (private + n) ds c x (omega (arith, l)) h o

-- nor is one that isn't in it
outside : (private n : ℕ) (ds : List Datum) (c : Core) → private + n ≤ 0x7FFF0000 → AreLaid private (private + n) ds → (x : ℕ) → (private ≤ x → x < private + n → ⊥) → is_in ds c x ≡ false
outside private n ds c l h x k = false_from_ne_true _ (λ z. k (first x z) (second x z))
  where
    first : (x : ℕ) → is_in ds c x ≡ true → private ≤ x
    first x z = by_not (λ (o : x < private). true≢false (sym z ∙ beside private n ds c l h x (inl o)))
      where
        by_not : (x < private → ⊥) → private ≤ x
        by_not f = omega (arith, f)

    second : (x : ℕ) → is_in ds c x ≡ true → x < private + n
    second x z = by_not (λ (o : private + n ≤ x). true≢false (sym z ∙ beside private n ds c l h x (inr o)))
      where
        by_not : (private + n ≤ x → ⊥) → x < private + n
        by_not f = omega (arith, f)

-- an event that says enough is recorded
pub listed_recorded : ListedEventsAreRecorded
listed_recorded set' e private n place can marks rest bytes s t says low ready held good =
    let r = ready.range in
    let lw = r.low in
    let c = t.core in
    let m = t.mem in
    let ds = e.uses in
    let same : c ≡ s.core = ap (λ (z : Machine). z.core) ready.seen in
    let core : IsProcessorCore c = subst IsProcessorCore (sym same) ready.processor in
    let l = coming ds c m in
    let here : t.rip ≡ place + 0 = ready.there ∙ omega arith in
    let q = events_leave Alone ds c 0 e.steps place l t says.steps low here (fixed_front m place (code ds e.steps) rest ready.stands) (laid_low private (private + n) ds lw says.laid)
    (laid_apart private (private + n) ds c (omega (arith, lw)) says.laid) (laid_free set' private n private ds c m r (omega arith) says.laid) (says.fits c m bytes core lw held good)
    (record { core = refl; stack = refl; hold = held_now ds c m }) in
    let end = q.1 in
    let back : AgreeBut e.kills s.core (last_of t q.0).core =
    subst (λ (z : Core). AgreeBut e.kills z (last_of t q.0).core) same (subst (λ (z : Core). AgreeBut e.kills c z) (sym end.beside.core) (says.restores c m core)) in
    let hidden = same_without set' m (last_of t q.0).mem
    (λ x o. end.kept x (outside private n ds c lw says.laid x (λ a b. true≢false (sym (r.inside x a b) ∙ o)))) in (
      q.0,
      record {
        run = end.run;
        few = omega (arith, end.few, says.few);
        there = end.there;
        inside = end.inside;
        core = back;
        world = end.world ∙ ap (λ (z : Machine). z.world) ready.seen;
        hidden = hidden ∙ ap (λ (z : Machine). z.mem) ready.seen;
        marked = ap (λ (z : Bytes). bytes_at z (private + 64) (n - 64)) end.mem ∙ says.marked c m bytes core lw held good ∙ ap (λ (z : Core). map Some (marks z.regs bytes)) same;
        kept = λ x k o. end.kept x (beside private n ds c lw says.laid x o);
      },
    )
